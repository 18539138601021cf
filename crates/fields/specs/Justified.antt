use Rattle.std.specs.Prelude.{◌≡◌, ℕ, ◌-◌, ◌^◌, ◌<◌, List, ◌++◌, length, replicate, Ok, Err, decimal, Result, ◌≢◌}
use Rattle.fields.specs.declared.FieldFault.{FieldFault}

-- The decimal digits of v at the right of w columns, after spaces.
abbrev pub justified : ℕ → ℕ → List ℕ
justified w v = replicate (w - length (decimal v)) 32 ++ decimal v

-- A field that reads as v is v written at its right, after spaces;
-- one that is refused is no number of 32 bits so written.
abbrev pub Exact : List ℕ → Result ℕ FieldFault → Type 0
Exact f (Ok v) = (v < 2 ^ 32) × (f ≡ justified (length f) v)
Exact f (Err e) = (v : ℕ) → v < 2 ^ 32 → f ≢ justified (length f) v
