-- The number that digits write, one digit at a time.
use Rattle.std.proofs.Common.{◌≡◌, ℕ, ◌+◌, ◌-◌, ◌*◌, ◌<◌, ◌≤◌, List, [], ◌∷◌, length, get_or, drop, arith}
use Rattle.std.proofs.lemmas.List.{at_drop_more}
use Rattle.fields.specs.Numbers.{read_on}

pub read_on_more : (n : ℕ) (xs : List ℕ) (i : ℕ) → i < length xs → read_on n (drop i xs) ≡ read_on (n * 10 + (get_or xs i 0 - 48)) (drop (i + 1) xs)
read_on_more n xs i h = at_drop_more (read_on n) xs i 0 h

-- More digits never make a number smaller.
pub read_on_ge : (n : ℕ) (xs : List ℕ) → n ≤ read_on n xs
read_on_ge n [] = omega arith
read_on_ge n (x ∷ xs) = omega (arith, read_on_ge (n * 10 + (x - 48)) xs)
