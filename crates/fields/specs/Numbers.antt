use Rattle.std.specs.Prelude.{ℕ, ◌+◌, ◌-◌, ◌*◌, ◌^◌, cond, ◌&&◌, List, [], ◌∷◌, length, take, drop, Ok, Err, Result, ◌==◌, nat_lt, slice_index}
use Rattle.std.specs.Int.{is_in_range}
use Rattle.std.specs.List.{suffix_len}
use Rattle.fields.specs.declared.FieldFault.{FieldFault}
use Rattle.fields.specs.declared.NumberProblem.TheVariants.{NoDigit, Stray, LeadingZero, TooLarge}
use Rattle.fields.specs.Places.{fault_at}

-- How many digits end the field.
abbrev pub digits_at_end : List ℕ → ℕ
digits_at_end f = suffix_len (is_in_range 48 57) f

-- The place at which those digits begin.
abbrev pub digits_from : List ℕ → ℕ
digits_from f = length f - digits_at_end f

-- The digits themselves.
abbrev pub digits_of : List ℕ → List ℕ
digits_of f = drop (digits_from f) f

-- One past the last byte left of the digits that is no space; 0 where all of them are spaces.
abbrev pub stray_end : List ℕ → ℕ
stray_end f = digits_from f - suffix_len (is_in_range 32 32) (take (digits_from f) f)

-- The number that digits write after the number n.
abbrev pub read_on : ℕ → List ℕ → ℕ
read_on n [] = n
read_on n (c ∷ cs) = read_on (n * 10 + (c - 48)) cs

-- The number in a field that begins at a line's column, or what is wrong with it and where:
-- its last byte is no digit; a byte left of the digits is no space, the rightmost such;
-- a leading zero; a number that needs more than 32 bits.
abbrev pub scanned : ℕ → ℕ → List ℕ → Result ℕ FieldFault
scanned line column f =
    cond (digits_at_end f == 0) (Err (fault_at NoDigit line column (length f - 1)))
    (cond (nat_lt 0 (stray_end f)) (Err (fault_at Stray line column (stray_end f - 1)))
    (cond (nat_lt 1 (digits_at_end f) && slice_index f (digits_from f) == 48) (Err (fault_at LeadingZero line column (digits_from f)))
    (cond (nat_lt (read_on 0 (digits_of f)) (2 ^ 32)) (Ok (read_on 0 (digits_of f)))
    (Err (fault_at TooLarge line column (length f - 1))))))

-- The same, under a name that stays shut in the crates that only need that it is a function of the field.
unfoldable pub read_number : ℕ → ℕ → List ℕ → Result ℕ FieldFault
read_number line column f = scanned line column f
