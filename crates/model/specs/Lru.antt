use Rattle.std.specs.Prelude.{ℕ, suc, ◌+◌, cond, not, List, [], ◌∷◌, length, ◌==◌, nat_lt}
use Rattle.lists.specs.Weights.{one, has}
use Rattle.lists.specs.Places.{without}
use Rattle.model.specs.declared.Call.{Call}
use Rattle.model.specs.declared.Call.TheVariants.{Use, Settle}

-- Plain LRU has frames in no order. Of the pages it holds, it gives up the one whose last use is longest past.

-- The pages that a list of calls uses, in order.
abbrev pub uses_of : List Call → List ℕ
uses_of [] = []
uses_of (Use kind p ∷ calls) = p ∷ uses_of calls
uses_of (Settle ∷ calls) = uses_of calls

-- How many uses were made since the last use of q. The past has the newest use first.
abbrev pub since : ℕ → List ℕ → ℕ
since q [] = 0
since q (p ∷ past) = cond (p == q) 0 (suc (since q past))

-- Of a page and those of a list, the one whose last use is longest past.
abbrev pub staler_of : List ℕ → ℕ → List ℕ → ℕ
staler_of past a [] = a
staler_of past a (b ∷ bs) = staler_of past (cond (nat_lt (since a past) (since b past)) b a) bs

-- Of the pages of a list, the one whose last use is longest past.
abbrev pub stalest : List ℕ → List ℕ → ℕ
stalest past [] = 0
stalest past (b ∷ bs) = staler_of past b bs

-- What m frames hold after a use of p: where they are full, the stalest page is given up for p.
abbrev pub lru_used : ℕ → List ℕ → ℕ → List ℕ → List ℕ
lru_used m past p held = cond (has p held) held (p ∷ cond (nat_lt (length held) m) held (without (stalest past held) held))

-- The faults of m frames over a list of uses, from what they hold after the uses of the past.
abbrev pub lru_faults_from : ℕ → List ℕ → List ℕ → List ℕ → ℕ
lru_faults_from m past held [] = 0
lru_faults_from m past held (p ∷ uses) = one (not (has p held)) + lru_faults_from m (p ∷ past) (lru_used m past p held) uses

-- The faults of plain LRU with m frames, which starts empty, over the uses among the calls.
abbrev pub lru_faults : ℕ → List Call → ℕ
lru_faults m calls = lru_faults_from m [] [] (uses_of calls)
