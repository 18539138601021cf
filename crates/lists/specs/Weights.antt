use Rattle.std.specs.Prelude.{ℕ, zero, suc, ◌+◌, ◌≤◌, Bool, cond, List, [], ◌∷◌, ◌==◌, nat_lt}

-- The sum of what f gives at each number of a list.
abbrev pub weigh : (ℕ → ℕ) → List ℕ → ℕ
weigh f [] = 0
weigh f (x ∷ xs) = f x + weigh f xs

-- A test as a number: 1 where it holds.
abbrev pub one : Bool → ℕ
one b = cond b 1 0

-- How often p stands in a list.
abbrev pub occ : ℕ → List ℕ → ℕ
occ p xs = weigh (λ x. one (x == p)) xs

-- Whether p stands in a list.
abbrev pub has : ℕ → List ℕ → Bool
has p xs = nat_lt 0 (occ p xs)

-- No number stands twice in a list.
abbrev pub Once : List ℕ → Type 0
Once xs = (q : ℕ) → occ q xs ≤ 1

-- The sum of f over the numbers below n.
abbrev pub total : ℕ → (ℕ → ℕ) → ℕ
total zero f = 0
total (suc n) f = total n f + f n
