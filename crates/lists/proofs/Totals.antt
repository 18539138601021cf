-- Laws of total: sums over the numbers below n.
use Rattle.std.proofs.Common.{◌≡◌, ℕ, zero, suc, ◌+◌, ◌*◌, ◌%◌, ◌<◌, ◌≤◌, Bool, true, false, cond, eqb, List, [], ◌∷◌, length, sym, refl, ap, ◌∙◌, inl, inr, add-mul, arith}
use Rattle.std.proofs.lemmas.Bool.{cases_lt, eq-eqb, ne_eqb}
use Rattle.lists.specs.Weights.{weigh, one, occ, Once, total}
use Rattle.lists.proofs.Weights.{eqb_cases, weigh_ones}

pub total_add : (f g h : ℕ → ℕ) → ((q : ℕ) → f q ≡ g q + h q) → (n : ℕ) → total n f ≡ total n g + total n h
total_add f g h e zero = omega arith
total_add f g h e (suc n) = omega (arith, total_add f g h e n, e n)

pub total_same : (f g : ℕ → ℕ) (n : ℕ) → ((q : ℕ) → q < n → f q ≡ g q) → total n f ≡ total n g
total_same f g zero e = refl
total_same f g (suc n) e = omega (arith, total_same f g n (λ q h. e q (omega arith)), e n (omega arith))

pub total_le : (f g : ℕ → ℕ) → ((q : ℕ) → f q ≤ g q) → (n : ℕ) → total n f ≤ total n g
total_le f g h zero = omega arith
total_le f g h (suc n) = omega (arith, total_le f g h n, h n)

-- A sum that is 0 at each number is 0.
pub total_zero : (f : ℕ → ℕ) (n : ℕ) → ((q : ℕ) → q < n → f q ≡ 0) → total n f ≡ 0
total_zero f zero e = refl
total_zero f (suc n) e = omega (arith, total_zero f n (λ q h. e q (omega arith)), e n (omega arith))

-- A sum with one number that counts.
pub total_at : (f : ℕ → ℕ) (p n : ℕ) → p < n → total n (λ q. cond (eqb q p) (f q) 0) ≡ f p
total_at f p zero h = absurd (omega arith)
total_at f p (suc n) h = elim (eqb_cases n p) [
  | inl e ↦ rw e.1 (omega (arith, ap f e.0, total_zero (λ q. cond (eqb q p) (f q) 0) n (λ q lt. let ne : q ≡ p → ⊥ = λ z. omega (arith, e.0) in rw (ne_eqb q p ne))))
  | inr m ↦ rw m.1 (omega (arith, total_at f p n (omega (arith, m.0))))
]

-- A sum from which one number is taken out.
pub total_but : (f g : ℕ → ℕ) (p n : ℕ) → p < n → ((q : ℕ) → g q ≡ cond (eqb q p) 0 (f q)) → total n g + f p ≡ total n f
total_but f g p n h e =
    omega (arith, total_add f g (λ q. cond (eqb q p) (f q) 0) parts n, total_at f p n h) where
      parts : (q : ℕ) → f q ≡ g q + cond (eqb q p) (f q) 0
      parts q = elim (eqb_cases q p) [
        | inl y ↦ let w = e q in rw y.1 (omega (arith, rw y.1 at w))
        | inr m ↦ let w = e q in rw m.1 (omega (arith, rw m.1 at w))
      ]

-- What the numbers of a list weigh is a sum over all numbers, each as often as it stands in the list.
pub total-weigh : (f : ℕ → ℕ) (n : ℕ) (es : List ℕ) → ((q : ℕ) → n ≤ q → occ q es ≡ 0) → total n (λ q. occ q es * f q) ≡ weigh f es
total-weigh f n [] h = total_zero (λ q. 0 * f q) n (λ q lt. omega arith)
total-weigh f n (e ∷ es) h =
    omega (arith, total_add (λ q. occ q (e ∷ es) * f q) (λ q. cond (eqb q e) (f q) 0) (λ q. occ q es * f q) parts n, total_at f e n low, total-weigh f n es (λ q le. omega (arith, h q le))) where
      low : e < n
      low = elim (cases_lt e n) [ inl y ↦ y | inr le ↦ absurd (omega (arith, rw (eq-eqb e e refl) at (h e le))) ]

      parts : (q : ℕ) → occ q (e ∷ es) * f q ≡ cond (eqb q e) (f q) 0 + occ q es * f q
      parts q = elim (eqb_cases e q) [
        | inl y ↦ rw (y.1, eq-eqb q e (sym y.0)) (omega (arith, add-mul 1 (occ q es) (f q)))
        | inr m ↦ rw (m.1, ne_eqb q e (λ z. m.0 (sym z))) (let z : 0 + occ q es ≡ occ q es = omega arith in rw z (omega arith))
      ]

-- The same where f is a test.
pub total-occ : (d : ℕ → Bool) (n : ℕ) (es : List ℕ) → ((q : ℕ) → n ≤ q → occ q es ≡ 0) → total n (λ q. cond (d q) (occ q es) 0) ≡ weigh (λ q. one (d q)) es
total-occ d n es h = total_same (λ q. cond (d q) (occ q es) 0) (λ q. occ q es * one (d q)) n (λ q _. flat (d q) (occ q es)) ∙ total-weigh (λ q. one (d q)) n es h where
  flat : (b : Bool) (m : ℕ) → cond b m 0 ≡ m * one b
  flat true m = omega arith
  flat false m = omega arith

-- A sum of remainders has the remainder of the sum.
pub total_wrap : (f g : ℕ → ℕ) (n : ℕ) → ((q : ℕ) → q < n → g q ≡ f q % 4294967296) → total n g % 4294967296 ≡ total n f % 4294967296
total_wrap f g zero e = refl
total_wrap f g (suc n) e = omega (arith, total_wrap f g n (λ q h. e q (omega arith)), e n (omega arith))

-- A sum that ends where nothing counts any more.
pub total_beyond : (f : ℕ → ℕ) (m n : ℕ) → m ≤ n → ((q : ℕ) → m ≤ q → q < n → f q ≡ 0) → total n f ≡ total m f
total_beyond f m zero h e = let z : 0 ≡ m = omega arith in ap (λ i. total i f) z
total_beyond f m (suc n) h e = elim (cases_lt m (suc n)) [
  | inl y ↦ omega (arith, total_beyond f m n (omega arith) (λ q a b. e q a (omega arith)), e n (omega arith) (omega arith))
  | inr le ↦ let z : suc n ≡ m = omega arith in ap (λ i. total i f) z
]

ones : (n : ℕ) → total n (λ q. 1) ≡ n
ones zero = refl
ones (suc n) = omega (arith, ones n)

-- Different numbers below n are at most n.
pub pigeons : (n : ℕ) (bs : List ℕ) → Once bs → ((q : ℕ) → n ≤ q → occ q bs ≡ 0) → length bs ≤ n
pigeons n bs o below = omega (arith, total-occ (λ q. true) n bs below, total_le (λ q. occ q bs) (λ q. 1) o n, ones n, weigh_ones bs)

-- Where each number below n stands once, and no other, there are n.
pub crowded : (n : ℕ) (bs : List ℕ) → ((q : ℕ) → q < n → occ q bs ≡ 1) → ((q : ℕ) → n ≤ q → occ q bs ≡ 0) → length bs ≡ n
crowded n bs each below = omega (arith, total-occ (λ q. true) n bs below, total_same (λ q. occ q bs) (λ q. 1) n each, ones n, weigh_ones bs)
