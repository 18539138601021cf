-- A copy page by page.
use Rattle.std.proofs.Common.{◌≡◌, ℕ, zero, suc, ◌+◌, ◌<◌, eqb, List, [], ◌∷◌, ◌++◌, length, get_or, take, drop, set, Ok, Err, sym, refl, ap, ◌∙◌, append_assoc, add-one, arith}
use Rattle.std.proofs.lemmas.List.{length-take-le, set_at, take_more, take_all, drop_all, drop_more, append-nil}
use Rattle.std.proofs.lemmas.Bool.{cond-true, eq-eqb}
use Rattle.store.specs.declared.StoreRefusal.TheVariants.{NoSuchPage}
use Rattle.store.specs.Copies.{Copied, risen}
use Rattle.store.specs.Meaning.{Meaning, fetched, saved}
use Rattle.store.specs.Counting.{counted}

-- A tally counted n times more.
abbrev pub climbed : ℕ → ℕ → ℕ
climbed t zero = t
climbed t (suc n) = counted (climbed t n)

climbed_more : (t n : ℕ) → climbed t (n + 1) ≡ counted (climbed t n)
climbed_more t n = rw (add-one n)

climbed_suc : (t n : ℕ) → climbed t (suc n) ≡ risen t (suc n)
climbed_suc t zero = refl
climbed_suc t (suc n) = let e = climbed_suc t n in omega arith

pub climbed_is : (t n : ℕ) → 0 < n → climbed t n ≡ risen t n
climbed_is t zero h = absurd (omega arith)
climbed_is t (suc n) h = climbed_suc t n

-- The store that is copied from, after n pages.
abbrev pub read_to : Meaning → ℕ → Meaning
read_to a n = record a { tallies = record a.tallies { fetches = climbed a.tallies.fetches n } }

-- The store that is copied into, after n pages: the first n are those of xs.
abbrev pub written_to : Meaning → List (List ℕ) → ℕ → Meaning
written_to b xs n = record { bytes = take n xs ++ drop n b.bytes; tallies = record b.tallies { saves = climbed b.tallies.saves n } }

-- One page more.
written_bytes : (xs ys : List (List ℕ)) (n : ℕ) → n < length xs → n < length ys → set (take n xs ++ drop n ys) n (get_or xs n []) ≡ take (n + 1) xs ++ drop (n + 1) ys
written_bytes xs ys n h k =
    let y = get_or xs n [] in
    let rest = drop (n + 1) ys in
    ap (λ (d : List (List ℕ)). set (take n xs ++ d) n y) (drop_more ys n [] k)
    ∙ (set_at (take n xs) (get_or ys n []) rest y n (length-take-le n xs (omega arith))
    ∙ sym (ap (λ (front : List (List ℕ)). front ++ rest) (take_more xs n [] h) ∙ append_assoc (take n xs) (y ∷ []) rest))

-- The two stores a and b as they were, and a1 and b1 after n pages.
pub record Halfway (a b a1 b1 : Meaning) (n : ℕ) : Type 0 where
  pub read : a1 ≡ read_to a n
  pub written : b1 ≡ written_to b a.bytes n

module _ (a b a1 b1 : Meaning) (n : ℕ) (w : Halfway a b a1 b1 n) (same : length a.bytes ≡ length b.bytes) where
  a_bytes : a1.bytes ≡ a.bytes
  a_bytes = ap (λ (m : Meaning). m.bytes) w.read

  pub halfway_more : (a2 b2 : Meaning) → n < length a.bytes → a2 ≡ fetched a1 → b2 ≡ saved b1 n (get_or a1.bytes n []) → Halfway a b a2 b2 (n + 1)
  halfway_more a2 b2 h e f =
      let r = w.read in
      let x = w.written in
      let k = a_bytes in
      let g = written_bytes a.bytes b.bytes n h (omega arith) in
      let p = climbed_more a.tallies.fetches n in
      let q = climbed_more b.tallies.saves n in
      record { read = cc; written = cc }

  -- All the pages.
  pub halfway_all : 0 < n → n ≡ length a.bytes → Copied a b (Ok tt) a1 b1
  halfway_all h e =
      let r = w.read in
      let x = w.written in
      let t = take_all n a.bytes (omega arith) in
      let d = drop_all n b.bytes (omega arith) in
      let k = append-nil a.bytes in
      let p = climbed_is a.tallies.fetches n h in
      let q = climbed_is b.tallies.saves n h in
      record { answered = sym (cond-true (eqb (length a.bytes) (length b.bytes)) (Ok tt) (Err NoSuchPage) (eq-eqb _ _ same)); effect = (cc, cc) }
