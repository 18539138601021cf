-- The pages of a memory: how many, what each is, and what a write of one leaves.
use Rattle.std.proofs.Common.{◌≡◌, ℕ, ◌+◌, ◌-◌, ◌*◌, ◌/◌, ◌<◌, ◌≢◌, true, List, [], length, get_or, take, drop, set, Ok, sym, refl, ap, ◌∙◌, inl, inr, arith, rules}
use borrow.Rule.Slice.PartMut.{put_mid}
use Rattle.std.proofs.lemmas.List.{ext_get_or, places, get_or-set_same, get_or-set_other, length-set}
use Rattle.std.proofs.lemmas.Slice.{between-put_mid, take-put_mid_below, drop-put_mid, between_is}
use Rattle.std.proofs.lemmas.List.Edits.{length-between}
use Rattle.std.proofs.lemmas.List.FromFn.{length-map-range_with_len, get_or-map-range_with_len}
use Rattle.std.proofs.lemmas.Bool.{cases_eq, cases_lt}
use Rattle.std.proofs.lemmas.Bool.Decides.{nat_tests}
use Rattle.store.specs.declared.tallies.Tallies.{Tallies}
use Rattle.store.specs.Counting.{one_fetch, one_save}
use Rattle.store.specs.Memory.{Whole, whole, page_of, pages_of, plain}
use Rattle.store.specs.Sized.{Sized}
use Rattle.store.specs.Uses.{may_use, Fetched, Saved}
use Rattle.store.proofs.Calls.{accepted_length, accepted_page}

pub pages_length : (m : List ℕ) → length (pages_of m) ≡ length m / 64
pages_length m = length-map-range_with_len (page_of m) 0 (length m / 64)

pub pages_read : (m : List ℕ) (p : ℕ) (d : List ℕ) → p < length m / 64 → get_or (pages_of m) p d ≡ page_of m p
pages_read m p d h = get_or-map-range_with_len (page_of m) 0 (length m / 64) p p d h (omega arith)

pub page_length : (m : List ℕ) (p : ℕ) → p < length m / 64 → length (page_of m p) ≡ 64
page_length m p h = let e = length-between m (64 * p) (64 * p + 64) (omega arith) in omega arith

-- What the test for a whole length says.
pub whole_is : (len : ℕ) → whole len ≡ true → Whole len
whole_is len h = record { pages = len / 64; some = grind (arith, nat_tests, h); few = grind (arith, nat_tests, h); long = grind (arith, nat_tests, h) }

-- A memory of a whole length has from 1 to 512 pages of 64 bytes.
pub sized_of_whole : (m : List ℕ) → Whole (length m) → Sized (pages_of m)
sized_of_whole m w = record {
  some = let n = pages_length m in omega (arith, w.some, w.long);
  few = let n = pages_length m in omega (arith, w.few, w.long);
  even = λ p h. let n = pages_length m in let lt : p < length m / 64 = omega arith in ap length (pages_read m p [] lt) ∙ page_length m p lt;
}

pub pages_sized : (m : List ℕ) → whole (length m) ≡ true → Sized (pages_of m)
pages_sized m h = sized_of_whole m (whole_is (length m) h)

module _ (m b : List ℕ) (p k : ℕ) (in-it : p < length m / 64) (k-is : k ≡ 64) (len : length b ≡ 64) where
  pub length_put : length (put_mid (64 * p) k m b) ≡ length m
  length_put = search (rules, places)

  pub page_put : page_of (put_mid (64 * p) k m b) p ≡ b
  page_put = between-put_mid (64 * p) k m b (64 * p + 64) (omega arith) (omega arith)

  pub page_kept : (q : ℕ) → q ≢ p → q < length m / 64 → page_of (put_mid (64 * p) k m b) q ≡ page_of m q
  page_kept q ne h = elim (cases_lt q p) [
    | inl lt ↦ between_is (put_mid (64 * p) k m b) (64 * q) (64 * q + 64) ∙ (ap (drop (64 * q)) (take-put_mid_below (64 * p) k m b (64 * q + 64) (omega arith) (omega arith)) ∙ sym (between_is m (64 * q) (64 * q + 64)))
    | inr ge ↦ let lt : p < q = omega arith in ap (take (64 * q + 64 - 64 * q)) (drop-put_mid (64 * p) k m b (64 * q) (omega arith) (omega arith) (len ∙ sym k-is))
  ]

  -- Writing the 64 bytes of a page sets that page and keeps the others.
  pub pages_write : pages_of (put_mid (64 * p) k m b) ≡ set (pages_of m) p b
  pages_write =
      let m2 : List ℕ = put_mid (64 * p) k m b in
      let n2 : length (pages_of m2) ≡ length m / 64 = pages_length m2 ∙ ap (λ n. n / 64) length_put in
      let n1 : length (pages_of m) ≡ length m / 64 = pages_length m in
      ext_get_or [] (pages_of m2) (set (pages_of m) p b)
      (n2 ∙ sym (length-set (pages_of m) p b ∙ n1))
      (λ q h.
      let lt : q < length m / 64 = omega arith in
      let lt2 : q < length m2 / 64 = omega (arith, length_put) in
      pages_read m2 q [] lt2 ∙ elim (cases_eq q p) [
        | inl e ↦ ap (page_of m2) e ∙ (page_put ∙ (sym (get_or-set_same (pages_of m) p b [] (omega arith)) ∙ ap (λ (i : ℕ). get_or (set (pages_of m) p b) i []) (sym e)))
        | inr ne ↦ page_kept q ne lt ∙ (sym (pages_read m q [] lt) ∙ sym (get_or-set_other (pages_of m) p q b [] ne))
      ])

-- The page of an accepted call lies in the memory.
pub in_memory : (m : List ℕ) (p n len : ℕ) → n ≡ length (pages_of m) → Ok tt ≡ may_use n p len → p < length m / 64
in_memory m p n len n-is ok = omega (arith, accepted_page n p len ok, pages_length m)

-- An accepted fetch of a plain store.
pub plain_fetched : (m b : List ℕ) (p n : ℕ) (t : Tallies) → n ≡ length (pages_of m) → Ok tt ≡ may_use n p (length b) → Fetched (plain m t) p b (Ok tt) (plain m (one_fetch t)) (page_of m p)
plain_fetched m b p n t n-is ok =
    let h = in_memory m p n (length b) n-is ok in
    record { answered = rw n-is at ok; effect = (refl, sym (pages_read m p [] h)) }

-- An accepted save of a plain store: x is what was copied into the memory.
module _ (m b x : List ℕ) (p k n : ℕ) (t : Tallies) (n-is : n ≡ length (pages_of m)) (k-is : k ≡ 64) (x-is : x ≡ b) (ok : Ok tt ≡ may_use n p (length b)) where
  x_long : length x ≡ 64
  x_long = ap length x-is ∙ accepted_length n p (length b) ok

  pub plain_saved : Saved (plain m t) p b (Ok tt) (plain (put_mid (64 * p) k m x) (one_save t))
  plain_saved =
      let w = pages_write m x p k (in_memory m p n (length b) n-is ok) k-is x_long in
      record { answered = rw n-is at ok; effect = cc }

  pub saved_whole : Whole (length m) → Whole (length (put_mid (64 * p) k m x))
  saved_whole w =
      let e = length_put m x p k (in_memory m p n (length b) n-is ok) k-is x_long in
      record { pages = w.pages; some = w.some; few = w.few; long = e ∙ w.long }
