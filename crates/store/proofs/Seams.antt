-- A splice: a call of the part that has the page is a call of the whole.
use Rattle.std.proofs.Common.{◌≡◌, ℕ, ◌+◌, ◌-◌, ◌<◌, ◌≤◌, List, [], ◌++◌, length, Some, None, Ok, Err, Result, refl, ap, ◌∙◌, inl, inr, arith}
use Rattle.std.proofs.lemmas.List.{length-append, get_or_append_left, get_or-append_right, set-append_left, set-append_right}
use Rattle.std.proofs.lemmas.Bool.{cases_lt}
use Rattle.std.proofs.lemmas.Bool.Decides.{nat_tests}
use Rattle.store.specs.declared.StoreRefusal.{StoreRefusal}
use Rattle.store.specs.declared.tallies.Tallies.{Tallies}
use Rattle.store.specs.Meaning.{Meaning}
use Rattle.store.specs.Counting.{tick}
use Rattle.store.specs.Sized.{Sized}
use Rattle.store.specs.Splices.{Joined, past_seam, spliced}
use Rattle.store.specs.Uses.{may_use, Fetched, Saved}

-- Which part has a page: the first those below its count, and the second those from there on.
seam_first : (n page : ℕ) → None ≡ past_seam n page → page < n
seam_first n page e = grind (arith, nat_tests)

seam_second : (n page q : ℕ) → Some q ≡ past_seam n page → n ≤ page
seam_second n page q e = grind (arith, nat_tests)

seam_place : (n page q : ℕ) → Some q ≡ past_seam n page → q ≡ page - n
seam_place n page q e = grind (arith, nat_tests)

-- The part that has the page answers as the whole would.
may_first : (xs ys : List (List ℕ)) (page len : ℕ) → page < length xs → may_use (length xs) page len ≡ may_use (length (xs ++ ys)) page len
may_first xs ys page len h = let e = length-append xs ys in grind (arith, nat_tests)

may_second : (xs ys : List (List ℕ)) (page q len : ℕ) → length xs ≤ page → q ≡ page - length xs → may_use (length ys) q len ≡ may_use (length (xs ++ ys)) page len
may_second xs ys page q len h k = let e = length-append xs ys in grind (arith, nat_tests)

-- A page of the first store.
module _ (a b : Meaning) (t : Tallies) (page : ℕ) (buf : List ℕ) (seam : None ≡ past_seam (length a.bytes) page) where
  lt : page < length a.bytes
  lt = seam_first (length a.bytes) page seam

  pub fetch_first : (a2 : Meaning) (buf2 : List ℕ) (r : Result (Unit {0}) StoreRefusal) → Fetched a page buf r a2 buf2 → Fetched (spliced a b t) page buf r (spliced a2 b (record t { fetches = tick r t.fetches })) buf2
  fetch_first a2 buf2 (Ok u) w =
      let g = get_or_append_left a.bytes b.bytes [] page lt in
      let e = w.effect.0 in
      let x = w.effect.1 in
      record { answered = w.answered ∙ may_first a.bytes b.bytes page (length buf) lt; effect = (cc, cc) }
  fetch_first a2 buf2 (Err e) w =
      let k = w.effect.0 in
      record { answered = w.answered ∙ may_first a.bytes b.bytes page (length buf) lt; effect = (cc, w.effect.1) }

  pub save_first : (a2 : Meaning) (r : Result (Unit {0}) StoreRefusal) → Saved a page buf r a2 → Saved (spliced a b t) page buf r (spliced a2 b (record t { saves = tick r t.saves }))
  save_first a2 (Ok u) w =
      let g = set-append_left a.bytes b.bytes page buf lt in
      let e = w.effect in
      record { answered = w.answered ∙ may_first a.bytes b.bytes page (length buf) lt; effect = cc }
  save_first a2 (Err e) w =
      let k = w.effect in
      record { answered = w.answered ∙ may_first a.bytes b.bytes page (length buf) lt; effect = cc }

-- Page q of the second store.
module _ (a b : Meaning) (t : Tallies) (page q : ℕ) (buf : List ℕ) (seam : Some q ≡ past_seam (length a.bytes) page) where
  le : length a.bytes ≤ page
  le = seam_second (length a.bytes) page q seam

  place : q ≡ page - length a.bytes
  place = seam_place (length a.bytes) page q seam

  pub fetch_second : (b2 : Meaning) (buf2 : List ℕ) (r : Result (Unit {0}) StoreRefusal) → Fetched b q buf r b2 buf2 → Fetched (spliced a b t) page buf r (spliced a b2 (record t { fetches = tick r t.fetches })) buf2
  fetch_second b2 buf2 (Ok u) w =
      let g = get_or-append_right a.bytes b.bytes (length a.bytes) page [] refl le in
      let p = place in
      let e = w.effect.0 in
      let x = w.effect.1 in
      record { answered = w.answered ∙ may_second a.bytes b.bytes page q (length buf) le place; effect = (cc, cc) }
  fetch_second b2 buf2 (Err e) w =
      let k = w.effect.0 in
      record { answered = w.answered ∙ may_second a.bytes b.bytes page q (length buf) le place; effect = (cc, w.effect.1) }

  pub save_second : (b2 : Meaning) (r : Result (Unit {0}) StoreRefusal) → Saved b q buf r b2 → Saved (spliced a b t) page buf r (spliced a b2 (record t { saves = tick r t.saves }))
  save_second b2 (Ok u) w =
      let g = set-append_right a.bytes b.bytes (length a.bytes) page buf refl le in
      let p = place in
      let e = w.effect in
      record { answered = w.answered ∙ may_second a.bytes b.bytes page q (length buf) le place; effect = cc }
  save_second b2 (Err e) w =
      let k = w.effect in
      record { answered = w.answered ∙ may_second a.bytes b.bytes page q (length buf) le place; effect = cc }

-- The pages of a splice are from 1 to 512, of 64 bytes each.
pub sized_splice : (xs ys : List (List ℕ)) → Sized xs → Sized ys → length xs + length ys ≤ 512 → Sized (xs ++ ys)
sized_splice xs ys a b h =
    let e = length-append xs ys in
    record {
      some = omega (arith, a.some);
      few = omega arith;
      even = λ p lt. elim (cases_lt p (length xs)) [
        | inl l ↦ ap length (get_or_append_left xs ys [] p l) ∙ a.even p l
        | inr r ↦ ap length (get_or-append_right xs ys (length xs) p [] refl r) ∙ b.even (p - length xs) (omega arith)
      ];
    }

-- A splice stays open where a part stays open with as many pages.
module _ {A B : Type 0} (a b : Meaning) (j : Joined A B a b) where
  pub joined_first : {C : Type 0} (a2 : Meaning) → C → length a2.bytes ≡ length a.bytes → Joined C B a2 b
  joined_first a2 x e = record { one = x; other = j.other; few = omega (arith, j.few) }

  pub joined_second : {C : Type 0} (b2 : Meaning) → C → length b2.bytes ≡ length b.bytes → Joined A C a b2
  joined_second b2 x e = record { one = j.one; other = x; few = omega (arith, j.few) }
