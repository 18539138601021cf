-- No call alters the number of pages or the length of one.
use Rattle.std.proofs.Common.{◌≡◌, ℕ, ◌<◌, List, [], length, get_or, set, Ok, Err, Result, ap, ◌∙◌, inl, inr, arith}
use Rattle.std.proofs.lemmas.List.{length-set, get_or-set_same, get_or-set_other}
use Rattle.std.proofs.lemmas.Bool.{cases_eq}
use Rattle.store.specs.declared.StoreRefusal.{StoreRefusal}
use Rattle.store.specs.Meaning.{Meaning}
use Rattle.store.specs.Sized.{Sized}
use Rattle.store.specs.Uses.{Fetched, Saved}
use Rattle.store.proofs.Calls.{accepted_length, accepted_page}

-- A fetch keeps all the bytes.
pub fetch_keeps : (m m2 : Meaning) (page : ℕ) (b b2 : List ℕ) (r : Result (Unit {0}) StoreRefusal) → Fetched m page b r m2 b2 → m2.bytes ≡ m.bytes
fetch_keeps m m2 page b b2 (Ok u) w = ap (λ (x : Meaning). x.bytes) w.effect.0
fetch_keeps m m2 page b b2 (Err e) w = ap (λ (x : Meaning). x.bytes) w.effect.0

-- A save keeps the number of pages.
pub save_keeps_count : (m m2 : Meaning) (page : ℕ) (b : List ℕ) (r : Result (Unit {0}) StoreRefusal) → Saved m page b r m2 → length m2.bytes ≡ length m.bytes
save_keeps_count m m2 page b (Ok u) w = ap (λ (x : Meaning). length x.bytes) w.effect ∙ length-set m.bytes page b
save_keeps_count m m2 page b (Err e) w = ap (λ (x : Meaning). length x.bytes) w.effect

-- A page of 64 bytes set among pages of 64 bytes.
pub sized_set : (bytes : List (List ℕ)) (page : ℕ) (b : List ℕ) → Sized bytes → length b ≡ 64 → Sized (set bytes page b)
sized_set bytes page b z h =
    let e = length-set bytes page b in
    record {
      some = omega (arith, z.some);
      few = omega (arith, z.few);
      even = λ p lt.
          let l : p < length bytes = omega arith in
          elim (cases_eq p page) [
            | inl same ↦ ap (λ (i : ℕ). length (get_or (set bytes page b) i [])) same ∙ (ap length (get_or-set_same bytes page b [] (omega arith)) ∙ h)
            | inr ne ↦ ap length (get_or-set_other bytes page p b [] ne) ∙ z.even p l
          ];
    }

-- A save keeps the pages sized, since it is accepted only from 64 bytes.
pub save_keeps_sized : (m m2 : Meaning) (page : ℕ) (b : List ℕ) (r : Result (Unit {0}) StoreRefusal) → Saved m page b r m2 → Sized m.bytes → Sized m2.bytes
save_keeps_sized m m2 page b (Ok u) w z = rw w.effect (sized_set m.bytes page b z (accepted_length _ _ _ w.answered))
save_keeps_sized m m2 page b (Err e) w z = rw w.effect z

-- An accepted fetch gives 64 bytes.
pub fetch_gives : (m m2 : Meaning) (page : ℕ) (b b2 : List ℕ) → Fetched m page b (Ok tt) m2 b2 → Sized m.bytes → length b2 ≡ 64
fetch_gives m m2 page b b2 w z = ap length w.effect.1 ∙ z.even page (accepted_page _ _ _ w.answered)
