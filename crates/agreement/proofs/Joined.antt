-- The law over runs, from what each call keeps.
use Rattle.std.proofs.Common.{◌≡◌, ℕ, ◌+◌, ◌<◌, ◌≤◌, ◌&&◌, eqb, ltb, List, [], ◌∷◌, length, sym, refl, ap, ◌∙◌, inl, inr, zero-le, arith}
use Rattle.std.specs.List.{AllByRecursion}
use Rattle.std.proofs.lemmas.Bool.{cases_Bool, and_parts, ltb-true}
use Rattle.lists.proofs.Weights.{ltb_cases}
use Rattle.model.specs.Order.{Rule}
use Rattle.model.specs.Ledger.{Ledger, unseen, shown_all}
use Rattle.model.specs.Rows.{wrapped}
use Rattle.model.specs.Pager.{pager_fresh, pager_run}
use Rattle.model.specs.Bytes.{Deed, reads, writes, settles, shown_of, accepts, accepted, Paged, paged_fresh, paged_read, paged_write, paged_settle, paged_run, book_run}
use Rattle.model.specs.Lru.{lru_faults}
use Rattle.agreement.specs.Law.{Agree, Agreement}
use Rattle.agreement.proofs.Agrees.{Fits, Agrees, agrees_run, agrees_fresh, evictions_are}
use Rattle.agreement.proofs.Few.{Few, few_run, few_fresh, calls_run, few_faults, few_saves, faults_fall, saves_fall}
use Rattle.model.specs.Kept.{Kept}
use Rattle.model.proofs.Bytes.{Within, kept_run, kept_fresh, read_gives, settle_leaves}
use Rattle.agreement.proofs.Lru.{lru_few, under_lru, level_lru}

-- The pager beside the bytes is the pager of the calls.
pager_of : (r : Rule) (n k l : ℕ) (w : Paged) (ds : List Deed) → (paged_run r n k l w ds).pager ≡ pager_run r n k l w.pager (shown_of ds)
pager_of r n k l w [] = refl
pager_of r n k l w (reads p ∷ ds) = pager_of r n k l (paged_read r k l p w) ds
pager_of r n k l w (writes p bytes ∷ ds) = pager_of r n k l (paged_write r k l p bytes w) ds
pager_of r n k l w (settles ∷ ds) = pager_of r n k l (paged_settle n w) ds

pub accepted_within : (n : ℕ) (ds : List Deed) → AllByRecursion (Within n) (accepted n ds)
accepted_within n [] = tt
accepted_within n (reads p ∷ ds) = elim (ltb_cases p n) [
  | inl y ↦ rw y.1 (y.0, accepted_within n ds)
  | inr m ↦ rw m.1 (accepted_within n ds)
]
accepted_within n (writes p bytes ∷ ds) = elim (cases_Bool (eqb (length bytes) 64 && ltb p n)) [
  | inl y ↦ rw y (ltb-true p n (and_parts (eqb (length bytes) 64) (ltb p n) y).1, accepted_within n ds)
  | inr m ↦ rw m (accepted_within n ds)
]
accepted_within n (settles ∷ ds) = (tt, accepted_within n ds)

accepted_fewer : (n : ℕ) (ds : List Deed) → length (shown_of (accepted n ds)) ≤ length ds
accepted_fewer n [] = zero-le
accepted_fewer n (d ∷ ds) = elim (cases_Bool (accepts n d)) [
  | inl y ↦ rw y (omega (arith, accepted_fewer n ds))
  | inr m ↦ rw m (omega (arith, accepted_fewer n ds))
]

pub shown_fits : (n : ℕ) (ds : List Deed) → AllByRecursion (Within n) ds → AllByRecursion (Fits n) (shown_of ds)
shown_fits n [] h = tt
shown_fits n (reads p ∷ ds) h = (h.0, shown_fits n ds h.1)
shown_fits n (writes p bytes ∷ ds) h = (h.0, shown_fits n ds h.1)
shown_fits n (settles ∷ ds) h = (tt, shown_fits n ds h.1)

-- The parts, joined: so few calls were made that no count has wrapped.
join : (r : Rule) (n k l : ℕ) → ((state : ℕ) → r.slot state k < k) → (w : Paged) (b : Ledger) (lru : ℕ) (book : ℕ → List ℕ) →
    Agrees n k l w.pager b → Few n b → Kept n k w book → b.calls ≤ 4294967295 → lru ≤ 4294967295 → w.pager.faults ≤ lru → (k ≡ 1 → w.pager.faults ≡ lru) → Agree r n k l w b lru book
join r n k l slots w b lru book a f c short few under level = record {
  frames_are_first = a.order;
  fetches_are_row = ap wrapped a.fetches;
  saves_are_row = ap wrapped a.saves;
  faults_are_row = ap wrapped a.faults;
  reclaims_are_row = ap wrapped a.reclaims;
  evictions_are_row = omega (arith, evictions_are n k l w.pager b a, few_faults n l b f);
  faults_fall = omega (arith, faults_fall l b, few_faults n l b f);
  saves_fall = omega (arith, saves_fall n l b, few_saves n l b f);
  faults_under_lru = omega (arith, a.faults, few_faults n l b f);
  faults_with_one_slot = λ i. ap wrapped (sym a.faults ∙ level i);
  read_gives_book = λ p low. read_gives r n k l p slots low w book c;
  settle_leaves_book = settle_leaves n k w book c;
}

pub agreement : Agreement
agreement r n k l told first pos slots deeds short =
    let calls = shown_of (accepted n deeds) in
    join r n k l slots (paged_run r n k l (paged_fresh told first) (accepted n deeds)) (shown_all r n k (unseen told) calls) (lru_faults (l + 1) calls) (book_run first (accepted n deeds))
    (rw (pager_of r n k l (paged_fresh told first) (accepted n deeds)) (agrees_run r n k l slots (pager_fresh told) (unseen told) (agrees_fresh n k l told) calls fits))
    (few_run r n k (unseen told) (few_fresh n told) calls fits)
    (kept_run r n k l slots (paged_fresh told first) first (kept_fresh n k told first) (accepted n deeds) (accepted_within n deeds))
    (omega (arith, calls_run r n k (unseen told) calls, accepted_fewer n deeds))
    (omega (arith, lru_few (l + 1) [] [] calls, accepted_fewer n deeds))
    (rw (pager_of r n k l (paged_fresh told first) (accepted n deeds)) (under_lru r n k l slots told calls))
    (rw (pager_of r n k l (paged_fresh told first) (accepted n deeds)) (λ i. level_lru r n k l slots i told calls)) where
      fits : AllByRecursion (Fits n) (shown_of (accepted n deeds))
      fits = shown_fits n (accepted n deeds) (accepted_within n deeds)
