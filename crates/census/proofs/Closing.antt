-- Windows ended one page after the other.
use Rattle.std.proofs.Common.{◌≡◌, ℕ, ◌+◌, ◌%◌, ◌<◌, cond, ltb, ◌≢◌, List, length, get_or, set, Some, None, Option, is_some, sym, refl, ap, ◌∙◌, inl, inr, add-one, arith}
use Rattle.std.proofs.lemmas.List.{length-map, get_or-map, get_or-set_same, get_or-set_other, length-set, map-set}
use Rattle.std.proofs.Math.Seq.{map-set_same}
use Rattle.std.proofs.lemmas.Bool.{lt-ltb, le-ltb}
use Rattle.lists.specs.Weights.{one, total}
use Rattle.lists.proofs.Weights.{eqb_cases, ltb_cases}
use Rattle.model.specs.Windows.{is_open}
use Rattle.model.specs.Rows.{wrapped}
use Rattle.census.specs.declared.page.PageRecord.{PageRecord}
use Rattle.census.specs.Views.{marks, blank}
use Rattle.census.specs.SameBut.{SameBut}

-- A table with another mark at one page.
abbrev pub remarked : List PageRecord → ℕ → Option ℕ → List PageRecord
remarked t i m = set t i (record (get_or t i blank) { mark = m })

pub remarked_same : (t : List PageRecord) (i : ℕ) (m : Option ℕ) → SameBut t (remarked t i m)
remarked_same t i m = record {
  long = length-set t i _;
  next = map-set_same (λ (r : PageRecord). r.links.next) t i _ blank refl;
  prev = map-set_same (λ (r : PageRecord). r.links.prev) t i _ blank refl;
  part = map-set_same (λ (r : PageRecord). r.links.part) t i _ blank refl;
}

pub remarked_mark : (t : List PageRecord) (i : ℕ) (m : Option ℕ) → marks (remarked t i m) ≡ set (marks t) i m
remarked_mark t i m = map-set (λ (r : PageRecord). r.mark) t i _

-- Differing in marks alone goes on from table to table.
pub same_more : (t u v : List PageRecord) → SameBut t u → SameBut u v → SameBut t v
same_more t u v x y = record { long = y.long ∙ x.long; next = y.next ∙ x.next; prev = y.prev ∙ x.prev; part = y.part ∙ x.part }

-- The marks of t after those of the pages below i are gone from those of s.
abbrev pub Closed : List PageRecord → List PageRecord → ℕ → Type 0
Closed s t i = (q : ℕ) → get_or (marks t) q None ≡ cond (ltb q i) None (get_or (marks s) q None)

pub open_one : (m : Option ℕ) → one (is_some m) ≡ is_open m
open_one None = refl
open_one (Some m) = refl

module _ (s t u : List PageRecord) (i : ℕ) (closed : Closed s t i) (same : SameBut s t) (low : i < length s) (wrote : marks u ≡ set (marks t) i None) where
  pub closed_more : Closed s u (i + 1)
  closed_more q = ap (λ xs. get_or xs q None) wrote ∙ elim (eqb_cases q i) [
    | inl y ↦ ap (λ x. get_or (set (marks t) i None) x None) y.0 ∙ (get_or-set_same (marks t) i None None (omega (arith, length-map t (λ (r : PageRecord). r.mark), same.long)) ∙ ap (λ x. cond x None (get_or (marks s) q None)) (sym (lt-ltb q (i + 1) (omega (arith, y.0)))))
    | inr n ↦ get_or-set_other (marks t) i q None None n.0 ∙ (closed q ∙ ap (λ x. cond x None (get_or (marks s) q None)) (elsewhere n.0))
  ] where
    elsewhere : q ≢ i → ltb q i ≡ ltb q (i + 1)
    elsewhere ne = elim (ltb_cases q i) [
      | inl y ↦ rw y.1 (sym (lt-ltb q (i + 1) (omega (arith, y.0))))
      | inr m ↦ rw m.1 (sym (le-ltb q (i + 1) (omega (arith, m.0, ne))))
    ]

  pub ended_more : (ended here : ℕ) → ended ≡ wrapped (total i (λ q. is_open (get_or (marks s) q None))) → here ≡ is_open (get_or t i blank).mark → (ended + here) % 4294967296 ≡ wrapped (total (i + 1) (λ q. is_open (get_or (marks s) q None)))
  ended_more ended here e h = rw add-one (omega (arith, e, h ∙ ap is_open unclosed)) where
    unclosed : (get_or t i blank).mark ≡ get_or (marks s) i None
    unclosed = sym (get_or-map (λ (r : PageRecord). r.mark) t i blank None (omega (arith, same.long))) ∙ (closed i ∙ ap (λ x. cond x None (get_or (marks s) i None)) (le-ltb i i (omega arith)))
