-- What a table that stands for an order tells of depths and marks.
use Rattle.std.proofs.Common.{◌≡◌, ℕ, ◌≤◌, List, [], ◌∷◌, map, length, Some, None, Option, sym, refl, ap, ◌∙◌, inl, inr, zero-le, arith}
use Rattle.lists.specs.Weights.{occ}
use Rattle.lists.specs.Places.{place}
use Rattle.lists.proofs.Weights.{ltb_cases}
use Rattle.lists.proofs.Places.{place_le}
use Rattle.links.proofs.Holding.{holds_fits}
use Rattle.model.specs.Order.{Order, depth_of}
use Rattle.model.specs.Windows.{raised}
use Rattle.order.specs.declared.parts.TwoParts.{TwoParts}
use Rattle.order.specs.Stands.{Stands}
use Rattle.order.proofs.Standing.{relinked}
use Rattle.census.specs.declared.page.PageRecord.{PageRecord}
use Rattle.census.specs.Views.{marks, orderly, rested}
use Rattle.census.specs.SameBut.{SameBut}
use Rattle.census.specs.Means.{Low}

marks_of_rested : (t : List PageRecord) → marks (map rested t) ≡ marks t
marks_of_rested [] = refl
marks_of_rested (r ∷ t) = ap (λ xs. r.mark ∷ xs) (marks_of_rested t)

-- Tables that differ in their links and parts alone have the same marks.
pub marks_rest : (t u : List PageRecord) → map rested t ≡ map rested u → marks t ≡ marks u
marks_rest t u e = sym (marks_of_rested t) ∙ (ap marks e ∙ marks_of_rested u)

-- A table that differs in its marks alone stands for the same order.
pub restands : {X : Type 0} (told : X → ℕ) (c : TwoParts X) (t u : List PageRecord) (o : Order) → Stands told c (orderly t) o → SameBut t u → Stands told c (orderly u) o
restands told c t u o s e = record {
  arranged = record {
    sound = rw e.long s.arranged.sound;
    top_is = s.arranged.top_is;
    bottom_is = relinked (orderly t) (orderly u) c.bottom o.bottom e.next e.prev e.long s.arranged.bottom_is;
    parts_are = λ q h. rw e.part (s.arranged.parts_are q (omega (arith, e.long)));
  };
  told_is = s.told_is;
}

pub low_raised : (n d : ℕ) (m : Option ℕ) → Low n m → d ≤ n → Low n (raised m d)
low_raised n d None low h = tt
low_raised n d (Some m) low h = omega (arith, low)

-- No page is deeper than there are pages.
pub place_low : {X : Type 0} (told : X → ℕ) (c : TwoParts X) (t : List PageRecord) (o : Order) → Stands told c (orderly t) o → (q : ℕ) → place q o.bottom ≤ length t
place_low told c t o s q = omega (arith, place_le 0 q o.bottom, holds_fits _ _ _ _ _ o.bottom s.arranged.bottom_is)

pub depth_low : {X : Type 0} (told : X → ℕ) (c : TwoParts X) (t : List PageRecord) (o : Order) → Stands told c (orderly t) o → (q : ℕ) → Low (length t) (depth_of q o)
depth_low told c t o s q = elim (ltb_cases 0 (occ q o.top)) [
  | inl h ↦ rw h.1 zero-le
  | inr h ↦ rw h.1 (elim (ltb_cases 0 (occ q o.bottom)) [
    | inl y ↦ rw y.1 (place_low told c t o s q)
    | inr m ↦ rw m.1 tt
  ])
]
