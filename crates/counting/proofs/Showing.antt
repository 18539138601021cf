-- The state of the loop that shows the calls of a recording to a census, and its steps.
use Rattle.std.proofs.Common.{◌≡◌, ℕ, List, [], ◌∷◌, length, drop, Ok, refl, ◌∙◌, subst, inl, inr, arith}
use Rattle.std.specs.List.{AllByRecursion}
use Rattle.std.proofs.lemmas.Bool.Decides.{nat_tests}
use Rattle.model.specs.Order.{Rule}
use Rattle.model.specs.declared.Call.{Call}
use Rattle.model.specs.Ledger.{Ledger, shown, shown_all}
use Rattle.census.specs.declared.page.PageRecord.{PageRecord}
use Rattle.census.specs.declared.state.Census.{Census}
use Rattle.census.specs.Refusals.{may_keep, may_take, needed}
use Rattle.census.specs.SameSize.{SameSize}
use Rattle.census.specs.Means.{Keeps}
use Rattle.lines.specs.declared.CallRecord.{CallRecord}
use Rattle.lines.specs.Fit.{CallFit}
use Rattle.lines.specs.Meant.{call_in}
use Rattle.counting.specs.Calls.{model_calls}

-- A call of a recording is not refused where the tables are long enough.
pub fit_shown : (pages records places : ℕ) (x : CallRecord) → CallFit pages x → may_keep pages records places ≡ Ok tt → may_take pages records places (call_in x) ≡ Ok tt
fit_shown pages records places x (inl (u, low)) room = elim u [
  | inl e ↦ rw e (grind (arith, nat_tests))
  | inr e ↦ rw e (grind (arith, nat_tests))
]
fit_shown pages records places x (inr (e, z)) room = rw e room

-- Some calls were shown to a census, which began as c₀ with the tables t₀ and counts₀, and others are left: what the census
-- keeps now becomes by those what its first ledger becomes by them all.
pub record Showing {X : Type 0} (told : X → ℕ) (r : Rule) (c₀ : Census X) (t₀ : List PageRecord) (counts₀ : List ℕ) (all : List CallRecord) (c : Census X) (t : List PageRecord) (counts : List ℕ) (left : List CallRecord) : Type 0 where
  pub fit : AllByRecursion (CallFit c₀.pages) left
  pub room : may_keep c₀.pages (length t) (length counts) ≡ Ok tt
  pub same : SameSize c₀ c
  pub rest_table : drop c₀.pages t ≡ drop c₀.pages t₀
  pub rest_counts : drop (needed c₀.pages) counts ≡ drop (needed c₀.pages) counts₀
  pub keeps : (b : Ledger) → Keeps told c₀ t₀ counts₀ b → (b' : Ledger) × Keeps told c t counts b' × (shown_all r c₀.pages c₀.parts.slots b' (model_calls left) ≡ shown_all r c₀.pages c₀.parts.slots b (model_calls all))

module _ {X : Type 0} (told : X → ℕ) (r : Rule) (c₀ : Census X) (t₀ : List PageRecord) (counts₀ : List ℕ) (all : List CallRecord) where
  pub show_start : AllByRecursion (CallFit c₀.pages) all → may_keep c₀.pages (length t₀) (length counts₀) ≡ Ok tt → Showing told r c₀ t₀ counts₀ all c₀ t₀ counts₀ all
  show_start fit room = record { fit = fit; room = room; same = record { pages = refl; slots = refl }; rest_table = refl; rest_counts = refl; keeps = λ b k. (b, k, refl) }

  module _ (c c' : Census X) (t t' : List PageRecord) (counts counts' : List ℕ) (x : CallRecord) (left : List CallRecord) (s : Showing told r c₀ t₀ counts₀ all c t counts (x ∷ left)) (sent : Call) (is : sent ≡ call_in x) where
    -- The next call is taken.
    pub show_taken : may_take c.pages (length t) (length counts) sent ≡ Ok tt
    show_taken = rw (is, s.same.pages) (fit_shown c₀.pages (length t) (length counts) x s.fit.0 s.room)

    pub show_next : length t' ≡ length t → length counts' ≡ length counts → SameSize c c' → (drop c.pages t' ≡ drop c.pages t) × (drop (needed c.pages) counts' ≡ drop (needed c.pages) counts) →
        ((b : Ledger) → Keeps told c t counts b → Keeps told c' t' counts' (shown r c.pages c.parts.slots b sent)) → Showing told r c₀ t₀ counts₀ all c' t' counts' left
    show_next long wide same rest step = record {
      fit = s.fit.1;
      room = rw (long, wide) s.room;
      same = record { pages = same.pages ∙ s.same.pages; slots = same.slots ∙ s.same.slots };
      rest_table = subst (λ j. drop j t' ≡ drop j t) s.same.pages rest.0 ∙ s.rest_table;
      rest_counts = subst (λ j. drop (needed j) counts' ≡ drop (needed j) counts) s.same.pages rest.1 ∙ s.rest_counts;
      keeps = λ b k. let h = s.keeps b k in
          let now = subst (λ j. Keeps told c' t' counts' (shown r j c.parts.slots h.0 sent)) s.same.pages (step h.0 h.1) in
          let here = subst (λ j. Keeps told c' t' counts' (shown r c₀.pages j h.0 sent)) s.same.slots now in
          (shown r c₀.pages c₀.parts.slots h.0 (call_in x), subst (λ y. Keeps told c' t' counts' (shown r c₀.pages c₀.parts.slots h.0 y)) is here, h.2);
    }

  pub show_end : (c : Census X) (t : List PageRecord) (counts : List ℕ) → Showing told r c₀ t₀ counts₀ all c t counts [] → (b : Ledger) → Keeps told c₀ t₀ counts₀ b → Keeps told c t counts (shown_all r c₀.pages c₀.parts.slots b (model_calls all))
  show_end c t counts s b k = let h = s.keeps b k in subst (Keeps told c t counts) h.2 h.1
