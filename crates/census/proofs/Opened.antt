-- A census that was just opened means that nothing was shown.
use Rattle.std.proofs.Common.{◌≡◌, ℕ, zero, suc, ◌+◌, ◌*◌, ◌≤◌, List, [], map, get_or, replicate, Ok, sym, refl, ap, arith}
use Rattle.std.proofs.lemmas.List.{length-replicate}
use Rattle.std.proofs.lemmas.Bool.Decides.{nat_tests}
use Rattle.model.specs.Order.{fresh}
use Rattle.model.specs.Ledger.{unseen}
use Rattle.model.specs.Windows.{raised}
use Rattle.order.specs.Views.{Views}
use Rattle.order.specs.Stands.{AllUnused, Stands}
use Rattle.census.specs.declared.page.PageRecord.{PageRecord}
use Rattle.census.specs.declared.state.Census.{Census}
use Rattle.census.specs.Views.{blank, orderly}
use Rattle.census.specs.Refusals.{needed, may_open, may_keep, may_show, may_ask}
use Rattle.census.specs.Columns.{Column}
use Rattle.census.specs.Means.{Means}

same_all : {X Y : Type 0} (f : X → Y) (x : X) (n q : ℕ) → get_or (map f (replicate n x)) q (f x) ≡ f x
same_all f x zero q = refl
same_all f x (suc n) zero = refl
same_all f x (suc n) (suc q) = same_all f x n q

zeros : (n q : ℕ) → get_or (replicate {A = ℕ} n 0) q 0 ≡ 0
zeros zero q = refl
zeros (suc n) zero = refl
zeros (suc n) (suc q) = zeros n q

empty_column : (n j base : ℕ) → Column n (replicate j 0) base []
empty_column n j base = record { are = λ d h. zeros j (base + d); low = λ d h. refl }

-- An opening that is not refused has room for its pages and counts.
pub open_room : (n k records places : ℕ) → may_open n k records places ≡ Ok tt → (n ≤ records) × (needed n ≤ places)
open_room n k records places e = (grind (arith, nat_tests), grind (arith, nat_tests))

-- So has a call that is not refused.
pub keep_room : (n records places : ℕ) → may_keep n records places ≡ Ok tt → (n ≤ records) × (needed n ≤ places)
keep_room n records places e = (grind (arith, nat_tests), grind (arith, nat_tests))

pub show_room : (n records places page : ℕ) → may_show n records places page ≡ Ok tt → (n ≤ records) × (needed n ≤ places)
show_room n records places page e = (grind (arith, nat_tests), grind (arith, nat_tests))

pub ask_room : (n records places l : ℕ) → may_ask n records places l ≡ Ok tt → (n ≤ records) × (needed n ≤ places)
ask_room n records places l e = (grind (arith, nat_tests), grind (arith, nat_tests))

pub opened_means : {X : Type 0} (told : X → ℕ) (c : Census X) (rule : X) (t : List PageRecord) (counts : List ℕ) → t ≡ replicate c.pages blank → counts ≡ replicate (needed c.pages) 0 →
    c.new_reads ≡ 0 → c.new_writes ≡ 0 → c.settled ≡ 0 → c.calls ≡ 0 → ((v : Views) → AllUnused v → Stands told c.parts v (fresh (told rule))) → Means told c t counts (unseen (told rule))
opened_means told c rule t counts e f nr nw se ca stands = record {
  long = rw e (length-replicate c.pages blank);
  wide = rw f (length-replicate (needed c.pages) 0);
  stands = rw e (stands (orderly (replicate c.pages blank)) (λ q h. same_all (λ (r : PageRecord). r.links.part) blank c.pages q));
  marks_are = λ q h. rw e (sym (ap (λ x. raised x 0) (same_all (λ (r : PageRecord). r.mark) blank c.pages q)));
  marks_low = λ q h. tt;
  reads_are = rw f (empty_column c.pages (needed c.pages) 0);
  writes_are = rw f (empty_column c.pages (needed c.pages) (c.pages + 1));
  ended_are = rw f (empty_column c.pages (needed c.pages) (2 * (c.pages + 1)));
  new_reads_are = nr;
  new_writes_are = nw;
  settled_are = se;
  calls_are = ca;
}
