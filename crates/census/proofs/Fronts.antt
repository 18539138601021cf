-- The front of a longer table, lent out and given back.
use Rattle.std.proofs.Common.{◌≡◌, ℕ, ◌≤◌, List, ◌++◌, length, take, drop, replicate, refl, ap, ◌∙◌}
use Rattle.std.proofs.lemmas.List.{take_at, drop_at, length-take-le}
use Rattle.model.specs.Ledger.{Ledger}
use Rattle.census.specs.declared.page.PageRecord.{PageRecord}
use Rattle.census.specs.declared.state.Census.{Census}
use Rattle.census.specs.Refusals.{needed}
use Rattle.census.specs.Means.{Means, Keeps}

-- A front that is filled with one value.
pub front_filled : {X : Type 0} (n k : ℕ) (xs : List X) (x y : X) → k ≡ n → n ≤ length xs → x ≡ y → replicate (length (take k xs)) x ≡ replicate n y
front_filled n k xs x y e h is = rw (e, length-take-le n xs h, is) refl

-- A front is as long as it is meant to be.
pub front_long : {X : Type 0} (n k : ℕ) (xs : List X) → k ≡ n → n ≤ length xs → length (take k xs) ≡ n
front_long n k xs e h = rw e (length-take-le n xs h)

-- What lies behind the front is as it was.
pub back_kept : {X : Type 0} (n k : ℕ) (xs ys : List X) → k ≡ n → length ys ≡ n → drop n (ys ++ drop k xs) ≡ drop n xs
back_kept n k xs ys e long = drop_at ys (drop k xs) n long ∙ ap (λ i. drop i xs) e

-- A census that keeps a ledger in longer tables means it in their fronts, and the other way round.
pub to_front : {X : Type 0} (told : X → ℕ) (c : Census X) (t : List PageRecord) (counts : List ℕ) (b : Ledger) (k j : ℕ) → k ≡ c.pages → j ≡ needed c.pages → Keeps told c t counts b → Means told c (take k t) (take j counts) b
to_front told c t counts b k j e f m = rw (e, f) m

pub from_front : {X : Type 0} (told : X → ℕ) (c : Census X) (t rest : List PageRecord) (counts more : List ℕ) (b : Ledger) → Means told c t counts b → Keeps told c (t ++ rest) (counts ++ more) b
from_front told c t rest counts more b m = rw (take_at t rest c.pages m.long, take_at counts more (needed c.pages) m.wide) m

pub from_table : {X : Type 0} (told : X → ℕ) (c : Census X) (t rest : List PageRecord) (counts : List ℕ) (b : Ledger) → Means told c t (take (needed c.pages) counts) b → Keeps told c (t ++ rest) counts b
from_table told c t rest counts b m = rw (take_at t rest c.pages m.long) m
