use Rattle.std.specs.Prelude.{◌≡◌, ℕ, ◌<◌, ◌≤◌, true, List}
use Rattle.model.specs.Order.{Rule}
use Rattle.model.specs.Pager.{holds, Pager, pager_fresh, pager_run}
use Rattle.model.specs.Bytes.{Deed, accepted, shown_of}

-- What has a frame in one pager has one in the other, and what is dirty in one is dirty in the other.
pub record Contained (small large : Pager) : Type 0 where
  pub framed : (q : ℕ) → holds q small.order ≡ true → holds q large.order ≡ true
  pub dirty : (q : ℕ) → small.dirty q ≡ true → large.dirty q ≡ true

-- After every list of deeds, a pager with a longer bottom holds all that one with a shorter bottom holds.
abbrev pub BiggerHolds : Type 0
BiggerHolds = (r : Rule) (n k l m told : ℕ) → 0 < k → ((state : ℕ) → r.slot state k < k) → l ≤ m → (deeds : List Deed) →
    Contained (pager_run r n k l (pager_fresh told) (shown_of (accepted n deeds))) (pager_run r n k m (pager_fresh told) (shown_of (accepted n deeds)))
