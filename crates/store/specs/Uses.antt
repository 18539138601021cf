use Rattle.std.specs.Prelude.{◌≡◌, ℕ, cond, List, [], length, Ok, Err, Result, ◌==◌, nat_lt, slice_index_or}
use Rattle.store.specs.declared.StoreRefusal.{StoreRefusal}
use Rattle.store.specs.declared.StoreRefusal.TheVariants.{NoSuchPage, BufferLength}
use Rattle.store.specs.Meaning.{Meaning, fetched, saved}

-- What a store of n pages answers to a fetch or a save of a page with a buffer of len bytes:
-- the buffer's length is looked at first, and then the page.
abbrev pub may_use : ℕ → ℕ → ℕ → Result (Unit {0}) StoreRefusal
may_use n page len = cond (len == 64) (cond (nat_lt page n) (Ok tt) (Err NoSuchPage)) (Err BufferLength)

-- P of an accepted call, and Q of a refused one.
abbrev pub Outcome : Result (Unit {0}) StoreRefusal → Type 0 → Type 0 → Type 0
Outcome (Ok u) P Q = P
Outcome (Err e) P Q = Q

-- A fetch of a page into the buffer b that answered r: accepted, the buffer holds the page's bytes and the store
-- has counted the fetch; refused, store and buffer are as they were.
pub record Fetched (m : Meaning) (page : ℕ) (b : List ℕ) (r : Result (Unit {0}) StoreRefusal) (m2 : Meaning) (b2 : List ℕ) : Type 0 where
  pub answered : r ≡ may_use (length m.bytes) page (length b)
  pub effect : Outcome r ((m2 ≡ fetched m) × (b2 ≡ slice_index_or m.bytes page [])) ((m2 ≡ m) × (b2 ≡ b))

-- A save of the buffer b to a page that answered r: accepted, the page holds the buffer's bytes and the store
-- has counted the save; refused, the store is as it was.
pub record Saved (m : Meaning) (page : ℕ) (b : List ℕ) (r : Result (Unit {0}) StoreRefusal) (m2 : Meaning) : Type 0 where
  pub answered : r ≡ may_use (length m.bytes) page (length b)
  pub effect : Outcome r (m2 ≡ saved m page b) (m2 ≡ m)
