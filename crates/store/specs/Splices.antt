use Rattle.std.specs.Prelude.{ℕ, ◌+◌, ◌-◌, ◌≤◌, cond, ◌++◌, length, Some, None, Ok, Err, Option, Result, nat_le, nat_lt}
use Rattle.store.specs.declared.StoreRefusal.{StoreRefusal}
use Rattle.store.specs.declared.StoreRefusal.TheVariants.{TooManyPages}
use Rattle.store.specs.declared.tallies.Tallies.{Tallies}
use Rattle.store.specs.Meaning.{Meaning}

-- What is answered to a splice of stores of n and m pages: together they may have 512.
abbrev pub may_splice : ℕ → ℕ → Result (Unit {0}) StoreRefusal
may_splice n m = cond (nat_le (n + m) 512) (Ok tt) (Err TooManyPages)

-- What a splice of two stores means, with its own tallies: the first one's pages, then the second one's.
abbrev pub spliced : Meaning → Meaning → Tallies → Meaning
spliced a b t = record { bytes = a.bytes ++ b.bytes; tallies = t }

-- The number in the second store of a page of the splice, where the first has n pages; None for a page of the first.
abbrev pub past_seam : ℕ → ℕ → Option ℕ
past_seam n page = cond (nat_lt page n) None (Some (page - n))

-- A splice is open where both stores are, and their pages are together at most 512.
pub record Joined (first second : Type 0) (a b : Meaning) : Type 0 where
  pub one : first
  pub other : second
  pub few : length a.bytes + length b.bytes ≤ 512
