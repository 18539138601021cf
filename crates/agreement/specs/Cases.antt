use Rattle.std.specs.Prelude.{◌≡◌, ℕ, ◌<◌, List, [], ◌∷◌}
use Rattle.rules.specs.Oldest.{oldest_slot, oldest_next}
use Rattle.rules.specs.Lottery.{lottery_slot}
use Rattle.model.specs.declared.UseKind.TheVariants.{Read, Write}
use Rattle.model.specs.declared.Call.{Call}
use Rattle.model.specs.declared.Call.TheVariants.{Use, Settle}
use Rattle.model.specs.declared.Row.{Row}
use Rattle.model.specs.Order.{Rule, rule_of}
use Rattle.model.specs.Ledger.{unseen, shown_all}
use Rattle.model.specs.Rows.{row_of}

-- Row l after a list of calls from the start, under a rule in its first state.
abbrev pub row_after : Rule → ℕ → ℕ → ℕ → List Call → ℕ → Row
row_after r n k told calls l = row_of n k l (shown_all r n k (unseen told) calls)

-- A sample of eleven calls.
abbrev pub sample : List Call
sample = Use Read 0 ∷ Use Read 1 ∷ Use Write 2 ∷ Use Read 0 ∷ Use Read 1 ∷ Use Read 0 ∷ Settle ∷ Use Write 2 ∷ Use Read 3 ∷ Use Read 4 ∷ Use Read 0 ∷ []

-- Row l of the sample: five pages, a top of two slots, the oldest rule from state 0.
abbrev pub sample_row : ℕ → Row
sample_row l = row_after (rule_of oldest_slot oldest_next) 5 2 0 sample l

-- A row in which nothing happened.
abbrev pub empty_row : Row
empty_row = record { fetches = 0; faults = 0; reclaims = 0; evictions = 0; saves = 0; rate = 0 }

-- Two writes of one page, and a settle.
abbrev pub twice : List Call
twice = Use Write 0 ∷ Use Write 0 ∷ Settle ∷ []

-- Two writes of one page, with a read of another between them.
abbrev pub apart : List Call
apart = Use Write 0 ∷ Use Read 1 ∷ Use Write 0 ∷ []

-- Cases that were worked out by hand.
pub record MarkedCases : Type 0 where
  pub sample_row_0 : (sample_row 0).faults ≡ 9
  pub sample_row_1 : (sample_row 1).faults ≡ 6
  pub sample_row_2 : (sample_row 2).faults ≡ 6
  pub sample_row_3 : (sample_row 3).faults ≡ 5
  -- without calls every row is 0
  pub no_calls : (r : Rule) (n k l told : ℕ) → row_after r n k told [] l ≡ empty_row
  -- the lottery from the seed 0
  pub lottery_of_2 : lottery_slot 0 2 ≡ 0
  pub lottery_of_3 : lottery_slot 0 3 ≡ 2
  -- with one slot, whatever the rule, a page that never left the top is saved by the settle alone, in every row
  pub twice_saves_once : (r : Rule) (n l told : ℕ) → 0 < n → (row_after r n 1 told twice l).saves ≡ 1
  -- with one slot, the read drives the written page out where there is no bottom
  pub apart_saves_once : (r : Rule) (n told : ℕ) → ((state : ℕ) → r.slot state 1 < 1) → (row_after r n 1 told apart 0).saves ≡ 1
  pub apart_saves_none : (r : Rule) (n told : ℕ) → ((state : ℕ) → r.slot state 1 < 1) → (row_after r n 1 told apart 1).saves ≡ 0
