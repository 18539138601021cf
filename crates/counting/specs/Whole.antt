use Rattle.std.specs.Prelude.{◌≡◌, ℕ, cond, ◌||◌, List, length, drop, Ok, Err, Result, ◌==◌, nat_lt}
use Rattle.rules.specs.Oldest.{oldest_slot, oldest_next}
use Rattle.rules.specs.Lottery.{lottery_slot, lottery_next}
use Rattle.model.specs.Order.{Rule, rule_of}
use Rattle.model.specs.Ledger.{Ledger, unseen, shown_all}
use Rattle.census.specs.declared.page.PageRecord.{PageRecord}
use Rattle.census.specs.Refusals.{may_keep, needed}
use Rattle.lines.specs.declared.Header.{Header}
use Rattle.recordings.specs.declared.RunFault.{RunFault}
use Rattle.recordings.specs.declared.RunFault.TheVariants.{TableShort}
use Rattle.recordings.specs.Whole.{Recording, calls_of}
use Rattle.counting.specs.declared.counted.Counted.{Counted}
use Rattle.counting.specs.Calls.{model_calls}
use Rattle.counting.specs.Counted.{pages_in, slots_in, KeepsIn}

-- The rule that a header names: the oldest by O, else the lottery.
abbrev pub rule_in : Header → Rule
rule_in h = cond (h.rule == 79) (rule_of oldest_slot oldest_next) (rule_of lottery_slot lottery_next)

-- The state that it starts in: the oldest takes no notice of the seed.
abbrev pub start_in : Header → ℕ
start_in h = cond (h.rule == 79) 0 h.seed

-- What a census sees that is shown a whole recording.
abbrev pub ledger_of : Recording → Ledger
ledger_of r = shown_all (rule_in r.header) r.header.pages r.header.top (unseen (start_in r.header)) (model_calls r.calls)

-- A census was opened by a recording's header, under the rule that it names, and was shown the recording's calls.
pub record CountedUnder (r : Recording) (t₀ : List PageRecord) (counts₀ : List ℕ) (c : Counted) (t : List PageRecord) (counts : List ℕ) : Type 0 where
  pub room : may_keep r.header.pages (length t₀) (length counts₀) ≡ Ok tt
  pub pages : pages_in c ≡ r.header.pages
  pub slots : slots_in c ≡ r.header.top
  pub keeps : KeepsIn c t counts (ledger_of r)
  pub rest_table : drop r.header.pages t ≡ drop r.header.pages t₀
  pub rest_counts : drop (needed r.header.pages) counts ≡ drop (needed r.header.pages) counts₀

-- Whether a recording can be counted in tables of these lengths: its own fault comes first, and then a table that is too short.
abbrev pub room_for : ℕ → ℕ → Result Recording RunFault → Result (Unit {0}) RunFault
room_for records places (Ok r) = cond (nat_lt records r.header.pages || nat_lt places (needed r.header.pages)) (Err TableShort) (Ok tt)
room_for records places (Err e) = Err e

abbrev pub may_count : List ℕ → ℕ → ℕ → Result (Unit {0}) RunFault
may_count bs records places = room_for records places (calls_of bs)

-- Some bytes were counted: they are a recording, the census has its page count and its top and keeps its ledger in the tables,
-- and what the tables hold beyond what it needs is as it was.
pub record CountedAs (bs : List ℕ) (t₀ : List PageRecord) (counts₀ : List ℕ) (c : Counted) (t : List PageRecord) (counts : List ℕ) : Type 0 where
  pub recording : Recording
  pub is : calls_of bs ≡ Ok recording
  pub pages : pages_in c ≡ recording.header.pages
  pub slots : slots_in c ≡ recording.header.top
  pub keeps : KeepsIn c t counts (ledger_of recording)
  pub rest_table : drop recording.header.pages t ≡ drop recording.header.pages t₀
  pub rest_counts : drop (needed recording.header.pages) counts ≡ drop (needed recording.header.pages) counts₀
