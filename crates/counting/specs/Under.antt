use Rattle.std.specs.Prelude.{◌≡◌, ℕ, List, length, drop, Ok}
use Rattle.model.specs.Order.{rule_of}
use Rattle.model.specs.Ledger.{unseen, shown_all}
use Rattle.census.specs.declared.page.PageRecord.{PageRecord}
use Rattle.census.specs.declared.state.Census.{Census}
use Rattle.census.specs.Refusals.{may_keep, needed}
use Rattle.census.specs.Means.{Keeps}
use Rattle.recordings.specs.Whole.{Recording}
use Rattle.counting.specs.Calls.{model_calls}

-- A census under one rule was opened by a recording's header in long enough tables and was shown the recording's calls.
pub record Under {X : Type 0} (told : X → ℕ) (slot next : ℕ → ℕ → ℕ) (start : ℕ) (r : Recording) (t₀ : List PageRecord) (counts₀ : List ℕ) (c : Census X) (t : List PageRecord) (counts : List ℕ) : Type 0 where
  pub room : may_keep r.header.pages (length t₀) (length counts₀) ≡ Ok tt
  pub pages : c.pages ≡ r.header.pages
  pub slots : c.parts.slots ≡ r.header.top
  pub keeps : Keeps told c t counts (shown_all (rule_of slot next) r.header.pages r.header.top (unseen start) (model_calls r.calls))
  pub rest_table : drop r.header.pages t ≡ drop r.header.pages t₀
  pub rest_counts : drop (needed r.header.pages) counts ≡ drop (needed r.header.pages) counts₀
