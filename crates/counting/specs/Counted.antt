use Rattle.std.specs.Prelude.{ℕ, List}
use Rattle.rules.specs.declared.Oldest.{Oldest}
use Rattle.rules.specs.declared.Lottery.{Lottery}
use Rattle.model.specs.Ledger.{Ledger}
use Rattle.census.specs.declared.page.PageRecord.{PageRecord}
use Rattle.census.specs.Means.{Keeps}
use Rattle.counting.specs.declared.counted.Counted.{Counted}
use Rattle.counting.specs.declared.counted.Counted.TheVariants as case

-- The page count of a census under either rule.
abbrev pub pages_in : Counted → ℕ
pages_in (case.Oldest c) = c.pages
pages_in (case.Lottery c) = c.pages

-- The size of its top.
abbrev pub slots_in : Counted → ℕ
slots_in (case.Oldest c) = c.parts.slots
slots_in (case.Lottery c) = c.parts.slots

-- It keeps a ledger in its tables.
abbrev pub KeepsIn : Counted → List PageRecord → List ℕ → Ledger → Type 0
KeepsIn (case.Oldest c) t counts b = Keeps (λ (r : Oldest). r.at) c t counts b
KeepsIn (case.Lottery c) t counts b = Keeps (λ (r : Lottery). r.drawn) c t counts b
