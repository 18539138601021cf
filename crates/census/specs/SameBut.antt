use Rattle.std.specs.Prelude.{◌≡◌, List, length}
use Rattle.census.specs.declared.page.PageRecord.{PageRecord}
use Rattle.census.specs.Views.{nexts, prevs, parts}

-- Two page tables that differ in their marks alone.
pub record SameBut (t u : List PageRecord) : Type 0 where
  pub long : length u ≡ length t
  pub next : nexts u ≡ nexts t
  pub prev : prevs u ≡ prevs t
  pub part : parts u ≡ parts t
