use Rattle.std.specs.Prelude.{ℕ, List, map, None, Option}
use Rattle.links.specs.declared.Part.{Part}
use Rattle.links.specs.declared.Part.TheVariants.{Unused}
use Rattle.order.specs.Views.{Views, views_of}
use Rattle.census.specs.declared.page.PageRecord.{PageRecord}

-- The columns of a page table.
abbrev pub nexts : List PageRecord → List (Option ℕ)
nexts t = map (λ (r : PageRecord). r.links.next) t

abbrev pub prevs : List PageRecord → List (Option ℕ)
prevs t = map (λ (r : PageRecord). r.links.prev) t

abbrev pub parts : List PageRecord → List Part
parts t = map (λ (r : PageRecord). r.links.part) t

abbrev pub marks : List PageRecord → List (Option ℕ)
marks t = map (λ (r : PageRecord). r.mark) t

-- What the order reads of a page table.
abbrev pub orderly : List PageRecord → Views
orderly t = views_of (λ (r : PageRecord). r.links) t

-- A record without its links and its part.
abbrev pub rested : PageRecord → PageRecord
rested r = record { links = record { next = None; prev = None; part = Unused }; mark = r.mark }

-- The record of a page that was never used.
abbrev pub blank : PageRecord
blank = record { links = record { next = None; prev = None; part = Unused }; mark = None }
