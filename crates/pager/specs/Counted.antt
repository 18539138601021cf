use Rattle.links.specs.declared.Part.{Part}
use Rattle.links.specs.declared.Part.TheVariants.{Unused, Top, Bottom}
use Rattle.store.specs.Counting.{counted}
use Rattle.pager.specs.declared.works.UseCounts.{UseCounts}

-- One more use of a page in the top.
abbrev pub hit : UseCounts → UseCounts
hit c = record c { hits = counted c.hits }

-- One more use of a page in the bottom.
abbrev pub reclaimed : UseCounts → UseCounts
reclaimed c = record c { reclaims = counted c.reclaims }

-- One more use of a page in neither part.
abbrev pub faulted : UseCounts → UseCounts
faulted c = record c { faults = counted c.faults }

-- One more page that left the bottom at its end.
abbrev pub driven_out : UseCounts → UseCounts
driven_out c = record c { evictions = counted c.evictions }

-- One more use of a page whose frame is in this part; a page of no part has no frame.
abbrev pub found_in : Part → UseCounts → UseCounts
found_in Unused c = c
found_in Top c = hit c
found_in Bottom c = reclaimed c
