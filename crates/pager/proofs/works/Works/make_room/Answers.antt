use Rattle.model.specs.Order.{rule_of}
use Rattle.pager.specs.Shows.{frames_of}
use Rattle.pager.proofs.Touching.{rule_below}
use Rattle.pager.proofs.Admitting.{room_free, room_evicted}
use Rattle.pager.proofs.works.Works.make_room.Goals as goal

pub returns-in-Some-clause-room : goal.returns-in-Some-clause-room
returns-in-Some-clause-room g c =
    let p = c.args.self.now in
    let found = rw c.deref.ensures.value at c.in-Some.ensures in
    let rule = rule_of g.R.TopRule.slot g.R.TopRule.next in
    λ s w q sh low none. room_free g.R.TopRule.told g.S.PageStore.meaning rule s p w q sh (rule_below g.R.TopRule.told rule s p.table.parts (frames_of p) w sh.frames (λ state k pos. g.met.R.TopRule.below state k pos)) low none c.in-Some.i found.0 found.1

pub returns-in-None-clause-room : goal.returns-in-None-clause-room
returns-in-None-clause-room g c =
    let p = c.args.self.now in
    let rule = rule_of g.R.TopRule.slot g.R.TopRule.next in
    λ s w q sh low none. room_evicted g.R.TopRule.told g.S.PageStore.meaning rule s p w q sh (rule_below g.R.TopRule.told rule s p.table.parts (frames_of p) w sh.frames (λ state k pos. g.met.R.TopRule.below state k pos)) low none c.evict.new.self c.evict.result
    c.evict.ensures.held (c.evict.ensures.vacant s w q sh none) c.evict.ensures.others c.evict.ensures.long c.evict.ensures.slots c.evict.ensures.below c.evict.ensures.counts
