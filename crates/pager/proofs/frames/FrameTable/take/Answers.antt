use Rattle.std.proofs.Common.{◌<◌, length, vec_items, ap, arith}
use mathlib.Core.Logic.{∥∥₁_map}
use Rattle.pager.specs.declared.frame.Frame.{Frame}
use Rattle.pager.proofs.Naming.{seated_lent}
use Rattle.pager.proofs.frames.FrameTable.take.Goals as goal

pub invariant_of-self : goal.invariant_of-self
invariant_of-self g c =
    let v = c.args.self.now.frames in
    let low : c.args.i < length (vec_items v) = omega (arith, c.requires.within, v.ok.0) in
    let is = c.take.ensures in
    record { seated = ∥∥₁_map c.args.self.now.seated (seated_lent c.args.self.now.parts (vec_items v) c.args.i c.index_mut.result.now c.take.new.self low c.index_mut.ensures.value (ap (λ (f : Frame). f.links.next) is) (ap (λ (f : Frame). f.links.prev) is) (ap (λ (f : Frame). f.links.part) is) (ap (λ (f : Frame). f.page) is)) }
