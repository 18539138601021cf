use Rattle.std.proofs.Common.{◌<◌, length, vec_items, refl, ap, inl, arith}
use mathlib.Core.Logic.{∥∥₁_map}
use Rattle.std.proofs.lemmas.List.{get_or_read}
use Rattle.pager.specs.declared.frame.Frame.{Frame}
use Rattle.pager.specs.Frames.{blank}
use Rattle.pager.proofs.Naming.{seated_kept}
use Rattle.pager.proofs.frames.FrameTable.mark.Goals as goal

pub invariant_of-self : goal.invariant_of-self
invariant_of-self g c =
    let v = c.args.self.now.frames in
    let low : c.args.i < length (vec_items v) = omega (arith, c.requires.within, v.ok.0) in
    let read = get_or_read (vec_items v) c.args.i c.index_mut-frame.result.now low c.index_mut-frame.ensures.value blank in record { seated = ∥∥₁_map c.args.self.now.seated (seated_kept (vec_items v) _ c.args.i _ refl low (ap (λ (f : Frame). f.links.next) read) (ap (λ (f : Frame). f.links.prev) read) (ap (λ (f : Frame). f.links.part) read) c.args.self.now.parts (inl (ap (λ (f : Frame). f.page) read))) }
