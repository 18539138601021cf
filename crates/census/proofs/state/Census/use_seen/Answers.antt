use Rattle.std.proofs.Common.{◌≡◌, ◌+◌, ◌*◌, ◌%◌, length, set, Some, None, unwrap_or, sym, refl, ap, ◌∙◌, arith}
use Rattle.std.proofs.lemmas.Grind.{common_steps}
use Rattle.std.proofs.lemmas.List.{get_or-map}
use Rattle.std.specs.List.{slice_index_or as get_or}
use Rattle.model.specs.declared.UseKind.TheVariants.{Read, Write}
use Rattle.model.specs.Order.{rule_of, used}
use Rattle.model.specs.Windows.{absent, raised}
use Rattle.model.proofs.Uses.{depth_place}
use Rattle.census.specs.declared.page.PageRecord.{PageRecord}
use Rattle.census.specs.Views.{marks, blank}
use Rattle.census.specs.Columns.{noted_in, uses_from}
use Rattle.census.proofs.Columns.{absent_told}
use Rattle.census.proofs.Closing.{remarked, remarked_same, remarked_mark}
use Rattle.census.proofs.Tables.{restands, marks_rest}
use Rattle.census.proofs.Steps.{as_used, read_means, write_means, mark_found}
use Rattle.census.proofs.state.Census.use_seen.Goals as goal

pub returns-in-Read-clause-step : goal.returns-in-Read-clause-step
returns-in-Read-clause-step g c = λ b m.
    let told = g.R.TopRule.told in
    let self = c.args.self.now in
    let t = c.args.table.now in
    let u = c.touch.new.table in
    let p = c.args.page in
    let r = rule_of g.R.TopRule.slot g.R.TopRule.next in
    let slots = g.met.R.TopRule.below b.order.told self.parts.slots self.parts.sized.0 in
    let found = c.depth_of-found.ensures.depth b.order m.stands.arranged c.requires in
    let depth = ap (λ x. unwrap_or x 0) found ∙ depth_place (length t) self.parts.slots p b.order m.stands.arranged.sound in
    let mark : c.map-mark.result ≡ raised (get_or t p blank).mark (unwrap_or c.depth_of-found.result 0) = grind (arith, common_steps) in
    let new : c.from-new.result ≡ absent c.depth_of-found.result = c.from-new.ensures ∙ absent_told c.depth_of-found.result c.is_none.result c.is_none.ensures in
    let at = c.uses_from.ensures ∙ ap (λ k. uses_from k self.pages) c.in-Read.is in
    as_used told _ (remarked u p c.map-mark.result) c.note.new.counts b p r self.parts.slots c.args.kind Read c.in-Read.is
    (read_means told self t c.args.counts.now b p r m c.requires slots _ (remarked u p c.map-mark.result) c.note.new.counts refl ((remarked_same u p c.map-mark.result).long ∙ c.touch.auto.table)
    (restands told c.touch.new.self u (remarked u p c.map-mark.result) (used r self.parts.slots p b.order) (c.touch.ensures.step b.order m.stands c.requires) (remarked_same u p c.map-mark.result)) refl refl
    (unwrap_or c.depth_of-found.result 0) depth
    (remarked_mark u p c.map-mark.result ∙ (ap (λ xs. set xs p c.map-mark.result) (marks_rest u t c.touch.ensures.rest) ∙ ap (set (marks t) p) (mark ∙ ap (λ x. raised x (unwrap_or c.depth_of-found.result 0)) (sym (get_or-map (λ (x : PageRecord). x.mark) t p blank None c.requires)))))
    (c.note.ensures ∙ (ap (λ i. noted_in i c.depth_of-found.result c.args.counts.now) at ∙ ap (λ x. noted_in 0 x c.args.counts.now) found))
    (ap (λ x. (self.new_reads + x) % 4294967296) (new ∙ ap absent found)) refl)

pub returns-in-Write-clause-step : goal.returns-in-Write-clause-step
returns-in-Write-clause-step g c = λ b m.
    let told = g.R.TopRule.told in
    let self = c.args.self.now in
    let t = c.args.table.now in
    let u = c.touch.new.table in
    let p = c.args.page in
    let r = rule_of g.R.TopRule.slot g.R.TopRule.next in
    let slots = g.met.R.TopRule.below b.order.told self.parts.slots self.parts.sized.0 in
    let found = c.depth_of-found.ensures.depth b.order m.stands.arranged c.requires in
    let depth = ap (λ x. unwrap_or x 0) found ∙ depth_place (length t) self.parts.slots p b.order m.stands.arranged.sound in
    let mark : c.map-mark.result ≡ raised (get_or t p blank).mark (unwrap_or c.depth_of-found.result 0) = grind (arith, common_steps) in
    let new : c.from-new.result ≡ absent c.depth_of-found.result = c.from-new.ensures ∙ absent_told c.depth_of-found.result c.is_none.result c.is_none.ensures in
    let at = c.uses_from.ensures ∙ ap (λ k. uses_from k self.pages) c.in-Write.is in
    as_used told _ (remarked u p (Some 0)) c.note-in-Write.new.counts b p r self.parts.slots c.args.kind Write c.in-Write.is
    (write_means told self t c.args.counts.now b p r m c.requires slots _ (remarked u p (Some 0)) c.note-in-Write.new.counts refl ((remarked_same u p (Some 0)).long ∙ c.touch.auto.table)
    (restands told c.touch.new.self u (remarked u p (Some 0)) (used r self.parts.slots p b.order) (c.touch.ensures.step b.order m.stands c.requires) (remarked_same u p (Some 0))) refl refl
    c.map-mark.result (mark ∙ (ap (λ x. raised x (unwrap_or c.depth_of-found.result 0)) (sym (get_or-map (λ (x : PageRecord). x.mark) t p blank None c.requires)) ∙ mark_found told self t c.args.counts.now b p r m c.requires slots (unwrap_or c.depth_of-found.result 0) depth))
    (remarked_mark u p (Some 0) ∙ ap (λ xs. set xs p (Some 0)) (marks_rest u t c.touch.ensures.rest))
    (c.note-in-Write.ensures ∙ ap (noted_in (2 * (self.pages + 1)) c.map-mark.result) (c.note.ensures ∙ (ap (λ i. noted_in i c.depth_of-found.result c.args.counts.now) at ∙ ap (λ x. noted_in (self.pages + 1) x c.args.counts.now) found)))
    (ap (λ x. (self.new_writes + x) % 4294967296) (new ∙ ap absent found)) refl)
