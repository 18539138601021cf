use Rattle.std.proofs.Common.{◌≡◌, eqb, ap, ◌∙◌, rules, tests}
use Rattle.std.specs.List.{position}
use Rattle.std.proofs.lemmas.Iterator.{YieldsList-from_slice}
use Rattle.std.proofs.lemmas.Iterator.Search.{position_from_yields_List}
use Rattle.order.proofs.Standing.{first_slot}
use Rattle.order.proofs.parts.TwoParts.slot_of.Goals as goal

pub returns : goal.returns
returns g c =
    let found : c.position.result ≡ position (λ x. eqb x c.args.page) c.deref.result.now = position_from_yields_List (λ x. eqb x c.args.page) _ _ c.position.result c.position.ensures.ran (YieldsList-from_slice _ c.iter.ensures.rest) (λ x b q k. search (rules, tests)) in
    λ v o s. found ∙ (ap (position (λ x. eqb x c.args.page)) (c.deref.ensures.0 ∙ s.top_is) ∙ first_slot c.args.page o)
