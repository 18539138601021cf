use Rattle.std.proofs.Common.{◌≡◌, ◌+◌, refl, rules}
use Rattle.pager.specs.Settings.{Setting}
use Rattle.pager.proofs.Fresh.{zeros, fresh_seated, fresh_frames, fresh_shows, fresh_ready}
use Rattle.pager.proofs.state.Pager.open.Goals as goal

pub invariant_of-table : goal.invariant_of-table
invariant_of-table g c = record { seated = ∣ fresh_seated g.R.TopRule.told (g.R.TopRule.told c.args.rule) c.make.result (c.args.slots + c.args.bottom) _ c.in-Ok.ensures c.make.ensures.stands ∣₁ }

pub returns-clause-ready : goal.returns-clause-ready
returns-clause-ready g c =
    let s : Setting = record { first = g.S.PageStore.meaning c.args.below; slots = c.args.slots; bottom = c.args.bottom } in
    let told = g.R.TopRule.told c.args.rule in
    let frames = fresh_frames g.R.TopRule.told told c.make.result (c.args.slots + c.args.bottom) _ c.in-Ok.ensures c.make.ensures.stands s c.make.ensures.slots refl in
    let counts : c.default.result ≡ zeros = search rules in
    record {
      store = c.requires;
      booked = fresh_ready g.R.TopRule.told g.S.PageStore.meaning s _ told c.pages-pages.ensures.sized (fresh_shows g.R.TopRule.told g.S.PageStore.meaning s _ told refl counts frames);
      counted = c.pages-pages.ensures.count;
    }

pub returns-clause-fresh : goal.returns-clause-fresh
returns-clause-fresh g c =
    let s : Setting = record { first = g.S.PageStore.meaning c.args.below; slots = c.args.slots; bottom = c.args.bottom } in
    let told = g.R.TopRule.told c.args.rule in
    let frames = fresh_frames g.R.TopRule.told told c.make.result (c.args.slots + c.args.bottom) _ c.in-Ok.ensures c.make.ensures.stands s c.make.ensures.slots refl in
    let counts : c.default.result ≡ zeros = search rules in
    (refl, search rules, fresh_shows g.R.TopRule.told g.S.PageStore.meaning s _ told refl counts frames)
