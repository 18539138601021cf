use Rattle.std.proofs.Common.{◌≡◌, ℕ, ◌+◌, ◌-◌, ◌*◌, length, replicate, sym, refl, ap, ◌∙◌, arith}
use Rattle.std.proofs.lemmas.Bool.{true≢false}
use Rattle.std.proofs.lemmas.List.{length-replicate}
use Rattle.census.specs.Views.{blank}
use Rattle.census.proofs.Opened.{opened_means, open_room}
use Rattle.census.proofs.Fronts.{front_filled, back_kept, from_front}
use Rattle.census.proofs.state.Census.open.Goals as goal

pub returns : goal.returns
returns g c =
    let room = open_room c.args.pages c.args.slots (length c.args.table.now) (length c.args.counts.now) (sym c.in_ok-may_open.ensures) in
    let cleared : c.fill.new.self ≡ replicate c.args.pages blank = c.fill.ensures.after (λ y e. e) ∙ front_filled c.args.pages (c.args.pages - 0) c.args.table.now c.unused.result blank (omega arith) room.0 c.unused.ensures in
    let zeroed : c.fill-2.new.self ≡ replicate {A = ℕ} (3 * (c.args.pages + 1)) 0 = c.fill-2.ensures.after (λ y e. e) ∙ front_filled (3 * (c.args.pages + 1)) (3 * (c.args.pages + 1) - 0) c.args.counts.now 0 0 (omega arith) room.1 refl in
    record {
      answer = sym c.in_ok-may_open.ensures;
      refused = λ e. absurd (true≢false e);
      rest = (
        back_kept c.args.pages (c.args.pages - 0) c.args.table.now c.fill.new.self (omega arith) (ap length cleared ∙ length-replicate c.args.pages blank),
        back_kept (3 * (c.args.pages + 1)) (3 * (c.args.pages + 1) - 0) c.args.counts.now c.fill-2.new.self (omega arith) (ap length zeroed ∙ length-replicate (3 * (c.args.pages + 1)) 0),
      );
      opened = (
        refl,
        c.make.ensures.slots,
        from_front g.R.TopRule.told _ c.fill.new.self _ c.fill-2.new.self _ _
            (opened_means g.R.TopRule.told _ c.args.rule c.fill.new.self c.fill-2.new.self cleared zeroed refl refl refl refl c.make.ensures.stands),
      );
    }
