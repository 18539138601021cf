use Rattle.std.proofs.Common.{◌≡◌, ◌<◌, length, arith}
use Rattle.store.proofs.Copies.{halfway_more, halfway_all}
use Rattle.store.proofs.copying.copy_store.Goals as goal

pub loop-page-preserved : goal.loop-page-preserved
loop-page-preserved g c =
    let a = g.F.PageStore.meaning c.args.from.now in
    let b = g.T.PageStore.meaning c.args.to.now in
    let same : length a.bytes ≡ length b.bytes = omega arith in
    let lt : c.loop-page.page < length a.bytes = omega arith in
    let told = c.in_ok-carry.ensures in
    (told.from, told.to, halfway_more a b _ _ _ c.loop-page.invariant.2 same _ _ lt told.read told.written)

pub returns : goal.returns
returns g c =
    let a = g.F.PageStore.meaning c.args.from.now in
    let b = g.T.PageStore.meaning c.args.to.now in
    let same : length a.bytes ≡ length b.bytes = omega arith in
    let all : c.loop-page.page ≡ length a.bytes = omega arith in
    record {
      from = c.loop-page.invariant.0;
      to = c.loop-page.invariant.1;
      effect = halfway_all a b _ _ _ c.loop-page.invariant.2 same (omega (arith, c.pages-pages.ensures.sized.some)) all;
    }
