use Rattle.std.proofs.Common.{rules, ◌≡◌, ◌+◌, ◌%◌, ◌∙◌, fold}
use Rattle.census.proofs.Sums.{fold_wraps}
use Rattle.census.proofs.counts.tally.Goals as goal

pub returns : goal.returns
returns c = let run : c.fold.result ≡ fold (λ s x. (s + x) % 4294967296) 0 c.args.places.now = search rules in run ∙ fold_wraps c.args.places.now
