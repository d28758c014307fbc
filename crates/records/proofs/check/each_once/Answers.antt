use mathlib.Core.Path.{◌≡◌}
use mathlib.Core.Logic.{◌≢◌}
use borrow.Author.Rules.{rules}
use borrow.Author.Tests.{tests}
use Rattle.std.proofs.lemmas.Iterator.{cases_from_all, YieldsList-from_slice}
use Rattle.records.proofs.Iterate.{once_by}
use Rattle.records.proofs.check.each_once.Goals as goal

pub returns : goal.returns
returns c =
    once_by c.args.seen.now c.told-seen c.all.result
    (cases_from_all _ _ _ (λ x. x ≡ 1) (λ x. x ≢ 1) c.all.ensures.ran (YieldsList-from_slice _ c.iter.ensures.rest) (λ x q k. search (rules, tests)) (λ x q k. search (rules, tests)))
