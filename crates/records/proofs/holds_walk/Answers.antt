-- `records::holds_walk` meets its contract: it asks each record of the chain.
-- Assumes nothing.
use mathlib.Core.Path.{◌≡◌, ap, ◌∙◌}
use mathlib.Core.Bool.{true, false}
use borrow.Author.Rules.{rules}
use borrow.Author.Tests.{tests}
use Rattle.std.proofs.lemmas.Iterator.{cases_from_any}
use Rattle.std.proofs.lemmas.Iterator.Consumers.{YieldsList-from_first}
use Rattle.records.specs.inner.Chains.{records_from, walk_of}
use Rattle.records.specs.Records.{walks, same, among}
use Rattle.records.proofs.Along.{walks_small}
use Rattle.records.proofs.Iterate.{any_among, walk_in_of}
use Rattle.records.proofs.holds_walk.Goals as goal

pub at-requires-clause-head_value : goal.at-requires-clause-head_value
at-requires-clause-head_value c = walks_small _ c.requires.b_len c.requires.b_value

pub returns : goal.returns
unfolding walks
returns c =
    any_among c.args.w _ _
    (cases_from_any c.any.new.self _ c.any.result (λ x. same (walk_of x) c.args.w ≡ true) (λ x. same (walk_of x) c.args.w ≡ false) c.any.ensures.ran
    (YieldsList-from_first (λ x. x) (λ s. records_from s.block.now s.left s.next) _ c.at.ensures) (λ x q k. search (rules, tests)) (λ x q k. search (rules, tests)))
    ∙ ap (among c.args.w) (walk_in_of _ _)
