-- `records::stores_end` meets its contract: the last record's link, or the head.
-- Assumes nothing.
use mathlib.Core.Path.{◌∙◌}
use borrow.Author.Rules.{rules}
use borrow.Author.Tests.{tests}
use Rattle.std.proofs.lemmas.Iterator.Consumers.{YieldsList-from_first, fold_from_yields_List}
use Rattle.layout.specs.Layout.{record_at, store_head}
use Rattle.records.specs.inner.Chains.{records_from}
use Rattle.records.proofs.Along.{stores_small}
use Rattle.records.proofs.Iterate.{fold_end}
use Rattle.records.proofs.stores_end.Goals as goal

pub at-requires-clause-head_value : goal.at-requires-clause-head_value
at-requires-clause-head_value c = stores_small _ c.requires.b_len c.requires.b_value

pub returns : goal.returns
returns c =
    fold_from_yields_List _ (λ a x. record_at x.number) store_head c.fold.result c.fold.ensures.ran
    (YieldsList-from_first (λ x. x) (λ s. records_from s.block.now s.left s.next) _ c.at.ensures) (λ a x b q k. search (rules, tests))
    ∙ fold_end _ _ _
