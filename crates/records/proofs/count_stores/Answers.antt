-- `records::count_stores` meets its contract: a list is as long as its chain.
-- Assumes nothing.
use mathlib.Core.Path.{sym, ◌∙◌}
use mathlib.Core.Logic.{inl}
use native.Mathlib.Omega.{arith}
use lib.ListN.{length-map}
use Rattle.std.proofs.lemmas.Iterator.Consumers.{YieldsList-from_first, count_from_yields_List}
use Rattle.records.specs.inner.Chains.{records_from}
use Rattle.records.proofs.Fold.{stores_length}
use Rattle.records.proofs.Along.{stores_small}
use Rattle.records.proofs.Iterate.{records_few}
use Rattle.records.proofs.count_stores.Goals as goal

pub at-requires-clause-head_value : goal.at-requires-clause-head_value
at-requires-clause-head_value c = stores_small _ c.requires.b_len c.requires.b_value

pub count-requires-clause-fits : goal.count-requires-clause-fits
count-requires-clause-fits c = let s = c.at.result in inl (omega (arith, s.few, records_few s.left s.block.now s.next))

pub returns : goal.returns
returns c =
    count_from_yields_List c.at.result c.count.result c.count.ensures.ran (YieldsList-from_first (λ x. x) (λ s. records_from s.block.now s.left s.next) _ c.at.ensures)
    ∙ length-map _ _ ∙ sym (stores_length _)
