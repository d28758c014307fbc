-- `tlb::index` meets its contract, at level 2 and at level 1.
-- Assumes nothing.
use mathlib.Core.Path.{sym, ◌∙◌}
use Rattle.tlb.proofs.Fields.{index_two, index_one}
use Rattle.tlb.proofs.index.Goals as goal

pub returns-then-level-eq2 : goal.returns-then-level-eq2
returns-then-level-eq2 c = index_two _ (sym c.level.ensures ∙ c.if-level-eq2.true)

pub returns-else-level-eq2 : goal.returns-else-level-eq2
returns-else-level-eq2 c = index_one _ (λ e. c.if-level-eq2.false (c.level.ensures ∙ e))
