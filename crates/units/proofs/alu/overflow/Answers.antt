use mathlib.Core.Path.{◌∙◌}
use Rattle.units.proofs.Overflows.{by_sum, by_difference, by_none}
use Rattle.units.proofs.alu.overflow.Goals as goal

pub returns-then-eq : goal.returns-then-eq
returns-then-eq c = c.sum_overflows.ensures ∙ by_sum _ _ _ c.eq.ensures c.eq-2.ensures c.if-eq.true

pub returns-then-eq-2 : goal.returns-then-eq-2
returns-then-eq-2 c = c.difference_overflows.ensures ∙ by_difference _ _ _ c.eq.ensures c.eq-2.ensures c.eq-3.ensures c.if-eq.false c.if-eq-2.true

pub returns : goal.returns
returns c = by_none _ _ _ c.eq.ensures c.eq-2.ensures c.eq-3.ensures c.if-eq.false c.if-eq-2.false
