use borrow.Author.Tests.{eq-eqb, ne_eqb}
use Rattle.steps.specs.Form.{count_at}
use Rattle.steps.proofs.count_at.Goals as goal

pub returns-then-s-ne6 : goal.returns-then-s-ne6
unfolding count_at
returns-then-s-ne6 c = rw (ne_eqb _ _ c.if-s-ne6.true)

pub returns-then-s-cores : goal.returns-then-s-cores
unfolding count_at
returns-then-s-cores c = rw (eq-eqb _ _ c.if-s-ne6.false, c.if-s-cores.true, c.block_at.ensures)

pub returns : goal.returns
unfolding count_at
returns c = rw (eq-eqb _ _ c.if-s-ne6.false, c.if-s-cores.false)
