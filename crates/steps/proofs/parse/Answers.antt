use Rattle.steps.specs.Form.{step_of}
use borrow.Author.Tests.{eq-eqb, ne_eqb, lt-ltb, le-ltb}
use Rattle.steps.proofs.parse.Goals as goal

pub returns-then-s-ne6 : goal.returns-then-s-ne6
unfolding step_of
returns-then-s-ne6 c = rw (ne_eqb _ _ c.if-s-ne6.true)

pub returns-then-at-cores : goal.returns-then-at-cores
unfolding step_of
returns-then-at-cores c = rw (eq-eqb _ _ c.if-s-ne6.false, lt-ltb _ _ c.if-kind-lt9.true, lt-ltb _ _ c.if-at-cores.true, c.core_step.ensures)

pub returns-else-at-cores : goal.returns-else-at-cores
unfolding step_of
returns-else-at-cores c = rw (eq-eqb _ _ c.if-s-ne6.false, lt-ltb _ _ c.if-kind-lt9.true, le-ltb _ _ c.if-at-cores.false)

pub returns-then-at-lt24 : goal.returns-then-at-lt24
unfolding step_of
returns-then-at-lt24 c = rw (eq-eqb _ _ c.if-s-ne6.false, le-ltb _ _ c.if-kind-lt9.false, lt-ltb _ _ c.if-kind-lt12.true, lt-ltb _ _ c.if-at-lt24.true, c.line_step.ensures)

pub returns-else-at-lt24 : goal.returns-else-at-lt24
unfolding step_of
returns-else-at-lt24 c = rw (eq-eqb _ _ c.if-s-ne6.false, le-ltb _ _ c.if-kind-lt9.false, lt-ltb _ _ c.if-kind-lt12.true, le-ltb _ _ c.if-at-lt24.false)

pub returns : goal.returns
unfolding step_of
returns c = rw (eq-eqb _ _ c.if-s-ne6.false, le-ltb _ _ c.if-kind-lt9.false, le-ltb _ _ c.if-kind-lt12.false)
