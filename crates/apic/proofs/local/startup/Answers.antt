-- `apic::local::startup` meets its contract.
use borrow.Author.Tests.{eq-eqb, ne_eqb}
use Rattle.apic.specs.LocalApic.{startup}
use Rattle.apic.proofs.local.startup.Goals as goal

pub returns-then-b-eq0 : goal.returns-then-b-eq0
unfolding startup
returns-then-b-eq0 c = rw (eq-eqb _ _ c.if-b-eq0.true, c.from.ensures)

pub returns-else-b-eq0 : goal.returns-else-b-eq0
unfolding startup
returns-else-b-eq0 c = rw (ne_eqb _ _ c.if-b-eq0.false)
