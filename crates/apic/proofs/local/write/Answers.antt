-- `apic::local::write` meets its contract.
use mathlib.Core.Path.{◌∙◌}
use borrow.Author.Tests.{eq-eqb, ne_eqb}
use Rattle.apic.specs.LocalApic.{port_written}
use Rattle.apic.proofs.local.write.Goals as goal

pub returns-then-a-eq12 : goal.returns-then-a-eq12
unfolding port_written
returns-then-a-eq12 c = c.end.ensures ∙ rw (eq-eqb _ _ c.if-a-eq12.true)

pub returns-else-a-eq12 : goal.returns-else-a-eq12
unfolding port_written
returns-else-a-eq12 c = rw (ne_eqb _ _ c.if-a-eq12.false)
