-- `ioapic::ports::write` meets its contract.
use mathlib.Core.Path.{◌∙◌}
use borrow.Author.Tests.{eq-eqb, ne_eqb}
use Rattle.ioapic.specs.IoApic.{io_written}
use Rattle.ioapic.proofs.ports.write.Goals as goal

pub returns-then-a-eq0 : goal.returns-then-a-eq0
unfolding io_written
returns-then-a-eq0 c = c.select.ensures ∙ rw (eq-eqb _ _ c.if-a-eq0.true)

pub returns-else-a-eq0 : goal.returns-else-a-eq0
unfolding io_written
returns-else-a-eq0 c = c.window.ensures ∙ rw (ne_eqb _ _ c.if-a-eq0.false)
