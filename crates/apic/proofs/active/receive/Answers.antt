-- `apic::active::receive` meets its contract.
use mathlib.Core.Path.{◌∙◌}
use Rattle.apic.specs.Active.{received_by}
use Rattle.apic.proofs.active.receive.Goals as goal

pub returns-then-aimed : goal.returns-then-aimed
unfolding received_by
returns-then-aimed c = c.receive.ensures ∙ rw (← c.id.ensures, ← c.aimed.ensures, c.if-aimed.true)

pub returns-else-aimed : goal.returns-else-aimed
unfolding received_by
returns-else-aimed c = rw (← c.id.ensures, ← c.aimed.ensures, c.if-aimed.false)
