-- `ioapic::bus::deliver` meets its contract: an interrupt for an ID does not ask who sends it.
use mathlib.Core.Path.{◌∙◌}
use Rattle.apic.specs.Active.{received_by}
use Rattle.ioapic.specs.Bus.{broadcast, deliver}
use Rattle.ioapic.proofs.bus.deliver.Goals as goal

pub returns : goal.returns
unfolding deliver broadcast received_by
returns c = c.broadcast.ensures ∙ rw c.hand.ensures
