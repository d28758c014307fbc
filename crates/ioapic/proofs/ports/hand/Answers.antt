-- `ioapic::ports::hand` meets its contract.
use Rattle.ioapic.specs.IoApic.{handed}
use Rattle.ioapic.proofs.ports.hand.Goals as goal

pub returns : goal.returns
unfolding handed
returns c = rw (c.put_bit.ensures, c.put_bit-e.ensures)
