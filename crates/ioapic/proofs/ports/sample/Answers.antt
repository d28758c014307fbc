-- `ioapic::ports::sample` meets its contract.
use Rattle.ioapic.specs.IoApic.{sampled}
use Rattle.ioapic.proofs.ports.sample.Goals as goal

pub returns : goal.returns
unfolding sampled
returns c = rw c.put_bit.ensures
