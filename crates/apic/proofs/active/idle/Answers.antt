-- `apic::active::idle` meets its contract.
use Rattle.apic.specs.Active.{idle}
use Rattle.apic.proofs.active.idle.Goals as goal

pub returns : goal.returns
unfolding idle
returns c = rw c.put_bit.ensures
