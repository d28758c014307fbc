-- `apic::active::start_core` meets its contract.
use mathlib.Core.Path.{refl}
use Rattle.apic.specs.Active.{start_core}
use Rattle.apic.proofs.active.start_core.Goals as goal

pub returns : goal.returns
unfolding start_core
returns c = refl
