-- `apic::active::init_core` meets its contract.
use mathlib.Core.Path.{refl}
use Rattle.apic.specs.Active.{init_core}
use Rattle.apic.proofs.active.init_core.Goals as goal

pub returns : goal.returns
unfolding init_core
returns c = refl
