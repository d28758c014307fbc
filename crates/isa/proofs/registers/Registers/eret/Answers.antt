use mathlib.Core.Path.{refl}
use Rattle.isa.specs.Interrupts.{delta_rfe}
use Rattle.isa.proofs.registers.Registers.eret.Goals as goal

pub returns : goal.returns
unfolding delta_rfe
returns c = refl
