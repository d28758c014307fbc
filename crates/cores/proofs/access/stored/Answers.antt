use mathlib.Core.Path.{refl}
use Rattle.cores.proofs.access.stored.Goals as goal

pub low-value-requires : goal.low-value-requires
low-value-requires c = rw c.width-width.ensures c.requires.instruction_value

pub returns : goal.returns
returns c = rw (c.low-value.ensures, c.general.ensures, c.rt.ensures, c.width-width.ensures) refl
