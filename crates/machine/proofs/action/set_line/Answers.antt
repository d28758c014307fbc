use mathlib.Core.Path.{refl}
use Rattle.machine.proofs.action.set_line.Goals as goal

pub returns : goal.returns
returns c = rw c.put_bit.ensures refl
