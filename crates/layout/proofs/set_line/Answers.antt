-- `layout::set_line` meets its contract.
-- Assumes nothing.
use mathlib.Core.Path.{refl}
use Rattle.layout.proofs.set_line.Goals as goal

pub returns : goal.returns
returns c = rw c.put_bit.ensures refl
