use mathlib.Core.Path.{refl}
use Rattle.tables.proofs.block.user.Goals as goal

pub returns : goal.returns
returns c = rw c.special.ensures refl
