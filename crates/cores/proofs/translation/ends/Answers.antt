use mathlib.Core.Path.{refl}
use Rattle.cores.proofs.translation.ends.Goals as goal

pub returns : goal.returns
returns c = rw c.complete.ensures refl
