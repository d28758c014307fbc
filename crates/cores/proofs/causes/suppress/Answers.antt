use mathlib.Core.Path.{refl}
use Rattle.cores.proofs.causes.suppress.Goals as goal

pub returns : goal.returns
returns c = rw (c.continues.ensures, c.level.ensures) refl
