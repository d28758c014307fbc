use mathlib.Core.Path.{refl}
use Rattle.cores.proofs.translation.fault.Goals as goal

pub returns-then-user : goal.returns-then-user
returns-then-user c = rw (c.fault.ensures, c.if-user.true) refl
