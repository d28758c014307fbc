use mathlib.Core.Path.{refl}
use Rattle.cores.proofs.causes.of.Goals as goal

pub returns : goal.returns
returns c = rw (c.causes.ensures, c.user.ensures, c.general-2.ensures, c.rt.ensures, c.general.ensures, c.rs.ensures, ← c.status-status.ensures, c.is_heard-io.ensures) refl
