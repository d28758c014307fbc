use mathlib.Core.Path.{refl}
use Rattle.cores.proofs.access.avoids_ports.Goals as goal

pub returns : goal.returns
returns c = rw (c.width.ensures, c.is_cas.ensures) refl
