use mathlib.Core.Path.{refl}
use Rattle.cores.proofs.causes.address.Goals as goal

pub returns : goal.returns
returns c = rw (c.effective_address.ensures, c.general.ensures, c.rs.ensures) refl
