use mathlib.Core.Path.{refl}
use Rattle.cores.proofs.access.is_access.Goals as goal

pub returns : goal.returns
returns c = rw (c.is_cas.ensures, c.is_store.ensures, c.is_load.ensures) refl
