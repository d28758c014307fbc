use mathlib.Core.Path.{refl}
use Rattle.cores.proofs.translation.faulted.Goals as goal

pub returns : goal.returns
returns c = rw (c.page_key.ensures, c.asid.ensures.0, c.page.ensures) refl
