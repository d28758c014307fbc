use mathlib.Core.Path.{refl}
use Rattle.cores.proofs.core_step.fetch_request.Goals as goal

pub returns : goal.returns
returns c = rw (c.pc.ensures, c.asid-asid.ensures.0) refl
