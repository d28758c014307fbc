use Rattle.std.proofs.lemmas.Result.{err_from_is_err_and}
use mathlib.Core.Path.{refl}
use Rattle.cores.specs.TlbSteps.{planned}
use Rattle.cores.proofs.tlb_steps.accessed.Goals as goal

pub returns-in_err-accessed : goal.returns-in_err-accessed
unfolding planned
returns-in_err-accessed c = let p = err_from_is_err_and c.from_residual.result c.from_residual.ensures.1 in rw (p.1, p.2, ← c.in_err-accessed.ensures) refl

pub returns : goal.returns
returns c = rw (c.planned.ensures, c.in_ok-accessed.ensures) refl
