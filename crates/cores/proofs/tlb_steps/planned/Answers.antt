use mathlib.Core.Path.{refl}
use Rattle.cores.specs.TlbSteps.{planned}
use Rattle.cores.proofs.tlb_steps.planned.Goals as goal

pub returns-in-Adds : goal.returns-in-Adds
unfolding planned
returns-in-Adds c = rw (c.adding.ensures, c.in-Adds.is) refl

pub returns-in-Marks : goal.returns-in-Marks
unfolding planned
returns-in-Marks c = rw (c.done.ensures, c.in-Marks.is) refl
