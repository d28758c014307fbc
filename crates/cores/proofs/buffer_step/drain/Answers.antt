use mathlib.Core.Path.{refl}
use Rattle.cores.specs.BufferStep.{on_oldest}
use Rattle.cores.proofs.buffer_step.drain.Goals as goal

pub returns-in-None : goal.returns-in-None
unfolding on_oldest
returns-in-None c = rw (← c.oldest_store-o.ensures, c.in-None.is) refl

pub returns-in-Some : goal.returns-in-Some
unfolding on_oldest
returns-in-Some c = rw (c.leaves_to.ensures, c.destination.ensures, ← c.oldest_store-o.ensures, c.in-Some.is) refl
