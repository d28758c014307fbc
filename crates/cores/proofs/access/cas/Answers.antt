use mathlib.Core.Path.{refl}
use Rattle.cores.proofs.access.cas.Goals as goal

pub returns-in-Some : goal.returns-in-Some
returns-in-Some c = rw (c.finished.ensures, c.exchanged-write.ensures, ← c.read_memory-r.ensures, c.in-Some.is) refl

pub returns-in-None : goal.returns-in-None
returns-in-None c = rw (← c.read_memory-r.ensures, c.in-None.is) refl
