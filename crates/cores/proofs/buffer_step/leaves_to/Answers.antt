use mathlib.Core.Path.{refl}
use Rattle.cores.specs.BufferStep.{leaves_to}
use Rattle.cores.proofs.buffer_step.leaves_to.Goals as goal

pub returns-then-writes : goal.returns-then-writes
unfolding leaves_to
returns-then-writes c = rw (c.done-then-writes.ensures, c.in-IoPort.is, ← c.writes.ensures, c.if-writes.true) refl

pub returns-in-LocalPort : goal.returns-in-LocalPort
unfolding leaves_to
returns-in-LocalPort c = rw (c.done.ensures, c.in-LocalPort.is) refl

pub returns-else-writes : goal.returns-else-writes
unfolding leaves_to
returns-else-writes c = rw (c.in-IoPort.is, ← c.writes.ensures, c.if-writes.false) refl

pub returns-in-Narrow : goal.returns-in-Narrow
unfolding leaves_to
returns-in-Narrow c = rw c.in-Narrow.is refl

pub returns-in-Memory : goal.returns-in-Memory
unfolding leaves_to
returns-in-Memory c = rw (c.done-in-Memory.ensures, c.in-Memory.is) refl

pub returns-in-Beyond : goal.returns-in-Beyond
unfolding leaves_to
returns-in-Beyond c = rw c.in-Beyond.is refl
