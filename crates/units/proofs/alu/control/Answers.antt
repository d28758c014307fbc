use Rattle.units.specs.Alu.{alucon}
use native.Mathlib.Nat.{zero-add}
use Rattle.units.proofs.alu.control.Goals as goal

pub returns-then-control_high : goal.returns-then-control_high
unfolding alucon
returns-then-control_high c = rw (c.control_low-low.ensures.0, ← c.control_high.ensures, c.if-control_high.true)

pub returns-else-control_high : goal.returns-else-control_high
unfolding alucon
returns-else-control_high c = rw (c.control_low-low.ensures.0, ← c.control_high.ensures, c.if-control_high.false, zero-add)
