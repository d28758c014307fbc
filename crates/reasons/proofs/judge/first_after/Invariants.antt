-- `reasons::judge::first_after` meets its contract. The invariant: the first reason after n is the one after the first
-- n.
-- Assumes nothing.
use mathlib.Core.Path.{◌≡◌}
use Prim.Native.Nat.{◌-◌}
use Rattle.reasons.specs.Why.{first_after}
use Rattle.reasons.proofs.judge.first_after.Given as goal

abbrev pub invariant-loop-n : goal.invariant-loop-n
invariant-loop-n l =
    first_after l.sides.group l.sides.machine.tables.now l.sides.machine.memory.now (6 - l.after) l.after
    ≡ first_after l.sides.group l.sides.machine.tables.now l.sides.machine.memory.now (6 - l.n) l.n
