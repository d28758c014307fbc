-- `judgement::put_reasons` meets its contract. The invariant: the lines put and those left are all of them.
-- Assumes nothing.
use mathlib.Core.Path.{◌≡◌}
use mathlib.Core.List.{◌++◌}
use Prim.Native.Nat.{◌+◌, ◌*◌, ◌-◌, ◌≤◌}
use lib.ListN.{length}
use Rattle.reason_lines.specs.Reasons.{reason_lines}
use Rattle.judgement.proofs.put_reasons.Given as goal

abbrev pub invariant-loop-i : goal.invariant-loop-i
invariant-loop-i g l = (l.text ++ reason_lines (6 - l._i) l.after l.sides.group l.sides.machine.tables.now l.sides.machine.memory.now ≡ l.initial.text ++ reason_lines 6 0 l.sides.group l.sides.machine.tables.now l.sides.machine.memory.now) × (length l.text ≤ length l.initial.text + 456 * l._i)
