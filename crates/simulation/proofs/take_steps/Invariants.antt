use mathlib.Core.Path.{◌≡◌}
use Prim.Native.Nat.{◌+◌, ◌-◌, ◌*◌, ◌≤◌}
use lib.ListN.{length}
use Rattle.text.specs.Text.{Put}
use Rattle.simulation.specs.Simulated.{from, after_steps, step_lines}
use Rattle.simulation.proofs.take_steps.Given as goal

abbrev pub invariant-loop-i : goal.invariant-loop-i
invariant-loop-i l =
    (length l.t ≡ length l.initial.t) × (length l.m ≡ length l.initial.m) × (l.i ≤ l.n) × (l.written ≤ 52 * l.i) × (l.taken ≤ l.place + l.i) × Put l.initial.out 0 (step_lines l.i l.place (from l.initial.t l.initial.m l.earlier) l.input) l.written l.out
    × (from l.t l.m l.taken ≡ after_steps l.i (from l.initial.t l.initial.m l.earlier) l.input)

abbrev pub decreases-loop-i : goal.decreases-loop-i
decreases-loop-i l = l.n - l.i
