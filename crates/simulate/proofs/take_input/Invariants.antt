use mathlib.Core.Path.{◌≡◌}
use Prim.Native.Nat.{◌*◌, ◌≤◌}
use lib.ListN.{length}
use Rattle.simulate.proofs.take_input.Given as goal

abbrev pub invariant-loop-parts : goal.invariant-loop-parts
invariant-loop-parts g l = (length l.t ≡ length l.initial.t) × (length l.m ≡ length l.initial.m) × (l.steps ≤ 1024 * l._parts) × (l.accepted ≤ l.steps)
