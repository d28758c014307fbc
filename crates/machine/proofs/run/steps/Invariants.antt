use mathlib.Core.Path.{◌≡◌}
use Prim.Native.Nat.{◌*◌}
use lib.ListN.{length, drop}
use Rattle.machine.proofs.Running.{Running}
use Rattle.machine.proofs.run.steps.Given as goal

abbrev pub invariant-loop-step : goal.invariant-loop-step
invariant-loop-step l =
    Running l.schedule l.limit l.initial.t l.initial.m l.t l.m l.accepted
    × ((l.step-iterator.rest.now ≡ drop (6 * l.accepted) l.schedule) × (l.step-iterator.size ≡ 6))
    × ((length l.t ≡ length l.initial.t) × (length l.m ≡ length l.initial.m))
