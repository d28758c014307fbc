-- `verdict_text::arguments::ask` meets its contract: argument by argument, what is asked stays the same.
-- Assumes nothing.
use mathlib.Core.Path.{◌≡◌}
use Prim.Native.Nat.{◌-◌}
use lib.ListN.{length, drop}
use Rattle.verdict_text.specs.Arguments.{arguments_in, asked_from}
use Rattle.verdict_text.proofs.arguments.ask.Given as goal

abbrev pub invariant-loop-at : goal.invariant-loop-at
invariant-loop-at l = asked_from 0 (arguments_in l.a) ≡ asked_from l.group (arguments_in (drop l.at l.a))

abbrev pub decreases-loop-at : goal.decreases-loop-at
decreases-loop-at l = length l.a - l.at
