-- `separation::sides::all_in_user_mode` meets its contract. The loop: what is gathered is the test of the cores passed.
-- Assumes nothing.
use mathlib.Core.Path.{◌≡◌}
use Rattle.records.specs.Records.{all}
use Rattle.reach.specs.Lists.{range}
use Rattle.separation.specs.inner.Sides.{passes}
use Rattle.separation.proofs.sides.all_in_user_mode.Given as goal

abbrev pub invariant-loop-k : goal.invariant-loop-k
invariant-loop-k l = l.good ≡ all (passes l.group l.t) (range l.k)
