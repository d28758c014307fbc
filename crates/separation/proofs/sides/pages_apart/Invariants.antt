-- `separation::sides::pages_apart` meets its contract. The loop: what is gathered is the test of the pages passed.
-- Assumes nothing.
use mathlib.Core.Path.{◌≡◌}
use lib.ListN.{get_or}
use Rattle.records.specs.Records.{all}
use Rattle.reach.specs.Lists.{range}
use Rattle.separation.specs.inner.Sides.{page_apart}
use Rattle.separation.proofs.sides.pages_apart.Given as goal

abbrev pub invariant-loop-i : goal.invariant-loop-i
invariant-loop-i l = l.good ≡ all (λ j. page_apart (get_or l.own j 0) (get_or l.other j 0)) (range l.i)
