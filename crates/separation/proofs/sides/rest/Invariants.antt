-- `separation::sides::rest` meets its contract. The loop: the bits of the cores passed are set.
-- Assumes nothing.
use mathlib.Core.Path.{◌≡◌}
use Rattle.separation.specs.Apart.{rest_below}
use Rattle.separation.proofs.sides.rest.Given as goal

abbrev pub invariant-loop-k : goal.invariant-loop-k
invariant-loop-k l = l.r ≡ rest_below l.group l.machine.tables.now l.k
