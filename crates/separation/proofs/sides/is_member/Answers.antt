-- `separation::sides::is_member` meets its contract.
-- Assumes nothing.
use mathlib.Core.Path.{ap}
use Prim.Native.Nat.{ℕ, ◌%◌}
use lib.Dec.{eqb}
use Rattle.separation.proofs.sides.is_member.Goals as goal

pub returns : goal.returns
returns c = ap (λ (x : ℕ). eqb (x % 2) 1) c.shift_right.ensures
