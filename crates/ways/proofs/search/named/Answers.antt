-- `ways::search::named` meets its contract.
-- Assumes nothing.
use mathlib.Core.Path.{◌≡◌, ap}
use Prim.Native.Nat.{ℕ, ◌-◌, ◌/◌, ◌%◌, ◌^◌}
use native.Mathlib.Omega.{arith}
use lib.Dec.{eqb}
use Rattle.ways.specs.Ways.{naming}
use Rattle.ways.proofs.search.named.Goals as goal

pub returns : goal.returns
returns c = let e = c.args.e in let h : e / 256 % 2 ≡ e / 2 ^ 8 % 2 ^ 3 / 2 ^ 0 % 2 = omega arith in ap (λ (z : ℕ). naming (c.args.level - 1) (e / 2 ^ 12) (eqb z 1)) h
