-- `translate::put_three` meets its contract: three words one after the other.
-- Assumes nothing.
use mathlib.Core.Path.{◌≡◌, ap₂}
use mathlib.Core.List.{[], ◌∷◌}
use Prim.Native.Nat.{ℕ, suc, ◌+◌}
use native.Mathlib.Omega.{arith}
use lib.ListN.{set, length-set}
use lib.Seq.{length-sets}
use Rattle.translate.proofs.put_three.Goals as goal

pub bounds-answers-at-2 : goal.bounds-answers-at-2
bounds-answers-at-2 c = let a = c.args in omega (arith, length-set a.answers.now a.at a.first)

pub bounds-answers-at-3 : goal.bounds-answers-at-3
bounds-answers-at-3 c = let a = c.args in omega (arith, length-sets a.answers.now a.at (a.first ∷ []), length-set (set a.answers.now a.at a.first) (a.at + 1) a.second)

pub returns : goal.returns
returns c = let a = c.args in let u : a.at + 1 ≡ suc a.at = omega arith in let v : a.at + 2 ≡ suc (suc a.at) = omega arith in ap₂ (λ (i j : ℕ). set (set (set a.answers.now a.at a.first) i a.second) j a.third) u v
