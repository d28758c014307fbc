-- `reach::roots::mark_walk` meets its contract.
-- Assumes nothing.
use native.Mathlib.Omega.{arith}
use Rattle.reach.proofs.Chains.{walk_at, walk_none}
use Rattle.reach.proofs.roots.mark_walk.Goals as goal

pub returns-in-Some : goal.returns-in-Some
returns-in-Some c =
    let w = c.args.walk in
    let e = c.in-Some.ensures in
    walk_at w.first w.second _ (omega (arith, c.level.ensures, e.0)) (omega (arith, c.level.ensures, e.1)) c.mark.ensures

pub returns-in_default : goal.returns-in_default
returns-in_default c = let w = c.args.walk in walk_none _ w.first w.second (omega (arith, c.level.ensures, c.in_default.ensures))
