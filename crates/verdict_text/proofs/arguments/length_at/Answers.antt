use native.Mathlib.Omega.{arith}
use mathlib.Core.Path.{◌≡◌, subst}
use lib.ListN.{length}
use Rattle.verdict_text.proofs.Named.{LongTo, long_more, long_zero, long_last}
use Rattle.verdict_text.proofs.arguments.length_at.Goals as goal

pub returns-then-a-end-eq0 : goal.returns-then-a-end-eq0
returns-then-a-end-eq0 c = (omega arith, long_zero _ _ _ c.loop-end.invariant c.loop-end-test.true c.if-a-end-eq0.true)

pub loop-end-preserved : goal.loop-end-preserved
loop-end-preserved c = long_more _ _ _ c.loop-end.invariant c.loop-end-test.true (omega arith) c.if-a-end-eq0.false

pub returns : goal.returns
returns c =
    let a = c.args.a.now in
    let e : c.loop-end.end ≡ length a = omega (arith, c.loop-end.auto.end-end c.requires) in
    (omega arith, long_last a c.args.at (length a) (subst (LongTo a c.args.at) e c.loop-end.invariant) (omega arith))
