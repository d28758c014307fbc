use native.Mathlib.Omega.{arith}
use lib.ListN.{drop, length-drop}
use Rattle.text.proofs.Texts.{told}
use Rattle.verdict_text.proofs.Said.{said_long_argument, said_argument}
use Rattle.verdict_text.proofs.put_no_core.Goals as goal

pub returns-then-n-gt16-clause-text : goal.returns-then-n-gt16-clause-text
returns-then-n-gt16-clause-text g c =
    let n = c.length_at-n.ensures in
    told _ _ c.put_no_core.ensures.text
    (said_long_argument (drop c.args.at c.args.a.now) _ c.args.at _ (omega (arith, length-drop c.args.at c.args.a.now, n.0)) n.1 c.if-n-gt16.true)

pub returns-clause-text : goal.returns-clause-text
returns-clause-text g c =
    let n = c.length_at-n.ensures in
    told _ _ c.put_no_core-2.ensures.text
    (said_argument (drop c.args.at c.args.a.now) _ c.args.at _ (omega (arith, length-drop c.args.at c.args.a.now, n.0)) n.1 c.if-n-gt16.false)
