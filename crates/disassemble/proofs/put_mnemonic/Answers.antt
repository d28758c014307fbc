use native.Mathlib.Omega.{arith}
use Rattle.disassemble.proofs.Shown.{letters_end, letters_zero, letters_next, letter_more}
use Rattle.disassemble.proofs.put_mnemonic.Goals as goal

pub returns-then-letter-eq0 : goal.returns-then-letter-eq0
returns-then-letter-eq0 c = letters_zero _ _ _ _ c.loop-n.invariant c.loop-n-test.true c.if-letter-eq0.true

pub bounds-text-n : goal.bounds-text-n
bounds-text-n c =
    let l = c.loop-n in
    omega (arith, l.auto.text, c.requires, (letters_next c.args.mnemonic.now l.n c.loop-n-test.true l.invariant.1 c.if-letter-eq0.false).0)

pub loop-n-preserved : goal.loop-n-preserved
loop-n-preserved c =
    letter_more _ _ _ _ c.loop-n.invariant c.requires c.loop-n-test.true c.if-letter-eq0.false

pub returns : goal.returns
returns c = letters_end _ _ _ _ c.loop-n.invariant c.loop-n-test.false
