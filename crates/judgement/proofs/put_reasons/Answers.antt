use borrow.Author.Rules.{rules}
use native.Mathlib.Omega.{arith}
use Rattle.judgement.proofs.Answers.{line_done, line_more, line_last}
use Rattle.judgement.proofs.put_reasons.Goals as goal

pub returns-then-after-eq0-clause-text : goal.returns-then-after-eq0-clause-text
returns-then-after-eq0-clause-text g c = let l = c.loop-i in line_done c.args.sides.now.group c.args.sides.now.machine.tables.now c.args.sides.now.machine.memory.now c.args.sides.now.machine.is_sound c.requires.group l._i l.after _ _ c.first_after-r.ensures c.number-after.ensures c.loop-i-test.true _ l.invariant.0 c.if-after-eq0.true

pub put_told-requires : goal.put_told-requires
put_told-requires g c = (search rules, omega (arith, c.loop-i.invariant.1, c.requires.room))

pub loop-i-preserved : goal.loop-i-preserved
loop-i-preserved g c =
    let l = c.loop-i in
    (line_more c.args.sides.now.group c.args.sides.now.machine.tables.now c.args.sides.now.machine.memory.now c.args.sides.now.machine.is_sound c.requires.group l._i l.after _ _ c.first_after-r.ensures c.number-after.ensures c.loop-i-test.true _ l.invariant.0 c.if-after-eq0.false c.put_told.ensures.text, omega (arith, c.put_told.ensures.bound, l.invariant.1))

pub returns-clause-text : goal.returns-clause-text
returns-clause-text g c = let l = c.loop-i in line_last c.args.sides.now.group c.args.sides.now.machine.tables.now c.args.sides.now.machine.memory.now c.args.sides.now.machine.is_sound c.requires.group l._i l.after (omega arith) _ l.invariant.0
