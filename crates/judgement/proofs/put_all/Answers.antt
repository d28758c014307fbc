-- `judgement::put_all` meets its contract.
-- Assumes nothing.
use mathlib.Core.Path.{refl, ap, ◌∙◌}
use mathlib.Core.Bool.{Bool, not}
use borrow.Author.Rules.{rules}
use native.Mathlib.Omega.{arith}
use Rattle.text.proofs.Texts.{grown}
use Rattle.judgement.proofs.Answers.{verdict_yes, verdict_no, said_yes, said_no}
use Rattle.judgement.proofs.put_all.Goals as goal

pub put_end-requires : goal.put_end-requires
put_end-requires g c = (search rules, omega (arith, c.requires.room, c.put_sides.ensures.bound))

pub returns-then-is_none-clause-text : goal.returns-then-is_none-clause-text
returns-then-is_none-clause-text g c =
    let V = c.args.sides.now in
    let t = V.machine.tables.now in
    let m = V.machine.memory.now in
    let none = ap not c.is_none.ensures ∙ ap (λ (b : Bool). not (not b)) c.if-is_none.true in
    let v = verdict_yes V.group t m V.machine.is_sound c.requires.group _ _ c.first_after-r.ensures refl none in
    grown _ _ _ c.put_sides.ensures.text c.put_end.ensures.text (said_yes V.group t m v)

pub put_reasons-requires : goal.put_reasons-requires
put_reasons-requires g c = (search rules, (c.requires.group, omega (arith, c.requires.room, c.put_sides.ensures.bound)))

pub put_end-requires-2 : goal.put_end-requires-2
put_end-requires-2 g c = (search rules, omega (arith, c.requires.room, c.put_sides.ensures.bound, c.put_reasons.ensures.bound))

pub returns-clause-text : goal.returns-clause-text
returns-clause-text g c =
    let V = c.args.sides.now in
    let t = V.machine.tables.now in
    let m = V.machine.memory.now in
    let some = ap not c.is_none.ensures ∙ ap (λ (b : Bool). not (not b)) c.if-is_none.false in
    let v = verdict_no V.group t m V.machine.is_sound c.requires.group _ _ c.first_after-r.ensures refl some in
    grown _ _ _ (grown _ _ _ c.put_sides.ensures.text c.put_reasons.ensures.text refl) c.put_end-2.ensures.text (said_no V.group t m v)
