use mathlib.Core.Path.{sym, ◌∙◌}
use Rattle.reasons.proofs.Reasons.{after_found, after_next, after_end}
use Rattle.reasons.proofs.judge.first_after.Goals as goal

pub returns-then-is_some : goal.returns-then-is_some
returns-then-is_some c =
    let a = c.args in
    after_found a.sides.now.group a.sides.now.machine.tables.now a.sides.now.machine.memory.now _ c.loop-n-test.true _ c.reason_at-reason.ensures (sym c.is_some.ensures ∙ c.if-is_some.true)
    ∙ sym c.loop-n.invariant

pub loop-n-preserved : goal.loop-n-preserved
loop-n-preserved c =
    let a = c.args in
    c.loop-n.invariant
    ∙ after_next a.sides.now.group a.sides.now.machine.tables.now a.sides.now.machine.memory.now _ c.loop-n-test.true _ c.reason_at-reason.ensures (sym c.is_some.ensures ∙ c.if-is_some.false)

pub returns : goal.returns
returns c = after_end c.args.sides.now.group c.args.sides.now.machine.tables.now c.args.sides.now.machine.memory.now _ c.loop-n-test.false ∙ sym c.loop-n.invariant
