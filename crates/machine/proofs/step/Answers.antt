use mathlib.Core.Path.{sym, ◌∙◌, ap}
use Rattle.machine.proofs.Taking.{not_sound, step_accepted, step_refused, count_asks}
use Rattle.steps.specs.Answers.{answer_number}
use Rattle.machine.proofs.step.Goals as goal

pub returns-then-not-sound : goal.returns-then-not-sound
returns-then-not-sound c = let x = not_sound c.args.t.now c.args.m.now c.args.s.now (sym c.sound.ensures ∙ c.if-not-sound.true) in record { value = x.0; t_after = x.1; m_after = x.2; result_value = ap answer_number x.0 }

pub take-r-requires : goal.take-r-requires
take-r-requires c = sym c.sound.ensures ∙ c.if-not-sound.false

pub returns-then-is_err : goal.returns-then-is_err
returns-then-is_err c =
    let a = c.take-r.ensures in
    let e = sym c.sound.ensures ∙ c.if-not-sound.false in
    let q = sym c.is_err.ensures.value ∙ c.if-is_err.true in
    let x = step_refused c.args.t.now c.args.m.now c.args.s.now e (a.value, (a.t_after, a.m_after)) q c.count.ensures in
    record { value = x.0; t_after = x.1.0; m_after = x.1.1.0; result_value = x.1.1.1 }

pub count-requires : goal.count-requires
count-requires c =
    let a = c.take-r.ensures in
    let e = sym c.sound.ensures ∙ c.if-not-sound.false in
    let q = sym c.is_err.ensures.value ∙ c.if-is_err.true in
    let x = count_asks c.args.t.now c.args.m.now c.args.s.now e (a.value, (a.t_after, a.m_after)) q in
    record { in_bounds = x.0; s_in_bounds = x.1 }

pub returns-else-is_err : goal.returns-else-is_err
returns-else-is_err c =
    let a = c.take-r.ensures in
    let e = sym c.sound.ensures ∙ c.if-not-sound.false in
    let q = sym c.is_err.ensures.value ∙ c.if-is_err.false in
    let x = step_accepted c.args.t.now c.args.m.now c.args.s.now e (a.value, (a.t_after, a.m_after)) q in
    record { value = x.0; t_after = x.1.0; m_after = x.1.1.0; result_value = x.1.1.1 }
