use Rattle.std.specs.Prelude.{is_err}
use mathlib.Core.Path.{sym, ◌∙◌, ap, refl}
use native.Mathlib.Omega.{arith}
use Prim.Native.Nat.{◌*◌}
use lib.ListN.{drop, length}
use lib.Seq.{drop-drop}
use Rattle.machine.proofs.Running.{begins, few_accepted, ends, chunk_lem, spent, refused_there, accepted_there, same_result}
use Rattle.machine.proofs.Taking.{step_accepted, step_refused, count_asks}
use Rattle.machine.proofs.run.steps.Goals as goal

pub loop-step-init : goal.loop-step-init
loop-step-init c = (
  begins c.args.schedule.now c.args.limit c.args.t.now c.args.m.now c.requires.schedule_value c.requires.m_value (λ i. omega (arith, c.type_inv.t i)) (λ i. omega (arith, c.type_inv.m i)),
  (rw c.into_iter-step-iterator.ensures.into_iter_gives c.chunks_exact-step-items.ensures.rest, rw c.into_iter-step-iterator.ensures.into_iter_gives c.chunks_exact-step-items.ensures.size),
  (refl, refl),
)

pub returns-then-accepted-limit : goal.returns-then-accepted-limit
returns-then-accepted-limit c =
    let I = c.loop-step.invariant in
    let z = c.in-Some.ensures.steps in
    let h = chunk_lem (sym I.1.0 ∙ z.1.0) (z.1.1 ∙ I.1.1) in
    same_result c.new.ensures refl refl (spent I.0 h.long c.if-accepted-limit.true)

pub take-requires : goal.take-requires
take-requires c = c.loop-step.invariant.0.stays_sound

pub count-requires : goal.count-requires
count-requires c =
    let a = c.in-Err.ensures in
    let x = count_asks _ _ _ c.loop-step.invariant.0.stays_sound (a.value, (a.t_after, a.m_after)) refl in
    record { in_bounds = x.0; s_in_bounds = x.1 }

pub returns-in-Err : goal.returns-in-Err
returns-in-Err c =
    let I = c.loop-step.invariant in
    let z = c.in-Some.ensures.steps in
    let h = chunk_lem (sym I.1.0 ∙ z.1.0) (z.1.1 ∙ I.1.1) in
    let a = c.in-Err.ensures in
    let x = step_refused _ _ _ I.0.stays_sound (a.value, (a.t_after, a.m_after)) refl c.count.ensures in
    same_result c.new-in-Err.ensures refl refl (refused_there I.0 h.long c.if-accepted-limit.false _ h.next_is _ _ _ x _ refl)

pub overflow_add-accepted : goal.overflow_add-accepted
overflow_add-accepted c = let h = few_accepted c.loop-step.invariant.0 in record { fits = omega (arith, h) }

pub loop-step-preserved : goal.loop-step-preserved
loop-step-preserved c =
    let I = c.loop-step.invariant in
    let z = c.in-Some.ensures.steps in
    let h = chunk_lem (sym I.1.0 ∙ z.1.0) (z.1.1 ∙ I.1.1) in
    let a = c.take.ensures in
    let x = step_accepted _ _ _ I.0.stays_sound (a.value, (a.t_after, a.m_after)) (ap is_err c.in_default.is) in (
      accepted_there I.0 h.long c.if-accepted-limit.false _ h.next_is _ _ _ x _ c.in_default.is (λ i. omega (arith, c.type_inv.t i)) (λ i. omega (arith, c.type_inv.m i)),
      (h.rest_is ∙ drop-drop 6 (6 * c.loop-step.accepted) c.args.schedule.now ∙ ap (λ k. drop k c.args.schedule.now) (omega arith), z.0 ∙ I.1.1),
      (c.take.auto.t ∙ I.2.0, c.take.auto.m ∙ I.2.1),
    )

pub returns : goal.returns
returns c =
    let I = c.loop-step.invariant in
    let z = c.in-None.ensures.steps in
    same_result c.new-2.ensures refl refl (ends I.0 (omega (arith, z.1.0, I.1.1, ap length I.1.0)))
