use Rattle.std.specs.Prelude.{Option, Some, Result, Ok, Err}
use Rattle.refusals.specs.declared.Refusal.{Refusal}
use mathlib.Core.Path.{◌≡◌, subst, sym, ◌∙◌, ap, refl}
use mathlib.Core.Bool.{true}
use mathlib.Core.List.{List}
use Prim.Native.Nat.{ℕ}
use lib.ListN.{length}
use native.Mathlib.Omega.{arith}
use Rattle.tables.specs.Views.{cores_of}
use Rattle.steps.specs.declared.Step.{Step}
use Rattle.steps.specs.Form.{step_of}
use Rattle.machine.specs.declared.action.Action.{Action}
use Rattle.machine.specs.Actions.{memory_after}
use Rattle.machine.specs.Decide.{by_action, by_apic, by_step, decided}
use Rattle.machine.specs.Step.{Stepped}
use Rattle.machine.specs.inner.Formed.{formed}
use Rattle.machine.specs.inner.Tried.{tried}
use Rattle.machine.proofs.Fitting.{header_words}
use Rattle.machine.proofs.Forms.{Formed, step_formed}
use Rattle.machine.proofs.take.Goals as goal

-- what the words of a step bound, once it is known
found : (n : ℕ) (s : List ℕ) {x : Step} → step_of n s ≡ Some x → formed n x ≡ true
found n s e = subst (Formed n) e (step_formed n s)

-- what a step that is known leaves
known : (t m : List ℕ) {x y : Option Step} → x ≡ y → tried (by_step t m x) t m ≡ tried (by_step t m y) t m
known t m e = ap (λ z. tried (by_step t m z) t m) e

-- an action leaves memory
still : (t m : List ℕ) (r : Result Action Refusal) → m ≡ (tried (by_action r) t m).memory
unfolding tried memory_after
still t m (Ok a) = refl
still t m (Err r) = refl

pub bounds-t-0 : goal.bounds-t-0
bounds-t-0 c = let h = header_words c.args.t.now (length c.args.m.now) c.requires in omega (arith, h)

pub by_plan-requires : goal.by_plan-requires
by_plan-requires c =
    let e = sym c.in-Some-ByProcessor.ensures ∙ ap Some c.in-Some-ByProcessor.field-0-is in
    record { m_value = c.requires; p_value = found (cores_of c.args.t.now) c.args.s.now e }

pub by_action-requires : goal.by_action-requires
by_action-requires c =
    let e = sym c.in-Some-ByApic.ensures ∙ ap Some c.in-Some-ByApic.field-0-is in
    record { m_value = c.requires; p_value = found (cores_of c.args.t.now) c.args.s.now e }

pub returns-in-Some-ByProcessor : goal.returns-in-Some-ByProcessor
unfolding decided
returns-in-Some-ByProcessor c =
    let e = sym (sym c.in-Some-ByProcessor.ensures ∙ ap Some c.in-Some-ByProcessor.field-0-is) in
    let k = known c.args.t.now c.args.m.now e in
    record {
      value = c.by_plan.ensures.value ∙ ap (λ (r : Stepped). r.answer) k;
      t_after = c.by_plan.ensures.t_after ∙ ap (λ (r : Stepped). r.tables) k;
      m_after = c.by_plan.ensures.m_after ∙ ap (λ (r : Stepped). r.memory) k;
    }

pub returns-in-Some-ByApic : goal.returns-in-Some-ByApic
unfolding decided by_step
returns-in-Some-ByApic c =
    let e = sym (sym c.in-Some-ByApic.ensures ∙ ap Some c.in-Some-ByApic.field-0-is) in
    let k = known c.args.t.now c.args.m.now e in
    record {
      value = c.by_action.ensures.value ∙ ap (λ (r : Stepped). r.answer) k;
      t_after = c.by_action.ensures.t_after ∙ ap (λ (r : Stepped). r.tables) k;
      m_after = still c.args.t.now c.args.m.now (by_apic c.args.t.now c.in-Some-ByApic.p) ∙ ap (λ (r : Stepped). r.memory) k;
    }

pub returns-in-None : goal.returns-in-None
unfolding decided by_step tried
returns-in-None c =
    record { value = rw (← c.in-None.ensures) refl; t_after = rw (← c.in-None.ensures) refl; m_after = rw (← c.in-None.ensures) refl }
