-- Every action that is decided on sound tables may be done.
-- Assumes nothing.
use Rattle.std.specs.Prelude.{Option, Some, None, Result, Ok, Err, IfOk}
use Rattle.refusals.specs.declared.Refusal.{Refusal}
use mathlib.Core.Path.{◌≡◌, refl, subst}
use mathlib.Core.Bool.{Bool, true, false}
use mathlib.Core.List.{List}
use Prim.Native.Nat.{ℕ, ◌+◌, ◌^◌, ◌<◌}
use lib.ListN.{length}
use lib.Dec.{ltb}
use borrow.Author.Tests.{ltb-true, lt-ltb}
use Rattle.word.proofs.Bytes.{Bytes}
use Rattle.word.proofs.Words.{Words}
use Rattle.word.proofs.Truth.{and_left, and_right, and_both}
use Rattle.layout.specs.Layout.{spr, pto}
use Rattle.layout.specs.Blocks.{block}
use Rattle.tables.specs.Views.{cores_of}
use Rattle.tables.specs.Sound.{sound}
use Rattle.tables.proofs.Lift.{core_sound}
use Rattle.apic.specs.declared.active.Ipi.{Ipi}
use Rattle.apic.specs.Active.{sending, pending_eoi, may_init, may_start}
use Rattle.ioapic.specs.IoApic.{may_sample, may_deliver}
use Rattle.steps.specs.declared.Step.{Step}
use Rattle.steps.specs.declared.Step.TheVariants.{ByProcessor, ByApic}
use Rattle.steps.specs.declared.ProcessorStep.TheVariants.{Core, TlbCreate, TlbExtend, TlbAccessed, StoreBuffer}
use Rattle.steps.specs.declared.ProcessorStep.{ProcessorStep}
use Rattle.steps.specs.declared.ApicStep.{ApicStep}
use Rattle.steps.specs.declared.ApicStep.TheVariants as kind
use Rattle.steps.specs.Form.{step_of}
use Rattle.cores.specs.declared.Plan.{Plan}
use Rattle.cores.specs.Core.{io_ports_of}
use Rattle.cores.proofs.Decisions.{PlanMayBeDone, MayBeDone, create_plan, extend_plan, accessed_plan, drain_plan}
use Rattle.cores.proofs.Executions.{core_plan_lem}
use Rattle.machine.specs.declared.action.Action.{Action}
use Rattle.machine.specs.declared.action.Action.TheVariants.{SendIpi, SendEoi, InitCore, StartCore, Sample, Deliver, SetLine}
use Rattle.machine.specs.Actions.{Effect, Planned, Acts}
use Rattle.machine.specs.inner.Doable.{doable}
use Rattle.machine.specs.Decide.{if_allowed, to_send, to_end, by_processor, by_apic, by_plan, by_action, by_step, decided}
use Rattle.machine.specs.inner.Formed.{formed}
use Rattle.machine.proofs.Forms.{Formed, step_formed}
use Rattle.machine.proofs.Fitting.{quarters}
use Rattle.vector_register.specs.Vectors.{is_vector}
use Rattle.vector_register.proofs.Least.{lowest_vector}
use Rattle.apic.proofs.Sendings.{sending_vect}
use Rattle.ioapic.proofs.Blocks.{block_words}

module _ (t m : List ℕ) where
  -- what an action that is decided has for what it does
  abbrev pub ActionAble : Action → Type 0
  ActionAble (SendIpi k i) = (k < cores_of t) × (i.vect < 256)
  ActionAble (SendEoi k v) = (k < cores_of t) × (v < 256)
  ActionAble (InitCore k) = k < cores_of t
  ActionAble (StartCore k) = k < cores_of t
  ActionAble (Sample l) = l < 24
  ActionAble (Deliver l) = l < 24
  ActionAble (SetLine l v) = (l < 24) × (v < 2)

  -- and what is done, a plan or an action
  abbrev pub Able : Effect → Type 0
  Able (Planned k p) = (k < cores_of t) × PlanMayBeDone (length m) (block t k) p
  Able (Acts a) = ActionAble a

  if_able : (b : Bool) (a : Action) → ActionAble a → IfOk (if_allowed b a) ActionAble
  if_able true a p = p
  if_able false a p = tt

  send_able : (k : ℕ) (s : Option Ipi) → k < cores_of t → sending (block t k) ≡ s → IfOk (to_send k s) ActionAble
  send_able k (Some i) h q = (h, sending_vect (block t k) i q)
  send_able k None h q = tt

  end_able : (k : ℕ) (f : Option ℕ) → k < cores_of t → is_vector f ≡ true → IfOk (to_end k f) ActionAble
  end_able k (Some v) h q = (h, ltb-true v 256 q)
  end_able k None h q = tt

  able_doable : (a : Action) → ActionAble a → doable (cores_of t) a ≡ true
  unfolding doable
  able_doable (SendIpi k i) A = and_both (ltb k (cores_of t)) _ (lt-ltb k (cores_of t) A.0) (lt-ltb i.vect 256 A.1)
  able_doable (SendEoi k v) A = and_both (ltb k (cores_of t)) _ (lt-ltb k (cores_of t) A.0) (lt-ltb v 256 A.1)
  able_doable (InitCore k) A = lt-ltb k (cores_of t) A
  able_doable (StartCore k) A = lt-ltb k (cores_of t) A
  able_doable (Sample l) A = lt-ltb l 24 A
  able_doable (Deliver l) A = lt-ltb l 24 A
  able_doable (SetLine l v) A = and_both (ltb l 24) _ (lt-ltb l 24 A.0) (lt-ltb v 2 A.1)

  apic_able : (x : ApicStep) → formed (cores_of t) (ByApic x) ≡ true → IfOk (by_apic t x) ActionAble
  unfolding by_apic
  apic_able (kind.SendIpi k) f = send_able k (sending (block t k)) (ltb-true k (cores_of t) f) refl
  apic_able (kind.SendEoi k) f = end_able k (pending_eoi (block t k)) (ltb-true k (cores_of t) f) (lowest_vector (block t k) _ refl)
  apic_able (kind.InitCore k) f = if_able (may_init (block t k)) (InitCore k) (ltb-true k (cores_of t) f)
  apic_able (kind.StartCore k) f = if_able (may_start (block t k)) (StartCore k) (ltb-true k (cores_of t) f)
  apic_able (kind.Sample l) f = if_able (may_sample t l) (Sample l) (ltb-true l 24 f)
  apic_able (kind.Deliver l) f = if_able (may_deliver t l) (Deliver l) (ltb-true l 24 f)
  apic_able (kind.SetLine l v) f = (ltb-true l 24 (and_left (ltb l 24) _ f), ltb-true v 2 (and_right (ltb l 24) _ f))

  -- what an APIC's step decides may be done
  pub apic_doable : (x : ApicStep) → formed (cores_of t) (ByApic x) ≡ true → {a : Action} → by_apic t x ≡ Ok a → doable (cores_of t) a ≡ true
  apic_doable x f {a} q = able_doable a (subst (λ r. IfOk r ActionAble) q (apic_able x f))

  module _ (e : sound t (length m) ≡ true) (ws : Words t) (bs : Bytes m) where
    plan_able : (k : ℕ) (x : ProcessorStep) → formed (cores_of t) (ByProcessor k x) ≡ true → (k < cores_of t) × MayBeDone (length m) (block t k) (by_processor t m k x)
    unfolding by_processor
    plan_able k (Core w_i w_r) f = (ltb-true k (cores_of t) f, core_plan_lem (block t k) (io_ports_of t) m w_i w_r (quarters t (length m) e))
    plan_able k (TlbCreate va) f =
        let l : va < 2 ^ 20 = ltb-true va (2 ^ 20) (and_right (ltb k (cores_of t)) _ f) in
        (ltb-true k (cores_of t) (and_left (ltb k (cores_of t)) _ f), create_plan (block t k) m va l (block_words t k ws (spr + pto)))
    plan_able k (TlbExtend w) f =
        let h : k < cores_of t = ltb-true k (cores_of t) f in
        (h, extend_plan (block t k) m w (core_sound t (length m) e k h) bs)
    plan_able k (TlbAccessed w) f = (ltb-true k (cores_of t) f, accessed_plan (block t k) m w)
    plan_able k StoreBuffer f =
        let h : k < cores_of t = ltb-true k (cores_of t) f in
        (h, drain_plan (length m) (block t k) (core_sound t (length m) e k h))

    -- a plan that is decided may be done
    pub plan_doable : (k : ℕ) (x : ProcessorStep) → formed (cores_of t) (ByProcessor k x) ≡ true → {p : Plan} → by_processor t m k x ≡ Ok p → Able (Planned k p)
    plan_doable k x f q = let d = plan_able k x f in (d.0, subst (λ r. IfOk r (PlanMayBeDone (length m) (block t k))) q d.1)

    of_plan : (k : ℕ) (r : Result Plan Refusal) → (k < cores_of t) × MayBeDone (length m) (block t k) r → IfOk (by_plan k r) Able
    of_plan k (Ok p) d = d
    of_plan k (Err r) d = tt

    of_action : (r : Result Action Refusal) → IfOk r ActionAble → IfOk (by_action r) Able
    of_action (Ok a) d = d
    of_action (Err r) d = tt

    step_able : (x : Option Step) → Formed (cores_of t) x → IfOk (by_step t m x) Able
    unfolding by_step
    step_able (Some (ByProcessor k x)) f = of_plan k (by_processor t m k x) (plan_able k x f)
    step_able (Some (ByApic x)) f = of_action (by_apic t x) (apic_able x f)
    step_able None f = tt

    pub decided_able : (s : List ℕ) → IfOk (decided t m s) Able
    unfolding decided
    decided_able s = step_able (step_of (cores_of t) s) (step_formed (cores_of t) s)
