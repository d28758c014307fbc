-- What step answers on sound tables: an interrupt's level is 0 to 7, a refusal's number 5 to 10.
-- Assumes nothing.
use Rattle.std.specs.Prelude.{Option, Some, None, Result, Ok, Err}
use Rattle.refusals.specs.declared.Refusal.{Refusal}
use mathlib.Core.Path.{◌≡◌, refl}
use mathlib.Core.Bool.{Bool, true, false}
use mathlib.Core.List.{List}
use Prim.Native.Nat.{ℕ}
use lib.ListN.{length}
use Rattle.layout.specs.Blocks.{block}
use Rattle.records.specs.Records.{stores}
use Rattle.tables.specs.Views.{cores_of}
use Rattle.apic.specs.declared.active.Ipi.{Ipi}
use Rattle.apic.specs.Active.{sending, pending_eoi, may_init, may_start}
use Rattle.ioapic.specs.IoApic.{may_sample, may_deliver}
use Rattle.steps.specs.declared.Step.{Step}
use Rattle.steps.specs.declared.Step.TheVariants.{ByProcessor, ByApic}
use Rattle.steps.specs.declared.ProcessorStep.TheVariants.{Core, TlbCreate, TlbExtend, TlbAccessed, StoreBuffer}
use Rattle.steps.specs.declared.ApicStep.TheVariants as kind
use Rattle.steps.specs.Form.{step_of}
use Rattle.cores.specs.declared.Plan.{Plan}
use Rattle.cores.specs.Core.{view_of, io_ports_of, is_free}
use Rattle.machine.specs.declared.action.Action.{Action}
use Rattle.machine.specs.declared.action.Action.TheVariants as action
use Rattle.machine.specs.Actions.{Effect, answer_of}
use Rattle.machine.specs.Decide.{if_allowed, to_send, to_end, by_processor, by_apic, by_plan, by_action, by_step, decided}
use Rattle.machine.specs.Step.{after, taken}
use Rattle.machine.proofs.Levels.{known, answered, core_known, create_known, extend_known, accessed_known, buffer_known}

action_known : Result Action Refusal → Type 0
action_known r = known (answer_of (by_action r)) ≡ true

allowed_known : (t : Bool) (a : Action) → action_known (if_allowed t a)
unfolding known action_known
allowed_known true a = refl
allowed_known false a = refl

send_known : (k : ℕ) (s : Option Ipi) → action_known (to_send k s)
unfolding known action_known
send_known k (Some m) = refl
send_known k None = refl

end_known : (k : ℕ) (f : Option ℕ) → action_known (to_end k f)
unfolding known action_known
end_known k (Some v) = refl
end_known k None = refl

plan_known : (k : ℕ) (r : Result Plan Refusal) → known (answered r) ≡ true → known (answer_of (by_plan k r)) ≡ true
plan_known k (Ok p) e = e
plan_known k (Err r) e = e

by_step_known : (t m : List ℕ) (x : Option Step) → known (answer_of (by_step t m x)) ≡ true
unfolding by_step by_processor by_apic known action_known
by_step_known t m (Some (ByProcessor k (Core w_i w_r))) = plan_known k (by_processor t m k (Core w_i w_r)) (core_known (view_of (block t k)) (io_ports_of t) m w_i w_r)
by_step_known t m (Some (ByProcessor k (TlbCreate va))) = plan_known k (by_processor t m k (TlbCreate va)) (create_known (block t k) m (is_free (block t k)) va)
by_step_known t m (Some (ByProcessor k (TlbExtend w))) = plan_known k (by_processor t m k (TlbExtend w)) (extend_known (block t k) m (is_free (block t k)) w)
by_step_known t m (Some (ByProcessor k (TlbAccessed w))) = plan_known k (by_processor t m k (TlbAccessed w)) (accessed_known (block t k) m (is_free (block t k)) w)
by_step_known t m (Some (ByProcessor k StoreBuffer)) = plan_known k (by_processor t m k StoreBuffer) (buffer_known (stores (block t k)) (length m))
by_step_known t m (Some (ByApic (kind.SendIpi k))) = send_known k (sending (block t k))
by_step_known t m (Some (ByApic (kind.SendEoi k))) = end_known k (pending_eoi (block t k))
by_step_known t m (Some (ByApic (kind.InitCore k))) = allowed_known (may_init (block t k)) (action.InitCore k)
by_step_known t m (Some (ByApic (kind.StartCore k))) = allowed_known (may_start (block t k)) (action.StartCore k)
by_step_known t m (Some (ByApic (kind.Sample l))) = allowed_known (may_sample t l) (action.Sample l)
by_step_known t m (Some (ByApic (kind.Deliver l))) = allowed_known (may_deliver t l) (action.Deliver l)
by_step_known t m (Some (ByApic (kind.SetLine l v))) = refl
by_step_known t m None = refl

pub after_answer : (s : List ℕ) (x : Result Effect Refusal) (t m : List ℕ) → (after s x t m).answer ≡ answer_of x
unfolding after
after_answer s (Ok x) t m = refl
after_answer s (Err r) t m = refl

-- on sound tables
pub taken_known : (t m s : List ℕ) → known (taken t m s).answer ≡ true
unfolding taken decided
taken_known t m s = rw (after_answer s (decided t m s) t m) (by_step_known t m (step_of (cores_of t) s))
