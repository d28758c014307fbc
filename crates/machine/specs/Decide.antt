-- What a step decides, on sound tables (11.3; 01, 'Step').
-- Assumes nothing.
use Rattle.std.specs.Prelude.{if◌then◌else◌, Bool, List, ℕ, length, Option, Some, None, Result, Ok, Err}
use Rattle.refusals.specs.declared.Refusal.{Refusal}
use Rattle.refusals.specs.declared.Refusal.TheVariants.{NotAStep, NoNextState}
use Rattle.layout.specs.Blocks.{block}
use Rattle.records.specs.Records.{stores, walks}
use Rattle.tables.specs.Views.{cores_of}
use Rattle.tlb.specs.declared.Change.{Change}
use Rattle.tlb.specs.Steps.{create_on, extend_on, accessed_on}
use Rattle.apic.specs.declared.active.Ipi.{Ipi}
use Rattle.apic.specs.Active.{sending, pending_eoi, may_init, may_start}
use Rattle.ioapic.specs.IoApic.{may_sample, may_deliver}
use Rattle.steps.specs.declared.Step.{Step}
use Rattle.steps.specs.declared.Step.TheVariants.{ByProcessor, ByApic}
use Rattle.steps.specs.declared.ProcessorStep.{ProcessorStep}
use Rattle.steps.specs.declared.ProcessorStep.TheVariants.{Core, TlbCreate, TlbExtend, TlbAccessed, StoreBuffer}
use Rattle.steps.specs.declared.ApicStep.{ApicStep}
use Rattle.steps.specs.declared.ApicStep.TheVariants as kind
use Rattle.steps.specs.Form.{step_of}
use Rattle.cores.specs.declared.Plan.{Plan}
use Rattle.cores.specs.Core.{view_of, io_ports_of, is_free, core_plan}
use Rattle.cores.specs.TlbSteps.{planned}
use Rattle.cores.specs.BufferStep.{buffer_step}
use Rattle.machine.specs.declared.action.Action.{Action}
use Rattle.machine.specs.declared.action.Action.TheVariants.{SendIpi, SendEoi, InitCore, StartCore, Sample, Deliver, SetLine}
use Rattle.machine.specs.Actions.{Effect, Planned, Acts}

-- the one guard of an action
abbrev pub if_allowed : Bool → Action → Result Action Refusal
if_allowed t a = if t then Ok a else Err NoNextState

-- the TLB's decision on a block
abbrev pub planned_on : List ℕ → Result Change Refusal → Result Plan Refusal
planned_on b d = planned (walks b) (is_free b) d

abbrev pub to_send : ℕ → Option Ipi → Result Action Refusal
to_send k (Some m) = Ok (SendIpi k m)
to_send k None = Err NoNextState

abbrev pub to_end : ℕ → Option ℕ → Result Action Refusal
to_end k (Some v) = Ok (SendEoi k v)
to_end k None = Err NoNextState

-- a step of core k, of its TLB or of its store buffer
unfoldable pub by_processor : List ℕ → List ℕ → ℕ → ProcessorStep → Result Plan Refusal
by_processor t m k (Core w_i w_r) = core_plan (view_of (block t k)) (io_ports_of t) m w_i w_r
by_processor t m k (TlbCreate va) = planned_on (block t k) (create_on (block t k) va)
by_processor t m k (TlbExtend w) = planned_on (block t k) (extend_on (block t k) m w)
by_processor t m k (TlbAccessed w) = planned_on (block t k) (accessed_on (block t k) m w)
by_processor t m k StoreBuffer = buffer_step (stores (block t k)) (length m)

-- a step of a local APIC, or on a line
unfoldable pub by_apic : List ℕ → ApicStep → Result Action Refusal
by_apic t (kind.SendIpi k) = to_send k (sending (block t k))
by_apic t (kind.SendEoi k) = to_end k (pending_eoi (block t k))
by_apic t (kind.InitCore k) = if_allowed (may_init (block t k)) (InitCore k)
by_apic t (kind.StartCore k) = if_allowed (may_start (block t k)) (StartCore k)
by_apic t (kind.Sample l) = if_allowed (may_sample t l) (Sample l)
by_apic t (kind.Deliver l) = if_allowed (may_deliver t l) (Deliver l)
by_apic t (kind.SetLine l v) = Ok (SetLine l v)

abbrev pub by_plan : ℕ → Result Plan Refusal → Result Effect Refusal
by_plan k (Ok p) = Ok (Planned k p)
by_plan k (Err r) = Err r

abbrev pub by_action : Result Action Refusal → Result Effect Refusal
by_action (Ok a) = Ok (Acts a)
by_action (Err r) = Err r

-- a step, or words that are none
unfoldable pub by_step : List ℕ → List ℕ → Option Step → Result Effect Refusal
by_step t m (Some (ByProcessor k x)) = by_plan k (by_processor t m k x)
by_step t m (Some (ByApic x)) = by_action (by_apic t x)
by_step t m None = Err NotAStep

-- the six words s
unfoldable pub decided : List ℕ → List ℕ → List ℕ → Result Effect Refusal
decided t m s = by_step t m (step_of (cores_of t) s)
