-- A step and its action, case by case: what each answer rests on.
-- Assumes nothing.
use Rattle.std.specs.Prelude.{Option, Some, None, Result, Ok, Err, IfOk}
use Rattle.refusals.specs.declared.Refusal.{Refusal}
use Rattle.refusals.specs.declared.Refusal.TheVariants.{NotAStep, NoNextState, ByteNowhere, StoresFull, WalksFull}
use mathlib.Core.Path.{◌≡◌, sym, ◌∙◌, ap}
use mathlib.Core.Bool.{true, false}
use mathlib.Core.List.{List}
use Prim.Native.Nat.{ℕ, ◌^◌, ◌<◌}
use lib.Dec.{eqb, ltb}
use lib.ListN.{length}
use Rattle.word.proofs.Tests.{true_false}
use Rattle.isa.specs.Interrupts.{ovf_of}
use Rattle.records.specs.declared.Walk.{Walk}
use Rattle.steps.specs.declared.Answer.TheVariants.{Done, Interrupt}
use Rattle.steps.specs.declared.Step.{Step}
use Rattle.steps.specs.declared.Step.TheVariants.{ByProcessor, ByApic}
use Rattle.steps.specs.declared.ProcessorStep.TheVariants.{Core, TlbCreate, TlbExtend, TlbAccessed, StoreBuffer}
use Rattle.steps.specs.declared.ApicStep.TheVariants.{SendIpi, SendEoi, InitCore, StartCore, Sample, Deliver, SetLine}
use Rattle.machine.specs.Actions.{Effect, answer_of, tables_after, memory_after}
use Rattle.report.specs.Delta as report
use Rattle.report.specs.View.{view}
use Rattle.report.specs.Needs.{misses}
use Rattle.report.specs.Demands.{Allowed, Next, Full, Adds, Crowded}

-- 0 for no step, 1 for a step that adds a walk, 2 for any other
abbrev sort : Option Step → ℕ
sort (Some (ByProcessor k (Core v w))) = 2
sort (Some (ByProcessor k (TlbCreate va))) = 1
sort (Some (ByProcessor k (TlbExtend w))) = 1
sort (Some (ByProcessor k (TlbAccessed w))) = 2
sort (Some (ByProcessor k StoreBuffer)) = 2
sort (Some (ByApic (SendIpi k))) = 2
sort (Some (ByApic (SendEoi k))) = 2
sort (Some (ByApic (InitCore k))) = 2
sort (Some (ByApic (StartCore k))) = 2
sort (Some (ByApic (Sample l))) = 2
sort (Some (ByApic (Deliver l))) = 2
sort (Some (ByApic (SetLine l v))) = 2
sort None = 0

pub is_a_step : (x : Option Step) → ltb 0 (sort x) ≡ true → x ≡ None → ⊥
is_a_step x e q = true_false (sym e ∙ ap (λ (y : Option Step). ltb 0 (sort y)) q)

pub adds_none : (t m : List ℕ) (x : Option Step) → eqb (sort x) 2 ≡ true → (M : ℕ → ℕ) → Crowded t m x M → ⊥
adds_none t m x e M C = go C.i C.w C.adds
  where
    go : (i : ℕ) (w : Walk) → Adds t m x M i w → ⊥
    go i w (Adds.creates j va q) = true_false (sym e ∙ ap (λ (y : Option Step). eqb (sort y) 2) q)
    go i w (Adds.extends j v q) = true_false (sym e ∙ ap (λ (y : Option Step). eqb (sort y) 2) q)

module _ (t m : List ℕ) (x : Option Step) where
  -- δ by the trade's rule on the tables, with any bytes beyond memory
  abbrev pub δx : (ℕ → ℕ) → report.Outcome
  δx M = report.δBy ovf_of (view t m M) x

  abbrev pub Has : Type 0
  Has = (M : ℕ → ℕ) (y : ℕ) → misses (view t m M) x (length m) y ≡ false

  abbrev pub Roomy : Type 0
  Roomy = (M : ℕ → ℕ) → Crowded t m x M → ⊥

  abbrev pub Leads : Result Effect Refusal → report.Answer → Type 0
  Leads A r = IfOk A (λ a. (M : ℕ → ℕ) → Next (δx M) r (view (tables_after a t) (memory_after a m) M))

  -- the step x, where A is what was decided; the constructors of Ground, with the step and what was decided as
  -- variables
  pub data Case (A : Result Effect Refusal) : Type 0 where
    done : answer_of A ≡ Ok Done → Roomy → Has → Leads A report.done → Case A
    interrupt : (level : ℕ) → answer_of A ≡ Ok (Interrupt level) → Roomy → Has → Leads A (report.interrupt level) → Case A
    no_step : answer_of A ≡ Err NotAStep → x ≡ None → Case A
    undefined : answer_of A ≡ Err NoNextState → (x ≡ None → ⊥) → ((M : ℕ → ℕ) → δx M ≡ report.none) → Case A
    no_byte : answer_of A ≡ Err ByteNowhere → (y : ℕ) → ((M : ℕ → ℕ) → misses (view t m M) x (length m) y ≡ true) →
        (M : ℕ → ℕ) → ((z : ℕ) → M z < 2 ^ 8) → Allowed (δx M) → Case A
    no_store : answer_of A ≡ Err StoresFull → Has → ((M : ℕ → ℕ) → Allowed (δx M)) → ((M : ℕ → ℕ) → Full t m x M) → Case A
    no_walk : answer_of A ≡ Err WalksFull → Has → ((M : ℕ → ℕ) → Allowed (δx M)) → ((M : ℕ → ℕ) → Crowded t m x M) → Case A
