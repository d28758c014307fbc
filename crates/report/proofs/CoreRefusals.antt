-- The refusals 6 of a core's step: a guard of the report fails, whatever is beyond memory. And when all guards hold.
-- Assumes nothing.
use Rattle.std.specs.Prelude.{if◌then◌else◌, Some, Result, Err}
use Rattle.refusals.specs.declared.Refusal.{Refusal}
use Rattle.refusals.specs.declared.Refusal.TheVariants.{NoNextState}
use mathlib.Core.Path.{◌≡◌, refl, sym, ◌∙◌, ap}
use mathlib.Core.Bool.{Bool, true, false, not, ◌&&◌, ◌||◌}
use mathlib.Core.List.{List}
use Prim.Native.Nat.{ℕ, ◌<◌}
use lib.Dec.{eqb}
use native.Mathlib.Omega.{arith}
use Rattle.word.proofs.Tests.{true_false, and_false}
use Rattle.word.proofs.Truth.{and_left, and_right, and-true}
use Rattle.decode.specs.declared.Instruction.{Instruction}
use Rattle.decode.specs.Table.{decoded}
use Rattle.decode.specs.Mnemonics.{load, store, cas}
use Rattle.isa.specs.Core.{ea, d}
use Rattle.isa.specs.Interrupts.{ovf_of, user, jisr, il}
use Rattle.records.specs.declared.Walk.{Walk}
use Rattle.records.specs.Records.{among}
use Rattle.tlb.specs.Walks.{complete, hit}
use Rattle.store_buffer.specs.Buffer.{sbhazard}
use Rattle.store_buffer.specs.System.{is_port}
use Rattle.tables.specs.Views.{cores_of}
use Rattle.steps.specs.declared.Step.TheVariants.{ByProcessor}
use Rattle.steps.specs.declared.ProcessorStep.TheVariants.{Core}
use Rattle.cores.specs.declared.Plan.{Plan}
use Rattle.cores.specs.Core.{View, physical, is_access, finds_buffer, avoids_ports, has_hazard, data_request_of, fetch_request_of}
use Rattle.machine.specs.Decide.{by_plan}
use Rattle.report.specs.Configuration.{Configuration, with_m}
use Rattle.report.specs.Components.{bytes, fault}
use Rattle.report.specs.Delta as report
use Rattle.report.specs.Delta.{◌⇒◌}
use Rattle.report.specs.View.{view, processor_of, memory_of}
use Rattle.report.specs.Demands.{Allowed}
use Rattle.report.proofs.Cases.{Case, δx}
use Rattle.report.proofs.CoreGuards.{holds_unasked, fails_so, all_hold, guards_at, fails₁, fails₂, fails₃, fails₄, fails₅, fails₆, fails₇, fails₈, fails₉, guards_are, guards_at_lem}
use Rattle.report.proofs.CoreGuards as guards
use Rattle.report.proofs.CoreFacts as facts

-- ---- a guard that asks a walk in user mode

pub walk_holds : (u a h : Bool) → (not u || h) ≡ true → (not (u && a) || h) ≡ true
walk_holds true true h e = e
walk_holds true false h e = refl
walk_holds false a h e = refl

walk_fails : (u a h : Bool) → a ≡ true → (not u || h) ≡ false → (not (u && a) || h) ≡ false
walk_fails true true h p e = e
walk_fails true false h p e = absurd (true_false (sym p))
walk_fails false a h p e = absurd (true_false e)

-- and where there is no fault
walk_ends : (u a n k : Bool) → (not u || k) ≡ true → (not ((u && a) && n) || k) ≡ true
walk_ends true true true k e = e
walk_ends true true false k e = refl
walk_ends true false n k e = refl
walk_ends false a n k e = refl

walk_open : (u a n k : Bool) → a ≡ true → n ≡ true → (not u || k) ≡ false → (not ((u && a) && n) || k) ≡ false
walk_open true true true k p q e = e
walk_open true true false k p q e = absurd (true_false (sym q))
walk_open true false n k p q e = absurd (true_false (sym p))
walk_open false a n k p q e = absurd (true_false e)

narrow : (u a f : Bool) → (u && f) ≡ false → ((u && a) && f) ≡ false
narrow true true f e = e
narrow true false f e = refl
narrow false a f e = refl

-- ---- by what an instruction is

on_true : (a : Bool) → a ≡ true → (a && true) ≡ true
on_true a e = and-true a ∙ e

right_off : (a k : Bool) → k ≡ true → (a && not k) ≡ false
right_off a k e = ap (λ (t : Bool). a && not t) e ∙ and_false a

first : (l s k : Bool) → (l || (s || k)) ≡ false → l ≡ false
first false s k e = refl
first true s k e = e

neither : (l s k n : Bool) → (l || (s || k)) ≡ false → (k || n && (l || s)) ≡ false
neither false false false n e = and_false n
neither false false true n e = e
neither false true k n e = absurd (true_false e)
neither true s k n e = absurd (true_false e)

ported : (l s k n : Bool) → (l || (s || k)) ≡ true → (k || n && (l || s)) ≡ (k || n)
ported l s true n e = refl
ported true s false n e = and-true n
ported false true false n e = and-true n
ported false false false n e = absurd (true_false (sym e))

unless : (a n h : Bool) → (a && h) ≡ false → (not (a && n) || not h) ≡ true
unless true true h e = ap not e
unless true false h e = refl
unless false n h e = refl

module _ (t m : List ℕ) (i : ℕ) (h : i < cores_of t) (w_i w_r : Walk) where
  abbrev v : View
  v = facts.v t m i w_i w_r

  abbrev c : (ℕ → ℕ) → Configuration
  c M = view t m M

  abbrev u : Bool
  u = user v.core

  abbrev al : Bool
  al = facts.al t m i w_i w_r

  abbrev pma_i : ℕ
  pma_i = facts.pma_i t m i w_i w_r

  -- what was decided is the plan p, or none
  abbrev pub K : Result Plan Refusal → Type 0
  K p = Case t m (Some (ByProcessor i (Core w_i w_r))) (by_plan i p)

  abbrev pub guarded : (ℕ → ℕ) → Bool
  guarded M = report.core_guards (view t m M) i w_i w_r

  pub refuse : ((M : ℕ → ℕ) → guarded M ≡ false) → K (Err NoNextState)
  unfolding report.core_step
  refuse g = Case.undefined refl (λ q. let z : ◌≡◌ {A = ℕ} 0 1 = cc in omega arith) (λ M. facts.δ_is t m i w_i w_r M h ∙ rw (g M) refl)

  -- the report's next configuration, and its answer
  abbrev pub next_of : (ℕ → ℕ) → Configuration
  next_of M =
      with_m
      (report.with_processor (view t m M) i
      (record { core = report.core' (view t m M) i w_i w_r ovf_of; sb = report.sb' (view t m M) i w_i w_r ovf_of; tlb = report.tlb' (view t m M) i w_i w_r ovf_of; apic = report.apic' (view t m M) i w_i w_r ovf_of }))
      (report.m' (view t m M) i w_i w_r ovf_of)

  abbrev pub answers : (ℕ → ℕ) → report.Answer
  answers M = if jisr (report.mca (view t m M) i w_i w_r ovf_of) then report.interrupt (il (report.mca (view t m M) i w_i w_r ovf_of)) else report.done

  pub next_is : (M : ℕ → ℕ) → guarded M ≡ true → δx t m (Some (ByProcessor i (Core w_i w_r))) M ≡ report.next (next_of M) (answers M)
  unfolding report.core_step
  next_is M g = facts.δ_is t m i w_i w_r M h ∙ rw g refl

  pub allow : (M : ℕ → ℕ) → guarded M ≡ true → Allowed (δx t m (Some (ByProcessor i (Core w_i w_r))) M)
  allow M g = record { to = next_of M; answer = answers M; is_next = next_is M g }

  -- ---- before an instruction is fetched

  module _ (M : ℕ → ℕ) where
    abbrev f : Bool
    f = report.fetched (c M) i w_i w_r

    abbrev w : ℕ
    w = report.I (c M) i w_i w_r

    pub stops_waiting : v.running ≡ false → guarded M ≡ false
    unfolding view
    stops_waiting e = guards_are (c M) i w_i w_r ∙ fails₉ (c M) i w_i w_r f w e

    pub stops_unfit : al ≡ true → (not u || (among w_i v.tlb && hit (fetch_request_of v.core) w_i)) ≡ false → guarded M ≡ false
    unfolding view processor_of
    stops_unfit a e = guards_are (c M) i w_i w_r ∙ fails₁ (c M) i w_i w_r f w (walk_fails u al (among w_i v.tlb && hit (fetch_request_of v.core) w_i) a e)

    pub stops_incomplete : al ≡ true → (u && fault (memory_of m M) (fetch_request_of v.core) w_i) ≡ false → (not u || complete w_i) ≡ false → guarded M ≡ false
    unfolding view processor_of
    stops_incomplete a n e =
        guards_are (c M) i w_i w_r
        ∙ fails₃ (c M) i w_i w_r f w (walk_open u al (not (report.pff (c M) i w_i w_r)) (complete w_i) a (ap not (facts.pff_is t m i w_i w_r M ∙ narrow u al _ n)) e)

    pub stops_port : al ≡ true → (u && fault (memory_of m M) (fetch_request_of v.core) w_i) ≡ false → is_port pma_i ≡ true → guarded M ≡ false
    stops_port a n e =
        guards_are (c M) i w_i w_r
        ∙ fails₇ (c M) i w_i w_r f w
        (fails_so f (not (is_port (report.pma_i (c M) i w_i w_r))) (facts.is_fetched t m i w_i w_r M a (narrow u al _ n) (bytes 4 (memory_of m M) pma_i) refl)
        (ap not (ap is_port (facts.pma_is t m i w_i w_r M) ∙ e)))

  -- ---- the word w is fetched

  pub record Fetched (M : ℕ → ℕ) (w : ℕ) : Type 0 where
    pub running : v.running ≡ true
    pub aligned : al ≡ true
    pub held : (not u || (among w_i v.tlb && hit (fetch_request_of v.core) w_i)) ≡ true
    pub no_fault : (u && fault (memory_of m M) (fetch_request_of v.core) w_i) ≡ false
    pub ended : (not u || complete w_i) ≡ true
    pub no_port : is_port pma_i ≡ false
    pub read : bytes 4 (memory_of m M) pma_i ≡ w

  module _ (M : ℕ → ℕ) (w : ℕ) (F : Fetched M w) where
    abbrev x : Instruction
    x = decoded w

    -- the physical address of its access
    abbrev pub a : ℕ
    a = physical v w_r (ea x v.core w)

    pub no_pff : ((u && al) && fault (memory_of m M) (fetch_request_of v.core) w_i) ≡ false
    no_pff = narrow u al _ F.no_fault

    pub is_fetched : report.fetched (c M) i w_i w_r ≡ true
    is_fetched = facts.is_fetched t m i w_i w_r M F.aligned no_pff w F.read

    pub is_word : report.I (c M) i w_i w_r ≡ w
    is_word = facts.is_word t m i w_i w_r M F.aligned no_pff w F.read

    pub at_address : report.pma_ea (c M) i w_i w_r ≡ a
    at_address = facts.address_is t m i w_i w_r M F.aligned no_pff w F.read

    fetched_at : guarded M ≡ guards_at (c M) i w_i w_r true w
    fetched_at = guards_at_lem (c M) i w_i w_r w is_fetched is_word

    -- the five guards that are left
    hold : guards.G₂ (c M) i w_i w_r true w ≡ true → guards.G₄ (c M) i w_i w_r true w ≡ true → guards.G₅ (c M) i w_i w_r true w ≡ true →
        guards.G₆ (c M) i w_i w_r true w ≡ true → guards.G₈ (c M) i w_i w_r true w ≡ true → guarded M ≡ true
    unfolding view processor_of
    hold e₂ e₄ e₅ e₆ e₈ =
        fetched_at
        ∙ all_hold (c M) i w_i w_r true w (walk_holds u al _ F.held) e₂ (walk_ends u al (not (report.pff (c M) i w_i w_r)) (complete w_i) F.ended) e₄ e₅ e₆
        (ap not (ap is_port (facts.pma_is t m i w_i w_r M) ∙ F.no_port)) e₈ F.running

    pub stops_buffer : finds_buffer v.sb x ≡ false → guarded M ≡ false
    unfolding view processor_of
    stops_buffer e = fetched_at ∙ fails₅ (c M) i w_i w_r true w e

    finds : finds_buffer v.sb x ≡ true → guards.G₅ (c M) i w_i w_r true w ≡ true
    unfolding view processor_of
    finds e = e

    -- no access
    pub holds_plain : is_access x ≡ false → finds_buffer v.sb x ≡ true → guarded M ≡ true
    holds_plain n e =
        let q = facts.accessing (store x) (load x) (cas x) ∙ n in
        hold (holds_unasked (report.userᵢ (c M) i && (store x || load x || cas x)) _ (ap (λ (k : Bool). report.userᵢ (c M) i && k) q ∙ and_false (report.userᵢ (c M) i)))
        (holds_unasked (report.userᵢ (c M) i && (store x || load x || cas x) && not (report.pfls (c M) i w_i w_r)) _
        (ap (λ (k : Bool). report.userᵢ (c M) i && k && not (report.pfls (c M) i w_i w_r)) q ∙ ap (λ (k : Bool). k && not (report.pfls (c M) i w_i w_r)) (and_false (report.userᵢ (c M) i))))
        (finds e)
        (holds_unasked (load x && not (report.pfls (c M) i w_i w_r)) _ (ap (λ (k : Bool). k && not (report.pfls (c M) i w_i w_r)) (first (load x) (store x) (cas x) n)))
        (holds_unasked ((cas x || not (eqb (d x) 4) && (load x || store x)) && not (report.pfls (c M) i w_i w_r)) _
        (ap (λ (k : Bool). k && not (report.pfls (c M) i w_i w_r)) (neither (load x) (store x) (cas x) (not (eqb (d x) 4)) n)))

    -- ---- an access

    module _ (acc : is_access x ≡ true) where
      accesses : (store x || load x || cas x) ≡ true
      accesses = facts.accessing (store x) (load x) (cas x) ∙ acc

      pub stops_unfit_data : (not u || (among w_r v.tlb && hit (data_request_of v.core x w) w_r)) ≡ false → guarded M ≡ false
      unfolding view processor_of
      stops_unfit_data e = fetched_at ∙ fails₂ (c M) i w_i w_r true w (walk_fails u (store x || load x || cas x) _ accesses e)

      holds_data : (not u || (among w_r v.tlb && hit (data_request_of v.core x w) w_r)) ≡ true → guards.G₂ (c M) i w_i w_r true w ≡ true
      unfolding view processor_of
      holds_data e = walk_holds u (store x || load x || cas x) _ e

      pub faults_as : (k : Bool) → (u && fault (memory_of m M) (data_request_of v.core x w) w_r) ≡ k → report.pfls (c M) i w_i w_r ≡ k
      faults_as k e =
          facts.pfls_is t m i w_i w_r M F.aligned no_pff w F.read
          ∙ (ap (λ (s : Bool). (u && s) && fault (memory_of m M) (data_request_of v.core x w) w_r) acc ∙ (ap (λ (s : Bool). s && fault (memory_of m M) (data_request_of v.core x w) w_r) (and-true u) ∙ e))

      -- that faults
      pub holds_fault : finds_buffer v.sb x ≡ true → (not u || (among w_r v.tlb && hit (data_request_of v.core x w) w_r)) ≡ true →
          (u && fault (memory_of m M) (data_request_of v.core x w) w_r) ≡ true → guarded M ≡ true
      holds_fault e g k =
          let p = faults_as true k in
          hold (holds_data g) (holds_unasked (report.userᵢ (c M) i && (store x || load x || cas x) && not (report.pfls (c M) i w_i w_r)) _ (right_off (report.userᵢ (c M) i && (store x || load x || cas x)) _ p)) (finds e)
          (holds_unasked (load x && not (report.pfls (c M) i w_i w_r)) _ (right_off (load x) _ p))
          (holds_unasked ((cas x || not (eqb (d x) 4) && (load x || store x)) && not (report.pfls (c M) i w_i w_r)) _ (right_off (cas x || not (eqb (d x) 4) && (load x || store x)) _ p))

      -- that does not
      module _ (n : (u && fault (memory_of m M) (data_request_of v.core x w) w_r) ≡ false) where
        pub stops_open_data : (not u || complete w_r) ≡ false → guarded M ≡ false
        unfolding view processor_of
        stops_open_data e = fetched_at ∙ fails₄ (c M) i w_i w_r true w (walk_open u (store x || load x || cas x) (not (report.pfls (c M) i w_i w_r)) (complete w_r) accesses (ap not (faults_as false n)) e)

        pub stops_at_port : (avoids_ports x && is_port a) ≡ true → guarded M ≡ false
        stops_at_port e =
            fetched_at
            ∙ fails₈ (c M) i w_i w_r true w
            (fails_so ((cas x || not (eqb (d x) 4) && (load x || store x)) && not (report.pfls (c M) i w_i w_r)) (not (is_port (report.pma_ea (c M) i w_i w_r)))
            (ap (λ (k : Bool). (cas x || not (eqb (d x) 4) && (load x || store x)) && not k) (faults_as false n) ∙ on_true _ (ported (load x) (store x) (cas x) (not (eqb (d x) 4)) acc ∙ and_left (avoids_ports x) _ e))
            (ap not (ap is_port at_address ∙ and_right (avoids_ports x) _ e)))

        pub stops_hazard : has_hazard v.sb x a ≡ true → guarded M ≡ false
        unfolding view processor_of
        stops_hazard e =
            fetched_at
            ∙ fails₆ (c M) i w_i w_r true w
            (fails_so (load x && not (report.pfls (c M) i w_i w_r)) (not (sbhazard v.sb (report.pma_ea (c M) i w_i w_r) (d x)))
            (ap (λ (k : Bool). load x && not k) (faults_as false n) ∙ on_true _ (and_left (load x) _ e))
            (ap not (ap (λ (y : ℕ). sbhazard v.sb y (d x)) at_address ∙ and_right (load x) _ e)))

        pub holds_access : finds_buffer v.sb x ≡ true → (not u || (among w_r v.tlb && hit (data_request_of v.core x w) w_r)) ≡ true →
            (not u || complete w_r) ≡ true → (avoids_ports x && is_port a) ≡ false → has_hazard v.sb x a ≡ false → guarded M ≡ true
        unfolding view processor_of
        holds_access e g k p q =
            hold (holds_data g) (walk_ends u (store x || load x || cas x) (not (report.pfls (c M) i w_i w_r)) (complete w_r) k) (finds e)
            (ap (λ (y : ℕ). load x && not (report.pfls (c M) i w_i w_r) ⇒ not (sbhazard v.sb y (d x))) at_address ∙ unless (load x) (not (report.pfls (c M) i w_i w_r)) _ q)
            (ap (λ (y : ℕ). (cas x || not (eqb (d x) 4) && (load x || store x)) && not (report.pfls (c M) i w_i w_r) ⇒ not (is_port y)) at_address
            ∙ unless (cas x || not (eqb (d x) 4) && (load x || store x)) (not (report.pfls (c M) i w_i w_r)) _ (ap (λ (z : Bool). z && is_port a) (ported (load x) (store x) (cas x) (not (eqb (d x) 4)) acc) ∙ p))
