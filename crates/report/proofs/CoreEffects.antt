-- What a core's step that is accepted changes: the report's next configuration is the one after the plan.
-- Assumes nothing.
use Rattle.std.specs.Prelude.{if◌then◌else◌, Some}
use mathlib.Core.Path.{◌≡◌, refl, sym, ◌∙◌, ap, subst}
use mathlib.Core.Bool.{Bool, true, false, not, ◌&&◌, ◌||◌}
use mathlib.Core.List.{List}
use Prim.Native.Nat.{ℕ, ◌+◌, ◌*◌, ◌^◌, ◌<◌}
use lib.Dec.{T, eqb}
use lib.ListN.{length}
use Rattle.word.specs.Word.{is_set, flag}
use Rattle.word.proofs.Tests.{true_false, truth}
use Rattle.layout.specs.Layout as at
use Rattle.layout.specs.Blocks.{block}
use Rattle.decode.specs.declared.Instruction.{Instruction}
use Rattle.decode.specs.Table.{decoded}
use Rattle.decode.specs.Mnemonics.{load, cas, eret}
use Rattle.isa.specs.declared.registers.Registers.{Registers}
use Rattle.isa.specs.Core.{spr_at, d, effect, delta_instr}
use Rattle.isa.specs.Interrupts.{ovf_of, events_as, jisr, il, lowest_bit, continues, edata_of, ea_at, spr_jisr, delta_jisr, delta_rfe, delta_core}
use Rattle.records.specs.declared.Walk.{Walk}
use Rattle.records.specs.Records.{among, walks, stores}
use Rattle.tables.specs.Views.{cores_of, registers_of}
use Rattle.tables.specs.Sound.{sound}
use Rattle.tables.proofs.Lift.{core_long, core_sound}
use Rattle.apic.specs.LocalApic.{event}
use Rattle.steps.specs.declared.Step.TheVariants.{ByProcessor}
use Rattle.steps.specs.declared.ProcessorStep.TheVariants.{Core}
use Rattle.steps.specs.declared.Answer.TheVariants.{Done}
use Rattle.cores.specs.declared.CoreChange.TheVariants.{Return, Execute}
use Rattle.cores.specs.declared.BufferChange.{BufferChange}
use Rattle.cores.specs.declared.WalkChange.{WalkChange}
use Rattle.cores.specs.declared.Write.{Write}
use Rattle.cores.specs.declared.Write.TheVariants.{Memory, LocalPort, IoPort}
use Rattle.cores.specs.declared.Plan.{Plan}
use Rattle.cores.specs.Plans.{interrupted, changed}
use Rattle.cores.specs.Core.{View, is_event, vector_of, suppressed, stopped, causes}
use Rattle.cores.specs.Commit.{tables_by_plan, memory_by_plan, written_to, block_after}
use Rattle.cores.proofs.Accesses.{all_b, bools}
use Rattle.cores.proofs.Sounds.{registers_after, stores_after, tlb_after}
use Rattle.cores.proofs.Decisions.{PlanMayBeDone}
use Rattle.cores.proofs.Locals.{is_io}
use Rattle.report.specs.Configuration.{Apic, Configuration}
use Rattle.report.specs.Components.{eev, min, found, ΣApic, δapic}
use Rattle.report.specs.Delta as report
use Rattle.report.specs.View.{view, processor_of, apic_of, ioapic_of, memory_of, SameApic, SameProcessor}
use Rattle.report.specs.Demands.{Next}
use Rattle.report.proofs.Cases.{δx}
use Rattle.report.proofs.Frames.{apic_core, apic_write, PortWhole, plan_processor, plan_same, io_still}
use Rattle.report.proofs.CoreFacts as facts
use Rattle.report.proofs.CoreRefusals.{guarded, next_of, answers, next_is}

-- ---- causes that stop an instruction

-- without one, where t says whether there is an external event that is not masked
abbrev pub masked : Bool → Bool → Bool → ℕ
masked t mal pff = flag t * 2 ^ 1 + flag false * 2 ^ 2 + flag mal * 2 ^ 3 + flag pff * 2 ^ 4 + flag false * 2 ^ 5 + flag false * 2 ^ 6 + flag false * 2 ^ 7

pub mal_stops : (t : Bool) → (suppressed (masked t true false) ≡ true) × (eqb (il (masked t true false)) 5 ≡ false)
unfolding lowest_bit
mal_stops true = (refl, refl)
mal_stops false = (refl, refl)

pub pff_stops : (t : Bool) → (suppressed (masked t false true) ≡ true) × (eqb (il (masked t false true)) 5 ≡ false)
unfolding lowest_bit
pff_stops true = (refl, refl)
pff_stops false = (refl, refl)

-- a page fault of an access
abbrev P : Bool → Bool → Bool → Bool → Bool → Bool
P io ill mal sysc ovf = suppressed (flag io * 2 ^ 1 + flag ill * 2 ^ 2 + flag mal * 2 ^ 3 + flag false * 2 ^ 4 + flag true * 2 ^ 5 + flag sysc * 2 ^ 6 + flag ovf * 2 ^ 7)

abbrev P₄ : Bool → Bool → Bool → Bool → Bool
P₄ a b c d = all_b (P a b c d)

abbrev P₃ : Bool → Bool → Bool → Bool
P₃ a b c = all_b (P₄ a b c)

abbrev P₂ : Bool → Bool → Bool
P₂ a b = all_b (P₃ a b)

abbrev P₁ : Bool → Bool
P₁ a = all_b (P₂ a)

always : T (all_b P₁)
unfolding lowest_bit
always = tt

fault_stops : (a b c d e : Bool) → P a b c d e ≡ true
fault_stops a b c d e = truth (P a b c d e) (bools (P a b c d) (bools (P₄ a b c) (bools (P₃ a b) (bools (P₂ a) (bools P₁ always a) b) c) d) e)

pub pfls_stops : (v : View) (x : Instruction) (w : ℕ) → suppressed (causes v x w true) ≡ true
pfls_stops v x w =
    let e = events_as x v.core w (is_event v.eev) true in
    let sr = spr_at v.core at.sr in
    fault_stops (e.io && is_set sr 1) e.ill e.mal e.sysc (e.ovf && is_set sr 7)

pub is_interrupt : (ca : ℕ) → suppressed ca ≡ true → (jisr ca ≡ true) × (continues (il ca) ≡ false)
is_interrupt ca e = go (jisr ca) (continues (il ca)) e
  where
    go : (j k : Bool) → (j && not k) ≡ true → (j ≡ true) × (k ≡ false)
    go true false e = (refl, refl)
    go true true e = absurd (true_false (sym e))
    go false k e = absurd (true_false (sym e))

-- what an interrupt that stops an instruction does not see: what was read, and at other levels than 5 the word
module _ (c : Registers) (w R ca k : ℕ) (e : continues (il ca) ≡ false) where
  at_address : ℕ → Registers
  at_address x = record { gpr = c.gpr; spr = spr_jisr c ca c.pc (edata_of c (il ca) x k); pc = 0; hi = c.hi; lo = c.lo }

  at_level : Bool → ℕ → Registers
  at_level t x = record { gpr = c.gpr; spr = spr_jisr c ca c.pc (if t then x else if eqb (il ca) 1 then k else spr_at c at.edata); pc = 0; hi = c.hi; lo = c.lo }

  stops_as : delta_jisr c w R ca k ≡ at_address (ea_at c w)
  unfolding delta_jisr at_address
  stops_as =
      ap (λ (t : Bool). record { gpr = if t then (delta_instr c w R).gpr else c.gpr; spr = spr_jisr c ca (if t then (delta_instr c w R).pc else c.pc) (edata_of c (il ca) (ea_at c w) k); pc = 0; hi = c.hi; lo = c.lo }) e

pub stops_at : (c : Registers) (w R ca k : ℕ) → continues (il ca) ≡ false → delta_jisr c w R ca k ≡ delta_jisr c w 0 ca k
unfolding at_address
stops_at c w R ca k e = stops_as c w R ca k e ∙ sym (stops_as c w 0 ca k e)

pub stops_without : (c : Registers) (w R ca k : ℕ) → continues (il ca) ≡ false → eqb (il ca) 5 ≡ false → delta_jisr c w R ca k ≡ delta_jisr c 0 0 ca k
unfolding at_address at_level
stops_without c w R ca k e f =
    stops_as c w R ca k e
    ∙ (ap (λ (t : Bool). at_level c w R ca k e t (ea_at c w)) f ∙ (sym (ap (λ (t : Bool). at_level c w R ca k e t (ea_at c 0)) f) ∙ sym (stops_as c 0 0 ca k e)))

-- ---- a plan that lands where the report goes

-- it writes no port
abbrev pub quiet : Write → Bool
quiet Write.Nothing = true
quiet (Memory a d v) = true
quiet (LocalPort a v) = false
quiet (IoPort a v) = false

quiet_apic : (x : Write) (a : Apic) → quiet x ≡ true → apic_write x a ≡ a
quiet_apic Write.Nothing a e = refl
quiet_apic (Memory y d v) a e = refl
quiet_apic (LocalPort y v) a e = absurd (true_false (sym e))
quiet_apic (IoPort y v) a e = absurd (true_false (sym e))

quiet_io : (x : Write) → quiet x ≡ true → is_io x ≡ false
quiet_io Write.Nothing e = refl
quiet_io (Memory y d v) e = refl
quiet_io (LocalPort y v) e = absurd (true_false (sym e))
quiet_io (IoPort y v) e = absurd (true_false (sym e))

quiet_whole : (x : Write) → quiet x ≡ true → PortWhole x
quiet_whole Write.Nothing e = tt
quiet_whole (Memory y d v) e = tt
quiet_whole (LocalPort y v) e = absurd (true_false (sym e))
quiet_whole (IoPort y v) e = absurd (true_false (sym e))

module _ (t m : List ℕ) (i : ℕ) (h : i < cores_of t) (w_i w_r : Walk) where
  abbrev b : List ℕ
  b = block t i

  abbrev c : (ℕ → ℕ) → Configuration
  c M = view t m M

  pub record Lands (M : ℕ → ℕ) (p : Plan) (q : report.Answer) : Type 0 where
    pub answer : answers t m i h w_i w_r M ≡ q
    pub core : report.core' (c M) i w_i w_r ovf_of ≡ registers_after p.core (registers_of b)
    pub sb : report.sb' (c M) i w_i w_r ovf_of ≡ stores_after p.buffer (stores b)
    pub tlb : (w : Walk) → report.tlb' (c M) i w_i w_r ovf_of w ≡ among w (tlb_after p.walks (walks b))
    pub apic : report.apic' (c M) i w_i w_r ovf_of ≡ apic_core p.core (apic_of b)
    pub memory : (y : ℕ) → y < 2 ^ 32 → report.m' (c M) i w_i w_r ovf_of y ≡ memory_of (memory_by_plan p m) M y

  module _ (e : sound t (length m) ≡ true) (p : Plan) (D : PlanMayBeDone (length m) b p) (q : quiet p.write ≡ true) where
    processor : (M : ℕ → ℕ) (r : report.Answer) → Lands M p r →
        SameProcessor (record { core = report.core' (c M) i w_i w_r ovf_of; sb = report.sb' (c M) i w_i w_r ovf_of; tlb = report.tlb' (c M) i w_i w_r ovf_of; apic = report.apic' (c M) i w_i w_r ovf_of }) (processor_of (block_after p b))
    processor M r L =
        let S = plan_processor (length m) p b (core_long t (length m) e i h) (core_sound t (length m) e i h) D.is_ready D.is_sound (quiet_whole p.write q) (report.tlb' (c M) i w_i w_r ovf_of) L.tlb in
        record {
          core = L.core ∙ S.core;
          sb = L.sb ∙ S.sb;
          tlb = S.tlb;
          apic = subst (λ (a : Apic). SameApic a (processor_of (block_after p b)).apic) (quiet_apic p.write (apic_core p.core (apic_of b)) q ∙ sym L.apic) S.apic;
        }

    pub lead : (M : ℕ → ℕ) (r : report.Answer) → guarded t m i h w_i w_r M ≡ true → Lands M p r → Next (δx t m (Some (ByProcessor i (Core w_i w_r))) M) r (view (tables_by_plan i p t) (memory_by_plan p m) M)
    unfolding view
    lead M r g L =
        record {
          to = next_of t m i h w_i w_r M;
          is_next = next_is t m i h w_i w_r M g ∙ ap (report.next (next_of t m i h w_i w_r M)) L.answer;
          agrees = plan_same t m i p e h D M _ (report.m' (c M) i w_i w_r ovf_of) (ioapic_of t) (processor M r L) L.memory (io_still t m i p e h D (quiet_io p.write q));
        }

  -- ---- the parts of a step with the masked causes ca

  abbrev v : View
  v = facts.v t m i w_i w_r

  abbrev k : ℕ
  k = vector_of (event b)

  -- what the report has read
  abbrev pub R' : (ℕ → ℕ) → ℕ
  R' M = if report.is (c M) i w_i w_r load || report.is (c M) i w_i w_r cas then report.R (c M) i w_i w_r else 0

  module _ (M : ℕ → ℕ) (ca : ℕ) (is_ca : report.mca (c M) i w_i w_r ovf_of ≡ ca) where
    abbrev w' : ℕ
    w' = report.I (c M) i w_i w_r

    core_of : Bool → ℕ → ℕ → Registers
    core_of j n x = if j then delta_jisr v.core w' (R' M) n x else if eret (decoded w') then delta_rfe v.core else delta_instr v.core w' (R' M)

    core_as : (j : Bool) → jisr ca ≡ j → report.core' (c M) i w_i w_r ovf_of ≡ core_of j ca k
    unfolding report.core' delta_core view processor_of core_of
    core_as j e =
        ap (λ (n : ℕ). core_of (jisr n) n (found (min (eev (apic_of b))))) is_ca
        ∙ (ap (λ (s : Bool). core_of s ca (found (min (eev (apic_of b))))) e ∙ ap (λ (x : ℕ). core_of j ca x) (facts.vector_is b))

    apic_to : Bool → Bool → Apic
    apic_to j r = if j then δapic (apic_of b) ΣApic.jisr else if r then δapic (apic_of b) ΣApic.rfe else apic_of b

    apic_as : (j : Bool) → jisr ca ≡ j → report.apic' (c M) i w_i w_r ovf_of ≡ apic_to j (report.is (c M) i w_i w_r eret)
    unfolding report.apic' view processor_of apic_to
    apic_as j e = ap (λ (n : ℕ). apic_to (jisr n) (report.is (c M) i w_i w_r eret)) is_ca ∙ ap (λ (s : Bool). apic_to s (report.is (c M) i w_i w_r eret)) e

    answer_as : (j : Bool) → jisr ca ≡ j → answers t m i h w_i w_r M ≡ (if j then report.interrupt (il ca) else report.done)
    answer_as j e =
        ap (λ (n : ℕ). if jisr n then report.interrupt (il n) else report.done) is_ca ∙ ap (λ (s : Bool). if s then report.interrupt (il ca) else report.done) e

    -- an interrupt that stops the instruction
    pub stopped_lands : (w : ℕ) (ws : WalkChange) → suppressed ca ≡ true → delta_jisr v.core w' (R' M) ca k ≡ delta_jisr v.core w 0 ca k →
        report.sb' (c M) i w_i w_r ovf_of ≡ stores b → ((y : Walk) → report.tlb' (c M) i w_i w_r ovf_of y ≡ among y (tlb_after ws (walks b))) →
        ((y : ℕ) → report.m' (c M) i w_i w_r ovf_of y ≡ memory_of m M y) → Lands M (stopped v w ca ws) (report.interrupt (il ca))
    unfolding core_of apic_to written_to
    stopped_lands w ws s d sb tlb mem =
        let j = (is_interrupt ca s).0 in
        record { answer = answer_as true j; core = core_as true j ∙ d; sb = sb; tlb = tlb; apic = apic_as true j; memory = λ y l. mem y }

    -- an instruction that takes effect, with an interrupt of continue type or none
    module _ (w R : ℕ) (is-w : w' ≡ w) (is-eret : report.is (c M) i w_i w_r eret ≡ eret (decoded w)) (is-R : R' M ≡ R) (bf : BufferChange) (ws : WalkChange) (wr : Write)
        (sb : report.sb' (c M) i w_i w_r ovf_of ≡ stores_after bf (stores b)) (tlb : (y : Walk) → report.tlb' (c M) i w_i w_r ovf_of y ≡ among y (tlb_after ws (walks b)))
        (mem : (y : ℕ) → y < 2 ^ 32 → report.m' (c M) i w_i w_r ovf_of y ≡ memory_of (written_to wr m) M y) where
      core_at : Bool → ℕ → ℕ → Registers
      core_at j n x = if j then delta_jisr v.core n x ca k else if eret (decoded n) then delta_rfe v.core else delta_instr v.core n x

      core_at_lem : (j : Bool) → jisr ca ≡ j → report.core' (c M) i w_i w_r ovf_of ≡ core_at j w R
      unfolding core_of core_at
      core_at_lem j e = core_as j e ∙ (ap (λ (n : ℕ). core_at j n (R' M)) is-w ∙ ap (λ (x : ℕ). core_at j w x) is-R)

      pub finished_interrupts : jisr ca ≡ true → Lands M (interrupted w R ca k bf ws wr) (report.interrupt (il ca))
      unfolding core_at apic_to
      finished_interrupts e = record { answer = answer_as true e; core = core_at_lem true e; sb = sb; tlb = tlb; apic = apic_as true e; memory = mem }

      pub finished_done : jisr ca ≡ false → Lands M (record { answer = Done; core = changed (decoded w) w R; buffer = bf; walks = ws; write = wr }) report.done
      unfolding core_at apic_to delta_instr
      finished_done e =
          record { answer = answer_as false e; core = core_at_lem false e ∙ core (eret (decoded w)); sb = sb; tlb = tlb; apic = apic_as false e ∙ (ap (apic_to false) is-eret ∙ apic (eret (decoded w))); memory = mem }
        where
          core : (r : Bool) → (if r then delta_rfe v.core else effect (decoded w) v.core w R) ≡ registers_after (if r then Return else Execute (decoded w) w R) v.core
          core true = refl
          core false = refl

          apic : (r : Bool) → (if r then δapic (apic_of b) ΣApic.rfe else apic_of b) ≡ apic_core (if r then Return else Execute (decoded w) w R) (apic_of b)
          apic true = refl
          apic false = refl
