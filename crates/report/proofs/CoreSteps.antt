-- A core's step, guard by guard: each way that it can go has its ground.
-- Assumes nothing.
use Rattle.std.specs.Prelude.{if◌then◌else◌, Option, Some, None, Result, Ok, Err}
use Rattle.refusals.specs.declared.Refusal.{Refusal}
use Rattle.refusals.specs.declared.Refusal.TheVariants.{NoNextState, ByteNowhere}
use mathlib.Core.Path.{◌≡◌, refl, ◌∙◌, ap, subst}
use mathlib.Core.Bool.{Bool, true, false, not, ◌&&◌, ◌||◌}
use mathlib.Core.List.{List}
use Prim.Native.Nat.{ℕ, ◌%◌, ◌^◌, ◌<◌}
use lib.Dec.{eqb}
use lib.ListN.{length}
use native.Mathlib.Omega.{arith}
use borrow.Author.Tests.{eqb-true}
use Rattle.layout.specs.Blocks.{block}
use Rattle.decode.specs.declared.Instruction.{Instruction}
use Rattle.decode.specs.Table.{decoded}
use Rattle.decode.specs.Mnemonics.{load, store}
use Rattle.isa.specs.Core.{ea}
use Rattle.isa.specs.Interrupts.{user}
use Rattle.records.specs.declared.Walk.{Walk}
use Rattle.records.specs.Records.{among}
use Rattle.tlb.specs.declared.Request.{Request}
use Rattle.tlb.specs.declared.Faulting.{Faulting}
use Rattle.tlb.specs.declared.Faulting.TheVariants.{Faults, Passes, Undecided}
use Rattle.tlb.specs.Walks.{walk_ba, complete, hit}
use Rattle.store_buffer.specs.System.{memory_byte, reads, is_port}
use Rattle.tables.specs.Views.{cores_of}
use Rattle.tables.specs.Sound.{sound}
use Rattle.steps.specs.declared.Step.TheVariants.{ByProcessor}
use Rattle.steps.specs.declared.ProcessorStep.TheVariants.{Core}
use Rattle.cores.specs.declared.WalkChange.{WalkChange}
use Rattle.cores.specs.declared.Plan.{Plan}
use Rattle.cores.specs.Guards.{settle}
use Rattle.cores.specs.declared.IoPorts.{IoPorts}
use Rattle.cores.specs.Core.{View, io_ports_of, fault_of, physical, causes, suppressed, stopped, plain, performed, without_access, is_access, finds_buffer, avoids_ports, has_hazard, data_request_of, fetch_request_of, on_address, on_data, on_access, on_instruction, on_fetch_address, on_fetch, fetch, core_plan}
use Rattle.cores.proofs.Decisions.{MayBeDone}
use Rattle.cores.proofs.Executions.{core_plan_lem}
use Rattle.cores.proofs.Held.{same_offset}
use Rattle.cores.proofs.Locals.{whole_words}
use Rattle.cores.proofs.Judging as judging
use Rattle.machine.specs.Decide.{by_processor, by_step}
use Rattle.report.specs.Components.{fault, bytes}
use Rattle.report.specs.View.{memory_of}
use Rattle.report.specs.Demands.{Words}
use Rattle.report.proofs.Cases.{Case}
use Rattle.report.proofs.Memory.{nothing, memory_reads, bytes_beyond}
use Rattle.report.proofs.CoreFacts as facts
use Rattle.report.proofs.CoreFacts.{Decides, decides}
use Rattle.report.proofs.CoreRefusals.{K, refuse, Fetched, is_fetched, stops_waiting, stops_unfit, stops_incomplete, stops_port, holds_plain}
use Rattle.report.proofs.CoreNeeds.{HasI, HasR, misses_word}
use Rattle.report.proofs.CoreStops.{missed, misaligned, fetch_faults, fetch_misses}
use Rattle.report.proofs.CoreAddresses.{word_in, word_out, pc_low, physical_low, zero_idle, zero_finds}
use Rattle.report.proofs.CoreInstructions as instructions
use Rattle.report.proofs.CoreInstructions.{Found}
use Rattle.report.proofs.CoreAccesses.{Accessed, loads, stored, exchanges}

module _ (t m : List ℕ) (e : sound t (length m) ≡ true) (low : Words t) (i : ℕ) (h : i < cores_of t) (w_i w_r : Walk) where
  abbrev b : List ℕ
  b = block t i

  abbrev v : View
  v = facts.v t m i w_i w_r

  abbrev io : IoPorts
  io = io_ports_of t

  abbrev u : Bool
  u = user v.core

  -- what is decided comes to, where its plan may be done
  abbrev Good : Result Plan Refusal → Type 0
  Good p = MayBeDone (length m) b p → K t m i h w_i w_r p

  to : {p q : Result Plan Refusal} → p ≡ q → Good p → Good q
  to q g = subst Good q g

  refused_as : K t m i h w_i w_r (Err NoNextState) → Good (Err NoNextState)
  refused_as g D = g

  whole : length m % 4 ≡ 0
  whole = whole_words t (length m) e

  -- ---- an access

  module _ (w : ℕ) (F : Found t m e low i h w_i w_r w) where
    abbrev x : Instruction
    x = decoded w

    abbrev a : ℕ
    a = physical v w_r (ea x v.core w)

    abbrev ca : ℕ
    ca = causes v x w false

    abbrev held_r : Bool
    held_r = not u || (among w_r v.tlb && hit (data_request_of v.core x w) w_r)

    module _ (acc : is_access x ≡ true) (f : finds_buffer v.sb x ≡ true) (g : held_r ≡ true)
        (clear : (M : ℕ → ℕ) → (u && fault (memory_of m M) (data_request_of v.core x w) w_r) ≡ false) (has : HasR t m i h w_i w_r w) (k : (not u || complete w_r) ≡ true) where
      address : Good (settle (on_address v io m x w a))
      address = by_port (avoids_ports x && is_port a) refl
        where
          accessed : (avoids_ports x && is_port a) ≡ false → has_hazard v.sb x a ≡ false → suppressed ca ≡ false → Accessed t m e low i h w_i w_r w F
          accessed p q s = record { acc = acc; finds = f; held = g; clear = clear; entry = has; ended = k; free = p; safe = q; runs = s }

          by_kind : (p : (avoids_ports x && is_port a) ≡ false) (q : has_hazard v.sb x a ≡ false) (s : suppressed ca ≡ false) (l o : Bool) → load x ≡ l → store x ≡ o → Good (performed v io m x w ca a)
          by_kind p q s true o y z = loads t m e low i h w_i w_r w F (accessed p q s) y
          by_kind p q s false true y z = stored t m e low i h w_i w_r w F (accessed p q s) y z
          by_kind p q s false false y z = exchanges t m e low i h w_i w_r w F (accessed p q s) y z

          by_causes : (p : (avoids_ports x && is_port a) ≡ false) (q : has_hazard v.sb x a ≡ false) (s : Bool) → suppressed ca ≡ s → Good (settle (on_address v io m x w a))
          by_causes p q true s = to (judging.address_stopped v io m x w a p q s) (instructions.access_stops t m e low i h w_i w_r w F acc f g clear has k p q s)
          by_causes p q false s = to (judging.address_performed v io m x w a p s) (by_kind p q s (load x) (store x) refl refl)

          by_hazard : (p : (avoids_ports x && is_port a) ≡ false) (q : Bool) → has_hazard v.sb x a ≡ q → Good (settle (on_address v io m x w a))
          by_hazard p true q = to (judging.address_hazard v io m x w a p q) (refused_as (instructions.access_hazard t m e low i h w_i w_r w F acc f g clear has q))
          by_hazard p false q = by_causes p q (suppressed ca) refl

          by_port : (p : Bool) → (avoids_ports x && is_port a) ≡ p → Good (settle (on_address v io m x w a))
          by_port true p = to (judging.address_port v io m x w a p) (refused_as (instructions.access_port t m e low i h w_i w_r w F acc f g clear has p))
          by_port false p = by_hazard p (has_hazard v.sb x a) refl

    module _ (acc : is_access x ≡ true) (f : finds_buffer v.sb x ≡ true) where
      by_data : held_r ≡ true → (r : Faulting) → Decides m whole u (data_request_of v.core x w) w_r r → Good (settle (on_data v io m w_r x w r))
      by_data g Faults (Decides.faults y n l) = to (judging.data_faults v io m w_r x w) (instructions.access_faults t m e low i h w_i w_r w F acc f g n l)
      by_data g Undecided (Decides.undecided y n q l) = to (judging.data_undecided v io m w_r x w) (λ D. instructions.access_misses t m e low i h w_i w_r w F acc f g y n q l)
      by_data g Passes (Decides.passes clear has) = go (not u || complete w_r) refl
        where
          go : (k : Bool) → (not u || complete w_r) ≡ k → Good (settle (on_data v io m w_r x w Passes))
          go true k = to (judging.data_complete v io m w_r x w (not u || complete w_r) refl k) (address acc f g clear has k)
          go false k = to (judging.data_incomplete v io m w_r x w (not u || complete w_r) refl k) (refused_as (instructions.access_open t m e low i h w_i w_r w F acc f g clear has k))

      access : (g : Bool) → held_r ≡ g → Good (settle (on_access v io m w_r x w))
      access true g = to (judging.access_fit v io m w_r x w held_r (fault_of v m (data_request_of v.core x w) w_r) refl g refl) (by_data g (fault_of v m (data_request_of v.core x w) w_r) (decides m whole u (data_request_of v.core x w) w_r))
      access false g = to (judging.access_unfit v io m w_r x w held_r refl g) (refused_as (instructions.access_unfit t m e low i h w_i w_r w F acc f g))

    -- ---- an instruction

    without : (n : is_access x ≡ false) (f : finds_buffer v.sb x ≡ true) → Good (without_access v x w)
    without n f = go (suppressed ca) refl
      where
        go : (s : Bool) → suppressed ca ≡ s → Good (if s then Ok (stopped v w ca WalkChange.Nothing) else Ok (plain v x w ca))
        go true s = instructions.plain_stops t m e low i h w_i w_r w F n f s
        go false s = instructions.plain_done t m e low i h w_i w_r w F n f s

    instruction : (f o : Bool) → finds_buffer v.sb x ≡ f → is_access x ≡ o → Good (settle (on_instruction v io m w_r x w))
    instruction false o f n = to (judging.instruction_waits v io m w_r x w (finds_buffer v.sb x) refl f) (refused_as (instructions.waits t m e low i h w_i w_r w F f))
    instruction true false f n = to (judging.instruction_plain v io m w_r x w (finds_buffer v.sb x) refl f n) (without n f)
    instruction true true f n = to (judging.instruction_access v io m w_r x w (finds_buffer v.sb x) refl f n) (access n f held_r refl)

  -- ---- the fetch

  abbrev al : Bool
  al = facts.al t m i w_i w_r

  abbrev pma_i : ℕ
  pma_i = facts.pma_i t m i w_i w_r

  abbrev rq : Request
  rq = fetch_request_of v.core

  abbrev held_i : Bool
  held_i = not u || (among w_i v.tlb && hit rq w_i)

  module _ (run : v.running ≡ true) (ali : al ≡ true) (g : held_i ≡ true) where
    module _ (clear : (M : ℕ → ℕ) → (u && fault (memory_of m M) rq w_i) ≡ false) (has : HasI t m i h w_i w_r) (k : (not u || complete w_i) ≡ true) (p : is_port pma_i ≡ false) where
      fetches : (M : ℕ → ℕ) (w : ℕ) → bytes 4 (memory_of m M) pma_i ≡ w → Fetched t m i h w_i w_r M w
      fetches M w r = record { running = run; aligned = ali; held = g; no_fault = clear M; ended = k; no_port = p; read = r }

      four : pma_i % 4 ≡ 0
      four = same_offset u (walk_ba w_i) v.core.pc ∙ eqb-true (v.core.pc % 4) 0 ali

      small : pma_i < 2 ^ 32
      small = physical_low t m e low i h w_i w_r w_i (hit rq w_i) v.core.pc g (pc_low t m e low i h w_i w_r)

      -- the word is missing; 0 in its place asks for nothing
      word_misses : reads 4 (memory_byte m) pma_i ≡ None → K t m i h w_i w_r (Err ByteNowhere)
      word_misses r =
          let l = word_out m whole pma_i four small r in
          missed t m i h w_i w_r pma_i (λ M. misses_word t m i h w_i w_r M (is_fetched t m i h w_i w_r M (bytes 4 (memory_of m M) pma_i) (fetches M (bytes 4 (memory_of m M) pma_i) refl)) l)
          (holds_plain t m i h w_i w_r nothing 0 (fetches nothing 0 (bytes_beyond m 4 pma_i (omega (arith, four, small)) l)) zero_idle (ap (λ (y : Bool). not y || eqb (length v.sb) 0) zero_finds))

      word_found : (w : ℕ) → reads 4 (memory_byte m) pma_i ≡ Some w → Found t m e low i h w_i w_r w
      word_found w r = record { fetched = λ M. fetches M w (memory_reads m M 4 pma_i w r); entry = has; within = word_in m whole pma_i four small w r }

      by_word : (r : Option ℕ) → reads 4 (memory_byte m) pma_i ≡ r → Good (settle (on_fetch_address v io m w_r pma_i))
      by_word (Some w) r = to (judging.fetch_word v io m w_r pma_i p w r) (instruction w (word_found w r) (finds_buffer v.sb (decoded w)) (is_access (decoded w)) refl refl)
      by_word None r = to (judging.fetch_nowhere v io m w_r pma_i p r) (λ D. word_misses r)

    by_fetch : (r : Faulting) → Decides m whole u rq w_i r → Good (settle (on_fetch v io m w_i w_r r))
    by_fetch Faults (Decides.faults y n l) = to (judging.fetch_faults v io m w_i w_r) (fetch_faults t m i h w_i w_r e run ali g y n l)
    by_fetch Undecided (Decides.undecided y n q l) = to (judging.fetch_undecided v io m w_i w_r) (λ D. fetch_misses t m i h w_i w_r e run ali g y n q l)
    by_fetch Passes (Decides.passes clear has) = by_end (not u || complete w_i) refl
      where
        by_port : (k : (not u || complete w_i) ≡ true) (p : Bool) → is_port pma_i ≡ p → Good (settle (on_fetch_address v io m w_r pma_i))
        by_port k true p = to (judging.fetch_port v io m w_r pma_i p) (refused_as (refuse t m i h w_i w_r (λ M. stops_port t m i h w_i w_r M ali (clear M) p)))
        by_port k false p = by_word clear (λ y. has) k p (reads 4 (memory_byte m) pma_i) refl

        by_end : (k : Bool) → (not u || complete w_i) ≡ k → Good (settle (on_fetch v io m w_i w_r Passes))
        by_end true k = to (judging.fetch_complete v io m w_i w_r (not u || complete w_i) refl k) (by_port k (is_port pma_i) refl)
        by_end false k = to (judging.fetch_incomplete v io m w_i w_r (not u || complete w_i) refl k) (refused_as (refuse t m i h w_i w_r (λ M. stops_incomplete t m i h w_i w_r M ali (clear M) k)))

  -- ---- the step

  fetching : v.running ≡ true → al ≡ true → (g : Bool) → held_i ≡ g → Good (settle (fetch v io m w_i w_r))
  fetching run ali true g = to (judging.fetch_fit v io m w_i w_r held_i (fault_of v m rq w_i) refl g refl) (by_fetch run ali g (fault_of v m rq w_i) (decides m whole u rq w_i))
  fetching run ali false g = to (judging.fetch_unfit v io m w_i w_r held_i refl g) (refused_as (refuse t m i h w_i w_r (λ M. stops_unfit t m i h w_i w_r M ali g)))

  steps : (r o : Bool) → v.running ≡ r → al ≡ o → Good (core_plan v io m w_i w_r)
  steps false o run q = to (judging.step_waits v io m w_i w_r run) (refused_as (refuse t m i h w_i w_r (λ M. stops_waiting t m i h w_i w_r M run)))
  steps true false run q = to (judging.step_misaligned v io m w_i w_r run q) (misaligned t m i h w_i w_r e run q)
  steps true true run q = to (judging.step_fetch v io m w_i w_r run q) (fetching run q held_i refl)

  pub core_case : Case t m (Some (ByProcessor i (Core w_i w_r))) (by_step t m (Some (ByProcessor i (Core w_i w_r))))
  unfolding by_step by_processor
  core_case = steps v.running al refl refl (core_plan_lem b io m w_i w_r whole)
