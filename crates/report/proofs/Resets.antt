-- Demand 2 for apic-initCore and apic-startCore.
-- Assumes nothing.
use Rattle.std.specs.Prelude.{if◌then◌else◌, Option, Some}
use mathlib.Core.Path.{◌≡◌, refl, sym, ◌∙◌, ap}
use mathlib.Core.Bool.{Bool, true, false, not, ◌&&◌}
use mathlib.Core.List.{List}
use mathlib.Core.Logic.{◌≢◌, inl, inr}
use Prim.Native.Nat.{ℕ, ◌+◌, ◌*◌, ◌/◌, ◌%◌, ◌^◌, ◌<◌}
use lib.Dec.{eqb}
use lib.ListN.{length, get_or, set, take, drop, length-set}
use lib.Seq.{get_or-set_same, get_or-set_other, take-set-lt, drop-set-add}
use native.Mathlib.Nat.{mod-eq_of_lt}
use native.Mathlib.Omega.{arith}
use borrow.Author.Tests.{lt-ltb}
use Rattle.word.specs.Word.{is_set, sll}
use Rattle.layout.specs.Layout as at
use Rattle.layout.specs.Blocks.{block}
use Rattle.records.specs.Records.{among}
use Rattle.records.proofs.Frame.{Alike, same_stores, same_walks}
use Rattle.tables.specs.Views.{cores_of, registers_of, running_of, sipivect_of}
use Rattle.tables.specs.Sound.{sound}
use Rattle.tables.proofs.Parts.{words_of}
use Rattle.tables.proofs.Places.{words_facts, run_same, set_run}
use Rattle.tables.proofs.Lift.{core_long, core_sound}
use Rattle.apic.specs.Active.{may_init, may_start, init_core, start_core}
use Rattle.apic.proofs.Kept.{Kept, Reset, kept_init_core, kept_start_core}
use Rattle.steps.specs.declared.Step.{Step}
use Rattle.steps.specs.declared.Step.TheVariants.{ByApic}
use Rattle.steps.specs.declared.ApicStep.TheVariants as kind
use Rattle.machine.specs.declared.action.Action.TheVariants as action
use Rattle.machine.specs.Actions.{Acts, tables_after, memory_after}
use Rattle.machine.specs.Decide.{if_allowed, by_apic, by_action, by_step}
use Rattle.report.specs.Configuration.{Apic, Configuration, with_apic, with_core, with_init, with_sipi}
use Rattle.report.specs.Delta as report
use Rattle.report.specs.View.{apic_of, processor_of, view, SameApic, SameProcessor, Same}
use Rattle.report.specs.Needs.{misses}
use Rattle.word.proofs.Bits.{zero_not_one}
use Rattle.report.proofs.Cases.{δx, adds_none, Case, is_a_step}
use Rattle.report.proofs.Apics.{eoi_bit}
use Rattle.report.proofs.Frames.{block_same}

-- ---- a block whose special registers, pc and flags alone are other

-- the word i of a run
run_set : (l : List ℕ) (a n i v : ℕ) → i < n → take n (drop a (set l (a + i) v)) ≡ set (take n (drop a l)) i v
run_set l a n i v h = ap (take n) (drop-set-add a l i v) ∙ take-set-lt n (drop a l) i v h

module _ (b c : List ℕ) (K : Kept Reset b c) where
  alike : Alike b c
  alike = record { heads = λ i p q. K.same i (inr (inl (omega arith, omega arith))); records = λ i p. K.same i (inr (inr (omega arith))) }

  reset_processor : (pc : ℕ) (spr : List ℕ) (a : Apic) → spr ≡ take 32 (drop at.spr c) → pc ≡ get_or c at.pc 0 → get_or c at.hi 0 ≡ get_or b at.hi 0 → get_or c at.lo 0 ≡ get_or b at.lo 0 → SameApic a (apic_of c) →
      SameProcessor (with_apic (with_core (processor_of b) (record { gpr = (registers_of b).gpr; spr = spr; pc = pc; hi = (registers_of b).hi; lo = (registers_of b).lo })) a) (processor_of c)
  unfolding processor_of registers_of
  reset_processor pc spr a p q x y A =
      record {
        core = λ i. record { gpr = sym (run_same b c 0 32 K.long (λ j l m. K.same j (inl (omega arith)))) i; spr = p i; pc = q i; hi = sym x i; lo = sym y i };
        sb = sym (same_stores alike);
        tlb = λ w. sym (ap (among w) (same_walks alike));
        apic = A;
      }

  reset_apic : (x y : Bool) → x ≡ eqb (get_or c at.initrr 0) 1 → y ≡ eqb (get_or c at.sipirr 0) 1 → get_or c at.sipivect 0 ≡ get_or b at.sipivect 0 →
      SameApic (with_sipi (with_init (apic_of b) x) y (apic_of b).sipivect) (apic_of c)
  unfolding apic_of
  reset_apic x y p q r =
      record {
        ports = λ j l. ap (λ (w : ℕ). w / 256 ^ (j % 4) % 256) (sym (K.same (72 + j / 4) (inr (inl (omega arith, omega arith)))));
        initrr = p;
        sipirr = q;
        sipivect = sym r;
        eoipending = λ v l. eoi_bit b v l ∙ ap (λ (w : ℕ). is_set w (v % 32)) (sym (K.same (104 + v / 32) (inr (inl (omega arith, omega arith))))) ∙ sym (eoi_bit c v l);
      }

-- ---- apic-initCore

module _ (t m : List ℕ) (e : sound t (length m) ≡ true) (k : ℕ) (h : k < cores_of t) where
  abbrev b : List ℕ
  b = block t k

  long : length b ≡ 256
  long = core_long t (length m) e k h

  abbrev x₁ : Option Step
  x₁ = Some (ByApic (kind.InitCore k))

  abbrev inited : (ℕ → ℕ) → Configuration
  inited M = report.reset (view t m M) k false 0 (set (set (report.cᵢ (view t m M) k).spr at.mode 0) at.eca 0) (with_init (report.apicᵢ (view t m M) k) false)

  outcome₁ : (M : ℕ → ℕ) (g : Bool) → may_init b ≡ g → δx t m x₁ M ≡ (if g then report.next (inited M) report.done else report.none)
  unfolding report.δBy report.init_core view processor_of apic_of
  outcome₁ M g q = rw (lt-ltb k (cores_of t) h, q)

  -- the words that init_core leaves
  init_other : (i : ℕ) → i ≢ 64 → i ≢ 39 → i ≢ 34 → i ≢ 67 → i ≢ 114 → get_or (init_core b) i 0 ≡ get_or b i 0
  unfolding init_core
  init_other i p q r s u =
      get_or-set_other (set (set (set (set b 64 0) 39 0) 34 0) 67 0) 114 i 0 0 u
      ∙ get_or-set_other (set (set (set b 64 0) 39 0) 34 0) 67 i 0 0 s
      ∙ get_or-set_other (set (set b 64 0) 39 0) 34 i 0 0 r ∙ get_or-set_other (set b 64 0) 39 i 0 0 q ∙ get_or-set_other b 64 i 0 0 p

  init_pc : get_or (init_core b) 64 0 ≡ 0
  unfolding init_core
  init_pc =
      get_or-set_other (set (set (set (set b 64 0) 39 0) 34 0) 67 0) 114 64 0 0 (omega arith)
      ∙ get_or-set_other (set (set (set b 64 0) 39 0) 34 0) 67 64 0 0 (omega arith)
      ∙ get_or-set_other (set (set b 64 0) 39 0) 34 64 0 0 (omega arith) ∙ get_or-set_other (set b 64 0) 39 64 0 0 (omega arith)
      ∙ get_or-set_same b 64 0 0 (omega (arith, long))

  init_running : get_or (init_core b) 67 0 ≡ 0
  unfolding init_core
  init_running =
      get_or-set_other (set (set (set (set b 64 0) 39 0) 34 0) 67 0) 114 67 0 0 (omega arith)
      ∙ get_or-set_same (set (set (set b 64 0) 39 0) 34 0) 67 0 0 (simp length-set (omega (arith, long)))

  init_initrr : get_or (init_core b) 114 0 ≡ 0
  unfolding init_core
  init_initrr = get_or-set_same (set (set (set (set b 64 0) 39 0) 34 0) 67 0) 114 0 0 (simp length-set (omega (arith, long)))

  init_spr : set (set (take 32 (drop 32 b)) 7 0) 2 0 ≡ take 32 (drop 32 (init_core b))
  unfolding init_core
  init_spr =
      sym
      (set_run (set (set (set (set b 64 0) 39 0) 34 0) 67 0) 114 0 32 32 (inr (omega arith))
      ∙ set_run (set (set (set b 64 0) 39 0) 34 0) 67 0 32 32 (inr (omega arith))
      ∙ run_set (set (set b 64 0) 39 0) 32 32 2 0 (omega arith)
      ∙ ap (λ (l : List ℕ). set l 2 0) (run_set (set b 64 0) 32 32 7 0 (omega arith) ∙ ap (λ (l : List ℕ). set l 7 0) (set_run b 64 0 32 32 (inr (omega arith)))))

  init_same : (M : ℕ → ℕ) → Same (inited M) (view (tables_after (Acts (action.InitCore k)) t) (memory_after (Acts (action.InitCore k)) m) M)
  unfolding tables_after memory_after view processor_of registers_of apic_of
  init_same M =
      let K = kept_init_core b in
      block_same t m e k h (init_core b) (K.long ∙ long) M
      (with_apic (with_core (processor_of b) (record { gpr = (registers_of b).gpr; spr = set (set (registers_of b).spr 7 0) 2 0; pc = 0; hi = (registers_of b).hi; lo = (registers_of b).lo })) (with_init (apic_of b) false)) false
      (reset_processor b (init_core b) K 0 (set (set (registers_of b).spr 7 0) 2 0) (with_init (apic_of b) false) init_spr (sym init_pc)
      (init_other 65 (omega arith) (omega arith) (omega arith) (omega arith) (omega arith)) (init_other 66 (omega arith) (omega arith) (omega arith) (omega arith) (omega arith))
      (reset_apic b (init_core b) K false (apic_of b).sipirr (sym (ap (λ (n : ℕ). eqb n 1) init_initrr))
      (sym (ap (λ (n : ℕ). eqb n 1) (init_other 112 (omega arith) (omega arith) (omega arith) (omega arith) (omega arith)))) (init_other 113 (omega arith) (omega arith) (omega arith) (omega arith) (omega arith))))
      (sym (ap (λ (n : ℕ). eqb n 1) init_running))

  pub init_case : Case t m x₁ (by_step t m x₁)
  unfolding by_step by_apic misses
  init_case = go (may_init b) refl
    where
      go : (g : Bool) → may_init b ≡ g → Case t m x₁ (by_action (if_allowed g (action.InitCore k)))
      go true q = Case.done refl (adds_none t m _ refl) (λ M y. refl) (λ M. record { to = inited M; is_next = outcome₁ M true q; agrees = init_same M })
      go false q = Case.undefined refl (is_a_step _ refl) (λ M. outcome₁ M false q)

  -- ---- apic-startCore

  abbrev x₂ : Option Step
  x₂ = Some (ByApic (kind.StartCore k))

  abbrev started : (ℕ → ℕ) → Configuration
  started M =
      report.reset (view t m M) k true ((report.apicᵢ (view t m M) k).sipivect * 2 ^ 24) (report.cᵢ (view t m M) k).spr (with_sipi (report.apicᵢ (view t m M) k) false (report.apicᵢ (view t m M) k).sipivect)

  outcome₂ : (M : ℕ → ℕ) (g : Bool) → may_start b ≡ g → δx t m x₂ M ≡ (if g then report.next (started M) report.done else report.none)
  unfolding report.δBy report.start_core view processor_of apic_of
  outcome₂ M g q =
      let W = words_facts b (words_of (length m) b (core_sound t (length m) e k h)) in
      let r : eqb (get_or b at.sipirr 0) 1 && not (eqb (running_of b) 1) ≡ g = ap (λ (z : Bool). eqb (get_or b at.sipirr 0) 1 && z) (sym (zero_not_one (running_of b) (omega (arith, W.running)))) ∙ q in
      rw (lt-ltb k (cores_of t) h, r)

  abbrev entry : ℕ
  entry = sll (get_or b at.sipivect 0) 24

  entry_is : get_or b at.sipivect 0 * 2 ^ 24 ≡ entry
  entry_is =
      let W = words_facts b (words_of (length m) b (core_sound t (length m) e k h)) in
      sym (mod-eq_of_lt (omega (arith, W.vector)))

  start_other : (i : ℕ) → i ≢ 64 → i ≢ 67 → i ≢ 112 → get_or (start_core b) i 0 ≡ get_or b i 0
  unfolding start_core
  start_other i p q r =
      get_or-set_other (set (set b 64 entry) 67 1) 112 i 0 0 r ∙ get_or-set_other (set b 64 entry) 67 i 1 0 q ∙ get_or-set_other b 64 i entry 0 p

  start_pc : get_or (start_core b) 64 0 ≡ entry
  unfolding start_core
  start_pc =
      get_or-set_other (set (set b 64 entry) 67 1) 112 64 0 0 (omega arith) ∙ get_or-set_other (set b 64 entry) 67 64 1 0 (omega arith)
      ∙ get_or-set_same b 64 entry 0 (omega (arith, long))

  start_running : get_or (start_core b) 67 0 ≡ 1
  unfolding start_core
  start_running =
      get_or-set_other (set (set b 64 entry) 67 1) 112 67 0 0 (omega arith) ∙ get_or-set_same (set b 64 entry) 67 1 0 (simp length-set (omega (arith, long)))

  start_sipirr : get_or (start_core b) 112 0 ≡ 0
  unfolding start_core
  start_sipirr = get_or-set_same (set (set b 64 entry) 67 1) 112 0 0 (simp length-set (omega (arith, long)))

  start_spr : take 32 (drop 32 b) ≡ take 32 (drop 32 (start_core b))
  unfolding start_core
  start_spr =
      sym
      (set_run (set (set b 64 entry) 67 1) 112 0 32 32 (inr (omega arith))
      ∙ set_run (set b 64 entry) 67 1 32 32 (inr (omega arith)) ∙ set_run b 64 entry 32 32 (inr (omega arith)))

  start_same : (M : ℕ → ℕ) → Same (started M) (view (tables_after (Acts (action.StartCore k)) t) (memory_after (Acts (action.StartCore k)) m) M)
  unfolding tables_after memory_after view processor_of registers_of apic_of
  start_same M =
      let K = kept_start_core b in
      let a : Apic = with_sipi (apic_of b) false (sipivect_of b) in
      let pc : ℕ = sipivect_of b * 2 ^ 24 in
      block_same t m e k h (start_core b) (K.long ∙ long) M
      (with_apic (with_core (processor_of b) (record { gpr = (registers_of b).gpr; spr = (registers_of b).spr; pc = pc; hi = (registers_of b).hi; lo = (registers_of b).lo })) a) true
      (reset_processor b (start_core b) K pc (registers_of b).spr a start_spr (entry_is ∙ sym start_pc)
      (start_other 65 (omega arith) (omega arith) (omega arith)) (start_other 66 (omega arith) (omega arith) (omega arith))
      (reset_apic b (start_core b) K (apic_of b).initrr false (sym (ap (λ (n : ℕ). eqb n 1) (start_other 114 (omega arith) (omega arith) (omega arith))))
      (sym (ap (λ (n : ℕ). eqb n 1) start_sipirr)) (start_other 113 (omega arith) (omega arith) (omega arith))))
      (sym (ap (λ (n : ℕ). eqb n 1) start_running))

  pub start_case : Case t m x₂ (by_step t m x₂)
  unfolding by_step by_apic misses
  start_case = go (may_start b) refl
    where
      go : (g : Bool) → may_start b ≡ g → Case t m x₂ (by_action (if_allowed g (action.StartCore k)))
      go true q = Case.done refl (adds_none t m _ refl) (λ M y. refl) (λ M. record { to = started M; is_next = outcome₂ M true q; agrees = start_same M })
      go false q = Case.undefined refl (is_a_step _ refl) (λ M. outcome₂ M false q)
