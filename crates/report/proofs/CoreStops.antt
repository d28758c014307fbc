-- A core's step that fetches no instruction, or stops the one that it fetches: a misaligned pc, a page fault, an
-- interrupt.
-- Assumes nothing.
use Rattle.std.specs.Prelude.{if◌then◌else◌, Ok, Err}
use Rattle.refusals.specs.declared.Refusal.TheVariants.{ByteNowhere}
use mathlib.Core.Path.{◌≡◌, refl, sym, ◌∙◌, ap}
use mathlib.Core.Bool.{Bool, true, false, not, ◌&&◌, ◌||◌}
use mathlib.Core.List.{List}
use Prim.Native.Nat.{ℕ, ◌+◌, ◌%◌, ◌^◌, ◌<◌, ◌≤◌}
use lib.Dec.{eqb}
use lib.ListN.{length}
use native.Mathlib.Omega.{arith}
use Rattle.word.specs.Word.{is_set}
use Rattle.word.proofs.Tests.{true_false, and_false}
use Rattle.word.proofs.Truth.{and-true}
use Rattle.layout.specs.Layout as at
use Rattle.layout.specs.Blocks.{block}
use Rattle.decode.specs.declared.Instruction.{Instruction}
use Rattle.decode.specs.Mnemonics.{store, cas, flush, invlpg}
use Rattle.isa.specs.Core.{spr_at}
use Rattle.isa.specs.Interrupts.{ovf_of, user, il}
use Rattle.records.specs.declared.Walk.{Walk}
use Rattle.records.specs.Records.{among, walks, stores}
use Rattle.tlb.specs.Walks.{hit, base_address, ptea}
use Rattle.tables.specs.Views.{cores_of}
use Rattle.apic.specs.LocalApic.{event}
use Rattle.tables.specs.Sound.{sound}
use Rattle.steps.specs.declared.Answer.TheVariants.{Done, Interrupt}
use Rattle.cores.specs.declared.WalkChange.{WalkChange}
use Rattle.cores.specs.declared.Plan.{Plan}
use Rattle.cores.specs.Core.{View, is_event, vector_of, suppressed, stopped, causes_without, faulted, fetch_request_of}
use Rattle.cores.proofs.Decisions.{PlanMayBeDone, MayBeDone}
use Rattle.cores.proofs.Sounds.{tlb_after}
use Rattle.machine.specs.Actions as machine
use Rattle.report.specs.Configuration.{Configuration}
use Rattle.report.specs.Components.{fault, ΣTlb, δtlb}
use Rattle.report.specs.Delta as report
use Rattle.report.specs.View.{view, processor_of, memory_of}
use Rattle.report.specs.Needs.{misses}
use Rattle.report.proofs.Cases.{Case, adds_none}
use Rattle.report.proofs.Memory.{nothing, consulted}
use Rattle.report.proofs.Flushed.{page_flushed}
use Rattle.report.proofs.CoreGuards.{off, holds_unasked, hold_without}
use Rattle.report.proofs.CoreFacts as facts
use Rattle.report.proofs.CoreRefusals.{K, guarded, allow, walk_holds}
use Rattle.report.proofs.CoreNeeds.{missing, None, has_without, misses_entry}
use Rattle.report.proofs.CoreEffects.{mal_stops, pff_stops, is_interrupt, stops_without, quiet, Lands, lead, R', stopped_lands}

module _ (t m : List ℕ) (i : ℕ) (h : i < cores_of t) (w_i w_r : Walk) where
  abbrev b : List ℕ
  b = block t i

  abbrev v : View
  v = facts.v t m i w_i w_r

  abbrev u : Bool
  u = user v.core

  abbrev al : Bool
  al = facts.al t m i w_i w_r

  abbrev c : (ℕ → ℕ) → Configuration
  c M = view t m M

  -- ---- nothing of the instruction takes effect

  pub sb_still : (M : ℕ → ℕ) → report.does (c M) i w_i w_r ovf_of store ≡ false → report.sb' (c M) i w_i w_r ovf_of ≡ stores b
  unfolding report.sb' view processor_of
  sb_still M p = rw p refl

  pub memory_still : (M : ℕ → ℕ) → report.does (c M) i w_i w_r ovf_of cas ≡ false → (y : ℕ) → report.m' (c M) i w_i w_r ovf_of y ≡ memory_of m M y
  unfolding report.m' view
  memory_still M p y = rw p refl

  module _ (M : ℕ → ℕ) (no_flush : report.does (c M) i w_i w_r ovf_of flush ≡ false) (no-invlpg : report.does (c M) i w_i w_r ovf_of invlpg ≡ false) where
    -- the walks that go, by the page faults
    tlb_by : Bool → Bool → Walk → Bool
    tlb_by f g =
        if f then δtlb (report.tlbᵢ (c M) i) (ΣTlb.flush_page (report.asidᵢ (c M) i) (base_address v.core.pc))
        else if g then δtlb (report.tlbᵢ (c M) i) (ΣTlb.flush_page (report.asidᵢ (c M) i) (base_address (report.EA (c M) i w_i w_r)))
        else report.tlbᵢ (c M) i

    tlb_by_lem : report.tlb' (c M) i w_i w_r ovf_of ≡ tlb_by (report.pff (c M) i w_i w_r) (report.pfls (c M) i w_i w_r)
    unfolding report.tlb' tlb_by view processor_of
    tlb_by_lem = rw (no_flush, no-invlpg) refl

    pub tlb_still : report.pff (c M) i w_i w_r ≡ false → report.pfls (c M) i w_i w_r ≡ false → (y : Walk) → report.tlb' (c M) i w_i w_r ovf_of y ≡ among y (walks b)
    unfolding tlb_by view processor_of
    tlb_still e f y = ap (λ (s : Walk → Bool). s y) (tlb_by_lem ∙ (ap (λ (k : Bool). tlb_by k (report.pfls (c M) i w_i w_r)) e ∙ ap (λ (k : Bool). tlb_by false k) f))

    pub tlb_fetch : report.pff (c M) i w_i w_r ≡ true → (y : Walk) → report.tlb' (c M) i w_i w_r ovf_of y ≡ among y (tlb_after (faulted v.core v.core.pc) (walks b))
    unfolding tlb_by view processor_of
    tlb_fetch e y =
        ap (λ (s : Walk → Bool). s y) (tlb_by_lem ∙ ap (λ (k : Bool). tlb_by k (report.pfls (c M) i w_i w_r)) e)
        ∙ page_flushed (base_address v.core.pc) (spr_at v.core at.asid % 2 ^ 6) (omega arith) (walks b) y

    pub tlb_data : report.pff (c M) i w_i w_r ≡ false → report.pfls (c M) i w_i w_r ≡ true → (a : ℕ) → report.EA (c M) i w_i w_r ≡ a →
        (y : Walk) → report.tlb' (c M) i w_i w_r ovf_of y ≡ among y (tlb_after (faulted v.core a) (walks b))
    unfolding tlb_by view processor_of
    tlb_data e f a g y =
        ap (λ (s : Walk → Bool). s y) (tlb_by_lem ∙ (ap (λ (k : Bool). tlb_by k (report.pfls (c M) i w_i w_r)) e ∙ ap (λ (k : Bool). tlb_by false k) f))
        ∙ (ap (λ (n : ℕ). δtlb (λ (x : Walk). among x (walks b)) (ΣTlb.flush_page (spr_at v.core at.asid % 2 ^ 6) (base_address n)) y) g
        ∙ page_flushed (base_address a) (spr_at v.core at.asid % 2 ^ 6) (omega arith) (walks b) y)

  -- ---- answers

  pub missed : (y : ℕ) → ((M : ℕ → ℕ) → missing (c M) i w_i w_r (length m) y ≡ true) → guarded t m i h w_i w_r nothing ≡ true → K t m i h w_i w_r (Err ByteNowhere)
  unfolding misses
  missed y f g = Case.no_byte refl y f nothing (λ z. omega arith) (allow t m i h w_i w_r nothing g)

  module _ (e : sound t (length m) ≡ true) (p : Plan) (D : PlanMayBeDone (length m) b p) (q : quiet p.write ≡ true) (g : (M : ℕ → ℕ) → guarded t m i h w_i w_r M ≡ true) (n : (M : ℕ → ℕ) → None t m i h w_i w_r M) where
    pub interrupts : (l : ℕ) → p.answer ≡ Interrupt l → ((M : ℕ → ℕ) → Lands t m i h w_i w_r M p (report.interrupt l)) → K t m i h w_i w_r (Ok p)
    unfolding misses machine.tables_after machine.memory_after
    interrupts l a L = Case.interrupt l (ap Ok a) (adds_none t m _ refl) n (λ M. lead t m i h w_i w_r e p D q M (report.interrupt l) (g M) (L M))

    pub finishes : p.answer ≡ Done → ((M : ℕ → ℕ) → Lands t m i h w_i w_r M p report.done) → K t m i h w_i w_r (Ok p)
    unfolding misses machine.tables_after machine.memory_after
    finishes a L = Case.done (ap Ok a) (adds_none t m _ refl) n (λ M. lead t m i h w_i w_r e p D q M report.done (g M) (L M))

  -- an interrupt that stops the instruction, and the walks that go
  module _ (e : sound t (length m) ≡ true) (w ca : ℕ) (ws : WalkChange) (D : MayBeDone (length m) b (Ok (stopped v w ca ws))) where
    pub halts : ((M : ℕ → ℕ) → guarded t m i h w_i w_r M ≡ true) → ((M : ℕ → ℕ) → None t m i h w_i w_r M) →
        ((M : ℕ → ℕ) → Lands t m i h w_i w_r M (stopped v w ca ws) (report.interrupt (il ca))) → K t m i h w_i w_r (Ok (stopped v w ca ws))
    halts g n L = interrupts e (stopped v w ca ws) D refl g n (il ca) refl L

  -- ---- without an instruction

  module _ (M : ℕ → ℕ) (no_word : report.fetched (c M) i w_i w_r ≡ false) where
    nothing_done : (p : Instruction → Bool) → report.does (c M) i w_i w_r ovf_of p ≡ false
    nothing_done p = facts.does_nothing t m i w_i w_r M no_word p

    no_pfls : report.pfls (c M) i w_i w_r ≡ false
    unfolding report.pfls
    no_pfls = off (report.uses_r (c M) i w_i w_r) _ (facts.uses_none t m i w_i w_r M no_word)

    halts_without : (ca : ℕ) (ws : WalkChange) → report.mca (c M) i w_i w_r ovf_of ≡ ca → (suppressed ca ≡ true) × (eqb (il ca) 5 ≡ false) →
        ((y : Walk) → report.tlb' (c M) i w_i w_r ovf_of y ≡ among y (tlb_after ws (walks b))) → Lands t m i h w_i w_r M (stopped v 0 ca ws) (report.interrupt (il ca))
    halts_without ca ws p s f =
        stopped_lands t m i h w_i w_r M ca p 0 ws s.0 (stops_without v.core (report.I (c M) i w_i w_r) (R' t m i h w_i w_r M) ca (vector_of (event b)) (is_interrupt ca s.0).1 s.1)
        (sb_still M (nothing_done store)) f (memory_still M (nothing_done cas))

  -- the external event that is not masked
  abbrev raised : Bool
  raised = is_event v.eev && is_set (spr_at v.core at.sr) 1

  -- a pc that is not divisible by four
  module _ (e : sound t (length m) ≡ true) (run : v.running ≡ true) (mis : al ≡ false) where
    mis_word : (M : ℕ → ℕ) → report.fetched (c M) i w_i w_r ≡ false
    unfolding view processor_of
    mis_word M = off al _ mis

    mis_walk : (u && al) ≡ false
    mis_walk = ap (λ (s : Bool). u && s) mis ∙ and_false u

    mis_pff : (M : ℕ → ℕ) → report.pff (c M) i w_i w_r ≡ false
    mis_pff M = facts.pff_is t m i w_i w_r M ∙ off (u && al) _ mis_walk

    mis_guards : (M : ℕ → ℕ) → guarded t m i h w_i w_r M ≡ true
    unfolding view processor_of
    mis_guards M =
        hold_without (c M) i w_i w_r (mis_word M) (off (u && al) _ mis_walk) (holds_unasked (u && al) _ mis_walk) run

    pub misaligned : MayBeDone (length m) b (Ok (stopped v 0 (causes_without v true false) WalkChange.Nothing)) → K t m i h w_i w_r (Ok (stopped v 0 (causes_without v true false) WalkChange.Nothing))
    misaligned D =
        halts e 0 (causes_without v true false) WalkChange.Nothing D mis_guards
        (λ M. has_without t m i h w_i w_r M (mis_word M) (λ a. absurd (true_false (sym a ∙ mis))))
        (λ M. halts_without M (mis_word M) (causes_without v true false) WalkChange.Nothing (facts.causes_without_lem t m i w_i w_r M (mis_word M) false false mis (mis_pff M)) (mal_stops raised) (tlb_still M (nothing_done M (mis_word M) flush) (nothing_done M (mis_word M) invlpg) (mis_pff M) (no_pfls M (mis_word M))))

  -- a page fault on fetch, with some bytes beyond memory
  module _ (run : v.running ≡ true) (ali : al ≡ true) (held : (not u || (among w_i v.tlb && hit (fetch_request_of v.core) w_i)) ≡ true)
      (M : ℕ → ℕ) (user : u ≡ true) (f : (u && fault (memory_of m M) (fetch_request_of v.core) w_i) ≡ true) where
    faulty_pff : report.pff (c M) i w_i w_r ≡ true
    faulty_pff = facts.pff_is t m i w_i w_r M ∙ (ap (λ (s : Bool). (u && s) && fault (memory_of m M) (fetch_request_of v.core) w_i) ali ∙ (ap (λ (s : Bool). s && fault (memory_of m M) (fetch_request_of v.core) w_i) (and-true u) ∙ f))

    faulty_word : report.fetched (c M) i w_i w_r ≡ false
    faulty_word = ap (λ (s : Bool). report.aligned (c M) i w_i w_r && not s) faulty_pff ∙ and_false (report.aligned (c M) i w_i w_r)

    faulty_guards : guarded t m i h w_i w_r M ≡ true
    unfolding view processor_of
    faulty_guards =
        hold_without (c M) i w_i w_r faulty_word (ap (λ (s : Bool). (u && al) && not s) faulty_pff ∙ and_false (u && al)) (walk_holds u al _ held) run

  module _ (e : sound t (length m) ≡ true) (run : v.running ≡ true) (ali : al ≡ true) (held : (not u || (among w_i v.tlb && hit (fetch_request_of v.core) w_i)) ≡ true) (user : u ≡ true) where
    pub fetch_faults : ((M : ℕ → ℕ) → (u && fault (memory_of m M) (fetch_request_of v.core) w_i) ≡ true) → ptea w_i + 4 ≤ length m →
        MayBeDone (length m) b (Ok (stopped v 0 (causes_without v false true) (faulted v.core v.core.pc))) → K t m i h w_i w_r (Ok (stopped v 0 (causes_without v false true) (faulted v.core v.core.pc)))
    fetch_faults f l D =
        halts e 0 (causes_without v false true) (faulted v.core v.core.pc) D (λ M. faulty_guards run ali held M user (f M))
        (λ M. has_without t m i h w_i w_r M (faulty_word run ali held M user (f M)) (λ a k. l))
        (λ M.
        let n = faulty_word run ali held M user (f M) in
        let p = faulty_pff run ali held M user (f M) in
        halts_without M n (causes_without v false true) (faulted v.core v.core.pc) (facts.causes_without_lem t m i w_i w_r M n true true ali p) (pff_stops raised) (tlb_fetch M (nothing_done M n flush) (nothing_done M n invlpg) p))

    pub fetch_misses : (u && fault (memory_of m nothing) (fetch_request_of v.core) w_i) ≡ true → consulted (fetch_request_of v.core) w_i ≡ true → length m ≤ ptea w_i → K t m i h w_i w_r (Err ByteNowhere)
    fetch_misses f k l = missed (ptea w_i) (λ M. misses_entry t m i h w_i w_r M user ali k l) (faulty_guards run ali held nothing user f)
