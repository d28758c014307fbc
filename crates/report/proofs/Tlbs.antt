-- Demand 2 for the TLB's own steps: tlb-create, tlb-extend and tlb-set-accessed.
-- Assumes nothing.
use Rattle.std.specs.Prelude.{if◌then◌else◌, Some, None, Option, Result, Ok, Err}
use Rattle.refusals.specs.declared.Refusal.{Refusal}
use Rattle.refusals.specs.declared.Refusal.TheVariants.{NoNextState, WalksFull, NoFreeRecord}
use mathlib.Core.Path.{◌≡◌, refl, sym, ◌∙◌, ap, ap₂, subst}
use mathlib.Core.Bool.{Bool, true, false, not, ◌&&◌, ◌||◌}
use mathlib.Core.List.{List, ◌∷◌}
use Prim.Native.Nat.{ℕ, ◌+◌, ◌-◌, ◌^◌, ◌<◌, ◌≤◌}
use lib.Dec.{eqb, ltb, leb}
use lib.ListN.{length}
use native.Mathlib.Omega.{arith}
use borrow.Author.Tests.{lt-ltb, le-ltb, leb-true, leb-false, eqb-true}
use Rattle.word.specs.Bytes.{bytes_at}
use Rattle.word.proofs.Bytes.{Bytes}
use Rattle.word.proofs.Tests.{true_false, or_false}
use Rattle.layout.specs.Layout as at
use Rattle.layout.specs.Blocks.{block}
use Rattle.records.specs.declared.Walk.{Walk}
use Rattle.records.specs.Records.{walks, same, among}
use Rattle.records.specs.inner.Walks.{with_walk}
use Rattle.tables.specs.Views.{cores_of, user_mode, runs, asid_of}
use Rattle.tables.specs.Sound.{sound}
use Rattle.tables.proofs.Lift.{core_long, core_sound}
use Rattle.tables.proofs.Steps.{block_linked, block_few_stores, block_few_walks}
use Rattle.tlb.specs.declared.Change.{Change}
use Rattle.tlb.specs.declared.Change.TheVariants as tlb
use Rattle.tlb.specs.Walks.{base_address, pte_a, pte_p, ptea, entry_at, walk_asid, complete, winit, wext, wext_fault, suffices, set_d}
use Rattle.tables.proofs.Shown.{special_at}
use Rattle.tlb.specs.Steps.{origin_of, extendable, tlb_create, on_extend, tlb_extend, on_accessed, tlb_accessed}
use Rattle.tlb.proofs.Fields.{same_walk, ptea_aligned, ptea_low}
use Rattle.word.proofs.Words.{Words}
use Rattle.word.proofs.Truth.{and_left, and_right, or_turn, and_turn}
use Rattle.ioapic.proofs.Blocks.{block_words}
use Rattle.steps.specs.declared.Step.{Step}
use Rattle.steps.specs.declared.Step.TheVariants.{ByProcessor}
use Rattle.steps.specs.declared.ProcessorStep.TheVariants.{TlbCreate, TlbExtend, TlbAccessed}
use Rattle.cores.specs.declared.BufferChange.{BufferChange}
use Rattle.cores.specs.declared.WalkChange.{WalkChange}
use Rattle.cores.specs.declared.WalkChange.TheVariants.{Add}
use Rattle.cores.specs.declared.Write.{Write}
use Rattle.cores.specs.declared.Write.TheVariants.{Memory}
use Rattle.cores.specs.declared.Plan.{Plan}
use Rattle.cores.specs.Plans.{done}
use Rattle.cores.specs.Core.{is_free}
use Rattle.cores.specs.TlbSteps.{adding, planned}
use Rattle.cores.specs.Commit.{written_to}
use Rattle.cores.proofs.Free.{free_there}
use Rattle.cores.proofs.Decisions.{PlanMayBeDone, MayBeDone, create_plan, extend_plan, accessed_plan}
use Rattle.machine.specs.Actions.{Planned, tables_after, memory_after}
use Rattle.machine.specs.Decide.{by_processor, by_plan, by_step}
use Rattle.machine.proofs.Fitting.{quarters}
use Rattle.report.specs.Configuration.{Configuration, with_m, with_tlb}
use Rattle.report.specs.Components.{bytes, inside, ΣM, δm, ΣTlb, δtlb}
use Rattle.report.specs.Delta as report
use Rattle.report.specs.View.{processor_of, ioapic_of, memory_of, view, Same}
use Rattle.report.specs.Needs.{no_byte, misses}
use Rattle.report.specs.Demands.{Adds, Crowded}
use Rattle.report.proofs.Memory.{memory_out, memory_bytes, bytes_step, inside_from, inside_is, put_memory}
use Rattle.report.proofs.Cases.{δx, Has, Roomy, adds_none, Case, is_a_step}
use Rattle.report.proofs.Frames.{io_still, plan_processor, plan_same, plan_memory_same}

-- ---- the walks as a set

same_among : (v w : Walk) (l : List Walk) → same v w ≡ true → among v l ≡ true → among w l ≡ true
same_among v w l e p =
    subst (λ (x : Walk). among x l ≡ true)
    (same_walk (eqb-true v.first w.first (and_left (eqb v.first w.first) _ e)) (eqb-true v.second w.second (and_right (eqb v.first w.first) _ e))) p

-- with one more
pub add_among : (v : Walk) (l : List Walk) (w : Walk) → δtlb (λ x. among x l) (ΣTlb.add_walk v) w ≡ among w (with_walk v l)
unfolding δtlb with_walk among
add_among v l w = go (among v l) refl (same v w) refl
  where
    go : (h : Bool) → among v l ≡ h → (s : Bool) → same v w ≡ s → among w l || s ≡ among w (elim h [ true ↦ l | false ↦ v ∷ l ])
    go true p true q = ap (λ (b : Bool). b || true) (same_among v w l q p) ∙ sym (same_among v w l q p)
    go true p false q = or_false (among w l)
    go false p s q = or_turn (among w l) s ∙ ap (λ (b : Bool). b || among w l) (sym q)

-- ---- a walk that is to be added

module _ (t m : List ℕ) (e : sound t (length m) ≡ true) (k : ℕ) (h : k < cores_of t) (w : Walk) where
  abbrev b : List ℕ
  b = block t k

  -- the configuration with it
  abbrev added : (ℕ → ℕ) → Configuration
  added M = report.with_processor (view t m M) k (with_tlb ((view t m M).p k) (δtlb (report.tlbᵢ (view t m M) k) (ΣTlb.add_walk w)))

  abbrev plan : Plan
  plan = done BufferChange.Nothing (Add w) Write.Nothing

  leads : PlanMayBeDone (length m) b plan → (M : ℕ → ℕ) → Same (added M) (view (tables_after (Planned k plan) t) (memory_after (Planned k plan) m) M)
  unfolding view processor_of tables_after memory_after written_to
  leads D M =
      plan_same t m k plan e h D M (with_tlb (processor_of b) (δtlb (λ x. among x (walks b)) (ΣTlb.add_walk w))) (memory_of m M) (ioapic_of t)
      (plan_processor (length m) plan b (core_long t (length m) e k h) (core_sound t (length m) e k h) D.is_ready D.is_sound tt (δtlb (λ x. among x (walks b)) (ΣTlb.add_walk w)) (add_among w (walks b)))
      (λ x l. refl)
      (io_still t m k plan e h D refl)

  -- what the step x comes to, which adds w by δ too
  module _ (x : Option Step) (has : Has t m x) (next : (M : ℕ → ℕ) → δx t m x M ≡ report.next (added M) report.done)
      (that : (M : ℕ → ℕ) → Adds t m x M k w) (only : (M : ℕ → ℕ) (i : ℕ) (v : Walk) → Adds t m x M i v → (i ≡ k) × (v ≡ w)) where
    room : among w (walks b) || ltb (length (walks b)) 23 ≡ true → Roomy t m x
    unfolding view processor_of
    room r M C =
        let o = only M C.i C.w C.adds in
        let new : among w (walks b) ≡ false = ap₂ (λ (j : ℕ) (v : Walk). among v (walks (block t j))) (sym o.0) (sym o.1) ∙ C.new in
        let held : length (walks b) ≡ 23 = ap (λ (j : ℕ). length (walks (block t j))) (sym o.0) ∙ C.held in
        true_false (sym r ∙ ap (λ (y : Bool). y || ltb (length (walks b)) 23) new ∙ le-ltb (length (walks b)) 23 (omega arith))

    placed : among w (walks b) || ltb (length (walks b)) 23 ≡ true → PlanMayBeDone (length m) b plan → Case t m x (by_plan k (Ok plan))
    placed r D = Case.done refl (room r) has (λ M. record { to = added M; is_next = next M; agrees = leads D M })

    pub adds : MayBeDone (length m) b (adding (walks b) (is_free b) w) → Case t m x (by_plan k (adding (walks b) (is_free b) w))
    unfolding adding view processor_of
    adds = go (among w (walks b)) (leb 23 (length (walks b))) (is_free b) refl refl refl
      where
        n : length (walks b) ≤ 23
        n = block_few_walks (length m) b (core_sound t (length m) e k h) (core_long t (length m) e k h)

        crowded : among w (walks b) ≡ false → leb 23 (length (walks b)) ≡ true → (M : ℕ → ℕ) → Crowded t m x M
        crowded p q M = record { i = k; w = w; adds = that M; new = p; held = omega (arith, n, leb-true 23 (length (walks b)) q) }

        go : (a f r : Bool) → among w (walks b) ≡ a → leb 23 (length (walks b)) ≡ f → is_free b ≡ r →
            MayBeDone (length m) b (if not a && f then Err WalksFull else if not a && not r then Err NoFreeRecord else Ok plan) → Case t m x (by_plan k (if not a && f then Err WalksFull else if not a && not r then Err NoFreeRecord else Ok plan))
        go true f r p q z D = placed (ap (λ (y : Bool). y || ltb (length (walks b)) 23) p) D
        go false true r p q z D = Case.no_walk refl has (λ M. record { to = added M; answer = report.done; is_next = next M }) (crowded p q)
        go false false true p q z D =
            placed (ap (λ (y : Bool). y || ltb (length (walks b)) 23) p ∙ lt-ltb (length (walks b)) 23 (leb-false 23 (length (walks b)) q)) D
        go false false false p q z D =
            absurd
            (true_false
            (sym (free_there b (core_long t (length m) e k h) (block_linked (length m) b (core_sound t (length m) e k h))
            (omega (arith, leb-false 23 (length (walks b)) q, block_few_stores (length m) b (core_sound t (length m) e k h) (core_long t (length m) e k h))))
            ∙ z))

-- ---- tlb-create

module _ (t m : List ℕ) (e : sound t (length m) ≡ true) (ws : Words t) (k : ℕ) (h : k < cores_of t) (va : ℕ) (low : va < 2 ^ 20) where
  abbrev b₁ : List ℕ
  b₁ = block t k

  abbrev new : Walk
  new = winit va (origin_of b₁) (asid_of b₁)

  new_same : (M : ℕ → ℕ) → report.created (view t m M) k va ≡ new
  unfolding view processor_of
  new_same M = ap (λ (o : ℕ). winit va (base_address o) (asid_of b₁)) (special_at b₁ at.pto (omega arith))

  outcome : (M : ℕ → ℕ) (g : Bool) → (user_mode b₁ && runs b₁) ≡ g → δx t m (Some (ByProcessor k (TlbCreate va))) M ≡ (if g then report.next (added t m e k h new M) report.done else report.none)
  unfolding report.δBy report.tlb_create view processor_of
  outcome M g q = rw (lt-ltb k (cores_of t) h, q, special_at b₁ at.pto (omega arith))

  only : (M : ℕ → ℕ) (i : ℕ) (v : Walk) → Adds t m (Some (ByProcessor k (TlbCreate va))) M i v → (i ≡ k) × (v ≡ new)
  only M i v (Adds.creates j y q) =
      let p : j ≡ k = cc in
      let z : y ≡ va = cc in
      (p, ap₂ (λ (l o : ℕ). report.created (view t m M) l o) p z ∙ new_same M)
  only M i v (Adds.extends j y q) = absurd (let z : ◌≡◌ {A = ℕ} 0 1 = cc in omega arith)

  pub create_case : Case t m (Some (ByProcessor k (TlbCreate va))) (by_step t m (Some (ByProcessor k (TlbCreate va))))
  unfolding by_step by_processor tlb_create planned misses
  create_case = go (user_mode b₁ && runs b₁) refl (create_plan b₁ m va low (block_words t k ws (at.spr + at.pto)))
    where
      plan₁ : Bool → Result Plan Refusal
      plan₁ g = planned (walks b₁) (is_free b₁) (if g then Ok (tlb.Adds new) else Err NoNextState)

      go : (g : Bool) → (user_mode b₁ && runs b₁) ≡ g → MayBeDone (length m) b₁ (plan₁ g) → Case t m (Some (ByProcessor k (TlbCreate va))) (by_plan k (plan₁ g))
      go true q D =
          adds t m e k h new (Some (ByProcessor k (TlbCreate va))) (λ M y. refl)
          (λ M. outcome M true q)
          (λ M. subst (λ (w : Walk). Adds t m (Some (ByProcessor k (TlbCreate va))) M k w) (new_same M) (Adds.creates k va refl)) only D
      go false q D = Case.undefined refl (is_a_step _ refl) (λ M. outcome M false q)

-- ---- an entry that is not in memory may be any

-- all ones beyond memory
abbrev ones : ℕ → ℕ
ones x = 255

bytes_ones : (m : List ℕ) (a : ℕ) → a + 4 ≤ 2 ^ 32 → length m ≤ a → bytes 4 (memory_of m ones) a ≡ 2 ^ 32 - 1
unfolding bytes
bytes_ones m a h l =
    let f : ℕ → ℕ = memory_of m ones in
    omega (
      arith,
      bytes_step 3 f a (omega arith),
      bytes_step 2 f (a + 1) (omega arith),
      bytes_step 1 f (a + 1 + 1) (omega arith),
      bytes_step 0 f (a + 1 + 1 + 1) (omega arith),
      memory_out m ones a l,
      memory_out m ones (a + 1) (omega arith),
      memory_out m ones (a + 1 + 1) (omega arith),
      memory_out m ones (a + 1 + 1 + 1) (omega arith),
    )

module _ (t m : List ℕ) (e : sound t (length m) ≡ true) (w : Walk) where
  -- the bytes of the entry of w are needed
  entry_has : ptea w + 4 ≤ length m → (y : ℕ) → no_byte (length m) (inside y (ptea w) 4) y ≡ false
  entry_has h y = go (inside y (ptea w) 4) refl
    where
      go : (i : Bool) → inside y (ptea w) 4 ≡ i → no_byte (length m) i y ≡ false
      go true q = ap not (lt-ltb y (length m) (omega (arith, (inside_from y (ptea w) 4 q).1)))
      go false q = refl

  module _ (l : leb (ptea w + 4) (length m) ≡ false) where
    beyond : length m ≤ ptea w
    beyond = omega (arith, leb-false (ptea w + 4) (length m) l, ptea_aligned w, quarters t (length m) e)

    entry_misses : no_byte (length m) (inside (ptea w) (ptea w) 4) (ptea w) ≡ true
    entry_misses = rw (inside_is (ptea w) (ptea w) 4 (omega arith) (omega arith), le-ltb (ptea w) (length m) beyond)

    any_entry : bytes 4 (memory_of m ones) (ptea w) ≡ 2 ^ 32 - 1
    any_entry = bytes_ones m (ptea w) (ptea_low w) beyond

-- ---- guards in any order

and_assoc : (a b c : Bool) → (a && b) && c ≡ a && (b && c)
and_assoc true b c = refl
and_assoc false b c = refl

and_swap : (a b c : Bool) → a && (b && c) ≡ b && (a && c)
and_swap a b c = sym (and_assoc a b c) ∙ ap (λ (x : Bool). x && c) (and_turn a b) ∙ and_assoc b a c

-- ---- tlb-extend

order₂ : (a b c d f r : Bool) → (a && b && c && d && f && r) ≡ ((r && (a && (b && c))) && (d && f))
order₂ a b c d f r = simp (and_assoc, and_turn, and_swap)

module _ (t m : List ℕ) (e : sound t (length m) ≡ true) (bs : Bytes m) (k : ℕ) (h : k < cores_of t) (w : Walk) where
  abbrev b₂ : List ℕ
  b₂ = block t k

  abbrev x₂ : Option Step
  x₂ = Some (ByProcessor k (TlbExtend w))

  abbrev may_extend : Bool
  may_extend = runs b₂ && extendable (asid_of b₂) (walks b₂) w

  abbrev extends : ℕ → Bool
  extends v = pte_a v && not (wext_fault v 0b000)

  -- by the entry v
  outcome₂ : (M : ℕ → ℕ) (v : ℕ) → bytes 4 (memory_of m M) (ptea w) ≡ v →
      δx t m x₂ M ≡ (if may_extend && extends v then report.next (added t m e k h (wext w v) M) report.done else report.none)
  unfolding report.δBy report.tlb_extend view processor_of extendable
  outcome₂ M v q =
      rw (lt-ltb k (cores_of t) h, q)
      (ap (λ (g : Bool). if g then report.next (added t m e k h (wext w v) M) report.done else report.none)
      (order₂ (among w (walks b₂)) (not (complete w)) (eqb (walk_asid w) (asid_of b₂)) (pte_a v) (not (wext_fault v 0b000)) (runs b₂)))

  present₂ : ptea w + 4 ≤ length m → (M : ℕ → ℕ) → bytes 4 (memory_of m M) (ptea w) ≡ bytes_at 4 m (ptea w)
  present₂ l M = memory_bytes m M 4 (ptea w) (ptea_low w) l

  only₂ : ptea w + 4 ≤ length m → (M : ℕ → ℕ) (i : ℕ) (y : Walk) → Adds t m x₂ M i y → (i ≡ k) × (y ≡ wext w (bytes_at 4 m (ptea w)))
  unfolding view
  only₂ l M i v (Adds.extends j y q) =
      let p : j ≡ k = cc in
      let z : y ≡ w = cc in
      (p, ap (λ (x : Walk). wext x (bytes 4 (memory_of m M) (ptea x))) z ∙ ap (wext w) (present₂ l M))
  only₂ l M i v (Adds.creates j y q) = absurd (let z : ◌≡◌ {A = ℕ} 0 1 = cc in omega arith)

  pub extend_case : Case t m x₂ (by_step t m x₂)
  unfolding by_step by_processor tlb_extend on_extend planned misses entry_at wext_fault suffices view
  extend_case = go may_extend refl (leb (ptea w + 4) (length m)) refl (extend_plan b₂ m w (core_sound t (length m) e k h) bs)
    where
      v : ℕ
      v = bytes_at 4 m (ptea w)

      ifs : (g d : Bool) (M : ℕ → ℕ) (n : ℕ) → may_extend ≡ g → extends n ≡ d → bytes 4 (memory_of m M) (ptea w) ≡ n →
          δx t m x₂ M ≡ (if g && d then report.next (added t m e k h (wext w n) M) report.done else report.none)
      ifs g d M n p q r = outcome₂ M n r ∙ ap₂ (λ (i j : Bool). if i && j then report.next (added t m e k h (wext w n) M) report.done else report.none) p q

      plan₂ : Result Change Refusal → Result Plan Refusal
      plan₂ d = planned (walks b₂) (is_free b₂) d

      by_entry : may_extend ≡ true → ptea w + 4 ≤ length m → (d : Bool) → extends v ≡ d → MayBeDone (length m) b₂ (plan₂ (if d then Ok (tlb.Adds (wext w v)) else Err NoNextState)) →
          Case t m x₂ (by_plan k (plan₂ (if d then Ok (tlb.Adds (wext w v)) else Err NoNextState)))
      by_entry p l true q D =
          adds t m e k h (wext w v) x₂ (λ M y. entry_has t m e w l y)
          (λ M. ifs true true M v p q (present₂ l M))
          (λ M. subst (λ (z : ℕ). Adds t m x₂ M k (wext w z)) (present₂ l M) (Adds.extends k w refl)) (only₂ l) D
      by_entry p l false q D = Case.undefined refl (is_a_step x₂ refl) (λ M. ifs true false M v p q (present₂ l M))

      go : (g : Bool) → may_extend ≡ g → (i : Bool) → leb (ptea w + 4) (length m) ≡ i → MayBeDone (length m) b₂ (plan₂ (if g then on_extend w (if i then Some v else None) else Err NoNextState)) →
          Case t m x₂ (by_plan k (plan₂ (if g then on_extend w (if i then Some v else None) else Err NoNextState)))
      go false p i l D = Case.undefined refl (is_a_step x₂ refl) (λ M. ifs false (extends (bytes 4 (memory_of m M) (ptea w))) M (bytes 4 (memory_of m M) (ptea w)) p refl refl)
      go true p true l D = by_entry p (leb-true (ptea w + 4) (length m) l) (extends v) refl D
      go true p false l D =
          Case.no_byte refl (ptea w) (λ M. entry_misses t m e w l) ones (λ y. omega arith)
          (record { to = added t m e k h (wext w (2 ^ 32 - 1)) ones; answer = report.done; is_next = ifs true true ones (2 ^ 32 - 1) p refl (any_entry t m e w l) })

-- ---- tlb-set-accessed

order₃ : (u a b c p : Bool) → (u && (a && b && c) && p) ≡ ((u && (a && (b && c))) && p)
order₃ u a b c p = simp and_assoc

module _ (t m : List ℕ) (e : sound t (length m) ≡ true) (k : ℕ) (h : k < cores_of t) (w : Walk) where
  abbrev b₃ : List ℕ
  b₃ = block t k

  abbrev x₃ : Option Step
  x₃ = Some (ByProcessor k (TlbAccessed w))

  abbrev may_mark : Bool
  may_mark = user_mode b₃ && extendable (asid_of b₃) (walks b₃) w

  -- the entry v with its accessed bit
  abbrev marked : (ℕ → ℕ) → ℕ → Configuration
  marked M v = with_m (view t m M) (δm (memory_of m M) (ΣM.write (record { address = ptea w; value = set_d v; width = 4 })))

  outcome₃ : (M : ℕ → ℕ) (v : ℕ) → bytes 4 (memory_of m M) (ptea w) ≡ v → δx t m x₃ M ≡ (if may_mark && pte_p v then report.next (marked M v) report.done else report.none)
  unfolding report.δBy report.tlb_accessed view processor_of extendable
  outcome₃ M v q =
      rw (lt-ltb k (cores_of t) h, q)
      (ap (λ (g : Bool). if g then report.next (marked M v) report.done else report.none)
      (order₃ (user_mode b₃) (among w (walks b₃)) (not (complete w)) (eqb (walk_asid w) (asid_of b₃)) (pte_p v)))

  abbrev marks : ℕ → Plan
  marks v = done BufferChange.Nothing WalkChange.Nothing (Memory (ptea w) 4 (set_d v))

  marks_leads : (v : ℕ) → ptea w + 4 ≤ length m → PlanMayBeDone (length m) b₃ (marks v) → (M : ℕ → ℕ) → Same (marked M v) (view (tables_after (Planned k (marks v)) t) (memory_after (Planned k (marks v)) m) M)
  unfolding tables_after memory_after written_to δm processor_of
  marks_leads v l D M =
      plan_memory_same t m k (marks v) e h D M (δm (memory_of m M) (ΣM.write (record { address = ptea w; value = set_d v; width = 4 })))
      (plan_processor (length m) (marks v) b₃ (core_long t (length m) e k h) (core_sound t (length m) e k h) D.is_ready D.is_sound tt (λ x. among x (walks b₃)) (λ x. refl))
      refl
      (λ x o. sym (put_memory 4 m M (ptea w) (set_d v) x l))

  pub accessed_case : Case t m x₃ (by_step t m x₃)
  unfolding by_step by_processor tlb_accessed on_accessed planned misses entry_at view
  accessed_case = go may_mark refl (leb (ptea w + 4) (length m)) refl (accessed_plan b₃ m w)
    where
      v : ℕ
      v = bytes_at 4 m (ptea w)

      ifs : (g d : Bool) (M : ℕ → ℕ) (n : ℕ) → may_mark ≡ g → pte_p n ≡ d → bytes 4 (memory_of m M) (ptea w) ≡ n →
          δx t m x₃ M ≡ (if g && d then report.next (marked M n) report.done else report.none)
      ifs g d M n p q r = outcome₃ M n r ∙ ap₂ (λ (i j : Bool). if i && j then report.next (marked M n) report.done else report.none) p q

      plan₃ : Result Change Refusal → Result Plan Refusal
      plan₃ d = planned (walks b₃) (is_free b₃) d

      by_entry : may_mark ≡ true → ptea w + 4 ≤ length m → (d : Bool) → pte_p v ≡ d → MayBeDone (length m) b₃ (plan₃ (if d then Ok (tlb.Marks (ptea w) (set_d v)) else Err NoNextState)) →
          Case t m x₃ (by_plan k (plan₃ (if d then Ok (tlb.Marks (ptea w) (set_d v)) else Err NoNextState)))
      by_entry p l true q D =
          Case.done refl (adds_none t m _ refl) (λ M y. entry_has t m e w l y)
          (λ M. record { to = marked M v; is_next = ifs true true M v p q (memory_bytes m M 4 (ptea w) (ptea_low w) l); agrees = marks_leads v l D M })
      by_entry p l false q D = Case.undefined refl (is_a_step x₃ refl) (λ M. ifs true false M v p q (memory_bytes m M 4 (ptea w) (ptea_low w) l))

      go : (g : Bool) → may_mark ≡ g → (i : Bool) → leb (ptea w + 4) (length m) ≡ i → MayBeDone (length m) b₃ (plan₃ (if g then on_accessed w (if i then Some v else None) else Err NoNextState)) →
          Case t m x₃ (by_plan k (plan₃ (if g then on_accessed w (if i then Some v else None) else Err NoNextState)))
      go false p i l D = Case.undefined refl (is_a_step x₃ refl) (λ M. ifs false (pte_p (bytes 4 (memory_of m M) (ptea w))) M (bytes 4 (memory_of m M) (ptea w)) p refl refl)
      go true p true l D = by_entry p (leb-true (ptea w + 4) (length m) l) (pte_p v) refl D
      go true p false l D =
          Case.no_byte refl (ptea w) (λ M. entry_misses t m e w l) ones (λ y. omega arith)
          (record { to = marked ones (2 ^ 32 - 1); answer = report.done; is_next = ifs true true ones (2 ^ 32 - 1) p refl (any_entry t m e w l) })
