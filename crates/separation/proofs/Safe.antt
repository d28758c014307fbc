-- A step writes only where its side may, and its block stays good unless it takes an interrupt.
-- Assumes nothing.
use Rattle.std.specs.Prelude.{if◌then◌else◌, Option, Some, None, Result, Ok, Err, IfOk}
use Rattle.refusals.specs.declared.Refusal.{Refusal}
use Rattle.refusals.specs.declared.Refusal.TheVariants.{NoNextState, ByteNowhere, StoresFull, WalksFull, NoFreeRecord}
use mathlib.Core.Path.{◌≡◌, refl, sym, ap, subst, ◌∙◌}
use mathlib.Core.Logic.{⊎_elim}
use mathlib.Core.Bool.{Bool, true, false, ◌&&◌, ◌||◌, not, false≢true, true≢false}
use mathlib.Core.List.{List, [], ◌∷◌}
use Prim.Native.Nat.{ℕ, zero, suc, ◌+◌, ◌-◌, ◌*◌, ◌/◌, ◌%◌, ◌^◌, ◌<◌, ◌≤◌}
use native.Mathlib.Omega.{arith}
use lib.ListN.{length, set}
use lib.Dec.{eqb, leb}
use borrow.Author.Tests.{eqb-true, leb-true, eq-eqb, not-false}
use Rattle.word.proofs.Tests.{and_false}
use Rattle.word.specs.Word.{flag}
use Rattle.word.specs.Bytes.{bytes_at}
use Rattle.word.proofs.Bytes.{Bytes}
use Rattle.word.proofs.Truth.{and_left, and_right, or_cases, or_first, or_none_left, or_none_right, clash}
use Rattle.decode.specs.declared.Instruction.{Instruction}
use Rattle.decode.specs.Table.{decoded}
use Rattle.decode.specs.Fields.{rs, rd, rt}
use Rattle.decode.specs.Mnemonics.{flush, invlpg, load, store, cas, movg2s, movs2g, eret, ill}
use Rattle.decode.proofs.Ranges.{agree}
use Rattle.isa.specs.declared.registers.Registers.{Registers}
use Rattle.isa.specs.Core.{ea, d, gpr_at}
use Rattle.isa.specs.Interrupts.{user, jisr, causes_of, events_as, privileged}
use Rattle.records.specs.declared.Walk.{Walk}
use Rattle.records.specs.declared.Store.{Store}
use Rattle.records.specs.declared.Flush.TheVariants.{All, Incomplete}
use Rattle.records.specs.Records.{stores, walks, among}
use Rattle.records.specs.Contents.{all_there}
use Rattle.tables.specs.Views.{registers_of, user_mode, runs, asid_of}
use Rattle.tlb.specs.declared.Change.{Change}
use Rattle.tlb.specs.declared.Change.TheVariants as tlbs
use Rattle.tlb.specs.declared.Faulting.{Faulting}
use Rattle.tlb.specs.declared.Faulting.TheVariants.{Faults, Passes, Undecided}
use Rattle.tlb.specs.Walks.{base_address, page_key, walk_va, walk_asid, walk_level, walk_r, walk_ba, index, ptea_at, entry_at, pte_a, pte_p, pte_r, pte_ba, wext_fault, complete, hit, suffices, store_r, load_r, pte, ptea, winit, wext, set_d}
use Rattle.tlb.specs.Steps.{origin_of, extendable, on_extend, tlb_extend, on_accessed, tlb_accessed, tlb_create, create_on, extend_on, accessed_on}
use Rattle.tlb.proofs.Fields.{Fields, winit_fields, wext_fields, wext_present, first_lt, incomplete_level, index_lt, ptea_aligned}
use Rattle.tlb.proofs.Steps.{entry_word, create_adds, Extended, extend_adds, Marked, accessed_marks, is_held, is_incomplete}
use Rattle.store_buffer.specs.declared.Loaded.{Loaded}
use Rattle.store_buffer.specs.declared.LoadError.{LoadError}
use Rattle.store_buffer.specs.declared.Place.TheVariants as to
use Rattle.store_buffer.specs.Leaving.{place_of}
use Rattle.store_buffer.specs.System.{is_port, memory_byte, reads, loaded}
use Rattle.steps.specs.declared.Answer.TheVariants.{Done}
use Rattle.steps.specs.declared.Step.{Step}
use Rattle.cores.specs.Guards.{test}
use Rattle.cores.specs.Core.{View, view_of, is_event, causes, suppressed, stopped, causes_without, faulted, fault_of, physical, on_load, on_store, on_cas, exchanged, stored_from, performed, dropped_by, is_access, avoids_ports, has_hazard, on_address, on_data, on_access, on_instruction, finds_buffer, data_request_of, fetch_request_of, on_word, on_fetch_address, on_fetch, fetch, judged, core_plan, is_free, without_access, ports_beside}
use Rattle.cores.specs.declared.IoPorts.{IoPorts}
use Rattle.cores.specs.declared.CoreChange.TheVariants as change
use Rattle.cores.specs.declared.BufferChange.{BufferChange}
use Rattle.cores.specs.declared.BufferChange.TheVariants.{Put, Take}
use Rattle.cores.specs.declared.WalkChange.{WalkChange}
use Rattle.cores.specs.declared.WalkChange.TheVariants.{Add, Drop}
use Rattle.cores.specs.declared.Write.{Write}
use Rattle.cores.specs.declared.Write.TheVariants.{Memory}
use Rattle.cores.specs.declared.Plan.{Plan}
use Rattle.cores.specs.Plans.{done, interrupted, changed, finished}
use Rattle.cores.specs.TlbSteps.{adding, planned}
use Rattle.cores.specs.BufferStep.{leaves_to, on_oldest, buffer_step}
use Rattle.cores.specs.Commit.{written_to}
use Rattle.cores.proofs.Sounds.{registers_after}
use Rattle.cores.proofs.Accesses.{access_aligned, cas_width}
use Rattle.reach.specs.Reach.{Pages, table_pages, grants_write}
use Rattle.separation.specs.Separation.{is_interrupt}
use Rattle.reach.proofs.Lists.{if_both, In, Each}
use Rattle.separation.proofs.Memory.{page, Fits, same_page, Kept, kept_refl, put_free, put_mark}
use Rattle.separation.proofs.Good.{AtLevel, WalkOk, StoreOk, Good, Closed, Low, low_local, low_io, writable_reached, walk_table, walk_page}
use Rattle.cores.proofs.Asked.{Judges, judges_yield, judges_ask, judges_test, judges_if, judges_settle}
use Rattle.separation.proofs.Local.{aligned_fits, join_page, view_user, guard_held, guard_complete, complete_page, held_ok, user_address}
use Rattle.machine.proofs.Locality as plans
use Rattle.machine.proofs.Locality.{Plain, plan_of}

-- ---- a plan that keeps within its side

abbrev pub BufferOk : Pages → BufferChange → Type 0
BufferOk S BufferChange.Nothing = Unit {0}
BufferOk S (Put s) = StoreOk S s
BufferOk S Take = Unit {0}

abbrev pub WalksOk : Pages → WalkChange → Type 0
WalksOk S WalkChange.Nothing = Unit {0}
WalksOk S (Add w) = WalkOk S w
WalksOk S (Drop f) = Unit {0}

pub record PlanSafe (S : Pages) (m b : List ℕ) (p : Plan) : Type 0 where
  pub special : is_interrupt (Ok p.answer) ≡ false → (registers_after p.core (registers_of b)).spr ≡ (registers_of b).spr
  pub puts : BufferOk S p.buffer
  pub adds : WalksOk S p.walks
  pub kept : Kept (table_pages S) S.writables m (written_to p.write m)

-- what is decided: such a plan, or a refusal
abbrev pub Safe : Pages → List ℕ → List ℕ → Result Plan Refusal → Type 0
Safe S m b r = IfOk r (PlanSafe S m b)

-- ---- in user mode an instruction that is not interrupted leaves the special registers

special_or : (i : Instruction) → ((movg2s i || eret i) && privileged i) ≡ (movg2s i || eret i)
unfolding movg2s movs2g eret flush invlpg privileged
special_or = agree (λ (i : Instruction). (movg2s i || eret i) && privileged i) (λ (i : Instruction). movg2s i || eret i) tt

flag_none : (t : Bool) → flag t ≡ 0 → t ≡ false
flag_none true e = absurd (omega arith)
flag_none false e = refl

user_or : (u p x : Bool) → u ≡ true → x || (u && p) ≡ false → p ≡ false
user_or true p x e f = or_none_right x p f
user_or false p x e f = absurd (false≢true e)

no_privilege : (i : Instruction) (c : Registers) (w : ℕ) (io pfls : Bool) → user c ≡ true → jisr (causes_of c (events_as i c w io pfls)) ≡ false → privileged i ≡ false
no_privilege i c w io pfls u j =
    let z : causes_of c (events_as i c w io pfls) ≡ 0 = eqb-true _ 0 (not-false _ j) in
    user_or (user c) (privileged i) (ill i) u (flag_none (ill i || (user c && privileged i)) (omega arith))

not_special : (i : Instruction) → privileged i ≡ false → movg2s i || eret i ≡ false
not_special i p = sym (special_or i) ∙ ap (λ (t : Bool). (movg2s i || eret i) && t) p ∙ and_false (movg2s i || eret i)

leaves_special : (i : Instruction) (w R : ℕ) (c : Registers) → movg2s i || eret i ≡ false → (registers_after (changed i w R) c).spr ≡ c.spr
leaves_special i w R c e = go (eret i) (movg2s i) (or_none_right (movg2s i) (eret i) e) (or_none_left (movg2s i) (eret i) e)
  where
    execute : (y : Bool) → y ≡ false → (if y then set c.spr (rd w) (gpr_at c (rt w)) else c.spr) ≡ c.spr
    execute true f = absurd (true≢false f)
    execute false f = refl

    go : (x y : Bool) → eret i ≡ false → movg2s i ≡ false → (registers_after (if eret i then change.Return else change.Execute i w R) c).spr ≡ c.spr
    go x y f g = rw f (execute (movg2s i) g)

-- the right to write
stores_write : (r : ℕ) → suffices store_r r ≡ true → grants_write r ≡ true
unfolding suffices
stores_write r e =
    let h : 1 ≤ r % 2 = leb-true 1 (r % 2) (and_left (leb 1 (r % 2)) _ e) in
    eq-eqb (r / 2 ^ 0 % 2) 1 (omega arith)

module _ (S : Pages) (L : Low S) (m b : List ℕ) (bs : Bytes m) (G : Good S b) where
  quietly : Kept (table_pages S) S.writables m (written_to Write.Nothing m)
  unfolding written_to
  quietly = kept_refl _ _ m

  stopped_safe : (v : View) (w ca : ℕ) (ws : WalkChange) → WalksOk S ws → PlanSafe S m b (stopped v w ca ws)
  stopped_safe v w ca ws h = record { special = λ e. absurd (true≢false e); puts = tt; adds = h; kept = quietly }

  finished_safe : (i : Instruction) (w R ca k : ℕ) (c : BufferChange) (ws : WalkChange) (x : Write) → (jisr ca ≡ false → movg2s i || eret i ≡ false)
      → BufferOk S c → WalksOk S ws → Kept (table_pages S) S.writables m (written_to x m) → PlanSafe S m b (finished i w R ca k c ws x)
  unfolding finished
  finished_safe i w R ca k c ws x f p q r =
      if_both (PlanSafe S m b) (jisr ca) (interrupted w R ca k c ws x) (record { answer = Done; core = changed i w R; buffer = c; walks = ws; write = x })
      (λ _. record { special = λ e. absurd (true≢false e); puts = p; adds = q; kept = r })
      (λ e. record { special = λ _. leaves_special i w R (registers_of b) (f e); puts = p; adds = q; kept = r })

  U : user (registers_of b) ≡ true
  U = view_user S b G

  module _ (io : IoPorts) where
    abbrev X : View
    X = view_of b

    kind_kept : (c : Instruction) (w : ℕ) (pfls : Bool) → jisr (causes X c w pfls) ≡ false → movg2s c || eret c ≡ false
    kind_kept c w pfls j = not_special c (no_privilege c (registers_of b) w (is_event X.eev) pfls U j)

    module _ (c : Instruction) (w : ℕ) where
      load_safe : (r : Result Loaded LoadError) → Safe S m b (on_load X c w (causes X c w false) r)
      load_safe (Ok l) = finished_safe c w l.value _ _ BufferChange.Nothing WalkChange.Nothing Write.Nothing (kind_kept c w false) tt tt quietly
      load_safe (Err LoadError.Nowhere) = tt
      load_safe (Err LoadError.Hazard) = tt

      store_safe : (x : Store) (t : Bool) → StoreOk S x → Safe S m b (on_store X c w (causes X c w false) x t)
      store_safe x t h =
          if_both (Safe S m b) (not t) (Err ByteNowhere) _ (λ _. tt)
          (λ _. if_both (Safe S m b) (leb 8 (length (stores b))) (Err StoresFull) _ (λ _. tt)
          (λ _. if_both (Safe S m b) (not X.free) (Err NoFreeRecord) _ (λ _. tt)
          (λ _. finished_safe c w 0 _ _ (Put x) WalkChange.Nothing Write.Nothing (kind_kept c w false) h tt quietly)))

      cas_safe : (a : ℕ) (r : Option ℕ) → In (page a) S.writables → Fits a 4 → Safe S m b (on_cas X c w (causes X c w false) a r)
      cas_safe a None h f = tt
      cas_safe a (Some x) h f =
          finished_safe c w x _ _ BufferChange.Nothing WalkChange.Nothing (exchanged (registers_of b) w x a) (kind_kept c w false) tt tt
          (if_both (λ (y : Write). Kept (table_pages S) S.writables m (written_to y m)) (eqb x (gpr_at (registers_of b) (rd w))) (Memory a 4 (gpr_at (registers_of b) (rt w))) Write.Nothing
          (λ _. unfold written_to in put_free (table_pages S) S.writables 4 m a (gpr_at (registers_of b) (rt w)) (λ j p q. subst (λ (y : ℕ). In y S.writables) (sym (same_page a 4 j f p q)) h))
          (λ _. quietly))

      performed_safe : (a : ℕ) → is_access c ≡ true → (store c || cas c ≡ true → In (page a) S.writables) → Fits a (d c) → Safe S m b (performed X io m c w (causes X c w false) a)
      unfolding performed
      performed_safe a x h f =
          if_both (Safe S m b) (load c) _ _ (λ _. load_safe (loaded (stores b) (ports_beside X io) m a (d c)))
          (λ e. if_both (Safe S m b) (store c) _ _
          (λ g. store_safe (stored_from (registers_of b) c w a) (all_there (d c) (length m) a) (record { writable = h (or_first (store c) (cas c) g); fits = f }))
          (λ g. cas_safe a (reads 4 (memory_byte m) a) (h (⊎_elim (λ y. clash (load c) y e) (λ y. y) (or_cases (load c) _ x))) (subst (λ (k : ℕ). Fits a k) (cas_width c x e g) f)))

      address_safe : (a : ℕ) → is_access c ≡ true → (store c || cas c ≡ true → In (page a) S.writables) → a % 4 ≡ ea c (registers_of b) w % 4 → Judges (Safe S m b) (on_address X io m c w a)
      unfolding on_address
      address_safe a x h q =
          judges_ask (Safe S m b) (test (not (avoids_ports c && is_port a)) ∷ test (not (has_hazard (stores b) c a)) ∷ []) _
          (λ _. judges_yield (Safe S m b) _
          (if_both (Safe S m b) (suppressed (causes X c w false)) _ _ (λ _. stopped_safe X w _ WalkChange.Nothing tt)
          (λ e. performed_safe a x h (aligned_fits a (d c) (access_aligned c (registers_of b) w a (is_event X.eev) false x e q)))))

      data_safe : (w_r : Walk) (f : Faulting) → is_access c ≡ true → among w_r (walks b) ≡ true → hit (data_request_of (registers_of b) c w) w_r ≡ true → Judges (Safe S m b) (on_data X io m w_r c w f)
      unfolding on_data
      data_safe w_r Passes x h k =
          judges_test (Safe S m b) (not (user (registers_of b)) || complete w_r) _
          (λ e. let p = complete_page S w_r (held_ok S L b G w_r h) (guard_complete (user (registers_of b)) (complete w_r) U e) in
          rw (user_address S L b G w_r (ea c (registers_of b) w))
          (address_safe (walk_ba w_r * 2 ^ 12 + ea c (registers_of b) w % 2 ^ 12) x
          (λ t. subst (λ (y : ℕ). In y S.writables) (sym (join_page (walk_ba w_r) (ea c (registers_of b) w))) (p.1 (granted t)))
          (omega arith)))
        where
          granted : store c || cas c ≡ true → grants_write (walk_r w_r) ≡ true
          granted t =
              stores_write (walk_r w_r)
              (subst (λ (r : ℕ). suffices r (walk_r w_r) ≡ true) (ap (λ (y : Bool). if y then store_r else load_r) t) (last k))
            where
              last : hit (data_request_of (registers_of b) c w) w_r ≡ true → suffices (if store c || cas c then store_r else load_r) (walk_r w_r) ≡ true
              last e = unfold hit in and_right (eqb (walk_asid w_r) _) _ (and_right (eqb (walk_va w_r) _) _ (unfold hit in e))
      data_safe w_r Faults x h k = judges_yield (Safe S m b) _ (stopped_safe X w (causes X c w true) (faulted (registers_of b) (ea c (registers_of b) w)) tt)
      data_safe w_r Undecided x h k = record { met = λ _. tt }

      access_safe : (w_r : Walk) → is_access c ≡ true → Judges (Safe S m b) (on_access X io m w_r c w)
      unfolding on_access
      access_safe w_r x =
          judges_test (Safe S m b) (not (user (registers_of b)) || (among w_r (walks b) && hit (data_request_of (registers_of b) c w) w_r)) _
          (λ e. let h = guard_held (user (registers_of b)) (among w_r (walks b)) _ U e in
          data_safe w_r (fault_of X m (data_request_of (registers_of b) c w) w_r) x h.0 h.1)

      without_safe : Safe S m b (without_access X c w)
      without_safe =
          if_both (Safe S m b) (suppressed (causes X c w false)) _ _ (λ _. stopped_safe X w _ WalkChange.Nothing tt)
          (λ _. finished_safe c w 0 _ _ BufferChange.Nothing (dropped_by (registers_of b) c w) Write.Nothing (kind_kept c w false) tt dropped quietly)
        where
          dropped : WalksOk S (dropped_by (registers_of b) c w)
          dropped = go (flush c) (invlpg c)
            where
              go : (f g : Bool) → WalksOk S (if f then Drop All else if g then Drop (Incomplete (page_key (base_address (gpr_at (registers_of b) (rd w))) (gpr_at (registers_of b) (rs w) % 2 ^ 6))) else WalkChange.Nothing)
              go true g = tt
              go false true = tt
              go false false = tt

      instruction_safe : (w_r : Walk) → Judges (Safe S m b) (on_instruction X io m w_r c w)
      unfolding on_instruction
      instruction_safe w_r =
          judges_ask (Safe S m b) (test (finds_buffer (stores b) c) ∷ []) _
          (λ _. judges_if (Safe S m b) (is_access c) _ _ (λ e. access_safe w_r e) (λ _. judges_yield (Safe S m b) (without_access X c w) without_safe))

    word_safe : (w_r : Walk) (r : Option ℕ) → Judges (Safe S m b) (on_word X io m w_r r)
    unfolding on_word
    word_safe w_r (Some w) = instruction_safe (decoded w) w w_r
    word_safe w_r None = record { met = λ _. tt }

    fetch_safe : (w_i w_r : Walk) (f : Faulting) → Judges (Safe S m b) (on_fetch X io m w_i w_r f)
    unfolding on_fetch on_fetch_address
    fetch_safe w_i w_r Passes =
        judges_test (Safe S m b) (not (user (registers_of b)) || complete w_i) _
        (λ _. judges_ask (Safe S m b) (test (not (is_port (physical X w_i (registers_of b).pc))) ∷ []) _ (λ _. word_safe w_r (reads 4 (memory_byte m) (physical X w_i (registers_of b).pc))))
    fetch_safe w_i w_r Faults = judges_yield (Safe S m b) _ (stopped_safe X 0 (causes_without X false true) (faulted (registers_of b) (registers_of b).pc) tt)
    fetch_safe w_i w_r Undecided = record { met = λ _. tt }

    core_safe : (w_i w_r : Walk) → Safe S m b (core_plan X io m w_i w_r)
    unfolding core_plan judged fetch
    core_safe w_i w_r =
        judges_settle (Safe S m b) _ (λ _. tt)
        (judges_ask (Safe S m b) (test X.running ∷ []) _
        (λ _. judges_if (Safe S m b) (eqb ((registers_of b).pc % 4) 0) _ _
        (λ _. judges_ask (Safe S m b) (test (not (user (registers_of b)) || (among w_i (walks b) && hit (fetch_request_of (registers_of b)) w_i)) ∷ []) _
        (λ _. fetch_safe w_i w_r (fault_of X m (fetch_request_of (registers_of b)) w_i)))
        (λ _. judges_yield (Safe S m b) _ (stopped_safe X 0 (causes_without X true false) WalkChange.Nothing tt))))

  -- ---- the TLB's own steps

  adding_safe : (w : Walk) → WalkOk S w → Safe S m b (adding (walks b) (is_free b) w)
  unfolding adding
  adding_safe w h =
      if_both (Safe S m b) (not (among w (walks b)) && leb 23 (length (walks b))) (Err WalksFull) _ (λ _. tt)
      (λ _. if_both (Safe S m b) (not (among w (walks b)) && not (is_free b)) (Err NoFreeRecord) (Ok (done BufferChange.Nothing (Add w) Write.Nothing)) (λ _. tt)
      (λ _. record { special = λ _. refl; puts = tt; adds = h; kept = quietly }))

  planned_safe : (e : Result Change Refusal) → ((w : Walk) → e ≡ Ok (tlbs.Adds w) → WalkOk S w) → ((a v : ℕ) → e ≡ Ok (tlbs.Marks a v) → Kept (table_pages S) S.writables m (written_to (Memory a 4 v) m))
      → Safe S m b (planned (walks b) (is_free b) e)
  unfolding planned
  planned_safe (Err r) f g = tt
  planned_safe (Ok (tlbs.Adds w)) f g = adding_safe w (f w refl)
  planned_safe (Ok (tlbs.Marks a v)) f g = record { special = λ _. refl; puts = tt; adds = tt; kept = g a v refl }

  -- tlb-create: the origin is a first-level table
  create_safe : (va : ℕ) → va < 2 ^ 20 → Safe S m b (planned (walks b) (is_free b) (create_on b va))
  create_safe va l =
      planned_safe (create_on b va)
      (λ w e. subst (WalkOk S) (sym (create_adds (user_mode b) (runs b) (origin_of b) (asid_of b) va e).1) new)
      (λ a v e. absurd (marks e))
    where
      F : Fields (winit va (origin_of b) (asid_of b)) va (asid_of b) 2 7 (origin_of b)
      F = winit_fields va (origin_of b) (asid_of b) (omega arith)

      new : WalkOk S (winit va (origin_of b) (asid_of b))
      new =
          record {
            at_level = subst (λ (k : ℕ). AtLevel S k (walk_r (winit va (origin_of b) (asid_of b))) (walk_ba (winit va (origin_of b) (asid_of b)))) (sym F.level)
                (subst (λ (p : ℕ). In p S.firsts) (sym F.base) G.origin);
            word = unfold winit in first_lt va (asid_of b) 2 7 (origin_of b) (omega arith) (omega arith) (omega arith) l;
          }

      marks : {a v : ℕ} → create_on b va ≡ Ok (tlbs.Marks a v) → ⊥
      marks {a} {v} = unfold tlb_create in go (user_mode b && runs b)
        where
          go : (t : Bool) → (if t then Ok (tlbs.Adds (winit va (origin_of b) (asid_of b))) else Err NoNextState) ≡ Ok (tlbs.Marks a v) → ⊥
          go true e = let z : ◌≡◌ {A = ℕ} 0 1 = cc in omega arith
          go false e = let z : ◌≡◌ {A = ℕ} 0 1 = cc in omega arith

  module _ (C : Closed S m) where
    -- where a present entry leads
    extended_level : (k r p i e : ℕ) → 1 ≤ k → AtLevel S k r p → i < 1024 → entry_at m (ptea_at p i) ≡ Some e → pte_p e ≡ true → AtLevel S (k - 1) (pte_r e) (pte_ba e)
    extended_level zero r p i e l h q w x = absurd (omega arith)
    extended_level (suc zero) r p i e l h q w x = (C.leaf p i e h q w x, C.leaf_write p i e h q w x)
    extended_level (suc (suc zero)) r p i e l h q w x = C.down p i e h q w x
    extended_level (suc (suc (suc k))) r p i e l h q w x = absurd h

    extended_ok : (w : Walk) (e : ℕ) → WalkOk S w → complete w ≡ false → entry_at m (ptea w) ≡ Some e → pte_p e ≡ true → WalkOk S (wext w e)
    unfolding ptea
    extended_ok w e k c h x =
        let F : Fields (wext w e) (walk_va w) (walk_asid w) (walk_level w - 1) (pte_r e) (pte_ba e) = wext_fields w e x in
        record {
          at_level =
              subst (λ (l : ℕ). AtLevel S l (walk_r (wext w e)) (walk_ba (wext w e))) (sym F.level)
              (subst (λ (r : ℕ). AtLevel S (walk_level w - 1) r (walk_ba (wext w e))) (sym F.rights)
              (subst (λ (p : ℕ). AtLevel S (walk_level w - 1) (pte_r e) p) (sym F.base)
              (extended_level (walk_level w) (walk_r w) (walk_ba w) (index w) e (incomplete_level w c) k.at_level (index_lt w k.word) h x)));
          word = subst (λ (v : Walk). v.first < 2 ^ 32) (sym (wext_present w e x))
              (first_lt (walk_va w) (walk_asid w) (walk_level w - 1) (pte_r e) (pte_ba e) (omega arith) (omega arith) (omega arith) (omega (arith, k.word)));
        }

    -- tlb-extend: the new base is named by a present entry of a table that the side reaches
    extend_safe : (w : Walk) → Safe S m b (planned (walks b) (is_free b) (extend_on b m w))
    extend_safe w =
        planned_safe (extend_on b m w)
        (λ v e. let E : Extended (runs b) (asid_of b) (walks b) w (pte m w) v = extend_adds (runs b) (asid_of b) (walks b) w (pte m w) e in
        subst (WalkOk S) (sym E.walk)
        (extended_ok w E.word (held_ok S L b G w (is_held (runs b) (asid_of b) (walks b) w E.guards)) (is_incomplete (runs b) (asid_of b) (walks b) w E.guards) E.entry E.present))
        (λ a v e. absurd (marks a v e))
      where
        marks : (a v : ℕ) → extend_on b m w ≡ Ok (tlbs.Marks a v) → ⊥
        marks a v = unfold tlb_extend in outer (runs b && extendable (asid_of b) (walks b) w) (pte m w)
          where
            inner : (x : ℕ) (t : Bool) → (if t then Ok (tlbs.Adds (wext w x)) else Err NoNextState) ≡ Ok (tlbs.Marks a v) → ⊥
            inner x true e = let z : ◌≡◌ {A = ℕ} 0 1 = cc in omega arith
            inner x false e = let z : ◌≡◌ {A = ℕ} 0 1 = cc in omega arith

            outer : (t : Bool) (y : Option ℕ) → (if t then on_extend w y else Err NoNextState) ≡ Ok (tlbs.Marks a v) → ⊥
            outer true (Some x) e = inner x (pte_a x && not (wext_fault x 0)) (unfold on_extend in e)
            outer true None e = let f : Err ByteNowhere ≡ Ok (tlbs.Marks a v) = unfold on_extend in e in let z : ◌≡◌ {A = ℕ} 0 1 = cc in omega arith
            outer false y e = let z : ◌≡◌ {A = ℕ} 0 1 = cc in omega arith

    marked_kept : (w : Walk) (a v : ℕ) → a ≡ ptea w → v ≡ set_d (bytes_at 4 m (ptea w)) → In (page (ptea w)) (table_pages S) → Kept (table_pages S) S.writables m (written_to (Memory a 4 v) m)
    unfolding written_to
    marked_kept w a v e f h = rw (e, f) (put_mark (table_pages S) S.writables m (ptea w) bs h (ptea_aligned w))

    -- tlb-accessed: an entry of a table that the side reaches gets its accessed bit
    accessed_safe : (w : Walk) → Safe S m b (planned (walks b) (is_free b) (accessed_on b m w))
    accessed_safe w =
        planned_safe (accessed_on b m w)
        (λ v e. absurd (adds v e))
        (λ a v e. let M : Marked (user_mode b) (asid_of b) (walks b) w (pte m w) a v = accessed_marks (user_mode b) (asid_of b) (walks b) w (pte m w) e in
        let k : WalkOk S w = held_ok S L b G w (is_held (user_mode b) (asid_of b) (walks b) w M.guards) in
        let l : 1 ≤ walk_level w = incomplete_level w (is_incomplete (user_mode b) (asid_of b) (walks b) w M.guards) in
        let value : v ≡ set_d (bytes_at 4 m (ptea w)) = M.value ∙ ap set_d (entry_word m (ptea w) M.entry).0 in
        marked_kept w a v M.address value (subst (λ (p : ℕ). In p (table_pages S)) (sym (walk_page S L w k l)) (walk_table S L w k l)))
      where
        adds : (v : Walk) → accessed_on b m w ≡ Ok (tlbs.Adds v) → ⊥
        adds v = unfold tlb_accessed in outer (user_mode b && extendable (asid_of b) (walks b) w) (pte m w)
          where
            inner : (x : ℕ) (t : Bool) → (if t then Ok (tlbs.Marks (ptea w) (set_d x)) else Err NoNextState) ≡ Ok (tlbs.Adds v) → ⊥
            inner x true e = let z : ◌≡◌ {A = ℕ} 0 1 = cc in omega arith
            inner x false e = let z : ◌≡◌ {A = ℕ} 0 1 = cc in omega arith

            outer : (t : Bool) (y : Option ℕ) → (if t then on_accessed w y else Err NoNextState) ≡ Ok (tlbs.Adds v) → ⊥
            outer true (Some x) e = inner x (pte_p x) (unfold on_accessed in e)
            outer true None e = let f : Err ByteNowhere ≡ Ok (tlbs.Adds v) = unfold on_accessed in e in let z : ◌≡◌ {A = ℕ} 0 1 = cc in omega arith
            outer false y e = let z : ◌≡◌ {A = ℕ} 0 1 = cc in omega arith

    -- ---- the store buffer: the oldest store goes to a page that its side may write

    drain_safe : (l : List Store) → Each (StoreOk S) l → Safe S m b (buffer_step l (length m))
    unfolding on_oldest place_of
    drain_safe [] h = tt
    drain_safe (x ∷ l) h =
        rw (low_local x.address (L (page x.address) (writable_reached S (page x.address) h.0.writable)), low_io x.address (L (page x.address) (writable_reached S (page x.address) h.0.writable)))
        (unfold leaves_to in go (leb (x.address + x.width) (length m)))
      where
        go : (t : Bool) → Safe S m b (leaves_to x (if t then to.Memory else to.Beyond))
        go true =
            unfold leaves_to in
            record {
              special = λ _. refl;
              puts = tt;
              adds = tt;
              kept = unfold written_to in put_free (table_pages S) S.writables x.width m x.address x.value
                  (λ j p q. subst (λ (y : ℕ). In y S.writables) (sym (same_page x.address x.width j h.0.fits p q)) h.0.writable);
            }
        go false = unfold leaves_to in tt

    pub plan_safe : {k : ℕ} {x : Option Step} (o : Plain k x) (io : IoPorts) → Safe S m b (plan_of o b io m)
    plan_safe (plans.runs v w) io = core_safe io v w
    plan_safe (plans.create va l) io = create_safe va l
    plan_safe (plans.extend w) io = extend_safe w
    plan_safe (plans.accessed w) io = accessed_safe w
    plan_safe plans.drain io = drain_safe (stores b) G.pending
    plan_safe plans.none io = tt
