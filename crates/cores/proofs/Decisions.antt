-- Every plan that a step decides on a sound block may be done.
-- Assumes nothing.
use Rattle.std.specs.Prelude.{if◌then◌else◌, Option, Some, None, Result, Ok, Err, IfOk}
use Rattle.refusals.specs.declared.Refusal.{Refusal}
use Rattle.refusals.specs.declared.Refusal.TheVariants.{NoNextState, WalksFull, NoFreeRecord}
use mathlib.Core.Path.{◌≡◌, refl, ◌∙◌, ap}
use mathlib.Core.Bool.{Bool, true, false, not, ◌&&◌, ◌||◌}
use mathlib.Core.List.{List, [], ◌∷◌}
use Prim.Native.Nat.{ℕ, ◌+◌, ◌%◌, ◌^◌, ◌<◌, ◌≤◌}
use lib.ListN.{length, get_or}
use lib.Dec.{eqb, leb, ltb}
use native.Mathlib.Omega.{arith}
use borrow.Author.Tests.{lt-ltb, le-leb, leb-false, eq-eqb}
use Rattle.word.proofs.Bytes.{Bytes}
use Rattle.word.proofs.Words.{Words}
use Rattle.word.proofs.Truth.{and_left, and_right, and_both}
use Rattle.layout.specs.Layout.{spr, pto}
use Rattle.records.specs.declared.Store.{Store}
use Rattle.records.specs.declared.Walk.{Walk}
use Rattle.records.specs.Records.{all, stores, walks, among}
use Rattle.records.specs.Contents.{local_port, io_port, store_sound, walk_sound}
use Rattle.records.proofs.Bounds.{held_first, value_lt}
use Rattle.tables.specs.Sound.{sound_block}
use Rattle.tables.proofs.Steps.{block_stores, block_walks}
use Rattle.tlb.specs.declared.Change.TheVariants.{Adds, Marks}
use Rattle.tlb.specs.Walks.{pte_a, pte_p, ptea, pte, winit, wext, wext_fault, set_d}
use Rattle.tables.specs.Views.{user_mode, runs, asid_of}
use Rattle.tlb.specs.Steps.{origin_of, extendable, tlb_create, tlb_extend, tlb_accessed, on_extend, on_accessed, create_on, extend_on, accessed_on}
use Rattle.tlb.proofs.Fields.{winit_sound, wext_sound, winit_first, wext_first, ptea_aligned}
use Rattle.tlb.proofs.Steps.{entry_word, entry_lt, held_sound, is_held}
use Rattle.store_buffer.specs.declared.Place.TheVariants as to
use Rattle.store_buffer.specs.Leaving.{word_only, place_of}
use Rattle.store_buffer.specs.System.{sized, aligned, apicadr, ioapicadr}
use Rattle.ioapic.specs.IoApic.{writes}
use Rattle.cores.specs.declared.BufferChange.{BufferChange}
use Rattle.cores.specs.declared.BufferChange.TheVariants.{Take}
use Rattle.cores.specs.declared.WalkChange.{WalkChange}
use Rattle.cores.specs.declared.WalkChange.TheVariants.{Add}
use Rattle.cores.specs.declared.Write.{Write}
use Rattle.cores.specs.declared.Write.TheVariants.{Memory, LocalPort, IoPort}
use Rattle.cores.specs.declared.Plan.{Plan}
use Rattle.cores.specs.Plans.{done}
use Rattle.cores.specs.Core.{is_free}
use Rattle.cores.specs.TlbSteps.{adding, planned}
use Rattle.cores.specs.BufferStep.{leaves_to, on_oldest, buffer_step}
use Rattle.cores.specs.inner.Ready.{buffer_ready, walks_ready, port_ready, ready, fits}
use Rattle.cores.proofs.Sounds.{store_brought, walk_brought, plan_sound}
use Rattle.cores.proofs.Bounds.{CoreWords, AddWords, PortWords, PlanWords}

-- bytes of memory are written at a multiple of their number
unfoldable pub aligned_write : Write → Bool
aligned_write Write.Nothing = true
aligned_write (Memory a d v) = aligned a d
aligned_write (LocalPort a v) = true
aligned_write (IoPort a v) = true

-- a plan that may be done on the block b beside a memory of n bytes, and brings words where b has words
pub record PlanMayBeDone (n : ℕ) (b : List ℕ) (p : Plan) : Type 0 where
  pub is_ready : ready p b ≡ true
  pub is_sound : plan_sound n p ≡ true
  pub is_fitting : fits p.write n ≡ true
  pub is_aligned : aligned_write p.write ≡ true
  pub brings_words : Words b → PlanWords p

-- what is decided: such a plan, or a refusal
abbrev pub MayBeDone : ℕ → List ℕ → Result Plan Refusal → Type 0
MayBeDone n b r = IfOk r (PlanMayBeDone n b)

-- the same of a plan's changes, one by one
pub record AllowedChanges (n : ℕ) (b : List ℕ) (c : BufferChange) (ws : WalkChange) (x : Write) : Type 0 where
  pub buffer_ready_lem : buffer_ready c b ≡ true
  pub store_sound_lem : store_brought n c ≡ true
  pub walks_ready_lem : walks_ready ws b ≡ true
  pub walk_sound_lem : walk_brought ws ≡ true
  pub port_ready_lem : port_ready x ≡ true
  pub fitting : fits x n ≡ true
  pub aligning : aligned_write x ≡ true
  pub walk_words : Words b → AddWords ws
  pub port_words : PortWords x

-- a plan with such changes
pub record PlanDoable (n : ℕ) (b : List ℕ) (p : Plan) : Type 0 where
  pub changes : AllowedChanges n b p.buffer p.walks p.write
  pub core_words_lem : CoreWords p.core

abbrev pub Doable : ℕ → List ℕ → Result Plan Refusal → Type 0
Doable n b r = IfOk r (PlanDoable n b)

pub may_be_done : (n : ℕ) (b : List ℕ) (r : Result Plan Refusal) → Doable n b r → MayBeDone n b r
unfolding ready plan_sound
may_be_done n b (Err r) D = tt
may_be_done n b (Ok p) D =
    record {
      is_ready = and_both (buffer_ready p.buffer b) _ D.changes.buffer_ready_lem (and_both (walks_ready p.walks b) _ D.changes.walks_ready_lem D.changes.port_ready_lem);
      is_sound = and_both (store_brought n p.buffer) _ D.changes.store_sound_lem D.changes.walk_sound_lem;
      is_fitting = D.changes.fitting;
      is_aligned = D.changes.aligning;
      brings_words = λ w. record { in_core = D.core_words_lem; in_walks = D.changes.walk_words w; in_port = D.changes.port_words };
    }

module _ (n : ℕ) (b : List ℕ) where
  -- nothing is changed
  pub unchanged : AllowedChanges n b BufferChange.Nothing WalkChange.Nothing Write.Nothing
  unfolding buffer_ready walks_ready port_ready fits aligned_write
  unchanged =
      record { buffer_ready_lem = refl; store_sound_lem = refl; walks_ready_lem = refl; walk_sound_lem = refl; port_ready_lem = refl; fitting = refl; aligning = refl; walk_words = λ w. tt; port_words = tt }

  pub plan_doable : {p : Plan} → CoreWords p.core → AllowedChanges n b p.buffer p.walks p.write → PlanDoable n b p
  plan_doable c C = record { changes = C; core_words_lem = c }

  -- a change of the walks alone
  pub walks_change : (ws : WalkChange) → walks_ready ws b ≡ true → walk_brought ws ≡ true → (Words b → AddWords ws) → AllowedChanges n b BufferChange.Nothing ws Write.Nothing
  unfolding buffer_ready port_ready fits aligned_write
  walks_change ws r s w =
      record { buffer_ready_lem = refl; store_sound_lem = refl; walks_ready_lem = r; walk_sound_lem = s; port_ready_lem = refl; fitting = refl; aligning = refl; walk_words = w; port_words = tt }

  -- a word of memory alone
  pub word_change : (a v : ℕ) → a + 4 ≤ n → a % 4 ≡ 0 → AllowedChanges n b BufferChange.Nothing WalkChange.Nothing (Memory a 4 v)
  unfolding buffer_ready walks_ready port_ready fits aligned_write aligned
  word_change a v h q =
      record { buffer_ready_lem = refl; store_sound_lem = refl; walks_ready_lem = refl; walk_sound_lem = refl; port_ready_lem = refl; fitting = le-leb (a + 4) n h; aligning = eq-eqb (a % 4) 0 q; walk_words = λ w. tt; port_words = tt }

-- ---- the TLB's own steps

module _ (b m : List ℕ) where
  -- a walk that is added
  adding_doable : (w : Walk) → walk_sound w ≡ true → (Words b → w.first < 2 ^ 32) → Doable (length m) b (adding (walks b) (is_free b) w)
  unfolding adding walks_ready
  adding_doable w s v = go (among w (walks b)) (leb 23 (length (walks b))) (is_free b) refl refl
    where
      go : (h f r : Bool) → among w (walks b) ≡ h → leb 23 (length (walks b)) ≡ f →
          Doable (length m) b (if not h && f then Err WalksFull else if not h && not r then Err NoFreeRecord else Ok (done BufferChange.Nothing (Add w) Write.Nothing))
      go true f r p q = plan_doable (length m) b tt (walks_change (length m) b (Add w) (ap (λ t. t || ltb (length (walks b)) 23) p) s v)
      go false true r p q = tt
      go false false true p q =
          plan_doable (length m) b tt (walks_change (length m) b (Add w) (ap (λ t. t || ltb (length (walks b)) 23) p ∙ lt-ltb (length (walks b)) 23 (leb-false 23 (length (walks b)) q)) s v)
      go false false false p q = tt

  create_doable : (va : ℕ) → va < 2 ^ 20 → get_or b (spr + pto) 0 < 2 ^ 32 → Doable (length m) b (planned (walks b) (is_free b) (create_on b va))
  unfolding tlb_create planned
  create_doable va l h = go (user_mode b && runs b)
    where
      go : (t : Bool) → Doable (length m) b (planned (walks b) (is_free b) (if t then Ok (Adds (winit va (origin_of b) (asid_of b))) else Err NoNextState))
      go true = adding_doable (winit va (origin_of b) (asid_of b)) (winit_sound va (origin_of b) (asid_of b) (omega arith) (omega arith)) (λ _. winit_first va (origin_of b) (asid_of b) l (omega arith))
      go false = tt

  -- by the entry that the walk names, if it is in memory
  extend_doable : (w : Walk) → all walk_sound (walks b) ≡ true → Bytes m → Doable (length m) b (planned (walks b) (is_free b) (extend_on b m w))
  unfolding tlb_extend on_extend planned
  extend_doable w s h = go (runs b && extendable (asid_of b) (walks b) w) refl (pte m w) refl
    where
      added : (v : ℕ) (t : Bool) → walk_sound (wext w v) ≡ true → (Words b → (wext w v).first < 2 ^ 32) → Doable (length m) b (planned (walks b) (is_free b) (if t then Ok (Adds (wext w v)) else Err NoNextState))
      added v true f g = adding_doable (wext w v) f g
      added v false f g = tt

      go : (t : Bool) → (runs b && extendable (asid_of b) (walks b) w) ≡ t → (e : Option ℕ) → pte m w ≡ e →
          Doable (length m) b (planned (walks b) (is_free b) (if t then on_extend w e else Err NoNextState))
      go false g e p = tt
      go true g None p = tt
      go true g (Some v) p =
          let k : among w (walks b) ≡ true = is_held (runs b) (asid_of b) (walks b) w g in
          added v (pte_a v && not (wext_fault v 0)) (wext_sound w v (held_sound w (walks b) k s) (entry_lt m (ptea w) h p)) (λ ws. wext_first w v (held_first b ws w k))

  accessed_doable : (w : Walk) → Doable (length m) b (planned (walks b) (is_free b) (accessed_on b m w))
  unfolding tlb_accessed on_accessed planned
  accessed_doable w = go (user_mode b && extendable (asid_of b) (walks b) w) (pte m w) refl
    where
      marked : (v : ℕ) (t : Bool) → ptea w + 4 ≤ length m → Doable (length m) b (planned (walks b) (is_free b) (if t then Ok (Marks (ptea w) (set_d v)) else Err NoNextState))
      marked v true h = plan_doable (length m) b tt (word_change (length m) b (ptea w) (set_d v) h (ptea_aligned w))
      marked v false h = tt

      go : (t : Bool) (e : Option ℕ) → pte m w ≡ e → Doable (length m) b (planned (walks b) (is_free b) (if t then on_accessed w e else Err NoNextState))
      go false e p = tt
      go true None p = tt
      go true (Some v) p = marked v (pte_p v) (entry_word m (ptea w) p).1

  -- each of them, on a sound block whose words and memory whose bytes are such
  pub create_plan : (va : ℕ) → va < 2 ^ 20 → get_or b (spr + pto) 0 < 2 ^ 32 → MayBeDone (length m) b (planned (walks b) (is_free b) (create_on b va))
  create_plan va l h = may_be_done _ _ _ (create_doable va l h)

  pub extend_plan : (w : Walk) → sound_block (length m) b ≡ true → Bytes m → MayBeDone (length m) b (planned (walks b) (is_free b) (extend_on b m w))
  extend_plan w e h = may_be_done _ _ _ (extend_doable w (block_walks (length m) b e) h)

  pub accessed_plan : (w : Walk) → MayBeDone (length m) b (planned (walks b) (is_free b) (accessed_on b m w))
  accessed_plan w = may_be_done _ _ _ (accessed_doable w)

-- ---- the store buffer

module _ (n : ℕ) (b : List ℕ) (s : Store) (some : 0 < length (stores b)) (fine : store_sound n s ≡ true) where
  -- the oldest store leaves
  leaves : (x : Write) → port_ready x ≡ true → fits x n ≡ true → aligned_write x ≡ true → PortWords x → PlanDoable n b (done Take WalkChange.Nothing x)
  unfolding buffer_ready walks_ready
  leaves x p f a w =
      plan_doable n b tt
      (record { buffer_ready_lem = lt-ltb 0 (length (stores b)) some; store_sound_lem = refl; walks_ready_lem = refl; walk_sound_lem = refl; port_ready_lem = p; fitting = f; aligning = a; walk_words = λ ws. tt; port_words = w })

  leaves_local : (t : Bool) → Doable n b (leaves_to s (if t then to.LocalPort (apicadr s.address) else to.Narrow))
  unfolding leaves_to port_ready fits aligned_write
  leaves_local true = leaves (LocalPort (apicadr s.address) s.value) (lt-ltb (apicadr s.address) 128 (omega arith)) refl refl (value_lt n s fine)
  leaves_local false = tt

  leaves_io : (t w : Bool) → writes (ioapicadr s.address) s.value ≡ w → Doable n b (leaves_to s (if t then to.IoPort (ioapicadr s.address) else to.Narrow))
  unfolding leaves_to port_ready fits aligned_write
  leaves_io true true e =
      rw e (leaves (IoPort (ioapicadr s.address) s.value) refl e refl (value_lt n s fine))
  leaves_io true false e = rw e (tt)
  leaves_io false w e = tt

  leaves_memory : (t : Bool) → leb (s.address + s.width) n ≡ t → Doable n b (leaves_to s (if t then to.Memory else to.Beyond))
  unfolding leaves_to port_ready fits aligned_write aligned store_sound
  leaves_memory true e =
      let q = and_left (sized s.width) _ fine in
      let r = and_left (eqb (s.address % s.width) 0) _ (and_right (sized s.width) _ fine) in
      leaves (Memory s.address s.width s.value) refl (and_both (sized s.width) _ q e) (and_both (sized s.width) _ q r) tt
  leaves_memory false e = tt

  leaves_doable : Doable n b (leaves_to s (place_of n s))
  unfolding place_of
  leaves_doable = go (local_port s.address) (io_port s.address)
    where
      go : (p q : Bool) → Doable n b (leaves_to s (if p then word_only s (to.LocalPort (apicadr s.address)) else if q then word_only s (to.IoPort (ioapicadr s.address)) else if leb (s.address + s.width) n then to.Memory else to.Beyond))
      go true q = leaves_local (eqb s.width 4)
      go false true = leaves_io (eqb s.width 4) (writes (ioapicadr s.address) s.value) refl
      go false false = leaves_memory (leb (s.address + s.width) n) refl

oldest_doable : (n : ℕ) (b : List ℕ) (l : List Store) → stores b ≡ l → all (store_sound n) l ≡ true → Doable n b (buffer_step l n)
unfolding on_oldest all
oldest_doable n b [] p e = tt
oldest_doable n b (s ∷ l) p e = leaves_doable n b s (omega (arith, ap length p)) (and_left (store_sound n s) _ e)

pub drain_plan : (n : ℕ) (b : List ℕ) → sound_block n b ≡ true → MayBeDone n b (buffer_step (stores b) n)
drain_plan n b e = may_be_done _ _ _ (oldest_doable n b (stores b) refl (block_stores n b e))
