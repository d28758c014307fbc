-- Every plan that a core's own step decides on a sound block may be done.
-- Assumes nothing.
use Rattle.std.specs.Prelude.{if◌then◌else◌, Option, Some, None, Result, Ok, Err, IfOk}
use Rattle.refusals.specs.declared.Refusal.{Refusal}
use Rattle.refusals.specs.declared.Refusal.TheVariants.{NoNextState, ByteNowhere, StoresFull, NoFreeRecord}
use mathlib.Core.Path.{◌≡◌, refl, sym, ◌∙◌, ap, subst}
use mathlib.Core.Bool.{Bool, true, false, not, ◌||◌}
use mathlib.Core.List.{List}
use Prim.Native.Nat.{ℕ, ◌+◌, ◌*◌, ◌%◌, ◌^◌, ◌<◌}
use lib.ListN.{length, get_or}
use lib.Dec.{eqb, leb, ltb}
use native.Mathlib.Omega.{arith}
use borrow.Author.Tests.{lt-ltb, leb-false, ltb-true, eqb-true}
use Rattle.word.proofs.Words.{if_both}
use Rattle.word.proofs.Truth.{and_left, and_right, and_both}
use Rattle.layout.specs.Layout.{sr}
use Rattle.decode.specs.declared.Instruction.{Instruction}
use Rattle.decode.specs.Fields.{rs, rd, rt}
use Rattle.decode.specs.Table.{decoded}
use Rattle.decode.specs.Mnemonics.{load, store, flush, invlpg, eret}
use Rattle.isa.specs.declared.registers.Registers.{Registers}
use Rattle.isa.specs.Core.{gpr_at, spr_at, ea, d, sv}
use Rattle.isa.specs.Interrupts.{user, events_as, events_without, jisr}
use Rattle.isa.proofs.Words.{causes_lt}
use Rattle.records.specs.declared.Store.{Store}
use Rattle.records.specs.declared.Walk.{Walk}
use Rattle.records.specs.declared.Flush.TheVariants.{All, Incomplete}
use Rattle.records.specs.Records.{stores}
use Rattle.records.specs.Contents.{all_there, store_sound}
use Rattle.tlb.specs.declared.Faulting.{Faulting}
use Rattle.tlb.specs.declared.Faulting.TheVariants.{Faults, Passes, Undecided}
use Rattle.tlb.specs.Walks.{walk_ba, base_address, page_key}
use Rattle.store_buffer.specs.declared.Loaded.{Loaded}
use Rattle.store_buffer.specs.declared.LoadError.{LoadError}
use Rattle.store_buffer.specs.System.{memory_byte, join, reads, loaded, sized, aligned}
use Rattle.vector_register.specs.Vectors.{is_vector}
use Rattle.apic.specs.LocalApic.{event, eev}
use Rattle.vector_register.proofs.Least.{least_vector}
use Rattle.steps.specs.declared.Answer.TheVariants.{Done}
use Rattle.cores.specs.declared.CoreChange.TheVariants.{Return, Execute}
use Rattle.cores.specs.declared.IoPorts.{IoPorts}
use Rattle.cores.specs.declared.BufferChange.{BufferChange}
use Rattle.cores.specs.declared.BufferChange.TheVariants.{Put}
use Rattle.cores.specs.declared.WalkChange.{WalkChange}
use Rattle.cores.specs.declared.WalkChange.TheVariants.{Drop}
use Rattle.cores.specs.declared.Write.{Write}
use Rattle.cores.specs.declared.Write.TheVariants.{Memory}
use Rattle.cores.specs.declared.Plan.{Plan}
use Rattle.cores.specs.Guards.{Judged, yield, settle, any_of, is_failure, is_undecided}
use Rattle.cores.specs.Plans.{interrupted, changed, finished}
use Rattle.cores.specs.Core.{View, view_of, ports_beside, causes, causes_without, suppressed, stopped, faulted, fault_of, physical, on_load, on_store, exchanged, on_cas, stored_from, performed, dropped_by, plain, without_access, is_access, data_request_of, on_address, on_data, on_access, on_instruction, fetch_request_of, on_word, on_fetch_address, on_fetch, fetch, judged, core_plan, is_event, vector_of}
use Rattle.cores.specs.inner.Ready.{buffer_ready, walks_ready, port_ready, fits}
use Rattle.cores.proofs.Accesses.{access_aligned, cas_width}
use Rattle.cores.proofs.Held.{same_offset}
use Rattle.cores.proofs.Bounds.{CoreWords}
use Rattle.cores.proofs.Decisions.{aligned_write, AllowedChanges, PlanDoable, Doable, MayBeDone, may_be_done, unchanged, plan_doable, walks_change, word_change}

-- what holds of the effect, if it is a plan, holds of what is settled
pub settled : (P : Plan → Type 0) (j : Judged (Result Plan Refusal)) → IfOk j.effect P → IfOk (settle j) P
unfolding settle
settled P j e = go (any_of is_failure j.guards) (any_of is_undecided j.guards)
  where
    go : (t u : Bool) → IfOk (if t then Err NoNextState else if u then Err ByteNowhere else j.effect) P
    go true u = tt
    go false true = tt
    go false false = e

-- ---- an access

-- the first byte of what is read is in memory
first_there : (m : List ℕ) (a x : ℕ) → reads 4 (memory_byte m) a ≡ Some x → a < length m
unfolding reads
first_there m a x = go (ltb a (length m)) (reads 3 (memory_byte m) ((a + 1) % 2 ^ 32)) refl
  where
    go : (t : Bool) (r : Option ℕ) → ltb a (length m) ≡ t → join (if t then Some (get_or m a 0) else None) r ≡ Some x → a < length m
    go true r p e = ltb-true a (length m) p
    go false r p e = absurd (let z : ◌≡◌ {A = ℕ} 0 1 = cc in omega arith)

-- an aligned access is at a multiple of its width
multiple : (a w n : ℕ) → aligned a w ≡ true → w ≡ n → a % n ≡ 0
unfolding aligned
multiple a w n e p = ap (λ (k : ℕ). a % k) (sym p) ∙ eqb-true (a % w) 0 (and_right (sized w) _ e)

-- a value of that width
low_fits : (v w : ℕ) → sized w ≡ true → ltb (v % 2 ^ (8 * w)) (256 ^ w) ≡ true
low_fits v w s = lt-ltb (v % 2 ^ (8 * w)) (256 ^ w) (go (eqb w 1) (eqb w 2) refl refl s)
  where
    wide : (n : ℕ) → w ≡ n → v % 2 ^ (8 * n) < 256 ^ n → v % 2 ^ (8 * w) < 256 ^ w
    wide n p h = subst (λ (k : ℕ). v % 2 ^ (8 * k) < 256 ^ k) (sym p) h

    go : (x y : Bool) → eqb w 1 ≡ x → eqb w 2 ≡ y → (x || (y || eqb w 4)) ≡ true → v % 2 ^ (8 * w) < 256 ^ w
    go true y p q e = wide 1 (eqb-true w 1 p) (omega arith)
    go false true p q e = wide 2 (eqb-true w 2 q) (omega arith)
    go false false p q e = wide 4 (eqb-true w 4 e) (omega arith)

-- a store that an aligned access puts
stored_sound : (n : ℕ) (c : Registers) (i : Instruction) (w a : ℕ) → aligned a (d i) ≡ true → all_there (d i) n a ≡ true → store_sound n (stored_from c i w a) ≡ true
unfolding aligned store_sound
stored_sound n c i w a e t =
    let s = and_left (sized (d i)) _ e in
    and_both (sized (d i)) _ s
    (and_both (eqb (a % d i) 0) _ (and_right (sized (d i)) _ e) (and_both (ltb (sv i c w) (256 ^ d i)) _ (low_fits (gpr_at c (rt w)) (d i) s) t))

-- a view whose pending stores are those of the block b, and whose event is a word
module _ (b m : List ℕ) (whole : length m % 4 ≡ 0) (v : View) (io : IoPorts) (held : v.sb ≡ stores b) (event : vector_of v.eev < 2 ^ 32) where
  -- an interrupt or not, the other changes are the same
  finished_doable : (i : Instruction) (w R ca : ℕ) (c : BufferChange) (ws : WalkChange) (x : Write) → ca < 2 ^ 32 → AllowedChanges (length m) b c ws x → PlanDoable (length m) b (finished i w R ca (vector_of v.eev) c ws x)
  unfolding finished
  finished_doable i w R ca c ws x l C = go (jisr ca)
    where
      go : (t : Bool) → PlanDoable (length m) b (if t then interrupted w R ca (vector_of v.eev) c ws x else record { answer = Done; core = changed i w R; buffer = c; walks = ws; write = x })
      go true = plan_doable (length m) b (l, event) C
      go false = plan_doable (length m) b (if_both CoreWords (eret i) Return (Execute i w R) tt tt) C

  -- an interrupt that suppresses the instruction
  nothing_doable : (w ca : ℕ) → ca < 2 ^ 32 → PlanDoable (length m) b (stopped v w ca WalkChange.Nothing)
  nothing_doable w ca l = plan_doable (length m) b (l, event) (unchanged (length m) b)

  faulted_doable : (w ca a : ℕ) → ca < 2 ^ 32 → PlanDoable (length m) b (stopped v w ca (faulted v.core a))
  unfolding walks_ready
  faulted_doable w ca a l = plan_doable (length m) b (l, event) (walks_change (length m) b (faulted v.core a) refl refl (λ _. tt))

  cause_lt : (i : Instruction) (w : ℕ) (pfls : Bool) → causes v i w pfls < 2 ^ 32
  cause_lt i w pfls = causes_lt (events_as i v.core w (is_event v.eev) pfls) (spr_at v.core sr)

  without_lt : (mal pff : Bool) → causes_without v mal pff < 2 ^ 32
  without_lt mal pff = causes_lt (events_without (is_event v.eev) mal pff) (spr_at v.core sr)

  load_doable : (i : Instruction) (w ca : ℕ) (x : Result Loaded LoadError) → ca < 2 ^ 32 → Doable (length m) b (on_load v i w ca x)
  load_doable i w ca (Ok l) c = finished_doable i w l.value ca _ _ _ c (unchanged (length m) b)
  load_doable i w ca (Err LoadError.Nowhere) c = tt
  load_doable i w ca (Err LoadError.Hazard) c = tt

  put_change : (s : Store) → store_sound (length m) s ≡ true → length v.sb < 8 → AllowedChanges (length m) b (Put s) WalkChange.Nothing Write.Nothing
  unfolding buffer_ready walks_ready port_ready fits aligned_write
  put_change s e h =
      record { buffer_ready_lem = ap (λ (l : List Store). ltb (length l) 8) (sym held) ∙ lt-ltb (length v.sb) 8 h; store_sound_lem = e; walks_ready_lem = refl; walk_sound_lem = refl; port_ready_lem = refl; fitting = refl; aligning = refl; walk_words = λ _. tt; port_words = tt }

  store_doable : (i : Instruction) (w ca : ℕ) (s : Store) (t : Bool) → ca < 2 ^ 32 → (t ≡ true → store_sound (length m) s ≡ true) → Doable (length m) b (on_store v i w ca s t)
  store_doable i w ca s t c f = go t f (leb 8 (length v.sb)) refl v.free
    where
      go : (t : Bool) → (t ≡ true → store_sound (length m) s ≡ true) → (l : Bool) → leb 8 (length v.sb) ≡ l → (r : Bool) →
          Doable (length m) b (if not t then Err ByteNowhere else if l then Err StoresFull else if not r then Err NoFreeRecord else Ok (finished i w 0 ca (vector_of v.eev) (Put s) WalkChange.Nothing Write.Nothing))
      go false f l p r = tt
      go true f true p r = tt
      go true f false p false = tt
      go true f false p true = finished_doable i w 0 ca (Put s) _ _ c (put_change s (f refl) (leb-false 8 (length v.sb) p))

  cas_doable : (i : Instruction) (w ca a : ℕ) (r : Option ℕ) → ca < 2 ^ 32 → reads 4 (memory_byte m) a ≡ r → a % 4 ≡ 0 → Doable (length m) b (on_cas v i w ca a r)
  cas_doable i w ca a None c p e = tt
  cas_doable i w ca a (Some x) c p e = finished_doable i w x ca _ _ (exchanged v.core w x a) c (go (eqb x (gpr_at v.core (rd w))))
    where
      go : (t : Bool) → AllowedChanges (length m) b BufferChange.Nothing WalkChange.Nothing (if t then Memory a 4 (gpr_at v.core (rt w)) else Write.Nothing)
      go true = word_change (length m) b a (gpr_at v.core (rt w)) (omega (arith, first_there m a x p)) e
      go false = unchanged (length m) b

  performed_doable : (i : Instruction) (w ca a : ℕ) → ca < 2 ^ 32 → is_access i ≡ true → aligned a (d i) ≡ true → Doable (length m) b (performed v io m i w ca a)
  unfolding performed
  performed_doable i w ca a c p e = go (load i) (store i) refl refl
    where
      go : (l s : Bool) → load i ≡ l → store i ≡ s →
          Doable (length m) b (if l then on_load v i w ca (loaded v.sb (ports_beside v io) m a (d i)) else if s then on_store v i w ca (stored_from v.core i w a) (all_there (d i) (length m) a) else on_cas v i w ca a (reads 4 (memory_byte m) a))
      go true s x y = load_doable i w ca (loaded v.sb (ports_beside v io) m a (d i)) c
      go false true x y = store_doable i w ca (stored_from v.core i w a) (all_there (d i) (length m) a) c (stored_sound (length m) v.core i w a e)
      go false false x y = cas_doable i w ca a (reads 4 (memory_byte m) a) c refl (multiple a (d i) 4 e (cas_width i p x y))

  plain_doable : (i : Instruction) (w ca : ℕ) → ca < 2 ^ 32 → PlanDoable (length m) b (plain v i w ca)
  unfolding walks_ready
  plain_doable i w ca c = finished_doable i w 0 ca _ (dropped_by v.core i w) _ c (go (flush i) (invlpg i))
    where
      go : (f g : Bool) → AllowedChanges (length m) b BufferChange.Nothing (if f then Drop All else if g then Drop (Incomplete (page_key (base_address (gpr_at v.core (rd w))) (gpr_at v.core (rs w) % 2 ^ 6))) else WalkChange.Nothing) Write.Nothing
      go true g = walks_change (length m) b (Drop All) refl refl (λ _. tt)
      go false true = walks_change (length m) b (Drop (Incomplete _)) refl refl (λ _. tt)
      go false false = unchanged (length m) b

  -- ---- the effects of the judged parts

  address_doable : (i : Instruction) (w a : ℕ) → is_access i ≡ true → a % 4 ≡ ea i v.core w % 4 → Doable (length m) b (on_address v io m i w a).effect
  unfolding on_address
  address_doable i w a p q = go (suppressed (causes v i w false)) refl
    where
      go : (t : Bool) → suppressed (causes v i w false) ≡ t →
          Doable (length m) b (if t then Ok (stopped v w (causes v i w false) WalkChange.Nothing) else performed v io m i w (causes v i w false) a)
      go true e = nothing_doable w (causes v i w false) (cause_lt i w false)
      go false e = performed_doable i w (causes v i w false) a (cause_lt i w false) p (access_aligned i v.core w a (is_event v.eev) false p e q)

  module _ (w_r : Walk) where
    data_doable : (i : Instruction) (w : ℕ) (f : Faulting) → is_access i ≡ true → Doable (length m) b (on_data v io m w_r i w f).effect
    unfolding on_data
    data_doable i w Passes p = address_doable i w (physical v w_r (ea i v.core w)) p (same_offset (user v.core) (walk_ba w_r) (ea i v.core w))
    data_doable i w Faults p = faulted_doable w (causes v i w true) (ea i v.core w) (cause_lt i w true)
    data_doable i w Undecided p = tt

    without_doable : (i : Instruction) (w : ℕ) → Doable (length m) b (without_access v i w)
    without_doable i w = go (suppressed (causes v i w false))
      where
        go : (t : Bool) → Doable (length m) b (if t then Ok (stopped v w (causes v i w false) WalkChange.Nothing) else Ok (plain v i w (causes v i w false)))
        go true = nothing_doable w (causes v i w false) (cause_lt i w false)
        go false = plain_doable i w (causes v i w false) (cause_lt i w false)

    instruction_doable : (i : Instruction) (w : ℕ) → Doable (length m) b (on_instruction v io m w_r i w).effect
    unfolding on_instruction on_access
    instruction_doable i w = go (is_access i) refl
      where
        go : (t : Bool) → is_access i ≡ t → Doable (length m) b (if t then on_access v io m w_r i w else yield (without_access v i w)).effect
        go true p = data_doable i w (fault_of v m (data_request_of v.core i w) w_r) p
        go false p = without_doable i w

    word_doable : (r : Option ℕ) → Doable (length m) b (on_word v io m w_r r).effect
    unfolding on_word
    word_doable (Some w) = instruction_doable (decoded w) w
    word_doable None = tt

    fetch_doable : (w_i : Walk) (f : Faulting) → Doable (length m) b (on_fetch v io m w_i w_r f).effect
    unfolding on_fetch on_fetch_address
    fetch_doable w_i Passes = word_doable (reads 4 (memory_byte m) (physical v w_i v.core.pc))
    fetch_doable w_i Faults = faulted_doable 0 (causes_without v false true) v.core.pc (without_lt false true)
    fetch_doable w_i Undecided = tt

    judged_doable : (w_i : Walk) → Doable (length m) b (judged v io m w_i w_r).effect
    unfolding judged fetch
    judged_doable w_i = go (eqb (v.core.pc % 4) 0)
      where
        go : (t : Bool) → Doable (length m) b (if t then fetch v io m w_i w_r else yield (Ok (stopped v 0 (causes_without v true false) WalkChange.Nothing))).effect
        go true = fetch_doable w_i (fault_of v m (fetch_request_of v.core) w_i)
        go false = nothing_doable 0 (causes_without v true false) (without_lt true false)

    step_doable : (w_i : Walk) → Doable (length m) b (core_plan v io m w_i w_r)
    unfolding core_plan
    step_doable w_i = settled (PlanDoable (length m) b) (judged v io m w_i w_r) (judged_doable w_i)

-- the event of a block is a vector
vector_lt : (f : Option ℕ) → is_vector f ≡ true → vector_of f < 2 ^ 32
vector_lt (Some k) e = omega (arith, ltb-true k 256 e)
vector_lt None e = omega arith

event_lt : (b : List ℕ) → vector_of (event b) < 2 ^ 32
unfolding event
event_lt b = vector_lt (event b) (least_vector (eev b))

pub core_plan_lem : (b : List ℕ) (io : IoPorts) (m : List ℕ) (w_i w_r : Walk) → length m % 4 ≡ 0 → MayBeDone (length m) b (core_plan (view_of b) io m w_i w_r)
core_plan_lem b io m w_i w_r q = may_be_done _ _ _ (step_doable b m q (view_of b) io refl (event_lt b) w_r w_i)
