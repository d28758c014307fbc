-- What a step of a core, of its TLB or of its store buffer answers: an interrupt's level is 0 to 7, a refusal's number
-- 6 to 10.
-- Assumes nothing.
use Rattle.std.specs.Prelude.{if◌then◌else◌, Option, Some, None, Result, Ok, Err}
use Rattle.refusals.specs.declared.Refusal.{Refusal}
use Rattle.refusals.specs.declared.Refusal.TheVariants.{NoNextState, ByteNowhere, StoresFull, WalksFull, NoFreeRecord}
use Rattle.refusals.specs.Numbers.{number}
use mathlib.Core.Path.{◌≡◌, refl}
use mathlib.Core.Bool.{Bool, true, false, not, ◌&&◌}
use mathlib.Core.List.{List}
use Prim.Native.Nat.{ℕ, zero, suc, ◌/◌, ◌%◌, ◌^◌, ◌<◌, ◌≤◌}
use lib.Dec.{eqb, leb, ltb}
use lib.ListN.{length}
use native.Mathlib.Omega.{arith}
use borrow.Author.Tests.{lt-ltb, eqb-false}
use Rattle.word.specs.Word.{is_set, flag}
use Rattle.layout.specs.Layout as layout
use Rattle.decode.specs.declared.Instruction.{Instruction}
use Rattle.decode.specs.Table.{decoded}
use Rattle.decode.specs.Mnemonics.{load, store}
use Rattle.isa.specs.declared.interrupts.Events.{Events}
use Rattle.isa.specs.Interrupts.{events_as, events_without, mca, lowest_bit, il, continues}
use Rattle.records.specs.declared.Walk.{Walk}
use Rattle.records.specs.declared.Store.{Store}
use Rattle.records.specs.Records.{among, walks}
use Rattle.records.specs.Contents.{all_there}
use Rattle.isa.specs.Core.{spr_at, ea, d}
use Rattle.tlb.specs.declared.Faulting.{Faulting}
use Rattle.tlb.specs.declared.Faulting.TheVariants.{Faults, Passes, Undecided}
use Rattle.tlb.specs.declared.Change.{Change}
use Rattle.tlb.specs.declared.Change.TheVariants as tlb
use Rattle.tlb.specs.Walks.{pte_a, pte_p, ptea, pte, winit, wext, wext_fault, set_d}
use Rattle.tables.specs.Views.{user_mode, runs, asid_of}
use Rattle.tlb.specs.Steps.{origin_of, extendable, tlb_create, tlb_extend, tlb_accessed, on_extend, on_accessed, create_on, extend_on, accessed_on}
use Rattle.store_buffer.specs.declared.Loaded.{Loaded}
use Rattle.store_buffer.specs.declared.LoadError.{LoadError}
use Rattle.store_buffer.specs.declared.Place.{Place}
use Rattle.store_buffer.specs.declared.Place.TheVariants as to
use Rattle.store_buffer.specs.Leaving.{oldest, place_of}
use Rattle.store_buffer.specs.System.{memory_byte, reads, loaded}
use Rattle.ioapic.specs.IoApic.{writes}
use Rattle.steps.specs.declared.Answer.{Answer}
use Rattle.steps.specs.declared.Answer.TheVariants.{Done, Interrupt}
use Rattle.cores.specs.declared.IoPorts.{IoPorts}
use Rattle.cores.specs.declared.BufferChange.{BufferChange}
use Rattle.cores.specs.declared.BufferChange.TheVariants.{Put, Take}
use Rattle.cores.specs.declared.WalkChange.{WalkChange}
use Rattle.cores.specs.declared.WalkChange.TheVariants.{Add}
use Rattle.cores.specs.declared.Write.{Write}
use Rattle.cores.specs.declared.Write.TheVariants.{IoPort}
use Rattle.cores.specs.declared.Plan.{Plan}
use Rattle.cores.specs.Plans.{done, interrupted, finished}
use Rattle.cores.specs.Guards.{Judged, yield, any_of, is_failure, is_undecided, settle}
use Rattle.cores.specs.TlbSteps.{adding, planned}
use Rattle.cores.specs.BufferStep.{leaves_to, on_oldest, buffer_step}
use Rattle.cores.specs.Core.{View, ports_beside, is_event, vector_of, physical, fault_of, data_request_of, fetch_request_of, causes, causes_without, stopped, stored_from, plain, on_load, on_store, on_cas, performed, unless_suppressed, without_access, is_access, on_address, on_data, on_access, on_instruction, on_word, on_fetch_address, on_fetch, fetch, judged, core_plan}

-- 01's levels, and its refusals of a step on sound tables
unfoldable pub known : Result Answer Refusal → Bool
known (Ok Done) = true
known (Ok (Interrupt level)) = ltb level 8
known (Err r) = leb 5 (number r) && leb (number r) 10

-- what a plan, or none, answers
abbrev pub answered : Result Plan Refusal → Result Answer Refusal
answered (Ok p) = Ok p.answer
answered (Err r) = Err r

-- ---- levels

flag_le : (t : Bool) → flag t ≤ 1
flag_le true = omega arith
flag_le false = omega arith

-- eight causes are a word of eight bits
mca_lt : (e : Events) (sr : ℕ) → mca e sr < 2 ^ 8
mca_lt e sr =
    omega
    (arith, flag_le (e.io && is_set sr 1), flag_le e.ill, flag_le e.mal, flag_le e.pff, flag_le e.pfls, flag_le e.sysc, flag_le (e.ovf && is_set sr 7))

-- the lowest bit of a word of j bits that is not zero
lowest_lt : (k j n : ℕ) → 0 < n → n < 2 ^ j → j ≤ k → lowest_bit k n < j
unfolding lowest_bit
lowest_lt zero zero n p q r = absurd (omega arith)
lowest_lt zero (suc j) n p q r = absurd (omega arith)
lowest_lt (suc k) zero n p q r = absurd (omega arith)
lowest_lt (suc k) (suc j) n p q r = go (eqb (n % 2) 1) refl (λ h. lowest_lt k j (n / 2) h (omega (arith, q)) (omega arith))
  where
    go : (t : Bool) → eqb (n % 2) 1 ≡ t → (0 < n / 2 → lowest_bit k (n / 2) < j) → (if t then 0 else suc (lowest_bit k (n / 2))) < suc j
    go true e rest = omega arith
    go false e rest = let h = rest (omega (arith, eqb-false (n % 2) 1 e)) in omega (arith, h)

level_lt : (ca : ℕ) → 0 < ca → ca < 2 ^ 8 → il ca < 8
level_lt ca p q = lowest_lt 32 8 ca p q (omega arith)

-- ---- a core's step: every plan that it can come to

interrupt_known : (ca : ℕ) → 0 < ca → ca < 2 ^ 8 → known (Ok (Interrupt (il ca))) ≡ true
unfolding known
interrupt_known ca p q = lt-ltb (il ca) 8 (level_lt ca p q)

-- causes that are not zero
some_cause : (ca : ℕ) → eqb ca 0 ≡ false → 0 < ca
some_cause ca e = omega (arith, eqb-false ca 0 e)

finished_known : (i : Instruction) (w R ca k : ℕ) (b : BufferChange) (ws : WalkChange) (x : Write) → ca < 2 ^ 8 → known (Ok (finished i w R ca k b ws x).answer) ≡ true
unfolding finished known
finished_known i w R ca k b ws x q = go (eqb ca 0) refl
  where
    go : (t : Bool) → eqb ca 0 ≡ t →
        known (Ok (if not t then interrupted w R ca k b ws x else finished i w R 0 k b ws x).answer) ≡ true
    go true e = refl
    go false e = interrupt_known ca (some_cause ca e) q

module _ (v : View) where
  causes_lt : (i : Instruction) (w : ℕ) (pfls : Bool) → causes v i w pfls < 2 ^ 8
  causes_lt i w pfls = mca_lt (events_as i v.core w (is_event v.eev) pfls) (spr_at v.core layout.sr)

  without_lt : (mal pff : Bool) → causes_without v mal pff < 2 ^ 8
  without_lt mal pff = mca_lt (events_without (is_event v.eev) mal pff) (spr_at v.core layout.sr)

  unless_known : (w ca : ℕ) (p : Result Plan Refusal) → ca < 2 ^ 8 → known (answered p) ≡ true → known (answered (unless_suppressed v w ca p)) ≡ true
  unless_known w ca p q h = go (eqb ca 0) (continues (il ca)) refl
    where
      go : (t u : Bool) → eqb ca 0 ≡ t → known (answered (if not t && not u then Ok (stopped v w ca WalkChange.Nothing) else p)) ≡ true
      go true u e = h
      go false true e = h
      go false false e = interrupt_known ca (some_cause ca e) q

  module _ (io : IoPorts) (m : List ℕ) (i : Instruction) (w ca : ℕ) (q : ca < 2 ^ 8) where
    load_known : (l : Result Loaded LoadError) → known (answered (on_load v i w ca l)) ≡ true
    unfolding known
    load_known (Ok l) = finished_known i w l.value ca _ _ _ _ q
    load_known (Err LoadError.Nowhere) = refl
    load_known (Err LoadError.Hazard) = refl

    store_known : (s : Store) (there : Bool) → known (answered (on_store v i w ca s there)) ≡ true
    unfolding known
    store_known s false = refl
    store_known s true = go (leb 8 (length v.sb)) v.free
      where
        go : (full free : Bool) →
            known (answered (if full then Err StoresFull else if not free then Err NoFreeRecord else Ok (finished i w 0 ca (vector_of v.eev) (Put s) WalkChange.Nothing Write.Nothing))) ≡ true
        go true free = refl
        go false false = refl
        go false true = finished_known i w 0 ca _ _ _ _ q

    cas_known : (a : ℕ) (r : Option ℕ) → known (answered (on_cas v i w ca a r)) ≡ true
    unfolding known
    cas_known a (Some x) = finished_known i w x ca _ _ _ _ q
    cas_known a None = refl

    performed_known : (a : ℕ) → known (answered (performed v io m i w ca a)) ≡ true
    unfolding performed
    performed_known a = go (load i) (store i)
      where
        go : (l s : Bool) →
            known (answered (if l then on_load v i w ca (loaded v.sb (ports_beside v io) m a (d i)) else if s then on_store v i w ca (stored_from v.core i w a) (all_there (d i) (length m) a) else on_cas v i w ca a (reads 4 (memory_byte m) a))) ≡ true
        go true s = load_known (loaded v.sb (ports_beside v io) m a (d i))
        go false true = store_known (stored_from v.core i w a) (all_there (d i) (length m) a)
        go false false = cas_known a (reads 4 (memory_byte m) a)

  module _ (io : IoPorts) (m : List ℕ) (w_r : Walk) where
    address_known : (i : Instruction) (w a : ℕ) → known (answered (on_address v io m i w a).effect) ≡ true
    unfolding on_address
    address_known i w a =
        let q = causes_lt i w false in
        unless_known w (causes v i w false) (performed v io m i w (causes v i w false) a) q (performed_known io m i w (causes v i w false) q a)

    data_known : (i : Instruction) (w : ℕ) (x : Faulting) → known (answered (on_data v io m w_r i w x).effect) ≡ true
    unfolding on_data known
    data_known i w Passes = address_known i w (physical v w_r (ea i v.core w))
    data_known i w Faults = interrupt_known (causes v i w true) (omega arith) (causes_lt i w true)
    data_known i w Undecided = refl

    pub instruction_known : (i : Instruction) (w : ℕ) → known (answered (on_instruction v io m w_r i w).effect) ≡ true
    unfolding on_instruction on_access
    instruction_known i w = go (is_access i)
      where
        go : (t : Bool) → known (answered (if t then on_access v io m w_r i w else yield (without_access v i w)).effect) ≡ true
        go true = data_known i w (fault_of v m (data_request_of v.core i w) w_r)
        go false =
            let q = causes_lt i w false in
            unless_known w (causes v i w false) (Ok (plain v i w (causes v i w false))) q (finished_known i w 0 (causes v i w false) _ _ _ _ q)

    word_known : (r : Option ℕ) → known (answered (on_word v io m w_r r).effect) ≡ true
    unfolding on_word known
    word_known (Some w) = instruction_known (decoded w) w
    word_known None = refl

    fetch_known : (w_i : Walk) (x : Faulting) → known (answered (on_fetch v io m w_i w_r x).effect) ≡ true
    unfolding on_fetch on_fetch_address known
    fetch_known w_i Passes = word_known (reads 4 (memory_byte m) (physical v w_i v.core.pc))
    fetch_known w_i Faults = interrupt_known (causes_without v false true) (omega arith) (without_lt false true)
    fetch_known w_i Undecided = refl

    judged_known : (w_i : Walk) → known (answered (judged v io m w_i w_r).effect) ≡ true
    unfolding judged fetch
    judged_known w_i = go (eqb (v.core.pc % 4) 0)
      where
        go : (t : Bool) → known (answered (if t then fetch v io m w_i w_r else yield (Ok (stopped v 0 (causes_without v true false) WalkChange.Nothing))).effect) ≡ true
        go true = fetch_known w_i (fault_of v m (fetch_request_of v.core) w_i)
        go false = interrupt_known (causes_without v true false) (omega arith) (without_lt true false)

-- a guard that fails or cannot be decided gives 6 or 7
pub settle_known : (j : Judged (Result Plan Refusal)) → known (answered j.effect) ≡ true → known (answered (settle j)) ≡ true
unfolding settle known
settle_known j h = go (any_of is_failure j.guards) (any_of is_undecided j.guards)
  where
    go : (f u : Bool) → known (answered (if f then Err NoNextState else if u then Err ByteNowhere else j.effect)) ≡ true
    go true u = refl
    go false true = refl
    go false false = h

pub core_known : (v : View) (io : IoPorts) (m : List ℕ) (w_i w_r : Walk) → known (answered (core_plan v io m w_i w_r)) ≡ true
unfolding core_plan
core_known v io m w_i w_r = settle_known (judged v io m w_i w_r) (judged_known v io m w_r w_i)

-- ---- the TLB's own steps

adding_known : (l : List Walk) (free : Bool) (w : Walk) → known (answered (adding l free w)) ≡ true
unfolding adding known
adding_known l free w = go (among w l) (leb 23 (length l)) free
  where
    go : (h f r : Bool) →
        known (answered (if not h && f then Err WalksFull else if not h && not r then Err NoFreeRecord else Ok (done BufferChange.Nothing (Add w) Write.Nothing))) ≡ true
    go true f r = refl
    go false true r = refl
    go false false true = refl
    go false false false = refl

-- the TLB refuses 6 and 7 only
unfoldable decision_known : Result Change Refusal → Bool
decision_known (Err r) = leb 5 (number r) && leb (number r) 10
decision_known (Ok x) = true

planned_known : (l : List Walk) (free : Bool) (x : Result Change Refusal) → decision_known x ≡ true → known (answered (planned l free x)) ≡ true
unfolding planned known decision_known
planned_known l free (Err r) e = e
planned_known l free (Ok (tlb.Adds w)) e = adding_known l free w
planned_known l free (Ok (tlb.Marks a x)) e = refl

if_known : (t : Bool) (x y : Result Change Refusal) → decision_known x ≡ true → decision_known y ≡ true → decision_known (if t then x else y) ≡ true
if_known true x y p q = p
if_known false x y p q = q

module _ (b m : List ℕ) (free : Bool) where
  pub create_known : (va : ℕ) → known (answered (planned (walks b) free (create_on b va))) ≡ true
  unfolding tlb_create decision_known
  create_known va =
      planned_known (walks b) free (create_on b va) (if_known (user_mode b && runs b) (Ok (tlb.Adds (winit va (origin_of b) (asid_of b)))) (Err NoNextState) refl refl)

  extended : (w : Walk) (e : Option ℕ) → decision_known (on_extend w e) ≡ true
  unfolding on_extend decision_known
  extended w (Some e) = if_known (pte_a e && not (wext_fault e 0)) (Ok (tlb.Adds (wext w e))) (Err NoNextState) refl refl
  extended w None = refl

  marked : (w : Walk) (e : Option ℕ) → decision_known (on_accessed w e) ≡ true
  unfolding on_accessed decision_known
  marked w (Some e) = if_known (pte_p e) (Ok (tlb.Marks (ptea w) (set_d e))) (Err NoNextState) refl refl
  marked w None = refl

  pub extend_known : (w : Walk) → known (answered (planned (walks b) free (extend_on b m w))) ≡ true
  unfolding tlb_extend decision_known
  extend_known w =
      planned_known (walks b) free (extend_on b m w) (if_known (runs b && extendable (asid_of b) (walks b) w) (on_extend w (pte m w)) (Err NoNextState) (extended w (pte m w)) refl)

  pub accessed_known : (w : Walk) → known (answered (planned (walks b) free (accessed_on b m w))) ≡ true
  unfolding tlb_accessed decision_known
  accessed_known w =
      planned_known (walks b) free (accessed_on b m w) (if_known (user_mode b && extendable (asid_of b) (walks b) w) (on_accessed w (pte m w)) (Err NoNextState) (marked w (pte m w)) refl)

-- ---- the store buffer

leaves_known : (s : Store) (x : Place) → known (answered (leaves_to s x)) ≡ true
unfolding leaves_to known
leaves_known s (to.LocalPort a) = refl
leaves_known s (to.IoPort a) = go (writes a s.value)
  where
    go : (t : Bool) → known (answered (if t then Ok (done Take WalkChange.Nothing (IoPort a s.value)) else Err NoNextState)) ≡ true
    go true = refl
    go false = refl
leaves_known s to.Narrow = refl
leaves_known s to.Memory = refl
leaves_known s to.Beyond = refl

pub buffer_known : (l : List Store) (n : ℕ) → known (answered (buffer_step l n)) ≡ true
unfolding on_oldest known
buffer_known l n = go (oldest l)
  where
    go : (x : Option Store) → known (answered (on_oldest n x)) ≡ true
    go None = refl
    go (Some s) = leaves_known s (place_of n s)
