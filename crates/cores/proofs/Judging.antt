-- A core's step guard by guard.
-- Assumes nothing.
use Rattle.std.specs.Prelude.{if◌then◌else◌, Option, Some, None, Result, Ok, Err}
use Rattle.refusals.specs.declared.Refusal.{Refusal}
use Rattle.refusals.specs.declared.Refusal.TheVariants.{NoNextState, ByteNowhere}
use mathlib.Core.Path.{◌≡◌, refl, sym, ◌∙◌, ap}
use mathlib.Core.Bool.{Bool, true, false, not, ◌&&◌, ◌||◌}
use mathlib.Core.List.{List, [], ◌∷◌}
use Prim.Native.Nat.{ℕ, ◌%◌}
use lib.Dec.{eqb}
use Rattle.word.proofs.Tests.{true_false}
use Rattle.decode.specs.declared.Instruction.{Instruction}
use Rattle.decode.specs.Table.{decoded}
use Rattle.decode.specs.Mnemonics.{load}
use Rattle.isa.specs.Core.{ea, d}
use Rattle.isa.specs.Interrupts.{user}
use Rattle.records.specs.declared.Walk.{Walk}
use Rattle.records.specs.Records.{among}
use Rattle.tlb.specs.declared.Faulting.{Faulting}
use Rattle.tlb.specs.declared.Faulting.TheVariants.{Faults, Passes, Undecided}
use Rattle.tlb.specs.Walks.{complete, hit}
use Rattle.store_buffer.specs.Buffer.{sbhazard}
use Rattle.store_buffer.specs.System.{is_port, memory_byte, reads, loaded}
use Rattle.cores.specs.declared.IoPorts.{IoPorts}
use Rattle.cores.specs.declared.WalkChange.{WalkChange}
use Rattle.cores.specs.declared.Plan.{Plan}
use Rattle.cores.specs.Guards.{Judged, test, yield, ask, settle}
use Rattle.cores.specs.Core.{View, causes, causes_without, suppressed, stopped, faulted, fault_of, physical, performed, unless_suppressed, without_access, is_access, finds_buffer, data_request_of, avoids_ports, has_hazard, on_address, on_data, on_access, on_instruction, fetch_request_of, on_word, on_fetch_address, on_fetch, fetch, judged, core_plan}
use Rattle.cores.proofs.Settle.{ask_holds, ask_fails, settle_yield, settle_undecided}

-- a guard, by what tests it
asked : {A : Type 0} (t b : Bool) (j : Judged (Result A Refusal)) → t ≡ b → t ≡ true → settle j ≡ settle (ask (test b ∷ []) j)
asked t b j p e = sym (ask_holds b j (sym p ∙ e))

unasked : {A : Type 0} (t b : Bool) (j : Judged (Result A Refusal)) → t ≡ b → t ≡ false → Err NoNextState ≡ settle (ask (test b ∷ []) j)
unasked t b j p e = sym (ask_fails b j (sym p ∙ e))

module _ (v : View) (io : IoPorts) (m : List ℕ) where
  -- ---- at a physical address

  module _ (i : Instruction) (w a : ℕ) where
    rest : Judged (Result Plan Refusal)
    rest = yield (unless_suppressed v w (causes v i w false) (performed v io m i w (causes v i w false) a))

    pub address_port : (avoids_ports i && is_port a) ≡ true → Err NoNextState ≡ settle (on_address v io m i w a)
    unfolding on_address rest
    address_port e = sym (ask_fails (not (avoids_ports i && is_port a)) (ask (test (not (has_hazard v.sb i a)) ∷ []) rest) (ap not e))

    past : (avoids_ports i && is_port a) ≡ false → settle (on_address v io m i w a) ≡ settle (ask (test (not (has_hazard v.sb i a)) ∷ []) rest)
    unfolding on_address rest
    past e = ask_holds (not (avoids_ports i && is_port a)) (ask (test (not (has_hazard v.sb i a)) ∷ []) rest) (ap not e)

    pub address_hazard : (avoids_ports i && is_port a) ≡ false → has_hazard v.sb i a ≡ true → Err NoNextState ≡ settle (on_address v io m i w a)
    address_hazard e h = sym (past e ∙ ask_fails (not (has_hazard v.sb i a)) rest (ap not h))

    free : (avoids_ports i && is_port a) ≡ false → has_hazard v.sb i a ≡ false →
        settle (on_address v io m i w a) ≡ unless_suppressed v w (causes v i w false) (performed v io m i w (causes v i w false) a)
    unfolding rest
    free e h = past e ∙ (ask_holds (not (has_hazard v.sb i a)) rest (ap not h) ∙ settle_yield _)

    pub address_stopped : (avoids_ports i && is_port a) ≡ false → has_hazard v.sb i a ≡ false → suppressed (causes v i w false) ≡ true →
        Ok (stopped v w (causes v i w false) WalkChange.Nothing) ≡ settle (on_address v io m i w a)
    address_stopped e h s = sym (free e h ∙ ap (λ t. if t then Ok (stopped v w (causes v i w false) WalkChange.Nothing) else performed v io m i w (causes v i w false) a) s)

    -- a load that has a hazard is refused by the load itself
    load_hazard : (l h : Bool) (ca : ℕ) → load i ≡ l → sbhazard v.sb a (d i) ≡ h → (l && h) ≡ true → performed v io m i w ca a ≡ Err NoNextState
    unfolding performed loaded
    load_hazard true true ca p q e = rw (p, q) refl
    load_hazard true false ca p q e = absurd (true_false (sym e))
    load_hazard false h ca p q e = absurd (true_false (sym e))

    by_hazard : (h : Bool) → has_hazard v.sb i a ≡ h → (avoids_ports i && is_port a) ≡ false → suppressed (causes v i w false) ≡ false →
        performed v io m i w (causes v i w false) a ≡ settle (on_address v io m i w a)
    by_hazard true p e s = load_hazard (load i) (sbhazard v.sb a (d i)) (causes v i w false) refl refl p ∙ address_hazard e p
    by_hazard false p e s =
        sym (free e p ∙ ap (λ t. if t then Ok (stopped v w (causes v i w false) WalkChange.Nothing) else performed v io m i w (causes v i w false) a) s)

    pub address_performed : (avoids_ports i && is_port a) ≡ false → suppressed (causes v i w false) ≡ false →
        performed v io m i w (causes v i w false) a ≡ settle (on_address v io m i w a)
    address_performed = by_hazard (has_hazard v.sb i a) refl

  -- ---- by the data walk

  module _ (w_r : Walk) (i : Instruction) (w : ℕ) where
    pub data_incomplete : (t : Bool) → t ≡ (not (user v.core) || complete w_r) → t ≡ false → Err NoNextState ≡ settle (on_data v io m w_r i w Passes)
    unfolding on_data
    data_incomplete t = unasked t (not (user v.core) || complete w_r) (on_address v io m i w (physical v w_r (ea i v.core w)))

    pub data_complete : (t : Bool) → t ≡ (not (user v.core) || complete w_r) → t ≡ true →
        settle (on_address v io m i w (physical v w_r (ea i v.core w))) ≡ settle (on_data v io m w_r i w Passes)
    unfolding on_data
    data_complete t = asked t (not (user v.core) || complete w_r) (on_address v io m i w (physical v w_r (ea i v.core w)))

    pub data_faults : Ok (stopped v w (causes v i w true) (faulted v.core (ea i v.core w))) ≡ settle (on_data v io m w_r i w Faults)
    unfolding on_data
    data_faults = sym (settle_yield _)

    pub data_undecided : Err ByteNowhere ≡ settle (on_data v io m w_r i w Undecided)
    unfolding on_data
    data_undecided = sym (settle_undecided _)

    pub access_unfit : (t : Bool) → t ≡ (not (user v.core) || (among w_r v.tlb && hit (data_request_of v.core i w) w_r)) → t ≡ false →
        Err NoNextState ≡ settle (on_access v io m w_r i w)
    unfolding on_access
    access_unfit t = unasked t (not (user v.core) || (among w_r v.tlb && hit (data_request_of v.core i w) w_r)) (on_data v io m w_r i w (fault_of v m (data_request_of v.core i w) w_r))

    pub access_fit : (t : Bool) (f : Faulting) → t ≡ (not (user v.core) || (among w_r v.tlb && hit (data_request_of v.core i w) w_r)) → t ≡ true → f ≡ fault_of v m (data_request_of v.core i w) w_r →
        settle (on_data v io m w_r i w f) ≡ settle (on_access v io m w_r i w)
    unfolding on_access
    access_fit t f p e q =
        ap (λ g. settle (on_data v io m w_r i w g)) q
        ∙ asked t (not (user v.core) || (among w_r v.tlb && hit (data_request_of v.core i w) w_r)) (on_data v io m w_r i w (fault_of v m (data_request_of v.core i w) w_r)) p e

    pub instruction_waits : (t : Bool) → t ≡ finds_buffer v.sb i → t ≡ false → Err NoNextState ≡ settle (on_instruction v io m w_r i w)
    unfolding on_instruction
    instruction_waits t = unasked t (finds_buffer v.sb i) _

    pub instruction_access : (t : Bool) → t ≡ finds_buffer v.sb i → t ≡ true → is_access i ≡ true →
        settle (on_access v io m w_r i w) ≡ settle (on_instruction v io m w_r i w)
    unfolding on_instruction
    instruction_access t p e a =
        ap (λ s. settle (if s then on_access v io m w_r i w else yield (without_access v i w))) (sym a)
        ∙ asked t (finds_buffer v.sb i) (if is_access i then on_access v io m w_r i w else yield (without_access v i w)) p e

    pub instruction_plain : (t : Bool) → t ≡ finds_buffer v.sb i → t ≡ true → is_access i ≡ false → without_access v i w ≡ settle (on_instruction v io m w_r i w)
    unfolding on_instruction
    instruction_plain t p e a =
        sym (settle_yield (without_access v i w))
        ∙ (ap (λ s. settle (if s then on_access v io m w_r i w else yield (without_access v i w))) (sym a)
        ∙ asked t (finds_buffer v.sb i) (if is_access i then on_access v io m w_r i w else yield (without_access v i w)) p e)

  -- ---- the fetch

  module _ (w_r : Walk) (a : ℕ) where
    pub fetch_port : is_port a ≡ true → Err NoNextState ≡ settle (on_fetch_address v io m w_r a)
    unfolding on_fetch_address
    fetch_port e = sym (ask_fails (not (is_port a)) (on_word v io m w_r (reads 4 (memory_byte m) a)) (ap not e))

    past_port : is_port a ≡ false → (r : Option ℕ) → reads 4 (memory_byte m) a ≡ r → settle (on_fetch_address v io m w_r a) ≡ settle (on_word v io m w_r r)
    unfolding on_fetch_address
    past_port e r p =
        ask_holds (not (is_port a)) (on_word v io m w_r (reads 4 (memory_byte m) a)) (ap not e) ∙ ap (λ s. settle (on_word v io m w_r s)) p

    pub fetch_word : is_port a ≡ false → (w : ℕ) → reads 4 (memory_byte m) a ≡ Some w →
        settle (on_instruction v io m w_r (decoded w) w) ≡ settle (on_fetch_address v io m w_r a)
    unfolding on_word
    fetch_word e w p = sym (past_port e (Some w) p)

    pub fetch_nowhere : is_port a ≡ false → reads 4 (memory_byte m) a ≡ None → Err ByteNowhere ≡ settle (on_fetch_address v io m w_r a)
    unfolding on_word
    fetch_nowhere e p = sym (past_port e None p ∙ settle_undecided _)

  module _ (w_i w_r : Walk) where
    pub fetch_incomplete : (t : Bool) → t ≡ (not (user v.core) || complete w_i) → t ≡ false → Err NoNextState ≡ settle (on_fetch v io m w_i w_r Passes)
    unfolding on_fetch
    fetch_incomplete t = unasked t (not (user v.core) || complete w_i) (on_fetch_address v io m w_r (physical v w_i v.core.pc))

    pub fetch_complete : (t : Bool) → t ≡ (not (user v.core) || complete w_i) → t ≡ true →
        settle (on_fetch_address v io m w_r (physical v w_i v.core.pc)) ≡ settle (on_fetch v io m w_i w_r Passes)
    unfolding on_fetch
    fetch_complete t = asked t (not (user v.core) || complete w_i) (on_fetch_address v io m w_r (physical v w_i v.core.pc))

    pub fetch_faults : Ok (stopped v 0 (causes_without v false true) (faulted v.core v.core.pc)) ≡ settle (on_fetch v io m w_i w_r Faults)
    unfolding on_fetch
    fetch_faults = sym (settle_yield _)

    pub fetch_undecided : Err ByteNowhere ≡ settle (on_fetch v io m w_i w_r Undecided)
    unfolding on_fetch
    fetch_undecided = sym (settle_undecided _)

    pub fetch_unfit : (t : Bool) → t ≡ (not (user v.core) || (among w_i v.tlb && hit (fetch_request_of v.core) w_i)) → t ≡ false →
        Err NoNextState ≡ settle (fetch v io m w_i w_r)
    unfolding fetch
    fetch_unfit t = unasked t (not (user v.core) || (among w_i v.tlb && hit (fetch_request_of v.core) w_i)) (on_fetch v io m w_i w_r (fault_of v m (fetch_request_of v.core) w_i))

    pub fetch_fit : (t : Bool) (f : Faulting) → t ≡ (not (user v.core) || (among w_i v.tlb && hit (fetch_request_of v.core) w_i)) → t ≡ true → f ≡ fault_of v m (fetch_request_of v.core) w_i →
        settle (on_fetch v io m w_i w_r f) ≡ settle (fetch v io m w_i w_r)
    unfolding fetch
    fetch_fit t f p e q =
        ap (λ g. settle (on_fetch v io m w_i w_r g)) q
        ∙ asked t (not (user v.core) || (among w_i v.tlb && hit (fetch_request_of v.core) w_i)) (on_fetch v io m w_i w_r (fault_of v m (fetch_request_of v.core) w_i)) p e

    -- ---- the step

    begun : Judged (Result Plan Refusal)
    begun = if eqb (v.core.pc % 4) 0 then fetch v io m w_i w_r else yield (Ok (stopped v 0 (causes_without v true false) WalkChange.Nothing))

    pub step_waits : v.running ≡ false → Err NoNextState ≡ core_plan v io m w_i w_r
    unfolding core_plan judged begun
    step_waits e = sym (ask_fails v.running begun e)

    pub step_misaligned : v.running ≡ true → eqb (v.core.pc % 4) 0 ≡ false → Ok (stopped v 0 (causes_without v true false) WalkChange.Nothing) ≡ core_plan v io m w_i w_r
    unfolding core_plan judged begun
    step_misaligned e p =
        sym (ask_holds v.running begun e
        ∙ (ap (λ s. settle (if s then fetch v io m w_i w_r else yield (Ok (stopped v 0 (causes_without v true false) WalkChange.Nothing)))) p
        ∙ settle_yield _))

    pub step_fetch : v.running ≡ true → eqb (v.core.pc % 4) 0 ≡ true → settle (fetch v io m w_i w_r) ≡ core_plan v io m w_i w_r
    unfolding core_plan judged begun
    step_fetch e p =
        sym (ask_holds v.running begun e
        ∙ ap (λ s. settle (if s then fetch v io m w_i w_r else yield (Ok (stopped v 0 (causes_without v true false) WalkChange.Nothing)))) p)
