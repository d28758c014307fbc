-- Demand 2 for apic-sendIPI and apic-sendEOI.
-- Assumes nothing.
use Rattle.std.specs.Prelude.{if◌then◌else◌, Option, Some, None, Ok, Err}
use Rattle.refusals.specs.declared.Refusal.TheVariants.{NoNextState}
use mathlib.Core.Path.{◌≡◌, refl, sym, ◌∙◌, ap, subst}
use mathlib.Core.Bool.{Bool, true, false, not, ◌&&◌, ◌||◌}
use mathlib.Core.List.{List}
use mathlib.Core.Logic.{◌⊎◌, inl, inr}
use Prim.Native.Nat.{ℕ, zero, suc, ◌+◌, ◌*◌, ◌/◌, ◌%◌, ◌^◌, ◌<◌}
use lib.Dec.{eqb}
use lib.ListN.{length, get_or}
use lib.Seq.{get_or-set_other}
use native.Mathlib.Omega.{arith}
use borrow.Author.Tests.{lt-ltb, ltb-true, eqb-true, eqb-false, eq-eqb, ne_eqb}
use Rattle.word.specs.Word.{bit, is_set, field, with_bit}
use Rattle.layout.specs.Layout as at
use Rattle.layout.specs.Blocks.{block}
use Rattle.tables.specs.Views.{cores_of, lines_of, running_of, initrr_of, sipirr_of}
use Rattle.tables.specs.Sound.{sound}
use Rattle.tables.proofs.Parts.{words_of}
use Rattle.tables.proofs.Places.{words_facts}
use Rattle.tables.proofs.Lift.{header, core_fits, core_long, core_sound}
use Rattle.apic.specs.declared.local.Kind.{Kind}
use Rattle.apic.specs.declared.local.Kind.TheVariants as sort
use Rattle.apic.specs.declared.active.Target.{Target}
use Rattle.apic.specs.declared.active.Target.TheVariants.{Id, Own, All, AllButOwn}
use Rattle.apic.specs.declared.active.Ipi.{Ipi}
use Rattle.vector_register.specs.Vectors.{is_vector}
use Rattle.apic.specs.LocalApic.{id_of, received}
use Rattle.apic.specs.Active.{ipi_of, sending, idle, aimed, received_by, pending_eoi, eoi_sent}
use Rattle.word.proofs.Bits.{bit_lt, one_not_zero}
use Rattle.word.proofs.Words.{Words}
use Rattle.apic.proofs.Kept.{Kept, Passive, kept_all, kept_then, kept_idle, kept_received, kept_received_by, kept_vector}
use Rattle.vector_register.proofs.Least.{lowest_vector}
use Rattle.ioapic.specs.Blocks.{on_block}
use Rattle.ioapic.specs.IoApic.{entry, vect, acknowledged, on_entries, eoi_received}
use Rattle.ioapic.specs.Bus.{send_ipi, send_eoi}
use Rattle.ioapic.proofs.Blocks.{block_words, on_block_header}
use Rattle.ioapic.proofs.Steps.{ipi_header, ipi_block, eoi_entry, eoi_block}
use Rattle.steps.specs.declared.Step.{Step}
use Rattle.steps.specs.declared.Step.TheVariants.{ByApic}
use Rattle.steps.specs.declared.ApicStep.TheVariants as kind
use Rattle.machine.specs.declared.action.Action.TheVariants as action
use Rattle.machine.specs.Actions.{Acts, tables_after, memory_after}
use Rattle.machine.specs.Decide.{to_send, to_end, by_apic, by_action, by_step}
use Rattle.report.specs.Configuration.{Apic, Processor, Configuration, upd, with_p, with_apic, with_eoipending, with_ioapic}
use Rattle.report.specs.Components.{bytes, ID, ICR, icr, with_bit_at, is_found, found, ΣApic, δapic, ΣIoApic, δioapic}
use Rattle.report.specs.Delta as report
use Rattle.report.specs.View.{apic_of, processor_of, ioapic_of, view, SameApic, SameProcessor, Same}
use Rattle.report.specs.Needs.{misses}
use Rattle.report.proofs.Cases.{δx, adds_none, Case, is_a_step}
use Rattle.report.proofs.Apics.{apic_refl, min_eoi, put_eoi, fixed_same, init_same, startup_same, idle_same}
use Rattle.report.proofs.Frames.{SameIo, io_kept, redirect_at, processor_refl, passive, tables_same}
use Rattle.report.proofs.Lines.{word_bytes, id_same}

-- ---- apic-sendEOI

-- the words before the entries stay
entries_before : (f : ℕ → ℕ) (n : ℕ) (t : List ℕ) (x : ℕ) → x < 6 → get_or (on_entries f n t) x 0 ≡ get_or t x 0
unfolding on_entries
entries_before f zero t x h = refl
entries_before f (suc n) t x h = get_or-set_other (on_entries f n t) (6 + n) x (f (entry (on_entries f n t) n)) 0 (omega arith) ∙ entries_before f n t x h

module _ (t m : List ℕ) (e : sound t (length m) ≡ true) (k : ℕ) (h : k < cores_of t) where
  abbrev b : List ℕ
  b = block t k

  abbrev n : ℕ
  n = cores_of t

  all : length t ≡ 32 + 256 * n
  all = (header t (length m) e).long

  abbrev x₁ : Option Step
  x₁ = Some (ByApic (kind.SendEoi k))

  -- by the vector found
  abbrev acked : (ℕ → ℕ) → ℕ → Configuration
  acked M v =
      with_ioapic (report.with_processor (view t m M) k (with_apic (processor_of b) (with_eoipending (apic_of b) (upd (apic_of b).eoipending v false)))) (δioapic (ioapic_of t) (ΣIoApic.eoi v))

  outcome₁ : (M : ℕ → ℕ) (f : Option ℕ) → pending_eoi b ≡ f → δx t m x₁ M ≡ (if is_found f then report.next (acked M (found f)) report.done else report.none)
  unfolding report.δBy report.send_EOI view processor_of
  outcome₁ M f q =
      ap (λ (y : Bool). if y then report.send_EOI (view t m M) k else report.none) (lt-ltb k n h)
      ∙ ap (λ (g : Option ℕ). if is_found g then report.next (acked M (found g)) report.done else report.none) (min_eoi (apic_of b) b (apic_refl (apic_of b)) ∙ q)

  module _ (v : ℕ) (hv : v < 256) where
    abbrev u : List ℕ
    u = send_eoi k v t

    eoi_kept : (c : List ℕ) → Kept Passive c (eoi_sent c v)
    eoi_kept c = kept_vector c at.eoipending v 0 (omega arith) (omega arith) hv (omega arith)

    eoi_low : (x : ℕ) → x < 6 → get_or u x 0 ≡ get_or t x 0
    unfolding send_eoi eoi_received
    eoi_low x l =
        let f : List ℕ → List ℕ = λ c. eoi_sent c v in
        entries_before (acknowledged v) 24 (on_block f k t) x l
        ∙ on_block_header f (λ c o. (eoi_kept c).long ∙ o) t k (core_fits t (length m) e k h) x (omega arith)

    eoi_io : SameIo (δioapic (ioapic_of t) (ΣIoApic.eoi v)) (ioapic_of u)
    unfolding δioapic ioapic_of
    eoi_io =
        record {
          IOREGSEL = sym (eoi_low 4 (omega arith));
          IOWIN = sym (eoi_low 5 (omega arith));
          redirect = λ i l.
              ap (λ (z : ℕ). if eqb (field 7 0 z) v then with_bit z 14 0 else z) (redirect_at t i l)
              ∙ ap (λ (z : ℕ). if eqb z v then with_bit (entry t i) 14 0 else entry t i) (low_byte (entry t i))
              ∙ sym (eoi_entry n t all k h v hv i l) ∙ sym (redirect_at u i l);
        }
      where
        low_byte : (z : ℕ) → field 7 0 z ≡ vect z
        low_byte z = omega arith

    eoi_same : (M : ℕ → ℕ) → Same (acked M v) (view (tables_after (Acts (action.SendEoi k v)) t) (memory_after (Acts (action.SendEoi k v)) m) M)
    unfolding tables_after memory_after view
    eoi_same M =
        let P : Processor = with_apic (processor_of b) (with_eoipending (apic_of b) (upd (apic_of b).eoipending v false)) in
        tables_same t u m M (upd (λ j. processor_of (block t j)) k P) (is_set (lines_of t)) (δioapic (ioapic_of t) (ΣIoApic.eoi v)) (eoi_low 0 (omega arith))
        (λ j l. subst (λ (c : List ℕ). SameProcessor (upd (λ j. processor_of (block t j)) k P j) (processor_of c)) (sym (eoi_block n t all k h v hv j l)) (go j (eqb j k) refl))
        (λ j l. ap running_of (eoi_block n t all k h v hv j l) ∙ runs j (eqb j k))
        (λ j l. ap (λ (z : ℕ). is_set z j) (sym (eoi_low 3 (omega arith))))
        eoi_io
      where
        runs : (j : ℕ) (s : Bool) → running_of (if s then eoi_sent (block t j) v else block t j) ≡ running_of (block t j)
        runs j true = (eoi_kept (block t j)).same 67 (inl (omega arith))
        runs j false = refl

        go : (j : ℕ) (s : Bool) → eqb j k ≡ s →
            SameProcessor (if s then with_apic (processor_of b) (with_eoipending (apic_of b) (upd (apic_of b).eoipending v false)) else processor_of (block t j)) (processor_of (if s then eoi_sent (block t j) v else block t j))
        go j true q =
            subst (λ (i : ℕ). SameProcessor (with_apic (processor_of b) (with_eoipending (apic_of b) (upd (apic_of b).eoipending v false))) (processor_of (eoi_sent (block t i) v))) (sym (eqb-true j k q))
            (passive b (eoi_sent b v) (with_eoipending (apic_of b) (upd (apic_of b).eoipending v false)) (eoi_kept b)
            (put_eoi (apic_of b) b (apic_refl (apic_of b)) (core_long t (length m) e k h) v 0 hv (omega arith)))
        go j false q = processor_refl (processor_of (block t j))

  pub eoi_case : Case t m x₁ (by_step t m x₁)
  unfolding by_step by_apic misses
  eoi_case = go (pending_eoi b) refl (lowest_vector b at.eoipending refl)
    where
      go : (f : Option ℕ) → pending_eoi b ≡ f → is_vector f ≡ true → Case t m x₁ (by_action (to_end k f))
      go (Some v) q i =
          Case.done refl (adds_none t m _ refl) (λ M y. refl) (λ M. record { to = acked M v; is_next = outcome₁ M (Some v) q; agrees = eoi_same v (ltb-true v 256 i) M })
      go None q i = Case.undefined refl (is_a_step _ refl) (λ M. outcome₁ M None q)

-- ---- ICR

module _ (c : List ℕ) (ws : Words c) where
  abbrev low : ℕ
  low = get_or c 73 0

  abbrev high : ℕ
  high = get_or c 74 0

  abbrev command : ℕ
  command = low + 2 ^ 32 * high

  icr_is : ICR (apic_of c) ≡ command
  unfolding bytes apic_of
  icr_is = word_bytes low (bytes 4 (apic_of c).ports 8) (ws 73) ∙ ap (λ (n : ℕ). low + 2 ^ 32 * n) (word_bytes high 0 (ws 74) ∙ omega arith)

  -- its fields
  field_bit : (i : ℕ) → (i ≡ 11) ⊎ (i ≡ 12) → bit command i ≡ bit low i
  field_bit i (inl q) = rw q (omega arith)
  field_bit i (inr q) = rw q (omega arith)

  field_dm : field 10 8 command ≡ low / 2 ^ 8 % 8
  field_dm = omega arith

  field_dsh : field 19 18 command ≡ low / 2 ^ 18 % 4
  field_dsh = omega arith

  field_dest : field 63 56 command ≡ high / 2 ^ 24
  field_dest = omega (arith, ws 73, ws 74)

  field_vect : field 7 0 command ≡ low % 2 ^ 8
  field_vect = omega arith

-- ---- targets

abbrev target_by : ℕ → Target
target_by q = if eqb q 0 then Id else if eqb q 1 then Own else if eqb q 2 then All else AllButOwn

aimed_own : (q : ℕ) (s : Bool) → q < 4 → aimed (target_by q) true s ≡ (eqb q 0b01 || eqb q 0b10 || (eqb q 0b00 && s))
aimed_own zero s h = refl
aimed_own (suc zero) s h = refl
aimed_own (suc (suc zero)) s h = refl
aimed_own (suc (suc (suc zero))) s h = refl
aimed_own (suc (suc (suc (suc q)))) s h = absurd (omega arith)

aimed_other : (q : ℕ) (s : Bool) → q < 4 → aimed (target_by q) false s ≡ ((eqb q 0b00 && s) || eqb q 0b11 || eqb q 0b10)
aimed_other zero true h = refl
aimed_other zero false h = refl
aimed_other (suc zero) s h = refl
aimed_other (suc (suc zero)) s h = refl
aimed_other (suc (suc (suc zero))) s h = refl
aimed_other (suc (suc (suc (suc q)))) s h = absurd (omega arith)

-- ---- messages

abbrev message_of : Kind → ℕ → ΣApic
message_of sort.Fixed v = ΣApic.Fixed v
message_of sort.Init v = ΣApic.INIT v
message_of sort.Startup v = ΣApic.SIPI v

received_same : (a : Apic) (c : List ℕ) → SameApic a (apic_of c) → length c ≡ 256 → initrr_of c < 2 → sipirr_of c < 2 → (d : Kind) (v : ℕ) → v < 256 →
    SameApic (δapic a (message_of d v)) (apic_of (received c d v))
received_same a c S long i s sort.Fixed v h = fixed_same a c S long v h
received_same a c S long i s sort.Init v h = init_same a c S long v i
received_same a c S long i s sort.Startup v h = startup_same a c S long v s

-- where a message reaches c, and where it does not
if_received : (b c : List ℕ) (a : Apic) (d : Kind) (v : ℕ) → Kept Passive b c → SameApic a (apic_of c) → length c ≡ 256 → initrr_of c < 2 → sipirr_of c < 2 → v < 256 → (s : Bool) →
    SameProcessor (with_apic (processor_of b) (if s then δapic a (message_of d v) else a)) (processor_of (if s then received c d v else c))
if_received b c a d v K S long i r h true =
    passive b (received c d v) (δapic a (message_of d v)) (kept_then Passive K (kept_received c d v h)) (received_same a c S long i r d v h)
if_received b c a d v K S long i r h false = passive b c a K S

-- ---- apic-sendIPI

module _ (t m : List ℕ) (e : sound t (length m) ≡ true) (ws : Words t) (k : ℕ) (h : k < cores_of t) where
  abbrev b₂ : List ℕ
  b₂ = block t k

  wb : Words b₂
  wb = block_words t k ws

  abbrev lo : ℕ
  lo = get_or b₂ 73 0

  abbrev hi : ℕ
  hi = get_or b₂ 74 0

  abbrev I : ℕ
  I = lo + 2 ^ 32 * hi

  abbrev x₂ : Option Step
  x₂ = Some (ByApic (kind.SendIpi k))

  -- the report's terms, by ICR as z
  abbrev message_by : ℕ → ΣApic
  message_by z =
      if eqb (field 10 8 z) 0b000 then ΣApic.Fixed (field 7 0 z)
      else if eqb (field 10 8 z) 0b101 then ΣApic.INIT (field 7 0 z)
      else ΣApic.SIPI (field 7 0 z)

  abbrev self_by : ℕ → Bool
  self_by z = eqb (field 19 18 z) 0b01 || eqb (field 19 18 z) 0b10 || (eqb (field 19 18 z) 0b00 && eqb (ID (apic_of b₂)) (field 63 56 z))

  abbrev other_by : ℕ → ℕ → Bool
  other_by z j = (eqb (field 19 18 z) 0b00 && eqb (ID (apic_of (block t j))) (field 63 56 z)) || eqb (field 19 18 z) 0b11 || eqb (field 19 18 z) 0b10

  abbrev sender : Apic
  sender = with_bit_at icr (apic_of b₂) 12 0

  abbrev informed_by : ℕ → ℕ → Apic
  informed_by z j =
      if eqb k j then (if self_by z then δapic sender (message_by z) else sender)
      else if other_by z j then δapic (apic_of (block t j)) (message_by z)
      else apic_of (block t j)

  abbrev ipi : (ℕ → ℕ) → ℕ → Configuration
  ipi M z = with_p (view t m M) (λ j. with_apic (processor_of (block t j)) (informed_by z j))

  abbrev typed : ℕ → Bool
  typed d = eqb d 0b000 || eqb d 0b101 || eqb d 0b110

  outcome₂ : (M : ℕ → ℕ) → δx t m x₂ M ≡ (if is_set I 12 && is_set I 11 && typed (field 10 8 I) then report.next (ipi M I) report.done else report.none)
  unfolding report.δBy report.send_IPI report.informed view processor_of
  outcome₂ M =
      ap (λ (y : Bool). if y then report.send_IPI (view t m M) k else report.none) (lt-ltb k (cores_of t) h)
      ∙ ap (λ (z : ℕ). if is_set z 12 && is_set z 11 && typed (field 10 8 z) then report.next (ipi M z) report.done else report.none) (icr_is b₂ wb)

  -- by the tests of the machine
  by_tests : (M : ℕ → ℕ) (p q r : Bool) → eqb (bit lo 12) 0 ≡ p → eqb (bit lo 11) 0 ≡ q → typed (lo / 2 ^ 8 % 8) ≡ r →
      δx t m x₂ M ≡ (if not p && not q && r then report.next (ipi M I) report.done else report.none)
  by_tests M p q r f g s =
      let bit_is : (i : ℕ) → (i ≡ 11) ⊎ (i ≡ 12) → is_set I i ≡ not (eqb (bit lo i) 0) = λ i o. ap (λ (n : ℕ). eqb n 1) (field_bit b₂ wb i o) ∙ one_not_zero (bit lo i) (bit_lt lo i) in
      let x = bit_is 12 (inr refl) ∙ ap not f in
      let y = bit_is 11 (inl refl) ∙ ap not g in
      let z = ap typed (field_dm b₂ wb) ∙ s in
      outcome₂ M ∙ (λ i. if x i && y i && z i then report.next (ipi M I) report.done else report.none)

  -- a message of the kind d
  module _ (d : Kind) (md : message_by I ≡ message_of d (lo % 2 ^ 8)) where
    abbrev mm : Ipi
    mm = ipi_of d lo hi

    abbrev u₂ : List ℕ
    u₂ = send_ipi (cores_of t) k mm t

    hv : lo % 2 ^ 8 < 256
    hv = omega arith

    all₂ : length t ≡ 32 + 256 * cores_of t
    all₂ = (header t (length m) e).long

    -- the sender
    idle_id : id_of (idle b₂) ≡ id_of b₂
    unfolding idle
    idle_id = ap (λ (w : ℕ). w / 2 ^ 24 % 16) (get_or-set_other b₂ 73 72 (with_bit (get_or b₂ 73 0) 12 0) 0 (omega arith))

    self_is : self_by I ≡ aimed (target_by (lo / 2 ^ 18 % 4)) true (eqb (id_of (idle b₂)) (hi / 2 ^ 24))
    self_is =
        let x = field_dsh b₂ wb in
        let y = id_same b₂ wb ∙ sym idle_id in
        let z = field_dest b₂ wb in
        (λ i. eqb (x i) 0b01 || eqb (x i) 0b10 || (eqb (x i) 0b00 && eqb (y i) (z i))) ∙ sym (aimed_own (lo / 2 ^ 18 % 4) (eqb (id_of (idle b₂)) (hi / 2 ^ 24)) (omega arith))

    own : SameProcessor (with_apic (processor_of b₂) (if self_by I then δapic sender (message_by I) else sender)) (processor_of (received_by mm true (idle b₂)))
    unfolding received_by
    own =
        let K = kept_idle b₂ in
        let l = core_long t (length m) e k h in
        let W = words_facts b₂ (words_of (length m) b₂ (core_sound t (length m) e k h)) in
        let s : Bool = aimed (target_by (lo / 2 ^ 18 % 4)) true (eqb (id_of (idle b₂)) (hi / 2 ^ 24)) in
        subst (λ (y : Bool). SameProcessor (with_apic (processor_of b₂) (if y then δapic sender (message_by I) else sender)) (processor_of (if s then received (idle b₂) d (lo % 2 ^ 8) else idle b₂))) (sym self_is)
        (subst (λ (y : ΣApic). SameProcessor (with_apic (processor_of b₂) (if s then δapic sender y else sender)) (processor_of (if s then received (idle b₂) d (lo % 2 ^ 8) else idle b₂))) (sym md)
        (if_received b₂ (idle b₂) sender d (lo % 2 ^ 8) K (idle_same (apic_of b₂) b₂ (apic_refl (apic_of b₂)) l) (K.long ∙ l) (K.initrr_flag (omega (arith, W.initrr))) (K.sipirr_flag (omega (arith, W.sipirr))) hv s))

    -- another
    other : (j : ℕ) → j < cores_of t → SameProcessor (with_apic (processor_of (block t j)) (if other_by I j then δapic (apic_of (block t j)) (message_by I) else apic_of (block t j))) (processor_of (received_by mm false (block t j)))
    unfolding received_by
    other j g =
        let W = words_facts (block t j) (words_of (length m) (block t j) (core_sound t (length m) e j g)) in
        let s : Bool = aimed (target_by (lo / 2 ^ 18 % 4)) false (eqb (id_of (block t j)) (hi / 2 ^ 24)) in
        let x = field_dsh b₂ wb in
        let y = id_same (block t j) (block_words t j ws) in
        let z = field_dest b₂ wb in
        let other-is : other_by I j ≡ s = (λ i. (eqb (x i) 0b00 && eqb (y i) (z i)) || eqb (x i) 0b11 || eqb (x i) 0b10) ∙ sym (aimed_other (lo / 2 ^ 18 % 4) (eqb (id_of (block t j)) (hi / 2 ^ 24)) (omega arith)) in
        subst (λ (y : Bool). SameProcessor (with_apic (processor_of (block t j)) (if y then δapic (apic_of (block t j)) (message_by I) else apic_of (block t j))) (processor_of (if s then received (block t j) d (lo % 2 ^ 8) else block t j))) (sym other-is)
        (subst (λ (y : ΣApic). SameProcessor (with_apic (processor_of (block t j)) (if s then δapic (apic_of (block t j)) y else apic_of (block t j))) (processor_of (if s then received (block t j) d (lo % 2 ^ 8) else block t j))) (sym md)
        (if_received (block t j) (block t j) (apic_of (block t j)) d (lo % 2 ^ 8) (kept_all Passive (block t j)) (apic_refl (apic_of (block t j))) (core_long t (length m) e j g) (omega (arith, W.initrr)) (omega (arith, W.sipirr)) hv s))

    informs : (j : ℕ) → j < cores_of t → SameProcessor (with_apic (processor_of (block t j)) (informed_by I j)) (processor_of (block u₂ j))
    informs j g =
        subst (λ (c : List ℕ). SameProcessor (with_apic (processor_of (block t j)) (informed_by I j)) (processor_of c)) (sym (ipi_block (cores_of t) t all₂ k h mm hv j g)) (go (eqb j k) refl)
      where
        go : (s : Bool) → eqb j k ≡ s → SameProcessor (with_apic (processor_of (block t j)) (informed_by I j)) (processor_of (received_by mm s (if s then idle (block t j) else block t j)))
        go true q =
            subst (λ (i : ℕ). SameProcessor (with_apic (processor_of (block t i)) (informed_by I i)) (processor_of (received_by mm true (idle (block t i))))) (sym (eqb-true j k q))
            (subst (λ (y : Bool). SameProcessor (with_apic (processor_of b₂) (if y then (if self_by I then δapic sender (message_by I) else sender) else if other_by I k then δapic (apic_of b₂) (message_by I) else apic_of b₂)) (processor_of (received_by mm true (idle b₂))))
            (sym (eq-eqb k k refl)) own)
        go false q =
            subst (λ (y : Bool). SameProcessor (with_apic (processor_of (block t j)) (if y then (if self_by I then δapic sender (message_by I) else sender) else if other_by I j then δapic (apic_of (block t j)) (message_by I) else apic_of (block t j))) (processor_of (received_by mm false (block t j))))
            (sym (ne_eqb k j (λ r. eqb-false j k q (sym r)))) (other j g)

    ipi_runs : (j : ℕ) → j < cores_of t → running_of (block u₂ j) ≡ running_of (block t j)
    ipi_runs j g = ap running_of (ipi_block (cores_of t) t all₂ k h mm hv j g) ∙ (kept_received_by _ mm (eqb j k) hv).same 67 (inl (omega arith)) ∙ go (eqb j k)
      where
        go : (s : Bool) → running_of (if s then idle (block t j) else block t j) ≡ running_of (block t j)
        go true = (kept_idle (block t j)).same 67 (inl (omega arith))
        go false = refl

    ipi_same : (M : ℕ → ℕ) → Same (ipi M I) (view (tables_after (Acts (action.SendIpi k mm)) t) (memory_after (Acts (action.SendIpi k mm)) m) M)
    unfolding tables_after memory_after view
    ipi_same M =
        let H = ipi_header (cores_of t) t all₂ k h mm hv in
        tables_same t u₂ m M (λ j. with_apic (processor_of (block t j)) (informed_by I j)) (is_set (lines_of t)) (ioapic_of t) (H 0 (omega arith))
        informs ipi_runs
        (λ j g. ap (λ (z : ℕ). is_set z j) (sym (H 3 (omega arith))))
        (io_kept t u₂ (λ x p q. H x (omega arith)))

    sends : eqb (bit lo 12) 0 ≡ false → eqb (bit lo 11) 0 ≡ false → typed (lo / 2 ^ 8 % 8) ≡ true → Case t m x₂ (Ok (Acts (action.SendIpi k mm)))
    unfolding misses
    sends f g r = Case.done refl (adds_none t m _ refl) (λ M y. refl) (λ M. record { to = ipi M I; is_next = by_tests M false false true f g r; agrees = ipi_same M })

  pub ipi_case : Case t m x₂ (by_step t m x₂)
  unfolding by_step by_apic sending
  ipi_case = go (eqb (bit lo 12) 0) (eqb (bit lo 11) 0) (eqb (lo / 2 ^ 8 % 8) 0b000) (eqb (lo / 2 ^ 8 % 8) 0b101) (eqb (lo / 2 ^ 8 % 8) 0b110) refl refl refl refl refl
    where
      stays : (p q r : Bool) → eqb (bit lo 12) 0 ≡ p → eqb (bit lo 11) 0 ≡ q → typed (lo / 2 ^ 8 % 8) ≡ r → (not p && not q && r) ≡ false → Case t m x₂ (Err NoNextState)
      stays p q r f g s z =
          Case.undefined refl (is_a_step _ refl) (λ M. by_tests M p q r f g s ∙ ap (λ (y : Bool). if y then report.next (ipi M I) report.done else report.none) z)

      -- the message that the mode names
      says : (a c : Bool) → eqb (lo / 2 ^ 8 % 8) 0b000 ≡ a → eqb (lo / 2 ^ 8 % 8) 0b101 ≡ c →
          message_by I ≡ (if a then ΣApic.Fixed (lo % 2 ^ 8) else if c then ΣApic.INIT (lo % 2 ^ 8) else ΣApic.SIPI (lo % 2 ^ 8))
      says a c f g =
          let x = ap (λ (n : ℕ). eqb n 0b000) (field_dm b₂ wb) ∙ f in
          let y = ap (λ (n : ℕ). eqb n 0b101) (field_dm b₂ wb) ∙ g in
          let z = field_vect b₂ wb in
          λ i. if x i then ΣApic.Fixed (z i) else if y i then ΣApic.INIT (z i) else ΣApic.SIPI (z i)

      go : (p q a c d : Bool) → eqb (bit lo 12) 0 ≡ p → eqb (bit lo 11) 0 ≡ q → eqb (lo / 2 ^ 8 % 8) 0b000 ≡ a → eqb (lo / 2 ^ 8 % 8) 0b101 ≡ c → eqb (lo / 2 ^ 8 % 8) 0b110 ≡ d →
          Case t m x₂ (by_action (to_send k (if p then None else if q then None else if a then Some (ipi_of sort.Fixed lo hi) else if c then Some (ipi_of sort.Init lo hi) else if d then Some (ipi_of sort.Startup lo hi) else None)))
      go true q a c d f g x y z = stays true q (typed (lo / 2 ^ 8 % 8)) f g refl refl
      go false true a c d f g x y z = stays false true (typed (lo / 2 ^ 8 % 8)) f g refl refl
      go false false true c d f g x y z = sends sort.Fixed (says true c x y) f g (λ i. x i || y i || z i)
      go false false false true d f g x y z = sends sort.Init (says false true x y) f g (λ i. x i || y i || z i)
      go false false false false true f g x y z = sends sort.Startup (says false false x y) f g (λ i. x i || y i || z i)
      go false false false false false f g x y z = stays false false false f g (λ i. x i || y i || z i) refl
