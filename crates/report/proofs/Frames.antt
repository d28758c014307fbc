-- The view of tables after a step: of a core's block, of the header, and of a plan that is done.
-- Assumes nothing.
use Rattle.std.specs.Prelude.{if◌then◌else◌}
use mathlib.Core.Path.{◌≡◌, refl, sym, ◌∙◌, ap, subst}
use mathlib.Core.Bool.{Bool, true, false}
use mathlib.Core.List.{List}
use mathlib.Core.Logic.{inl, inr}
use Prim.Native.Nat.{ℕ, ◌+◌, ◌*◌, ◌%◌, ◌^◌, ◌<◌, ◌≤◌}
use lib.Dec.{eqb, ltb}
use lib.ListN.{length, get_or, set, drop, length-set}
use lib.Seq.{get_or-set_same, get_or-set_other, get_or-take, get_or-drop}
use native.Mathlib.Omega.{arith}
use borrow.Author.Tests.{ltb-true, ltb-false, eqb-true, eqb-false}
use Rattle.word.specs.Word.{is_set}
use Rattle.word.proofs.Tests.{or_false}
use Rattle.word.proofs.Truth.{and_left, and_right, and_both, or_other}
use Rattle.layout.specs.Layout as at
use Rattle.layout.specs.Blocks.{block, with_block}
use Rattle.layout.proofs.Blocks.{with_long, with_header, with_block_lem, with_other}
use Rattle.isa.specs.declared.registers.Registers.{Registers}
use Rattle.isa.specs.Core.{effect}
use Rattle.isa.specs.Interrupts.{delta_jisr, delta_rfe}
use Rattle.records.specs.declared.Store.{Store}
use Rattle.records.specs.declared.Walk.{Walk}
use Rattle.records.specs.Records.{stores, walks, among}
use Rattle.records.proofs.Frame.{Alike, same_stores, same_walks}
use Rattle.records.proofs.Laws.{After}
use Rattle.tables.specs.Views.{cores_of, lines_of, registers_of, with_registers, running_of}
use Rattle.tables.specs.Sound.{sound_block, sound}
use Rattle.tables.proofs.Places.{registers_same}
use Rattle.tables.proofs.Bank.{registers_size, put_long, put_above}
use Rattle.tables.proofs.Steps.{take_after, put_after, add_after, drop_after}
use Rattle.tables.proofs.Lift.{core_fits, core_long, core_sound}
use Rattle.apic.proofs.Kept.{Kept, Passive}
use Rattle.ioapic.specs.IoApic as ioapic
use Rattle.cores.specs.declared.CoreChange.{CoreChange}
use Rattle.cores.specs.declared.CoreChange.TheVariants.{Interrupt, Return, Execute}
use Rattle.cores.specs.declared.BufferChange.{BufferChange}
use Rattle.cores.specs.declared.BufferChange.TheVariants.{Put, Take}
use Rattle.cores.specs.declared.WalkChange.{WalkChange}
use Rattle.cores.specs.declared.WalkChange.TheVariants.{Add, Drop}
use Rattle.cores.specs.declared.Write.{Write}
use Rattle.cores.specs.declared.Write.TheVariants.{Memory, LocalPort, IoPort}
use Rattle.cores.specs.declared.Plan.{Plan}
use Rattle.cores.specs.Commit.{core_after, buffer_after, walks_after, port_after, block_after, header_after, tables_by_plan, memory_by_plan}
use Rattle.cores.specs.inner.Ready.{buffer_ready, walks_ready, port_ready, ready}
use Rattle.cores.proofs.Changes.{Full, effect_full, jisr_full, rfe_full, buffer_asks, walks_ask}
use Rattle.cores.proofs.Sounds.{Shows, plan_shows, store_brought, walk_brought, registers_after, stores_after, tlb_after, plan_sound}
use Rattle.cores.proofs.Decisions.{PlanMayBeDone}
use Rattle.cores.proofs.Locals.{is_io, header_still, plan_long, tables_own, tables_other, tables_local}
use Rattle.report.specs.Configuration.{Apic, Processor, IoApic, Configuration, upd, with_m, with_apic, with_redirect}
use Rattle.report.specs.Components.{ΣApic, δapic, ΣIoApic, δioapic}
use Rattle.report.specs.View.{apic_of, processor_of, ioapic_of, memory_of, view, SameApic, SameProcessor, Same}
use Rattle.report.proofs.Apics.{upd_case, upd_own, apic_refl, apic_kept, jisr_same, rfe_same, written_same}

-- ---- a processor

pub processor_refl : (p : Processor) → SameProcessor p p
processor_refl p = record { core = refl; sb = refl; tlb = λ w. refl; apic = apic_refl p.apic }

pub processor_of_lem : {b c : List ℕ} → b ≡ c → SameProcessor (processor_of b) (processor_of c)
processor_of_lem {b} {c} e = subst (λ (x : List ℕ). SameProcessor (processor_of b) (processor_of x)) e (processor_refl (processor_of b))

-- by what a block shows
pub shown : {n : ℕ} {b c : List ℕ} {r : Registers} {ss : List Store} {ws : List Walk} → Shows n b c r ss ws → (tlb : Walk → Bool) →
    ((w : Walk) → tlb w ≡ among w ws) → (a : Apic) → SameApic a (apic_of c) → SameProcessor (record { core = r; sb = ss; tlb = tlb; apic = a }) (processor_of c)
unfolding processor_of
shown S tlb f a A = record { core = sym S.registers_view; sb = sym S.stores_view; tlb = λ w. f w ∙ sym (ap (among w) S.walks_view); apic = A }

-- after a step of the local APIC's own words
pub passive : (b c : List ℕ) (a : Apic) → Kept Passive b c → SameApic a (apic_of c) → SameProcessor (with_apic (processor_of b) a) (processor_of c)
unfolding processor_of
passive b c a K A =
    let L : Alike b c = record { heads = λ i p q. K.same i (inl (omega arith)); records = λ i p. K.same i (inr (omega arith)) } in
    record {
      core = sym (registers_same b c K.long (λ j p. K.same j (inl (omega arith))));
      sb = sym (same_stores L);
      tlb = λ w. sym (ap (among w) (same_walks L));
      apic = A;
    }

-- ---- the I/O APIC

pub record SameIo (a b : IoApic) : Type 0 where
  pub IOREGSEL : a.IOREGSEL ≡ b.IOREGSEL
  pub IOWIN : a.IOWIN ≡ b.IOWIN
  pub redirect : (k : ℕ) → k < 24 → a.redirect k ≡ b.redirect k

pub io_refl : (a : IoApic) → SameIo a a
io_refl a = record { IOREGSEL = refl; IOWIN = refl; redirect = λ k h. refl }

pub redirect_at : (t : List ℕ) (k : ℕ) → k < 24 → (ioapic_of t).redirect k ≡ get_or t (at.redirect + k) 0
unfolding ioapic_of
redirect_at t k h = get_or-take 24 (drop at.redirect t) k 0 h ∙ get_or-drop at.redirect t k 0

-- words 4 to 29 as before
pub io_kept : (t u : List ℕ) → ((x : ℕ) → 4 ≤ x → x ≤ 29 → get_or u x 0 ≡ get_or t x 0) → SameIo (ioapic_of t) (ioapic_of u)
unfolding ioapic_of
io_kept t u f =
    record {
      IOREGSEL = sym (f 4 (omega arith) (omega arith));
      IOWIN = sym (f 5 (omega arith) (omega arith));
      redirect = λ k h. redirect_at t k h ∙ sym (f (6 + k) (omega arith) (omega arith)) ∙ sym (redirect_at u k h);
    }

pub io_then : {a b c : IoApic} → SameIo a b → SameIo b c → SameIo a c
io_then S T = record { IOREGSEL = S.IOREGSEL ∙ T.IOREGSEL; IOWIN = S.IOWIN ∙ T.IOWIN; redirect = λ k h. S.redirect k h ∙ T.redirect k h }

-- one entry
pub entry_same : (io : IoApic) (t : List ℕ) (i e : ℕ) → SameIo io (ioapic_of t) → 32 ≤ length t → i < 24 → SameIo (with_redirect io (upd io.redirect i e)) (ioapic_of (ioapic.with_entry t i e))
unfolding ioapic_of
entry_same io t i e S long h =
    record {
      IOREGSEL = S.IOREGSEL ∙ sym (get_or-set_other t (6 + i) 4 e 0 (omega arith));
      IOWIN = S.IOWIN ∙ sym (get_or-set_other t (6 + i) 5 e 0 (omega arith));
      redirect = λ k l.
          upd_case (λ (z : ℕ). z ≡ get_or (set t (6 + i) e) (6 + k) 0) io.redirect i k e
          (λ q. sym (ap (λ (j : ℕ). get_or (set t (6 + i) e) (6 + j) 0) q ∙ get_or-set_same t (6 + i) e 0 (omega arith)))
          (λ d. S.redirect k l ∙ redirect_at t k l ∙ sym (get_or-set_other t (6 + i) (6 + k) e 0 (λ q. d (omega arith))))
          ∙ sym (redirect_at (set t (6 + i) e) k l);
    }

-- 10.2: a word at a port
module _ (io : IoApic) (t : List ℕ) (v : ℕ) (S : SameIo io (ioapic_of t)) (long : 32 ≤ length t) where
  selects : v < 24 → SameIo (record { IOREGSEL = v; IOWIN = io.redirect v; redirect = io.redirect }) (ioapic_of (ioapic.selected t v))
  unfolding ioapic_of ioapic.selected
  selects h =
      let u : List ℕ = set t 4 v in
      let e : ℕ = get_or t (6 + v) 0 in
      record {
        IOREGSEL = sym (get_or-set_other u 5 4 e 0 (omega arith) ∙ get_or-set_same t 4 v 0 (omega arith));
        IOWIN = S.redirect v h ∙ redirect_at t v h ∙ sym (get_or-set_same u 5 e 0 (omega (arith, length-set t 4 v)));
        redirect = λ k l.
            S.redirect k l ∙ redirect_at t k l ∙ sym (get_or-set_other u 5 (6 + k) e 0 (omega arith) ∙ get_or-set_other t 4 (6 + k) v 0 (omega arith))
            ∙ sym (redirect_at (set u 5 e) k l);
      }

  windows : SameIo (record { IOREGSEL = io.IOREGSEL; IOWIN = v; redirect = upd io.redirect io.IOREGSEL v }) (ioapic_of (ioapic.windowed t v))
  unfolding ioapic_of ioapic.windowed
  windows = go (ltb (get_or t 4 0) 24) refl
    where
      go : (b : Bool) → ltb (get_or t 4 0) 24 ≡ b →
          SameIo (record { IOREGSEL = io.IOREGSEL; IOWIN = v; redirect = upd io.redirect io.IOREGSEL v }) (ioapic_of (set (if b then ioapic.with_entry t (get_or t 4 0) v else t) 5 v))
      go true e =
          let i : ℕ = 6 + get_or t 4 0 in
          let l = ltb-true (get_or t 4 0) 24 e in
          let u : List ℕ = set t i v in
          record {
            IOREGSEL = S.IOREGSEL ∙ sym (get_or-set_other u 5 4 v 0 (omega arith) ∙ get_or-set_other t i 4 v 0 (omega arith));
            IOWIN = sym (get_or-set_same u 5 v 0 (omega (arith, length-set t i v)));
            redirect = λ k h.
                upd_case (λ (z : ℕ). z ≡ get_or (set u 5 v) (6 + k) 0) io.redirect io.IOREGSEL k v
                (λ q. sym (get_or-set_other u 5 (6 + k) v 0 (omega arith) ∙ ap (λ (j : ℕ). get_or u (6 + j) 0) (q ∙ S.IOREGSEL) ∙ get_or-set_same t i v 0 (omega arith)))
                (λ d.
                S.redirect k h ∙ redirect_at t k h
                ∙ sym (get_or-set_other u 5 (6 + k) v 0 (omega arith) ∙ get_or-set_other t i (6 + k) v 0 (λ q. let r : k ≡ get_or t 4 0 = omega arith in d (r ∙ sym S.IOREGSEL))))
                ∙ sym (redirect_at (set u 5 v) k h);
          }
      go false e =
          let l = ltb-false (get_or t 4 0) 24 e in
          record {
            IOREGSEL = S.IOREGSEL ∙ sym (get_or-set_other t 5 4 v 0 (omega arith));
            IOWIN = sym (get_or-set_same t 5 v 0 (omega arith));
            redirect = λ k h.
                upd_case (λ (z : ℕ). z ≡ get_or (set t 5 v) (6 + k) 0) io.redirect io.IOREGSEL k v
                (λ q. let r : k ≡ get_or t 4 0 = q ∙ S.IOREGSEL in absurd (omega arith))
                (λ d. S.redirect k h ∙ redirect_at t k h ∙ sym (get_or-set_other t 5 (6 + k) v 0 (omega arith)))
                ∙ sym (redirect_at (set t 5 v) k h);
          }

  pub io_written_lem : (a : ℕ) → ioapic.writes a v ≡ true → SameIo (δioapic io (ΣIoApic.write a v)) (ioapic_of (ioapic.io_written t a v))
  unfolding δioapic ioapic.io_written
  io_written_lem a w = go (eqb a 0) refl
    where
      go : (b : Bool) → eqb a 0 ≡ b →
          SameIo (if b then record { IOREGSEL = v; IOWIN = io.redirect v; redirect = io.redirect } else record { IOREGSEL = io.IOREGSEL; IOWIN = v; redirect = upd io.redirect io.IOREGSEL v })
          (ioapic_of (if b then ioapic.selected t v else ioapic.windowed t v))
      go true e = selects (ltb-true v 24 (sym (or_false (ltb v 24)) ∙ subst (λ (x : ℕ). ioapic.writes x v ≡ true) (eqb-true a 0 e) w))
      go false e = windows

-- ---- a plan

-- what a plan does to the local APIC of its core
abbrev pub apic_core : CoreChange → Apic → Apic
apic_core CoreChange.Nothing a = a
apic_core (Interrupt x) a = δapic a ΣApic.jisr
apic_core Return a = δapic a ΣApic.rfe
apic_core (Execute i w R) a = a

abbrev pub apic_write : Write → Apic → Apic
apic_write Write.Nothing a = a
apic_write (Memory x d v) a = a
apic_write (LocalPort x v) a = δapic a (ΣApic.write x v)
apic_write (IoPort x v) a = a

-- a port that is written is a word's
abbrev pub PortWhole : Write → Type 0
PortWhole Write.Nothing = Unit {0}
PortWhole (Memory a d v) = Unit {0}
PortWhole (LocalPort a v) = a % 4 ≡ 0
PortWhole (IoPort a v) = Unit {0}

pub apic_then : {a b c : Apic} → SameApic a b → SameApic b c → SameApic a c
apic_then S T =
    record {
      ports = λ x h. S.ports x h ∙ T.ports x h;
      initrr = S.initrr ∙ T.initrr;
      sipirr = S.sipirr ∙ T.sipirr;
      sipivect = S.sipivect ∙ T.sipivect;
      eoipending = λ v h. S.eoipending v h ∙ T.eoipending v h;
    }

-- an operation on records
after_apic : {b c : List ℕ} {ss : List Store} {ws : List Walk} → After b c ss ws → SameApic (apic_of b) (apic_of c)
after_apic {b} {c} A = apic_kept b c (λ i p q. A.low i (omega arith) (omega arith) (omega arith) (omega arith))

module _ (n : ℕ) (b : List ℕ) (long : length b ≡ 256) (e : sound_block n b ≡ true) where
  registers_apic : (r : Registers) → Full r → SameApic (apic_of b) (apic_of (with_registers b r))
  registers_apic r f = apic_kept b (with_registers b r) (λ i p q. put_above b r long f.0 f.1 i (omega arith))

  core_apic : (c : CoreChange) → SameApic (apic_core c (apic_of b)) (apic_of (core_after c b))
  unfolding core_after
  core_apic CoreChange.Nothing = apic_refl (apic_of b)
  core_apic (Interrupt x) =
      let r : Registers = delta_jisr (registers_of b) x.word x.read x.causes x.vector in
      let f : Full r = jisr_full (registers_of b) x.word x.read x.causes x.vector (registers_size b long) in
      jisr_same (apic_of b) (with_registers b r) (registers_apic r f) (put_long b r long f.0 f.1)
  core_apic Return =
      let r : Registers = delta_rfe (registers_of b) in
      let f : Full r = rfe_full (registers_of b) (registers_size b long) in
      rfe_same (apic_of b) (with_registers b r) (registers_apic r f) (put_long b r long f.0 f.1)
  core_apic (Execute i w R) = registers_apic (effect i (registers_of b) w R) (effect_full i (registers_of b) w R (registers_size b long))

  buffer_apic : (c : BufferChange) → buffer_ready c b ≡ true → SameApic (apic_of b) (apic_of (buffer_after c b))
  unfolding buffer_after buffer_ready
  buffer_apic BufferChange.Nothing r = apic_refl (apic_of b)
  buffer_apic (Put s) r = after_apic (put_after n b e long s (ltb-true (length (stores b)) 8 r))
  buffer_apic Take r = after_apic (take_after n b e long (ltb-true 0 (length (stores b)) r))

  walks_apic : (c : WalkChange) → walks_ready c b ≡ true → SameApic (apic_of b) (apic_of (walks_after c b))
  unfolding walks_after walks_ready
  walks_apic WalkChange.Nothing r = apic_refl (apic_of b)
  walks_apic (Add w) r = after_apic (add_after n b e long w (λ q. ltb-true (length (walks b)) 23 (or_other (among w (walks b)) _ r q)))
  walks_apic (Drop f) r = after_apic (drop_after n b e long f)

write_apic : (a : Apic) (b : List ℕ) (x : Write) → SameApic a (apic_of b) → length b ≡ 256 → port_ready x ≡ true → PortWhole x → SameApic (apic_write x a) (apic_of (port_after x b))
unfolding port_after port_ready
write_apic a b Write.Nothing S l r w = S
write_apic a b (Memory y d v) S l r w = S
write_apic a b (LocalPort y v) S l r w = written_same a b S l y v (ltb-true y 128 r) w
write_apic a b (IoPort y v) S l r w = S

module _ (n : ℕ) (p : Plan) (b : List ℕ) (long : length b ≡ 256) (e : sound_block n b ≡ true) (r : ready p b ≡ true) (s : plan_sound n p ≡ true) (w : PortWhole p.write) where
  -- the plan up to a part
  up_to : BufferChange → WalkChange → Plan
  up_to x y = record { answer = p.answer; core = p.core; buffer = x; walks = y; write = Write.Nothing }

  asks : (buffer_ready p.buffer b ≡ true) × (walks_ready p.walks b ≡ true) × (port_ready p.write ≡ true)
  unfolding ready
  asks =
      let q = and_right (buffer_ready p.buffer b) _ r in
      (and_left (buffer_ready p.buffer b) _ r, and_left (walks_ready p.walks b) _ q, and_right (walks_ready p.walks b) _ q)

  brings : (store_brought n p.buffer ≡ true) × (walk_brought p.walks ≡ true)
  unfolding plan_sound
  brings = (and_left (store_brought n p.buffer) _ s, and_right (store_brought n p.buffer) _ s)

  up_to_lem : (x : BufferChange) (y : WalkChange) → buffer_ready x b ≡ true → walks_ready y b ≡ true → store_brought n x ≡ true → walk_brought y ≡ true →
      Shows n b (block_after (up_to x y) b) (registers_after p.core (registers_of b)) (stores_after x (stores b)) (tlb_after y (walks b))
  unfolding up_to ready plan_sound port_ready
  up_to_lem x y f g k l =
      plan_shows n (up_to x y) b long e (and_both (buffer_ready x b) _ f (and_both (walks_ready y b) _ g refl)) (and_both (store_brought n x) _ k l)

  pub plan_apic : SameApic (apic_write p.write (apic_core p.core (apic_of b))) (apic_of (block_after p b))
  unfolding block_after up_to port_after buffer_after walks_after buffer_ready walks_ready
  plan_apic =
      let C = up_to_lem BufferChange.Nothing WalkChange.Nothing refl refl refl refl in
      let B = up_to_lem p.buffer WalkChange.Nothing asks.0 refl brings.0 refl in
      let W = up_to_lem p.buffer p.walks asks.0 asks.1 brings.0 brings.1 in
      let b₁ : List ℕ = core_after p.core b in
      let b₂ : List ℕ = buffer_after p.buffer b₁ in
      write_apic (apic_core p.core (apic_of b)) (walks_after p.walks b₂) p.write
      (apic_then (core_apic n b long e p.core)
      (apic_then (buffer_apic n b₁ C.long C.sound p.buffer (buffer_asks p.buffer b₁ b C.stores_view ∙ asks.0))
      (walks_apic n b₂ B.long B.sound p.walks (walks_ask p.walks b₂ b B.walks_view ∙ asks.1))))
      W.long asks.2 w

  -- the processor after it, with the TLB as a set
  pub plan_processor : (tlb : Walk → Bool) → ((v : Walk) → tlb v ≡ among v (tlb_after p.walks (walks b))) →
      SameProcessor
      (record { core = registers_after p.core (registers_of b); sb = stores_after p.buffer (stores b); tlb = tlb; apic = apic_write p.write (apic_core p.core (apic_of b)) })
      (processor_of (block_after p b))
  plan_processor tlb f = shown (plan_shows n p b long e r s) tlb f (apic_write p.write (apic_core p.core (apic_of b))) plan_apic

-- the configuration after a plan of core k: another processor, memory and I/O APIC
module _ (t m : List ℕ) (k : ℕ) (p : Plan) (e : sound t (length m) ≡ true) (h : k < cores_of t) (D : PlanMayBeDone (length m) (block t k) p) where
  abbrev u : List ℕ
  u = tables_by_plan k p t

  abbrev b : List ℕ
  b = block t k

  fits : 32 + 256 * k + 256 ≤ length t
  fits = core_fits t (length m) e k h

  long : length (block_after p b) ≡ 256
  long = plan_long t m k p e h D

  shows : Shows (length m) b (block_after p b) (registers_after p.core (registers_of b)) (stores_after p.buffer (stores b)) (tlb_after p.walks (walks b))
  shows = plan_shows (length m) p b (core_long t (length m) e k h) (core_sound t (length m) e k h) D.is_ready D.is_sound

  pub io_still : is_io p.write ≡ false → SameIo (ioapic_of t) (ioapic_of u)
  unfolding tables_by_plan
  io_still q =
      io_kept t u (λ x l g. ap (λ (s : List ℕ). get_or s x 0) (header_still p.write (with_block t k (block_after p b)) q) ∙ with_header t k (block_after p b) fits long x (omega arith))

  pub io_moved : (a v : ℕ) → p.write ≡ IoPort a v → ioapic.writes a v ≡ true → SameIo (δioapic (ioapic_of t) (ΣIoApic.write a v)) (ioapic_of u)
  unfolding tables_by_plan header_after
  io_moved a v q w =
      let s : List ℕ = with_block t k (block_after p b) in
      subst (λ (x : Write). SameIo (δioapic (ioapic_of t) (ΣIoApic.write a v)) (ioapic_of (header_after x s))) (sym q)
      (io_written_lem (ioapic_of t) s v (io_kept t s (λ x l g. with_header t k (block_after p b) fits long x (omega arith))) (omega (arith, fits, with_long t k (block_after p b) fits long)) a w)

  module _ (M : ℕ → ℕ) (P : Processor) (f : ℕ → ℕ) (io : IoApic) where
    abbrev pub moved : Configuration
    moved = record { np = cores_of t; p = upd (λ j. processor_of (block t j)) k P; running = λ j. eqb (running_of (block t j)) 1; m = f; irq = is_set (lines_of t); ioapic = io }

    pub plan_same : SameProcessor P (processor_of (block_after p b)) → ((x : ℕ) → x < 2 ^ 32 → f x ≡ memory_of (memory_by_plan p m) M x) → SameIo io (ioapic_of u) →
        Same moved (view u (memory_by_plan p m) M)
    unfolding view
    plan_same S F I =
        record {
          np = sym (tables_local k p t fits long 0 (inl (omega arith)) (inl (omega arith)));
          p = λ j l.
              upd_case (λ (x : Processor). SameProcessor x (processor_of (block u j))) (λ i. processor_of (block t i)) k j P
              (λ q. subst (λ (i : ℕ). SameProcessor P (processor_of (block u i))) (sym q) (subst (λ (c : List ℕ). SameProcessor P (processor_of c)) (sym (tables_own k p t fits long)) S))
              (λ d. processor_of_lem (sym (tables_other k p t fits long j d (core_fits t (length m) e j l))));
          running = λ j l. runs j l (eqb j k) refl;
          m = F;
          irq = λ j l. ap (λ (w : ℕ). is_set w j) (sym (tables_local k p t fits long 3 (inl (omega arith)) (inl (omega arith))));
          IOREGSEL = I.IOREGSEL;
          IOWIN = I.IOWIN;
          redirect = I.redirect;
        }
      where
        runs : (j : ℕ) → j < cores_of t → (c : Bool) → eqb j k ≡ c → eqb (running_of (block t j)) 1 ≡ eqb (running_of (block u j)) 1
        runs j l true q =
            let i = eqb-true j k q in
            subst (λ (i : ℕ). eqb (running_of (block t i)) 1 ≡ eqb (running_of (block u i)) 1) (sym i)
            (ap (λ (x : ℕ). eqb x 1) (sym (ap running_of (tables_own k p t fits long) ∙ shows.still at.running (inl refl))))
        runs j l false q = ap (λ (c : List ℕ). eqb (running_of c) 1) (sym (tables_other k p t fits long j (eqb-false j k q) (core_fits t (length m) e j l)))

  -- a plan that leaves the processor
  pub plan_memory_same : (M : ℕ → ℕ) (f : ℕ → ℕ) → SameProcessor (processor_of b) (processor_of (block_after p b)) → is_io p.write ≡ false →
      ((x : ℕ) → x < 2 ^ 32 → f x ≡ memory_of (memory_by_plan p m) M x) → Same (with_m (view t m M) f) (view u (memory_by_plan p m) M)
  unfolding view
  plan_memory_same M f S q F =
      let T = plan_same M (processor_of b) f (ioapic_of t) S F (io_still q) in
      record {
        np = T.np;
        p = λ j l. subst (λ (x : Processor). SameProcessor x (processor_of (block u j))) (upd_own (λ i. processor_of (block t i)) k j) (T.p j l);
        running = T.running;
        m = T.m;
        irq = T.irq;
        IOREGSEL = T.IOREGSEL;
        IOWIN = T.IOWIN;
        redirect = T.redirect;
      }

-- ---- another block for core k

module _ (t m : List ℕ) (e : sound t (length m) ≡ true) (k : ℕ) (h : k < cores_of t) (c : List ℕ) (long : length c ≡ 256) where
  abbrev v : List ℕ
  v = with_block t k c

  has : 32 + 256 * k + 256 ≤ length t
  has = core_fits t (length m) e k h

  pub block_same : (M : ℕ → ℕ) (P : Processor) (r : Bool) → SameProcessor P (processor_of c) → r ≡ eqb (running_of c) 1 →
      Same
      (record {
        np = cores_of t;
        p = upd (λ j. processor_of (block t j)) k P;
        running = upd (λ j. eqb (running_of (block t j)) 1) k r;
        m = memory_of m M;
        irq = is_set (lines_of t);
        ioapic = ioapic_of t;
      })
      (view v m M)
  unfolding view
  block_same M P r S R =
      let I = io_kept t v (λ x l g. with_header t k c has long x (omega arith)) in
      record {
        np = sym (with_header t k c has long 0 (omega arith));
        p = λ j l.
            upd_case (λ (x : Processor). SameProcessor x (processor_of (block v j))) (λ i. processor_of (block t i)) k j P
            (λ q. subst (λ (i : ℕ). SameProcessor P (processor_of (block v i))) (sym q) (subst (λ (d : List ℕ). SameProcessor P (processor_of d)) (sym (with_block_lem t k c has long)) S))
            (λ d. processor_of_lem (sym (with_other t k c has long j d (core_fits t (length m) e j l))));
        running = λ j l.
            upd_case (λ (x : Bool). x ≡ eqb (running_of (block v j)) 1) (λ i. eqb (running_of (block t i)) 1) k j r
            (λ q. R ∙ sym (ap (λ (i : ℕ). eqb (running_of (block v i)) 1) q ∙ ap (λ (d : List ℕ). eqb (running_of d) 1) (with_block_lem t k c has long)))
            (λ d. ap (λ (b : List ℕ). eqb (running_of b) 1) (sym (with_other t k c has long j d (core_fits t (length m) e j l))));
        m = λ x l. refl;
        irq = λ j l. ap (λ (w : ℕ). is_set w j) (sym (with_header t k c has long 3 (omega arith)));
        IOREGSEL = I.IOREGSEL;
        IOWIN = I.IOWIN;
        redirect = I.redirect;
      }

-- ---- other tables u, by blocks and header

pub tables_same : (t u m : List ℕ) (M : ℕ → ℕ) (P : ℕ → Processor) (irq : ℕ → Bool) (io : IoApic) → cores_of u ≡ cores_of t →
    ((j : ℕ) → j < cores_of t → SameProcessor (P j) (processor_of (block u j))) → ((j : ℕ) → j < cores_of t → running_of (block u j) ≡ running_of (block t j)) →
    ((j : ℕ) → j < 24 → irq j ≡ is_set (lines_of u) j) → SameIo io (ioapic_of u) →
    Same (record { np = cores_of t; p = P; running = λ j. eqb (running_of (block t j)) 1; m = memory_of m M; irq = irq; ioapic = io }) (view u m M)
unfolding view
tables_same t u m M P irq io c S R L I =
    record {
      np = sym c;
      p = S;
      running = λ j l. ap (λ (n : ℕ). eqb n 1) (sym (R j l));
      m = λ x l. refl;
      irq = L;
      IOREGSEL = I.IOREGSEL;
      IOWIN = I.IOWIN;
      redirect = I.redirect;
    }
