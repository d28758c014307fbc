-- Demand 2 for the step of the store buffer.
-- Assumes nothing.
use Rattle.std.specs.Prelude.{if◌then◌else◌, Option, Some, Result, Err}
use Rattle.refusals.specs.declared.Refusal.{Refusal}
use Rattle.refusals.specs.declared.Refusal.TheVariants.{NoNextState}
use mathlib.Core.Path.{◌≡◌, refl, sym, ◌∙◌, ap, ap₂, subst}
use mathlib.Core.Logic.{⊎_elim}
use mathlib.Core.Bool.{Bool, true, false, not, ◌&&◌, ◌||◌}
use mathlib.Core.List.{List, [], ◌∷◌}
use Prim.Native.Nat.{ℕ, suc, ◌+◌, ◌%◌, ◌^◌, ◌<◌, ◌≤◌}
use lib.Dec.{eqb, ltb, leb}
use lib.ListN.{length, drop}
use native.Mathlib.Omega.{arith}
use borrow.Author.Tests.{ltb-true, lt-ltb, le-ltb, leb-true, leb-false, le-leb, eqb-true}
use Rattle.word.specs.Word.{is_set}
use Rattle.word.proofs.Tests.{true_false}
use Rattle.word.proofs.Truth.{and_left}
use Rattle.layout.specs.Blocks.{block}
use Rattle.records.specs.declared.Store.{Store}
use Rattle.records.specs.Records.{all, stores, walks, among}
use Rattle.records.specs.Contents.{local_port, io_port, there, all_there, store_sound}
use Rattle.records.proofs.Facts.{StoreFacts, store_facts}
use Rattle.tables.specs.Views.{cores_of, lines_of, running_of, registers_of}
use Rattle.tables.specs.Sound.{sound}
use Rattle.tables.proofs.Lift.{core_long, core_sound}
use Rattle.tables.proofs.Steps.{block_stores}
use Rattle.store_buffer.specs.declared.Place.TheVariants as to
use Rattle.store_buffer.specs.Leaving.{oldest, word_only, place_of}
use Rattle.store_buffer.specs.System.{apicadr, ioapicadr}
use Rattle.ioapic.specs.IoApic.{writes}
use Rattle.steps.specs.declared.Step.{Step}
use Rattle.steps.specs.declared.Step.TheVariants.{ByProcessor}
use Rattle.steps.specs.declared.ProcessorStep.TheVariants.{StoreBuffer}
use Rattle.cores.specs.declared.BufferChange.TheVariants.{Take}
use Rattle.cores.specs.declared.WalkChange.{WalkChange}
use Rattle.cores.specs.declared.Write.{Write}
use Rattle.cores.specs.declared.Write.TheVariants.{Memory, LocalPort, IoPort}
use Rattle.cores.specs.declared.Plan.{Plan}
use Rattle.cores.specs.Plans.{done}
use Rattle.cores.specs.BufferStep.{leaves_to, on_oldest}
use Rattle.cores.specs.Commit.{written_to}
use Rattle.cores.proofs.Decisions.{PlanMayBeDone, MayBeDone, drain_plan}
use Rattle.machine.specs.Actions.{Planned, tables_after, memory_after}
use Rattle.machine.specs.Decide.{by_processor, by_plan, by_step}
use Rattle.machine.proofs.Fitting.{quarters}
use Rattle.report.specs.Configuration.{IoApic, Configuration, upd}
use Rattle.report.specs.Components.{inside, ΣM, δm, ΣApic, δapic, ΣIoApic, δioapic}
use Rattle.report.specs.Delta as report
use Rattle.report.specs.View.{apic_of, processor_of, ioapic_of, memory_of, view, Same}
use Rattle.report.specs.Needs.{no_place, misses}
use Rattle.report.proofs.Memory.{inside_from, all_there_at, put_memory}
use Rattle.report.proofs.Cases.{δx, Has, adds_none, Case, is_a_step}
use Rattle.report.proofs.Frames.{SameIo, PortWhole, apic_write, io_still, io_moved, plan_processor, plan_same}

-- ---- where a sound store goes

-- a local port is none of the I/O APIC's
one_port : (a : ℕ) → local_port a ≡ true → io_port a ≡ false
one_port a e = let l = leb-true 0xFFFF_F000 a (and_left (leb 0xFFFF_F000 a) _ e) in rw (le-leb 0xFFFF_E000 a (omega arith), le-ltb a 0xFFFF_E008 (omega arith))

-- one whose first byte is no port is in memory, whose bytes are whole words
in_memory : (n : ℕ) (s : Store) → n % 4 ≡ 0 → StoreFacts n s → local_port s.address ≡ false → io_port s.address ≡ false → s.address + s.width ≤ n
in_memory n s q S l i =
    by_width (λ w. s.address % w ≡ 0 → all_there w n s.address ≡ true → s.address + w ≤ n)
    (λ m a. let h = first 0 a in omega arith) (λ m a. let h = first 1 a in omega arith) (λ m a. let h = first 3 a in omega arith)
    S.aligned S.inside
  where
    by_width : (P : ℕ → Type 0) → P 1 → P 2 → P 4 → P s.width
    by_width P x y z = ⊎_elim (λ f. subst P (sym f) x) (⊎_elim (λ f. subst P (sym f) y) (λ f. subst P (sym f) z)) S.wide

    first : (d : ℕ) → all_there (suc d) n s.address ≡ true → s.address < n
    first d a = ltb-true s.address n (go (ltb s.address n) (and_left (there n s.address) _ a))
      where
        go : (b : Bool) → (b || (io_port s.address || local_port s.address)) ≡ true → b ≡ true
        go true e = refl
        go false e = absurd (true_false (sym e ∙ ap₂ (λ (x y : Bool). x || y) i l))

-- ---- the oldest store s

module _ (t m : List ℕ) (e : sound t (length m) ≡ true) (k : ℕ) (h : k < cores_of t) (s : Store) (sb : List Store) (q : stores (block t k) ≡ s ∷ sb) (S : StoreFacts (length m) s) where
  abbrev b : List ℕ
  b = block t k

  abbrev n : ℕ
  n = length m

  abbrev a : ℕ
  a = s.address

  abbrev x : Option Step
  x = Some (ByProcessor k StoreBuffer)

  has : Has t m x
  unfolding misses view processor_of
  has M y = rw q (go (inside y a s.width) refl)
    where
      go : (i : Bool) → inside y a s.width ≡ i → no_place n i y ≡ false
      go true p = ap not (all_there_at s.width n a y S.inside (inside_from y a s.width p).0 (inside_from y a s.width p).1)
      go false p = refl

  -- the configuration without it, by where it goes
  abbrev left : (ℕ → ℕ) → Bool → Bool → Configuration
  left M l i =
      record {
        np = cores_of t;
        p = upd (λ j. processor_of (block t j)) k (record { core = registers_of b; sb = sb; tlb = λ w. among w (walks b); apic = if l then δapic (apic_of b) (ΣApic.write (apicadr a) s.value) else apic_of b });
        running = λ j. eqb (running_of (block t j)) 1;
        m = if l || i then memory_of m M else δm (memory_of m M) (ΣM.write s);
        irq = is_set (lines_of t);
        ioapic = if i then δioapic (ioapic_of t) (ΣIoApic.write (ioapicadr a) s.value) else ioapic_of t;
      }

  outcome : (M : ℕ → ℕ) (l i z y : Bool) → local_port a ≡ l → io_port a ≡ i → eqb s.width 4 ≡ z → writes (ioapicadr a) s.value ≡ y →
      δx t m x M ≡ (if (not (l || i) || z) && (not i || y) then report.next (left M l i) report.done else report.none)
  unfolding report.δBy report.sb_step report.leaves view processor_of
  outcome M l i z y p r f g = rw (lt-ltb k (cores_of t) h, q, p, r, f, g)

  -- the plan for the write w
  abbrev plan : Write → Plan
  plan w = done Take WalkChange.Nothing w

  leads : (w : Write) (D : PlanMayBeDone n b (plan w)) → PortWhole w → (M f : ℕ → ℕ) (io : IoApic) → ((y : ℕ) → y < 2 ^ 32 → f y ≡ memory_of (written_to w m) M y) →
      SameIo io (ioapic_of (tables_after (Planned k (plan w)) t)) →
      Same
      (record {
        np = cores_of t;
        p = upd (λ j. processor_of (block t j)) k (record { core = registers_of b; sb = sb; tlb = λ v. among v (walks b); apic = apic_write w (apic_of b) });
        running = λ j. eqb (running_of (block t j)) 1;
        m = f;
        irq = is_set (lines_of t);
        ioapic = io;
      })
      (view (tables_after (Planned k (plan w)) t) (memory_after (Planned k (plan w)) m) M)
  unfolding tables_after memory_after
  leads w D o M f io F I =
      let P = plan_processor n (plan w) b (core_long t n e k h) (core_sound t n e k h) D.is_ready D.is_sound o (λ v. among v (walks b)) (λ v. refl) in
      plan_same t m k (plan w) e h D M (record { core = registers_of b; sb = sb; tlb = λ v. among v (walks b); apic = apic_write w (apic_of b) }) f io
      (record { core = P.core; sb = sym (ap (drop 1) q) ∙ P.sb; tlb = P.tlb; apic = P.apic }) F I

  -- where it may not go
  stays : (l i z y : Bool) → local_port a ≡ l → io_port a ≡ i → eqb s.width 4 ≡ z → writes (ioapicadr a) s.value ≡ y → ((not (l || i) || z) && (not i || y)) ≡ false →
      Case t m x (by_plan k (Err NoNextState))
  stays l i z y p r f g u =
      Case.undefined refl (is_a_step x refl) (λ M. outcome M l i z y p r f g ∙ ap (λ (c : Bool). if c then report.next (left M l i) report.done else report.none) u)

  abbrev y : Bool
  y = writes (ioapicadr a) s.value

  word : eqb s.width 4 ≡ true → a % 4 ≡ 0
  word f = subst (λ (d : ℕ). a % d ≡ 0) (eqb-true s.width 4 f) S.aligned

  to_local : local_port a ≡ true → (z : Bool) → eqb s.width 4 ≡ z → MayBeDone n b (leaves_to s (if z then to.LocalPort (apicadr a) else to.Narrow)) →
      Case t m x (by_plan k (leaves_to s (if z then to.LocalPort (apicadr a) else to.Narrow)))
  unfolding leaves_to written_to tables_after
  to_local p true f D =
      let w : Write = LocalPort (apicadr a) s.value in
      Case.done refl (adds_none t m _ refl) has
      (λ M.
      record {
        to = left M true false;
        is_next = outcome M true false true y p (one_port a p) f refl;
        agrees = leads w D (omega (arith, word f)) M (memory_of m M) (ioapic_of t) (λ y o. refl) (io_still t m k (plan w) e h D refl);
      })
  to_local p false f D = stays true false false y p (one_port a p) f refl refl

  to_io : local_port a ≡ false → io_port a ≡ true → (z c : Bool) → eqb s.width 4 ≡ z → y ≡ c → MayBeDone n b (leaves_to s (if z then to.IoPort (ioapicadr a) else to.Narrow)) →
      Case t m x (by_plan k (leaves_to s (if z then to.IoPort (ioapicadr a) else to.Narrow)))
  unfolding leaves_to written_to tables_after
  to_io p r true true f g =
      let w : Write = IoPort (ioapicadr a) s.value in
      rw g
      (λ D. Case.done refl (adds_none t m _ refl) has
      (λ M.
      record {
        to = left M false true;
        is_next = outcome M false true true true p r f g;
        agrees = leads w D tt M (memory_of m M) (δioapic (ioapic_of t) (ΣIoApic.write (ioapicadr a) s.value)) (λ y o. refl) (io_moved t m k (plan w) e h D (ioapicadr a) s.value refl g);
      }))
  to_io p r true false f g = rw g (λ D. stays false true true false p r f g refl)
  to_io p r false c f g = λ D. stays false true false c p r f g refl

  to_memory : local_port a ≡ false → io_port a ≡ false → (c : Bool) → leb (a + s.width) n ≡ c → MayBeDone n b (leaves_to s (if c then to.Memory else to.Beyond)) →
      Case t m x (by_plan k (leaves_to s (if c then to.Memory else to.Beyond)))
  unfolding leaves_to written_to tables_after δm
  to_memory p r true f D =
      let w : Write = Memory a s.width s.value in
      Case.done refl (adds_none t m _ refl) has
      (λ M.
      record {
        to = left M false false;
        is_next = outcome M false false (eqb s.width 4) y p r refl refl;
        agrees = leads w D tt M (δm (memory_of m M) (ΣM.write s)) (ioapic_of t) (λ z o. sym (put_memory s.width m M a s.value z (leb-true (a + s.width) n f))) (io_still t m k (plan w) e h D refl);
      })
  to_memory p r false f D = absurd (omega (arith, leb-false (a + s.width) n f, in_memory n s (quarters t n e) S p r))

  leaves : MayBeDone n b (leaves_to s (place_of n s)) → Case t m x (by_plan k (leaves_to s (place_of n s)))
  unfolding place_of
  leaves = go (local_port a) (io_port a) refl refl
    where
      by : Bool → Bool → Result Plan Refusal
      by l i = leaves_to s (if l then word_only s (to.LocalPort (apicadr a)) else if i then word_only s (to.IoPort (ioapicadr a)) else if leb (a + s.width) n then to.Memory else to.Beyond)

      go : (l i : Bool) → local_port a ≡ l → io_port a ≡ i → MayBeDone n b (by l i) → Case t m x (by_plan k (by l i))
      go true i p r = to_local p (eqb s.width 4) refl
      go false true p r = to_io p r (eqb s.width 4) y refl refl
      go false false p r = to_memory p r (leb (a + s.width) n) refl

module _ (t m : List ℕ) (e : sound t (length m) ≡ true) (k : ℕ) (h : k < cores_of t) where
  pub buffer_case : Case t m (Some (ByProcessor k StoreBuffer)) (by_step t m (Some (ByProcessor k StoreBuffer)))
  unfolding by_step by_processor on_oldest all report.δBy report.sb_step view processor_of
  buffer_case = go (stores (block t k)) refl (block_stores (length m) (block t k) (core_sound t (length m) e k h)) (drain_plan (length m) (block t k) (core_sound t (length m) e k h))
    where
      go : (l : List Store) → stores (block t k) ≡ l → all (store_sound (length m)) l ≡ true → MayBeDone (length m) (block t k) (on_oldest (length m) (oldest l)) →
          Case t m (Some (ByProcessor k StoreBuffer)) (by_plan k (on_oldest (length m) (oldest l)))
      go [] q a D = Case.undefined refl (is_a_step _ refl) (λ M. rw (lt-ltb k (cores_of t) h, q))
      go (s ∷ sb) q a D = leaves t m e k h s sb q (store_facts (length m) s (and_left (store_sound (length m) s) _ a)) D
