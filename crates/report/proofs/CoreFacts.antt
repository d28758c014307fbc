-- What the report's core step consults, on the configuration of tables and memory: whatever is beyond memory, as the
-- machine finds it.
-- Assumes nothing.
use Rattle.std.specs.Prelude.{if◌then◌else◌, Option, Some, None}
use mathlib.Core.Path.{◌≡◌, refl, sym, ◌∙◌, ap}
use mathlib.Core.Bool.{Bool, true, false, not, ◌&&◌, ◌||◌}
use mathlib.Core.List.{List}
use Prim.Native.Nat.{ℕ, zero, suc, ◌+◌, ◌%◌, ◌<◌, ◌≤◌}
use lib.Dec.{eqb}
use lib.ListN.{length}
use borrow.Author.Tests.{lt-ltb}
use Rattle.word.proofs.Tests.{true_false, and_false}
use Rattle.layout.specs.Blocks.{block}
use Rattle.decode.specs.declared.Instruction.{Instruction}
use Rattle.decode.specs.Table.{decoded}
use Rattle.decode.specs.Mnemonics.{load, store, cas}
use Rattle.isa.specs.Core.{ea}
use Rattle.isa.specs.Interrupts.{ovf_of, user, events_as, events_without, causes_of, jisr, il, continues}
use Rattle.records.specs.declared.Walk.{Walk}
use Rattle.tlb.specs.declared.Request.{Request}
use Rattle.tlb.specs.declared.Faulting.{Faulting}
use Rattle.tlb.specs.declared.Faulting.TheVariants.{Faults, Passes, Undecided}
use Rattle.tlb.specs.Walks as tlb
use Rattle.tables.specs.Views.{cores_of}
use Rattle.vector_register.specs.Vectors as vectors
use Rattle.apic.specs.LocalApic as local
use Rattle.vector_register.specs.Vectors.{some_up_to}
use Rattle.apic.specs.LocalApic.{event}
use Rattle.steps.specs.declared.Step.TheVariants.{ByProcessor}
use Rattle.steps.specs.declared.ProcessorStep.TheVariants.{Core}
use Rattle.cores.specs.Core.{View, view_of, is_event, vector_of, causes, causes_without, suppressed, physical, is_access, data_request_of, fetch_request_of}
use Rattle.report.specs.Configuration.{Configuration}
use Rattle.report.specs.Components.{bytes, fault, bit_at, isr, irr, eev, min, is_found, found}
use Rattle.report.specs.Delta as report
use Rattle.report.specs.View.{view, processor_of, apic_of, memory_of}
use Rattle.report.proofs.Apics.{register_bit, least_same}
use Rattle.report.proofs.CoreGuards.{off}
use Rattle.report.proofs.Memory.{nothing, consulted, Judges, judges}

-- ---- whether it faults, where a walk is consulted if u

module _ (m : List ℕ) (whole : length m % 4 ≡ 0) (u : Bool) (trq : Request) (w : Walk) where
  pub data Decides : Faulting → Type 0 where
    passes : ((M : ℕ → ℕ) → (u && fault (memory_of m M) trq w) ≡ false) → ((u && consulted trq w) ≡ true → tlb.ptea w + 4 ≤ length m) → Decides Passes
    faults : u ≡ true → ((M : ℕ → ℕ) → (u && fault (memory_of m M) trq w) ≡ true) → tlb.ptea w + 4 ≤ length m → Decides Faults
    undecided : u ≡ true → (u && fault (memory_of m nothing) trq w) ≡ true → consulted trq w ≡ true → length m ≤ tlb.ptea w → Decides Undecided

pub decides : (m : List ℕ) (whole : length m % 4 ≡ 0) (u : Bool) (trq : Request) (w : Walk) → Decides m whole u trq w (if u then tlb.fault m trq w else Passes)
decides m whole false trq w = Decides.passes (λ M. refl) (λ e. absurd (true_false (sym e)))
decides m whole true trq w = go (tlb.fault m trq w) (judges m whole trq w)
  where
    go : (f : Faulting) → Judges m whole trq w f → Decides m whole true trq w f
    go Passes (Judges.passes p q) = Decides.passes p q
    go Faults (Judges.faults p q r) = Decides.faults refl p r
    go Undecided (Judges.undecided p q r) = Decides.undecided refl p q r

-- ---- small laws

pub accessing : (s l k : Bool) → (s || l || k) ≡ (l || (s || k))
accessing true true k = refl
accessing true false k = refl
accessing false true k = refl
accessing false false k = refl

doing : (p j k : Bool) → (p && (not j || k)) ≡ (p && not (j && not k))
doing true true true = refl
doing true true false = refl
doing true false k = refl
doing false j k = refl

-- ---- the external event

some_same : (f g : ℕ → ℕ) → ((k : ℕ) → f k ≡ g k) → (j : ℕ) → some_up_to f j ≡ some_up_to g j
unfolding some_up_to
some_same f g e zero = ap (λ (n : ℕ). eqb n 1) (e 0)
some_same f g e (suc j) = ap (λ (n : ℕ). eqb n 1 || some_up_to f j) (e (suc j)) ∙ ap (λ (t : Bool). eqb (g (suc j)) 1 || t) (some_same f g e j)

event_same : (b : List ℕ) → min (eev (apic_of b)) ≡ event b
unfolding event
event_same b =
    least_same (eev (apic_of b)) (λ j. local.eev b j) 256 0
    (λ j h.
    ap (λ (t : Bool). if t then 0 else bit_at irr (apic_of b) j) (some_same (bit_at isr (apic_of b)) _ (λ k. register_bit b isr k refl) j)
    ∙ ap (λ (n : ℕ). if some_up_to (λ (k : ℕ). vectors.bit_at b local.isr k) j then 0 else n) (register_bit b irr j refl))

-- whether there is one, and which
event_is : (b : List ℕ) → is_found (min (eev (apic_of b))) ≡ is_event (event b)
event_is b = ap is_found (event_same b) ∙ go (event b)
  where
    go : (f : Option ℕ) → is_found f ≡ is_event f
    go None = refl
    go (Some k) = refl

pub vector_is : (b : List ℕ) → found (min (eev (apic_of b))) ≡ vector_of (event b)
vector_is b = ap found (event_same b) ∙ go (event b)
  where
    go : (f : Option ℕ) → found f ≡ vector_of f
    go None = refl
    go (Some k) = refl

-- ---- the report's names

module _ (t m : List ℕ) (i : ℕ) (w_i w_r : Walk) where
  abbrev pub b : List ℕ
  b = block t i

  abbrev pub v : View
  v = view_of b

  abbrev pub u : Bool
  u = user v.core

  abbrev pub al : Bool
  al = eqb (v.core.pc % 4) 0

  abbrev pub pma_i : ℕ
  pma_i = physical v w_i v.core.pc

  -- as fetched with M beyond memory
  module _ (M : ℕ → ℕ) where
    abbrev pub c : Configuration
    c = view t m M

    pub pff_is : report.pff c i w_i w_r ≡ ((u && al) && fault (memory_of m M) (fetch_request_of v.core) w_i)
    unfolding report.pff view processor_of
    pff_is = refl

    pub pma_is : report.pma_i c i w_i w_r ≡ pma_i
    unfolding report.pma_i view processor_of
    pma_is = refl

    pub word_is : report.I c i w_i w_r ≡ bytes 4 (memory_of m M) pma_i
    unfolding report.I report.pma_i view processor_of
    word_is = refl

    pub δ_is : i < cores_of t → report.δBy ovf_of c (Some (ByProcessor i (Core w_i w_r))) ≡ report.core_step c i w_i w_r ovf_of
    unfolding report.δBy view
    δ_is h = rw (lt-ltb i (cores_of t) h)

    -- the masked causes, where f says that there is an instruction n
    mca_at : Bool → ℕ → Bool → Bool → Bool → Bool → ℕ
    mca_at f n io a p q = causes_of v.core (if f then events_as (decoded n) v.core n io p else events_without io (not a) q)

    mca_at_lem : report.mca c i w_i w_r ovf_of ≡ mca_at (report.fetched c i w_i w_r) (report.I c i w_i w_r) (is_event (event b)) al (report.pfls c i w_i w_r) (report.pff c i w_i w_r)
    unfolding report.events mca_at view processor_of
    mca_at_lem = ap (λ (io : Bool). mca_at (report.fetched c i w_i w_r) (report.I c i w_i w_r) io al (report.pfls c i w_i w_r) (report.pff c i w_i w_r)) (event_is b)

    -- ---- without an instruction

    module _ (no_word : report.fetched c i w_i w_r ≡ false) where
      pub does_nothing : (p : Instruction → Bool) → report.does c i w_i w_r ovf_of p ≡ false
      unfolding report.does
      does_nothing p = off (report.is c i w_i w_r p) _ (off (report.fetched c i w_i w_r) _ no_word)

      pub uses_none : report.uses_r c i w_i w_r ≡ false
      uses_none =
          ap (λ (f : Bool). report.userᵢ c i && (f && store (decoded (report.I c i w_i w_r)) || f && load (decoded (report.I c i w_i w_r)) || f && cas (decoded (report.I c i w_i w_r)))) no_word
          ∙ and_false (report.userᵢ c i)

      pub causes_without_lem : (a q : Bool) → al ≡ a → report.pff c i w_i w_r ≡ q → report.mca c i w_i w_r ovf_of ≡ causes_without v (not a) q
      unfolding mca_at
      causes_without_lem a q e g =
          mca_at_lem
          ∙ (ap (λ (f : Bool). mca_at f (report.I c i w_i w_r) (is_event (event b)) al (report.pfls c i w_i w_r) (report.pff c i w_i w_r)) no_word
          ∙ (ap (λ (y : Bool). mca_at false 0 (is_event (event b)) y false (report.pff c i w_i w_r)) e ∙ ap (λ (y : Bool). mca_at false 0 (is_event (event b)) a false y) g))

    -- ---- at the word w that was fetched

    module _ (aligned : al ≡ true) (no_fault : ((u && al) && fault (memory_of m M) (fetch_request_of v.core) w_i) ≡ false) (w : ℕ) (read : bytes 4 (memory_of m M) pma_i ≡ w) where
      abbrev pub x : Instruction
      x = decoded w

      abbrev pub EA : ℕ
      EA = ea x v.core w

      pub is_fetched : report.fetched c i w_i w_r ≡ true
      unfolding view processor_of
      is_fetched = ap (λ (t : Bool). t && not (report.pff c i w_i w_r)) aligned ∙ ap not (pff_is ∙ no_fault)

      pub is_word : report.I c i w_i w_r ≡ w
      is_word = word_is ∙ read

      pub is_at : (p : Instruction → Bool) → report.is c i w_i w_r p ≡ p x
      is_at p = ap (λ (t : Bool). t && p (decoded (report.I c i w_i w_r))) is_fetched ∙ ap (λ (n : ℕ). p (decoded n)) is_word

      pfls_at : Bool → ℕ → Bool
      pfls_at f n =
          (u && (f && store (decoded n) || f && load (decoded n) || f && cas (decoded n)))
          && fault (memory_of m M) (record { asid = report.asidᵢ c i; va = ea (decoded n) v.core n; r = if f && store (decoded n) || f && cas (decoded n) then tlb.store_r else tlb.load_r }) w_r

      pub pfls_is : report.pfls c i w_i w_r ≡ ((u && is_access x) && fault (memory_of m M) (data_request_of v.core x w) w_r)
      unfolding report.pfls view processor_of pfls_at
      pfls_is =
          ap (λ (t : Bool). pfls_at t (report.I c i w_i w_r)) is_fetched
          ∙ (ap (λ (n : ℕ). pfls_at true n) is_word
          ∙ ap (λ (a : Bool). (u && a) && fault (memory_of m M) (data_request_of v.core x w) w_r) (accessing (store x) (load x) (cas x)))

      pub address_is : report.pma_ea c i w_i w_r ≡ physical v w_r EA
      unfolding report.pma_ea view processor_of
      address_is = ap (λ (n : ℕ). physical v w_r (ea (decoded n) v.core n)) is_word

      -- the causes, where f says whether the access faults
      module _ (f : Bool) (faults : report.pfls c i w_i w_r ≡ f) where
        pub causes_are : report.mca c i w_i w_r ovf_of ≡ causes v x w f
        unfolding mca_at
        causes_are =
            mca_at_lem
            ∙ (ap (λ (y : Bool). mca_at y (report.I c i w_i w_r) (is_event (event b)) al (report.pfls c i w_i w_r) (report.pff c i w_i w_r)) is_fetched
            ∙ (ap (λ (n : ℕ). mca_at true n (is_event (event b)) al (report.pfls c i w_i w_r) false) is_word ∙ ap (λ (y : Bool). mca_at true w (is_event (event b)) al y false) faults))

        pub does_is : (p : Instruction → Bool) → report.does c i w_i w_r ovf_of p ≡ (p x && not (suppressed (causes v x w f)))
        unfolding report.does
        does_is p =
            ap (λ (t : Bool). t && (not (jisr (report.mca c i w_i w_r ovf_of)) || continues (il (report.mca c i w_i w_r ovf_of)))) (is_at p)
            ∙ (ap (λ (ca : ℕ). p x && (not (jisr ca) || continues (il ca))) causes_are
            ∙ doing (p x) (jisr (causes v x w f)) (continues (il (causes v x w f))))
