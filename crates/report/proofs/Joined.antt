-- Demand 2 and its exception: what is claimed is δ by the trade's rule, so that each case of a step gives its ground,
-- kind by kind; and what that says of a step that δ allows.
-- Assumes nothing.
use Rattle.std.specs.Prelude.{if◌then◌else◌, Option, Some, None, Result, Ok, Err, IfOk, is_ok}
use Rattle.refusals.specs.declared.Refusal.{Refusal}
use mathlib.Core.Path.{◌≡◌, refl, ap, sym, ◌∙◌, subst}
use mathlib.Core.Bool.{true, Bool, false, ◌&&◌, ◌||◌}
use mathlib.Core.List.{List, [], ◌∷◌, ◌++◌}
use Prim.Native.Nat.{ℕ, ◌^◌, ◌+◌, ◌<◌}
use native.Mathlib.Omega.{arith}
use lib.Dec.{ltb}
use lib.ListN.{length, length-append}
use borrow.Author.Tests.{ltb-true, eq-eqb}
use Rattle.word.proofs.Tests.{true_false}
use Rattle.word.proofs.Truth.{and_left, and_right}
use Rattle.layout.specs.Blocks.{block}
use Rattle.decode.specs.Mnemonics.{store, load, cas, flush, invlpg, eret}
use Rattle.decode.specs.declared.Instruction.{Instruction}
use Rattle.decode.specs.Table.{decoded}
use Rattle.isa.specs.Interrupts.{ovf_of, jisr, il, continues, delta_jisr, delta_rfe, delta_core}
use Rattle.isa.specs.Core.{delta_instr}
use Rattle.records.specs.declared.Store.{Store}
use Rattle.records.specs.declared.Walk.{Walk}
use Rattle.tables.specs.Views.{cores_of, refusals_of, core_refusals_of}
use Rattle.tables.specs.Sound.{sound}
use Rattle.tables.proofs.Lift.{header, core_long, core_sound}
use Rattle.tables.proofs.Steps.{block_few_stores}
use Rattle.steps.specs.declared.Answer.{Answer}
use Rattle.steps.specs.declared.Answer.TheVariants.{Done, Interrupt}
use Rattle.steps.specs.declared.Step.{Step}
use Rattle.steps.specs.Form.{step_of}
use Rattle.steps.specs.declared.Step.TheVariants.{ByProcessor, ByApic}
use Rattle.steps.specs.declared.ProcessorStep.TheVariants.{Core, TlbCreate, TlbExtend, TlbAccessed, StoreBuffer}
use Rattle.steps.specs.declared.ApicStep.TheVariants.{SendIpi, SendEoi, InitCore, StartCore, Sample, Deliver, SetLine}
use Rattle.machine.specs.Decide.{by_step, decided}
use Rattle.machine.specs.Step.{step, Stepped, taken}
use Rattle.machine.proofs.Forms.{Formed, step_formed}
use Rattle.machine.specs.Actions.{Effect, answer_of, tables_after}
use Rattle.machine.proofs.Keeping.{Keeps, decided_keeps, step_keeps, step_long, step_sound}
use Rattle.machine.proofs.Taking.{taken_accepted, is_sound}
use Rattle.machine.proofs.Answers.{after_answer}
use Rattle.report.specs.Demands.{outcome, Ground, Demand2, limited, Unhindered, Words, Bytes, Next, Full, Kept, Accepted, Allowed, excepted, claimed, Exception}
use Rattle.report.specs.Delta as report
use Rattle.report.specs.View.{view, processor_of}
use Rattle.report.specs.Configuration.{Configuration, Processor, upd, with_m}
use Rattle.report.specs.Components.{eev, min, found, ΣApic, δapic}
use Rattle.report.proofs.Cases.{Case, δx, Has, Roomy, Leads}
use Rattle.report.proofs.CoreSteps.{core_case}
use Rattle.report.proofs.Tlbs.{create_case, extend_case, accessed_case}
use Rattle.report.proofs.Drains.{buffer_case}
use Rattle.report.proofs.Buses.{ipi_case, eoi_case}
use Rattle.report.proofs.Resets.{init_case, start_case}
use Rattle.report.proofs.Lines.{line_case, sample_case, deliver_case}
use Rattle.report.proofs.Rules.{store_not, does_same, Same, as_printed, causes_agree, causes_masked, causes_same}

-- outcomes that are both defined, or neither
pub data Alike : report.Outcome → report.Outcome → Type 0 where
  none : Alike report.none report.none
  next : (x y : Configuration) (r s : report.Answer) → Alike (report.next x r) (report.next y s)

itself : (o : report.Outcome) → Alike o o
itself report.none = Alike.none
itself (report.next x r) = Alike.next x x r r

-- ---- a core's step

module _ (c : Configuration) (i : ℕ) (w_i w_r : Walk) where
  abbrev I : ℕ
  I = report.I c i w_i w_r

  -- the step, where the masked causes are the same
  module _ (C : Same c i w_i w_r) where
    does_by : (p : Instruction → Bool) → report.does c i w_i w_r report.by_table p ≡ report.does c i w_i w_r ovf_of p
    unfolding report.does
    does_by p = ap (λ (ca : ℕ). report.is c i w_i w_r p && report.◌⇒◌ (jisr ca) (continues (il ca))) C

    core_by : report.core' c i w_i w_r report.by_table ≡ report.core' c i w_i w_r ovf_of
    unfolding report.core' delta_core
    core_by =
        ap (λ (ca : ℕ). let R = if report.is c i w_i w_r load || report.is c i w_i w_r cas then report.R c i w_i w_r else 0 in
        if jisr ca then delta_jisr (c.p i).core I R ca (found (min (eev (c.p i).apic)))
        else if eret (decoded I) then delta_rfe (c.p i).core else delta_instr (c.p i).core I R) C

    apic_by : report.apic' c i w_i w_r report.by_table ≡ report.apic' c i w_i w_r ovf_of
    unfolding report.apic'
    apic_by = ap (λ (ca : ℕ). if jisr ca then δapic (c.p i).apic ΣApic.jisr else if report.is c i w_i w_r eret then δapic (c.p i).apic ΣApic.rfe else (c.p i).apic) C

    sb_by : report.sb' c i w_i w_r report.by_table ≡ report.sb' c i w_i w_r ovf_of
    unfolding report.sb'
    sb_by = rw (does_by store) refl

    tlb_by_lem : report.tlb' c i w_i w_r report.by_table ≡ report.tlb' c i w_i w_r ovf_of
    unfolding report.tlb'
    tlb_by_lem = rw (does_by flush, does_by invlpg) refl

    memory_by : report.m' c i w_i w_r report.by_table ≡ report.m' c i w_i w_r ovf_of
    unfolding report.m'
    memory_by = rw (does_by cas) refl

    step_by : report.core_step c i w_i w_r report.by_table ≡ report.core_step c i w_i w_r ovf_of
    unfolding report.core_step
    step_by j =
        if report.core_guards c i w_i w_r then
        report.next (with_m (report.with_processor c i (record { core = core_by j; sb = sb_by j; tlb = tlb_by_lem j; apic = apic_by j })) (memory_by j))
        (if jisr (C j) then report.interrupt (il (C j)) else report.done)
        else report.none

  -- whether it is defined
  core_alike : Alike (report.core_step c i w_i w_r ovf_of) (report.core_step c i w_i w_r report.by_table)
  unfolding report.core_step
  core_alike = go _ _ _ _ (report.core_guards c i w_i w_r)
    where
      go : (x y : Configuration) (r s : report.Answer) (g : Bool) → Alike (if g then report.next x r else report.none) (if g then report.next y s else report.none)
      go x y r s true = Alike.next x y r s
      go x y r s false = Alike.none

-- ---- a step of any kind

pub claimed_trade : (c : Configuration) (a : Option Step) → claimed c a ≡ report.δBy ovf_of c a
unfolding claimed report.δBy
claimed_trade c (Some (ByProcessor i (Core w_i w_r))) = go (report.is c i w_i w_r excepted) refl
  where
    go : (b : Bool) → report.is c i w_i w_r excepted ≡ b → (if b then report.δBy ovf_of c (Some (ByProcessor i (Core w_i w_r))) else report.δ c (Some (ByProcessor i (Core w_i w_r)))) ≡ report.δBy ovf_of c (Some (ByProcessor i (Core w_i w_r)))
    go true e = refl
    go false e = ap (λ (o : report.Outcome). if ltb i c.np then o else report.none) (step_by c i w_i w_r (causes_same c i w_i w_r (report.fetched c i w_i w_r) refl e))
claimed_trade c (Some (ByProcessor i StoreBuffer)) = refl
claimed_trade c (Some (ByProcessor i (TlbCreate va))) = refl
claimed_trade c (Some (ByProcessor i (TlbAccessed w))) = refl
claimed_trade c (Some (ByProcessor i (TlbExtend w))) = refl
claimed_trade c (Some (ByApic (SendIpi i))) = refl
claimed_trade c (Some (ByApic (SendEoi i))) = refl
claimed_trade c (Some (ByApic (InitCore i))) = refl
claimed_trade c (Some (ByApic (StartCore i))) = refl
claimed_trade c (Some (ByApic (Sample k))) = refl
claimed_trade c (Some (ByApic (Deliver k))) = refl
claimed_trade c (Some (ByApic (SetLine k level))) = refl
claimed_trade c None = refl

-- by either rule δ is defined for the same steps
δ_alike : (c : Configuration) (a : Option Step) → Alike (report.δBy ovf_of c a) (report.δ c a)
unfolding report.δBy
δ_alike c (Some (ByProcessor i (Core w_i w_r))) = go (ltb i c.np)
  where
    go : (b : Bool) → Alike (if b then report.core_step c i w_i w_r ovf_of else report.none) (if b then report.core_step c i w_i w_r report.by_table else report.none)
    go true = core_alike c i w_i w_r
    go false = Alike.none
δ_alike c (Some (ByProcessor i StoreBuffer)) = itself _
δ_alike c (Some (ByProcessor i (TlbCreate va))) = itself _
δ_alike c (Some (ByProcessor i (TlbAccessed w))) = itself _
δ_alike c (Some (ByProcessor i (TlbExtend w))) = itself _
δ_alike c (Some (ByApic (SendIpi i))) = itself _
δ_alike c (Some (ByApic (SendEoi i))) = itself _
δ_alike c (Some (ByApic (InitCore i))) = itself _
δ_alike c (Some (ByApic (StartCore i))) = itself _
δ_alike c (Some (ByApic (Sample k))) = itself _
δ_alike c (Some (ByApic (Deliver k))) = itself _
δ_alike c (Some (ByApic (SetLine k level))) = itself _
δ_alike c None = Alike.none

pub defined_none : (c : Configuration) (a : Option Step) → report.δBy ovf_of c a ≡ report.none → report.δ c a ≡ report.none
defined_none c a = go (δ_alike c a)
  where
    go : {o p : report.Outcome} → Alike o p → o ≡ report.none → p ≡ report.none
    go Alike.none q = refl
    go (Alike.next x y r s) q = absurd (let z : ◌≡◌ {A = ℕ} 0 1 = cc in omega arith)

pub defined_allowed : (c : Configuration) (a : Option Step) → Allowed (report.δBy ovf_of c a) → Allowed (report.δ c a)
defined_allowed c a = go (δ_alike c a)
  where
    go : {o p : report.Outcome} → Alike o p → Allowed o → Allowed p
    go Alike.none A = A
    go (Alike.next x y r s) A = record { to = y; answer = s; is_next = refl }

-- ---- how far the exception goes

pub exception : Exception
unfolding report.δBy
exception =
    record {
      in_words = as_printed;
      agreeing = λ c i w_i w_r e. is_δ c i w_i w_r (causes_agree c i w_i w_r e);
      masked = λ c i w_i w_r e. is_δ c i w_i w_r (causes_masked c i w_i w_r e);
    }
  where
    is_δ : (c : Configuration) (i : ℕ) (w_i w_r : Walk) → Same c i w_i w_r → claimed c (Some (ByProcessor i (Core w_i w_r))) ≡ report.δ c (Some (ByProcessor i (Core w_i w_r)))
    is_δ c i w_i w_r e = claimed_trade c (Some (ByProcessor i (Core w_i w_r))) ∙ sym (ap (λ (o : report.Outcome). if ltb i c.np then o else report.none) (step_by c i w_i w_r e))

-- ---- a store that takes effect is one more, so that eight were not pending if the tables after it are sound

module _ (c : Configuration) (i : ℕ) (w_i w_r : Walk) (r : report.Answer) (to : Configuration) (d : report.does c i w_i w_r ovf_of store ≡ true) where
  one_more : report.δBy ovf_of c (Some (ByProcessor i (Core w_i w_r))) ≡ report.next to r → (i < to.np) × (length (to.p i).sb ≡ length (c.p i).sb + 1)
  unfolding report.δBy report.core_step report.sb'
  one_more q = go (ltb i c.np) refl (report.core_guards c i w_i w_r) q
    where
      new : Processor
      new = record { core = report.core' c i w_i w_r ovf_of; sb = report.sb' c i w_i w_r ovf_of; tlb = report.tlb' c i w_i w_r ovf_of; apic = report.apic' c i w_i w_r ovf_of }

      there : Configuration
      there = with_m (report.with_processor c i new) (report.m' c i w_i w_r ovf_of)

      own : upd c.p i new i ≡ new
      own = ap (λ (b : Bool). if b then new else c.p i) (eq-eqb i i refl)

      longer : (s : Store) → length (if report.does c i w_i w_r ovf_of store then (c.p i).sb ++ (s ∷ []) else (c.p i).sb) ≡ length (c.p i).sb + 1
      longer s = rw d (length-append (c.p i).sb (s ∷ []))

      go : (b : Bool) → ltb i c.np ≡ b → (g : Bool) →
          (if b then (if g then report.next there (if jisr (report.mca c i w_i w_r ovf_of) then report.interrupt (il (report.mca c i w_i w_r ovf_of)) else report.done) else report.none) else report.none) ≡ report.next to r →
          (i < to.np) × (length (to.p i).sb ≡ length (c.p i).sb + 1)
      go true h true q =
          let z : there ≡ to = cc in (
            subst (λ (y : Configuration). i < y.np) z (ltb-true i c.np h),
            ap (λ (y : Configuration). length (y.p i).sb) (sym z) ∙ ap (λ (p : Processor). length p.sb) own ∙ longer _,
          )
      go true h false q = absurd (let z : ◌≡◌ {A = ℕ} 0 1 = cc in omega arith)
      go false h g q = absurd (let z : ◌≡◌ {A = ℕ} 0 1 = cc in omega arith)

module _ (t m : List ℕ) (x : Option Step) (M : ℕ → ℕ) (r : report.Answer) (u v : List ℕ) where
  not_full : Next (report.δBy ovf_of (view t m M) x) r (view u v M) → sound u (length v) ≡ true → Full t m x M → ⊥
  unfolding view processor_of
  not_full N e F =
      let q = ap (report.δBy ovf_of (view t m M)) (sym F.is_core) ∙ N.is_next in
      let o = one_more (view t m M) F.i F.w_i F.w_r r N.to (sym (does_same (view t m M) F.i F.w_i F.w_r store store_not) ∙ F.is_store) q in
      let l : F.i < cores_of u = subst (λ (n : ℕ). F.i < n) N.agrees.np o.0 in
      let few = block_few_stores (length v) (block u F.i) (core_sound u (length v) e F.i l) (core_long u (length v) e F.i l) in
      let same = ap length (N.agrees.p F.i o.0).sb in
      omega (arith, few, same, o.1, F.eight)

-- ---- the step that the words s say

module _ (t m s : List ℕ) (e : sound t (length m) ≡ true) (ws : Words t) (bs : Bytes m) where
  abbrev x : Option Step
  x = step_of (cores_of t) s

  abbrev r : Stepped
  r = step t m s

  -- what step answers, and leaves where it is not refused
  abbrev Is : Result Answer Refusal → List ℕ → List ℕ → Type 0
  Is q u v = (q ≡ r.answer) × (u ≡ r.tables) × (v ≡ r.memory)

  on_sound : {q : Result Answer Refusal} {u v : List ℕ} → (q ≡ (taken t m s).answer) × (u ≡ (taken t m s).tables) × (v ≡ (taken t m s).memory) → Is q u v
  on_sound {q} {u} {v} = subst (λ (z : Stepped). (q ≡ z.answer) × (u ≡ z.tables) × (v ≡ z.memory)) (is_sound t m s e)

  after_sound : sound r.tables (length r.memory) ≡ true
  after_sound = step_sound t m s e ws bs

  kept : (y : Effect) → Ok y ≡ decided t m s → tables_after y t ≡ r.tables → Kept t m r.tables r.memory
  kept y d q =
      let K = step_keeps t m s e ws bs in
      let D : Keeps (length m) t (tables_after y t) = subst (λ (z : Result Effect Refusal). IfOk z (λ y. Keeps (length m) t (tables_after y t))) (sym d) (decided_keeps t m e ws bs s) in
      let long = step_long t m s in
      let before = header t (length m) e in
      let after = header r.tables (length r.memory) after_sound in
      record {
        sound_after = after_sound;
        long = K.long;
        memory_long = long;
        cores = K.cores;
        pages = omega (arith, long, before.bytes, after.bytes);
        count = ap refusals_of (sym q) ∙ D.count;
        core_counts = λ k h. ap (λ (u : List ℕ). core_refusals_of (block u k)) (sym q) ∙ D.core_counts k h;
      }

  -- by what was decided
  accepted : (o : report.Answer) (d : Result Effect Refusal) → d ≡ decided t m s → is_ok d ≡ true → Roomy t m x → Has t m x → Leads t m x d o → Accepted t m s o
  accepted o (Err z) d f y p n = absurd (true_false (sym f))
  accepted o (Ok z) d f y p n =
      let I = on_sound (taken_accepted t m s z d) in
      let next : (M : ℕ → ℕ) → Next (δx t m x M) o (view r.tables r.memory M)
      = λ M. subst (λ (u : List ℕ). Next (δx t m x M) o (view u r.memory M)) I.1 (subst (λ (v : List ℕ). Next (δx t m x M) o (view (tables_after z t) v M)) I.2 (n M)) in
      record { next = λ M. subst (λ (z : report.Outcome). Next z o (view r.tables r.memory M)) (sym (claimed_trade (view t m M) x)) (next M); kept = kept z d I.1; present = p; not_full = λ M. not_full t m x M o r.tables r.memory (next M) after_sound; not_crowded = y }

  abbrev Grounded : Result Answer Refusal → Type 0
  Grounded q = Ground t m s q

  answer_is : answer_of (decided t m s) ≡ r.answer
  unfolding taken
  answer_is = sym (after_answer s (decided t m s) t m) ∙ ap (λ (z : Stepped). z.answer) (is_sound t m s e)

  ok_of : (d : Result Effect Refusal) (a : Answer) → answer_of d ≡ Ok a → is_ok d ≡ true
  ok_of (Ok y) a q = refl
  ok_of (Err y) a q = ap is_ok q

  pub ground : Case t m x (decided t m s) → Grounded r.answer
  ground (Case.done a y p n) = subst Grounded (sym a ∙ answer_is) (Ground.done (accepted report.done (decided t m s) refl (ok_of (decided t m s) Done a) y p n))
  ground (Case.interrupt level a y p n) =
      subst Grounded (sym a ∙ answer_is) (Ground.interrupt level (accepted (report.interrupt level) (decided t m s) refl (ok_of (decided t m s) (Interrupt level) a) y p n))
  ground (Case.no_step a p) = subst Grounded (sym a ∙ answer_is) (Ground.no_step p)
  ground (Case.undefined a p q) = subst Grounded (sym a ∙ answer_is) (Ground.undefined p (λ M. defined_none (view t m M) x (q M)))
  ground (Case.no_byte a y p M b d) = subst Grounded (sym a ∙ answer_is) (Ground.no_byte y p M b (defined_allowed (view t m M) x d))
  ground (Case.no_store a h d q) = subst Grounded (sym a ∙ answer_is) (Ground.no_store h (λ M. defined_allowed (view t m M) x (d M)) q)
  ground (Case.no_walk a h d q) = subst Grounded (sym a ∙ answer_is) (Ground.no_walk h (λ M. defined_allowed (view t m M) x (d M)) q)

  -- by the step that they are found to say
  pub by_step_lem : (y : Option Step) → step_of (cores_of t) s ≡ y → Case t m y (by_step t m y) → Grounded r.answer
  unfolding decided
  by_step_lem y q c = ground (subst (λ (z : Option Step). Case t m z (by_step t m z)) (sym q) c)

-- ---- kind by kind

pub demand2 : Demand2
unfolding by_step
demand2 t m s e ws bs = go (step_of (cores_of t) s) refl (step_formed (cores_of t) s)
  where
    n : ℕ
    n = cores_of t

    by : (x : Option Step) → step_of (cores_of t) s ≡ x → Case t m x (by_step t m x) → Ground t m s (step t m s).answer
    by = by_step_lem t m s e ws bs

    go : (x : Option Step) → step_of (cores_of t) s ≡ x → Formed (cores_of t) x → Ground t m s (step t m s).answer
    go (Some (ByProcessor k (Core w_i w_r))) q f = by (Some (ByProcessor k (Core w_i w_r))) q (core_case t m e ws k (ltb-true k n f) w_i w_r)
    go (Some (ByProcessor k (TlbCreate va))) q f = by (Some (ByProcessor k (TlbCreate va))) q (create_case t m e ws k (ltb-true k n (and_left (ltb k n) _ f)) va (ltb-true va (2 ^ 20) (and_right (ltb k n) _ f)))
    go (Some (ByProcessor k (TlbExtend w))) q f = by (Some (ByProcessor k (TlbExtend w))) q (extend_case t m e bs k (ltb-true k n f) w)
    go (Some (ByProcessor k (TlbAccessed w))) q f = by (Some (ByProcessor k (TlbAccessed w))) q (accessed_case t m e k (ltb-true k n f) w)
    go (Some (ByProcessor k StoreBuffer)) q f = by (Some (ByProcessor k StoreBuffer)) q (buffer_case t m e k (ltb-true k n f))
    go (Some (ByApic (SendIpi k))) q f = by (Some (ByApic (SendIpi k))) q (ipi_case t m e ws k (ltb-true k n f))
    go (Some (ByApic (SendEoi k))) q f = by (Some (ByApic (SendEoi k))) q (eoi_case t m e k (ltb-true k n f))
    go (Some (ByApic (InitCore k))) q f = by (Some (ByApic (InitCore k))) q (init_case t m e k (ltb-true k n f))
    go (Some (ByApic (StartCore k))) q f = by (Some (ByApic (StartCore k))) q (start_case t m e k (ltb-true k n f))
    go (Some (ByApic (Sample l))) q f = by (Some (ByApic (Sample l))) q (sample_case t m e l (ltb-true l 24 f))
    go (Some (ByApic (Deliver l))) q f = by (Some (ByApic (Deliver l))) q (deliver_case t m e ws l (ltb-true l 24 f))
    go (Some (ByApic (SetLine l v))) q f =
        by (Some (ByApic (SetLine l v))) q (line_case t m e l v (ltb-true l 24 (and_left (ltb l 24) _ f)) (ltb-true v 2 (and_right (ltb l 24) _ f)))
    go None q f = by None q (Case.no_step refl refl)

-- ---- what δ allows is accepted, or refused 7 to 10

pub unhindered : Unhindered
unfolding report.δBy
unhindered t m s e ws bs M A = go (demand2 t m s e ws bs)
  where
    never : {B : Type 0} → outcome t m (step_of (cores_of t) s) M ≡ report.none → B
    never q = absurd (let p = A.is_next in let z : ◌≡◌ {A = ℕ} 0 1 = cc in omega arith)

    go : {r : Result Answer Refusal} → Ground t m s r → limited r ≡ true
    go (Ground.done N) = refl
    go (Ground.interrupt l N) = refl
    go (Ground.no_step q) = never (ap (report.δ (view t m M)) q)
    go (Ground.undefined n q) = never (q M)
    go (Ground.no_byte x p L b o) = refl
    go (Ground.no_store h o F) = refl
    go (Ground.no_walk h o C) = refl
