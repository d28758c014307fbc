-- What a step of a core (kinds 0 to 4) does on sound tables, as one law, `step_law`. It is a plan, and the plan
-- (`plan_of`) depends on its core's block, on memory and on the words IOREGSEL and IOWIN, and on nothing else of the
-- tables. Where it is accepted it changes that block as the plan says, and else at most the I/O APIC's words of the
-- header and one aligned run of memory bytes; where it is refused, one count of refusals alone, its core's, or the
-- header's where the words are not six. (A store to IOREGSEL reads the redirect entry that it selects.)
-- Assumes nothing.
use Rattle.std.specs.Prelude.{if◌then◌else◌, Option, Some, None, Result, Ok, Err}
use Rattle.std.specs.Bool.{then_some}
use Rattle.refusals.specs.declared.Refusal.{Refusal}
use Rattle.refusals.specs.declared.Refusal.TheVariants.{NotAStep}
use mathlib.Core.Path.{◌≡◌, refl, sym, ap, ◌∙◌}
use mathlib.Core.Logic.{◌⊎◌, inl, ◌≢◌, ⊎_elim}
use mathlib.Core.Bool.{Bool, true, false, ◌&&◌}
use mathlib.Core.List.{List}
use Prim.Native.Nat.{ℕ, suc, ◌+◌, ◌-◌, ◌*◌, ◌^◌, ◌<◌, ◌≤◌}
use native.Mathlib.Omega.{arith}
use lib.ListN.{length, get_or, set}
use lib.Dec.{eqb, ltb, leb}
use borrow.Author.Tests.{eqb-false, leb-true, ltb-true, lt-ltb}
use Rattle.word.proofs.Bytes.{Bytes}
use Rattle.word.proofs.Tests.{true_false}
use Rattle.word.proofs.Truth.{and_left}
use Rattle.layout.specs.Layout as at
use Rattle.layout.specs.Blocks.{block}
use Rattle.layout.proofs.Blocks.{block_at_lem, set_block, set_own_block, set_own_other}
use Rattle.records.specs.declared.Walk.{Walk}
use Rattle.records.specs.Records.{stores, walks}
use Rattle.tables.specs.Views.{cores_of}
use Rattle.tables.specs.Sound.{sound}
use Rattle.tables.proofs.Lift.{core_fits, core_sound}
use Rattle.steps.specs.declared.Step.{Step}
use Rattle.steps.specs.declared.Step.TheVariants.{ByProcessor}
use Rattle.steps.specs.declared.ProcessorStep.TheVariants.{Core, TlbCreate, TlbExtend, TlbAccessed, StoreBuffer}
use Rattle.steps.specs.Form.{step_of, step_of_core, step_of_line, word, zero_from, line_count, names_core, count_at}
use Rattle.steps.proofs.Whose.{by_count}
use Rattle.tlb.specs.Steps.{create_on, extend_on, accessed_on}
use Rattle.cores.specs.Core as core
use Rattle.cores.specs.TlbSteps.{planned}
use Rattle.cores.specs.BufferStep.{buffer_step}
use Rattle.cores.specs.Commit as commit
use Rattle.cores.specs.declared.IoPorts.{IoPorts}
use Rattle.cores.specs.declared.Plan.{Plan}
use Rattle.cores.proofs.Decisions.{MayBeDone, create_plan, extend_plan, accessed_plan, drain_plan}
use Rattle.cores.proofs.Executions.{core_plan_lem}
use Rattle.cores.proofs.Locals.{Run, plan_long, plan_sound, plan_memory, tables_own, tables_other, tables_local}
use Rattle.machine.specs.Actions.{tables_after, memory_after}
use Rattle.machine.specs.Decide.{by_processor, by_plan, by_step, decided}
use Rattle.machine.specs.Step.{Stepped, one_more, counted, after, taken, step}
use Rattle.machine.proofs.Keeping.{counted_keeps, counted_only}
use Rattle.machine.proofs.Taking.{by_test}
use Rattle.machine.proofs.Levels.{answered}
use Rattle.machine.proofs.Fitting.{quarters}

-- a step of kind 0 to 4 of core k, or words that are no step
pub data Plain (k : ℕ) : Option Step → Type 0 where
  runs : (v w : Walk) → Plain k (Some (ByProcessor k (Core v w)))
  create : (va : ℕ) → va < 2 ^ 20 → Plain k (Some (ByProcessor k (TlbCreate va)))
  extend : (w : Walk) → Plain k (Some (ByProcessor k (TlbExtend w)))
  accessed : (w : Walk) → Plain k (Some (ByProcessor k (TlbAccessed w)))
  drain : Plain k (Some (ByProcessor k StoreBuffer))
  none : Plain k None

-- its plan on the block b, beside the I/O APIC's port words and the memory m
abbrev pub plan_of : {k : ℕ} {x : Option Step} → Plain k x → List ℕ → IoPorts → List ℕ → Result Plan Refusal
plan_of (runs v w) b io m = core.core_plan (core.view_of b) io m v w
plan_of (create va h) b io m = planned (walks b) (core.is_free b) (create_on b va)
plan_of (extend w) b io m = planned (walks b) (core.is_free b) (extend_on b m w)
plan_of (accessed w) b io m = planned (walks b) (core.is_free b) (accessed_on b m w)
plan_of drain b io m = buffer_step (stores b) (length m)
plan_of none b io m = Err NotAStep

-- ---- the form of a step, which the number of cores does not change where the core is there

abbrev pub form_of : List ℕ → Option Step
form_of s = step_of (suc (word s 1)) s

pub form_same : (n : ℕ) (s : List ℕ) → word s 1 < n → step_of n s ≡ form_of s
unfolding step_of
form_same n s h =
    ap (λ (t : Bool). if eqb (length s) 6 then
    (if ltb (word s 0) 9 then (if t then step_of_core (word s 0) (word s 1) s else None)
    else if ltb (word s 0) 12 then (if ltb (word s 1) line_count then step_of_line (word s 0) (word s 1) s else None)
    else None)
    else None) (lt-ltb (word s 1) n h ∙ sym (lt-ltb (word s 1) (suc (word s 1)) (omega arith)))

if_step : (k : ℕ) (t : Bool) (x : Step) → (t ≡ true → Plain k (Some x)) → Plain k (then_some t x)
if_step k true x f = f refl
if_step k false x f = none

core_form : (c k : ℕ) (s : List ℕ) → c ≤ 4 → Plain k (step_of_core c k s)
core_form c k s h =
    by_test (Plain k) (eqb c 0) _ _ (λ _. runs _ _)
    (λ e₀. by_test (Plain k) (eqb c 1) _ _
    (λ _. if_step k (ltb (word s 2) (2 ^ 20) && zero_from 3 s) (ByProcessor k (TlbCreate (word s 2))) (λ f. create (word s 2) (ltb-true (word s 2) (2 ^ 20) (and_left (ltb (word s 2) (2 ^ 20)) (zero_from 3 s) f))))
    (λ e₁. by_test (Plain k) (eqb c 2) _ _ (λ _. if_step k (ltb (word s 4) (2 ^ 3) && zero_from 5 s) _ (λ _. extend _))
    (λ e₂. by_test (Plain k) (eqb c 3) _ _ (λ _. if_step k (zero_from 4 s) _ (λ _. accessed _))
    (λ e₃. by_test (Plain k) (eqb c 4) _ _ (λ _. if_step k (zero_from 2 s) _ (λ _. drain))
    (λ e₄. absurd (omega (arith, eqb-false c 0 e₀, eqb-false c 1 e₁, eqb-false c 2 e₂, eqb-false c 3 e₃, eqb-false c 4 e₄)))))))

pub plain_form : (s : List ℕ) → leb (word s 0) 4 ≡ true → Plain (word s 1) (form_of s)
unfolding step_of
plain_form s h =
    let c : word s 0 ≤ 4 = leb-true (word s 0) 4 h in
    by_test (Plain (word s 1)) (eqb (length s) 6) _ None
    (λ _. by_test (Plain (word s 1)) (ltb (word s 0) 9) _ _
    (λ _. by_test (Plain (word s 1)) (ltb (word s 1) (suc (word s 1))) (step_of_core (word s 0) (word s 1) s) None (λ _. core_form (word s 0) (word s 1) s c) (λ _. none))
    (λ e. absurd (true_false (sym (lt-ltb (word s 0) 9 (omega arith)) ∙ e))))
    (λ _. none)

-- ---- what a step does

-- a core's block after its step: as the plan says, and where it is refused with one refusal more, if the words name
-- the core
abbrev pub own_after : Bool → Result Plan Refusal → List ℕ → List ℕ
own_after c (Ok p) b = commit.block_after p b
own_after c (Err r) b = if c then one_more at.core_refusals b else b

-- memory after it
abbrev pub bytes_after : Result Plan Refusal → List ℕ → List ℕ
bytes_after (Ok p) m = commit.memory_by_plan p m
bytes_after (Err r) m = m

-- whether they do, which the number of cores does not change where the core is there
abbrev pub is_counted : List ℕ → Bool
is_counted s = names_core (suc (word s 1)) s

-- what the plan p of core k makes of t and m is r, where c says whether a refusal is the core's
pub record Law (t m : List ℕ) (k : ℕ) (c : Bool) (p : Result Plan Refusal) (r : Stepped) : Type 0 where
  pub answers : r.answer ≡ answered p
  pub own : block r.tables k ≡ own_after c p (block t k)
  pub others : (j : ℕ) → j ≢ k → j < cores_of t → block r.tables j ≡ block t j
  pub words : (i : ℕ) → i ≢ at.refusals → (i < at.ioregsel) ⊎ (29 < i) → (i < 32 + 256 * k) ⊎ (32 + 256 * k + 256 ≤ i) → get_or r.tables i 0 ≡ get_or t i 0
  pub bytes : r.memory ≡ bytes_after p m
  pub run : (r.memory ≡ m) ⊎ Run m r.memory
  pub cores : cores_of r.tables ≡ cores_of t
  pub is_sound : sound r.tables (length r.memory) ≡ true

-- one more in the header
header_more : (t : List ℕ) (j : ℕ) → block (one_more at.refusals t) j ≡ block t j
unfolding one_more
header_more t j = go (ltb (get_or t at.refusals 0) (2 ^ 32 - 1))
  where
    go : (b : Bool) → block (if b then set t at.refusals (get_or t at.refusals 0 + 1) else t) j ≡ block t j
    go true = set_block t at.refusals (get_or t at.refusals 0 + 1) j (omega arith)
    go false = refl

-- one more in the block of core k
module _ (t : List ℕ) (k : ℕ) (fits : 32 + 256 * k + 256 ≤ length t) where
  own_more : block (one_more (at.block_at k + at.core_refusals) t) k ≡ one_more at.core_refusals (block t k)
  unfolding one_more
  own_more = rw (block_at_lem t k at.core_refusals (omega arith)) (go (get_or t (at.block_at k + at.core_refusals) 0) (ltb (get_or t (at.block_at k + at.core_refusals) 0) (2 ^ 32 - 1)))
    where
      go : (v : ℕ) (b : Bool) → block (if b then set t (at.block_at k + at.core_refusals) (v + 1) else t) k ≡ (if b then set (block t k) at.core_refusals (v + 1) else block t k)
      go v true = set_own_block t k at.core_refusals (v + 1) fits (omega arith)
      go v false = refl

  other_more : (j : ℕ) → j ≢ k → 32 + 256 * j + 256 ≤ length t → block (one_more (at.block_at k + at.core_refusals) t) j ≡ block t j
  unfolding one_more
  other_more j d q = go (get_or t (at.block_at k + at.core_refusals) 0) (ltb (get_or t (at.block_at k + at.core_refusals) 0) (2 ^ 32 - 1))
    where
      go : (v : ℕ) (b : Bool) → block (if b then set t (at.block_at k + at.core_refusals) (v + 1) else t) j ≡ block t j
      go v true = set_own_other t k at.core_refusals (v + 1) fits (omega arith) j d q
      go v false = refl

-- the count of a step of core k = word s 1
module _ (t m : List ℕ) (e : sound t (length m) ≡ true) (s : List ℕ) (h : word s 1 < cores_of t) where
  counted_is : counted s t ≡ one_more (if is_counted s then at.block_at (word s 1) + at.core_refusals else at.refusals) t
  unfolding counted count_at
  counted_is = ap (λ (b : Bool). one_more (if eqb (length s) 6 && (ltb (word s 0) 9 && b) then at.block_at (word s 1) + at.core_refusals else at.refusals) t) (lt-ltb (word s 1) (cores_of t) h ∙ sym (lt-ltb (word s 1) (suc (word s 1)) (omega arith)))

  counted_own : block (counted s t) (word s 1) ≡ (if is_counted s then one_more at.core_refusals (block t (word s 1)) else block t (word s 1))
  counted_own = ap (λ (u : List ℕ). block u (word s 1)) counted_is ∙ go (is_counted s)
    where
      go : (c : Bool) → block (one_more (if c then at.block_at (word s 1) + at.core_refusals else at.refusals) t) (word s 1) ≡ (if c then one_more at.core_refusals (block t (word s 1)) else block t (word s 1))
      go true = own_more t (word s 1) (core_fits t (length m) e (word s 1) h)
      go false = header_more t (word s 1)

  counted_other : (j : ℕ) → j ≢ word s 1 → j < cores_of t → block (counted s t) j ≡ block t j
  counted_other j d q = ap (λ (u : List ℕ). block u j) counted_is ∙ go (is_counted s)
    where
      go : (c : Bool) → block (one_more (if c then at.block_at (word s 1) + at.core_refusals else at.refusals) t) j ≡ block t j
      go true = other_more t (word s 1) (core_fits t (length m) e (word s 1) h) j d (core_fits t (length m) e j q)
      go false = header_more t j

  counted_outside : (i : ℕ) → i ≢ at.refusals → (i < 32 + 256 * word s 1) ⊎ (32 + 256 * word s 1 + 256 ≤ i) → get_or (counted s t) i 0 ≡ get_or t i 0
  counted_outside i d o =
      (counted_only s t).same i (by_count (λ (j : ℕ). i ≡ j → ⊥) (cores_of t) s d (λ _ q. ⊎_elim (λ r. omega arith) (λ r. omega arith) o))

module _ (t m : List ℕ) (e : sound t (length m) ≡ true) (s : List ℕ) (h : word s 1 < cores_of t) where
  abbrev k : ℕ
  k = word s 1

  abbrev c : Bool
  c = is_counted s

  refused_law : (r : Refusal) → Law t m k c (Err r) (record { answer = Err r; tables = counted s t; memory = m })
  refused_law r =
      record {
        answers = refl;
        own = counted_own t m e s h;
        others = counted_other t m e s h;
        words = λ i d o q. counted_outside t m e s h i d q;
        bytes = refl;
        run = inl refl;
        cores = (counted_keeps t (length m) e s).cores;
        is_sound = (counted_keeps t (length m) e s).is_sound;
      }

  plan_law : (p : Result Plan Refusal) → MayBeDone (length m) (block t k) p → Law t m k c p (after s (by_plan k p) t m)
  unfolding after tables_after memory_after
  plan_law (Err r) D = refused_law r
  plan_law (Ok p) D =
      let fits = core_fits t (length m) e k h in
      let long = plan_long t m k p e h D in
      record {
        answers = refl;
        own = tables_own k p t fits long;
        others = λ j d q. tables_other k p t fits long j d (core_fits t (length m) e j q);
        words = λ i d. tables_local k p t fits long i;
        bytes = refl;
        run = plan_memory t m k p e h D;
        cores = tables_local k p t fits long at.cores (inl (omega arith)) (inl (omega arith));
        is_sound = plan_sound t m k p e h D;
      }

  -- the plan may be done: of the core's block it asks one word, of memory its bytes
  pub plan_done : {x : Option Step} (o : Plain k x) → Bytes m → get_or (block t k) (at.spr + at.pto) 0 < 2 ^ 32 → MayBeDone (length m) (block t k) (plan_of o (block t k) (core.io_ports_of t) m)
  plan_done (runs v w) b q = core_plan_lem (block t k) (core.io_ports_of t) m v w (quarters t (length m) e)
  plan_done (create va l) b q = create_plan (block t k) m va l q
  plan_done (extend w) b q = extend_plan (block t k) m w (core_sound t (length m) e k h) b
  plan_done (accessed w) b q = accessed_plan (block t k) m w
  plan_done drain b q = drain_plan (length m) (block t k) (core_sound t (length m) e k h)
  plan_done none b q = tt

  taken_law : {x : Option Step} (o : Plain k x) → Bytes m → get_or (block t k) (at.spr + at.pto) 0 < 2 ^ 32
      → Law t m k c (plan_of o (block t k) (core.io_ports_of t) m) (after s (by_step t m x) t m)
  unfolding by_step by_processor
  taken_law (runs v w) b q = plan_law _ (plan_done (runs v w) b q)
  taken_law (create va l) b q = plan_law _ (plan_done (create va l) b q)
  taken_law (extend w) b q = plan_law _ (plan_done (extend w) b q)
  taken_law (accessed w) b q = plan_law _ (plan_done (accessed w) b q)
  taken_law drain b q = plan_law _ (plan_done drain b q)
  taken_law none b q = unfold after in refused_law NotAStep

pub step_law : (t m s : List ℕ) → sound t (length m) ≡ true → Bytes m → word s 1 < cores_of t → get_or (block t (word s 1)) (at.spr + at.pto) 0 < 2 ^ 32
    → (o : Plain (word s 1) (form_of s)) → Law t m (word s 1) (is_counted s) (plan_of o (block t (word s 1)) (core.io_ports_of t) m) (step t m s)
unfolding step taken decided
step_law t m s e b h q o =
    rw (e, form_same (cores_of t) s h) (taken_law t m e s h o b q)
