-- Sound tables stay sound under every step, and keep their length; memory keeps its length; a refusal moves nothing but
-- its count.
-- Assumes nothing.
use Rattle.std.specs.Prelude.{if◌then◌else◌, Result, Ok, Err, IfOk, is_ok}
use Rattle.refusals.specs.declared.Refusal.{Refusal}
use Rattle.refusals.specs.declared.Refusal.TheVariants.{Unsound}
use mathlib.Core.Path.{◌≡◌, refl, ◌∙◌, ap, subst}
use mathlib.Core.Logic.{inl, inr}
use mathlib.Core.Bool.{Bool, true, false}
use mathlib.Core.List.{List}
use Prim.Native.Nat.{ℕ, zero, suc, ◌+◌, ◌-◌, ◌^◌, ◌<◌, ◌≤◌}
use lib.ListN.{length, get_or, set, length-set}
use lib.Seq.{get_or-set_other}
use lib.Dec.{eqb, ltb}
use native.Mathlib.Omega.{arith}
use native.Mathlib.Decide.{ℕ_discrete}
use Rattle.word.specs.Word.{with_bit}
use Rattle.word.proofs.Bytes.{Bytes}
use Rattle.word.proofs.Words.{Words}
use Rattle.layout.specs.Layout as at
use Rattle.layout.specs.Blocks.{block}
use Rattle.layout.proofs.Blocks.{with_long, with_block_lem, with_other, with_header, set_block}
use Rattle.records.proofs.Counts.{either}
use Rattle.records.proofs.Frame.{Alike, same_sound}
use Rattle.tables.specs.Views.{cores_of, lines_of, refusals_of, core_refusals_of}
use Rattle.tables.specs.Sound.{sound_block, sound}
use Rattle.tables.proofs.Parts.{words_of, records_of, of_parts}
use Rattle.tables.proofs.Places.{words_facts, facts_words}
use Rattle.tables.proofs.Lift.{header, core_fits, core_long, core_sound, with_sound, set_header_sound, set_count_sound, set_lines_sound}
use Rattle.apic.specs.declared.active.Ipi.{Ipi}
use Rattle.apic.specs.LocalApic.{id_of, fixed, irr}
use Rattle.apic.specs.Active.{idle, received_by, eoi_sent, init_core, start_core}
use Rattle.word.proofs.Bits.{put_below}
use Rattle.apic.proofs.Kept.{Kept, Passive, Reset, kept_all, kept_if, kept_vector, kept_idle, kept_received_by, kept_init_core, kept_start_core}
use Rattle.ioapic.specs.Blocks.{on_block, on_blocks}
use Rattle.ioapic.specs.IoApic.{entry, with_entry, dest, vect, rirr, ds, on_entries, acknowledged, eoi_received, sampled, handed}
use Rattle.ioapic.specs.Bus.{broadcast, send_ipi, send_eoi, deliver}
use Rattle.steps.specs.Form.{word, count_at}
use Rattle.steps.proofs.Whose.{by_count}
use Rattle.cores.specs.declared.Plan.{Plan}
use Rattle.cores.specs.Commit as cores
use Rattle.cores.proofs.Decisions.{PlanMayBeDone}
use Rattle.cores.proofs.Locals.{tables_long, tables_own, tables_other, tables_local, written_long, plan_long, plan_count, plan_sound}
use Rattle.machine.specs.declared.action.Action.TheVariants.{SendIpi, SendEoi, InitCore, StartCore, Sample, Deliver, SetLine}
use Rattle.machine.specs.Actions.{Effect, Planned, Acts, line_set, tables_after, memory_after}
use Rattle.machine.specs.Decide.{decided}
use Rattle.machine.specs.Step.{one_more, counted, after, taken, step}
use Rattle.std.proofs.lemmas.Result.{IfOk-weaker}
use Rattle.word.proofs.Tests.{true_false}
use Rattle.machine.proofs.Deciding.{Able, decided_able}

-- ---- what keeps tables sound

-- beside a memory of n bytes the tables u are sound, and have as many words and cores as t
pub record Stays (n : ℕ) (t u : List ℕ) : Type 0 where
  pub long : length u ≡ length t
  pub cores : cores_of u ≡ cores_of t
  pub is_sound : sound u n ≡ true

-- and the same counts of refusals
pub record Keeps (n : ℕ) (t u : List ℕ) : Type 0 where
  pub long : length u ≡ length t
  pub cores : cores_of u ≡ cores_of t
  pub count : refusals_of u ≡ refusals_of t
  pub core_counts : (k : ℕ) → k < cores_of t → core_refusals_of (block u k) ≡ core_refusals_of (block t k)
  pub is_sound : sound u n ≡ true

keeps_then : {n : ℕ} {t u v : List ℕ} → Keeps n t u → Keeps n u v → Keeps n t v
keeps_then p q =
    record {
      long = q.long ∙ p.long;
      cores = q.cores ∙ p.cores;
      count = q.count ∙ p.count;
      core_counts = λ k h. q.core_counts k (omega (arith, p.cores)) ∙ p.core_counts k h;
      is_sound = q.is_sound;
    }

keeps_stays : {n : ℕ} {t u : List ℕ} → Keeps n t u → Stays n t u
keeps_stays K = record { long = K.long; cores = K.cores; is_sound = K.is_sound }

-- a block of which these words stay, and the rest within their ranges: general register 0, the heads, the zeros and the
-- records
kept_sound : (P : ℕ → Type 0) → P 0 → ((i : ℕ) → 68 ≤ i → i ≤ 71 → P i) → ((i : ℕ) → 114 < i → P i) →
    (n : ℕ) (b c : List ℕ) → Kept P b c → sound_block n b ≡ true → sound_block n c ≡ true
kept_sound P zero_in heads-in rest_in n b c K e =
    let W = words_facts b (words_of n b e) in
    let A : Alike b c = record { heads = λ i p q. K.same i (heads-in i p (omega arith)); records = λ i p. K.same i (rest_in i (omega arith)) } in
    of_parts n c
    (facts_words c
    (record {
      zero_register = K.same 0 zero_in ∙ W.zero_register;
      gap = K.same 71 (heads-in 71 (omega arith) (omega arith)) ∙ W.gap;
      rest = λ i p q. K.same i (rest_in i (omega arith)) ∙ W.rest i p q;
      running = omega (arith, K.running_flag (omega (arith, W.running)));
      sipirr = omega (arith, K.sipirr_flag (omega (arith, W.sipirr)));
      initrr = omega (arith, K.initrr_flag (omega (arith, W.initrr)));
      vector = K.sipivect_small W.vector;
    }))
    (same_sound A n ∙ records_of n b e)

-- a function that keeps a block's length and refusal count and leaves it sound, beside a memory of n bytes
record BlockKeeps (n : ℕ) (f : List ℕ → List ℕ) : Type 0 where
  pub as_long : (b : List ℕ) → length (f b) ≡ length b
  pub as_count : (b : List ℕ) → core_refusals_of (f b) ≡ core_refusals_of b
  pub as_sound : (b : List ℕ) → sound_block n b ≡ true → sound_block n (f b) ≡ true

-- a step of the local APIC's own words
passive : (n : ℕ) (f : List ℕ → List ℕ) → ((b : List ℕ) → Kept Passive b (f b)) → BlockKeeps n f
passive n f K =
    record {
      as_long = λ b. (K b).long;
      as_count = λ b. (K b).same at.core_refusals (inr (omega arith));
      as_sound = λ b. kept_sound Passive (inl (omega arith)) (λ i p q. inl (omega arith)) (λ i p. inr p) n b (f b) (K b);
    }

-- init_core and start_core
reset : (n : ℕ) (f : List ℕ → List ℕ) → ((b : List ℕ) → Kept Reset b (f b)) → BlockKeeps n f
reset n f K =
    record {
      as_long = λ b. (K b).long;
      as_count = λ b. (K b).same at.core_refusals (inr (inr (omega arith)));
      as_sound = λ b. kept_sound Reset (inl (omega arith)) (λ i p q. inr (inl (omega arith, omega arith))) (λ i p. inr (inr p)) n b (f b) (K b);
    }

module _ (n : ℕ) where
  -- the tables themselves
  keeps_all : (t : List ℕ) → sound t n ≡ true → Keeps n t t
  keeps_all t e = record { long = refl; cores = refl; count = refl; core_counts = λ k h. refl; is_sound = e }

  -- at the block of one core
  on_block_lem : (f : List ℕ → List ℕ) → BlockKeeps n f → (t : List ℕ) → sound t n ≡ true → (k : ℕ) → k < cores_of t → Keeps n t (on_block f k t)
  on_block_lem f B t e k h =
      let fits = core_fits t n e k h in
      let long : length (f (block t k)) ≡ 256 = B.as_long (block t k) ∙ core_long t n e k h in
      record {
        long = with_long t k (f (block t k)) fits long;
        cores = with_header t k (f (block t k)) fits long at.cores (omega arith);
        count = with_header t k (f (block t k)) fits long at.refusals (omega arith);
        core_counts = λ j l. either (ℕ_discrete j k)
            (λ q. rw q (ap core_refusals_of (with_block_lem t k (f (block t k)) fits long) ∙ B.as_count (block t k)))
            (λ d. ap core_refusals_of (with_other t k (f (block t k)) fits long j d (core_fits t n e j l)));
        is_sound = with_sound t n e k (f (block t k)) h long (B.as_sound (block t k) (core_sound t n e k h));
      }

  -- at the block of each of the first c
  on_blocks_lem : (f : ℕ → List ℕ → List ℕ) → ((j : ℕ) → BlockKeeps n (f j)) → (t : List ℕ) → sound t n ≡ true → (c : ℕ) → c ≤ cores_of t → Keeps n t (on_blocks f c t)
  unfolding on_blocks
  on_blocks_lem f B t e zero h = keeps_all t e
  on_blocks_lem f B t e (suc c) h =
      let K = on_blocks_lem f B t e c (omega arith) in
      keeps_then K (on_block_lem (f c) (B c) (on_blocks f c t) K.is_sound c (omega (arith, K.cores)))

  -- a redirect entry
  with_entry_lem : (t : List ℕ) (i v : ℕ) → sound t n ≡ true → i < 24 → Keeps n t (with_entry t i v)
  with_entry_lem t i v e h =
      record {
        long = length-set t (at.redirect + i) v;
        cores = get_or-set_other t (at.redirect + i) at.cores v 0 (omega arith);
        count = get_or-set_other t (at.redirect + i) at.refusals v 0 (omega arith);
        core_counts = λ k l. ap core_refusals_of (set_block t (at.redirect + i) v k (omega arith));
        is_sound = set_header_sound t n e (at.redirect + i) v (inr (omega arith, omega arith));
      }

  on_entries_lem : (f : ℕ → ℕ) (t : List ℕ) → sound t n ≡ true → (c : ℕ) → c ≤ 24 → Keeps n t (on_entries f c t)
  unfolding on_entries
  on_entries_lem f t e zero h = keeps_all t e
  on_entries_lem f t e (suc c) h =
      let K = on_entries_lem f t e c (omega arith) in
      keeps_then K (with_entry_lem (on_entries f c t) c (f (entry (on_entries f c t) c)) K.is_sound (omega arith))

-- ---- action by action

module _ (t : List ℕ) (n : ℕ) (e : sound t n ≡ true) where
  pub ipi_keeps : (k : ℕ) (i : Ipi) → k < cores_of t → i.vect < 256 → Keeps n t (send_ipi (cores_of t) k i t)
  unfolding send_ipi broadcast
  ipi_keeps k i h v =
      let K = on_block_lem n idle (passive n idle kept_idle) t e k h in
      keeps_then K
      (on_blocks_lem n (λ (j : ℕ) (b : List ℕ). received_by i (eqb j k) b) (λ j. passive n (received_by i (eqb j k)) (λ b. kept_received_by b i (eqb j k) v)) (on_block idle k t) K.is_sound (cores_of t) (omega (arith, K.cores)))

  pub eoi_keeps : (k v : ℕ) → k < cores_of t → v < 256 → Keeps n t (send_eoi k v t)
  unfolding send_eoi eoi_received
  eoi_keeps k v h l =
      let f : List ℕ → List ℕ = λ b. eoi_sent b v in
      let K = on_block_lem n f (passive n f (λ b. kept_vector b at.eoipending v 0 (omega arith) (omega arith) l (omega arith))) t e k h in
      keeps_then K (on_entries_lem n (acknowledged v) (on_block f k t) K.is_sound 24 (omega arith))

  pub init_keeps : (k : ℕ) → k < cores_of t → Keeps n t (on_block init_core k t)
  init_keeps k h = on_block_lem n init_core (reset n init_core kept_init_core) t e k h

  pub start_keeps : (k : ℕ) → k < cores_of t → Keeps n t (on_block start_core k t)
  start_keeps k h = on_block_lem n start_core (reset n start_core kept_start_core) t e k h

  pub sample_keeps : (l : ℕ) → l < 24 → Keeps n t (sampled t l)
  unfolding sampled
  sample_keeps l h = with_entry_lem n t l (with_bit (entry t l) ds 1) e h

  pub deliver_keeps : (l : ℕ) → l < 24 → Keeps n t (deliver (cores_of t) l t)
  unfolding deliver handed
  deliver_keeps l h =
      let u : List ℕ = handed t l in
      let f : List ℕ → List ℕ = λ b. if eqb (id_of b) (dest (entry t l)) then fixed b (vect (entry t l)) else b in
      let K : Keeps n t u = with_entry_lem n t l (with_bit (with_bit (entry t l) ds 0) rirr 1) e h in
      keeps_then K
      (on_blocks_lem n (λ (j : ℕ). f)
      (λ j. passive n f
      (λ b. kept_if Passive (eqb (id_of b) (dest (entry t l))) (kept_vector b irr (vect (entry t l)) 1 (omega arith) (omega arith) (omega arith) (omega arith)) (kept_all Passive b)))
      u K.is_sound (cores_of t) (omega (arith, K.cores)))

  pub line_keeps : (l v : ℕ) → l < 24 → v < 2 → Keeps n t (line_set t l v)
  line_keeps l v h hv =
      let w : ℕ = with_bit (lines_of t) l v in
      record {
        long = length-set t at.lines w;
        cores = get_or-set_other t at.lines at.cores w 0 (omega arith);
        count = get_or-set_other t at.lines at.refusals w 0 (omega arith);
        core_counts = λ k q. ap core_refusals_of (set_block t at.lines w k (omega arith));
        is_sound = set_lines_sound t n e w (put_below 24 (lines_of t) l v (header t n e).few_lines h hv);
      }

  -- one more in a word that may be any number
  more_keeps : (i : ℕ) → 0 < i → ((v : ℕ) → sound (set t i v) n ≡ true) → Stays n t (one_more i t)
  unfolding one_more
  more_keeps i h f = go (ltb (get_or t i 0) (2 ^ 32 - 1))
    where
      go : (b : Bool) → Stays n t (if b then set t i (get_or t i 0 + 1) else t)
      go true =
          record {
            long = length-set t i (get_or t i 0 + 1);
            cores = get_or-set_other t i at.cores (get_or t i 0 + 1) 0 (omega arith);
            is_sound = f (get_or t i 0 + 1);
          }
      go false = keeps_stays (keeps_all n t e)

  -- the refusal counts
  pub counted_keeps : (s : List ℕ) → Stays n t (counted s t)
  unfolding counted
  counted_keeps s =
      by_count (λ (i : ℕ). Stays n t (one_more i t)) (cores_of t) s
      (more_keeps at.refusals (omega arith) (λ v. set_header_sound t n e at.refusals v (inl refl)))
      (λ h. more_keeps (at.block_at (word s 1) + at.core_refusals) (omega arith) (λ v. set_count_sound t n e (word s 1) v h))

-- ---- memory keeps its length

pub memory_long : (a : Effect) (m : List ℕ) → length (memory_after a m) ≡ length m
unfolding memory_after
memory_long (Planned k p) m = written_long p.write m
memory_long (Acts a) m = refl

-- ---- the action that is decided

module _ (t m : List ℕ) (e : sound t (length m) ≡ true) where
  plan_keeps : (k : ℕ) (p : Plan) → k < cores_of t → PlanMayBeDone (length m) (block t k) p → Keeps (length m) t (cores.tables_by_plan k p t)
  plan_keeps k p l D =
      let fits = core_fits t (length m) e k l in
      let long = plan_long t m k p e l D in
      record {
        long = tables_long k p t fits long;
        cores = tables_local k p t fits long at.cores (inl (omega arith)) (inl (omega arith));
        count = tables_local k p t fits long at.refusals (inl (omega arith)) (inl (omega arith));
        core_counts = λ j q. either (ℕ_discrete j k)
            (λ r. rw r (ap core_refusals_of (tables_own k p t fits long) ∙ plan_count t m k p e l D))
            (λ d. ap core_refusals_of (tables_other k p t fits long j d (core_fits t (length m) e j q)));
        is_sound = subst (λ (n : ℕ). sound (cores.tables_by_plan k p t) n ≡ true) (written_long p.write m) (plan_sound t m k p e l D);
      }

  action_keeps : (a : Effect) → Able t m a → Keeps (length m) t (tables_after a t)
  unfolding tables_after
  action_keeps (Planned k p) A = plan_keeps k p A.0 A.1
  action_keeps (Acts (SendIpi k i)) A = ipi_keeps t (length m) e k i A.0 A.1
  action_keeps (Acts (SendEoi k v)) A = eoi_keeps t (length m) e k v A.0 A.1
  action_keeps (Acts (InitCore k)) A = init_keeps t (length m) e k A
  action_keeps (Acts (StartCore k)) A = start_keeps t (length m) e k A
  action_keeps (Acts (Sample l)) A = sample_keeps t (length m) e l A
  action_keeps (Acts (Deliver l)) A = deliver_keeps t (length m) e l A
  action_keeps (Acts (SetLine l v)) A = line_keeps t (length m) e l v A.0 A.1

  module _ (ws : Words t) (bs : Bytes m) where
    pub decided_keeps : (s : List ℕ) → IfOk (decided t m s) (λ x. Keeps (length m) t (tables_after x t))
    decided_keeps s = IfOk-weaker (decided t m s) (Able t m) (λ x. Keeps (length m) t (tables_after x t)) action_keeps (decided_able t m e ws bs s)

-- ---- a step

after_long : (s : List ℕ) (d : Result Effect Refusal) (t m : List ℕ) → length (after s d t m).memory ≡ length m
unfolding after
after_long s (Ok x) t m = memory_long x m
after_long s (Err r) t m = refl

after_keeps : (n : ℕ) (s : List ℕ) (d : Result Effect Refusal) (t m : List ℕ) → sound t n ≡ true → IfOk d (λ x. Keeps n t (tables_after x t)) → Stays n t (after s d t m).tables
unfolding after
after_keeps n s (Ok x) t m e K = keeps_stays K
after_keeps n s (Err r) t m e K = counted_keeps t n e s

-- memory, whatever the tables are
pub step_long : (t m s : List ℕ) → length (step t m s).memory ≡ length m
unfolding step taken
step_long t m s = go (sound t (length m))
  where
    go : (b : Bool) → length (if b then taken t m s else record { answer = Err Unsound; tables = t; memory = m }).memory ≡ length m
    go true = after_long s (decided t m s) t m
    go false = refl

pub step_keeps : (t m s : List ℕ) → sound t (length m) ≡ true → Words t → Bytes m → Stays (length m) t (step t m s).tables
unfolding step taken
step_keeps t m s e ws bs =
    rw e (after_keeps (length m) s (decided t m s) t m e (decided_keeps t m e ws bs s))

pub step_sound : (t m s : List ℕ) → sound t (length m) ≡ true → Words t → Bytes m → sound (step t m s).tables (length (step t m s).memory) ≡ true
step_sound t m s e ws bs = ap (sound (step t m s).tables) (step_long t m s) ∙ (step_keeps t m s e ws bs).is_sound

-- ---- a refused step

-- u is t but for the count of the words s
pub record CountOnly (s t u : List ℕ) : Type 0 where
  pub long : length u ≡ length t
  pub same : (i : ℕ) → (i ≡ count_at (cores_of t) s → ⊥) → get_or u i 0 ≡ get_or t i 0

pub counted_only : (s t : List ℕ) → CountOnly s t (counted s t)
unfolding counted one_more
counted_only s t = go (ltb (get_or t (count_at (cores_of t) s) 0) (2 ^ 32 - 1))
  where
    go : (b : Bool) → CountOnly s t (if b then set t (count_at (cores_of t) s) (get_or t (count_at (cores_of t) s) 0 + 1) else t)
    go true =
        record {
          long = length-set t (count_at (cores_of t) s) (get_or t (count_at (cores_of t) s) 0 + 1);
          same = λ i d. get_or-set_other t (count_at (cores_of t) s) i (get_or t (count_at (cores_of t) s) 0 + 1) 0 d;
        }
    go false = record { long = refl; same = λ i d. refl }

after_refused : (s : List ℕ) (d : Result Effect Refusal) (t m : List ℕ) (r : Refusal) → (after s d t m).answer ≡ Err r → ((after s d t m).memory ≡ m) × CountOnly s t (after s d t m).tables
unfolding after
after_refused s (Ok x) t m r e = absurd (true_false (ap is_ok e))
after_refused s (Err q) t m r e = (refl, counted_only s t)

-- memory stays, and the tables but for the count, on sound tables and on others
pub refused_count : (t m s : List ℕ) (r : Refusal) → (step t m s).answer ≡ Err r → ((step t m s).memory ≡ m) × CountOnly s t (step t m s).tables
unfolding step taken
refused_count t m s r = go (sound t (length m))
  where
    go : (b : Bool) →
        (if b then taken t m s else record { answer = Err Unsound; tables = t; memory = m }).answer ≡ Err r →
        ((if b then taken t m s else record { answer = Err Unsound; tables = t; memory = m }).memory ≡ m) × CountOnly s t (if b then taken t m s else record { answer = Err Unsound; tables = t; memory = m }).tables
    go true e = after_refused s (decided t m s) t m r e
    go false e = (refl, record { long = refl; same = λ i d. refl })

pub refused_leaves : (t m s : List ℕ) (r : Refusal) → (step t m s).answer ≡ Err r →
    ((step t m s).memory ≡ m) × ((i : ℕ) → (i ≡ count_at (cores_of t) s → ⊥) → get_or (step t m s).tables i 0 ≡ get_or t i 0)
refused_leaves t m s r e = let R = refused_count t m s r e in (R.0, R.1.same)
