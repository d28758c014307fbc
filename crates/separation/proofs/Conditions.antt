-- What a verdict of yes says: its conditions, the sides' pages, and the machine where a list begins.
-- Assumes nothing.
use Rattle.std.specs.Prelude.{if◌then◌else◌}
use mathlib.Core.Path.{◌≡◌, refl, sym, ap, ap₂, ◌∙◌}
use mathlib.Core.Logic.{◌⊎◌, inl, inr, ⊎_elim}
use mathlib.Core.Bool.{Bool, true, false, ◌&&◌, ◌||◌, not}
use mathlib.Core.List.{List, ◌++◌}
use Prim.Native.Nat.{ℕ, ◌/◌, ◌%◌, ◌<◌, ◌≤◌}
use native.Mathlib.Omega.{arith}
use lib.ListN.{length, get_or}
use Rattle.word.specs.Word.{is_set}
use Rattle.word.proofs.Truth.{and_left, and_right, or_cases, or_none_left, or_none_right, clash}
use Rattle.layout.specs.Layout.{page_bytes}
use Rattle.layout.specs.Blocks.{block}
use Rattle.records.specs.Records.{all}
use Rattle.tables.specs.Views.{cores_of, pages_of, user_mode, runs}
use Rattle.tables.specs.Sound.{sound}
use Rattle.tables.proofs.Lift.{header, core_sound}
use Rattle.ioapic.proofs.Blocks.{block_words}
use Rattle.tlb.specs.Walks.{set_d}
use Rattle.reach.specs.Lists.{range, has}
use Rattle.reach.specs.Reach.{Pages, table_pages, reached, reach, in_memory, members, is_group}
use Rattle.std.specs.Prelude.{Result, Ok, Err}
use Rattle.refusals.specs.declared.Refusal.{Refusal}
use Rattle.refusals.specs.declared.Refusal.TheVariants.{Unsound, Group}
use Rattle.separation.specs.Apart.{apart, pages_apart, apart_on, running_cores, rest, runs_as_user, disjoint, closed}
use Rattle.separation.specs.Separation.{Machine, Given, verdict, Point, start, group, others, table_bit, writable_bit, either, Framed}
use Rattle.reach.proofs.Lists.{In, in_left, in_right, in_append, in_range, range_in, in_select, select_in, disjoint_in, all_in}
use Rattle.separation.proofs.Memory.{page, Moved, still, free, marked, kept_refl}
use Rattle.separation.proofs.Good.{Good, Low, table_reached, writable_reached}
use Rattle.separation.proofs.Closing.{closed_reach, good_reach}
use Rattle.separation.proofs.Mapped.{reached_low, table_bit_lem, writable_bit_lem}
use Rattle.separation.proofs.Within.{Parted, Fixed, Within}

if_yes : (s i a : Bool) → ◌≡◌ {A = Result Bool Refusal} (if not s then Err Unsound else if not i then Err Group else Ok a) (Ok true) → (s ≡ true) × (i ≡ true) × (a ≡ true)
if_yes true true true e = (refl, refl, refl)
if_yes true true false e = absurd (let z : ◌≡◌ {A = ℕ} 0 1 = cc in omega arith)
if_yes true false a e = absurd (let z : ◌≡◌ {A = ℕ} 0 1 = cc in omega arith)
if_yes false i a e = absurd (let z : ◌≡◌ {A = ℕ} 0 1 = cc in omega arith)

module _ (g : ℕ) (M : Machine) (I : Given M) (e : verdict g M ≡ Ok true) where
  answered : (sound M.tables (length M.memory) ≡ true) × (is_group g (cores_of M.tables) ≡ true) × (apart g M.tables M.memory ≡ true)
  unfolding apart_on
  answered = if_yes (sound M.tables (length M.memory)) (is_group g (cores_of M.tables)) (apart g M.tables M.memory) e

  -- the pages of the group, and of the rest
  abbrev pub G : Pages
  G = reach (group g M) M.tables M.memory

  abbrev pub R : Pages
  R = reach (others g M) M.tables M.memory

  pub record Conditions : Type 0 where
    pub sane : sound M.tables (length M.memory) ≡ true
    pub is_group_lem : is_group g (cores_of M.tables) ≡ true
    pub user : all (runs_as_user M.tables) (group g M ++ others g M) ≡ true
    pub inner : in_memory G (pages_of M.tables) ≡ true
    pub outer : in_memory R (pages_of M.tables) ≡ true
    pub own : closed G ≡ true
    pub rests : closed R ≡ true
    pub cross : disjoint (reached G) (R.writables ++ table_pages R) ≡ true

  pub conditions : Conditions
  unfolding apart pages_apart
  conditions =
      let e₀ = answered.2 in
      let e₁ = and_right (all (runs_as_user M.tables) (group g M ++ others g M)) _ e₀ in
      let p₁ = and_left (in_memory G (pages_of M.tables) && in_memory R (pages_of M.tables)) _ e₁ in
      let e₂ = and_right (in_memory G (pages_of M.tables) && in_memory R (pages_of M.tables)) _ e₁ in
      let p₂ = and_left (closed G && closed R) _ e₂ in
      record {
        sane = answered.0;
        is_group_lem = answered.1;
        user = and_left (all (runs_as_user M.tables) (group g M ++ others g M)) _ e₀;
        inner = and_left (in_memory G (pages_of M.tables)) _ p₁;
        outer = and_right (in_memory G (pages_of M.tables)) _ p₁;
        own = and_left (closed G) _ p₂;
        rests = and_right (closed G) _ p₂;
        cross = and_right (closed G && closed R) _ e₂;
      }

  parted : Parted G R
  unfolding disjoint
  parted =
      record {
        own = λ p h q. disjoint_in G.writables (table_pages G) p conditions.own h q;
        rest = λ p h q. disjoint_in R.writables (table_pages R) p conditions.rests h q;
        written = λ p h q. disjoint_in (reached G) (R.writables ++ table_pages R) p conditions.cross h (in_left p R.writables (table_pages R) q);
        table = λ p h q. disjoint_in (reached G) (R.writables ++ table_pages R) p conditions.cross h (in_right p R.writables (table_pages R) q);
      }

  -- at most 4,096 pages
  few : pages_of M.tables ≤ 4096
  few = omega (arith, (header M.tables (length M.memory) conditions.sane).few_pages)

  pub low_group : Low G
  low_group p h = omega (arith, few, reached_low (pages_of M.tables) G p conditions.inner h)

  low_rest_lem : Low R
  low_rest_lem p h = omega (arith, few, reached_low (pages_of M.tables) R p conditions.outer h)

  pub fixed : Fixed G R M.memory
  fixed =
      record {
        parted = parted;
        group = closed_reach (group g M) M.tables M.memory;
        rest = closed_reach (others g M) M.tables M.memory;
        low = low_group;
        low_rest = low_rest_lem;
        bytes = I.bytes;
      }

  -- a core of either side has a good block
  owned : (cs : List ℕ) (k : ℕ) → In k cs → k < cores_of M.tables → In k (group g M ++ others g M) → Good (reach cs M.tables M.memory) (block M.tables k)
  owned cs k h l u =
      good_reach cs M.tables M.memory k h (length M.memory) (core_sound M.tables (length M.memory) conditions.sane k l)
      (block_words M.tables k I.words)
      (and_right (runs (block M.tables k)) _ (all_in (runs_as_user M.tables) (group g M ++ others g M) k conditions.user u))

  pub start_within : Within g G R (cores_of M.tables) M.memory (start M)
  unfolding running_cores rest members
  start_within =
      record {
        sane = conditions.sane;
        bytes = I.bytes;
        count = refl;
        kept = kept_refl _ _ M.memory;
        there = there;
        cores = λ k h. side k h (is_set g k) refl;
      }
    where
      there : (k : ℕ) → In k (running_cores M.tables) → k < cores_of M.tables
      there k h = range_in (cores_of M.tables) k (select_in (λ j. runs (block M.tables j)) (range (cores_of M.tables)) k h).0

      side : (k : ℕ) → In k (running_cores M.tables) → (b : Bool) → is_set g k ≡ b → Good (if is_set g k then G else R) (block M.tables k)
      side k h true i =
          let r : In k (group g M) = in_select (λ j. is_set g j) (range (cores_of M.tables)) k (in_range (cores_of M.tables) k (there k h)) i in
          rw i (owned (group g M) k r (there k h) (in_left k (group g M) (others g M) r))
      side k h false i =
          let r : In k (others g M) = in_select (λ j. not (is_set g j)) (running_cores M.tables) k h (ap not i) in
          rw i (owned (others g M) k r (there k h) (in_right k (group g M) (others g M) r))

  -- ---- the frame holds where the invariant does

  pub framed : (x : Point) → Within g G R (cores_of M.tables) M.memory x → Framed g M x
  framed x w =
      record {
        size = w.kept.size;
        still = λ a f. same a f (w.kept.byte a);
        table = λ a f. table a f (w.kept.byte a);
        user = λ k h. user k h (is_set g k) (w.cores k h);
      }
    where
      ts : List ℕ
      ts = table_pages G ++ table_pages R

      ws : List ℕ
      ws = G.writables ++ R.writables

      tabled : (p : ℕ) → either table_bit g M p ≡ (has p (table_pages G) || has p (table_pages R))
      tabled p = ap₂ ◌||◌ (table_bit_lem (group g M) M.tables M.memory conditions.inner p) (table_bit_lem (others g M) M.tables M.memory conditions.outer p)

      written : (p : ℕ) → either writable_bit g M p ≡ (has p G.writables || has p R.writables)
      written p = ap₂ ◌||◌ (writable_bit_lem (group g M) M.tables M.memory conditions.inner p) (writable_bit_lem (others g M) M.tables M.memory conditions.outer p)

      apart_from : (p : ℕ) (l r : List ℕ) → has p l || has p r ≡ false → In p (l ++ r) → ⊥
      apart_from p l r f h = ⊎_elim (λ q. clash (has p l) q (or_none_left (has p l) (has p r) f)) (λ q. clash (has p r) q (or_none_right (has p l) (has p r) f)) (in_append p l r h)

      same : (a : ℕ) → either table_bit g M (a / page_bytes) || either writable_bit g M (a / page_bytes) ≡ false
          → Moved ts ws a (get_or M.memory a 0) (get_or x.machine.memory a 0) → get_or x.machine.memory a 0 ≡ get_or M.memory a 0
      same a f (still i) = i
      same a f (free h) = absurd (apart_from (page a) G.writables R.writables (sym (written (page a)) ∙ or_none_right (either table_bit g M (a / page_bytes)) (either writable_bit g M (a / page_bytes)) f) h)
      same a f (marked h p i) = absurd (apart_from (page a) (table_pages G) (table_pages R) (sym (tabled (page a)) ∙ or_none_left (either table_bit g M (a / page_bytes)) (either writable_bit g M (a / page_bytes)) f) h)

      no_write : (p : ℕ) → In p (table_pages G) ⊎ In p (table_pages R) → In p ws → ⊥
      no_write p (inl h) q = ⊎_elim (λ s. parted.own p s h) (λ s. parted.written p (table_reached G p h) s) (in_append p G.writables R.writables q)
      no_write p (inr h) q = ⊎_elim (λ s. parted.table p (writable_reached G p s) h) (λ s. parted.rest p s h) (in_append p G.writables R.writables q)

      table : (a : ℕ) → either table_bit g M (a / page_bytes) ≡ true → Moved ts ws a (get_or M.memory a 0) (get_or x.machine.memory a 0)
          → (get_or x.machine.memory a 0 ≡ get_or M.memory a 0) ⊎ ((a % 4 ≡ 0) × (get_or x.machine.memory a 0 ≡ set_d (get_or M.memory a 0)))
      table a f (still i) = inl i
      table a f (free q) = absurd (no_write (page a) (or_cases (has (page a) (table_pages G)) _ (sym (tabled (page a)) ∙ f)) q)
      table a f (marked q p i) = inr (p, i)

      user : (k : ℕ) → In k x.going → (b : Bool) → Good (if b then G else R) (block x.machine.tables k) → user_mode (block x.machine.tables k) ≡ true
      user k h true q = q.user
      user k h false q = q.user
