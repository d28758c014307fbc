-- What a plan changes when it is done: the block of its core, words 4 to 29 of the header, and one aligned run of
-- memory bytes. Nothing else, so sound tables stay sound.
-- Assumes nothing.
use Rattle.std.specs.Prelude.{if◌then◌else◌}
use mathlib.Core.Path.{◌≡◌, refl, ◌∙◌, ap}
use mathlib.Core.Logic.{◌≢◌, ◌⊎◌, inl, inr, ⊎_elim}
use mathlib.Core.Bool.{Bool, true, false}
use mathlib.Core.List.{List}
use Prim.Native.Nat.{ℕ, ◌+◌, ◌*◌, ◌%◌, ◌^◌, ◌<◌, ◌≤◌}
use lib.ListN.{length, get_or, set, length-set}
use lib.Seq.{get_or-set_other}
use lib.Dec.{eqb, ltb}
use native.Mathlib.Omega.{arith}
use borrow.Author.Tests.{ltb-true, leb-true, eqb-true}
use Rattle.word.specs.Bytes.{put}
use Rattle.word.proofs.Bytes.{Bytes, put_length, put_bytes}
use Rattle.word.proofs.Tests.{true_false}
use Rattle.word.proofs.Words.{Words}
use Rattle.word.proofs.Truth.{and_left, and_right}
use Rattle.layout.specs.Layout.{ioregsel, iowin, redirect, core_refusals}
use Rattle.layout.specs.Blocks.{block}
use Rattle.layout.proofs.Blocks.{with_long, with_block_lem, with_other, with_outside, set_block}
use Rattle.tables.specs.Views.{cores_of, core_refusals_of}
use Rattle.tables.specs.Sound.{sound}
use Rattle.tables.proofs.Lift.{header, core_long, core_sound, bytes_divide, with_sound, set_header_sound}
use Rattle.store_buffer.specs.System.{sized, aligned}
use Rattle.ioapic.specs.IoApic as ioapic
use Rattle.ioapic.proofs.Blocks.{block_words, with_block_words}
use Rattle.cores.specs.declared.Write.{Write}
use Rattle.cores.specs.declared.Write.TheVariants.{Memory, LocalPort, IoPort}
use Rattle.cores.specs.declared.Plan.{Plan}
use Rattle.cores.specs.Commit.{block_after, header_after, tables_by_plan, written_to, memory_by_plan}
use Rattle.cores.specs.inner.Ready.{fits}
use Rattle.cores.proofs.Doing.{port_ready_lem}
use Rattle.cores.proofs.Sounds.{plan_shows}
use Rattle.cores.proofs.Bounds.{PlanWords, after_words, header_words}
use Rattle.cores.proofs.Decisions.{aligned_write, PlanMayBeDone}

-- ---- the header

-- what each word of the I/O APIC leaves, a write at its ports leaves
by_words : (P : List ℕ → Type 0) → ((t : List ℕ) (i v : ℕ) → 4 ≤ i → i ≤ 29 → P t → P (set t i v)) → (t : List ℕ) (a v : ℕ) → P t → P (ioapic.io_written t a v)
unfolding ioapic.io_written ioapic.selected ioapic.windowed
by_words P f t a v p = go (eqb a 0) (ltb (get_or t ioregsel 0) 24) refl
  where
    go : (x y : Bool) → ltb (get_or t ioregsel 0) 24 ≡ y →
        P (if x then set (set t ioregsel v) iowin (ioapic.entry t v) else set (if y then ioapic.with_entry t (get_or t ioregsel 0) v else t) iowin v)
    go true y e = f (set t ioregsel v) iowin (ioapic.entry t v) (omega arith) (omega arith) (f t ioregsel v (omega arith) (omega arith) p)
    go false true e =
        f (set t (redirect + get_or t ioregsel 0) v) iowin v (omega arith) (omega arith)
        (f t (redirect + get_or t ioregsel 0) v (omega arith) (omega (arith, ltb-true (get_or t ioregsel 0) 24 e)) p)
    go false false e = f t iowin v (omega arith) (omega arith) p

by_header : (P : List ℕ → Type 0) → ((t : List ℕ) (i v : ℕ) → 4 ≤ i → i ≤ 29 → P t → P (set t i v)) → (x : Write) (t : List ℕ) → P t → P (header_after x t)
unfolding header_after
by_header P f Write.Nothing t p = p
by_header P f (Memory a d v) t p = p
by_header P f (LocalPort a v) t p = p
by_header P f (IoPort a v) t p = by_words P f t a v p

module _ (x : Write) (t : List ℕ) where
  pub header_long : length (header_after x t) ≡ length t
  header_long = by_header (λ s. length s ≡ length t) (λ s i v l h p. length-set s i v ∙ p) x t refl

  -- only words 4 to 29, which are the I/O APIC's
  pub header_local : (i : ℕ) → (i < 4) ⊎ (29 < i) → get_or (header_after x t) i 0 ≡ get_or t i 0
  header_local i o =
      by_header (λ s. get_or s i 0 ≡ get_or t i 0)
      (λ s j v l h p. get_or-set_other s j i v 0 (⊎_elim (λ q. omega arith) (λ q. omega arith) o) ∙ p) x t refl

  header_block : (k : ℕ) → block (header_after x t) k ≡ block t k
  header_block k = by_header (λ s. block s k ≡ block t k) (λ s i v l h p. set_block s i v k (omega arith) ∙ p) x t refl

  header_sound : (n : ℕ) → sound t n ≡ true → sound (header_after x t) n ≡ true
  header_sound n e = by_header (λ s. sound s n ≡ true) (λ s i v l h p. set_header_sound s n p i v (inr (l, omega arith))) x t e

-- and none but by a write at its ports
abbrev pub is_io : Write → Bool
is_io Write.Nothing = false
is_io (Memory a d v) = false
is_io (LocalPort a v) = false
is_io (IoPort a v) = true

pub header_still : (x : Write) (t : List ℕ) → is_io x ≡ false → header_after x t ≡ t
unfolding header_after
header_still Write.Nothing t e = refl
header_still (Memory a d v) t e = refl
header_still (LocalPort a v) t e = refl
header_still (IoPort a v) t e = absurd (true_false e)

-- ---- the tables

module _ (k : ℕ) (p : Plan) (t : List ℕ) (fits : 32 + 256 * k + 256 ≤ length t) (long : length (block_after p (block t k)) ≡ 256) where
  pub tables_long : length (tables_by_plan k p t) ≡ length t
  unfolding tables_by_plan
  tables_long = header_long p.write _ ∙ with_long t k (block_after p (block t k)) fits long

  -- the core's block
  pub tables_own : block (tables_by_plan k p t) k ≡ block_after p (block t k)
  unfolding tables_by_plan
  tables_own = header_block p.write _ k ∙ with_block_lem t k (block_after p (block t k)) fits long

  -- the blocks of the other cores stay
  pub tables_other : (j : ℕ) → j ≢ k → 32 + 256 * j + 256 ≤ length t → block (tables_by_plan k p t) j ≡ block t j
  unfolding tables_by_plan
  tables_other j d h = header_block p.write _ j ∙ with_other t k (block_after p (block t k)) fits long j d h

  -- so does every word outside the block and words 4 to 29
  pub tables_local : (i : ℕ) → (i < 4) ⊎ (29 < i) → (i < 32 + 256 * k) ⊎ (32 + 256 * k + 256 ≤ i) → get_or (tables_by_plan k p t) i 0 ≡ get_or t i 0
  unfolding tables_by_plan
  tables_local i o q = header_local p.write _ i o ∙ with_outside t k (block_after p (block t k)) fits long i q

-- ---- memory

-- one run of 1, 2 or 4 bytes of m at a multiple of their number
pub record Run (m m' : List ℕ) : Type 0 where
  pub address : ℕ
  pub width : ℕ
  pub value : ℕ
  pub wide : sized width ≡ true
  pub multiple : address % width ≡ 0
  pub inside : address + width ≤ length m
  pub is_put : m' ≡ put width m address value

pub memory_local : (x : Write) (m : List ℕ) → fits x (length m) ≡ true → aligned_write x ≡ true → (written_to x m ≡ m) ⊎ Run m (written_to x m)
unfolding written_to fits aligned_write aligned
memory_local Write.Nothing m f e = inl refl
memory_local (Memory a d v) m f e =
    inr
    (record {
      address = a;
      width = d;
      value = v;
      wide = and_left (sized d) _ f;
      multiple = eqb-true (a % d) 0 (and_right (sized d) _ e);
      inside = leb-true (a + d) (length m) (and_right (sized d) _ f);
      is_put = refl;
    })
memory_local (LocalPort a v) m f e = inl refl
memory_local (IoPort a v) m f e = inl refl

pub written_long : (x : Write) (m : List ℕ) → length (written_to x m) ≡ length m
unfolding written_to
written_long Write.Nothing m = refl
written_long (Memory a d v) m = put_length d m a v
written_long (LocalPort a v) m = refl
written_long (IoPort a v) m = refl

pub written_bytes : (x : Write) (m : List ℕ) → Bytes m → Bytes (written_to x m)
unfolding written_to
written_bytes Write.Nothing m b = b
written_bytes (Memory a d v) m b = put_bytes d m a v b
written_bytes (LocalPort a v) m b = b
written_bytes (IoPort a v) m b = b

-- ---- a plan that may be done

-- the memory of sound tables is whole words
pub whole_words : (t : List ℕ) (n : ℕ) → sound t n ≡ true → n % 4 ≡ 0
whole_words t n e = omega (arith, bytes_divide t n e)

module _ (t m : List ℕ) (k : ℕ) (p : Plan) (e : sound t (length m) ≡ true) (h : k < cores_of t) (D : PlanMayBeDone (length m) (block t k) p) where
  pub plan_long : length (block_after p (block t k)) ≡ 256
  plan_long = (plan_shows (length m) p (block t k) (core_long t (length m) e k h) (core_sound t (length m) e k h) D.is_ready D.is_sound).long

  -- the refusal count stays
  pub plan_count : core_refusals_of (block_after p (block t k)) ≡ core_refusals_of (block t k)
  plan_count = (plan_shows (length m) p (block t k) (core_long t (length m) e k h) (core_sound t (length m) e k h) D.is_ready D.is_sound).still core_refusals (inr refl)

  -- sound tables stay sound
  pub plan_sound : sound (tables_by_plan k p t) (length (memory_by_plan p m)) ≡ true
  unfolding tables_by_plan
  plan_sound =
      let S = plan_shows (length m) p (block t k) (core_long t (length m) e k h) (core_sound t (length m) e k h) D.is_ready D.is_sound in
      ap (λ (n : ℕ). sound (tables_by_plan k p t) n) (written_long p.write m)
      ∙ header_sound p.write _ (length m) (with_sound t (length m) e k (block_after p (block t k)) h S.long S.sound)

  -- words stay words
  pub plan_words : Words t → Words (tables_by_plan k p t)
  unfolding tables_by_plan
  plan_words w =
      let B : Words (block t k) = block_words t k w in
      let P : PlanWords p = D.brings_words B in
      let few : length m ≤ 2 ^ 32 = omega (arith, (header t (length m) e).few_pages, bytes_divide t (length m) e) in
      header_words p.write _ P.in_port
      (with_block_words t k (block_after p (block t k)) w (after_words (length m) p (block t k) few D.is_sound (port_ready_lem p (block t k) D.is_ready) P B))

  -- one run of memory at most
  pub plan_memory : (memory_by_plan p m ≡ m) ⊎ Run m (memory_by_plan p m)
  plan_memory = memory_local p.write m D.is_fitting D.is_aligned
