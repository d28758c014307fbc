-- Sound tables and their blocks: a block of sound tables is sound, and a sound block put in leaves them sound.
-- Assumes nothing.
use mathlib.Core.Path.{◌≡◌, sym, ap, ◌∙◌}
use mathlib.Core.Logic.{◌≢◌, ⊎_elim, ◌⊎◌}
use Prim.Native.Nat.{ℕ, ◌+◌, ◌*◌, ◌^◌, ◌<◌, ◌≤◌}
use mathlib.Core.Bool.{true, ◌&&◌}
use mathlib.Core.List.{List}
use native.Mathlib.Omega.{arith}
use native.Mathlib.Decide.{ℕ_discrete}
use lib.ListN.{length, get_or, set, length-set}
use lib.Seq.{get_or-set_other, get_or-set_same}
use lib.Dec.{eqb}
use Rattle.layout.specs.Layout as at
use Rattle.records.proofs.Counts.{either}
use Rattle.layout.specs.Blocks.{block, with_block}
use Rattle.tables.specs.Views.{cores_of, pages_of, lines_of}
use Rattle.tables.specs.Sound.{sound_block, sound}
use Rattle.layout.proofs.Blocks.{block_long, with_long, with_block_lem, with_other, with_header, set_block, set_own}
use Rattle.tables.proofs.Parts.{Header, header_of, of_header, blocks_elim, blocks_intro, sound_header_lem, sound_blocks_lem, of_sound}
use Rattle.tables.proofs.Places.{set_sound, count_allowed}

-- ---- what sound tables have

module _ (t : List ℕ) (n : ℕ) (e : sound t n ≡ true) where
  pub header : Header n t
  header = header_of n t (sound_header_lem t n e)

  module _ (k : ℕ) (h : k < cores_of t) where
    pub core_fits : 32 + 256 * k + 256 ≤ length t
    core_fits = omega (arith, header.long, h)

    pub core_long : length (block t k) ≡ 256
    core_long = block_long t k core_fits

    pub core_sound : sound_block n (block t k) ≡ true
    core_sound = blocks_elim (cores_of t) n t (sound_blocks_lem t n e) k h

  pub bytes_divide : n ≡ 4096 * pages_of t
  bytes_divide = header.bytes

-- ---- what leaves them sound

-- the header's words as they must be and the blocks sound
module _ (t s : List ℕ) (n : ℕ) (e : sound t n ≡ true) (long : length s ≡ length t) (cores : cores_of s ≡ cores_of t) (pages : pages_of s ≡ pages_of t)
    (rest : (i : ℕ) → 30 ≤ i → i < 32 → get_or s i 0 ≡ get_or t i 0) (lines : lines_of s < 2 ^ 24) (blocks : (k : ℕ) → k < cores_of t → sound_block n (block s k) ≡ true) where
  again : sound s n ≡ true
  again =
      let H = header t n e in
      of_sound s n
      (of_header n s
      (record {
        some_cores = omega (arith, H.some_cores, cores);
        few_cores = omega (arith, H.few_cores, cores);
        some_pages = omega (arith, H.some_pages, pages);
        few_pages = omega (arith, H.few_pages, pages);
        long = omega (arith, H.long, long, cores);
        bytes = omega (arith, H.bytes, pages);
        rest = (λ i. eqb (rest 30 (omega arith) (omega arith) i) 0 && (eqb (rest 31 (omega arith) (omega arith) i) 0 && true)) ∙ H.rest;
        few_lines = lines;
      }))
      (blocks_intro (cores_of s) n s (λ k h. blocks k (omega (arith, h, cores))))

module _ (t : List ℕ) (n : ℕ) (e : sound t n ≡ true) where
  -- another block for a core
  pub with_sound : (k : ℕ) (b : List ℕ) → k < cores_of t → length b ≡ 256 → sound_block n b ≡ true → sound (with_block t k b) n ≡ true
  with_sound k b h long f =
      let fits = core_fits t n e k h in
      let same = with_header t k b fits long in
      again t (with_block t k b) n e (with_long t k b fits long) (same 0 (omega arith)) (same 1 (omega arith)) (λ i p q. same i q)
      (omega (arith, (header t n e).few_lines, same 3 (omega arith)))
      (λ j l. either (ℕ_discrete j k)
      (λ q. rw q (ap (sound_block n) (with_block_lem t k b fits long) ∙ f))
      (λ q. ap (sound_block n) (with_other t k b fits long j q (core_fits t n e j l)) ∙ core_sound t n e j l))

  -- another word of the header: the refusal count, the I/O APIC's ports or a redirect entry
  pub set_header_sound : (i v : ℕ) → (i ≡ at.refusals) ⊎ ((at.ioregsel ≤ i) × (i < at.header_rest)) → sound (set t i v) n ≡ true
  set_header_sound i v p =
      let c : (i < 30) × (i ≢ 0) × (i ≢ 1) × (i ≢ 3) = ⊎_elim (λ q. omega arith) (λ q. omega arith) p in
      again t (set t i v) n e (length-set t i v) (other 0 (λ q. c.1 (sym q))) (other 1 (λ q. c.2 (sym q))) (λ j l m. other j (λ q. omega (arith, c.0)))
      (omega (arith, (header t n e).few_lines, other 3 (λ q. c.3 (sym q))))
      (λ k l. ap (sound_block n) (set_block t i v k (omega (arith, c.0))) ∙ core_sound t n e k l)
    where
      other : (j : ℕ) → j ≢ i → get_or (set t i v) j 0 ≡ get_or t j 0
      other j d = get_or-set_other t i j v 0 d

  -- another refusal count of a core
  pub set_count_sound : (k v : ℕ) → k < cores_of t → sound (set t (at.block_at k + at.core_refusals) v) n ≡ true
  set_count_sound k v h =
      let fits = core_fits t n e k h in
      let long = core_long t n e k h in
      ap (λ (u : List ℕ). sound u n) (set_own t k at.core_refusals v fits (omega arith))
      ∙ with_sound k (set (block t k) at.core_refusals v) h (length-set (block t k) at.core_refusals v ∙ long)
      (set_sound (block t k) at.core_refusals v (count_allowed v) n long (core_sound t n e k h))

  -- other lines
  pub set_lines_sound : (v : ℕ) → v < 2 ^ 24 → sound (set t at.lines v) n ≡ true
  set_lines_sound v p =
      again t (set t 3 v) n e (length-set t 3 v) (other 0 (omega arith)) (other 1 (omega arith)) (λ j l m. other j (omega arith))
      (omega (arith, p, get_or-set_same t 3 v 0 (omega (arith, (header t n e).long))))
      (λ k l. ap (sound_block n) (set_block t 3 v k (omega arith)) ∙ core_sound t n e k l)
    where
      other : (j : ℕ) → j ≢ 3 → get_or (set t 3 v) j 0 ≡ get_or t j 0
      other j d = get_or-set_other t 3 j v 0 d
