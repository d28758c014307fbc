-- Sound tables by their parts, and the parts by facts.
-- Assumes nothing.
use mathlib.Core.Path.{◌≡◌, refl, sym, ap, ◌∙◌}
use Prim.Native.Nat.{ℕ, zero, suc, ◌+◌, ◌-◌, ◌*◌, ◌^◌, ◌<◌, ◌≤◌}
use mathlib.Core.Bool.{Bool, true, false, ◌&&◌}
use mathlib.Core.List.{List}
use native.Mathlib.Omega.{arith}
use native.Mathlib.Decide.{ℕ_discrete}
use lib.ListN.{length, get_or}
use lib.Dec.{eqb, leb}
use borrow.Author.Tests.{eq-eqb, eqb-true, lt-ltb, ltb-true, le-leb, leb-true}
use native.Mathlib.Nat.{zero-add}
use Rattle.std.specs.Bool.{MatchBool}
use Rattle.std.specs.List.{AllWithin, HoldsAt, range_with_len}
use Rattle.std.proofs.lemmas.List.FromFn.{length-range_with_len, get_or-range_with_len}
use Rattle.std.proofs.lemmas.Bool.{false_from_ne_true}
use Rattle.word.proofs.Tests.{true_false}
use Rattle.layout.specs.Layout as at
use Rattle.records.specs.Contents.{sound_records}
use Rattle.records.proofs.Counts.{either}
use Rattle.records.proofs.Whole.{fails}
use Rattle.layout.specs.Blocks.{block}
use Rattle.tables.specs.Views.{cores_of, pages_of, lines_of}
use Rattle.tables.specs.Sound.{zero_from, up_to, sound_words, sound_block, sound_blocks, sound_header, sound}
use Rattle.word.proofs.Truth.{and_left, and_right, and_both}

-- ---- the header

pub record Header (n : ℕ) (t : List ℕ) : Type 0 where
  pub some_cores : 1 ≤ cores_of t
  pub few_cores : cores_of t ≤ 4
  pub some_pages : 1 ≤ pages_of t
  pub few_pages : pages_of t ≤ 4096
  pub long : length t ≡ 32 + 256 * cores_of t
  pub bytes : n ≡ 4096 * pages_of t
  pub rest : zero_from at.header_rest_words at.header_rest t ≡ true
  pub few_lines : lines_of t < 2 ^ 24

module _ (n : ℕ) (t : List ℕ) where
  pub header_of : sound_header n t ≡ true → Header n t
  unfolding sound_header
  header_of e =
      let c = and_left (up_to at.most_cores (cores_of t)) _ e in
      let e₁ = and_right (up_to at.most_cores (cores_of t)) _ e in
      let p = and_left (up_to at.most_pages (pages_of t)) _ e₁ in
      let e₂ = and_right (up_to at.most_pages (pages_of t)) _ e₁ in
      let e₃ = and_right (eqb (length t) (at.table_words (cores_of t))) _ e₂ in
      let e₄ = and_right (eqb n (at.page_bytes * pages_of t)) _ e₃ in
      record {
        some_cores = leb-true 1 (cores_of t) (and_left (leb 1 (cores_of t)) _ c);
        few_cores = leb-true (cores_of t) 4 (and_right (leb 1 (cores_of t)) _ c);
        some_pages = leb-true 1 (pages_of t) (and_left (leb 1 (pages_of t)) _ p);
        few_pages = leb-true (pages_of t) 4096 (and_right (leb 1 (pages_of t)) _ p);
        long = eqb-true (length t) (at.table_words (cores_of t)) (and_left (eqb (length t) (at.table_words (cores_of t))) _ e₂);
        bytes = eqb-true n (at.page_bytes * pages_of t) (and_left (eqb n (at.page_bytes * pages_of t)) _ e₃);
        rest = and_left (zero_from at.header_rest_words at.header_rest t) _ e₄;
        few_lines = ltb-true (lines_of t) (2 ^ 24) (and_right (zero_from at.header_rest_words at.header_rest t) _ e₄);
      }

  pub of_header : Header n t → sound_header n t ≡ true
  unfolding sound_header
  of_header H =
      and_both (up_to at.most_cores (cores_of t)) _ (and_both (leb 1 (cores_of t)) _ (le-leb 1 (cores_of t) H.some_cores) (le-leb (cores_of t) 4 H.few_cores))
      (and_both (up_to at.most_pages (pages_of t)) _ (and_both (leb 1 (pages_of t)) _ (le-leb 1 (pages_of t) H.some_pages) (le-leb (pages_of t) 4096 H.few_pages))
      (and_both (eqb (length t) (at.table_words (cores_of t))) _ (eq-eqb (length t) (at.table_words (cores_of t)) H.long)
      (and_both (eqb n (at.page_bytes * pages_of t)) _ (eq-eqb n (at.page_bytes * pages_of t) H.bytes)
      (and_both (zero_from at.header_rest_words at.header_rest t) _ H.rest (lt-ltb (lines_of t) (2 ^ 24) H.few_lines)))))

  pub header_short : length t < 32 → false ≡ sound_header n t
  header_short h = go (sound_header n t) refl
    where
      go : (r : Bool) → sound_header n t ≡ r → false ≡ r
      go true e = absurd (omega (arith, (header_of e).long, h))
      go false e = refl

-- ---- the blocks

-- b, the block of the last of k cores, is sound or not, as r says
pub blocks_step : (k n : ℕ) (t b : List ℕ) (r : Bool) → 0 < k → b ≡ block t (k - 1) → r ≡ sound_block n b → r && sound_blocks (k - 1) n t ≡ sound_blocks k n t
unfolding sound_blocks
blocks_step zero n t b r h p q = absurd (omega arith)
blocks_step (suc k) n t b r h p q =
    let e : suc k - 1 ≡ k = omega arith in
    ap (λ (s : Bool). s && sound_blocks (suc k - 1) n t) (q ∙ ap (sound_block n) p) ∙ ap (λ (j : ℕ). sound_block n (block t j) && sound_blocks j n t) e

pub blocks_none : (k n : ℕ) (t : List ℕ) → k ≤ 0 → sound_blocks k n t ≡ true
unfolding sound_blocks
blocks_none zero n t h = refl
blocks_none (suc k) n t h = absurd (omega arith)

pub blocks_elim : (k n : ℕ) (t : List ℕ) → sound_blocks k n t ≡ true → (j : ℕ) → j < k → sound_block n (block t j) ≡ true
unfolding sound_blocks
blocks_elim zero n t e j h = absurd (omega arith)
blocks_elim (suc k) n t e j h =
    either (ℕ_discrete j k) (λ q. ap (λ (i : ℕ). sound_block n (block t i)) q ∙ and_left (sound_block n (block t k)) (sound_blocks k n t) e)
    (λ q. blocks_elim k n t (and_right (sound_block n (block t k)) (sound_blocks k n t) e) j (omega arith))

pub blocks_intro : (k n : ℕ) (t : List ℕ) → ((j : ℕ) → j < k → sound_block n (block t j) ≡ true) → sound_blocks k n t ≡ true
unfolding sound_blocks
blocks_intro zero n t f = refl
blocks_intro (suc k) n t f = and_both (sound_block n (block t k)) (sound_blocks k n t) (f k (omega arith)) (blocks_intro k n t (λ j h. f j (omega arith)))

-- a test of each core's block
pub blocks_by : (k n : ℕ) (t : List ℕ) (r : Bool) →
    MatchBool r (AllWithin (λ j. sound_block n (block t j) ≡ true) (range_with_len 0 k) 0 (length (range_with_len 0 k)))
    ((i : ℕ) × (i < length (range_with_len 0 k)) × HoldsAt (λ j. sound_block n (block t j) ≡ false) (range_with_len 0 k) i)
    → r ≡ sound_blocks k n t
blocks_by k n t true m =
    sym (blocks_intro k n t (λ j h. let e : get_or (range_with_len 0 k) j 0 ≡ j = get_or-range_with_len 0 k j 0 h ∙ zero-add j in
    ap (λ (i : ℕ). sound_block n (block t i)) (sym e) ∙ m j 0 (omega arith) (omega (arith, length-range_with_len 0 k))))
blocks_by k n t false (i, h, m) =
    let q : i < k = omega (arith, length-range_with_len 0 k) in
    let e : get_or (range_with_len 0 k) i 0 ≡ i = get_or-range_with_len 0 k i 0 q ∙ zero-add i in
    let f : sound_block n (block t i) ≡ false = ap (λ (j : ℕ). sound_block n (block t j)) (sym e) ∙ m 0 in
    sym (false_from_ne_true (sound_blocks k n t) (λ y. true_false (sym (blocks_elim k n t y i q) ∙ f)))

-- ---- a block

module _ (n : ℕ) (b : List ℕ) where
  pub words_of : sound_block n b ≡ true → sound_words b ≡ true
  unfolding sound_block
  words_of e = and_left (sound_words b) (sound_records n b) e

  pub records_of : sound_block n b ≡ true → sound_records n b ≡ true
  unfolding sound_block
  records_of e = and_right (sound_words b) (sound_records n b) e

  pub of_parts : sound_words b ≡ true → sound_records n b ≡ true → sound_block n b ≡ true
  unfolding sound_block
  of_parts e f = and_both (sound_words b) (sound_records n b) e f

  pub block_words_fail : (r : Bool) → r ≡ false → r ≡ sound_words b → false ≡ sound_block n b
  block_words_fail r f e = fails (sound_words b) (sound_block n b) words_of (sym e ∙ f)

  pub block_records : (r : Bool) → r ≡ true → r ≡ sound_words b → sound_records n b ≡ sound_block n b
  unfolding sound_block
  block_records r f e = ap (λ (t : Bool). t && sound_records n b) (sym f ∙ e)

-- ---- the whole

module _ (t : List ℕ) (n : ℕ) where
  pub sound_header_lem : sound t n ≡ true → sound_header n t ≡ true
  unfolding sound
  sound_header_lem e = and_left (sound_header n t) (sound_blocks (cores_of t) n t) e

  pub sound_blocks_lem : sound t n ≡ true → sound_blocks (cores_of t) n t ≡ true
  unfolding sound
  sound_blocks_lem e = and_right (sound_header n t) (sound_blocks (cores_of t) n t) e

  pub of_sound : sound_header n t ≡ true → sound_blocks (cores_of t) n t ≡ true → sound t n ≡ true
  unfolding sound
  of_sound e f = and_both (sound_header n t) (sound_blocks (cores_of t) n t) e f

  pub sound_header_fail : (r : Bool) → r ≡ false → r ≡ sound_header n t → false ≡ sound t n
  sound_header_fail r f e = fails (sound_header n t) (sound t n) sound_header_lem (sym e ∙ f)

  pub sound_by_blocks : (r : Bool) → r ≡ true → r ≡ sound_header n t → sound_blocks (cores_of t) n t ≡ sound t n
  unfolding sound
  sound_by_blocks r f e = ap (λ (s : Bool). s && sound_blocks (cores_of t) n t) (sym f ∙ e)
