-- Made tables are sound, and what 12.1 says of them.
-- Assumes nothing.
use mathlib.Core.Path.{◌≡◌, refl, sym, ap, ◌∙◌}
use Prim.Native.Nat.{ℕ, zero, suc, ◌+◌, ◌*◌, ◌/◌, ◌%◌, ◌<◌, ◌≤◌}
use mathlib.Core.Bool.{Bool, true, false}
use mathlib.Core.List.{[], ◌∷◌}
use native.Mathlib.Omega.{arith}
use native.Mathlib.Decide.{ℕ_discrete}
use lib.ListN.{length, take, drop, replicate, length-append, length-drop}
use lib.Seq.{drop_at, take_all, take-append-le, drop-append-le, drop-append-add}
use lib.Dec.{eqb, leb}
use borrow.Author.Tests.{eqb-true, leb-true}
use Rattle.layout.specs.Layout as at
use Rattle.records.specs.Records.{chain, count, each, all, stores, walks, among, differing, linked}
use Rattle.records.specs.Contents.{sound_records, store_sound, walk_sound}
use Rattle.records.proofs.Counts.{either}
use Rattle.layout.specs.Blocks.{block}
use Rattle.tables.specs.Views.{registers_of, running_of}
use Rattle.tables.specs.Sound.{up_to, sound_words, sound_block, sound}
use Rattle.std.proofs.lemmas.Option.{none-some}
use Rattle.std.specs.Prelude.{Option, Some, None}
use Rattle.refusals.specs.declared.Refusal.{Refusal}
use Rattle.tables.specs.Make.{chained, made_running, made_block, made_blocks, made, whole_pages, refusal}
use Rattle.tables.proofs.Fresh.{block_long, blocks_long}
use Rattle.tables.proofs.Parts.{of_header, blocks_intro, of_sound}
use Rattle.word.proofs.Truth.{and_left, and_right}

made_block_sound : (n k : ℕ) → sound_block n (made_block k) ≡ true
unfolding sound_block sound_words sound_records made_block chained linked stores walks chain count each all differing among store_sound walk_sound
made_block_sound n zero = refl
made_block_sound n (suc k) = refl

-- block j among the first k
part : (k j : ℕ) → j < k → take 256 (drop (256 * j) (made_blocks k)) ≡ made_block j
unfolding made_blocks
part zero j h = absurd (omega arith)
part (suc k) j h =
    either (ℕ_discrete j k)
    (λ e. rw e (ap (take 256) (drop_at (made_blocks k) (made_block k) (256 * k) (blocks_long k)) ∙ take_all 256 (made_block k) (omega (arith, block_long k))))
    (λ d.
    let p : 256 * j ≤ length (made_blocks k) = omega (arith, blocks_long k) in
    let q : 256 ≤ length (drop (256 * j) (made_blocks k)) = omega (arith, blocks_long k, length-drop (256 * j) (made_blocks k)) in
    ap (take 256) (drop-append-le (256 * j) (made_blocks k) (made_block k) p) ∙ take-append-le 256 (drop (256 * j) (made_blocks k)) (made_block k) q ∙ part k j (omega arith))

pub made_block_lem : (n p j : ℕ) → j < n → block (made n p) j ≡ made_block j
unfolding block made
made_block_lem n p j h = ap (take 256) (drop-append-add (n ∷ p ∷ replicate 30 0) (made_blocks n) (256 * j)) ∙ part n j h

pub made_long : (n p : ℕ) → length (made n p) ≡ 32 + 256 * n
unfolding made
made_long n p = length-append (n ∷ p ∷ replicate 30 0) (made_blocks n) ∙ omega (arith, blocks_long n)

pub made_sound : (n p : ℕ) → 1 ≤ n → n ≤ 4 → 1 ≤ p → p ≤ 4096 → sound (made n p) (4096 * p) ≡ true
unfolding made
made_sound n p n₁ n₄ p₁ p₄ =
    of_sound (made n p) (4096 * p)
    (of_header (4096 * p) (made n p)
    (record { some_cores = n₁; few_cores = n₄; some_pages = p₁; few_pages = p₄; long = made_long n p; bytes = refl; rest = refl; few_lines = omega arith }))
    (blocks_intro n (4096 * p) (made n p) (λ j h. ap (sound_block (4096 * p)) (made_block_lem n p j h) ∙ made_block_sound (4096 * p) j))

-- ---- what 12.1 says of a core as made

module _ (k : ℕ) where
  pub made_stores : stores (made_block k) ≡ []
  unfolding made_block chained stores chain
  made_stores = refl

  pub made_walks : walks (made_block k) ≡ []
  unfolding made_block chained walks chain
  made_walks = refl

  pub made_registers : registers_of (made_block k) ≡ record { gpr = replicate 32 0; spr = replicate 32 0; pc = 0; hi = 0; lo = 0 }
  unfolding made_block chained registers_of
  made_registers = refl

  pub made_running_lem : running_of (made_block k) ≡ made_running k
  unfolding made_block chained
  made_running_lem = refl

-- ---- an accepted call

tests_of : (p q r : Bool) → ◌≡◌ {A = Option Refusal} (elim p [ false ↦ Some Refusal.Cores | true ↦ elim q [ false ↦ Some Refusal.Memory | true ↦ elim r [ false ↦ Some Refusal.TableLength | true ↦ None ] ] ]) None → (p ≡ true) × (q ≡ true) × (r ≡ true)
tests_of true true true e = (refl, refl, refl)
tests_of true true false e = absurd (none-some _ (sym e))
tests_of true false r e = absurd (none-some _ (sym e))
tests_of false q r e = absurd (none-some _ (sym e))

-- leaves sound tables
pub make_sound : (n m l : ℕ) → refusal n m l ≡ None → sound (made n (m / 4096)) m ≡ true
unfolding refusal
make_sound n m l e =
    let p = tests_of (up_to at.most_cores n) (whole_pages m) (eqb l (at.table_words n)) e in
    let c = and_right (eqb (m % 4096) 0) (up_to at.most_pages (m / 4096)) p.1 in
    let w : m % 4096 ≡ 0 = eqb-true (m % 4096) 0 (and_left (eqb (m % 4096) 0) (up_to at.most_pages (m / 4096)) p.1) in
    let f : 4096 * (m / 4096) ≡ m = omega arith in
    ap (sound (made n (m / 4096))) (sym f)
    ∙ made_sound n (m / 4096) (leb-true 1 n (and_left (leb 1 n) (leb n 4) p.0)) (leb-true n 4 (and_right (leb 1 n) (leb n 4) p.0))
    (leb-true 1 (m / 4096) (and_left (leb 1 (m / 4096)) (leb (m / 4096) 4096) c)) (leb-true (m / 4096) 4096 (and_right (leb 1 (m / 4096)) (leb (m / 4096) 4096) c))
