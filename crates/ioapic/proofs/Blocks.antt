-- A function at the block of every core: block by block, and what it leaves.
-- Assumes nothing.
use mathlib.Core.Path.{◌≡◌, refl, sym, ap, ◌∙◌, subst}
use mathlib.Core.List.{List, ◌++◌}
use mathlib.Core.Logic.{⊎_elim}
use Prim.Native.Nat.{ℕ, zero, suc, ◌+◌, ◌*◌, ◌≤◌, ◌<◌}
use native.Mathlib.Omega.{arith}
use lib.ListN.{length, get_or, take, drop}
use lib.Seq.{ext_get_or}
use Rattle.word.proofs.Laws.{side}
use Rattle.word.proofs.Words.{Words, append_below, take_below, drop_below}
use Rattle.layout.specs.Layout.{block_at}
use Rattle.layout.specs.Blocks.{block, with_block}
use Rattle.ioapic.specs.Blocks.{on_block, on_blocks}
use Rattle.layout.proofs.Blocks.{Has, block_long, block_at_lem, with_long, with_before, with_block_lem, with_other}

-- f keeps the length of a block
abbrev pub Sized : (List ℕ → List ℕ) → Type 0
Sized f = (b : List ℕ) → length b ≡ 256 → length (f b) ≡ 256

-- f keeps words
abbrev pub Wordly : (List ℕ → List ℕ) → Type 0
Wordly f = (b : List ℕ) → Words b → Words (f b)

pub block_words : (t : List ℕ) (k : ℕ) → Words t → Words (block t k)
unfolding block
block_words t k w = take_below 256 (drop (block_at k) t) (drop_below (block_at k) t w)

pub with_block_words : (t : List ℕ) (k : ℕ) (b : List ℕ) → Words t → Words b → Words (with_block t k b)
unfolding with_block
with_block_words t k b w v =
    append_below (take (block_at k) t) (b ++ drop 256 (drop (block_at k) t)) (take_below (block_at k) t w)
    (append_below b (drop 256 (drop (block_at k) t)) v (drop_below 256 (drop (block_at k) t) (drop_below (block_at k) t w)))

-- tables that agree from word 30 on, as after a step of the I/O APIC, have the same blocks
pub block_agrees : (t t' : List ℕ) (j : ℕ) → length t' ≡ length t → ((x : ℕ) → 29 < x → get_or t' x 0 ≡ get_or t x 0) → Has t j →
    block t' j ≡ block t j
block_agrees t t' j l s h =
    ext_get_or 0 (block t' j) (block t j) (block_long t' j (omega arith) ∙ sym (block_long t j h))
    (λ x m.
    let q : x < 256 = omega (arith, block_long t' j (omega arith)) in
    block_at_lem t' j x q ∙ s (block_at j + x) (omega arith) ∙ sym (block_at_lem t j x q))

-- ---- at one block

module _ (f : List ℕ → List ℕ) (sized : Sized f) (t : List ℕ) (k : ℕ) (h : Has t k) where
  long : length (f (block t k)) ≡ 256
  long = sized (block t k) (block_long t k h)

  pub on_block_long : length (on_block f k t) ≡ length t
  on_block_long = with_long t k (f (block t k)) h long

  pub on_block_same : block (on_block f k t) k ≡ f (block t k)
  on_block_same = with_block_lem t k (f (block t k)) h long

  pub on_block_other : (j : ℕ) → Has t j → (j ≡ k → ⊥) → block (on_block f k t) j ≡ block t j
  on_block_other j hj n = with_other t k (f (block t k)) h long j n hj

  pub on_block_header : (x : ℕ) → x < 32 → get_or (on_block f k t) x 0 ≡ get_or t x 0
  on_block_header x l = with_before t k (f (block t k)) h long x (omega arith)

pub on_block_words : (f : List ℕ → List ℕ) → Wordly f → (t : List ℕ) (k : ℕ) → Words t → Words (on_block f k t)
on_block_words f g t k w = with_block_words t k (f (block t k)) w (g (block t k) (block_words t k w))

-- ---- at all

module _ (f : ℕ → List ℕ → List ℕ) (sized : (j : ℕ) → Sized (f j)) (t : List ℕ) where
  module _ (c : ℕ) (all : length t ≡ 32 + 256 * c) where
    pub on_blocks_long : (n : ℕ) → n ≤ c → length (on_blocks f n t) ≡ length t
    unfolding on_blocks
    on_blocks_long zero h = refl
    on_blocks_long (suc n) h =
        on_block_long (f n) (sized n) (on_blocks f n t) n (omega (arith, on_blocks_long n (omega arith))) ∙ on_blocks_long n (omega arith)

    has : (n k : ℕ) → n ≤ c → k < c → Has (on_blocks f n t) k
    has n k h l = omega (arith, on_blocks_long n h)

    pub on_blocks_header : (n : ℕ) → n ≤ c → (x : ℕ) → x < 32 → get_or (on_blocks f n t) x 0 ≡ get_or t x 0
    unfolding on_blocks
    on_blocks_header zero h x l = refl
    on_blocks_header (suc n) h x l =
        on_block_header (f n) (sized n) (on_blocks f n t) n (has n n (omega arith) h) x l ∙ on_blocks_header n (omega arith) x l

    later : (n : ℕ) → n ≤ c → (k : ℕ) → n ≤ k → k < c → block (on_blocks f n t) k ≡ block t k
    unfolding on_blocks
    later zero h k l m = refl
    later (suc n) h k l m =
        on_block_other (f n) (sized n) (on_blocks f n t) n (has n n (omega arith) h) k (has n k (omega arith) m) (λ e. omega arith)
        ∙ later n (omega arith) k (omega arith) m

    -- the block of each core is its own function's
    pub on_blocks_at : (n : ℕ) → n ≤ c → (k : ℕ) → k < n → block (on_blocks f n t) k ≡ f k (block t k)
    unfolding on_blocks
    on_blocks_at zero h k l = absurd (omega arith)
    on_blocks_at (suc n) h k l =
        ⊎_elim
        (λ m.
        on_block_other (f n) (sized n) (on_blocks f n t) n (has n n (omega arith) h) k (has n k (omega arith) (omega arith)) (λ e. omega arith)
        ∙ on_blocks_at n (omega arith) k m)
        (λ m.
        let e : k ≡ n = omega arith in
        subst (λ (j : ℕ). block (on_block (f n) n (on_blocks f n t)) j ≡ f j (block t j)) (sym e)
        (on_block_same (f n) (sized n) (on_blocks f n t) n (has n n (omega arith) h) ∙ ap (f n) (later n (omega arith) n (omega arith) h)))
        (side k n)

pub on_blocks_words : (f : ℕ → List ℕ → List ℕ) → ((j : ℕ) → Wordly (f j)) → (t : List ℕ) (n : ℕ) → Words t → Words (on_blocks f n t)
unfolding on_blocks
on_blocks_words f g t zero w = w
on_blocks_words f g t (suc n) w = on_block_words (f n) (g n) (on_blocks f n t) n (on_blocks_words f g t n w)
