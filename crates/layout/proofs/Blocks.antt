-- The block of a core as a part of the tables.
-- Assumes nothing.
use mathlib.Core.Path.{◌≡◌, refl, sym, ap, ◌∙◌}
use mathlib.Core.Logic.{◌≢◌, ⊎_elim, ◌⊎◌, inl, inr}
use Prim.Native.Nat.{ℕ, zero, suc, ◌+◌, ◌-◌, ◌*◌, ◌<◌, ◌≤◌}
use mathlib.Core.List.{List, ◌++◌}
use native.Mathlib.Omega.{arith}
use lib.ListN.{length, get_or, set, take, drop, length-append, length-take, length-drop, length-set, get_or-append}
use lib.Seq.{ext_get_or, get_or-take, get_or-drop, get_or-append-add, length-take-le, take_at, drop_at, drop-set-lt, get_or-set_other, get_or-set_same}
use native.Mathlib.Decide.{ℕ_discrete}
use Rattle.layout.specs.Blocks.{block, with_block}

-- core k has a block
abbrev pub Has : List ℕ → ℕ → Type 0
Has t k = 32 + 256 * k + 256 ≤ length t

-- the part of the tables from a to a + 256, where the block of core k starts at a
module _ (t : List ℕ) (k a : ℕ) (e : a ≡ 32 + 256 * k) where
  span : a + 256 - a ≡ 256
  span = omega arith

  pub part : take (a + 256 - a) (drop a t) ≡ block t k
  unfolding block
  part = rw (span, e) refl

  -- b in its place
  pub part_put : (b : List ℕ) → take a t ++ (b ++ drop (a + 256 - a) (drop a t)) ≡ with_block t k b
  unfolding with_block
  part_put b = rw (span, e) refl

  -- what f makes of it in its place
  pub part_done : (f : List ℕ → List ℕ) (b : List ℕ) → b ≡ f (take (a + 256 - a) (drop a t)) → take a t ++ (b ++ drop (a + 256 - a) (drop a t)) ≡ with_block t k (f (block t k))
  part_done f b q = part_put b ∙ ap (with_block t k) (q ∙ ap f part)

pub block_long : (t : List ℕ) (k : ℕ) → 32 + 256 * k + 256 ≤ length t → length (block t k) ≡ 256
unfolding block
block_long t k h = simp (length-take, length-drop) (omega arith)

pub block_at_lem : (t : List ℕ) (k i : ℕ) → i < 256 → get_or (block t k) i 0 ≡ get_or t (32 + 256 * k + i) 0
unfolding block
block_at_lem t k i h = get_or-take 256 (drop (32 + 256 * k) t) i 0 h ∙ get_or-drop (32 + 256 * k) t i 0

-- two tables with the same words at core k's places have the same block
pub same_block : (s t : List ℕ) (k : ℕ) → length s ≡ length t → 32 + 256 * k + 256 ≤ length t → ((i : ℕ) → 32 + 256 * k ≤ i → i < 32 + 256 * k + 256 → get_or s i 0 ≡ get_or t i 0) → block s k ≡ block t k
same_block s t k e h f =
    let ls = block_long s k (omega arith) in
    ext_get_or 0 (block s k) (block t k) (ls ∙ sym (block_long t k h))
    (λ i p. block_at_lem s k i (omega (arith, ls)) ∙ f (32 + 256 * k + i) (omega arith) (omega (arith, ls)) ∙ sym (block_at_lem t k i (omega (arith, ls))))

module _ (t : List ℕ) (k : ℕ) (b : List ℕ) (h : 32 + 256 * k + 256 ≤ length t) (long : length b ≡ 256) where
  abbrev a : ℕ
  a = 32 + 256 * k

  start : length (take a t) ≡ a
  start = length-take-le a t (omega arith)

  pub with_long : length (with_block t k b) ≡ length t
  unfolding with_block
  with_long = simp (length-append, length-take, length-drop) (omega arith)

  -- the block that was put in
  pub with_block_lem : block (with_block t k b) k ≡ b
  unfolding with_block block
  with_block_lem = ap (take 256) (drop_at (take a t) (b ++ drop 256 (drop a t)) a start) ∙ take_at b (drop 256 (drop a t)) 256 long

  -- the words before it and after it
  pub with_before : (i : ℕ) → i < a → get_or (with_block t k b) i 0 ≡ get_or t i 0
  unfolding with_block
  with_before i p = get_or-append (take a t) (b ++ drop 256 (drop a t)) 0 i (omega (arith, start)) ∙ get_or-take a t i 0 p

  pub with_after : (i : ℕ) → a + 256 ≤ i → get_or (with_block t k b) i 0 ≡ get_or t i 0
  unfolding with_block
  with_after i p =
      let r : ℕ = i - (a + 256) in
      let e : i ≡ length (take a t) + (length b + r) = omega (arith, start) in
      let f : a + (256 + r) ≡ i = omega arith in
      ap (λ (j : ℕ). get_or (with_block t k b) j 0) e
      ∙ get_or-append-add (take a t) (b ++ drop 256 (drop a t)) (length b + r) 0
      ∙ get_or-append-add b (drop 256 (drop a t)) r 0
      ∙ get_or-drop 256 (drop a t) r 0 ∙ get_or-drop a t (256 + r) 0 ∙ ap (λ (j : ℕ). get_or t j 0) f

  pub with_outside : (i : ℕ) → (i < a) ⊎ (a + 256 ≤ i) → get_or (with_block t k b) i 0 ≡ get_or t i 0
  with_outside i o = ⊎_elim (with_before i) (with_after i) o

  pub with_header : (i : ℕ) → i < 32 → get_or (with_block t k b) i 0 ≡ get_or t i 0
  with_header i p = with_before i (omega arith)

  -- the blocks of the other cores
  pub with_other : (j : ℕ) → j ≢ k → 32 + 256 * j + 256 ≤ length t → block (with_block t k b) j ≡ block t j
  with_other j d l = same_block (with_block t k b) t j with_long l (λ i p q. ⊎_elim (λ r. with_before i (omega arith)) (λ r. with_after i (omega arith)) (side j k d))
    where
      side : (j k : ℕ) → j ≢ k → (j < k) ⊎ (k < j)
      side zero zero d = absurd (d refl)
      side zero (suc k) d = inl (omega arith)
      side (suc j) zero d = inr (omega arith)
      side (suc j) (suc k) d = ⊎_elim (λ p. inl (omega arith)) (λ p. inr (omega arith)) (side j k (λ e. d (ap suc e)))

-- a word of the header is written
pub set_block : (t : List ℕ) (i v k : ℕ) → i < 32 → block (set t i v) k ≡ block t k
unfolding block
set_block t i v k h = ap (take 256) (drop-set-lt (32 + 256 * k) t i v (omega arith))

-- a word of core k's block is written
module _ (t : List ℕ) (k i v : ℕ) (h : 32 + 256 * k + 256 ≤ length t) (l : i < 256) where
  abbrev c : List ℕ
  c = set (block t k) i v

  long : length c ≡ 256
  long = length-set (block t k) i v ∙ block_long t k h

  -- the words of the block that was put in
  inner : (j : ℕ) → j < 256 → get_or (with_block t k c) (32 + 256 * k + j) 0 ≡ get_or c j 0
  inner j q = sym (block_at_lem (with_block t k c) k j q) ∙ ap (λ (b : List ℕ). get_or b j 0) (with_block_lem t k c h long)

  pub set_own : set t (32 + 256 * k + i) v ≡ with_block t k c
  set_own =
      ext_get_or 0 (set t (32 + 256 * k + i) v) (with_block t k c) (length-set t (32 + 256 * k + i) v ∙ sym (with_long t k c h long))
      (λ j p. ⊎_elim (λ q. other j (omega arith) ∙ sym (with_before t k c h long j q))
      (λ q. ⊎_elim (λ r. within (j - (32 + 256 * k)) j (omega arith) (omega arith)) (λ r. other j (omega arith) ∙ sym (with_after t k c h long j r)) (side j (32 + 256 * k + 256)))
      (side j (32 + 256 * k)))
    where
      side : (x y : ℕ) → (x < y) ⊎ (y ≤ x)
      side zero zero = inr (omega arith)
      side zero (suc y) = inl (omega arith)
      side (suc x) zero = inr (omega arith)
      side (suc x) (suc y) = ⊎_elim (λ q. inl (omega arith)) (λ q. inr (omega arith)) (side x y)

      other : (j : ℕ) → j ≢ 32 + 256 * k + i → get_or (set t (32 + 256 * k + i) v) j 0 ≡ get_or t j 0
      other j d = get_or-set_other t (32 + 256 * k + i) j v 0 d

      either : {A B : Type 0} → Dec A → (A → B) → ((A → ⊥) → B) → B
      either (yes a) f g = f a
      either (no a) f g = g a

      within : (r j : ℕ) → j ≡ 32 + 256 * k + r → r < 256 → get_or (set t (32 + 256 * k + i) v) j 0 ≡ get_or (with_block t k c) j 0
      within r j e q =
          rw e
          (either (ℕ_discrete r i)
          (λ f. rw f (get_or-set_same t (32 + 256 * k + i) v 0 (omega arith) ∙ sym (inner i l ∙ get_or-set_same (block t k) i v 0 (omega (arith, block_long t k h)))))
          (λ d. other (32 + 256 * k + r) (omega arith) ∙ sym (inner r q ∙ get_or-set_other (block t k) i r v 0 d ∙ block_at_lem t k r q)))

  pub set_own_block : block (set t (32 + 256 * k + i) v) k ≡ set (block t k) i v
  set_own_block = ap (λ (u : List ℕ). block u k) set_own ∙ with_block_lem t k c h long

  pub set_own_other : (j : ℕ) → j ≢ k → 32 + 256 * j + 256 ≤ length t → block (set t (32 + 256 * k + i) v) j ≡ block t j
  set_own_other j d q = ap (λ (u : List ℕ). block u j) set_own ∙ with_other t k c h long j d q
