-- The loop that chains the records of a new block.
-- Assumes nothing.
use mathlib.Core.Path.{◌≡◌, refl, sym, ap, ◌∙◌}
use Prim.Native.Nat.{ℕ, zero, suc, ◌+◌, ◌*◌, ◌^◌, ◌<◌, ◌≤◌}
use mathlib.Core.List.{List, ◌∷◌, ◌++◌, append_assoc, append-nil}
use native.Mathlib.Omega.{arith}
use native.Mathlib.Numerals.{add-one}
use lib.ListN.{length, set, take, drop, replicate, length-set, length-append, length-drop, drop_of_length-le}
use lib.Seq.{take_at, drop_at, drop-drop, length-take-le}
use lib.Dec.{eqb}
use mir.Val.{bool_byte}
use borrow.Author.Tests.{ne_eqb}
use Rattle.layout.specs.Layout.{record_at}
use Rattle.layout.specs.Blocks.{with_block}
use Rattle.tables.specs.Make.{chained, made_running, made_block, made_blocks, made}

pub record Chaining (d : List ℕ) (r : ℕ) (b : List ℕ) : Type 0 where
  pub long : length d ≡ 256
  pub bound : r ≤ 30
  pub done : b ≡ chained r d

pub chaining_start : (d : List ℕ) → length d ≡ 256 → Chaining d 0 d
unfolding chained
chaining_start d e = record { long = e; bound = omega arith; done = refl }

chained_long : (r : ℕ) (d : List ℕ) → length (chained r d) ≡ length d
unfolding chained
chained_long zero d = refl
chained_long (suc r) d = length-set (chained r d) (record_at (suc r)) (suc (suc r)) ∙ chained_long r d

chained_next : (r : ℕ) (d : List ℕ) → set (chained r d) (record_at (r + 1)) (r + 1 + 1) ≡ chained (r + 1) d
unfolding chained
chained_next r d = rw (add-one (r + 1), add-one r)

module _ {d : List ℕ} {r : ℕ} {b : List ℕ} (C : Chaining d r b) where
  pub chaining_long : length b ≡ 256
  chaining_long = ap (λ (l : List ℕ). length l) C.done ∙ chained_long r d ∙ C.long

  pub chaining_next : r < 30 → Chaining d (r + 1) (set b (record_at (r + 1)) (r + 1 + 1))
  chaining_next h = record { long = C.long; bound = omega arith; done = ap (λ (l : List ℕ). set l (record_at (r + 1)) (r + 1 + 1)) C.done ∙ chained_next r d }

  -- the loop's own count runs one ahead
  pub chaining_turn : (s n : ℕ) → s ≡ r + 1 → n ≡ r + 1 → r < 30 → Chaining d n (set b (record_at s) (s + 1))
  chaining_turn s n e f h = rw (e, f) (chaining_next h)

  pub chaining_end : 30 ≤ r → b ≡ chained 30 d
  chaining_end h = let e : r ≡ 30 = omega (arith, C.bound) in C.done ∙ ap (λ (s : ℕ). chained s d) e

running_of : (k : ℕ) → bool_byte (eqb k 0) ≡ made_running k
running_of zero = refl
running_of (suc k) = ap bool_byte (ne_eqb (suc k) 0 (omega arith))

-- the stores of make_block
pub block_made : (l : List ℕ) (m k : ℕ) → m ≡ 256 → l ≡ replicate m 0 → chained 30 (set (set (set l 67 (bool_byte (eqb k 0))) 70 1) 72 (k * 16777216)) ≡ made_block k
unfolding made_block
block_made l m k e f =
    ap (λ (r : List ℕ). chained 30 (set (set (set r 67 (bool_byte (eqb k 0))) 70 1) 72 (k * 16777216))) (f ∙ ap (λ (j : ℕ). replicate j 0) e)
    ∙ ap (λ (v : ℕ). chained 30 (set (set (set (replicate 256 0) 67 v) 70 1) 72 (k * 16777216))) (running_of k)

-- the stores of make_header
pub header_made : (l t : List ℕ) (n p : ℕ) → 32 ≤ length t → l ≡ replicate (length (take 32 t)) 0 → set (set (l ++ drop 32 t) 0 n) 1 p ≡ n ∷ p ∷ replicate 30 0 ++ drop 32 t
header_made l t n p h e =
    let f : length (take 32 t) ≡ 32 = length-take-le 32 t h in
    ap (λ (r : List ℕ). set (set (r ++ drop 32 t) 0 n) 1 p) (e ∙ ap (λ (j : ℕ). replicate j 0) f)

-- ---- the loop over the cores: the blocks of the first k are made, and the rest is as it was

pub block_long : (k : ℕ) → length (made_block k) ≡ 256
unfolding made_block
block_long k =
    let b : List ℕ = replicate 256 0 in
    chained_long 30 (set (set (set b 67 (made_running k)) 70 1) 72 (k * 2 ^ 24)) ∙ simp length-set

pub blocks_long : (k : ℕ) → length (made_blocks k) ≡ 256 * k
unfolding made_blocks
blocks_long zero = refl
blocks_long (suc k) = length-append (made_blocks k) (made_block k) ∙ omega (arith, blocks_long k, block_long k)

abbrev front : ℕ → ℕ → ℕ → List ℕ
front n p k = n ∷ p ∷ replicate 30 0 ++ made_blocks k

front_long : (n p k : ℕ) → length (front n p k) ≡ 32 + 256 * k
front_long n p k = omega (arith, length-append (replicate {A = ℕ} 30 0) (made_blocks k), blocks_long k)

pub record Filling (t : List ℕ) (n p k : ℕ) (l : List ℕ) : Type 0 where
  pub few : n ≤ 4
  pub long : length t ≡ 32 + 256 * n
  pub bound : k ≤ n
  pub done : l ≡ front n p k ++ drop (32 + 256 * k) t

pub filling_start : (l t : List ℕ) (n p : ℕ) → n ≤ 4 → length l ≡ 32 + 256 * n → l ≡ n ∷ p ∷ replicate 30 0 ++ drop 32 t → Filling l n p 0 l
unfolding made_blocks
filling_start l t n p few long e =
    record { few = few; long = long; bound = omega arith; done = e ∙ ap (λ (r : List ℕ). n ∷ p ∷ replicate 30 0 ++ r) (sym (ap (drop 32) e)) }

module _ {t : List ℕ} {n p k : ℕ} {l : List ℕ} (F : Filling t n p k l) where
  pub filling_long : length l ≡ length t
  filling_long =
      ap (λ (r : List ℕ). length r) F.done ∙ length-append (front n p k) (drop (32 + 256 * k) t)
      ∙ omega (arith, front_long n p k, length-drop (32 + 256 * k) t, F.long, F.bound)

  pub filling_next : k < n → Filling t n p (k + 1) (with_block l k (made_block k))
  unfolding with_block made_blocks
  filling_next h =
      let fl = front_long n p k in
      let e : 32 + 256 * k + 256 ≡ 32 + 256 * (k + 1) = omega arith in
      record {
        few = F.few;
        long = F.long;
        bound = omega arith;
        done =
            ap (λ (r : List ℕ). with_block r k (made_block k)) F.done
            ∙ (λ i. take_at (front n p k) (drop (32 + 256 * k) t) (32 + 256 * k) fl i ++ (made_block k ++ drop 256 (drop_at (front n p k) (drop (32 + 256 * k) t) (32 + 256 * k) fl i)))
            ∙ sym (append_assoc (front n p k) (made_block k) (drop 256 (drop (32 + 256 * k) t)))
            ∙ (λ i. grown i ++ (drop-drop 256 (32 + 256 * k) t ∙ ap (λ (j : ℕ). drop j t) e) i);
      }
    where
      grown : front n p k ++ made_block k ≡ front n p (k + 1)
      grown = rw (add-one k) (ap (λ (r : List ℕ). n ∷ p ∷ r) (append_assoc (replicate 30 0) (made_blocks k) (made_block k)))

  pub filling_end : n ≤ k → l ≡ made n p
  unfolding made
  filling_end h =
      let e : k ≡ n = omega (arith, F.bound) in
      let s : length t ≤ 32 + 256 * n = omega (arith, F.long) in
      F.done ∙ ap (λ (j : ℕ). front n p j ++ drop (32 + 256 * j) t) e
      ∙ ap (λ (r : List ℕ). front n p n ++ r) (drop_of_length-le t s) ∙ append-nil (front n p n)
