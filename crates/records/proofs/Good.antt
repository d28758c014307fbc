-- Linked records as a record over the three lists, which the laws use, and that it is what the test says.
-- Assumes nothing.
use mathlib.Core.Path.{◌≡◌, refl, sym, ◌∙◌}
use mathlib.Core.Logic.{⊎_elim}
use Prim.Native.Nat.{ℕ, zero, suc, ◌+◌, ◌<◌, ◌≤◌}
use mathlib.Core.Bool.{Bool, true, false, ◌&&◌, false≢true}
use mathlib.Core.List.{List, ◌++◌}
use native.Mathlib.Omega.{arith}
use lib.ListN.{length, get_or, length-append}
use lib.Dec.{eqb, ltb}
use borrow.Author.Tests.{eqb-true, eq-eqb, leb-true, le-leb, ltb-true, lt-ltb}
use Rattle.layout.specs.Layout.{record_at, store_head, walk_head, free_head}
use Rattle.records.specs.Records.{chain, chain_at, count, numbers, blank, last_blank, once_each, no_other, few_stores, few_walks, free_blank, walks_blank, first_blank, linked}
use Rattle.records.proofs.Counts.{all_elim, all_intro, each_elim, each_intro, count_append, count_cases, total_length, total_each}
use Rattle.records.proofs.Links.{links_chain, chain_links}
use Rattle.records.proofs.Three.{Three}
use Rattle.word.proofs.Truth.{and_left, and_right, and_both}

pub record Good (b ss ws fs : List ℕ) : Type 0 where
  pub three : Three b store_head ss walk_head ws fs
  pub few_s : length ss ≤ 8
  pub few_w : length ws ≤ 23
  pub free_blank_lem : (n : ℕ) → 0 < count n fs → blank b n ≡ true
  pub walk_blank : (n : ℕ) → 0 < count n ws → last_blank b n ≡ true
  pub zero_link : get_or b (record_at 0) 0 ≡ 0
  pub zero_blank : blank b 0 ≡ true

chain_pos : (k : ℕ) (b : List ℕ) (m n : ℕ) → 0 < count n (chain k b m) → 0 < n
unfolding chain count
chain_pos zero b m n p = absurd (omega arith)
chain_pos (suc k) b zero n p = absurd (omega arith)
chain_pos (suc k) b (suc m) n p = ⊎_elim (λ q. omega arith) (λ q. chain_pos k b (get_or b (record_at (suc m)) 0) n q) (count_cases n (suc m) (chain k b (get_or b (record_at (suc m)) 0)) p)

pub three_append : (n : ℕ) (r s t : List ℕ) → count n (r ++ (s ++ t)) ≡ count n r + (count n s + count n t)
three_append n r s t = omega (arith, count_append n r (s ++ t), count_append n s t)

-- there are 31 records
pub all_31 : (r s t : List ℕ) → ((n : ℕ) → 0 < n → n < 32 → count n r + (count n s + count n t) ≡ 1)
    → ((n : ℕ) → 0 < count n r + (count n s + count n t) → (0 < n) × (n < 32)) → length r + (length s + length t) ≡ 31
all_31 r s t o w =
    omega (
      arith,
      total_length 31 (r ++ (s ++ t)) (λ n p. let v = w n (omega (arith, three_append n r s t)) in (v.0, omega (arith, v.1))),
      total_each 31 (r ++ (s ++ t)) (λ n p q. three_append n r s t ∙ o n p (omega arith)),
      length-append r (s ++ t),
      length-append s t,
    )

pub good_chains : {b ss ws fs : List ℕ} → Good b ss ws fs → (chain_at b store_head ≡ ss) × (chain_at b walk_head ≡ ws) × (chain_at b free_head ≡ fs)
good_chains {b} {ss} {ws} {fs} G =
    (links_chain 32 b store_head ss G.three.one (omega (arith, n)), links_chain 32 b walk_head ws G.three.two (omega (arith, n)), links_chain 32 b free_head fs G.three.free (omega (arith, n)))
  where
    n : length ss + (length ws + length fs) ≡ 31
    n = all_31 ss ws fs G.three.once G.three.below

pub good_linked : {b ss ws fs : List ℕ} → Good b ss ws fs → linked b ≡ true
unfolding linked
good_linked {b} {ss} {ws} {fs} G =
    simp ((good_chains G).0, (good_chains G).1, (good_chains G).2)
    (and_both _ _ (each_intro _ 31 (λ n p q. eq-eqb _ 1 (three_append n ss ws fs ∙ G.three.once n p (omega arith))))
    (and_both _ _ (all_intro _ _ (λ n p. lt-ltb n 32 (G.three.below n (omega (arith, three_append n ss ws fs))).1))
    (and_both _ _ (le-leb _ 8 G.few_s)
    (and_both _ _ (le-leb _ 23 G.few_w)
    (and_both _ _ (all_intro _ fs G.free_blank_lem)
    (and_both _ _ (all_intro _ ws G.walk_blank)
    (and_both _ _ (eq-eqb _ 0 G.zero_link) G.zero_blank)))))))

-- the parts of a test
pub parts : (b : List ℕ) → linked b ≡ true
    → (once_each b ≡ true) × (no_other b ≡ true) × (few_stores b ≡ true) × (few_walks b ≡ true) × (free_blank b ≡ true) × (walks_blank b ≡ true) × (first_blank b ≡ true)
unfolding linked
parts b = seven (once_each b) (no_other b) (few_stores b) (few_walks b) (free_blank b) (walks_blank b) (first_blank b)
  where
    seven : (p q r s t u v : Bool) → p && (q && (r && (s && (t && (u && v))))) ≡ true
        → (p ≡ true) × (q ≡ true) × (r ≡ true) × (s ≡ true) × (t ≡ true) × (u ≡ true) × (v ≡ true)
    seven true true true true true true v e = (refl, refl, refl, refl, refl, refl, e)
    seven true true true true true false v e = absurd (false≢true e)
    seven true true true true false u v e = absurd (false≢true e)
    seven true true true false t u v e = absurd (false≢true e)
    seven true true false s t u v e = absurd (false≢true e)
    seven true false r s t u v e = absurd (false≢true e)
    seven false q r s t u v e = absurd (false≢true e)

module _ (b : List ℕ) (e : linked b ≡ true) where
  once_of : (n : ℕ) → 0 < n → n < 32 → count n (chain_at b store_head) + (count n (chain_at b walk_head) + count n (chain_at b free_head)) ≡ 1
  once_of n p q =
      sym (three_append n (chain_at b store_head) (chain_at b walk_head) (chain_at b free_head))
      ∙ eqb-true _ 1 (each_elim (λ n. eqb (count n (numbers b)) 1) 31 n (parts b e).0 p (omega arith))

  below_of : (n : ℕ) → 0 < count n (chain_at b store_head) + (count n (chain_at b walk_head) + count n (chain_at b free_head)) → (0 < n) × (n < 32)
  below_of n p = (
    go (count n (chain_at b store_head)) (count n (chain_at b walk_head)) (chain_pos 32 b (get_or b store_head 0) n) (chain_pos 32 b (get_or b walk_head 0) n) (chain_pos 32 b (get_or b free_head 0) n) p,
    ltb-true n 32 (all_elim (λ n. ltb n 32) (numbers b) n (parts b e).1 (omega (arith, three_append n (chain_at b store_head) (chain_at b walk_head) (chain_at b free_head)))),
  )
    where
      go : (x y : ℕ) {z : ℕ} → (0 < x → 0 < n) → (0 < y → 0 < n) → (0 < z → 0 < n) → 0 < x + (y + z) → 0 < n
      go zero zero f g h q = h (omega arith)
      go zero (suc y) f g h q = g (omega arith)
      go (suc x) y f g h q = f (omega arith)

  pub all_of : length (chain_at b store_head) + (length (chain_at b walk_head) + length (chain_at b free_head)) ≡ 31
  all_of = all_31 (chain_at b store_head) (chain_at b walk_head) (chain_at b free_head) once_of below_of

  pub linked_good : length b ≡ 256 → Good b (chain_at b store_head) (chain_at b walk_head) (chain_at b free_head)
  linked_good long =
      record {
        three =
            record {
              long = long;
              low_h = omega arith;
              low_g = omega arith;
              apart = omega arith;
              one = chain_links 32 b store_head (get_or b store_head 0) refl (omega (arith, all_of));
              two = chain_links 32 b walk_head (get_or b walk_head 0) refl (omega (arith, all_of));
              free = chain_links 32 b free_head (get_or b free_head 0) refl (omega (arith, all_of));
              once = once_of;
              below = below_of;
            };
        few_s = leb-true _ 8 (parts b e).2;
        few_w = leb-true _ 23 (parts b e).3;
        free_blank_lem = λ n. all_elim (blank b) (chain_at b free_head) n (parts b e).4;
        walk_blank = λ n. all_elim (last_blank b) (chain_at b walk_head) n (parts b e).5;
        zero_link = eqb-true _ 0 (and_left (eqb (get_or b (record_at 0) 0) 0) (blank b 0) (parts b e).6);
        zero_blank = and_right (eqb (get_or b (record_at 0) 0) 0) (blank b 0) (parts b e).6;
      }
