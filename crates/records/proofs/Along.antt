-- How far a loop along a chain has come.
-- Assumes nothing.
use mathlib.Core.Path.{◌≡◌, refl, sym, ap, subst, ◌∙◌}
use mathlib.Core.Logic.{⊎_elim, ◌≢◌}
use Prim.Native.Nat.{ℕ, ◌+◌, ◌<◌, ◌≤◌}
use mathlib.Core.Bool.{true}
use mathlib.Core.List.{List, [], ◌∷◌, ◌++◌, append_assoc, append-nil}
use native.Mathlib.Omega.{arith}
use lib.ListN.{length, get_or, length-append}
use borrow.Author.Tests.{lt-ltb}
use Rattle.layout.specs.Layout.{record_at, store_head, walk_head, free_head}
use Rattle.records.specs.Records.{chain, chain_at, count, all, small, end_of, linked}
use Rattle.records.proofs.Counts.{all_intro, count_head, count_append, count_tail}
use Rattle.records.proofs.Links.{Links, links_chain}
use Rattle.records.proofs.Three.{Three, end_cases}
use Rattle.records.proofs.Good.{linked_good, all_31}

-- the word that a chain starts from names a record below 32, or none
pub head_low : {b : List ℕ} {h g : ℕ} {ms os fs : List ℕ} → Three b h ms g os fs → (k : ℕ) (l : List ℕ) → Links b k l
    → ((n : ℕ) → count n l ≤ count n ms + (count n os + count n fs)) → get_or b k 0 < 32
head_low T k [] s f = omega (arith, s)
head_low T k (x ∷ l) s f = omega (arith, s.0, T.below x (omega (arith, f x, count_head x l)))

pub head_of : (b : List ℕ) → length b ≡ 256 → linked b ≡ true → (get_or b store_head 0 < 32) × (get_or b walk_head 0 < 32) × (get_or b free_head 0 < 32)
head_of b long e =
    let T = (linked_good b e long).three in
    (head_low T store_head (chain_at b store_head) T.one (λ n. omega arith), head_low T walk_head (chain_at b walk_head) T.two (λ n. omega arith), head_low T free_head (chain_at b free_head) T.free (λ n. omega arith))

pub end_snoc : (h : ℕ) (s : List ℕ) (x : ℕ) → end_of h (s ++ (x ∷ [])) ≡ record_at x
unfolding end_of
end_snoc h [] x = refl
end_snoc h (z ∷ s) x = end_snoc (record_at z) s x

pub snoc_append : (s : List ℕ) (x : ℕ) (t : List ℕ) → s ++ (x ∷ t) ≡ (s ++ (x ∷ [])) ++ t
snoc_append s x t = sym (append_assoc s (x ∷ []) t)

-- a chain of linked length in a block
pub record Chained (b : List ℕ) (h : ℕ) (l : List ℕ) : Type 0 where
  pub long : length b ≡ 256
  pub short : length l < 32
  pub low : (m : ℕ) → 0 < count m l → m < 32
  pub links : Links b h l

-- past the records `front` of the list l, at the word `at`, which names n, with `rest` to come
pub record Along (b : List ℕ) (h : ℕ) (l : List ℕ) (at n : ℕ) : Type 0 where
  pub chained : Chained b h l
  pub front : List ℕ
  pub rest : List ℕ
  pub whole : l ≡ front ++ rest
  pub here : at ≡ end_of h front
  pub on : Links b at rest
  pub now_at : get_or b at 0 ≡ n
  pub below : n < 32

unfoldable pub along_start : (b : List ℕ) (h : ℕ) (l : List ℕ) → Chained b h l → Along b h l h (get_or b h 0)
unfolding end_of
along_start b h l c =
    record { chained = c; front = []; rest = l; whole = refl; here = refl; on = c.links; now_at = refl; below = go l c.links c.low }
  where
    go : (l : List ℕ) → Links b h l → ((m : ℕ) → 0 < count m l → m < 32) → get_or b h 0 < 32
    go [] s f = omega (arith, s)
    go (x ∷ l) s f = omega (arith, s.0, f x (count_head x l))

pub end_low : {b : List ℕ} {h : ℕ} {l : List ℕ} → Chained b h l → h < 256 → end_of h l < 256
end_low {b} {h} {l} c p = ⊎_elim (λ e. omega arith) (λ w. omega (arith, w.1, c.low w.0 w.2)) (end_cases h l)

-- what comes first
pub along_first : {b : List ℕ} {h : ℕ} {l : List ℕ} {at n : ℕ} (A : Along b h l at n) → n ≢ 0
    → (t : List ℕ) × (A.rest ≡ n ∷ t) × Links b (record_at n) t
along_first {b} {h} {l} {at} {n} A d = go A.rest A.on
  where
    go : (r : List ℕ) → Links b at r → (t : List ℕ) × (r ≡ n ∷ t) × Links b (record_at n) t
    go [] s = absurd (d (sym A.now_at ∙ s))
    go (x ∷ t) s =
        let e : x ≡ n = sym s.0 ∙ A.now_at in
        (t, ap (λ (m : ℕ). m ∷ t) e, subst (λ (m : ℕ). Links b (record_at m) t) e s.2)

unfoldable pub along_next : {b : List ℕ} {h : ℕ} {l : List ℕ} {at n : ℕ} → Along b h l at n → n ≢ 0 → Along b h l (record_at n) (get_or b (record_at n) 0)
along_next {b} {h} {l} {at} {n} A d =
    record {
      chained = A.chained;
      front = A.front ++ (n ∷ []);
      rest = w.0;
      whole = A.whole ∙ ap (λ (r : List ℕ). A.front ++ r) w.1 ∙ snoc_append A.front n w.0;
      here = sym (end_snoc h A.front n);
      on = w.2;
      now_at = refl;
      below = low w.0 w.2 (λ m p. A.chained.low m (inside m p));
    }
  where
    w : (t : List ℕ) × (A.rest ≡ n ∷ t) × Links b (record_at n) t
    w = along_first A d

    inside : (m : ℕ) → 0 < count m w.0 → 0 < count m l
    inside m p = omega (arith, ap (count m) A.whole, count_append m A.front A.rest, ap (count m) w.1, count_tail m n w.0, p)

    low : (t : List ℕ) → Links b (record_at n) t → ((m : ℕ) → 0 < count m t → m < 32) → get_or b (record_at n) 0 < 32
    low [] s f = omega (arith, s)
    low (x ∷ t) s f = omega (arith, s.0, f x (count_head x t))

-- at zero, the whole list is passed
pub along_end : {b : List ℕ} {h : ℕ} {l : List ℕ} {at n : ℕ} (A : Along b h l at n) → n ≡ 0 → A.rest ≡ []
along_end {b} {h} {l} {at} {n} A e = go A.rest A.on
  where
    go : (r : List ℕ) → Links b at r → r ≡ []
    go [] s = refl
    go (x ∷ t) s = absurd (omega (arith, s.0, s.1, A.now_at))

-- so the place is where the list ends
pub along_last : {b : List ℕ} {h : ℕ} {l : List ℕ} {at n : ℕ} → Along b h l at n → n ≡ 0 → at ≡ end_of h l
along_last {h = h} A e = A.here ∙ ap (end_of h) (sym (A.whole ∙ ap (λ (r : List ℕ). A.front ++ r) (along_end A e) ∙ append-nil A.front))

-- what is to come is as long as the chain from n, and falls
pub along_chain : {b : List ℕ} {h : ℕ} {l : List ℕ} {at n : ℕ} (A : Along b h l at n) → chain 32 b n ≡ A.rest
along_chain {b} {h} {l} {at} {n} A =
    rw (← A.now_at) (links_chain 32 b at A.rest A.on (omega (arith, A.chained.short, ap (λ (r : List ℕ). length r) A.whole, length-append A.front A.rest)))

pub along_less : {b : List ℕ} {h : ℕ} {l : List ℕ} {at n : ℕ} → Along b h l at n → n ≢ 0 → length (chain 32 b (get_or b (record_at n) 0)) < length (chain 32 b n)
unfolding along_next
along_less {b} {h} {l} {at} {n} A d =
    omega (arith, ap (λ (r : List ℕ). length r) (along_chain A), ap (λ (r : List ℕ). length r) (along_chain (along_next A d)), ap (λ (r : List ℕ). length r) (along_first A d).1)

pub store_chain : (b : List ℕ) → length b ≡ 256 → linked b ≡ true → Chained b store_head (chain_at b store_head)
store_chain b long e =
    let T = (linked_good b e long).three in
    record { long = long; short = omega (arith, all_31 (chain_at b store_head) (chain_at b walk_head) (chain_at b free_head) T.once T.below); low = λ m p. (T.below m (omega arith)).1; links = T.one }

pub walk_chain : (b : List ℕ) → length b ≡ 256 → linked b ≡ true → Chained b walk_head (chain_at b walk_head)
walk_chain b long e =
    let T = (linked_good b e long).three in
    record { long = long; short = omega (arith, all_31 (chain_at b store_head) (chain_at b walk_head) (chain_at b free_head) T.once T.below); low = λ m p. (T.below m (omega arith)).1; links = T.two }

chained_small : {b : List ℕ} {h : ℕ} {l : List ℕ} → Chained b h l → all small l ≡ true
chained_small {l = l} c = all_intro small l (λ n p. lt-ltb n 32 (c.low n p))

pub stores_small : (b : List ℕ) → length b ≡ 256 → linked b ≡ true → all small (chain_at b store_head) ≡ true
stores_small b long e = chained_small (store_chain b long e)

pub walks_small : (b : List ℕ) → length b ≡ 256 → linked b ≡ true → all small (chain_at b walk_head) ≡ true
walks_small b long e = chained_small (walk_chain b long e)
