-- What three tallies give: each record counted once, and the chains ruled.
use mathlib.Core.Path.{◌≡◌, refl, sym, ap, ◌∙◌}
use Prim.Native.Nat.{ℕ, zero, suc, ◌+◌, ◌<◌, ◌≤◌}
use mathlib.Core.Bool.{Bool, true, false, ◌&&◌}
use mathlib.Core.List.{List, [], ◌∷◌}
use native.Mathlib.Omega.{arith}
use native.Mathlib.Decide.{dec_lt}
use lib.ListN.{length, get_or, replicate, get_or-replicate, get_or-eq_default}
use lib.Dec.{eqb}
use Rattle.layout.specs.Layout.{record_at, store_head, walk_head, free_head}
use Rattle.word.specs.Word.{flag}
use Rattle.word.proofs.Truth.{and_left, and_right, and_both}
use Rattle.records.specs.Records.{chain, chain_at, count, each, numbers, once_each}
use Rattle.records.specs.declared.check.Rule.{Rule}
use Rattle.records.specs.declared.check.Rule.TheVariants.{Blank, Store, Walk}
use Rattle.records.specs.inner.Rules.{chain_fits, ruled}
use Rattle.records.specs.inner.Tallied.{Tallied}
use Rattle.records.proofs.Counts.{either}
use Rattle.records.proofs.Good.{three_append}

-- a test that a passed one implies, and that fails
pub fails : (p q : Bool) → (q ≡ true → p ≡ true) → p ≡ false → false ≡ q
fails p true f e = sym e ∙ f refl
fails p false f e = refl

and-true : (p q : Bool) → p ≡ true → q ≡ p && q
and-true p q e = rw e

module _ (n : ℕ) (b : List ℕ) where
  -- the three chains that are ruled
  pub ruled_of : ruled n b ≡ true
      → (chain_fits (Store n) 8 b store_head ≡ true) × (chain_fits Walk 23 b walk_head ≡ true) × (chain_fits Blank 31 b free_head ≡ true)
  unfolding ruled
  ruled_of e =
      let f = and_right (chain_fits (Store n) 8 b store_head) _ e in
      (and_left (chain_fits (Store n) 8 b store_head) _ e, and_left (chain_fits Walk 23 b walk_head) _ f, and_right (chain_fits Walk 23 b walk_head) _ f)

  pub ruled_all : chain_fits (Store n) 8 b store_head ≡ true → chain_fits Walk 23 b walk_head ≡ true → chain_fits Blank 31 b free_head ≡ true → ruled n b ≡ true
  unfolding ruled
  ruled_all e f g = and_both (chain_fits (Store n) 8 b store_head) _ e (and_both (chain_fits Walk 23 b walk_head) _ f g)

-- the counts of three tallies
chain_length : (k : ℕ) (b : List ℕ) (n : ℕ) → length (chain k b n) ≤ k
unfolding chain
chain_length zero b n = omega arith
chain_length (suc k) b zero = omega arith
chain_length (suc k) b (suc m) = omega (arith, chain_length k b (get_or b (record_at (suc m)) 0))

count_length : (n : ℕ) (l : List ℕ) → count n l ≤ length l
unfolding count
count_length n [] = omega arith
count_length n (x ∷ l) = omega (arith, count_length n l, bit_le (eqb n x))
  where
    bit_le : (t : Bool) → flag t ≤ 1
    bit_le true = omega arith
    bit_le false = omega arith

pub tallied_bound : (b : List ℕ) (h : ℕ) (rule : Rule) (most : ℕ) (s t : List ℕ) (r : Bool) (j : ℕ) → Tallied b h rule most s t r → r ≡ true → ((m : ℕ) → get_or s m 0 ≤ j) → (m : ℕ) → get_or t m 0 ≤ j + 32
tallied_bound b h rule most s t r j T e f m =
    either (dec_lt m 32)
    (λ p. omega (arith, T.counts e m p, f m, count_length m (chain_at b h), chain_length 32 b (get_or b h 0)))
    (λ p. omega (arith, get_or-eq_default t 0 {n = m} (omega (arith, T.long, p))))

abbrev pub zeros : List ℕ
zeros = replicate 32 0

pub none_seen : (m : ℕ) → get_or zeros m 0 ≡ 0
none_seen m = either (dec_lt m 32) (λ p. get_or-replicate 32 m 0 0 p) (λ p. get_or-eq_default zeros 0 {n = m} (omega arith))

each_ext : (p q : ℕ → Bool) (k : ℕ) → ((n : ℕ) → 0 < n → n ≤ k → p n ≡ q n) → each k p ≡ each k q
unfolding each
each_ext p q zero f = refl
each_ext p q (suc k) f = λ i. f (suc k) (omega arith) (omega arith) i && each_ext p q k (λ n h l. f n h (omega arith)) i

pub tallied_once : (k : ℕ) (b s t u v : List ℕ) (x y z : Bool) → ((m : ℕ) → get_or s m 0 ≡ 0) → Tallied b store_head (Store k) 8 s t x → Tallied b walk_head Walk 23 t u y → Tallied b free_head Blank 31 u v z
    → x ≡ true → y ≡ true → z ≡ true → each 31 (λ n. eqb (get_or v n 0) 1) ≡ ruled k b && once_each b
tallied_once k b s t u v x y z f S T U e₁ e₂ e₃ =
    each_ext (λ n. eqb (get_or v n 0) 1) (λ n. eqb (count n (numbers b)) 1) 31
    (λ n h l. ap (λ (m : ℕ). eqb m 1) (sum n (omega arith)))
    ∙ and-true (ruled k b) (once_each b) (ruled_all k b (sym S.result ∙ e₁) (sym T.result ∙ e₂) (sym U.result ∙ e₃))
  where
    sum : (n : ℕ) → n < 32 → get_or v n 0 ≡ count n (numbers b)
    sum n l = omega (arith, f n, S.counts e₁ n l, T.counts e₂ n l, U.counts e₃ n l, three_append n (chain_at b store_head) (chain_at b walk_head) (chain_at b free_head))

-- a tally that fails
module _ (n : ℕ) (b : List ℕ) (r : Bool) (f : r ≡ false) where
  pub once_fails_stores : r ≡ chain_fits (Store n) 8 b store_head → false ≡ ruled n b && once_each b
  once_fails_stores e = fails (chain_fits (Store n) 8 b store_head) (ruled n b && once_each b) (λ h. (ruled_of n b (and_left (ruled n b) (once_each b) h)).0) (sym e ∙ f)

  pub once_fails_walks : r ≡ chain_fits Walk 23 b walk_head → false ≡ ruled n b && once_each b
  once_fails_walks e = fails (chain_fits Walk 23 b walk_head) (ruled n b && once_each b) (λ h. (ruled_of n b (and_left (ruled n b) (once_each b) h)).1) (sym e ∙ f)

  pub once_fails_free : r ≡ chain_fits Blank 31 b free_head → false ≡ ruled n b && once_each b
  once_fails_free e = fails (chain_fits Blank 31 b free_head) (ruled n b && once_each b) (λ h. (ruled_of n b (and_left (ruled n b) (once_each b) h)).2) (sym e ∙ f)
