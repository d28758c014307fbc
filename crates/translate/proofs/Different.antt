-- How many different numbers a list has: as many as are kept when each is asked for in turn.
-- Assumes nothing.
use Rattle.std.specs.Prelude.{if◌then◌else◌}
use mathlib.Core.Path.{◌≡◌, refl, sym, ap, ◌∙◌}
use mathlib.Core.Bool.{Bool, true, false, ◌&&◌, ◌||◌, not, true≢false, false≢true}
use mathlib.Core.List.{List, [], ◌∷◌, ◌++◌}
use Prim.Native.Nat.{ℕ, suc, ◌+◌, ◌≤◌}
use native.Mathlib.Omega.{arith}
use lib.Dec.{eqb}
use lib.ListN.{length, take, length-append}
use lib.Seq.{length-take-le}
use borrow.Author.Tests.{eq-eqb, ne_eqb, eqb-true, eqb-false}
use Rattle.word.specs.Word.{flag}
use Rattle.word.proofs.Truth.{and-true}
use Rattle.reach.specs.Lists.{has, select}
use Rattle.reach.proofs.Lists.{has_append, select_same}
use Rattle.translate.specs.Translate.{different, is_there}
use Rattle.translate.specs.inner.Cache.{cache, cache_all, Asked}

-- ---- one number less

-- a number that stands in front counts once, whether it comes again (b) or not
once : (b : Bool) (x y : ℕ) → x ≡ flag b + y → (if b then x else suc x) ≡ suc y
once true x y e = omega arith
once false x y e = omega arith

module _ (p : ℕ → Bool) (a : ℕ) where
  -- those that pass a test, without a
  abbrev without : ℕ → Bool
  without x = p x && not (eqb x a)

  has_without : (y : ℕ) (l : List ℕ) → (y ≡ a → ⊥) → has y (select without l) ≡ has y (select p l)
  unfolding has select
  has_without y [] d = refl
  has_without y (x ∷ l) d = go (p x) (eqb x a) refl (has_without y l d)
    where
      go : (s t : Bool) → eqb x a ≡ t → has y (select without l) ≡ has y (select p l)
          → has y (if s && not t then x ∷ select without l else select without l) ≡ has y (if s then x ∷ select p l else select p l)
      go true true e h = rw (ne_eqb y x (λ q. d (q ∙ eqb-true x a e))) h
      go true false e h = ap (λ (b : Bool). eqb y x || b) h
      go false t e h = h

  one_less : (l : List ℕ) → different (select p l) ≡ flag (has a (select p l)) + different (select without l)
  unfolding different has select
  one_less [] = refl
  one_less (x ∷ l) = go (p x) (eqb x a) refl (one_less l) (has_without x l)
    where
      P : List ℕ
      P = select p l

      Q : List ℕ
      Q = select without l

      there : (b c d : Bool) → c ≡ d → different P ≡ flag b + different Q → (if d then different P else suc (different P)) ≡ flag b + (if c then different Q else suc (different Q))
      there b true true f e = e
      there b false false f e = omega arith
      there b true false f e = absurd (true≢false f)
      there b false true f e = absurd (false≢true f)

      go : (s t : Bool) → eqb x a ≡ t → different P ≡ flag (has a P) + different Q → ((x ≡ a → ⊥) → has x Q ≡ has x P)
          → different (if s then x ∷ P else P) ≡ flag (has a (if s then x ∷ P else P)) + different (if s && not t then x ∷ Q else Q)
      go true true e h f =
          let q = eqb-true x a e in
          rw (eq-eqb a x (sym q)) (ap (λ (z : ℕ). if has z P then different P else suc (different P)) q ∙ once (has a P) (different P) (different Q) h ∙ omega arith)
      go true false e h f =
          let d = eqb-false x a e in
          rw (ne_eqb a x (λ q. d (sym q))) (there (has a P) (has x Q) (has x P) (f d) h)
      go false t e h f = h

  first_counted : (l : List ℕ) → different (a ∷ select p l) ≡ suc (different (select without l))
  unfolding different
  first_counted l = once (has a (select p l)) (different (select p l)) (different (select without l)) (one_less l)

-- ---- each asked for in turn

module _ (m : List ℕ) where
  -- an address is in memory, and not among those kept
  abbrev fresh : List ℕ → ℕ → Bool
  fresh k a = is_there m a && not (has a k)

  fresh_more : (k : List ℕ) (a x : ℕ) → fresh k x && not (eqb x a) ≡ fresh (k ++ (a ∷ [])) x
  unfolding has
  fresh_more k a x = rw (has_append x k (a ∷ [])) (go (is_there m x) (has x k) (eqb x a))
    where
      go : (s t u : Bool) → (s && not t) && not u ≡ s && not (t || (u || false))
      go true true u = refl
      go true false true = refl
      go true false false = refl
      go false t u = refl

  pub length_asked : (k l : List ℕ) → length (cache_all m k l) ≡ length k + different (select (fresh k) l)
  unfolding cache_all cache different select
  length_asked k [] = omega arith
  length_asked k (a ∷ l) = go (fresh k a) (length_asked k l) (length_asked (k ++ (a ∷ [])) l)
    where
      go : (b : Bool) → length (cache_all m k l) ≡ length k + different (select (fresh k) l)
          → length (cache_all m (k ++ (a ∷ [])) l) ≡ length (k ++ (a ∷ [])) + different (select (fresh (k ++ (a ∷ []))) l)
          → length (cache_all m (if b then k ++ (a ∷ []) else k) l) ≡ length k + different (if b then a ∷ select (fresh k) l else select (fresh k) l)
      go true e f =
          let g = first_counted (fresh k) a l ∙ ap (λ (z : List ℕ). suc (different z)) (select_same _ _ l (λ x i. fresh_more k a x)) in
          omega (arith, f, length-append k (a ∷ []), g)
      go false e f = e

  -- from nothing on
  pub asked_reads : (l : List ℕ) → length (cache_all m [] l) ≡ different (select (is_there m) l)
  unfolding has
  asked_reads l =
      let same = ap different (select_same (fresh []) (is_there m) l (λ x i. and-true (is_there m x))) in omega (arith, length_asked [] l, same)

  -- no more are kept than were asked for
  pub asked_few : (k l : List ℕ) → length (cache_all m k l) ≤ length k + length l
  unfolding cache_all cache
  asked_few k [] = omega arith
  asked_few k (a ∷ l) = go (fresh k a) (asked_few k l) (asked_few (k ++ (a ∷ [])) l)
    where
      go : (b : Bool) → length (cache_all m k l) ≤ length k + length l → length (cache_all m (k ++ (a ∷ [])) l) ≤ length (k ++ (a ∷ [])) + length l
          → length (cache_all m (if b then k ++ (a ∷ []) else k) l) ≤ length k + suc (length l)
      go true e f = omega (arith, f, length-append k (a ∷ []))
      go false e f = omega (arith, e)

  -- one list after another
  pub asked_append : (k l r : List ℕ) → cache_all m k (l ++ r) ≡ cache_all m (cache_all m k l) r
  unfolding cache_all
  asked_append k [] r = refl
  asked_append k (a ∷ l) r = asked_append (cache m k a) l r

-- ---- counts

module _ {m l : List ℕ} {n : ℕ} {keys : List ℕ} {c : ℕ} {keys' words' slots' : List ℕ} (A : Asked m l n keys c keys' words' slots') where
  kept_long : length (take c keys') ≡ c
  kept_long = length-take-le c keys' (omega (arith, A.kept.few, A.kept.keys_long))

  pub grows : n ≤ length keys → c ≤ n + length l
  grows h = omega (arith, kept_long, ap (length {A = ℕ}) A.addresses, asked_few m (take n keys) l, length-take-le n keys h)

-- what is kept after nothing was, is counted
pub counted : {m l : List ℕ} {keys : List ℕ} {c : ℕ} {keys' words' slots' : List ℕ} → Asked m l 0 keys c keys' words' slots' → c ≡ different (select (is_there m) l)
counted A = sym (kept_long A) ∙ ap (length {A = ℕ}) A.addresses ∙ asked_reads _ _
