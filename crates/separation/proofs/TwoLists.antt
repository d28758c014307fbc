-- Two lists of steps over any step function: what one party observes.
-- Assumes nothing.
use Rattle.std.specs.Prelude.{if◌then◌else◌}
use mathlib.Core.Path.{◌≡◌, refl, sym, ap, ap₂, subst, ◌∙◌}
use mathlib.Core.Bool.{Bool, true, false, ◌&&◌}
use mathlib.Core.List.{List, [], ◌∷◌}
use Prim.Native.Nat.{ℕ, zero, suc}
use lib.ListN.{take}
use native.Mathlib.Omega.{arith}
use Rattle.word.proofs.Truth.{and_left, and_right, tested}
use Rattle.reach.specs.Lists.{select}

-- X states, S steps, A answers, O observations
module _ {X S A O : Type 0} (next : X → S → X) (answer : X → S → A) (see : X → O) (mine : S → Bool) where
  -- the answers to a party's steps, each with what it sees after it
  unfoldable pub trace : X → List S → List (A × O)
  trace x [] = []
  trace x (s ∷ l) = if mine s then (answer x s, see (next x s)) ∷ trace (next x s) l else trace (next x s) l

module _ {X S : Type 0} (next : X → S → X) (may : X → S → Bool) where
  -- each step of the list is one that may be taken where it stands
  unfoldable pub allowed : X → List S → Bool
  allowed x [] = true
  allowed x (s ∷ l) = may x s && allowed (next x s) l

  unfoldable pub reached : X → List S → X
  reached x [] = x
  reached x (s ∷ l) = reached (next x s) l

  -- what each allowed step keeps holds after any number of steps of an allowed list
  pub kept_after : (I : X → Type 0) → ((x : X) (s : S) → I x → may x s ≡ true → I (next x s))
      → (x : X) (l : List S) (n : ℕ) → I x → allowed x l ≡ true → I (reached x (take n l))
  unfolding allowed reached
  kept_after I k x [] zero h e = h
  kept_after I k x [] (suc n) h e = h
  kept_after I k x (s ∷ l) zero h e = h
  kept_after I k x (s ∷ l) (suc n) h e = kept_after I k (next x s) l n (k x s h (and_left (may x s) _ e)) (and_right (may x s) _ e)

module _ {X S A O : Type 0} (next : X → S → X) (answer : X → S → A) (see : X → O) (mine : S → Bool) (may : X → S → Bool) where
  trace_mine : (x : X) (s : S) (l : List S) → mine s ≡ true
      → trace next answer see mine x (s ∷ l) ≡ (answer x s, see (next x s)) ∷ trace next answer see mine (next x s) l
  unfolding trace
  trace_mine x s l e = rw e

  trace_other : (x : X) (s : S) (l : List S) → mine s ≡ false
      → trace next answer see mine x (s ∷ l) ≡ trace next answer see mine (next x s) l
  unfolding trace
  trace_other x s l e = rw e

  mine_cons : (s : S) (l : List S) → mine s ≡ true → select mine (s ∷ l) ≡ s ∷ select mine l
  unfolding select
  mine_cons s l e = rw e

  mine_other : (s : S) (l : List S) → mine s ≡ false → select mine (s ∷ l) ≡ select mine l
  unfolding select
  mine_other s l e = rw e

  -- the relation that the party's steps keep in pairs, and the others' steps on either side
  pub record Keeps (R : X → X → Type 0) : Type 0 where
    pub pair : (x y : X) (s : S) → R x y → mine s ≡ true → may x s ≡ true → may y s ≡ true
        → (answer x s ≡ answer y s) × R (next x s) (next y s)
    pub left : (x y : X) (s : S) → R x y → mine s ≡ false → may x s ≡ true → R (next x s) y
    pub right : (x y : X) (s : S) → R x y → mine s ≡ false → may y s ≡ true → R x (next y s)
    pub seen : (x y : X) → R x y → see x ≡ see y

  no_cons : {B : Type 0} (s : S) (l : List S) → s ∷ l ≡ [] → B
  no_cons s l e = absurd (let z : ◌≡◌ {A = ℕ} 0 1 = cc in omega arith)

  first : (s t : S) (l r : List S) → s ∷ l ≡ t ∷ r → s ≡ t
  first s t l r e = cc

  rest : (s t : S) (l r : List S) → s ∷ l ≡ t ∷ r → l ≡ r
  rest s t l r e = cc

  module _ (R : X → X → Type 0) (K : Keeps R) where
    abbrev pub Alike : List S → List S → Type 0
    Alike l r = (x y : X) → R x y → allowed next may x l ≡ true → allowed next may y r ≡ true → select mine l ≡ select mine r
        → trace next answer see mine x l ≡ trace next answer see mine y r

    may_first : (x : X) (s : S) (l : List S) → allowed next may x (s ∷ l) ≡ true → may x s ≡ true
    unfolding allowed
    may_first x s l e = and_left (may x s) _ e

    may_rest : (x : X) (s : S) (l : List S) → allowed next may x (s ∷ l) ≡ true → allowed next may (next x s) l ≡ true
    unfolding allowed
    may_rest x s l e = and_right (may x s) _ e

    nothing : (r : List S) → Alike [] r
    unfolding trace select
    nothing [] x y h p q e = refl
    nothing (t ∷ r) x y h p q e =
        tested (mine t)
        (λ m. no_cons t (select mine r) (sym (e ∙ mine_cons t r m)))
        (λ m. nothing r x (next y t) (K.right x y t h m (may_first y t r q)) p (may_rest y t r q) (e ∙ mine_other t r m) ∙ sym (trace_other y t r m))

    -- the first list begins with a step of the party; the second is gone through up to its own first one
    matched : (s : S) (l : List S) → mine s ≡ true → ((r : List S) → Alike l r) → (r : List S) → Alike (s ∷ l) r
    unfolding select
    matched s l m go [] x y h p q e = no_cons s (select mine l) (sym (mine_cons s l m) ∙ e)
    matched s l m go (t ∷ r) x y h p q e =
        tested (mine t)
        (λ n. both n (first s t _ _ (sym (mine_cons s l m) ∙ e ∙ mine_cons t r n)) (rest s t _ _ (sym (mine_cons s l m) ∙ e ∙ mine_cons t r n)))
        (λ n. matched s l m go r x (next y t) (K.right x y t h n (may_first y t r q)) p (may_rest y t r q) (e ∙ mine_other t r n) ∙ sym (trace_other y t r n))
      where
        both : mine t ≡ true → s ≡ t → select mine l ≡ select mine r → trace next answer see mine x (s ∷ l) ≡ trace next answer see mine y (t ∷ r)
        both n i f =
            let qs : may y s ≡ true = subst (λ (u : S). may y u ≡ true) (sym i) (may_first y t r q) in
            let k : (answer x s ≡ answer y s) × R (next x s) (next y s) = K.pair x y s h m (may_first x s l p) qs in
            let a : answer x s ≡ answer y t = k.0 ∙ ap (answer y) i in
            let g : R (next x s) (next y t) = subst (λ (u : S). R (next x s) (next y u)) i k.1 in
            trace_mine x s l m
            ∙ ap₂ ◌∷◌ (λ j. (a j, K.seen (next x s) (next y t) g j)) (go r (next x s) (next y t) g (may_rest x s l p) (may_rest y t r q) f)
            ∙ sym (trace_mine y t r n)

    pub two_lists : (l r : List S) → Alike l r
    two_lists [] r x y h p q e = nothing r x y h p q e
    two_lists (s ∷ l) r x y h p q e =
        tested (mine s)
        (λ m. matched s l m (two_lists l) r x y h p q e)
        (λ m. trace_other x s l m ∙ two_lists l r (next x s) y (K.left x y s h m (may_first x s l p)) (may_rest x s l p) q (sym (mine_other s l m) ∙ e))
