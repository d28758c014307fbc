-- Tests over lists of numbers: a number that is none of a match's keys fails the test for each of them.
-- Assumes nothing.
use Rattle.std.proofs.Common.{◌≡◌, ℕ, Bool, true, false, not, ◌&&◌, ◌||◌, T, eqb, List, [], ◌∷◌, refl, ◌∙◌, subst, ne_eqb, eqb-true}

-- x is none of the numbers, as a match's `.rest` says it: the last arm's number first
abbrev pub NoneOf : ℕ → List ℕ → Type 0
NoneOf x [] = Unit {0}
NoneOf x (k ∷ ks) = NoneOf x ks × (x ≡ k → ⊥)

abbrev pub elem : ℕ → List ℕ → Bool
elem k [] = false
elem k (j ∷ ks) = eqb k j || elem k ks

pub and_left : (a b : Bool) → T (a && b) → T a
and_left true b t = tt
and_left false b t = t

pub and_right : (a b : Bool) → T (a && b) → T b
and_right true b t = t
and_right false b t = absurd t

pub and_false : (a : Bool) → a && false ≡ false
and_false true = refl
and_false false = refl

missed_step : (x k j : ℕ) (b c : Bool) → eqb k j ≡ b → T (b || c) → (x ≡ j → ⊥) → (T c → eqb x k ≡ false) → eqb x k ≡ false
missed_step x k j true c e u n rest = ne_eqb x k (λ p. n (p ∙ eqb-true k j e))
missed_step x k j false c e u n rest = rest u

pub missed : (x k : ℕ) (ks : List ℕ) → T (elem k ks) → NoneOf x ks → eqb x k ≡ false
missed x k [] t n = absurd t
missed x k (j ∷ ks) t n = missed_step x k j (eqb k j) (elem k ks) refl t n.1 (λ u. missed x k ks u n.0)

-- equal truth values, as a test
abbrev pub same : Bool → Bool → Bool
same true b = b
same false b = not b

pub same_eq : (a b : Bool) → T (same a b) → a ≡ b
same_eq true true t = refl
same_eq true false t = absurd t
same_eq false true t = absurd t
same_eq false false t = refl

pub truth : (a : Bool) → T a → a ≡ true
truth true t = refl
truth false t = absurd t

pub true_false : true ≡ false → ⊥
true_false e = subst T e tt

pub or_false : (a : Bool) → a || false ≡ a
or_false true = refl
or_false false = refl
