-- The least number at which f is 1: it is one of them, f is not 1 below it, and there is none exactly where f is 1
-- nowhere.
-- Assumes nothing.
use Rattle.std.specs.Prelude.{Option, Some, None}
use mathlib.Core.Path.{◌≡◌, refl, sym, ap, ◌∙◌, subst}
use mathlib.Core.Bool.{Bool, true, false}
use mathlib.Core.List.{List}
use Prim.Native.Nat.{ℕ, zero, suc, ◌+◌, ◌<◌}
use native.Mathlib.Nat.{add-zero, zero-add}
use native.Mathlib.Omega.{arith}
use lib.Dec.{eqb}
use borrow.Author.Tests.{eqb-true, eqb-false, eq-eqb, ne_eqb, lt-ltb}
use Rattle.vector_register.specs.Vectors.{least, lowest, bit_at, is_vector}

-- f is 1 at none of the n numbers from u on
abbrev pub Clear : (ℕ → ℕ) → ℕ → ℕ → Type 0
Clear f u n = (k : ℕ) → k < n → f (u + k) ≡ 1 → ⊥

abbrev pub Least : (ℕ → ℕ) → ℕ → ℕ → Option ℕ → Type 0
Least f n u None = Clear f u n
Least f n u (Some v) = (d : ℕ) × (d < n) × (v ≡ u + d) × (f v ≡ 1) × Clear f u d

clear_more : (f : ℕ → ℕ) (u n : ℕ) → (f u ≡ 1 → ⊥) → Clear f (u + 1) n → Clear f u (suc n)
clear_more f u n h c zero l e = h (ap f (sym (add-zero u)) ∙ e)
clear_more f u n h c (suc k) l e =
    let p : u + suc k ≡ u + 1 + k = omega arith in
    c k (omega arith) (subst (λ (x : ℕ). f x ≡ 1) p e)

later : (f : ℕ → ℕ) (n u : ℕ) (r : Option ℕ) → (f u ≡ 1 → ⊥) → Least f n (u + 1) r → Least f (suc n) u r
later f n u None h c = clear_more f u n h c
later f n u (Some v) h m = (suc m.0, omega (arith, m.1), omega (arith, m.2), m.3, clear_more f u m.0 h m.4)

step : (f : ℕ → ℕ) (n u : ℕ) (t : Bool) → eqb (f u) 1 ≡ t → Least f n (u + 1) (least f n (u + 1)) →
    Least f (suc n) u (elim t [ true ↦ Some u | false ↦ least f n (u + 1) ])
step f n u true e m = (0, omega arith, sym (add-zero u), eqb-true _ _ e, λ k l. absurd (omega arith))
step f n u false e m = later f n u (least f n (u + 1)) (eqb-false _ _ e) m

-- what `least` gives
pub least_is : (f : ℕ → ℕ) (n u : ℕ) → Least f n u (least f n u)
unfolding least
least_is f zero u = λ k l. absurd (omega arith)
least_is f (suc n) u = step f n u (eqb (f u) 1) refl (least_is f n (u + 1))

-- and it is the only one
taken : (f : ℕ → ℕ) (n u : ℕ) (t : Bool) → eqb (f u) 1 ≡ t → least f (suc n) u ≡ elim t [ true ↦ Some u | false ↦ least f n (u + 1) ]
unfolding least
taken f n u t e = ap (λ (x : Bool). elim x as (λ _. Option ℕ) [ true ↦ Some u | false ↦ least f n (u + 1) ]) e

first : (f : ℕ → ℕ) (n u d : ℕ) → d < n → f (u + d) ≡ 1 → Clear f u d → least f n u ≡ Some (u + d)
first f zero u d l e c = absurd (omega arith)
first f (suc n) u zero l e c = taken f n u true (eq-eqb (f u) 1 (ap f (sym (add-zero u)) ∙ e)) ∙ ap Some (sym (add-zero u))
first f (suc n) u (suc d) l e c =
    let p : u + 1 + d ≡ u + suc d = omega arith in
    taken f n u false (ne_eqb (f u) 1 (λ q. c zero (omega arith) (ap f (add-zero u) ∙ q)))
    ∙ first f n (u + 1) d (omega arith) (ap f p ∙ e)
    (λ k m q. let p : u + 1 + k ≡ u + suc k = omega arith in c (suc k) (omega arith) (ap f (sym p) ∙ q))
    ∙ ap Some p

none : (f : ℕ → ℕ) (n u : ℕ) → Clear f u n → least f n u ≡ None
unfolding least
none f zero u c = refl
none f (suc n) u c =
    taken f n u false (ne_eqb (f u) 1 (λ q. c zero (omega arith) (ap f (add-zero u) ∙ q)))
    ∙ none f n (u + 1) (λ k m q. let p : u + 1 + k ≡ u + suc k = omega arith in c (suc k) (omega arith) (ap f (sym p) ∙ q))

pub the_least : (f : ℕ → ℕ) (n u : ℕ) (r : Option ℕ) → Least f n u r → least f n u ≡ r
the_least f n u None c = none f n u c
the_least f n u (Some v) m = first f n u m.0 m.1 (ap f (sym m.2) ∙ m.3) m.4 ∙ ap Some (sym m.2)

-- ---- from 0 on

-- f is 1 nowhere below n
abbrev pub Unset : (ℕ → ℕ) → ℕ → Type 0
Unset f n = (k : ℕ) → k < n → f k ≡ 1 → ⊥

to_clear : (f : ℕ → ℕ) (n : ℕ) → Unset f n → Clear f 0 n
to_clear f n c k l e = c k l (ap f (sym (zero-add k)) ∙ e)

from_clear : (f : ℕ → ℕ) (n : ℕ) → Clear f 0 n → Unset f n
from_clear f n c k l e = c k l (ap f (zero-add k) ∙ e)

module _ (f : ℕ → ℕ) (n : ℕ) where
  pub found_at : (v : ℕ) → v < n → f v ≡ 1 → Unset f v → least f n 0 ≡ Some v
  found_at v l e c = the_least f n 0 (Some v) (v, l, sym (zero-add v), e, to_clear f v c)

  pub found_none : Unset f n → least f n 0 ≡ None
  found_none c = the_least f n 0 None (to_clear f n c)

  told : (v : ℕ) → least f n 0 ≡ Some v → Least f n 0 (Some v)
  told v e = subst (λ (r : Option ℕ). Least f n 0 r) e (least_is f n 0)

  module _ (v : ℕ) (e : least f n 0 ≡ Some v) where
    pub set_below : v < n
    set_below = let m = told v e in omega (arith, m.1, m.2)

    pub set_there : f v ≡ 1
    set_there = (told v e).3

    pub unset_below : Unset f v
    unset_below =
        let m = told v e in
        let p : m.0 ≡ v = omega (arith, m.2) in
        subst (λ (k : ℕ). Unset f k) p (from_clear f m.0 m.4)

  pub unset_all : least f n 0 ≡ None → Unset f n
  unset_all e = from_clear f n (subst (λ (r : Option ℕ). Least f n 0 r) e (least_is f n 0))

small : (f : ℕ → ℕ) (r : Option ℕ) → Least f 256 0 r → is_vector r ≡ true
small f None m = refl
small f (Some v) m = lt-ltb v 256 (omega (arith, m.1, m.2))

-- a vector that is found is one of the 256
pub least_vector : (f : ℕ → ℕ) → is_vector (least f 256 0) ≡ true
least_vector f = small f (least f 256 0) (least_is f 256 0)

pub lowest_vector : {r : Option ℕ} (b : List ℕ) (p : ℕ) → r ≡ lowest b p → is_vector r ≡ true
lowest_vector b p e = ap is_vector e ∙ least_vector (λ (k : ℕ). bit_at b p k)
