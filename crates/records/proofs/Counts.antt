-- Laws of count, each and all.
use mathlib.Core.Path.{◌≡◌, refl, sym, ap, ◌∙◌}
use mathlib.Core.Logic.{◌⊎◌, inl, inr, ⊎_elim}
use native.Mathlib.Decide.{ℕ_discrete}
use Prim.Native.Nat.{ℕ, zero, suc, ◌+◌, ◌<◌, ◌≤◌}
use mathlib.Core.Bool.{Bool, true, false, ◌&&◌}
use mathlib.Core.List.{List, [], ◌∷◌, ◌++◌}
use native.Mathlib.Omega.{arith}
use lib.ListN.{length}
use lib.Dec.{eqb}
use borrow.Author.Tests.{eqb-true, eqb-false, eq-eqb}
use Rattle.word.specs.Word.{flag}
use Rattle.word.proofs.Truth.{and_left, and_right, and_both, and_assoc}
use Rattle.records.specs.Records.{count, each, all}

pub count_append : (n : ℕ) (s t : List ℕ) → count n (s ++ t) ≡ count n s + count n t
unfolding count
count_append n [] t = omega arith
count_append n (x ∷ s) t = omega (arith, count_append n s t)

-- the two cases of an element
pub bit_cases : (n x : ℕ) → ((n ≡ x) × (flag (eqb n x) ≡ 1)) ⊎ ((n ≡ x → ⊥) × (flag (eqb n x) ≡ 0))
bit_cases n x = go (eqb n x) refl
  where
    go : (t : Bool) → eqb n x ≡ t → ((n ≡ x) × (flag t ≡ 1)) ⊎ ((n ≡ x → ⊥) × (flag t ≡ 0))
    go true e = inl (eqb-true n x e, refl)
    go false e = inr (eqb-false n x e, refl)

pub count_here : (x : ℕ) (l : List ℕ) → count x (x ∷ l) ≡ suc (count x l)
unfolding count
count_here x l = rw (eq-eqb x x refl) (omega arith)

pub count_head : (x : ℕ) (l : List ℕ) → 0 < count x (x ∷ l)
count_head x l = omega (arith, count_here x l)

pub count_more : (n x : ℕ) (l : List ℕ) → 0 < count n l → 0 < count n (x ∷ l)
unfolding count
count_more n x l h = omega arith

pub count_tail : (n x : ℕ) (l : List ℕ) → count n l ≤ count n (x ∷ l)
unfolding count
count_tail n x l = omega arith

-- a member is the head, or in the tail
pub count_cases : (n x : ℕ) (l : List ℕ) → 0 < count n (x ∷ l) → (n ≡ x) ⊎ (0 < count n l)
unfolding count
count_cases n x l h = ⊎_elim (λ w. inl w.0) (λ w. inr (omega arith)) (bit_cases n x)

pub all_elim : (p : ℕ → Bool) (l : List ℕ) (n : ℕ) → all p l ≡ true → 0 < count n l → p n ≡ true
unfolding all count
all_elim p [] n e h = absurd (omega arith)
all_elim p (x ∷ l) n e h =
    ⊎_elim (λ q. ap p q ∙ and_left (p x) (all p l) e) (λ q. all_elim p l n (and_right (p x) (all p l) e) q) (count_cases n x l h)

pub all_intro : (p : ℕ → Bool) (l : List ℕ) → ((n : ℕ) → 0 < count n l → p n ≡ true) → all p l ≡ true
unfolding all
all_intro p [] f = refl
all_intro p (x ∷ l) f = and_both (p x) (all p l) (f x (count_head x l)) (all_intro p l (λ n h. f n (count_more n x l h)))

pub all_append : (p : ℕ → Bool) (s t : List ℕ) → all p (s ++ t) ≡ all p s && all p t
unfolding all
all_append p [] t = refl
all_append p (x ∷ s) t = ap (λ (r : Bool). p x && r) (all_append p s t) ∙ and_assoc (p x) (all p s) (all p t)

-- two tests of every element are one
pub all_and : (p q : ℕ → Bool) (l : List ℕ) → all (λ n. p n && q n) l ≡ all p l && all q l
unfolding all
all_and p q [] = refl
all_and p q (x ∷ l) = ap (λ (r : Bool). (p x && q x) && r) (all_and p q l) ∙ change (p x) (q x) (all p l) (all q l)
  where
    change : (a b c d : Bool) → (a && b) && (c && d) ≡ (a && c) && (b && d)
    change true true c d = refl
    change true false true d = refl
    change true false false d = refl
    change false b c d = refl

pub all_both : (p q : ℕ → Bool) (l : List ℕ) → all p l ≡ true → all q l ≡ true → all (λ n. p n && q n) l ≡ true
all_both p q l e f = all_and p q l ∙ and_both (all p l) (all q l) e f

pub all_left : (p q : ℕ → Bool) (l : List ℕ) → all (λ n. p n && q n) l ≡ true → all p l ≡ true
all_left p q l e = and_left (all p l) (all q l) (sym (all_and p q l) ∙ e)

pub all_right : (p q : ℕ → Bool) (l : List ℕ) → all (λ n. p n && q n) l ≡ true → all q l ≡ true
all_right p q l e = and_right (all p l) (all q l) (sym (all_and p q l) ∙ e)

pub either : {A B : Type 0} → Dec A → (A → B) → ((A → ⊥) → B) → B
either (yes a) f g = f a
either (no a) f g = g a

pub each_elim : (p : ℕ → Bool) (k n : ℕ) → each k p ≡ true → 0 < n → n ≤ k → p n ≡ true
unfolding each
each_elim p zero n e h q = absurd (omega arith)
each_elim p (suc k) n e h q =
    either (ℕ_discrete n (suc k)) (λ r. ap p r ∙ and_left (p (suc k)) (each k p) e)
    (λ r. each_elim p k n (and_right (p (suc k)) (each k p) e) h (omega arith))

pub each_intro : (p : ℕ → Bool) (k : ℕ) → ((n : ℕ) → 0 < n → n ≤ k → p n ≡ true) → each k p ≡ true
unfolding each
each_intro p zero f = refl
each_intro p (suc k) f = and_both (p (suc k)) (each k p) (f (suc k) (omega arith) (omega arith)) (each_intro p k (λ n h q. f n h (omega arith)))

-- how many elements of a list are numbers from 1 to k: the counts of each, summed
unfoldable pub total : ℕ → List ℕ → ℕ
total zero l = 0
total (suc k) l = count (suc k) l + total k l

total_nil : (k : ℕ) → total k [] ≡ 0
unfolding total count
total_nil zero = refl
total_nil (suc k) = omega (arith, total_nil k)

total_out : (k x : ℕ) (l : List ℕ) → k < x → total k (x ∷ l) ≡ total k l
unfolding total count
total_out zero x l h = refl
total_out (suc k) x l h = ⊎_elim (λ w. absurd (omega arith)) (λ w. omega (arith, total_out k x l (omega arith))) (bit_cases (suc k) x)

total_in : (k x : ℕ) (l : List ℕ) → 0 < x → x ≤ k → total k (x ∷ l) ≡ suc (total k l)
unfolding total count
total_in zero x l p h = absurd (omega arith)
total_in (suc k) x l p h =
    ⊎_elim (λ w. omega (arith, total_out k x l (omega arith))) (λ w. omega (arith, total_in k x l p (omega arith))) (bit_cases (suc k) x)

-- where every element is from 1 to k, that is the length
pub total_length : (k : ℕ) (l : List ℕ) → ((n : ℕ) → 0 < count n l → (0 < n) × (n ≤ k)) → total k l ≡ length l
total_length k [] f = total_nil k
total_length k (x ∷ l) f =
    total_in k x l (f x (count_head x l)).0 (f x (count_head x l)).1 ∙ ap suc (total_length k l (λ n h. f n (count_more n x l h)))

-- where each is there once, that is k
pub total_each : (k : ℕ) (l : List ℕ) → ((n : ℕ) → 0 < n → n ≤ k → count n l ≡ 1) → total k l ≡ k
unfolding total
total_each zero l f = refl
total_each (suc k) l f = omega (arith, f (suc k) (omega arith) (omega arith), total_each k l (λ n h q. f n h (omega arith)))
