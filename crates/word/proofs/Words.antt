-- Lists of numbers below a bound, as words and bytes are.
-- Assumes nothing.
use Rattle.std.specs.Prelude.{if◌then◌else◌}
use Rattle.std.proofs.Common.{◌≡◌, ℕ, zero, suc, ◌+◌, ◌^◌, ◌<◌, Bool, true, false, List, [], ◌∷◌, ◌++◌, get_or, take, drop, set, sym, refl, ap, subst, arith, get_or-drop}

-- every element is below n
abbrev pub Below : ℕ → List ℕ → Type 0
Below n l = (x : ℕ) → get_or l x 0 < n

abbrev pub Words : List ℕ → Type 0
Words l = Below (2 ^ 32) l

-- ---- a choice

pub if_both : {A : Type 0} (P : A → Type 0) (t : Bool) (x y : A) → P x → P y → P (if t then x else y)
if_both P true x y p q = p
if_both P false x y p q = q

pub if_lt : {n : ℕ} (t : Bool) (x y : ℕ) → x < n → y < n → (if t then x else y) < n
if_lt true x y p q = p
if_lt false x y p q = q

-- ---- lists

-- what holds of a new element and of those that were there holds of each
pub set_case : (P : ℕ → Type 0) (l : List ℕ) (i a x : ℕ) → (x ≡ i → P a) → P (get_or l x 0) → P (get_or (set l i a) x 0)
set_case P [] i a x new old = old
set_case P (y ∷ l) zero a zero new old = new refl
set_case P (y ∷ l) zero a (suc x) new old = old
set_case P (y ∷ l) (suc i) a zero new old = old
set_case P (y ∷ l) (suc i) a (suc x) new old = set_case P l i a x (λ e. new (ap suc e)) old

module _ {n : ℕ} where
  pub set_below : (l : List ℕ) (i v : ℕ) → Below n l → v < n → Below n (set l i v)
  set_below l i v w h x = set_case (λ (y : ℕ). y < n) l i v x (λ e. h) (w x)

  pub cons_below : (v : ℕ) (l : List ℕ) → v < n → Below n l → Below n (v ∷ l)
  cons_below v l h w zero = h
  cons_below v l h w (suc x) = w x

  pub append_below : (l r : List ℕ) → Below n l → Below n r → Below n (l ++ r)
  append_below [] r v w x = w x
  append_below (a ∷ l) r v w zero = v 0
  append_below (a ∷ l) r v w (suc x) = append_below l r (λ y. v (suc y)) w x

  pub take_below : (k : ℕ) (l : List ℕ) → Below n l → Below n (take k l)
  take_below zero l w x = omega (arith, w x)
  take_below (suc k) [] w x = w x
  take_below (suc k) (a ∷ l) w zero = w 0
  take_below (suc k) (a ∷ l) w (suc x) = take_below k l (λ y. w (suc y)) x

  pub drop_below : (k : ℕ) (l : List ℕ) → Below n l → Below n (drop k l)
  drop_below k l w x = subst (λ (y : ℕ). y < n) (sym (get_or-drop k l x 0)) (w (k + x))
