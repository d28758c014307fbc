-- Lists: selecting, mapping and joining, for elements of any type.
-- Assumes nothing.
use Rattle.std.specs.Prelude.{if◌then◌else◌}
use mathlib.Core.Path.{◌≡◌, refl, ap, ap₂, ◌∙◌}
use mathlib.Core.Bool.{Bool, true, false, ◌&&◌}
use mathlib.Core.List.{List, [], ◌∷◌, ◌++◌, map, flat_map, map-append}
use Prim.Native.Nat.{ℕ, ◌<◌}
use Rattle.records.specs.Records.{all}
use Rattle.reach.specs.Lists.{range, select}
use Rattle.reach.proofs.Lists.{In, in_here, in_there, Each, each_append, flat_map_append, all_append, range_in}

module _ {A : Type 0} (t : A → Bool) where
  pub select_join : (l r : List A) → select t (l ++ r) ≡ select t l ++ select t r
  unfolding select
  select_join [] r = refl
  select_join (x ∷ l) r = go (t x) (select_join l r)
    where
      go : (b : Bool) → select t (l ++ r) ≡ select t l ++ select t r → (if b then x ∷ select t (l ++ r) else select t (l ++ r)) ≡ (if b then x ∷ select t l else select t l) ++ select t r
      go true e = ap (λ (z : List A). x ∷ z) e
      go false e = e

  pub select_none : (l : List A) → ((x : A) → t x ≡ false) → select t l ≡ []
  unfolding select
  select_none [] f = refl
  select_none (x ∷ l) f = rw (f x) (select_none l f)

  pub select_all : (l : List A) → ((x : A) → t x ≡ true) → select t l ≡ l
  unfolding select
  select_all [] f = refl
  select_all (x ∷ l) f = rw (f x) (ap (λ (z : List A). x ∷ z) (select_all l f))

  pub select_both : (u : A → Bool) (l : List A) → select t (select u l) ≡ select (λ x. u x && t x) l
  unfolding select
  select_both u [] = refl
  select_both u (x ∷ l) = go (u x) (t x) refl (select_both u l)
    where
      go : (a b : Bool) → t x ≡ b → select t (select u l) ≡ select (λ y. u y && t y) l
          → select t (if a then x ∷ select u l else select u l) ≡ (if a && b then x ∷ select (λ y. u y && t y) l else select (λ y. u y && t y) l)
      go true b p e = rw p (ap (λ (z : List A). if b then x ∷ z else z) e)
      go false b p e = e

  pub select_flat_map : {B : Type 0} (f : B → List A) (l : List B) → select t (flat_map f l) ≡ flat_map (λ x. select t (f x)) l
  unfolding select flat_map
  select_flat_map f [] = refl
  select_flat_map f (x ∷ l) = select_join (f x) (flat_map f l) ∙ ap (λ (z : List A). select t (f x) ++ z) (select_flat_map f l)

  pub select_map : {B : Type 0} (g : B → A) (l : List B) → select t (map g l) ≡ map g (select (λ x. t (g x)) l)
  unfolding select
  select_map g [] = refl
  select_map g (x ∷ l) = go (t (g x)) (select_map g l)
    where
      go : (b : Bool) → select t (map g l) ≡ map g (select (λ y. t (g y)) l) → (if b then g x ∷ select t (map g l) else select t (map g l)) ≡ map g (if b then x ∷ select (λ y. t (g y)) l else select (λ y. t (g y)) l)
      go true e = ap (λ (z : List A). g x ∷ z) e
      go false e = e

pub map_flat_map : {A B C : Type 0} (h : B → C) (f : A → List B) (l : List A) → map h (flat_map f l) ≡ flat_map (λ x. map h (f x)) l
unfolding flat_map
map_flat_map h f [] = refl
map_flat_map {C = C} h f (x ∷ l) = map-append h (f x) (flat_map f l) ∙ ap (λ (z : List C). map h (f x) ++ z) (map_flat_map h f l)

pub flat_flat : {A B C : Type 0} (g : B → List C) (f : A → List B) (l : List A) → flat_map g (flat_map f l) ≡ flat_map (λ x. flat_map g (f x)) l
unfolding flat_map
flat_flat g f [] = refl
flat_flat {C = C} g f (x ∷ l) = flat_map_append g (f x) (flat_map f l) ∙ ap (λ (z : List C). flat_map g (f x) ++ z) (flat_flat g f l)

pub flat_map_where : {B : Type 0} (f g : ℕ → List B) (l : List ℕ) → ((p : ℕ) → In p l → f p ≡ g p) → flat_map f l ≡ flat_map g l
unfolding flat_map
flat_map_where f g [] h = refl
flat_map_where f g (p ∷ l) h = ap₂ ◌++◌ (h p (in_here p l)) (flat_map_where f g l (λ q i. h q (in_there q p l i)))

-- ---- lists of which each element has a property

pub each_map : {A B : Type 0} (P : B → Type 0) (g : A → B) (l : List A) → Each (λ x. P (g x)) l → Each P (map g l)
each_map P g [] e = tt
each_map P g (x ∷ l) e = (e.0, each_map P g l e.1)

pub each_weak : {A : Type 0} (P Q : A → Type 0) (l : List A) → ((x : A) → P x → Q x) → Each P l → Each Q l
each_weak P Q [] f e = tt
each_weak P Q (x ∷ l) f e = (f x e.0, each_weak P Q l f e.1)

-- what a selection keeps passes the test, and has what all had
pub each_select : {A : Type 0} (P : A → Type 0) (t : A → Bool) (l : List A) → Each P l → Each (λ x. P x × (t x ≡ true)) (select t l)
unfolding select
each_select P t [] e = tt
each_select P t (x ∷ l) e = go (t x) refl (each_select P t l e.1)
  where
    go : (b : Bool) → t x ≡ b → Each (λ y. P y × (t y ≡ true)) (select t l) → Each (λ y. P y × (t y ≡ true)) (if b then x ∷ select t l else select t l)
    go true q r = ((e.0, q), r)
    go false q r = r

pub each_through : {A B : Type 0} (P : A → Type 0) (Q : B → Type 0) (f : A → List B) (l : List A) → ((x : A) → P x → Each Q (f x)) → Each P l → Each Q (flat_map f l)
unfolding flat_map
each_through P Q f [] g e = tt
each_through P Q f (x ∷ l) g e = each_append Q (f x) (flat_map f l) (g x e.0) (each_through P Q f l g e.1)

each_in : {B : Type 0} (P : B → Type 0) (f : ℕ → List B) (l : List ℕ) → ((i : ℕ) → In i l → Each P (f i)) → Each P (flat_map f l)
unfolding flat_map
each_in P f [] h = tt
each_in P f (i ∷ l) h = each_append P (f i) (flat_map f l) (h i (in_here i l)) (each_in P f l (λ j k. h j (in_there j i l k)))

pub each_range : {B : Type 0} (P : B → Type 0) (f : ℕ → List B) (n : ℕ) → ((i : ℕ) → i < n → Each P (f i)) → Each P (flat_map f (range n))
each_range P f n g = each_in P f (range n) (λ i h. g i (range_in n i h))

-- ---- tests of all elements

pub all_map : {A B : Type 0} (t : B → Bool) (g : A → B) (l : List A) → all (λ x. t (g x)) l ≡ all t (map g l)
unfolding all
all_map t g [] = refl
all_map t g (x ∷ l) = ap (λ (z : Bool). t (g x) && z) (all_map t g l)

pub all_ext : {A : Type 0} (t u : A → Bool) (l : List A) → ((x : A) → t x ≡ u x) → all t l ≡ all u l
unfolding all
all_ext t u [] f = refl
all_ext t u (x ∷ l) f = ap₂ ◌&&◌ (f x) (all_ext t u l f)

pub all_flat_map : {A B : Type 0} (t : B → Bool) (f : A → List B) (l : List A) → all t (flat_map f l) ≡ all (λ x. all t (f x)) l
unfolding all flat_map
all_flat_map t f [] = refl
all_flat_map t f (x ∷ l) = all_append t (f x) (flat_map f l) ∙ ap (λ (z : Bool). all t (f x) && z) (all_flat_map t f l)

-- the four tests of two conjunctions, sorted
sorted : (a b c d : Bool) → (a && b) && (c && d) ≡ (a && c) && (b && d)
sorted true true c d = refl
sorted true false true d = refl
sorted true false false d = refl
sorted false b c d = refl

pub all_both : {A : Type 0} (t u : A → Bool) (l : List A) → all (λ x. t x && u x) l ≡ all t l && all u l
unfolding all
all_both t u [] = refl
all_both t u (x ∷ l) = ap (λ (z : Bool). (t x && u x) && z) (all_both t u l) ∙ sorted (t x) (u x) (all t l) (all u l)

-- a test of those that are selected
pub all_selected : {A : Type 0} (t u : A → Bool) (l : List A) → all (λ x. if t x then u x else true) l ≡ all u (select t l)
unfolding all select
all_selected t u [] = refl
all_selected t u (x ∷ l) = go (t x) (all_selected t u l)
  where
    go : (b : Bool) → all (λ y. if t y then u y else true) l ≡ all u (select t l) → (if b then u x else true) && all (λ y. if t y then u y else true) l ≡ all u (if b then x ∷ select t l else select t l)
    go true e = ap (λ (z : Bool). u x && z) e
    go false e = e
