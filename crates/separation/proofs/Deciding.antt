-- What the functions inside apart answer (specs/inner/Sides), tied to Apart.
-- Assumes nothing.
use Rattle.std.specs.Prelude.{if◌then◌else◌}
use mathlib.Core.Path.{◌≡◌, refl, sym, ap, ap₂, subst, ◌∙◌}
use mathlib.Core.Bool.{Bool, true, false, ◌&&◌, ◌||◌, not}
use mathlib.Core.List.{List, [], ◌∷◌, ◌++◌}
use Prim.Native.Nat.{ℕ, zero, suc, ◌+◌, ◌<◌, ◌≤◌}
use native.Mathlib.Numerals.{add-one}
use native.Mathlib.Omega.{arith}
use mir.Val.{bool_byte}
use lib.ListN.{length, get_or, take, replicate, length-replicate}
use lib.Seq.{length-take-le}
use lib.Dec.{eqb}
use borrow.Author.Tests.{not-true, not-false}
use Rattle.word.specs.Word.{is_set, flag, with_bit}
use Rattle.word.proofs.Truth.{and_left, and_right, and_both, tested, and-true, clash}
use Rattle.layout.specs.Blocks.{block}
use Rattle.records.specs.Records.{all}
use Rattle.records.proofs.Counts.{all_and}
use Rattle.tables.specs.Views.{cores_of, pages_of, runs}
use Rattle.tables.specs.Sound.{sound}
use Rattle.reach.specs.Lists.{range, has, select}
use Rattle.reach.specs.Reach.{Pages, is_group, members, table_pages, reached, reach, in_memory, map_byte, map_for}
use Rattle.reach.proofs.Lists.{In, in_right, in_range, range_in, all_in, in_all, all_append, both_ways, has_append}
use Rattle.separation.specs.Apart.{running_cores, rest, rest_below, rest_group, runs_as_user, disjoint, closed, pages_apart, apart, apart_on}
use Rattle.std.specs.Prelude.{Ok, Err}
use Rattle.refusals.specs.declared.Refusal.TheVariants.{Unsound, Group}
use Rattle.separation.specs.inner.Sides.{passes, both, page_apart}
use Rattle.separation.proofs.Members.{Bits, bits_none, bits_next, bits_members, byte_flag}
use Rattle.separation.proofs.Mapped.{marked_is, byte_in, byte_table, byte_writable, reached_low}

-- ---- tests of all

-- one more number
pub all_next : (p : ℕ → Bool) (i : ℕ) → all p (range (i + 1)) ≡ all p (range i) && p i
unfolding all range
all_next p i =
    ap (λ (n : ℕ). all p (range n)) (add-one i) ∙ all_append p (range i) (i ∷ []) ∙ ap (λ (t : Bool). all p (range i) && t) (and-true (p i))

pub all_none : (p : ℕ → Bool) → all p (range 0) ≡ true
unfolding all range
all_none p = refl

all_tests : (p q : ℕ → Bool) (l : List ℕ) → ((x : ℕ) → In x l → p x ≡ q x) → all p l ≡ all q l
all_tests p q l f =
    both_ways (all p l) (all q l)
    (λ e. in_all q l (λ x h. sym (f x h) ∙ all_in p l x e h))
    (λ e. in_all p l (λ x h. f x h ∙ all_in q l x e h))

all_select : (p f : ℕ → Bool) (l : List ℕ) → all p (select f l) ≡ all (λ x. not (f x) || p x) l
unfolding all select
all_select p f [] = refl
all_select p f (x ∷ l) = go (f x) (all_select p f l)
  where
    go : (t : Bool) → all p (select f l) ≡ all (λ y. not (f y) || p y) l → all p (if t then x ∷ select f l else select f l) ≡ (not t || p x) && all (λ y. not (f y) || p y) l
    go true e = ap (λ (u : Bool). p x && u) e
    go false e = e

-- ---- cores

select_select : (f g : ℕ → Bool) (l : List ℕ) → select f (select g l) ≡ select (λ x. f x && g x) l
unfolding select
select_select f g [] = refl
select_select f g (x ∷ l) = go (g x) (f x) (select_select f g l)
  where
    go : (u t : Bool) → select f (select g l) ≡ select (λ y. f y && g y) l
        → select f (if u then x ∷ select g l else select g l) ≡ (if f x && u then x ∷ select (λ y. f y && g y) l else select (λ y. f y && g y) l)
    go true t e = inner (f x) e
      where
        inner : (v : Bool) → select f (select g l) ≡ select (λ y. f y && g y) l
            → (if v then x ∷ select f (select g l) else select f (select g l)) ≡ (if v && true then x ∷ select (λ y. f y && g y) l else select (λ y. f y && g y) l)
        inner true q = ap (λ (k : List ℕ). x ∷ k) q
        inner false q = q
    go false t e = none (f x) e
      where
        none : (v : Bool) → select f (select g l) ≡ select (λ y. f y && g y) l → select f (select g l) ≡ (if v && false then x ∷ select (λ y. f y && g y) l else select (λ y. f y && g y) l)
        none true q = q
        none false q = q

-- core j is another running core
abbrev pub is_other : ℕ → List ℕ → ℕ → Bool
is_other g t j = not (is_set g j) && runs (block t j)

-- the bit that the code puts
pub rest_put : (g : ℕ) (t : List ℕ) (k : ℕ) {r s : ℕ} {i u : Bool} → i ≡ is_set g k → u ≡ runs (block t k) → s ≡ with_bit r k (bool_byte (not i && u)) → r ≡ rest_below g t k
    → s ≡ rest_below g t (k + 1)
unfolding rest_below
rest_put g t k {r} {s} {i} {u} p q e o =
    e ∙ ap₂ (λ (n : ℕ) (x : ℕ). with_bit n k x) o (byte_flag (not i && u) ∙ ap₂ (λ (a b : Bool). flag (not a && b)) p q) ∙ ap (rest_below g t) (sym (add-one k))

others_below : (g : ℕ) (t : List ℕ) (k : ℕ) → Bits (is_other g t) (rest_below g t k) k
unfolding rest_below
others_below g t zero = bits_none (is_other g t) 0
others_below g t (suc k) =
    subst (Bits (is_other g t) (rest_below g t (suc k))) (add-one k) (bits_next (is_other g t) (rest_below g t k) k (others_below g t k))

-- the number has the rest as its members
pub rest_members : (g : ℕ) (t : List ℕ) → members (rest_group g t) (cores_of t) ≡ rest g t
unfolding rest running_cores
rest_members g t =
    bits_members (is_other g t) (rest_group g t) (cores_of t) (others_below g t (cores_of t))
    ∙ sym (select_select (λ j. not (is_set g j)) (λ j. runs (block t j)) (range (cores_of t)))

-- every core of both sides is running in user mode
pub users_are : (g : ℕ) (t : List ℕ) → all (runs_as_user t) (members g (cores_of t) ++ rest g t) ≡ all (passes g t) (range (cores_of t))
unfolding members rest running_cores
users_are g t =
    all_append (runs_as_user t) (select (λ k. is_set g k) (range (cores_of t))) (select (λ k. not (is_set g k)) (select (λ k. runs (block t k)) (range (cores_of t))))
    ∙ ap₂ ◌&&◌ (all_select (runs_as_user t) (λ k. is_set g k) (range (cores_of t)))
    (ap (all (runs_as_user t)) (select_select (λ k. not (is_set g k)) (λ k. runs (block t k)) (range (cores_of t)))
    ∙ all_select (runs_as_user t) (is_other g t) (range (cores_of t)))
    ∙ sym (all_and (λ k. not (is_set g k) || runs_as_user t k) (λ k. not (is_other g t k) || runs_as_user t k) (range (cores_of t)))
    ∙ all_tests (λ k. (not (is_set g k) || runs_as_user t k) && (not (is_other g t k) || runs_as_user t k)) (passes g t) (range (cores_of t))
    (λ k h. one_side (is_set g k) (runs (block t k)) (runs_as_user t k))
  where
    one_side : (i r u : Bool) → ((not i || u) && (not (not i && r) || u)) ≡ (not (i || r) || u)
    one_side true true true = refl
    one_side true true false = refl
    one_side true false true = refl
    one_side true false false = refl
    one_side false true true = refl
    one_side false true false = refl
    one_side false false true = refl
    one_side false false false = refl

-- ---- pages

not_twice : (a b : Bool) → not (a && b) ≡ true → a ≡ true → b ≡ true → ⊥
not_twice a b e p q = clash (a && b) (and_both a b p q) (not-true (a && b) e)

-- lists of numbers below n have none in common
pub disjoint_below : (n : ℕ) (l r : List ℕ) → ((x : ℕ) → In x l → x < n) → disjoint l r ≡ all (λ x. not (has x l && has x r)) (range n)
unfolding disjoint
disjoint_below n l r low =
    both_ways (all (λ x. not (has x r)) l) (all (λ x. not (has x l && has x r)) (range n))
    (λ e. in_all (λ x. not (has x l && has x r)) (range n) (λ x h. tested (has x l && has x r)
    (λ q. absurd (clash (has x r) (and_right (has x l) _ q) (not-true (has x r) (all_in (λ y. not (has y r)) l x e (and_left (has x l) _ q)))))
    (λ q. ap not q)))
    (λ e. in_all (λ x. not (has x r)) l (λ x h. tested (has x r)
    (λ q. absurd (not_twice (has x l) (has x r) (all_in (λ y. not (has y l && has y r)) (range n) x e (in_range n x (low x h))) h q))
    (λ q. ap not q)))

-- the two sides, whose pages are below n
module _ (n : ℕ) (S T : Pages) (e : in_memory S n ≡ true) (f : in_memory T n ≡ true) where
  writable_in : (U : Pages) (x : ℕ) → In x U.writables → In x (reached U)
  writable_in U x h = in_right x (table_pages U) (U.datas ++ U.writables) (in_right x U.datas U.writables h)

  closed_below : (U : Pages) → in_memory U n ≡ true → closed U ≡ all (λ x. not (both (map_byte U x))) (range n)
  closed_below U g =
      disjoint_below n U.writables (table_pages U) (λ x h. reached_low n U x g (writable_in U x h))
      ∙ all_tests (λ x. not (has x U.writables && has x (table_pages U))) (λ x. not (both (map_byte U x))) (range n)
      (λ x h. ap not (swap (has x U.writables) (has x (table_pages U)) ∙ sym (ap₂ ◌&&◌ (byte_table U x) (byte_writable U x))))
    where
      swap : (a b : Bool) → a && b ≡ b && a
      swap true true = refl
      swap true false = refl
      swap false true = refl
      swap false false = refl

  cross_below : disjoint (reached S) (T.writables ++ table_pages T)
      ≡ all (λ x. not (not (eqb (map_byte S x) 0) && (is_set (map_byte T x) 2 || is_set (map_byte T x) 1))) (range n)
  cross_below =
      disjoint_below n (reached S) (T.writables ++ table_pages T) (λ x h. reached_low n S x e h)
      ∙ all_tests (λ x. not (has x (reached S) && has x (T.writables ++ table_pages T)))
      (λ x. not (not (eqb (map_byte S x) 0) && (is_set (map_byte T x) 2 || is_set (map_byte T x) 1))) (range n)
      (λ x h. ap not (ap₂ ◌&&◌ (sym (marked_is S x)) (has_append x T.writables (table_pages T) ∙ sym (ap₂ ◌||◌ (byte_writable T x) (byte_table T x)))))

  pub pages_are : ((closed S && closed T) && disjoint (reached S) (T.writables ++ table_pages T)) ≡ all (λ x. page_apart (map_byte S x) (map_byte T x)) (range n)
  unfolding page_apart
  pages_are =
      ap₂ ◌&&◌ (ap₂ ◌&&◌ (closed_below S e) (closed_below T f)) cross_below
      ∙ ap (λ (t : Bool). t && all (λ x. not (not (eqb (map_byte S x) 0) && (is_set (map_byte T x) 2 || is_set (map_byte T x) 1))) (range n))
      (sym (all_and (λ x. not (both (map_byte S x))) (λ x. not (both (map_byte T x))) (range n)))
      ∙ sym (all_and (λ x. not (both (map_byte S x)) && not (both (map_byte T x))) (λ x. not (not (eqb (map_byte S x) 0) && (is_set (map_byte T x) 2 || is_set (map_byte T x) 1))) (range n))
      ∙ all_tests _ (λ x. page_apart (map_byte S x) (map_byte T x)) (range n) (λ x h. regroup (not (both (map_byte S x))) (not (both (map_byte T x))) _)
    where
      regroup : (a b c : Bool) → ((a && b) && c) ≡ (a && (b && c))
      regroup true b c = refl
      regroup false b c = refl

-- two maps of n pages decide on the pages of two sides that reach none beyond memory
pub pages_decide : (n : ℕ) (S T : Pages) (l r : List ℕ) → in_memory S n ≡ true → in_memory T n ≡ true
    → ((i : ℕ) → i < n → get_or l i 0 ≡ map_byte S i) → ((i : ℕ) → i < n → get_or r i 0 ≡ map_byte T i)
    → all (λ i. page_apart (get_or l i 0) (get_or r i 0)) (range n) ≡ pages_apart n S T
unfolding pages_apart
pages_decide n S T l r e f p q =
    all_tests (λ i. page_apart (get_or l i 0) (get_or r i 0)) (λ i. page_apart (map_byte S i) (map_byte T i)) (range n)
    (λ i h. ap₂ page_apart (p i (range_in n i h)) (q i (range_in n i h)))
    ∙ sym (pages_are n S T e f)
    ∙ sym (ap₂ (λ (a b : Bool). (a && b) && ((closed S && closed T) && disjoint (reached S) (T.writables ++ table_pages T))) e f)

-- where one side reaches a page beyond memory they are not apart
pub group_beyond : (n : ℕ) (S T : Pages) → in_memory S n ≡ false → pages_apart n S T ≡ false
unfolding pages_apart
group_beyond n S T e = ap (λ (a : Bool). (a && in_memory T n) && ((closed S && closed T) && disjoint (reached S) (T.writables ++ table_pages T))) e

pub rest_beyond : (n : ℕ) (S T : Pages) → in_memory T n ≡ false → pages_apart n S T ≡ false
unfolding pages_apart
rest_beyond n S T e = ap (λ (a : Bool). (in_memory S n && a) && ((closed S && closed T) && disjoint (reached S) (T.writables ++ table_pages T))) e ∙ none (in_memory S n)
  where
    none : (a : Bool) → (a && false) && ((closed S && closed T) && disjoint (reached S) (T.writables ++ table_pages T)) ≡ false
    none true = refl
    none false = refl

-- ---- what the two fillings answer and leave

module _ (t m : List ℕ) (g : ℕ) where
  abbrev S : Pages
  S = reach (members g (cores_of t)) t m

  abbrev T : Pages
  T = reach (rest g t) t m

  pub group_fails : (a : Bool) → a ≡ not (in_memory S (pages_of t)) → a ≡ true → false ≡ pages_apart (pages_of t) S T
  group_fails a e h = sym (group_beyond (pages_of t) S T (not-true (in_memory S (pages_of t)) (sym e ∙ h)))

  module _ (r : ℕ) (o : members r (cores_of t) ≡ rest g t) where
    pub rest_fails : (b : Bool) → b ≡ not (in_memory (reach (members r (cores_of t)) t m) (pages_of t)) → b ≡ true → false ≡ pages_apart (pages_of t) S T
    rest_fails b e h =
        sym (rest_beyond (pages_of t) S T
        (ap (λ (cs : List ℕ). in_memory (reach cs t m) (pages_of t)) (sym o) ∙ not-true (in_memory (reach (members r (cores_of t)) t m) (pages_of t)) (sym e ∙ h)))

    pub maps_decide : (a b c : Bool) (l k : List ℕ)
        → a ≡ not (in_memory S (pages_of t)) → a ≡ false → b ≡ not (in_memory (reach (members r (cores_of t)) t m) (pages_of t)) → b ≡ false
        → l ≡ map_for (members g (cores_of t)) t m → k ≡ map_for (members r (cores_of t)) t m
        → c ≡ all (λ i. page_apart (get_or l i 0) (get_or k i 0)) (range (pages_of t)) → c ≡ pages_apart (pages_of t) S T
    maps_decide a b c l k p p' q q' u v w =
        let inner : in_memory S (pages_of t) ≡ true = not-false (in_memory S (pages_of t)) (sym p ∙ p') in
        let outer : in_memory T (pages_of t) ≡ true
        = ap (λ (cs : List ℕ). in_memory (reach cs t m) (pages_of t)) (sym o) ∙ not-false (in_memory (reach (members r (cores_of t)) t m) (pages_of t)) (sym q ∙ q') in
        w
        ∙ pages_decide (pages_of t) S T l k inner outer
        (λ i h. ap (λ (x : List ℕ). get_or x i 0) u ∙ byte_in (members g (cores_of t)) t m i h)
        (λ i h. ap (λ (x : List ℕ). get_or x i 0) (v ∙ ap (λ (cs : List ℕ). map_for cs t m) o) ∙ byte_in (rest g t) t m i h)

-- an array of 4,096 bytes has room for a map
pub room : (n : ℕ) → n ≤ 4096 → length {A = ℕ} (take n (replicate 4096 0)) ≡ n
room n h = length-take-le n (replicate 4096 0) (omega (arith, length-replicate {A = ℕ} 4096 0))

-- ---- the verdict

module _ (t m : List ℕ) (g : ℕ) where
  pub says_unsound : sound t (length m) ≡ false → Err Unsound ≡ apart_on g t m
  unfolding apart_on
  says_unsound e = rw e

  pub says_group : sound t (length m) ≡ true → is_group g (cores_of t) ≡ false → Err Group ≡ apart_on g t m
  unfolding apart_on
  says_group e f = rw (e, f)

  module _ (e : sound t (length m) ≡ true) (f : is_group g (cores_of t) ≡ true) where
    says : (b : Bool) → apart g t m ≡ b → Ok b ≡ apart_on g t m
    unfolding apart_on
    says b h = rw (e, f, h)

    pub says_mode : all (passes g t) (range (cores_of t)) ≡ false → Ok false ≡ apart_on g t m
    says_mode h = says false (unfold apart in ap (λ (b : Bool). b && pages_apart (pages_of t) (S t m g) (T t m g)) (users_are g t ∙ h))

    pub says_pages : all (passes g t) (range (cores_of t)) ≡ true → (b : Bool) → b ≡ pages_apart (pages_of t) (S t m g) (T t m g) → Ok b ≡ apart_on g t m
    says_pages h b q = says b (unfold apart in ap (λ (a : Bool). a && pages_apart (pages_of t) (S t m g) (T t m g)) (users_are g t ∙ h) ∙ sym q)
