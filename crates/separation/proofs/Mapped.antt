-- The map that Reach fills, and the lists that it is defined by.
-- Assumes nothing.
use mathlib.Core.Path.{◌≡◌, refl, sym, ap, ◌∙◌}
use mathlib.Core.Bool.{Bool, true, false, ◌||◌, not}
use mathlib.Core.List.{List, [], ◌∷◌, ◌++◌, map}
use Prim.Native.Nat.{ℕ, zero, suc, ◌+◌, ◌-◌, ◌*◌, ◌/◌, ◌%◌, ◌^◌, ◌<◌, ◌≤◌}
use native.Mathlib.Omega.{arith}
use native.Mathlib.Decide.{ℕ_discrete}
use native.Mathlib.Nat.{div-eq_of_lt, pow-le-pow_right}
use lib.ListN.{length, get_or, length-append, length-map, get_or-append, get_or-eq_default}
use lib.Seq.{get_or_at}
use lib.Dec.{eqb, ltb, leb}
use borrow.Author.Tests.{ltb-true, ltb-false, leb-true, leb-false}
use Rattle.word.specs.Word.{flag, is_set}
use Rattle.word.proofs.Truth.{and_right, tested, clash}
use Rattle.records.proofs.Counts.{either}
use Rattle.records.proofs.Views.{map-append}
use Rattle.tables.specs.Views.{pages_of}
use Rattle.reach.specs.Lists.{range, has, select}
use Rattle.reach.specs.Reach.{Pages, table_pages, reached, reach, in_memory, map_byte, map_for, members, is_group}
use Rattle.reach.proofs.Lists.{In, in_left, in_right, range_in, select_append, select_same, all_in, has_append}

-- ---- bytes of the map

range_long : (n : ℕ) → length (range n) ≡ n
unfolding range
range_long zero = refl
range_long (suc n) = length-append (range n) (n ∷ []) ∙ omega (arith, range_long n)

pub map_long : (f : ℕ → ℕ) (n : ℕ) → length (map f (range n)) ≡ n
map_long f n = length-map (range n) f ∙ range_long n

map_at : (f : ℕ → ℕ) (n p : ℕ) → p < n → get_or (map f (range n)) p 0 ≡ f p
unfolding range
map_at f zero p h = absurd (omega arith)
map_at f (suc n) p h =
    ap (λ (l : List ℕ). get_or l p 0) (map-append f (range n) (n ∷ []))
    ∙ either (ℕ_discrete p n)
    (λ e. get_or_at (map f (range n)) (f n) [] 0 p (map_long f n ∙ sym e) ∙ sym (ap f e))
    (λ d. get_or-append (map f (range n)) (f n ∷ []) 0 p (omega (arith, map_long f n)) ∙ map_at f n p (omega arith))

map_out : (f : ℕ → ℕ) (n p : ℕ) → n ≤ p → get_or (map f (range n)) p 0 ≡ 0
map_out f n p h = get_or-eq_default (map f (range n)) 0 {n = p} (omega (arith, map_long f n))

-- the three parts of a byte
bit_table : (a b c : Bool) → is_set (flag a * 2 + flag b + flag c * 4) 1 ≡ a
bit_table true true true = refl
bit_table true true false = refl
bit_table true false true = refl
bit_table true false false = refl
bit_table false true true = refl
bit_table false true false = refl
bit_table false false true = refl
bit_table false false false = refl

bit_writable : (a b c : Bool) → is_set (flag a * 2 + flag b + flag c * 4) 2 ≡ c
bit_writable true true true = refl
bit_writable true true false = refl
bit_writable true false true = refl
bit_writable true false false = refl
bit_writable false true true = refl
bit_writable false true false = refl
bit_writable false false true = refl
bit_writable false false false = refl

not_zero : (a b c : Bool) → not (eqb (flag a * 2 + flag b + flag c * 4) 0) ≡ (a || (b || c))
not_zero true true true = refl
not_zero true true false = refl
not_zero true false true = refl
not_zero true false false = refl
not_zero false true true = refl
not_zero false true false = refl
not_zero false false true = refl
not_zero false false false = refl

-- a page is marked
abbrev pub marked : Pages → ℕ → Bool
marked S p = not (eqb (map_byte S p) 0)

pub marked_is : (S : Pages) (p : ℕ) → marked S p ≡ has p (reached S)
unfolding map_byte
marked_is S p =
    not_zero (has p (table_pages S)) (has p S.datas) (has p S.writables)
    ∙ sym (has_append p (table_pages S) (S.datas ++ S.writables) ∙ ap (λ (t : Bool). has p (table_pages S) || t) (has_append p S.datas S.writables))

pub byte_table : (S : Pages) (p : ℕ) → is_set (map_byte S p) 1 ≡ has p (table_pages S)
unfolding map_byte
byte_table S p = bit_table (has p (table_pages S)) (has p S.datas) (has p S.writables)

pub byte_writable : (S : Pages) (p : ℕ) → is_set (map_byte S p) 2 ≡ has p S.writables
unfolding map_byte
byte_writable S p = bit_writable (has p (table_pages S)) (has p S.datas) (has p S.writables)

pub reached_low : (n : ℕ) (S : Pages) (p : ℕ) → in_memory S n ≡ true → In p (reached S) → p < n
unfolding in_memory
reached_low n S p e h = ltb-true _ _ (all_in (λ q. ltb q n) (reached S) p e h)

pub byte_in : (cs t m : List ℕ) (p : ℕ) → p < pages_of t → get_or (map_for cs t m) p 0 ≡ map_byte (reach cs t m) p
unfolding map_for
byte_in cs t m p h = map_at (λ (x : ℕ). map_byte (reach cs t m) x) (pages_of t) p h

module _ (cs t m : List ℕ) (e : in_memory (reach cs t m) (pages_of t) ≡ true) where
  byte_out : (p : ℕ) → pages_of t ≤ p → get_or (map_for cs t m) p 0 ≡ 0
  unfolding map_for
  byte_out p h = map_out (λ (x : ℕ). map_byte (reach cs t m) x) (pages_of t) p h

  none_beyond : (p : ℕ) (l : List ℕ) → ((q : ℕ) → In q l → In q (reached (reach cs t m))) → pages_of t ≤ p → has p l ≡ false
  none_beyond p l f h = tested (has p l) (λ q. absurd (omega (arith, reached_low (pages_of t) (reach cs t m) p e (f p q)))) (λ q. q)

  module _ (p : ℕ) where
    pub table_bit_lem : is_set (get_or (map_for cs t m) p 0) 1 ≡ has p (table_pages (reach cs t m))
    table_bit_lem =
        tested (ltb p (pages_of t))
        (λ l. ap (λ (x : ℕ). is_set x 1) (byte_in cs t m p (ltb-true _ _ l)) ∙ byte_table (reach cs t m) p)
        (λ l. ap (λ (x : ℕ). is_set x 1) (byte_out p (ltb-false _ _ l))
        ∙ sym (none_beyond p (table_pages (reach cs t m)) (λ q h. in_left q (table_pages (reach cs t m)) _ h) (ltb-false _ _ l)))

    pub writable_bit_lem : is_set (get_or (map_for cs t m) p 0) 2 ≡ has p (reach cs t m).writables
    writable_bit_lem =
        tested (ltb p (pages_of t))
        (λ l. ap (λ (x : ℕ). is_set x 2) (byte_in cs t m p (ltb-true _ _ l)) ∙ byte_writable (reach cs t m) p)
        (λ l. ap (λ (x : ℕ). is_set x 2) (byte_out p (ltb-false _ _ l))
        ∙ sym (none_beyond p (reach cs t m).writables (λ q h. in_right q (table_pages (reach cs t m)) _ (in_right q (reach cs t m).datas _ h)) (ltb-false _ _ l)))

  -- the pages that the map shows
  pub shown_is : select (λ p. not (eqb (get_or (map_for cs t m) p 0) 0)) (range (pages_of t)) ≡ select (λ p. has p (reached (reach cs t m))) (range (pages_of t))
  shown_is =
      select_same _ _ (range (pages_of t))
      (λ p h. ap (λ (x : ℕ). not (eqb x 0)) (byte_in cs t m p (range_in (pages_of t) p h)) ∙ marked_is (reach cs t m) p)

-- ---- numbers that fail a test do not count

select_next : (t : ℕ → Bool) (j : ℕ) → t j ≡ false → select t (range (suc j)) ≡ select t (range j)
unfolding range select
select_next t j e =
    select_append t (range j) (j ∷ []) ∙ rw e (append_none (select t (range j)))
  where
    append_none : (l : List ℕ) → l ++ [] ≡ l
    append_none [] = refl
    append_none (x ∷ l) = ap (λ (k : List ℕ). x ∷ k) (append_none l)

select_short : (t : ℕ → Bool) (k n : ℕ) → ((p : ℕ) → k ≤ p → t p ≡ false) → select t (range (n + k)) ≡ select t (range k)
select_short t k zero f = let z : 0 + k ≡ k = omega arith in ap (λ (j : ℕ). select t (range j)) z
select_short t k (suc n) f =
    let z : suc n + k ≡ suc (n + k) = omega arith in
    ap (λ (j : ℕ). select t (range j)) z ∙ select_next t (n + k) (f (n + k) (omega arith)) ∙ select_short t k n f

select_to : (t : ℕ → Bool) (k n : ℕ) → k ≤ n → ((p : ℕ) → k ≤ p → t p ≡ false) → select t (range n) ≡ select t (range k)
select_to t k n h f = let z : n ≡ n - k + k = omega arith in ap (λ (j : ℕ). select t (range j)) z ∙ select_short t k (n - k) f

pub select_both : (t : ℕ → Bool) (k n : ℕ) → ((p : ℕ) → k ≤ p → t p ≡ false) → ((p : ℕ) → n ≤ p → t p ≡ false) → select t (range k) ≡ select t (range n)
select_both t k n f g =
    tested (leb k n) (λ l. sym (select_to t k n (leb-true _ _ l) f)) (λ l. select_to t n k (omega (arith, leb-false k n l)) g)

-- ---- groups

pub group_bit : (g n k : ℕ) → is_group g n ≡ true → n ≤ k → is_set g k ≡ false
group_bit g n k e h =
    let l : g < 2 ^ n = ltb-true g (2 ^ n) (and_right (not (eqb g 0)) _ e) in
    let q : 2 ^ n ≤ 2 ^ k = pow-le-pow_right (omega arith) h in
    let z : g / 2 ^ k ≡ 0 = div-eq_of_lt (omega arith) in
    ap (λ (x : ℕ). eqb (x % 2) 1) z

pub group_there : (g n k : ℕ) → is_group g n ≡ true → is_set g k ≡ true → k < n
group_there g n k e h = tested (ltb k n) (λ l. ltb-true _ _ l) (λ l. clash (is_set g k) h (group_bit g n k e (ltb-false _ _ l)))

pub members_same : (g n k : ℕ) → is_group g n ≡ true → is_group g k ≡ true → members g n ≡ members g k
unfolding members
members_same g n k e f = select_both (λ j. is_set g j) n k (λ j h. group_bit g n j e h) (λ j h. group_bit g k j f h)
