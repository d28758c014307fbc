-- The reasons that the code gives are those of specs/Why.antt.
-- Assumes nothing.
use Rattle.std.specs.Prelude.{if◌then◌else◌}
use mathlib.Core.Path.{◌≡◌, refl, sym, ap, ap₂, subst, ◌∙◌}
use mathlib.Core.Logic.{◌≢◌}
use mathlib.Core.Bool.{Bool, true, false, ◌&&◌, ◌||◌, not, false≢true}
use mathlib.Core.List.{List, [], ◌∷◌, ◌++◌}
use Prim.Native.Nat.{ℕ, zero, suc, ◌+◌, ◌-◌, ◌<◌, ◌≤◌}
use native.Mathlib.Omega.{arith}
use native.Mathlib.Numerals.{add-one}
use native.Mathlib.Decide.{ℕ_discrete}
use lib.Dec.{eqb, ltb}
use lib.ListN.{length, get_or, set, length-set}
use lib.Seq.{get_or-set_same, get_or-set_other}
use borrow.Author.Tests.{ltb-true, ltb-false, ne_eqb}
use Rattle.word.specs.Word.{is_set, flag}
use Rattle.word.proofs.Truth.{and_left, and_right, and_none, and-true, tested, clash}
use Rattle.layout.specs.Blocks.{block}
use Rattle.records.specs.Records.{all}
use Rattle.records.proofs.Counts.{either}
use Rattle.tables.specs.Views.{cores_of, pages_of, runs}
use Rattle.reach.specs.Lists.{range, has, select}
use Rattle.reach.specs.Reach.{Pages, members, reach, table_pages, reached, in_memory, map_byte, map_for}
use Rattle.reach.proofs.Lists.{Each, has_append, in_all}
use Rattle.separation.specs.Apart.{rest, runs_as_user}
use Rattle.separation.specs.inner.Sides.{passes}
use Rattle.separation.proofs.Mapped.{map_long, marked_is, byte_table, byte_writable, byte_in}
use Rattle.ways.specs.declared.Named.{Named}
use Rattle.ways.specs.declared.Way.{Way}
use Rattle.std.specs.Prelude.{Option, None, Some}
use Rattle.reasons.specs.declared.Side.TheVariants.{Group, Rest}
use Rattle.reasons.specs.declared.Reason.{Reason}
use Rattle.reasons.specs.declared.Reason.TheVariants.{NotUser, BeyondMemory, OwnTable, Touches}
use Rattle.ways.specs.declared.want.Fault.{Fault}
use Rattle.ways.specs.declared.want.Fault.TheVariants.{Table, Touch}
use Rattle.ways.specs.declared.want.Want.TheVariants.{Beyond, Marked, Page}
use Rattle.ways.specs.Ways.{ways, page, lowest_way}
use Rattle.std.specs.Option.{is_none, is_some}
use Rattle.reasons.specs.Why.{grants, spoils, by_way, way_to, with_own, fails, first_failing, mode_reason, beyond_reason, table_reason, touch_reason, reason_at, or_else, first_after}
use Rattle.ways.specs.inner.Search.{shows, wanted, sought}
use Rattle.reasons.specs.inner.Judging.{fault_at, Faults, FaultsMarked, faulty, beyond_found, table_found, touch_found}
use Rattle.reasons.proofs.None.{lowest_none, reached_all, grants_all, spoils_all}
use Rattle.ways.proofs.Lists.{select_none, each_weak, all_ext}
use Rattle.ways.proofs.Searches.{wanted_below, wanted_out, wanted_marked}

-- ---- modes

some_none : {A : Type 0} {x : A} → Some x ≡ None → ⊥
some_none e = let z : ◌≡◌ {A = ℕ} 0 1 = cc in omega arith

-- no core below k fails
first_append : (g : ℕ) (t l r : List ℕ) → first_failing g t l ≡ None → first_failing g t (l ++ r) ≡ first_failing g t r
unfolding first_failing
first_append g t [] r e = refl
first_append g t (k ∷ l) r e = go (fails g t k) e (first_append g t l r)
  where
    go : (b : Bool) → (if b then Some (NotUser k) else first_failing g t l) ≡ None → (first_failing g t l ≡ None → first_failing g t (l ++ r) ≡ first_failing g t r) → (if b then Some (NotUser k) else first_failing g t (l ++ r)) ≡ first_failing g t r
    go true u f = absurd (some_none u)
    go false u f = f u

first_found : (g : ℕ) (t l r : List ℕ) (k : ℕ) → first_failing g t l ≡ Some (NotUser k) → first_failing g t (l ++ r) ≡ Some (NotUser k)
unfolding first_failing
first_found g t [] r k e = absurd (some_none (sym e))
first_found g t (j ∷ l) r k e = go (fails g t j) e (first_found g t l r k)
  where
    go : (b : Bool) → (if b then Some (NotUser j) else first_failing g t l) ≡ Some (NotUser k) → (first_failing g t l ≡ Some (NotUser k) → first_failing g t (l ++ r) ≡ Some (NotUser k)) → (if b then Some (NotUser j) else first_failing g t (l ++ r)) ≡ Some (NotUser k)
    go true u f = u
    go false u f = f u

-- a core fails where it does not pass
fails_is : (g : ℕ) (t : List ℕ) (k : ℕ) → fails g t k ≡ not (passes g t k)
fails_is g t k = go (is_set g k || runs (block t k)) (runs_as_user t k)
  where
    go : (a b : Bool) → a && not b ≡ not (not a || b)
    go true true = refl
    go true false = refl
    go false b = refl

abbrev pub NoneBelow : ℕ → List ℕ → ℕ → Type 0
NoneBelow g t k = first_failing g t (range k) ≡ None

pub modes_start : (g : ℕ) (t : List ℕ) → NoneBelow g t 0
unfolding range first_failing
modes_start g t = refl

pub modes_next : (g : ℕ) (t : List ℕ) (k : ℕ) (b : Bool) → b ≡ passes g t k → not b ≡ false → NoneBelow g t k → NoneBelow g t (k + 1)
unfolding range first_failing
modes_next g t k b p q e = rw add-one (first_append g t (range k) (k ∷ []) e ∙ ap (λ (c : Bool). if c then Some (NotUser k) else None) (fails_is g t k ∙ ap not (sym p) ∙ q))

-- a core that fails is the first of all
hit : (g : ℕ) (t : List ℕ) (k : ℕ) → NoneBelow g t k → fails g t k ≡ true → first_failing g t (range (k + 1)) ≡ Some (NotUser k)
unfolding range first_failing
hit g t k e f = rw add-one (first_append g t (range k) (k ∷ []) e ∙ ap (λ (c : Bool). if c then Some (NotUser k) else None) f)

hit_more : (g : ℕ) (t : List ℕ) (k d : ℕ) → NoneBelow g t k → fails g t k ≡ true → first_failing g t (range (d + (k + 1))) ≡ Some (NotUser k)
unfolding range
hit_more g t k zero e f = ap (λ (n : ℕ). first_failing g t (range n)) zero_first ∙ hit g t k e f
  where
    zero_first : 0 + (k + 1) ≡ k + 1
    zero_first = omega arith
hit_more g t k (suc d) e f = ap (λ (n : ℕ). first_failing g t (range n)) one_more ∙ first_found g t (range (d + (k + 1))) ((d + (k + 1)) ∷ []) k (hit_more g t k d e f)
  where
    one_more : suc d + (k + 1) ≡ suc (d + (k + 1))
    one_more = omega arith

pub modes_found : (g : ℕ) (t : List ℕ) (k : ℕ) (b : Bool) → b ≡ passes g t k → not b ≡ true → NoneBelow g t k → k < cores_of t → Some (NotUser k) ≡ mode_reason g t
unfolding mode_reason
modes_found g t k b p q e h =
    let s : cores_of t - (k + 1) + (k + 1) ≡ cores_of t = omega arith in
    sym (hit_more g t k (cores_of t - (k + 1)) e (fails_is g t k ∙ ap not (sym p) ∙ q)) ∙ ap (λ (n : ℕ). first_failing g t (range n)) s

pub modes_end : (g : ℕ) (t : List ℕ) (k : ℕ) → k ≡ cores_of t → NoneBelow g t k → None ≡ mode_reason g t
unfolding mode_reason
modes_end g t k z e = sym e ∙ ap (λ (n : ℕ). first_failing g t (range n)) z

-- ---- pages

pub map_size : (cs t m : List ℕ) → length (map_for cs t m) ≡ pages_of t
unfolding map_for
map_size cs t m = map_long (λ (x : ℕ). map_byte (reach cs t m) x) (pages_of t)

-- two tests that agree on every way
select_where : (p q : Way → Bool) (l : List Way) → Each (λ w. p w ≡ q w) l → select p l ≡ select q l
unfolding select
select_where p q [] h = refl
select_where p q (w ∷ l) h = ap₂ (λ (b : Bool) (r : List Way). if b then w ∷ r else r) h.0 (select_where p q l h.1)

select_same : (p q : Way → Bool) (l : List Way) → ((w : Way) → p w ≡ q w) → select p l ≡ select q l
select_same p q l h = select_where p q l (every l)
  where
    every : (r : List Way) → Each (λ w. p w ≡ q w) r
    every [] = tt
    every (w ∷ r) = (h w, every r)

all_each : (p : Way → Bool) (l : List Way) → all p l ≡ true → Each (λ w. p w ≡ true) l
unfolding all
all_each p [] e = tt
all_each p (w ∷ l) e = (and_left (p w) _ e, all_each p l (and_right (p w) _ e))

-- tests of a page in memory, where the second holds wherever the way passes
same : (g l a b x y : Bool) → (l ≡ true → a ≡ x) → (l ≡ true → b ≡ y) → not (g && not y) ≡ true → g && (l && (a && b)) ≡ g && (l && x)
same true true a b x true f u h = ap₂ ◌&&◌ (f refl) (u refl) ∙ and-true x
same true true a b x false f u h = absurd (false≢true h)
same true false a b x y f u h = refl
same false l a b x y f u h = refl

-- a list has its own elements
itself : (l : List ℕ) → all (λ p. not (not (has p l))) l ≡ true
itself l = in_all (λ p. not (not (has p l))) l (λ p h. rw h refl)

-- ---- marks

module _ (f : Fault) (own other s : List ℕ) (low : ℕ) (F : Faults f own other s low) where
  flagged : (b : Bool) → eqb (flag b) 1 ≡ b
  flagged true = refl
  flagged false = refl

  mark_is : (p : ℕ) → p < length s → eqb (get_or s p 0) 1 ≡ fault_at f (get_or own p 0) (get_or other p 0)
  mark_is p h = ap (λ (z : ℕ). eqb z 1) (F.marks p h) ∙ flagged (fault_at f (get_or own p 0) (get_or other p 0))

  pub wanted_is : (x : Named) → wanted (Marked f low) (length s) s x ≡ faulty f (length s) own other x
  unfolding faulty
  wanted_is x =
      tested (ltb p low)
      (λ b. let h : p < low = ltb-true p low b in sym (wanted_below n s x f low h) ∙ sym (none (below h)))
      (λ b. let h : low ≤ p = ltb-false p low b in
      tested (ltb p n)
      (λ i. let l : p < n = ltb-true p n i in sym (wanted_marked n s x f low h l) ∙ ap (λ (e : Bool). shows f x && e) (mark_is p l) ∙ rw i refl)
      (λ i. sym (wanted_out n s x f low h (ltb-false p n i)) ∙ sym (none (ap (λ (e : Bool). e && fault_at f (get_or own p 0) (get_or other p 0)) i))))
    where
      p : ℕ
      p = x.page

      n : ℕ
      n = length s

      none : ltb p n && fault_at f (get_or own p 0) (get_or other p 0) ≡ false → shows f x && (ltb p n && fault_at f (get_or own p 0) (get_or other p 0)) ≡ false
      none e = and_none (shows f x) _ e

      below : p < low → ltb p n && fault_at f (get_or own p 0) (get_or other p 0) ≡ false
      below h = tested (ltb p n && fault_at f (get_or own p 0) (get_or other p 0)) (λ e. let i = ltb-true p n (and_left (ltb p n) _ e) in let j = F.least p i (and_right (ltb p n) _ e) in absurd (omega arith)) (λ e. e)

  -- where no page is at fault nothing is found
  pub none_wanted : (l : List Way) → length s ≤ low → None ≡ sought (faulty f (length s) own other) l
  unfolding sought lowest_way
  none_wanted l h = sym (ap lowest_way (select_none (λ w. faulty f (length s) own other w.names) l (λ w. sym (wanted_is w.names) ∙ out w.names)))
    where
      out : (x : Named) → wanted (Marked f low) (length s) s x ≡ false
      out x = tested (ltb x.page low) (λ b. sym (wanted_below (length s) s x f low (ltb-true x.page low b))) (λ b. let g : low ≤ x.page = ltb-false x.page low b in sym (wanted_out (length s) s x f low g (omega arith)))

  pub wanted_faulty : (l : List Way) → sought (wanted (Marked f low) (length s) s) l ≡ sought (faulty f (length s) own other) l
  unfolding sought
  wanted_faulty l = ap lowest_way (select_same (λ w. wanted (Marked f low) (length s) s w.names) (λ w. faulty f (length s) own other w.names) l (λ w. wanted_is w.names))

-- the same beside a memory of n pages
module _ (f : Fault) (own other s : List ℕ) (low n : ℕ) (z : length s ≡ n) (F : Faults f own other s low) (l : List Way) where
  pub none_faulty : n ≤ low → None ≡ sought (faulty f n own other) l
  none_faulty h = none_wanted f own other s low F l (omega arith) ∙ ap (λ (i : ℕ). sought (faulty f i own other) l) z

  pub find_faulty : sought (wanted (Marked f low) n s) l ≡ sought (faulty f n own other) l
  find_faulty = ap (λ (i : ℕ). sought (wanted (Marked f low) i s) l) (sym z) ∙ wanted_faulty f own other s low F l ∙ ap (λ (i : ℕ). sought (faulty f i own other) l) z

-- the page itself
pub itself_is : (p n : ℕ) (c : List ℕ) (l : List Way) → sought (wanted (Page p) n c) l ≡ way_to p l
unfolding sought wanted way_to
itself_is p n c l = refl

module _ (cs t m : List ℕ) where
  pub beyond_is : (c : List ℕ) → sought (wanted Beyond (pages_of t) c) (ways cs t m) ≡ beyond_found cs t m
  unfolding sought wanted beyond_found
  beyond_is c = refl

  pub beyond_none : (b : Bool) → b ≡ not (in_memory (reach cs t m) (pages_of t)) → b ≡ false → None ≡ beyond_found cs t m
  unfolding beyond_found in_memory
  beyond_none b p q = sym (nothing (lowest_way (select (λ w. not (ltb (page w) (pages_of t))) (ways cs t m))) (lowest_none (λ w. not (ltb (page w) (pages_of t))) (ways cs t m) ∙ all_ext (λ w. not (not (ltb (page w) (pages_of t)))) (λ w. ltb (page w) (pages_of t)) (ways cs t m) (λ w. twice (ltb (page w) (pages_of t))) ∙ reached_all cs t m (λ p. ltb p (pages_of t)) ∙ inside (in_memory (reach cs t m) (pages_of t)) (sym p ∙ q)))
    where
      nothing : (f : Option Way) → is_none f ≡ true → f ≡ None
      nothing None e = refl
      nothing (Some w) e = let z : ◌≡◌ {A = ℕ} 0 1 = cc in absurd (omega arith)

      twice : (a : Bool) → not (not a) ≡ a
      twice true = refl
      twice false = refl

      inside : (a : Bool) → not a ≡ false → a ≡ true
      inside true e = refl
      inside false e = let z : ◌≡◌ {A = ℕ} 0 1 = cc in absurd (omega arith)

  -- a way that grants write comes to a page that the side can write, and one that spoils to such a page or a table
  granting : Each (λ w. not (grants w && not (has (page w) (reach cs t m).writables)) ≡ true) (ways cs t m)
  granting = all_each (λ w. not (grants w && not (has (page w) (reach cs t m).writables))) (ways cs t m) (grants_all cs t m (λ p. not (has p (reach cs t m).writables)) ∙ itself (reach cs t m).writables)

  spoiling : Each (λ w. not (spoils w && not (has (page w) ((reach cs t m).writables ++ table_pages (reach cs t m)))) ≡ true) (ways cs t m)
  spoiling = all_each (λ w. not (spoils w && not (has (page w) ((reach cs t m).writables ++ table_pages (reach cs t m))))) (ways cs t m) (spoils_all cs t m (λ p. not (has p ((reach cs t m).writables ++ table_pages (reach cs t m)))) ∙ itself ((reach cs t m).writables ++ table_pages (reach cs t m)))

  module _ (p : ℕ) (h : ltb p (pages_of t) ≡ true) where
    byte_is : get_or (map_for cs t m) p 0 ≡ map_byte (reach cs t m) p
    byte_is = byte_in cs t m p (ltb-true p (pages_of t) h)

    has_table : is_set (get_or (map_for cs t m) p 0) 1 ≡ has p (table_pages (reach cs t m))
    has_table = ap (λ (z : ℕ). is_set z 1) byte_is ∙ byte_table (reach cs t m) p

    has_writable : is_set (get_or (map_for cs t m) p 0) 2 ≡ has p (reach cs t m).writables
    has_writable = ap (λ (z : ℕ). is_set z 2) byte_is ∙ byte_writable (reach cs t m) p

    has_any : not (eqb (get_or (map_for cs t m) p 0) 0) ≡ has p (reached (reach cs t m))
    has_any = ap (λ (z : ℕ). not (eqb z 0)) byte_is ∙ marked_is (reach cs t m) p

  pub table_is : (c : List ℕ) → c ≡ map_for cs t m → sought (faulty Table (pages_of t) c c) (ways cs t m) ≡ table_found cs t m
  unfolding sought faulty fault_at table_found
  table_is c e =
      rw e (ap lowest_way (select_where _ (λ w. grants w && (ltb (page w) (pages_of t) && has (page w) (table_pages (reach cs t m)))) (ways cs t m)
      (each_weak (λ w. not (grants w && not (has (page w) (reach cs t m).writables)) ≡ true) _ (ways cs t m) (λ w h. same (grants w) (ltb (page w) (pages_of t)) _ _ (has (page w) (table_pages (reach cs t m))) (has (page w) (reach cs t m).writables) (has_table (page w)) (has_writable (page w)) h) granting)))

pub touch_is : (cs os t m c d : List ℕ) → c ≡ map_for cs t m → d ≡ map_for os t m → sought (faulty Touch (pages_of t) c d) (ways os t m) ≡ touch_found cs os t m
unfolding sought faulty fault_at touch_found
touch_is cs os t m c d e q =
    rw (e, q) (ap lowest_way (select_where _ (λ w. spoils w && (ltb (page w) (pages_of t) && has (page w) (reached (reach cs t m)))) (ways os t m)
    (each_weak (λ w. not (spoils w && not (has (page w) (Q.writables ++ table_pages Q))) ≡ true) _ (ways os t m)
    (λ w h. same (spoils w) (ltb (page w) (pages_of t)) _ _ (has (page w) (reached (reach cs t m))) (has (page w) (Q.writables ++ table_pages Q)) (has_any cs t m (page w)) (λ l. ap₂ ◌||◌ (has_writable os t m (page w) l) (has_table os t m (page w) l) ∙ sym (has_append (page w) Q.writables (table_pages Q))) h)
    (spoiling os t m))))
  where
    Q : Pages
    Q = reach os t m

-- ---- pages at fault, from the last on

-- from page i on the pages at fault are marked, and none is lower than page low
pub record From (k : Fault) (own other s : List ℕ) (low i : ℕ) : Type 0 where
  pub marks : (p : ℕ) → i ≤ p → p < length s → get_or s p 0 ≡ flag (fault_at k (get_or own p 0) (get_or other p 0))
  pub least : (p : ℕ) → i ≤ p → p < length s → fault_at k (get_or own p 0) (get_or other p 0) ≡ true → low ≤ p

-- one page more, from the last on, until all are marked
pub from_at : (k : Fault) (own other s : List ℕ) (low i : ℕ) → 0 < i → From k own other s low i → From k own other s low (i - 1 + 1)
from_at k own other s low i h F = let e : i - 1 + 1 ≡ i = omega arith in subst (From k own other s low) (sym e) F

pub from_start : (k : Fault) (own other s : List ℕ) → From k own other s (length s) (length s)
from_start k own other s = record { marks = λ p h l. absurd (omega arith); least = λ p h l e. absurd (omega arith) }

module _ (k : Fault) (own other s : List ℕ) (low i : ℕ) (F : From k own other s low (i + 1)) (h : i < length s) (b : Bool) (e : b ≡ fault_at k (get_or own i 0) (get_or other i 0)) where
  kept : (v p : ℕ) → i ≤ p → p < length (set s i v) → v ≡ flag b → get_or (set s i v) p 0 ≡ flag (fault_at k (get_or own p 0) (get_or other p 0))
  kept v p j l z =
      either (ℕ_discrete p i)
      (λ q. rw q (get_or-set_same s i v 0 h ∙ z ∙ ap flag e))
      (λ d. get_or-set_other s i p v 0 d ∙ F.marks p (omega arith) (omega (arith, length-set s i v)))

  pub from_fault : b ≡ true → From k own other (set s i 1) i i
  from_fault t = record { marks = λ p j l. kept 1 p j l (sym (ap flag t)); least = λ p j l u. j }

  pub from_good : b ≡ false → From k own other (set s i 0) low i
  from_good t =
      record {
        marks = λ p j l. kept 0 p j l (sym (ap flag t));
        least = λ p j l u. either (ℕ_discrete p i) (λ q. clash b (e ∙ sym (ap (λ (z : ℕ). fault_at k (get_or own z 0) (get_or other z 0)) q) ∙ u) t) (λ d. F.least p (omega arith) (omega (arith, length-set s i 0)) u);
      }

pub from_all : (k : Fault) (own other r s : List ℕ) (low i : ℕ) → length s ≡ length r → i ≤ 0 → From k own other s low i → FaultsMarked k own other r s low
from_all k own other r s low i q z F = record { long = q; faults = record { marks = λ p l. F.marks p (omega arith) l; least = λ p l e. F.least p (omega arith) l e } }

-- ---- two ways as a reason

module _ (cs os t m : List ℕ) (f : Option Way) (e : f ≡ touch_found cs os t m) where
  pub touch_nothing : f ≡ None → None ≡ touch_reason cs os t m
  unfolding touch_reason touch_found
  touch_nothing z = ap (with_own (ways cs t m)) (sym z ∙ e)

  pub touch_both : (w : Way) (s : Option Way) (r : Option Reason) → f ≡ Some w → s ≡ way_to (page w) (ways cs t m) → r ≡ by_way (Touches w) s → r ≡ touch_reason cs os t m
  unfolding touch_reason touch_found
  touch_both w s r z q p = p ∙ ap (by_way (Touches w)) q ∙ ap (with_own (ways cs t m)) (sym z ∙ e)

-- ---- the reasons by their numbers

module _ (g o : ℕ) (t m : List ℕ) (others : members o (cores_of t) ≡ rest g t) where
  abbrev cs : List ℕ
  cs = members g (cores_of t)

  abbrev os : List ℕ
  os = members o (cores_of t)

  module _ (r : Option Reason) (f : Option Way) where
    pub at_2 : f ≡ beyond_found cs t m → r ≡ by_way (BeyondMemory Group) f → r ≡ reason_at g t m 2
    unfolding reason_at beyond_reason beyond_found
    at_2 e q = q ∙ ap (by_way (BeyondMemory Group)) e

    pub at_3 : f ≡ beyond_found os t m → r ≡ by_way (BeyondMemory Rest) f → r ≡ reason_at g t m 3
    unfolding reason_at beyond_reason beyond_found
    at_3 e q = q ∙ ap (by_way (BeyondMemory Rest)) e ∙ ap (λ (l : List ℕ). beyond_reason Rest l t m) others

    pub at_4 : f ≡ table_found cs t m → r ≡ by_way (OwnTable Group) f → r ≡ reason_at g t m 4
    unfolding reason_at table_reason table_found
    at_4 e q = q ∙ ap (by_way (OwnTable Group)) e

    pub at_5 : f ≡ table_found os t m → r ≡ by_way (OwnTable Rest) f → r ≡ reason_at g t m 5
    unfolding reason_at table_reason table_found
    at_5 e q = q ∙ ap (by_way (OwnTable Rest)) e ∙ ap (λ (l : List ℕ). table_reason Rest l t m) others

  pub at_6 : (r : Option Reason) (n : ℕ) → n ≢ 1 → n ≢ 2 → n ≢ 3 → n ≢ 4 → n ≢ 5 → r ≡ touch_reason cs os t m → r ≡ reason_at g t m n
  unfolding reason_at
  at_6 r n a b c d h e =
      e
      ∙ ap (λ (l : List ℕ). touch_reason cs l t m) others
      ∙ rw (ne_eqb n 1 a, ne_eqb n 2 b, ne_eqb n 3 c, ne_eqb n 4 d, ne_eqb n 5 h) refl

pub at_1 : (g : ℕ) (t m : List ℕ) → mode_reason g t ≡ reason_at g t m 1
unfolding reason_at
at_1 g t m = refl

-- ---- one after another

module _ (g : ℕ) (t m : List ℕ) (n : ℕ) (h : n < 6) where
  next : first_after g t m (6 - n) n ≡ or_else (reason_at g t m (n + 1)) (first_after g t m (6 - (n + 1)) (n + 1))
  unfolding first_after
  next = let e : 6 - n ≡ suc (6 - (n + 1)) = omega arith in ap (λ (d : ℕ). first_after g t m d n) e

  pub after_found : (r : Option Reason) → r ≡ reason_at g t m (n + 1) → is_some r ≡ true → r ≡ first_after g t m (6 - n) n
  after_found r e q = sym (next ∙ ap (λ (a : Option Reason). or_else a (first_after g t m (6 - (n + 1)) (n + 1))) (sym e) ∙ here r q)
    where
      here : (x : Option Reason) → is_some x ≡ true → or_else x (first_after g t m (6 - (n + 1)) (n + 1)) ≡ x
      here None q = absurd (false≢true q)
      here (Some a) q = refl

  pub after_next : (r : Option Reason) → r ≡ reason_at g t m (n + 1) → is_some r ≡ false → first_after g t m (6 - n) n ≡ first_after g t m (6 - (n + 1)) (n + 1)
  after_next r e q = next ∙ ap (λ (a : Option Reason). or_else a (first_after g t m (6 - (n + 1)) (n + 1))) (sym e) ∙ here r q
    where
      here : (x : Option Reason) → is_some x ≡ false → or_else x (first_after g t m (6 - (n + 1)) (n + 1)) ≡ first_after g t m (6 - (n + 1)) (n + 1)
      here None q = refl
      here (Some a) q = absurd (false≢true (sym q))

pub after_end : (g : ℕ) (t m : List ℕ) (n : ℕ) → 6 ≤ n → None ≡ first_after g t m (6 - n) n
unfolding first_after
after_end g t m n h = let e : 6 - n ≡ 0 = omega arith in ap (λ (d : ℕ). first_after g t m d n) (sym e)
