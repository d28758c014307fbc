-- There is no reason exactly where the group is apart.
-- Assumes nothing.
use Rattle.std.specs.Prelude.{if◌then◌else◌, Option, Some, None}
use mathlib.Core.Path.{◌≡◌, refl, sym, ap, ap₂, ◌∙◌}
use mathlib.Core.Bool.{Bool, true, false, ◌&&◌, ◌||◌, not}
use mathlib.Core.List.{List, [], ◌∷◌, ◌++◌, map, flat_map}
use Prim.Native.Nat.{ℕ, zero, suc, ◌-◌}
use lib.Dec.{eqb, ltb}
use native.Mathlib.Omega.{arith}
use borrow.Author.Tests.{eqb-true, eq-eqb, le-ltb, ne_eqb, not-true}
use Rattle.word.specs.Word.{is_set}
use Rattle.word.proofs.Truth.{and_left, and_right, and-true, and_assoc, and_turn, tested, clash}
use Rattle.layout.specs.Blocks.{block}
use Rattle.records.specs.Records.{all}
use Rattle.tables.specs.Views.{cores_of, pages_of, runs}
use Rattle.tlb.specs.Walks.{entry_at, ptea_at, pte_p, pte_r, pte_ba}
use Rattle.reach.specs.Lists.{range, has, select}
use Rattle.reach.specs.Reach.{Pages, members, grants_write, reach, table_pages, reached, in_memory}
use Rattle.reach.proofs.Lists.{Each, each_append, each_flat_map, all_append, all_in, in_all, disjoint_in, both_ways, flat_map_ext, flat_map_append, flat_map_map}
use Rattle.separation.specs.Apart.{rest, runs_as_user, disjoint, closed, pages_apart, apart}
use Rattle.separation.proofs.Deciding.{users_are}
use Rattle.ways.specs.declared.Named.{Named}
use Rattle.ways.specs.declared.Way.{Way}
use Rattle.std.specs.Prelude.{Option, None, Some}
use Rattle.reasons.specs.declared.Side.{Side}
use Rattle.reasons.specs.declared.Side.TheVariants.{Group, Rest}
use Rattle.reasons.specs.declared.Reason.{Reason}
use Rattle.reasons.specs.declared.Reason.TheVariants.{NotUser, BeyondMemory, OwnTable, Touches}
use Rattle.ways.specs.Ways.{naming, roots, root_way, entry_named, next_named, further, next_ways, onward, all_from, core_ways, ways, page, lower, lowest_way}
use Rattle.reasons.specs.Why.{grants, spoils, by_way, way_to, with_own, fails, first_failing, mode_reason, beyond_reason, table_reason, touch_reason, reason_at, or_else, first_after}
use Rattle.std.specs.Option.{is_none}
use Rattle.ways.proofs.Lists.{flat_flat, each_map, each_weak, each_select, each_through, all_map, all_ext, all_flat_map, all_both, all_selected}
use Rattle.ways.proofs.Pages.{root_ways, at_level, first_ways, second_ways, data_ways, write_ways, first_pages_lem, second_pages_lem, data_pages_lem, writable_pages_lem}

-- ---- the ways of all levels

module _ (q : Way → Bool) (m : List ℕ) where
  abbrev next : Way → List Way
  next = next_ways m

  -- a test of all that a root of level l leads to by f
  abbrev from : ℕ → (Way → List Way) → Way → Bool
  from l f w = if at_level l w then all q (f w) else true

  from_all : (l : ℕ) (f : Way → List Way) (r : List Way) → all (from l f) r ≡ all q (flat_map f (select (at_level l) r))
  from_all l f r = all_selected (at_level l) (λ w. all q (f w)) r ∙ sym (all_flat_map q f (select (at_level l) r))

  abbrev itself : Way → List Way
  itself w = w ∷ []

  itself_all : (l : List Way) → all q (flat_map itself l) ≡ all q l
  unfolding all flat_map
  itself_all [] = refl
  itself_all (w ∷ l) = ap (λ (z : Bool). q w && z) (itself_all l)

  -- one level down, two levels down
  no_down : (w : Way) → all q (onward m 0 w) ≡ all q (itself w)
  unfolding onward
  no_down w = refl

  one_down : (w : Way) → all q (onward m 1 w) ≡ q w && all q (next w)
  unfolding onward all
  one_down w = ap (λ (z : Bool). q w && z) (ap (all q) (flat_map_ext (onward m 0) itself (next w) (λ v. refl)) ∙ itself_all (next w))

  two_down : (w : Way) → all q (onward m 2 w) ≡ q w && (all q (next w) && all q (flat_map next (next w)))
  unfolding onward all
  two_down w =
      ap (λ (z : Bool). q w && z)
      (all_flat_map q (onward m 1) (next w)
      ∙ all_ext (λ v. all q (onward m 1 v)) (λ v. q v && all q (next v)) (next w) one_down
      ∙ all_both q (λ v. all q (next v)) (next w)
      ∙ ap (λ (z : Bool). all q (next w) && z) (sym (all_flat_map q next (next w))))

  abbrev parts : Way → Bool
  parts w = from 2 itself w && ((from 2 next w && from 1 itself w) && ((from 2 (λ v. flat_map next (next v)) w && from 1 next w) && from 0 itself w))

  by_level : (w : Way) → all q (all_from m w) ≡ parts w
  unfolding all_from all
  by_level w = go w.names.level refl
    where
      go : (l : ℕ) → w.names.level ≡ l
          → all q (if ltb l 3 then onward m l w else [])
          ≡ (if eqb l 2 then all q (itself w) else true) && (((if eqb l 2 then all q (next w) else true) && (if eqb l 1 then all q (itself w) else true)) && (((if eqb l 2 then all q (flat_map next (next w)) else true) && (if eqb l 1 then all q (next w) else true)) && (if eqb l 0 then all q (itself w) else true)))
      go zero e = no_down w
      go (suc zero) e = one_down w ∙ ap₂ ◌&&◌ (sym (and-true (q w))) (sym (and-true (all q (next w))))
      go (suc (suc zero)) e =
          two_down w
          ∙ ap₂ ◌&&◌ (sym (and-true (q w)))
          (ap₂ ◌&&◌ (sym (and-true (all q (next w)))) (sym (and-true (all q (flat_map next (next w)) && true) ∙ and-true (all q (flat_map next (next w))))))
      go (suc (suc (suc l))) e = let n = suc (suc (suc l)) in rw (le-ltb n 3 (omega arith), ne_eqb n 2 (λ z. omega arith), ne_eqb n 1 (λ z. omega arith), ne_eqb n 0 (λ z. omega arith)) refl

  root_list : (cs t : List ℕ) → ways cs t m ≡ flat_map (all_from m) (root_ways cs t)
  unfolding ways core_ways root_ways
  root_list cs t =
      flat_map_ext (core_ways t m) (λ (k : ℕ). flat_map (all_from m) (map (root_way (block t k) k) (roots (block t k)))) cs (λ k. flat_map_map (all_from m) (root_way (block t k) k) (roots (block t k)))
      ∙ sym (flat_flat (all_from m) (λ (k : ℕ). map (root_way (block t k) k) (roots (block t k))) cs)

  all_ways : (cs t : List ℕ) → all q (ways cs t m) ≡ all q (first_ways cs t) && (all q (second_ways cs t m) && all q (data_ways cs t m))
  unfolding first_ways second_ways data_ways
  all_ways cs t =
      ap (all q) (root_list cs t)
      ∙ all_flat_map q (all_from m) r
      ∙ all_ext (λ w. all q (all_from m w)) parts r by_level
      ∙ all_both (from 2 itself) (λ w. (from 2 next w && from 1 itself w) && ((from 2 two w && from 1 next w) && from 0 itself w)) r
      ∙ ap₂ ◌&&◌ (from_all 2 itself r ∙ itself_all f)
      (all_both (λ w. from 2 next w && from 1 itself w) (λ w. (from 2 two w && from 1 next w) && from 0 itself w) r
      ∙ ap₂ ◌&&◌
      (all_both (from 2 next) (from 1 itself) r ∙ ap₂ ◌&&◌ (from_all 2 next r) (from_all 1 itself r ∙ itself_all s) ∙ sym (all_append q (flat_map next f) s))
      (all_both (λ w. from 2 two w && from 1 next w) (from 0 itself) r
      ∙ ap₂ ◌&&◌
      (all_both (from 2 two) (from 1 next) r ∙ ap₂ ◌&&◌ (from_all 2 two r ∙ ap (all q) (sym (flat_flat next next f))) (from_all 1 next r) ∙ sym (all_append q (flat_map next (flat_map next f)) (flat_map next s)) ∙ ap (all q) (sym (flat_map_append next (flat_map next f) s)))
      (from_all 0 itself r ∙ itself_all d)
      ∙ sym (all_append q (flat_map next (flat_map next f ++ s)) d)))
    where
      r : List Way
      r = root_ways cs t

      f : List Way
      f = select (at_level 2) r

      s : List Way
      s = select (at_level 1) r

      d : List Way
      d = select (at_level 0) r

      two : Way → List Way
      two w = flat_map next (next w)

-- ---- their levels

abbrev AtLevel : ℕ → Way → Type 0
AtLevel l w = w.names.level ≡ l

selected_level : (l : ℕ) (r : List Way) → Each (AtLevel l) (select (at_level l) r)
unfolding select
selected_level l [] = tt
selected_level l (w ∷ r) = go (at_level l w) refl (selected_level l r)
  where
    go : (b : Bool) → at_level l w ≡ b → Each (AtLevel l) (select (at_level l) r) → Each (AtLevel l) (if b then w ∷ select (at_level l) r else select (at_level l) r)
    go true e h = (eqb-true w.names.level l e, h)
    go false e h = h

-- an entry leads one level down
down : (m : List ℕ) (l : ℕ) (w : Way) → AtLevel l w → Each (AtLevel (l - 1)) (next_ways m w)
unfolding next_ways flat_map
down m l w e =
    each_flat_map (AtLevel (l - 1)) (λ (i : ℕ). map (further w i) (next_named m w.names i)) (range 1024)
    (λ i. each_map (AtLevel (l - 1)) (further w i) (next_named m w.names i) (one (entry_at m (ptea_at w.names.page i))))
  where
    one : (v : Option ℕ) → Each (λ (y : Named). y.level ≡ l - 1) (entry_named w.names v)
    one (Some v) = by (pte_p v)
      where
        by : (p : Bool) → Each (λ (y : Named). y.level ≡ l - 1) (if p then naming (w.names.level - 1) (pte_ba v) (grants_write (pte_r v)) ∷ [] else [])
        by true = (ap (λ (n : ℕ). n - 1) e, tt)
        by false = tt
    one None = tt

-- two tests that agree where all elements are
all_where : {A : Type 0} (P : A → Type 0) (t u : A → Bool) (l : List A) → ((x : A) → P x → t x ≡ u x) → Each P l → all t l ≡ all u l
unfolding all
all_where P t u [] f e = refl
all_where P t u (x ∷ l) f e = ap₂ ◌&&◌ (f x e.0) (all_where P t u l f e.1)

all_true : {A : Type 0} (l : List A) → all (λ x. true) l ≡ true
unfolding all
all_true [] = refl
all_true (x ∷ l) = all_true l

all_fewer : {A : Type 0} (t u : A → Bool) (l : List A) → all t l && all t (select u l) ≡ all t l
all_fewer t u l = ap (λ (z : Bool). all t l && z) (sym (all_selected u t l)) ∙ sym (all_both t (λ x. if u x then t x else true) l) ∙ all_ext (λ x. t x && (if u x then t x else true)) t l (λ x. go (t x) (u x))
  where
    go : (a b : Bool) → a && (if b then a else true) ≡ a
    go true true = refl
    go true false = refl
    go false b = refl

module _ (cs t m : List ℕ) (r : ℕ → Bool) where
  abbrev S : Pages
  S = reach cs t m

  first_level : Each (AtLevel 2) (first_ways cs t)
  unfolding first_ways
  first_level = selected_level 2 (root_ways cs t)

  second_level : Each (AtLevel 1) (second_ways cs t m)
  unfolding second_ways
  second_level = each_append (AtLevel 1) (flat_map (next_ways m) (first_ways cs t)) (select (at_level 1) (root_ways cs t)) (each_through (AtLevel 2) (AtLevel 1) (next_ways m) (first_ways cs t) (down m 2) first_level) (selected_level 1 (root_ways cs t))

  data_level : Each (AtLevel 0) (data_ways cs t m)
  unfolding data_ways
  data_level = each_append (AtLevel 0) (flat_map (next_ways m) (second_ways cs t m)) (select (at_level 0) (root_ways cs t)) (each_through (AtLevel 1) (AtLevel 0) (next_ways m) (second_ways cs t m) (down m 1) second_level) (selected_level 0 (root_ways cs t))

  -- a test of the pages of ways
  firsts_all : all (λ w. r (page w)) (first_ways cs t) ≡ all r S.firsts
  unfolding reach
  firsts_all = all_map r page (first_ways cs t) ∙ ap (all r) (first_pages_lem cs t)

  seconds_all : all (λ w. r (page w)) (second_ways cs t m) ≡ all r S.seconds
  unfolding reach
  seconds_all = all_map r page (second_ways cs t m) ∙ ap (all r) (second_pages_lem cs t m)

  datas_all : all (λ w. r (page w)) (data_ways cs t m) ≡ all r S.datas
  unfolding reach
  datas_all = all_map r page (data_ways cs t m) ∙ ap (all r) (data_pages_lem cs t m)

  writables_all : all (λ w. r (page w)) (write_ways cs t m) ≡ all r S.writables
  unfolding reach
  writables_all = all_map r page (write_ways cs t m) ∙ ap (all r) (writable_pages_lem cs t m)

  -- all pages reached
  pub reached_all : all (λ w. r (page w)) (ways cs t m) ≡ all r (reached S)
  reached_all =
      all_ways (λ w. r (page w)) m cs t
      ∙ ap₂ ◌&&◌ firsts_all (ap₂ ◌&&◌ seconds_all (sym (all_fewer (λ w. r (page w)) (λ w. w.names.write) (data_ways cs t m)) ∙ ap₂ ◌&&◌ datas_all writables_all ∙ sym (all_append r S.datas S.writables)))
      ∙ and_assoc (all r S.firsts) (all r S.seconds) (all r (S.datas ++ S.writables))
      ∙ ap (λ (z : Bool). z && all r (S.datas ++ S.writables)) (sym (all_append r S.firsts S.seconds))
      ∙ sym (all_append r (table_pages S) (S.datas ++ S.writables))

module _ (cs t m : List ℕ) (r : ℕ → Bool) where
  -- no way passes a test at a page that r holds of
  abbrev none : (Way → Bool) → Way → Bool
  none p w = not (p w && r (page w))

  abbrev free : ℕ → Bool
  free p = not (r p)

  writing : all (none grants) (data_ways cs t m) ≡ all free (reach cs t m).writables
  writing =
      all_where (AtLevel 0) (none grants) (λ w. if w.names.write then free (page w) else true) (data_ways cs t m) (λ w e. rw e (go w.names.write (r (page w)))) (data_level cs t m r)
      ∙ all_selected (λ w. w.names.write) (λ w. free (page w)) (data_ways cs t m)
      ∙ writables_all cs t m free
    where
      go : (a b : Bool) → not (a && b) ≡ (if a then not b else true)
      go true b = refl
      go false b = refl

  -- what a side writes; what it writes or uses as a table
  pub grants_all : all (none grants) (ways cs t m) ≡ all free (reach cs t m).writables
  grants_all =
      all_ways (none grants) m cs t
      ∙ ap₂ ◌&&◌ (all_where (AtLevel 2) (none grants) (λ w. true) (first_ways cs t) (λ w e. rw e refl) (first_level cs t m r) ∙ all_true (first_ways cs t))
      (ap₂ ◌&&◌ (all_where (AtLevel 1) (none grants) (λ w. true) (second_ways cs t m) (λ w e. rw e refl) (second_level cs t m r) ∙ all_true (second_ways cs t m)) writing)

  pub spoils_all : all (none spoils) (ways cs t m) ≡ all free ((reach cs t m).writables ++ table_pages (reach cs t m))
  spoils_all =
      all_ways (none spoils) m cs t
      ∙ ap₂ ◌&&◌ (all_where (AtLevel 2) (none spoils) (λ w. free (page w)) (first_ways cs t) (λ w e. rw e refl) (first_level cs t m r) ∙ firsts_all cs t m free)
      (ap₂ ◌&&◌ (all_where (AtLevel 1) (none spoils) (λ w. free (page w)) (second_ways cs t m) (λ w e. rw e refl) (second_level cs t m r) ∙ seconds_all cs t m free)
      (all_where (AtLevel 0) (none spoils) (none grants) (data_ways cs t m) (λ w e. rw e refl) (data_level cs t m r) ∙ writing))
      ∙ and_assoc (all free S.firsts) (all free S.seconds) (all free S.writables)
      ∙ ap (λ (z : Bool). z && all free S.writables) (sym (all_append free S.firsts S.seconds))
      ∙ and_turn (all free (table_pages S)) (all free S.writables)
      ∙ sym (all_append free S.writables (table_pages S))
    where
      S : Pages
      S = reach cs t m

-- ---- reasons

each_any : (l : List Way) → Each (λ w. Unit {0}) l
each_any [] = tt
each_any (w ∷ l) = (tt, each_any l)

or_none : (a b : Option Reason) → is_none (or_else a b) ≡ is_none a && is_none b
or_none None b = refl
or_none (Some a) b = refl

some : (w : Way) (f : Option Way) → is_none (lower (Some w) f) ≡ false
unfolding lower
some w None = refl
some w (Some v) = go (ltb (page v) (page w))
  where
    go : (b : Bool) → is_none (if b then Some v else Some w) ≡ false
    go true = refl
    go false = refl

pub lowest_none : (p : Way → Bool) (l : List Way) → is_none (lowest_way (select p l)) ≡ all (λ w. not (p w)) l
unfolding lower lowest_way select all
lowest_none p [] = refl
lowest_none p (w ∷ l) = go (p w) (lowest_none p l)
  where
    go : (b : Bool) → is_none (lowest_way (select p l)) ≡ all (λ v. not (p v)) l → is_none (lowest_way (if b then w ∷ select p l else select p l)) ≡ not b && all (λ v. not (p v)) l
    go true e = some w (lowest_way (select p l))
    go false e = e

by_way_lem : (f : Way → Reason) (x : Option Way) → is_none (by_way f x) ≡ is_none x
by_way_lem f None = refl
by_way_lem f (Some w) = refl

-- what was found, if anything
abbrev pub Holds : (Way → Type 0) → Option Way → Type 0
Holds P None = Unit {0}
Holds P (Some w) = P w

-- the lowest of some ways is one of them
pub lowest_holds : (P : Way → Type 0) (l : List Way) → Each P l → Holds P (lowest_way l)
unfolding lower lowest_way
lowest_holds P [] e = tt
lowest_holds P (w ∷ l) e = go (lowest_way l) (lowest_holds P l e.1)
  where
    pick : (v : Way) (b : Bool) → P v → Holds P (if b then Some v else Some w)
    pick v true h = h
    pick v false h = e.0

    go : (x : Option Way) → Holds P x → Holds P (lower (Some w) x)
    go None h = e.0
    go (Some v) h = pick v (ltb (page v) (page w)) h

-- a page that is reached has a way to it
way_there : (cs t m : List ℕ) (p : ℕ) → has p (reached (reach cs t m)) ≡ true → is_none (way_to p (ways cs t m)) ≡ false
unfolding way_to
way_there cs t m p h =
    lowest_none (λ w. eqb (page w) p) (ways cs t m)
    ∙ reached_all cs t m (λ x. not (eqb x p))
    ∙ tested (all (λ x. not (eqb x p)) (reached (reach cs t m)))
    (λ e. clash (eqb p p) (eq-eqb p p refl) (not-true (eqb p p) (all_in (λ x. not (eqb x p)) (reached (reach cs t m)) p e h)))
    (λ e. e)

-- so the group's own way is there wherever that of the rest is
with_own_lem : (cs t m : List ℕ) (f : Option Way) → Holds (λ w. has (page w) (reached (reach cs t m)) ≡ true) f → is_none (with_own (ways cs t m) f) ≡ is_none f
with_own_lem cs t m None h = refl
with_own_lem cs t m (Some w) h = by_way_lem (Touches w) (way_to (page w) (ways cs t m)) ∙ way_there cs t m (page w) h

-- a guard that all pages pass
guarded : (n : ℕ) (h : ℕ → Bool) (l : List ℕ) → all (λ p. ltb p n) l ≡ true → all (λ p. not (ltb p n && h p)) l ≡ all (λ p. not (h p)) l
unfolding all
guarded n h [] e = refl
guarded n h (p ∷ l) e = ap₂ ◌&&◌ (ap (λ (z : Bool). not (z && h p)) (and_left (ltb p n) _ e)) (guarded n h l (and_right (ltb p n) _ e))

-- no page of one list is in another, either way
either_way : (l r : List ℕ) → disjoint l r ≡ disjoint r l
unfolding disjoint
either_way l r = both_ways (all (λ x. not (has x r)) l) (all (λ x. not (has x l)) r) (turned l r) (turned r l)
  where
    turned : (a b : List ℕ) → all (λ x. not (has x b)) a ≡ true → all (λ x. not (has x a)) b ≡ true
    turned a b e = in_all (λ x. not (has x a)) b (λ p h. tested (has p a) (λ u. absurd (disjoint_in a b p e u h)) (λ u. rw u))

module _ (s : Side) (cs t m : List ℕ) where
  beyond_none : is_none (beyond_reason s cs t m) ≡ in_memory (reach cs t m) (pages_of t)
  unfolding beyond_reason in_memory
  beyond_none =
      by_way_lem (BeyondMemory s) (lowest_way (select (λ w. not (ltb (page w) (pages_of t))) (ways cs t m)))
      ∙ lowest_none (λ w. not (ltb (page w) (pages_of t))) (ways cs t m)
      ∙ all_ext (λ w. not (not (ltb (page w) (pages_of t)))) (λ w. ltb (page w) (pages_of t)) (ways cs t m) (λ w. twice (ltb (page w) (pages_of t)))
      ∙ reached_all cs t m (λ p. ltb p (pages_of t))
    where
      twice : (b : Bool) → not (not b) ≡ b
      twice true = refl
      twice false = refl

  table_none : in_memory (reach cs t m) (pages_of t) ≡ true → is_none (table_reason s cs t m) ≡ closed (reach cs t m)
  unfolding table_reason in_memory disjoint
  table_none e =
      by_way_lem (OwnTable s) (lowest_way (select (λ w. grants w && r (page w)) (ways cs t m)))
      ∙ lowest_none (λ w. grants w && r (page w)) (ways cs t m)
      ∙ grants_all cs t m r
      ∙ guarded (pages_of t) (λ p. has p (table_pages S)) S.writables (and_right (all low S.datas) _ (rw (all_append low S.datas S.writables) at (and_right (all low (table_pages S)) _ (rw (all_append low (table_pages S) (S.datas ++ S.writables)) at e))))
    where
      S : Pages
      S = reach cs t m

      low : ℕ → Bool
      low p = ltb p (pages_of t)

      r : ℕ → Bool
      r p = ltb p (pages_of t) && has p (table_pages S)

module _ (cs os t m : List ℕ) where
  abbrev P : Pages
  P = reach cs t m

  abbrev Q : Pages
  Q = reach os t m

  touch_none : in_memory Q (pages_of t) ≡ true → is_none (touch_reason cs os t m) ≡ disjoint (reached P) (Q.writables ++ table_pages Q)
  unfolding touch_reason in_memory disjoint
  touch_none e =
      with_own_lem cs t m (lowest_way (select (λ w. spoils w && r (page w)) (ways os t m))) (lowest_holds (λ w. has (page w) (reached P) ≡ true) (select (λ w. spoils w && r (page w)) (ways os t m)) met)
      ∙ lowest_none (λ w. spoils w && r (page w)) (ways os t m)
      ∙ spoils_all os t m r
      ∙ guarded (pages_of t) (λ p. has p (reached P)) (Q.writables ++ table_pages Q) low_all
      ∙ either_way (Q.writables ++ table_pages Q) (reached P)
    where
      low : ℕ → Bool
      low p = ltb p (pages_of t)

      r : ℕ → Bool
      r p = ltb p (pages_of t) && has p (reached P)

      met : Each (λ w. has (page w) (reached P) ≡ true) (select (λ w. spoils w && r (page w)) (ways os t m))
      met = each_weak (λ w. Unit {0} × (spoils w && r (page w) ≡ true)) _ (select (λ w. spoils w && r (page w)) (ways os t m)) (λ w h. and_right (ltb (page w) (pages_of t)) _ (and_right (spoils w) _ h.1)) (each_select (λ w. Unit {0}) (λ w. spoils w && r (page w)) (ways os t m) (each_any (ways os t m)))

      parted : all low (table_pages Q) && all low (Q.datas ++ Q.writables) ≡ true
      parted = rw (all_append low (table_pages Q) (Q.datas ++ Q.writables)) at e

      low_all : all low (Q.writables ++ table_pages Q) ≡ true
      low_all =
          all_append low Q.writables (table_pages Q)
          ∙ ap₂ ◌&&◌ (and_right (all low Q.datas) _ (rw (all_append low Q.datas Q.writables) at (and_right (all low (table_pages Q)) _ parted))) (and_left (all low (table_pages Q)) _ parted)

-- ---- modes

failing : (g : ℕ) (t l : List ℕ) → is_none (first_failing g t l) ≡ all (λ k. not (fails g t k)) l
unfolding first_failing all
failing g t [] = refl
failing g t (k ∷ l) = go (fails g t k) (failing g t l)
  where
    go : (b : Bool) → is_none (first_failing g t l) ≡ all (λ j. not (fails g t j)) l → is_none (if b then Some (NotUser k) else first_failing g t l) ≡ not b && all (λ j. not (fails g t j)) l
    go true e = refl
    go false e = e

mode_none : (g : ℕ) (t : List ℕ) → is_none (mode_reason g t) ≡ all (runs_as_user t) (members g (cores_of t) ++ rest g t)
unfolding mode_reason
mode_none g t =
    failing g t (range (cores_of t))
    ∙ all_ext (λ k. not (fails g t k)) (λ k. not (is_set g k || runs (block t k)) || runs_as_user t k) (range (cores_of t)) (λ k. turned (is_set g k || runs (block t k)) (runs_as_user t k))
    ∙ sym (users_are g t)
  where
    turned : (a b : Bool) → not (a && not b) ≡ not a || b
    turned true true = refl
    turned true false = refl
    turned false b = refl

-- ---- all reasons

under : (a : Bool) {x y : Bool} → (a ≡ true → x ≡ y) → a && x ≡ a && y
under true f = f refl
under false f = refl

pub no_reason : (g : ℕ) (t m : List ℕ) → is_none (first_after g t m 6 0) ≡ apart g t m
unfolding first_after reason_at apart pages_apart
no_reason g t m =
    or_none (mode_reason g t) _
    ∙ ap₂ ◌&&◌ (mode_none g t)
    (or_none (beyond_reason Group cs t m) _
    ∙ ap₂ ◌&&◌ (beyond_none Group cs t m) (or_none (beyond_reason Rest os t m) _ ∙ ap₂ ◌&&◌ (beyond_none Rest os t m) tables)
    ∙ and_assoc (in_memory (P cs os t m) n) (in_memory (Q cs os t m) n) _
    ∙ under (in_memory (P cs os t m) n && in_memory (Q cs os t m) n)
    (λ e. ap₂ ◌&&◌ (ap₂ ◌&&◌ (table_none Group cs t m (and_left (in_memory (P cs os t m) n) _ e)) (table_none Rest os t m (and_right (in_memory (P cs os t m) n) _ e))) (touch_none cs os t m (and_right (in_memory (P cs os t m) n) _ e))))
  where
    cs : List ℕ
    cs = members g (cores_of t)

    os : List ℕ
    os = rest g t

    n : ℕ
    n = pages_of t

    tables : is_none (or_else (table_reason Group cs t m) (or_else (table_reason Rest os t m) (or_else (touch_reason cs os t m) None))) ≡ (is_none (table_reason Group cs t m) && is_none (table_reason Rest os t m)) && is_none (touch_reason cs os t m)
    tables =
        or_none (table_reason Group cs t m) _
        ∙ ap (λ (z : Bool). is_none (table_reason Group cs t m) && z) (or_none (table_reason Rest os t m) _ ∙ ap (λ (z : Bool). is_none (table_reason Rest os t m) && z) (or_none (touch_reason cs os t m) None ∙ and-true (is_none (touch_reason cs os t m))))
        ∙ and_assoc (is_none (table_reason Group cs t m)) (is_none (table_reason Rest os t m)) (is_none (touch_reason cs os t m))
