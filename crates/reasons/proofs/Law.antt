-- The law of `why`: each answer has its ground, and there is none exactly where the group is apart.
-- Assumes nothing.
use Rattle.std.specs.Prelude.{if◌then◌else◌}
use mathlib.Core.Path.{◌≡◌, refl, sym, ap, ◌∙◌, subst}
use mathlib.Core.Bool.{Bool, true, false, ◌&&◌, ◌||◌, not, false≢true}
use mathlib.Core.List.{List, [], ◌∷◌, ◌++◌}
use Prim.Native.Nat.{ℕ, zero, suc, ◌+◌, ◌-◌, ◌<◌}
use native.Mathlib.Omega.{arith}
use lib.Dec.{eqb, ltb}
use lib.ListN.{length}
use borrow.Author.Tests.{not-true, eqb-true}
use Rattle.word.specs.Word.{is_set}
use Rattle.word.proofs.Truth.{and_left, and_right, or_other, tested}
use Rattle.layout.specs.Blocks.{block}
use Rattle.tables.specs.Views.{cores_of, pages_of, runs}
use Rattle.tables.specs.Sound.{sound}
use Rattle.reach.specs.Lists.{range, has, select}
use Rattle.reach.specs.Reach.{is_group, members, reach, table_pages, reached}
use Rattle.reach.proofs.Lists.{In, in_here, in_there, in_left, in_right, in_range, range_in, in_select, Each, if_both}
use Rattle.std.specs.Prelude.{Result, Ok, Err}
use Rattle.std.specs.Option.{is_none}
use Rattle.refusals.specs.declared.Refusal.{Refusal}
use Rattle.refusals.specs.declared.Refusal.TheVariants.{Unsound}
use Rattle.refusals.specs.declared.Refusal.TheVariants as refusal
use Rattle.separation.specs.Apart.{running_cores, rest, runs_as_user, apart, apart_on}
use Rattle.ways.specs.declared.Way.{Way}
use Rattle.std.specs.Prelude.{Option, None, Some}
use Rattle.reasons.specs.declared.Side.TheVariants.{Group, Rest}
use Rattle.reasons.specs.declared.Reason.{Reason}
use Rattle.reasons.specs.declared.Reason.TheVariants.{NotUser, BeyondMemory, OwnTable, Touches}
use Rattle.ways.specs.Ways.{ways, page, lower, lowest_way, Real}
use Rattle.reasons.specs.Why.{grants, spoils, by_way, way_to, with_own, fails, first_failing, mode_reason, beyond_reason, table_reason, touch_reason, reason_at, or_else, first_after, why_after, why_number}
use Rattle.reasons.specs.Grounds.{Outside, Written, Grounded, Law}
use Rattle.ways.proofs.Lists.{each_weak, each_select}
use Rattle.ways.proofs.Real.{ways_real}
use Rattle.reasons.proofs.None.{Holds, lowest_holds, no_reason}

none_is : (x : Option Reason) → is_none x ≡ true → x ≡ None
none_is None e = refl
none_is (Some a) e = absurd (false≢true e)

-- the lowest of some ways is one of them
lowest_is : (G : Option Reason → Type 0) (f : Way → Reason) (l : List Way) → G None → Each (λ w. G (Some (f w))) l → G (by_way f (lowest_way l))
unfolding lower lowest_way
lowest_is G f [] z e = z
lowest_is G f (w ∷ l) z e = go (lowest_way l) (lowest_is G f l z e.1)
  where
    pick : (v : Way) (b : Bool) → G (Some (f v)) → G (by_way f (if b then Some v else Some w))
    pick v true h = h
    pick v false h = e.0

    go : (x : Option Way) → G (by_way f x) → G (by_way f (lower (Some w) x))
    go None h = e.0
    go (Some v) h = pick v (ltb (page v) (page w)) h

module _ (cs t m : List ℕ) where
  abbrev R : Way → Type 0
  R = Real cs t m

  -- the ways that pass a test are real, and pass it
  passing : (P : Way → Type 0) (p : Way → Bool) → ((w : Way) → R w → p w ≡ true → P w) → Each P (select p (ways cs t m))
  passing P p f = each_weak (λ w. R w × (p w ≡ true)) P (select p (ways cs t m)) (λ w h. f w h.0 h.1) (each_select R p (ways cs t m) (ways_real cs t m))

module _ (g : ℕ) (t m : List ℕ) where
  abbrev G : Option Reason → Type 0
  G a = Grounded g t m (Ok a)

  abbrev cs : List ℕ
  cs = members g (cores_of t)

  abbrev os : List ℕ
  os = rest g t

  -- a core of either side is in their lists
  of_side : (k : ℕ) → k < cores_of t → (is_set g k || runs (block t k)) ≡ true → has k (cs ++ os) ≡ true
  unfolding members rest running_cores
  of_side k h e =
      tested (is_set g k)
      (λ i. in_left k cs os (in_select (λ j. is_set g j) (range (cores_of t)) k (in_range (cores_of t) k h) i))
      (λ i. in_right k cs os (in_select (λ j. not (is_set g j)) (select (λ j. runs (block t j)) (range (cores_of t))) k (in_select (λ j. runs (block t j)) (range (cores_of t)) k (in_range (cores_of t) k h) (or_other (is_set g k) (runs (block t k)) e i)) (ap not i)))

  mode_ground : (l : List ℕ) → ((k : ℕ) → In k l → k < cores_of t) → G (first_failing g t l)
  unfolding first_failing
  mode_ground [] f = tt
  mode_ground (k ∷ l) f = if_both G (fails g t k) (Some (NotUser k)) (first_failing g t l) (λ e. (of_side k (f k (in_here k l)) (and_left (is_set g k || runs (block t k)) _ e), not-true (runs_as_user t k) (and_right (is_set g k || runs (block t k)) _ e))) (λ _. mode_ground l (λ j h. f j (in_there j k l h)))

  outside : (ks : List ℕ) → Each (Outside ks t m) (select (λ w. not (ltb (page w) (pages_of t))) (ways ks t m))
  outside ks = passing ks t m (Outside ks t m) (λ w. not (ltb (page w) (pages_of t))) (λ w r e. record { real = r; outside = not-true (ltb (page w) (pages_of t)) e })

  written : (ks : List ℕ) → Each (Written ks t m) (select (λ w. grants w && (ltb (page w) (pages_of t) && has (page w) (table_pages (reach ks t m)))) (ways ks t m))
  written ks = passing ks t m (Written ks t m) (λ w. grants w && (ltb (page w) (pages_of t) && has (page w) (table_pages (reach ks t m)))) (λ w r e. record { real = r; granting = and_left (grants w) _ e; is_table_lem = and_right (ltb (page w) (pages_of t)) _ (and_right (grants w) _ e) })

  -- a way of the rest, and then the group's own
  abbrev Touching : Way → Type 0
  Touching w = Real os t m w × ((spoils w ≡ true) × (has (page w) (reached (reach cs t m)) ≡ true))

  touching : Each Touching (select (λ w. spoils w && (ltb (page w) (pages_of t) && has (page w) (reached (reach cs t m)))) (ways os t m))
  touching = passing os t m Touching (λ w. spoils w && (ltb (page w) (pages_of t) && has (page w) (reached (reach cs t m)))) (λ w r e. (r, (and_left (spoils w) _ e, and_right (ltb (page w) (pages_of t)) _ (and_right (spoils w) _ e))))

  met : (f : Option Way) → Holds Touching f → G (with_own (ways cs t m) f)
  unfolding way_to
  met None h = tt
  met (Some w) h =
      lowest_is G (Touches w) (select (λ v. eqb (page v) (page w)) (ways cs t m)) tt
      (passing cs t m (λ v. G (Some (Touches w v))) (λ v. eqb (page v) (page w)) (λ v r e. record { real = h.0; spoiling = h.1.0; is_reached_lem = h.1.1; own_real = r; same_page = eqb-true (page v) (page w) e }))

  reason_ground : (n : ℕ) → G (reason_at g t m n)
  unfolding reason_at mode_reason beyond_reason table_reason touch_reason
  reason_ground n =
      if_both G (eqb n 1) (mode_reason g t) _ (λ _. mode_ground (range (cores_of t)) (range_in (cores_of t)))
      (λ _. if_both G (eqb n 2) (beyond_reason Group cs t m) _ (λ _. lowest_is G (BeyondMemory Group) _ tt (outside cs))
      (λ _. if_both G (eqb n 3) (beyond_reason Rest os t m) _ (λ _. lowest_is G (BeyondMemory Rest) _ tt (outside os))
      (λ _. if_both G (eqb n 4) (table_reason Group cs t m) _ (λ _. lowest_is G (OwnTable Group) _ tt (written cs))
      (λ _. if_both G (eqb n 5) (table_reason Rest os t m) (touch_reason cs os t m) (λ _. lowest_is G (OwnTable Rest) _ tt (written os))
      (λ _. met (lowest_way others) (lowest_holds Touching others touching))))))
    where
      others : List Way
      others = select (λ w. spoils w && (ltb (page w) (pages_of t) && has (page w) (reached (reach cs t m)))) (ways os t m)

  after_ground : (d a : ℕ) → G (first_after g t m d a)
  unfolding first_after
  after_ground zero a = tt
  after_ground (suc d) a = either_one (reason_at g t m (a + 1)) (reason_ground (a + 1)) (after_ground d (a + 1))
    where
      either_one : (x : Option Reason) → G x → G (first_after g t m d (a + 1)) → G (or_else x (first_after g t m d (a + 1)))
      either_one None f h = h
      either_one (Some r) f h = f

  -- the answer, by what was tested
  by_tests : (s i : Bool) (x : Option Reason) → sound t (length m) ≡ s → is_group g (cores_of t) ≡ i → G x → Grounded g t m (if not s then Err Unsound else if not i then Err refusal.Group else Ok x)
  unfolding apart_on
  by_tests false i x p q f = rw p refl
  by_tests true false x p q f = rw (p, q) refl
  by_tests true true x p q f = f

  abbrev Why : Type 0
  Why = Result (Option Reason) Refusal

  abbrev Verdict : Type 0
  Verdict = Result Bool Refusal

  none_where : (s i : Bool) (x : Option Reason) → is_none x ≡ apart g t m
      → ◌≡◌ {A = Verdict} (if not s then Err Unsound else if not i then Err refusal.Group else Ok (apart g t m)) (Ok true)
      → ◌≡◌ {A = Why} (if not s then Err Unsound else if not i then Err refusal.Group else Ok x) (Ok None)
  none_where false i x e y = let z : ◌≡◌ {A = ℕ} 0 1 = cc in absurd (omega arith)
  none_where true false x e y = let z : ◌≡◌ {A = ℕ} 0 1 = cc in absurd (omega arith)
  none_where true true x e y = let h : apart g t m ≡ true = cc in ap Ok (none_is x (e ∙ h))

  apart_where : (s i : Bool) (x : Option Reason) → is_none x ≡ apart g t m
      → ◌≡◌ {A = Why} (if not s then Err Unsound else if not i then Err refusal.Group else Ok x) (Ok None)
      → ◌≡◌ {A = Verdict} (if not s then Err Unsound else if not i then Err refusal.Group else Ok (apart g t m)) (Ok true)
  apart_where false i x e y = let z : ◌≡◌ {A = ℕ} 0 1 = cc in absurd (omega arith)
  apart_where true false x e y = let z : ◌≡◌ {A = ℕ} 0 1 = cc in absurd (omega arith)
  apart_where true true x e y = let h : x ≡ None = cc in ap Ok (sym e ∙ ap is_none h)

  pub why_law : Law g t m
  unfolding why_after apart_on
  why_law =
      record {
        grounded = λ a. by_tests (sound t (length m)) (is_group g (cores_of t)) (first_after g t m (6 - a) a) refl refl (after_ground (6 - a) a);
        none_where_apart = none_where (sound t (length m)) (is_group g (cores_of t)) (first_after g t m 6 0) (no_reason g t m);
        apart_where_none = apart_where (sound t (length m)) (is_group g (cores_of t)) (first_after g t m 6 0) (no_reason g t m);
      }

-- what the function promises of its answer, each clause by its name
pub promised : (a g : ℕ) (t m : List ℕ) (r : Result (Option Reason) Refusal) → r ≡ why_after a g t m → record {
  value : r ≡ why_after a g t m;
  grounded : Grounded g t m r;
  m_value : a ≡ 0 → r ≡ Ok None → apart_on g t m ≡ Ok true;
  value_2 : a ≡ 0 → apart_on g t m ≡ Ok true → r ≡ Ok None;
  number : why_number r ≡ why_number (why_after a g t m);
}
promised a g t m r e =
    let L : Law g t m = why_law g t m in
    let at : a ≡ 0 → r ≡ why_after 0 g t m = λ z. e ∙ ap (λ (n : ℕ). why_after n g t m) z in
    record {
      value = e;
      grounded = subst (Grounded g t m) (sym e) (L.grounded a);
      m_value = λ z n. L.apart_where_none (sym (at z) ∙ n);
      value_2 = λ z y. at z ∙ L.none_where_apart y;
      number = ap why_number e;
    }
