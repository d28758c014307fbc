-- Laws of the search: the lowest of lists joined, what a table gone through once has left, and one list of ways after
-- another.
-- Assumes nothing.
use Rattle.std.specs.Prelude.{if◌then◌else◌, Option, Some, None}
use mathlib.Core.Path.{◌≡◌, refl, sym, ap, subst, ◌∙◌}
use mathlib.Core.Logic.{◌≢◌}
use mathlib.Core.Bool.{Bool, true, false, ◌&&◌, not, false≢true}
use mathlib.Core.List.{List, [], ◌∷◌, ◌++◌, map, flat_map, map-map, map-id}
use Prim.Native.Nat.{ℕ, ◌+◌, ◌-◌, ◌*◌, ◌%◌, ◌^◌, ◌<◌, ◌≤◌}
use native.Mathlib.Omega.{arith}
use native.Mathlib.Numerals.{add-one}
use native.Mathlib.Decide.{ℕ_discrete}
use lib.Dec.{eqb, ltb, leb}
use lib.ListN.{length, get_or, set, length-set}
use lib.Seq.{get_or-set_other}
use borrow.Author.Tests.{lt-ltb, le-ltb, lt-leb, le-leb, ne_eqb, ltb-true, ltb-false, eqb-true, leb-true, not-true}
use Rattle.word.specs.Bytes.{bytes_at}
use Rattle.word.proofs.Truth.{and_left, and_right, and_both, tested}
use Rattle.records.specs.Records.{all}
use Rattle.records.proofs.Counts.{either}
use Rattle.tlb.specs.Walks.{entry_at, ptea_at, pte_p, pte_r, pte_ba}
use Rattle.reach.specs.Lists.{range, select}
use Rattle.reach.specs.Reach.{grants_write}
use Rattle.reach.proofs.Lists.{flat_map_append, flat_map_one, flat_map_ext, flat_map_none, range_in}
use Rattle.reach.proofs.Marking.{entry_at_lem}
use Rattle.ways.specs.declared.Named.{Named}
use Rattle.ways.specs.declared.Way.{Way}
use Rattle.std.specs.Prelude.{Option, None, Some}
use Rattle.ways.specs.declared.want.Fault.{Fault}
use Rattle.ways.specs.declared.want.Want.{Want}
use Rattle.ways.specs.declared.want.Want.TheVariants.{Beyond, Marked, Page}
use Rattle.ways.specs.Ways.{naming, entry_named, next_named, further, next_ways, onward, all_from, page, lower, lowest_way}
use Rattle.ways.specs.inner.Search.{shows, wanted, least_page, is_lowest, hits, sought, table_names, not_lower, Known, Searched, through_entry}
use Rattle.ways.proofs.Lists.{select_join, select_map, map_flat_map, flat_flat, flat_map_where, all_map}

-- ---- what is looked for

module _ (n : ℕ) (c : List ℕ) (x : Named) where
  pub wanted_beyond : leb n x.page ≡ wanted Beyond n c x
  unfolding wanted
  wanted_beyond = tested (ltb x.page n) (λ t. rw t (lt-leb n x.page (ltb-true x.page n t))) (λ t. rw t (le-leb n x.page (ltb-false x.page n t)))

  pub wanted_itself : (p : ℕ) → eqb x.page p ≡ wanted (Page p) n c x
  unfolding wanted
  wanted_itself p = refl

  module _ (f : Fault) (l : ℕ) where
    pub wanted_below : x.page < l → false ≡ wanted (Marked f l) n c x
    unfolding wanted
    wanted_below h = rw (lt-ltb x.page l h) refl

    pub wanted_out : l ≤ x.page → n ≤ x.page → false ≡ wanted (Marked f l) n c x
    unfolding wanted
    wanted_out from h = rw (le-ltb x.page l from, le-ltb x.page n h) refl

    pub wanted_marked : l ≤ x.page → x.page < n → shows f x && eqb (get_or c x.page 0) 1 ≡ wanted (Marked f l) n c x
    unfolding wanted
    wanted_marked from h = rw (le-ltb x.page l from, lt-ltb x.page n h) refl

-- nothing is looked for below that page
pub wanted_from : (a : Want) (n : ℕ) (c : List ℕ) (x : Named) → wanted a n c x ≡ true → least_page a ≤ x.page
unfolding wanted
wanted_from Beyond n c x h = omega arith
wanted_from (Page p) n c x h = let e = eqb-true x.page p h in omega (arith, e)
wanted_from (Marked f l) n c x h = go (ltb x.page l) refl h
  where
    go : (b : Bool) → ltb x.page l ≡ b → (if b then false else if ltb x.page n then shows f x && eqb (get_or c x.page 0) 1 else false) ≡ true → l ≤ x.page
    go true e u = absurd (false≢true u)
    go false e u = ltb-false x.page l e

-- ---- the lower of two, of three

pub lower_none : (f : Option Way) → lower f None ≡ f
unfolding lower
lower_none None = refl
lower_none (Some v) = refl

pub lower_nothing : (f : Option Way) (w : Way) → f ≡ None → Some w ≡ lower f (Some w)
unfolding lower
lower_nothing f w e = rw e refl

pub lower_first : (f : Option Way) (v w : Way) → f ≡ Some v → page w < page v → Some w ≡ lower f (Some w)
unfolding lower
lower_first f v w e h = rw (e, lt-ltb (page w) (page v) h) refl

pub lower_second : (f : Option Way) (v w : Way) → f ≡ Some v → page v ≤ page w → Some v ≡ lower f (Some w)
unfolding lower
lower_second f v w e h = rw (e, le-ltb (page w) (page v) h) refl

three : (u v w : Way) (a b c : Bool) → ltb (page v) (page u) ≡ a → ltb (page w) (page v) ≡ b → ltb (page w) (page u) ≡ c
    → lower (if a then Some v else Some u) (Some w) ≡ lower (Some u) (if b then Some w else Some v)
unfolding lower
three u v w true true true ea eb ec = rw (eb, ec) refl
three u v w true true false ea eb ec = let i = ltb-true (page v) (page u) ea in let j = ltb-true (page w) (page v) eb in let k = ltb-false (page w) (page u) ec in absurd (omega arith)
three u v w true false c ea eb ec = rw (eb, ea) refl
three u v w false true c ea eb ec = refl
three u v w false false true ea eb ec = let i = ltb-false (page v) (page u) ea in let j = ltb-false (page w) (page v) eb in let k = ltb-true (page w) (page u) ec in absurd (omega arith)
three u v w false false false ea eb ec = rw (ec, ea) refl

pub lower_assoc : (f g h : Option Way) → lower (lower f g) h ≡ lower f (lower g h)
unfolding lower
lower_assoc None g h = refl
lower_assoc (Some u) None h = refl
lower_assoc (Some u) (Some v) None = lower_none (if ltb (page v) (page u) then Some v else Some u)
lower_assoc (Some u) (Some v) (Some w) = three u v w (ltb (page v) (page u)) (ltb (page w) (page v)) (ltb (page w) (page u)) refl refl refl

lowest_append : (l r : List Way) → lowest_way (l ++ r) ≡ lower (lowest_way l) (lowest_way r)
unfolding lower lowest_way
lowest_append [] r = refl
lowest_append (w ∷ l) r = ap (lower (Some w)) (lowest_append l r) ∙ sym (lower_assoc (Some w) (lowest_way l) (lowest_way r))

module _ (P : Named → Bool) where
  pub sought_append : (l r : List Way) → sought P (l ++ r) ≡ lower (sought P l) (sought P r)
  unfolding sought
  sought_append l r = ap lowest_way (select_join (λ w. P w.names) l r) ∙ lowest_append (select (λ w. P w.names) l) (select (λ w. P w.names) r)

  pub sought_none : sought P [] ≡ None
  unfolding sought select lowest_way
  sought_none = refl

  pub sought_one : (w : Way) → P w.names ≡ true → sought P (w ∷ []) ≡ Some w
  unfolding lower sought select lowest_way
  sought_one w e = rw e refl

  pub sought_not : (w : Way) → P w.names ≡ false → sought P (w ∷ []) ≡ None
  unfolding lower sought select lowest_way
  sought_not w e = rw e refl

  -- a way that was tested
  pub taken : (f g : Option Way) (w : Way) (t : Bool) → t ≡ P w.names → t ≡ true → g ≡ lower f (Some w) → g ≡ lower f (sought P (w ∷ []))
  unfolding lower
  taken f g w t p q e = e ∙ ap (lower f) (sym (sought_one w (sym p ∙ q)))

  pub left : (f : Option Way) (w : Way) (t : Bool) → t ≡ P w.names → t ≡ false → f ≡ lower f (sought P (w ∷ []))
  unfolding lower
  left f w t p q = sym (ap (lower f) (sought_not w (sym p ∙ q)) ∙ lower_none f)

  pub hit_there : (l e : ℕ) (t r : Bool) (x : Named) → t ≡ pte_p e → t ≡ true → x ≡ naming (l - 1) (pte_ba e) (grants_write (pte_r e)) → r ≡ P x → r ≡ hits P l e
  unfolding hits
  hit_there l e t r x p q z u = let h : pte_p e ≡ true = sym p ∙ q in rw h (u ∙ ap P z)

  pub hit_absent : (l e : ℕ) (t : Bool) → t ≡ pte_p e → t ≡ false → false ≡ hits P l e
  unfolding hits
  hit_absent l e t p q = let h : pte_p e ≡ false = sym p ∙ q in rw h refl

  -- an entry that is looked for, and one that is not
  module _ (w : Way) (i e : ℕ) where
    abbrev through : List Way
    through = map (further w i) (entry_named w.names (Some e))

    abbrev named : Named
    named = naming (w.names.level - 1) (pte_ba e) (grants_write (pte_r e))

    pub hit_taken : (f g : Option Way) (b : Bool) → b ≡ hits P w.names.level e → b ≡ true → g ≡ lower f (Some (further w i named)) → g ≡ lower f (sought P through)
    unfolding hits
    hit_taken f g b p q z = go (pte_p e) (sym p ∙ q)
      where
        go : (t : Bool) → (if t then P named else false) ≡ true → g ≡ lower f (sought P (map (further w i) (if t then named ∷ [] else [])))
        go true h = z ∙ ap (lower f) (sym (sought_one (further w i named) h))
        go false h = absurd (false≢true h)

    pub hit_left : (f : Option Way) (b : Bool) → b ≡ hits P w.names.level e → b ≡ false → f ≡ lower f (sought P through)
    unfolding hits
    hit_left f b p q = go (pte_p e) (sym p ∙ q)
      where
        go : (t : Bool) → (if t then P named else false) ≡ false → f ≡ lower f (sought P (map (further w i) (if t then named ∷ [] else [])))
        go true h = sym (ap (lower f) (sought_not (further w i named) h) ∙ lower_none f)
        go false h = sym (ap (lower f) sought_none ∙ lower_none f)

-- ---- one entry more, by the words that the code writes

module _ (w : Way) (i : ℕ) (x : Named) (h : i < 1024) where
  address : page w % 2 ^ 20 * 4096 + 4 * i ≡ ptea_at (page w) i
  address = omega arith

  pub further_first : w.entries ≡ 0 → record { core = w.core; root = w.root; entries = 1; first = page w % 2 ^ 20 * 4096 + 4 * i; second = 0; names = x } ≡ further w i x
  further_first e = rw (e, ← address) refl

  pub further_second : w.entries ≢ 0
      → record { core = w.core; root = w.root; entries = w.entries + 1; first = w.first; second = page w % 2 ^ 20 * 4096 + 4 * i; names = x } ≡ further w i x
  further_second d = rw (ne_eqb w.entries 0 d, ← address) refl

-- ---- what is not lower

-- a page that is not lower stays so
still : (f g : Option Way) (p : ℕ) → not_lower f p ≡ true → not_lower (lower f g) p ≡ true
unfolding lower
still None g p e = absurd (false≢true e)
still (Some v) None p e = e
still (Some v) (Some w) p e = go (ltb (page w) (page v)) refl
  where
    go : (b : Bool) → ltb (page w) (page v) ≡ b → not_lower (if b then Some w else Some v) p ≡ true
    go true q = let i = ltb-true (page w) (page v) q in let j = ltb-false p (page v) (not-true (ltb p (page v)) e) in rw (le-ltb p (page w) (omega arith)) refl
    go false q = e

own : (f : Option Way) (w : Way) → not_lower (lower f (Some w)) (page w) ≡ true
unfolding lower
own None w = rw (le-ltb (page w) (page w) (omega arith)) refl
own (Some v) w = go (ltb (page w) (page v)) refl
  where
    go : (b : Bool) → ltb (page w) (page v) ≡ b → not_lower (if b then Some w else Some v) (page w) ≡ true
    go true q = rw (le-ltb (page w) (page w) (omega arith)) refl
    go false q = rw q refl

-- nothing among some ways is lower than what they and others come to
lowest_all : (f : Option Way) (l : List Way) → all (λ w. not_lower (lower f (lowest_way l)) (page w)) l ≡ true
unfolding lower lowest_way all
lowest_all f [] = refl
lowest_all f (w ∷ l) =
    subst (λ (z : Option Way). all (λ v. not_lower z (page v)) (w ∷ l) ≡ true) (lower_assoc f (Some w) (lowest_way l))
    (and_both _ _ (still (lower f (Some w)) (lowest_way l) (page w) (own f w)) (lowest_all (lower f (Some w)) l))

-- where nothing is lower, nothing else is found
quiet_none : (f : Option Way) (l : List Way) → all (λ w. not_lower f (page w)) l ≡ true → lower f (lowest_way l) ≡ f
unfolding lower lowest_way all
quiet_none f [] e = lower_none f
quiet_none None (w ∷ l) e = absurd (false≢true e)
quiet_none (Some v) (w ∷ l) e =
    let h : ltb (page w) (page v) ≡ false = not-true (ltb (page w) (page v)) (and_left (not (ltb (page w) (page v))) _ e) in
    sym (lower_assoc (Some v) (Some w) (lowest_way l)) ∙ ap (λ (z : Option Way). lower z (lowest_way l)) (same h) ∙ quiet_none (Some v) l (and_right (not (ltb (page w) (page v))) _ e)
  where
    same : ltb (page w) (page v) ≡ false → lower (Some v) (Some w) ≡ Some v
    same h = rw h refl

-- ---- the entries of a table, whatever way leads to it

entry_level : (x y : Named) (e : Option ℕ) → x.level ≡ y.level → entry_named x e ≡ entry_named y e
entry_level x y (Some e) h = ap (λ (l : ℕ). if pte_p e then naming (l - 1) (pte_ba e) (grants_write (pte_r e)) ∷ [] else []) h
entry_level x y None h = refl

-- addresses have 32 bits
pub low_page : (x i : ℕ) → ptea_at x i ≡ ptea_at (x % 2 ^ 20) i
low_page x i = omega arith

pub table_names_lem : (m : List ℕ) (w : Way) → w.names.level ≡ 1 → map (λ (v : Way). v.names) (next_ways m w) ≡ table_names m (page w % 2 ^ 20)
unfolding next_ways table_names
table_names_lem m w h =
    map_flat_map (λ (v : Way). v.names) (λ (i : ℕ). map (further w i) (next_named m w.names i)) (range 1024)
    ∙ flat_map_ext _ (next_named m (naming 1 (page w % 2 ^ 20) false)) (range 1024)
    (λ i. map-map (λ (v : Way). v.names) (further w i) (next_named m w.names i)
    ∙ map-id (next_named m w.names i)
    ∙ ap (λ (a : ℕ). entry_named w.names (entry_at m a)) (low_page (page w) i)
    ∙ entry_level w.names (naming 1 (page w % 2 ^ 20) false) (entry_at m (ptea_at (page w % 2 ^ 20) i)) h)

-- a test that all pass that are selected
all_passing : (p q : Way → Bool) (l : List Way) → ((w : Way) → p w ≡ true → q w ≡ true) → all q (select p l) ≡ true
unfolding all select
all_passing p q [] h = refl
all_passing p q (w ∷ l) h = go (p w) refl (all_passing p q l h)
  where
    go : (b : Bool) → p w ≡ b → all q (select p l) ≡ true → all q (if b then w ∷ select p l else select p l) ≡ true
    go true e r = and_both (q w) _ (h w e) r
    go false e r = r

module _ (P : Named → Bool) (m : List ℕ) where
  abbrev passing : List Way → List Way
  passing l = select (λ w. P w.names) l

  -- tested by ways, and by names
  by_names : (f : Option Way) (w : Way) → w.names.level ≡ 1 → all (λ v. not_lower f (page v)) (passing (next_ways m w)) ≡ all (λ (x : Named). not_lower f x.page) (select P (table_names m (page w % 2 ^ 20)))
  by_names f w h =
      all_map (λ (x : Named). not_lower f x.page) (λ (v : Way). v.names) (passing (next_ways m w))
      ∙ ap (all (λ (x : Named). not_lower f x.page)) (sym (select_map P (λ (v : Way). v.names) (next_ways m w)) ∙ ap (select P) (table_names_lem m w h))

  more : (f g : Option Way) (l : List Named) → all (λ (x : Named). not_lower f x.page) l ≡ true → all (λ (x : Named). not_lower (lower f g) x.page) l ≡ true
  unfolding all
  more f g [] u = refl
  more f g (x ∷ l) u = and_both _ _ (still f g x.page (and_left (not_lower f x.page) _ u)) (more f g l (and_right (not_lower f x.page) _ u))

  known_still : (s : List ℕ) (f g : Option Way) → Known P m s f → Known P m s (lower f g)
  known_still s f g k q e = more f g (select P (table_names m q)) (k q e)

  -- ---- one list of ways after another

  pub searched_by : (f g : Option Way) (s : List ℕ) (l : List Way) → Known P m s f → g ≡ lower f (sought P l) → Searched P m f s g s l
  searched_by f g s l k e = record { best = e; long = refl; known = subst (Known P m s) (sym e) (known_still s f (sought P l) k) }

  pub searched_none : (f : Option Way) (s : List ℕ) → Known P m s f → Searched P m f s f s []
  searched_none f s k = searched_by f f s [] k (sym (ap (lower f) (sought_none P) ∙ lower_none f))

  pub searched_then : {f g h : Option Way} {s e d : List ℕ} {l r : List Way} → Searched P m f s g e l → Searched P m g e h d r → Searched P m f s h d (l ++ r)
  searched_then {f} {g} {h} {s} {e} {d} {l} {r} A B =
      record {
        best = B.best ∙ ap (λ (z : Option Way). lower z (sought P r)) A.best ∙ lower_assoc f (sought P l) (sought P r) ∙ ap (lower f) (sym (sought_append P l r));
        long = B.long ∙ A.long;
        known = B.known;
      }

  -- a table gone through before
  pub searched_before : (f : Option Way) (s : List ℕ) (w : Way) → Known P m s f → w.names.level ≡ 1 → get_or s (page w % 2 ^ 20) 0 ≡ 1 → Searched P m f s f s (next_ways m w)
  unfolding sought
  searched_before f s w k h e = searched_by f f s (next_ways m w) k (sym (quiet_none f (passing (next_ways m w)) (by_names f w h ∙ k (page w % 2 ^ 20) e)))

  -- and one that is gone through now
  pub searched_now : (f g : Option Way) (s : List ℕ) (w : Way) → Known P m s f → w.names.level ≡ 1 → g ≡ lower f (sought P (next_ways m w)) → Searched P m f s g (set s (page w % 2 ^ 20) 1) (next_ways m w)
  unfolding sought
  searched_now f g s w k h e =
      record {
        best = e;
        long = length-set s (page w % 2 ^ 20) 1;
        known = λ q u. either (ℕ_discrete q (page w % 2 ^ 20)) (λ z. rw z (sym (by_names g w h) ∙ subst (λ (o : Option Way). all (λ v. not_lower o (page v)) (passing (next_ways m w)) ≡ true) (sym e) (lowest_all f (passing (next_ways m w))))) (λ d. subst (Known P m s) (sym e) (known_still s f (sought P (next_ways m w)) k) q (sym (get_or-set_other s (page w % 2 ^ 20) q 1 0 d) ∙ u));
      }

  -- nothing lower can be found
  pub searched_low : (low : ℕ) → ((x : Named) → P x ≡ true → low ≤ x.page) → (f : Option Way) (s : List ℕ) (l : List Way) (b : Bool) → Known P m s f → b ≡ is_lowest f low → b ≡ true → Searched P m f s f s l
  unfolding sought
  searched_low low h f s l b k e t = searched_by f f s l k (sym (quiet_none f (passing l) (none_lower f l (sym e ∙ t))))
    where
      below : (g : Option Way) (w : Way) → is_lowest g low ≡ true → P w.names ≡ true → not_lower g (page w) ≡ true
      below None w u v = absurd (false≢true u)
      below (Some o) w u v = let i = leb-true (page o) low u in let j = h w.names v in rw (le-ltb (page w) (page o) (omega arith)) refl

      none_lower : (g : Option Way) (r : List Way) → is_lowest g low ≡ true → all (λ w. not_lower g (page w)) (passing r) ≡ true
      none_lower g r u = all_passing (λ w. P w.names) (λ w. not_lower g (page w)) r (λ w v. below g w u v)

-- ---- a loop from 0

pub ways_next : (F : ℕ → List Way) (i : ℕ) → flat_map F (range (i + 1)) ≡ flat_map F (range i) ++ F i
unfolding range
ways_next F i = rw add-one (flat_map_append F (range i) (i ∷ []) ∙ ap (λ (z : List Way). flat_map F (range i) ++ z) (flat_map_one F i))

-- ---- a table entry by entry

-- the ways that go on by entry i; with those that go on from them
abbrev pub entry_ways : List ℕ → Way → ℕ → List Way
entry_ways m w i = map (further w i) (next_named m w.names i)

abbrev pub on_entry : List ℕ → Way → ℕ → List Way
on_entry m w i = through_entry m w i (entry_at m (ptea_at (page w) i))

module _ (m : List ℕ) (n : ℕ) (long : length m ≡ 4096 * n) (few : n ≤ 4096) where
  read_entry : (p i : ℕ) → p % 2 ^ 20 < n → i < 1024 → entry_at m (ptea_at p i) ≡ Some (bytes_at 4 m (4096 * (p % 2 ^ 20) + 4 * i))
  read_entry p i low h = ap (entry_at m) (low_page p i) ∙ entry_at_lem m n (p % 2 ^ 20) i long few low h

  no_entry : (p i : ℕ) → n ≤ p % 2 ^ 20 → i < 1024 → entry_at m (ptea_at p i) ≡ None
  unfolding entry_at
  no_entry p i far h =
      let a : ptea_at p i ≡ 4096 * (p % 2 ^ 20) + 4 * i = omega arith in
      let l : leb (4096 * (p % 2 ^ 20) + 4 * i + 4) (length m) ≡ false = lt-leb (4096 * (p % 2 ^ 20) + 4 * i + 4) (length m) (omega arith) in
      rw (a, l) refl

  pub next_none : (w : Way) → n ≤ page w % 2 ^ 20 → next_ways m w ≡ []
  unfolding next_ways
  next_none w far =
      flat_map_where (entry_ways m w) (λ i. []) (range 1024) (λ i h. ap (λ (e : Option ℕ). map (further w i) (entry_named w.names e)) (no_entry (page w) i far (range_in 1024 i h)))
      ∙ flat_map_none (λ (i : ℕ). []) (range 1024) (λ i. refl)

  module _ (P : Named → Bool) (f : Option Way) (w : Way) (low : page w % 2 ^ 20 < n) where
    pub scan_start : f ≡ lower f (sought P (flat_map (entry_ways m w) (range 0)))
    unfolding range flat_map
    scan_start = sym (ap (lower f) (sought_none P) ∙ lower_none f)

    pub scan_next : (g h : Option Way) (i e : ℕ) → i < 1024 → e ≡ bytes_at 4 m (4096 * (page w % 2 ^ 20) + 4 * i) → g ≡ lower f (sought P (flat_map (entry_ways m w) (range i)))
        → h ≡ lower g (sought P (map (further w i) (entry_named w.names (Some e)))) → h ≡ lower f (sought P (flat_map (entry_ways m w) (range (i + 1))))
    scan_next g h i e lt r A B =
        B
        ∙ ap (λ (z : Option ℕ). lower g (sought P (map (further w i) (entry_named w.names z)))) (ap Some r ∙ sym (read_entry (page w) i low lt))
        ∙ ap (λ (z : Option Way). lower z (sought P (entry_ways m w i))) A
        ∙ lower_assoc f (sought P (flat_map (entry_ways m w) (range i))) (sought P (entry_ways m w i))
        ∙ ap (lower f) (sym (sought_append P (flat_map (entry_ways m w) (range i)) (entry_ways m w i)) ∙ ap (sought P) (sym (ways_next (entry_ways m w) i)))

    pub scan_end : (g : Option Way) (i : ℕ) → i ≡ 1024 → g ≡ lower f (sought P (flat_map (entry_ways m w) (range i))) → g ≡ lower f (sought P (next_ways m w))
    unfolding next_ways
    scan_end g i e A = A ∙ ap (λ (z : ℕ). lower f (sought P (flat_map (entry_ways m w) (range z)))) e

  -- the same for a first-level table, with the ways that go on
  module _ (P : Named → Bool) (f : Option Way) (s : List ℕ) (w : Way) (low : page w % 2 ^ 20 < n) where
    pub entries_start : Known P m s f → Searched P m f s f s (flat_map (on_entry m w) (range 0))
    unfolding range flat_map
    entries_start k = searched_none P m f s k

    pub entries_next : (g h : Option Way) (e d : List ℕ) (i v : ℕ) → i < 1024 → v ≡ bytes_at 4 m (4096 * (page w % 2 ^ 20) + 4 * i) → Searched P m f s g e (flat_map (on_entry m w) (range i))
        → Searched P m g e h d (through_entry m w i (Some v)) → Searched P m f s h d (flat_map (on_entry m w) (range (i + 1)))
    entries_next g h e d i v lt r A B =
        subst (Searched P m f s h d) (sym (ways_next (on_entry m w) i))
        (searched_then P m A (subst (λ (z : Option ℕ). Searched P m g e h d (through_entry m w i z)) (ap Some r ∙ sym (read_entry (page w) i low lt)) B))

    pub entries_end : (g : Option Way) (e : List ℕ) (i : ℕ) → i ≡ 1024 → Searched P m f s g e (flat_map (on_entry m w) (range i)) → Searched P m f s g e (flat_map (onward m 1) (next_ways m w))
    unfolding next_ways through_entry
    entries_end g e i z A = subst (Searched P m f s g e) (ap (λ (o : ℕ). flat_map (on_entry m w) (range o)) z ∙ sym (flat_flat (onward m 1) (entry_ways m w) (range 1024))) A

-- ---- levels

itself : (m : List ℕ) (l : List Way) → flat_map (onward m 0) l ≡ l
unfolding onward flat_map
itself m [] = refl
itself m (w ∷ l) = ap (λ (z : List Way). w ∷ z) (itself m l)

pub onward_one : (m : List ℕ) (w : Way) → onward m 1 w ≡ (w ∷ []) ++ next_ways m w
unfolding onward
onward_one m w = ap (λ (z : List Way). w ∷ z) (itself m (next_ways m w))

pub onward_two : (m : List ℕ) (w : Way) → onward m 2 w ≡ (w ∷ []) ++ flat_map (onward m 1) (next_ways m w)
unfolding onward
onward_two m w = refl

pub onward_none : (m : List ℕ) (w : Way) → next_ways m w ≡ [] → onward m 2 w ≡ w ∷ []
unfolding onward flat_map
onward_none m w e = ap (λ (z : List Way). w ∷ flat_map (onward m 1) z) e

pub through_there : (m : List ℕ) (w v : Way) (i e : ℕ) (x : Named) (t : Bool) → t ≡ pte_p e → t ≡ true → x ≡ naming (w.names.level - 1) (pte_ba e) (grants_write (pte_r e)) → v ≡ further w i x → onward m 1 v ≡ through_entry m w i (Some e)
unfolding through_entry
through_there m w v i e x t p q z y = ap (onward m 1) y ∙ sym (flat_map_one (onward m 1) (further w i x)) ∙ ap (λ (l : List Way). flat_map (onward m 1) l) (sym (there p q z))
  where
    there : t ≡ pte_p e → t ≡ true → x ≡ naming (w.names.level - 1) (pte_ba e) (grants_write (pte_r e)) → map (further w i) (entry_named w.names (Some e)) ≡ further w i x ∷ []
    there p q z = let h : pte_p e ≡ true = sym p ∙ q in rw (h, z) refl

pub through_absent : (m : List ℕ) (w : Way) (i e : ℕ) (t : Bool) → t ≡ pte_p e → t ≡ false → [] ≡ through_entry m w i (Some e)
unfolding through_entry flat_map
through_absent m w i e t p q = let h : pte_p e ≡ false = sym p ∙ q in rw h refl

pub from_level : (m : List ℕ) (w : Way) (l : ℕ) → w.names.level ≡ l → l < 3 → onward m l w ≡ all_from m w
unfolding all_from
from_level m w l e h = rw (e, lt-ltb l 3 h) refl

pub from_above : (m : List ℕ) (w : Way) → w.names.level ≢ 0 → w.names.level ≢ 1 → w.names.level ≢ 2 → [] ≡ all_from m w
unfolding all_from
from_above m w a b c = let h : 3 ≤ w.names.level = omega arith in rw (le-ltb w.names.level 3 h) refl

pub onward_zero : (m : List ℕ) (w : Way) → onward m 0 w ≡ w ∷ []
unfolding onward
onward_zero m w = refl
