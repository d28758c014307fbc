-- The pages that ways come to are those of reach.
-- Assumes nothing.
use Rattle.std.specs.Prelude.{if◌then◌else◌, Option, Some, None}
use mathlib.Core.Path.{◌≡◌, refl, sym, ap, ap₂, ◌∙◌}
use mathlib.Core.Bool.{Bool, true, false, ◌&&◌}
use mathlib.Core.List.{List, [], ◌∷◌, ◌++◌, map, flat_map, map-append, map-map, append-nil}
use Prim.Native.Nat.{ℕ, ◌-◌}
use lib.Dec.{eqb}
use Rattle.layout.specs.Blocks.{block}
use Rattle.records.specs.declared.Store.{Store}
use Rattle.records.specs.declared.Walk.{Walk}
use Rattle.records.specs.Records.{stores, walks, store_in, walk_in, store_numbers, walk_numbers}
use Rattle.tlb.specs.Walks.{walk_level, walk_r, walk_ba, base_address, entry_at, ptea_at, pte_p, pte_r, pte_ba, complete}
use Rattle.tlb.specs.Steps.{origin_of}
use Rattle.reach.specs.Lists.{range, select}
use Rattle.reach.specs.Reach.{any_rights, grants_write, bases_of, store_pages, named_by, named, over, first_pages, second_pages, data_pages, writable_pages}
use Rattle.reach.proofs.Lists.{flat_map_map, flat_map_ext}
use Rattle.ways.specs.declared.Named.{Named}
use Rattle.ways.specs.declared.Root.TheVariants.{AtOrigin, AtWalk, AtStore}
use Rattle.ways.specs.declared.Way.{Way}
use Rattle.ways.specs.Ways.{naming, roots, entry_named, next_named, root_way, further, next_ways, page}
use Rattle.ways.proofs.Lists.{select_join, select_none, select_all, select_both, select_flat_map, select_map, map_flat_map}

-- ---- ways by level

-- the ways that end where they begin
unfoldable pub root_ways : List ℕ → List ℕ → List Way
root_ways cs t = flat_map (λ (k : ℕ). map (root_way (block t k) k) (roots (block t k))) cs

abbrev pub at_level : ℕ → Way → Bool
at_level l w = eqb w.names.level l

-- to first-level tables, to second-level tables, to data pages
unfoldable pub first_ways : List ℕ → List ℕ → List Way
first_ways cs t = select (at_level 2) (root_ways cs t)

unfoldable pub second_ways : List ℕ → List ℕ → List ℕ → List Way
second_ways cs t m = flat_map (next_ways m) (first_ways cs t) ++ select (at_level 1) (root_ways cs t)

unfoldable pub data_ways : List ℕ → List ℕ → List ℕ → List Way
data_ways cs t m = flat_map (next_ways m) (second_ways cs t m) ++ select (at_level 0) (root_ways cs t)

abbrev pub write_ways : List ℕ → List ℕ → List ℕ → List Way
write_ways cs t m = select (λ (w : Way). w.names.write) (data_ways cs t m)

-- ---- roots

module _ (t : List ℕ) (k : ℕ) (q : Way → Bool) where
  abbrev b : List ℕ
  b = block t k

  -- the ways from walks and from stores that pass a test
  from_walks : map page (select q (map (root_way (block t k) k) (map AtWalk (walk_numbers b)))) ≡ map (λ (n : ℕ). walk_ba (walk_in b n)) (select (λ (n : ℕ). q (root_way (block t k) k (AtWalk n))) (walk_numbers b))
  from_walks =
      ap (λ (l : List Way). map page (select q l)) (map-map (root_way (block t k) k) AtWalk (walk_numbers b))
      ∙ ap (map page) (select_map q (λ (n : ℕ). root_way (block t k) k (AtWalk n)) (walk_numbers b))
      ∙ map-map page (λ (n : ℕ). root_way (block t k) k (AtWalk n)) (select (λ (n : ℕ). q (root_way (block t k) k (AtWalk n))) (walk_numbers b))

  from_stores : map page (select q (map (root_way (block t k) k) (map AtStore (store_numbers b)))) ≡ map (λ (n : ℕ). base_address (store_in b n).address) (select (λ (n : ℕ). q (root_way (block t k) k (AtStore n))) (store_numbers b))
  from_stores =
      ap (λ (l : List Way). map page (select q l)) (map-map (root_way (block t k) k) AtStore (store_numbers b))
      ∙ ap (map page) (select_map q (λ (n : ℕ). root_way (block t k) k (AtStore n)) (store_numbers b))
      ∙ map-map page (λ (n : ℕ). root_way (block t k) k (AtStore n)) (select (λ (n : ℕ). q (root_way (block t k) k (AtStore n))) (store_numbers b))

  -- walks by their words
  bases : (p : Walk → Bool) → ((n : ℕ) → q (root_way (block t k) k (AtWalk n)) ≡ p (walk_in b n)) → map page (select q (map (root_way (block t k) k) (map AtWalk (walk_numbers b)))) ≡ bases_of p (walks b)
  unfolding walks
  bases p e =
      from_walks
      ∙ ap (λ (u : ℕ → Bool). map (λ (n : ℕ). walk_ba (walk_in b n)) (select u (walk_numbers b))) (λ i n. e n i)
      ∙ sym (map-map (λ (w : Walk). walk_ba w) (walk_in b) (select (λ (n : ℕ). p (walk_in b n)) (walk_numbers b)))
      ∙ sym (ap (map (λ (w : Walk). walk_ba w)) (select_map p (walk_in b) (walk_numbers b)))

  all_stores : ((n : ℕ) → q (root_way (block t k) k (AtStore n)) ≡ true) → map page (select q (map (root_way (block t k) k) (map AtStore (store_numbers b)))) ≡ store_pages (stores b)
  unfolding stores
  all_stores e =
      from_stores
      ∙ ap (map (λ (n : ℕ). base_address (store_in b n).address)) (select_all (λ (n : ℕ). q (root_way (block t k) k (AtStore n))) (store_numbers b) e)
      ∙ sym (map-map (λ (s : Store). base_address s.address) (store_in b) (store_numbers b))

  no_stores : ((n : ℕ) → q (root_way (block t k) k (AtStore n)) ≡ false) → map page (select q (map (root_way (block t k) k) (map AtStore (store_numbers b)))) ≡ []
  no_stores e = from_stores ∙ ap (map (λ (n : ℕ). base_address (store_in b n).address)) (select_none (λ (n : ℕ). q (root_way (block t k) k (AtStore n))) (store_numbers b) e)

  -- the three kinds of root in their order
  root_pages : (x y z : List ℕ) → map page (select q (root_way (block t k) k AtOrigin ∷ [])) ≡ x
      → map page (select q (map (root_way (block t k) k) (map AtWalk (walk_numbers b)))) ≡ y
      → map page (select q (map (root_way (block t k) k) (map AtStore (store_numbers b)))) ≡ z
      → map page (select q (map (root_way (block t k) k) (roots b))) ≡ x ++ (y ++ z)
  unfolding roots
  root_pages x y z e f g =
      let ws : List Way = map (root_way (block t k) k) (map AtWalk (walk_numbers b)) in
      let ss : List Way = map (root_way (block t k) k) (map AtStore (store_numbers b)) in
      ap (λ (l : List Way). map page (select q (root_way (block t k) k AtOrigin ∷ l))) (map-append (root_way (block t k) k) (map AtWalk (walk_numbers b)) (map AtStore (store_numbers b)))
      ∙ ap (map page) (select_join q (root_way (block t k) k AtOrigin ∷ []) (ws ++ ss))
      ∙ map-append page (select q (root_way (block t k) k AtOrigin ∷ [])) (select q (ws ++ ss))
      ∙ ap₂ ◌++◌ e (ap (map page) (select_join q ws ss) ∙ map-append page (select q ws) (select q ss) ∙ ap₂ ◌++◌ f g)

-- of all cores
over_roots : (cs t : List ℕ) (q : Way → Bool) (f : List ℕ → List ℕ) → ((k : ℕ) → map page (select q (map (root_way (block t k) k) (roots (block t k)))) ≡ f (block t k)) → map page (select q (root_ways cs t)) ≡ over cs t f
unfolding root_ways
over_roots cs t q f e =
    ap (map page) (select_flat_map q (λ (k : ℕ). map (root_way (block t k) k) (roots (block t k))) cs)
    ∙ map_flat_map page (λ (k : ℕ). select q (map (root_way (block t k) k) (roots (block t k)))) cs
    ∙ flat_map_ext (λ (k : ℕ). map page (select q (map (root_way (block t k) k) (roots (block t k))))) (λ (k : ℕ). f (block t k)) cs e

-- ---- entries

entry_pages : (x : Named) (e : Option ℕ) → map (λ (y : Named). y.page) (entry_named x e) ≡ named_by any_rights e
entry_pages x (Some e) = go (pte_p e)
  where
    go : (p : Bool) → map (λ (y : Named). y.page) (if p then naming (x.level - 1) (pte_ba e) (grants_write (pte_r e)) ∷ [] else []) ≡ (if p && true then pte_ba e ∷ [] else [])
    go true = refl
    go false = refl
entry_pages x None = refl

write_pages : (x : Named) (e : Option ℕ) → map (λ (y : Named). y.page) (select (λ (y : Named). y.write) (entry_named x e)) ≡ named_by grants_write e
unfolding select
write_pages x (Some e) = go (pte_p e) (grants_write (pte_r e))
  where
    go : (p g : Bool) → map (λ (y : Named). y.page) (select (λ (y : Named). y.write) (if p then naming (x.level - 1) (pte_ba e) g ∷ [] else [])) ≡ (if p && g then pte_ba e ∷ [] else [])
    go true true = refl
    go true false = refl
    go false g = refl
write_pages x None = refl

next_pages : (m : List ℕ) (w : Way) → map page (next_ways m w) ≡ named any_rights m (page w)
unfolding next_ways named
next_pages m w =
    map_flat_map page (λ (i : ℕ). map (further w i) (next_named m w.names i)) (range 1024)
    ∙ flat_map_ext _ (λ (i : ℕ). named_by any_rights (entry_at m (ptea_at (page w) i))) (range 1024)
    (λ i. map-map page (further w i) (next_named m w.names i) ∙ entry_pages w.names (entry_at m (ptea_at (page w) i)))

next_writes : (m : List ℕ) (w : Way) → map page (select (λ (v : Way). v.names.write) (next_ways m w)) ≡ named grants_write m (page w)
unfolding next_ways named
next_writes m w =
    ap (map page) (select_flat_map (λ (v : Way). v.names.write) (λ (i : ℕ). map (further w i) (next_named m w.names i)) (range 1024))
    ∙ map_flat_map page (λ (i : ℕ). select (λ (v : Way). v.names.write) (map (further w i) (next_named m w.names i))) (range 1024)
    ∙ flat_map_ext _ (λ (i : ℕ). named_by grants_write (entry_at m (ptea_at (page w) i))) (range 1024)
    (λ i.
    ap (map page) (select_map (λ (v : Way). v.names.write) (further w i) (next_named m w.names i))
    ∙ map-map page (further w i) (select (λ (y : Named). y.write) (next_named m w.names i))
    ∙ write_pages w.names (entry_at m (ptea_at (page w) i)))

through : (m : List ℕ) (l : List Way) → map page (flat_map (next_ways m) l) ≡ flat_map (named any_rights m) (map page l)
through m l = map_flat_map page (next_ways m) l ∙ flat_map_ext _ (λ (w : Way). named any_rights m (page w)) l (next_pages m) ∙ flat_map_map (named any_rights m) page l

-- ---- the sets

module _ (cs t : List ℕ) where
  pub first_pages_lem : map page (first_ways cs t) ≡ first_pages cs t
  unfolding first_ways first_pages select
  first_pages_lem =
      over_roots cs t (at_level 2) (λ b. origin_of b ∷ bases_of (λ w. eqb (walk_level w) 2) (walks b))
      (λ k. root_pages t k (at_level 2) (origin_of (block t k) ∷ []) (bases_of (λ w. eqb (walk_level w) 2) (walks (block t k))) [] (first_root k) (bases t k (at_level 2) (λ w. eqb (walk_level w) 2) (λ n. refl)) (no_stores t k (at_level 2) (λ n. refl))
      ∙ ap (λ (l : List ℕ). origin_of (block t k) ∷ l) (append-nil _))
    where
      first_root : (k : ℕ) → map page (select (at_level 2) (root_way (block t k) k AtOrigin ∷ [])) ≡ origin_of (block t k) ∷ []
      first_root k = refl

  module _ (m : List ℕ) where
    pub second_pages_lem : map page (second_ways cs t m) ≡ second_pages cs t m
    unfolding second_ways second_pages select
    second_pages_lem =
        map-append page (flat_map (next_ways m) (first_ways cs t)) (select (at_level 1) (root_ways cs t))
        ∙ ap₂ ◌++◌ (through m (first_ways cs t) ∙ ap (flat_map (named any_rights m)) first_pages_lem)
        (over_roots cs t (at_level 1) (λ b. bases_of (λ w. eqb (walk_level w) 1) (walks b))
        (λ k. root_pages t k (at_level 1) [] (bases_of (λ w. eqb (walk_level w) 1) (walks (block t k))) [] (second_root k) (bases t k (at_level 1) (λ w. eqb (walk_level w) 1) (λ n. refl)) (no_stores t k (at_level 1) (λ n. refl))
        ∙ append-nil _))
      where
        second_root : (k : ℕ) → map page (select (at_level 1) (root_way (block t k) k AtOrigin ∷ [])) ≡ []
        second_root k = refl

    pub data_pages_lem : map page (data_ways cs t m) ≡ data_pages cs t m
    unfolding data_ways data_pages select
    data_pages_lem =
        map-append page (flat_map (next_ways m) (second_ways cs t m)) (select (at_level 0) (root_ways cs t))
        ∙ ap₂ ◌++◌ (through m (second_ways cs t m) ∙ ap (flat_map (named any_rights m)) second_pages_lem)
        (over_roots cs t (at_level 0) (λ b. bases_of complete (walks b) ++ store_pages (stores b))
        (λ k. root_pages t k (at_level 0) [] (bases_of complete (walks (block t k))) (store_pages (stores (block t k))) (data_root k) (bases t k (at_level 0) complete (λ n. refl)) (all_stores t k (at_level 0) (λ n. refl))))
      where
        data_root : (k : ℕ) → map page (select (at_level 0) (root_way (block t k) k AtOrigin ∷ [])) ≡ []
        data_root k = refl

    abbrev writing : Way → Bool
    writing w = at_level 0 w && w.names.write

    pub writable_pages_lem : map page (write_ways cs t m) ≡ writable_pages cs t m
    unfolding data_ways writable_pages select
    writable_pages_lem =
        ap (map page) (select_join (λ (w : Way). w.names.write) (flat_map (next_ways m) (second_ways cs t m)) (select (at_level 0) (root_ways cs t)))
        ∙ map-append page (select (λ (w : Way). w.names.write) (flat_map (next_ways m) (second_ways cs t m))) (select (λ (w : Way). w.names.write) (select (at_level 0) (root_ways cs t)))
        ∙ ap₂ ◌++◌
        (ap (map page) (select_flat_map (λ (w : Way). w.names.write) (next_ways m) (second_ways cs t m))
        ∙ map_flat_map page (λ (w : Way). select (λ (v : Way). v.names.write) (next_ways m w)) (second_ways cs t m)
        ∙ flat_map_ext _ (λ (w : Way). named grants_write m (page w)) (second_ways cs t m) (next_writes m)
        ∙ flat_map_map (named grants_write m) page (second_ways cs t m)
        ∙ ap (flat_map (named grants_write m)) second_pages_lem)
        (ap (map page) (select_both (λ (w : Way). w.names.write) (at_level 0) (root_ways cs t))
        ∙ over_roots cs t writing (λ b. bases_of (λ w. complete w && grants_write (walk_r w)) (walks b) ++ store_pages (stores b))
        (λ k. root_pages t k writing [] (bases_of (λ w. complete w && grants_write (walk_r w)) (walks (block t k))) (store_pages (stores (block t k))) (write_root k) (bases t k writing (λ w. complete w && grants_write (walk_r w)) (λ n. refl)) (all_stores t k writing (λ n. refl))))
      where
        write_root : (k : ℕ) → map page (select writing (root_way (block t k) k AtOrigin ∷ [])) ≡ []
        write_root k = refl
