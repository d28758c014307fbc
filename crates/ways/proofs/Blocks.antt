-- The ways from the roots of blocks, record by record and core by core.
-- Assumes nothing.
use mathlib.Core.Path.{◌≡◌, refl, sym, ap, ap₂, subst, ◌∙◌}
use mathlib.Core.Logic.{◌≢◌}
use mathlib.Core.Bool.{Bool, true, false}
use mathlib.Core.List.{List, [], ◌∷◌, ◌++◌, map, map-id, flat_map}
use Prim.Native.Nat.{ℕ, ◌+◌, ◌/◌, ◌%◌, ◌^◌}
use native.Mathlib.Omega.{arith}
use native.Mathlib.Decide.{dec_lt}
use lib.Dec.{eqb}
use lib.ListN.{get_or, replicate, length-replicate, get_or-replicate, get_or-eq_default}
use borrow.Author.Tests.{eq-eqb, ne_eqb}
use Rattle.word.specs.Word.{is_set}
use Rattle.layout.specs.Blocks.{block}
use Rattle.records.specs.Records.{walk_numbers, store_numbers}
use Rattle.records.proofs.Counts.{either}
use Rattle.records.specs.declared.Record.{Record}
use Rattle.records.specs.inner.Chains.{record_in}
use Rattle.tlb.specs.Walks.{base_address}
use Rattle.tlb.specs.Steps.{origin_of}
use Rattle.reach.specs.Lists.{range}
use Rattle.reach.specs.Reach.{members}
use Rattle.reach.proofs.Lists.{flat_map_append, flat_map_one, flat_map_map, flat_map_select}
use Rattle.ways.specs.declared.Named.{Named}
use Rattle.ways.specs.declared.Root.{Root}
use Rattle.ways.specs.declared.Root.TheVariants.{AtOrigin, AtWalk, AtStore}
use Rattle.ways.specs.declared.Way.{Way}
use Rattle.std.specs.Prelude.{Option, None}
use Rattle.ways.specs.Ways.{naming, roots, root_way, all_from, core_ways, ways, lower}
use Rattle.ways.specs.inner.Search.{sought, Known, Searched, record_root, way_in, record_ways, block_ways, member_ways}
use Rattle.ways.proofs.Searches.{searched_none, searched_then, ways_next}

-- ---- one record

abbrev pub with_root : ℕ → Root → Named → Way
with_root k r x = record { core = k; root = r; entries = 0; first = 0; second = 0; names = x }

pub store_way : (k p : ℕ) (t : Bool) (x : Record) → t ≡ true → p ≡ base_address x.first → with_root k (AtStore x.number) (naming 0 p true) ≡ way_in k t x
store_way k p t x h e = rw (h, e) refl

pub walk_way : (k : ℕ) (t : Bool) (x : Record) → t ≡ false → with_root k (AtWalk x.number) (naming (x.first / 8 % 4) x.second (eqb (x.first % 2) 1)) ≡ way_in k t x
walk_way k t x h =
    let e : x.first % 2 ≡ x.first % 8 / 2 ^ 0 % 2 = omega arith in
    rw h (ap (λ (z : ℕ). with_root k (AtWalk x.number) (naming (x.first / 8 % 4) x.second (eqb z 1))) e)

pub way_root : (k : ℕ) (t : Bool) (x : Record) → (way_in k t x).entries ≡ 0
way_root k true x = refl
way_root k false x = refl

-- ---- along a chain: the records so far

module _ (P : Named → Bool) (m : List ℕ) (k : ℕ) (t : Bool) where
  -- the ways from a record
  abbrev pub record_from : Record → List Way
  record_from x = all_from m (way_in k t x)

  record_same : (b : List ℕ) (n : ℕ) → record_from (record_in b n) ≡ record_ways m b k t n
  unfolding record_ways
  record_same b n = ap (all_from m) (go t)
    where
      go : (u : Bool) → way_in k u (record_in b n) ≡ root_way b k (record_root u n)
      go true = refl
      go false = refl

  records_same : (b l : List ℕ) → flat_map record_from (map (record_in b) l) ≡ flat_map (record_ways m b k t) l
  unfolding flat_map
  records_same b [] = refl
  records_same b (n ∷ l) = ap₂ (λ (x y : List Way). x ++ y) (record_same b n) (records_same b l)

  pub chain_start : (f : Option Way) (s : List ℕ) → Known P m s f → Searched P m f s f s (flat_map record_from [])
  unfolding flat_map
  chain_start f s h = searched_none P m f s h

  pub chain_next : {f g h : Option Way} {s e d : List ℕ} (l : List Record) (x : Record) (w : Way) → Searched P m f s g e (flat_map record_from l) → w ≡ way_in k t x → Searched P m g e h d (all_from m w)
      → Searched P m f s h d (flat_map record_from (l ++ x ∷ []))
  chain_next {f} {g} {h} {s} {e} {d} l x w A z B =
      subst (Searched P m f s h d) (sym (flat_map_append record_from l (x ∷ []) ∙ ap (λ (y : List Way). flat_map record_from l ++ y) (flat_map_one record_from x)))
      (searched_then P m A (subst (λ (v : Way). Searched P m g e h d (all_from m v)) z B))

  pub chain_ends : (f g : Option Way) (s e b l : List ℕ) (xs : List Record) → map (λ x. x) xs ≡ map (record_in b) l → Searched P m f s g e (flat_map record_from xs) → Searched P m f s g e (flat_map (record_ways m b k t) l)
  chain_ends f g s e b l xs q A = subst (Searched P m f s g e) (ap (flat_map record_from) (sym (map-id xs) ∙ q) ∙ records_same b l) A

module _ (P : Named → Bool) (m : List ℕ) where
  -- ---- a block, a core of a group, and all of them

  pub block_ways_lem : {f g h o : Option Way} {s e d u : List ℕ} (b : List ℕ) (k p : ℕ) → p ≡ origin_of b → Searched P m f s g e (all_from m (with_root k AtOrigin (naming 2 p false)))
      → Searched P m g e h d (flat_map (record_ways m b k false) (walk_numbers b)) → Searched P m h d o u (flat_map (record_ways m b k true) (store_numbers b)) → Searched P m f s o u (block_ways m b k)
  unfolding block_ways record_ways roots flat_map
  block_ways_lem {f} {g} {h} {o} {s} {e} {d} {u} b k p z A B C =
      subst (Searched P m f s o u) (ap (λ (l : List Way). all_from m (root_way b k AtOrigin) ++ l) (sym parts))
      (searched_then P m (subst (λ (v : ℕ). Searched P m f s g e (all_from m (with_root k AtOrigin (naming 2 v false)))) z A) (searched_then P m B C))
    where
      from : Root → List Way
      from r = all_from m (root_way b k r)

      parts : flat_map from (map AtWalk (walk_numbers b) ++ map AtStore (store_numbers b)) ≡ flat_map (λ (n : ℕ). from (AtWalk n)) (walk_numbers b) ++ flat_map (λ (n : ℕ). from (AtStore n)) (store_numbers b)
      parts = flat_map_append from (map AtWalk (walk_numbers b)) (map AtStore (store_numbers b)) ∙ ap₂ ◌++◌ (sym (flat_map_map from AtWalk (walk_numbers b))) (sym (flat_map_map from AtStore (store_numbers b)))

  pub core_in : {f g : Option Way} {s e : List ℕ} (r : ℕ) (t b : List ℕ) (k v : ℕ) → v ≡ r / 2 ^ k → v % 2 ≡ 1 → b ≡ block t k → Searched P m f s g e (block_ways m b k) → Searched P m f s g e (member_ways r t m k)
  unfolding member_ways core_ways block_ways
  core_in {f} {g} {s} {e} r t b k v z h q A =
      let i : is_set r k ≡ true = eq-eqb (r / 2 ^ k % 2) 1 (ap (λ (u : ℕ). u % 2) (sym z) ∙ h) in
      rw i (subst (λ (l : List ℕ). Searched P m f s g e (block_ways m l k)) q A)

  pub core_out : (f : Option Way) (s : List ℕ) (r : ℕ) (t : List ℕ) (k v : ℕ) → v ≡ r / 2 ^ k → v % 2 ≢ 1 → Known P m s f → Searched P m f s f s (member_ways r t m k)
  unfolding member_ways
  core_out f s r t k v z h n =
      let i : is_set r k ≡ false = ne_eqb (r / 2 ^ k % 2) 1 (λ u. h (ap (λ (o : ℕ). o % 2) z ∙ u)) in
      rw i (searched_none P m f s n)

  pub cores_start : (f : Option Way) (s : List ℕ) (F : ℕ → List Way) → Known P m s f → Searched P m f s f s (flat_map F (range 0))
  unfolding range flat_map
  cores_start f s F k = searched_none P m f s k

  pub cores_next : {f g h : Option Way} {s e d : List ℕ} (F : ℕ → List Way) (i : ℕ) → Searched P m f s g e (flat_map F (range i)) → Searched P m g e h d (F i) → Searched P m f s h d (flat_map F (range (i + 1)))
  cores_next {f} {g} {h} {s} {e} {d} F i A B = subst (Searched P m f s h d) (sym (ways_next F i)) (searched_then P m A B)

  pub cores_end : (g : Option Way) (s e : List ℕ) (r : ℕ) (t : List ℕ) (i n : ℕ) → i ≡ n → Searched P m None s g e (flat_map (member_ways r t m) (range i)) → g ≡ sought P (ways (members r n) t m)
  unfolding member_ways ways members lower
  cores_end g s e r t i n z A = A.best ∙ ap (sought P) (ap (λ (j : ℕ). flat_map (member_ways r t m) (range j)) z ∙ flat_map_select (core_ways t m) (λ k. is_set r k) (range n))

-- nothing is marked in zeros
pub blank : (P : Named → Bool) (m : List ℕ) (f : Option Way) (n : ℕ) → Known P m (replicate n 0) f
blank P m f n q e = let z : ◌≡◌ {A = ℕ} (get_or (replicate n 0) q 0) 0 = either (dec_lt q n) (λ h. get_or-replicate {A = ℕ} n q 0 0 h) (λ h. get_or-eq_default (replicate n 0) 0 {n = q} (omega (arith, length-replicate {A = ℕ} n 0))) in absurd (omega arith)
