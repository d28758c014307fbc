-- Every way is real: followed from where it begins, through present entries, it comes to what it names, and its core is
-- one of those that were asked.
-- Assumes nothing.
use Rattle.std.specs.Prelude.{if◌then◌else◌, Option, Some, None}
use mathlib.Core.Path.{◌≡◌, refl, sym, ap, ◌∙◌}
use mathlib.Core.Bool.{Bool, true, false}
use mathlib.Core.List.{List, [], ◌∷◌, ◌++◌, map, flat_map, map-id, append-nil}
use Prim.Native.Nat.{ℕ, zero, suc, ◌+◌, ◌-◌, ◌≤◌, ◌<◌}
use native.Mathlib.Omega.{arith}
use lib.Dec.{eqb, ltb}
use borrow.Author.Tests.{ltb-true, eq-eqb}
use Rattle.layout.specs.Blocks.{block}
use Rattle.records.specs.Records.{walk_numbers, store_numbers}
use Rattle.tlb.specs.Walks.{pte_p, pte_r, pte_ba, entry_at, ptea_at}
use Rattle.reach.specs.Reach.{grants_write}
use Rattle.reach.proofs.Lists.{Each, In, in_here, in_there, each_append, flat_map_ext, flat_map_each, if_both}
use Rattle.ways.specs.declared.Named.{Named}
use Rattle.ways.specs.declared.Root.{Root}
use Rattle.ways.specs.declared.Root.TheVariants.{AtWalk, AtStore}
use Rattle.ways.specs.declared.Way.{Way}
use Rattle.ways.specs.Ways.{Real, naming, root_named, is_root, roots, entry_named, next_named, entries_of, entry_place, named_at, follow, root_way, further, next_ways, onward, all_from, core_ways, ways}
use Rattle.ways.proofs.Lists.{flat_flat, each_range, each_map, each_weak, each_through}

-- ---- one entry more

follow_one : (m : List ℕ) (x : Named) (a : ℕ) → follow m x (a ∷ []) ≡ named_at m x a
unfolding follow
follow_one m x a = flat_map_each (λ (y : Named). y) (named_at m x a) ∙ map-id (named_at m x a)

follow_more : (m : List ℕ) (x : Named) (l : List ℕ) (a : ℕ) → follow m x (l ++ (a ∷ [])) ≡ flat_map (λ (y : Named). named_at m y a) (follow m x l)
unfolding follow flat_map
follow_more m x [] a = follow_one m x a ∙ sym (append-nil (named_at m x a))
follow_more m x (b ∷ l) a =
    flat_map_ext (λ (y : Named). follow m y (l ++ (a ∷ []))) (λ (y : Named). flat_map (λ (z : Named). named_at m z a) (follow m y l)) (named_at m x b) (λ y. follow_more m y l a)
    ∙ sym (flat_flat (λ (z : Named). named_at m z a) (λ (y : Named). follow m y l) (named_at m x b))

-- the entry at the address of entry i is entry i
at_place : (m : List ℕ) (x : Named) (i : ℕ) → i < 1024 → named_at m x (ptea_at x.page i) ≡ next_named m x i
at_place m x i h =
    let e : entry_place (ptea_at x.page i) ≡ i = omega arith in
    rw e (same (eq-eqb (ptea_at x.page i) (ptea_at x.page i) refl))
  where
    same : eqb (ptea_at x.page i) (ptea_at x.page i) ≡ true → (if eqb (ptea_at x.page i) (ptea_at x.page i) then next_named m x i else []) ≡ next_named m x i
    same q = rw q refl

-- an entry names at most one page, one level down
only : (x : Named) (e : Option ℕ) → Each (λ (y : Named). (entry_named x e ≡ y ∷ []) × (y.level ≡ x.level - 1)) (entry_named x e)
only x (Some e) = go (pte_p e)
  where
    y : Named
    y = naming (x.level - 1) (pte_ba e) (grants_write (pte_r e))

    go : (p : Bool) → Each (λ (z : Named). ((if p then y ∷ [] else []) ≡ z ∷ []) × (z.level ≡ x.level - 1)) (if p then y ∷ [] else [])
    go true = ((refl, refl), tt)
    go false = tt
only x None = tt

-- the address of one entry more goes last
more_entries : (n a b c : ℕ) → n < 2 → entries_of (n + 1) (if eqb n 0 then c else a) (if eqb n 0 then 0 else c) ≡ entries_of n a b ++ (c ∷ [])
more_entries zero a b c h = refl
more_entries (suc zero) a b c h = refl
more_entries (suc (suc n)) a b c h = absurd (omega arith)

-- ---- ways

module _ (cs t m : List ℕ) where
  abbrev R : Way → Type 0
  R = Real cs t m

  -- a real way that has gone through at most n entries and has d levels to go
  abbrev Short : ℕ → ℕ → Way → Type 0
  Short d n w = R w × (w.entries ≤ n) × (w.names.level ≡ d)

  next_real : (d n : ℕ) (w : Way) → n < 2 → Short (suc d) n w → Each (Short d (n + 1)) (next_ways m w)
  unfolding next_ways flat_map
  next_real d n w few (r, s, l) = each_range (Short d (n + 1)) (λ (i : ℕ). map (further w i) (next_named m w.names i)) 1024 (λ i h. each_map (Short d (n + 1)) (further w i) (next_named m w.names i) (each_weak (λ (y : Named). (next_named m w.names i ≡ y ∷ []) × (y.level ≡ w.names.level - 1)) (λ (y : Named). Short d (n + 1) (further w i y)) (next_named m w.names i) (λ y e. (more i y h e.0 e.1, omega arith, omega (arith, e.1))) (only w.names (entry_at m (ptea_at w.names.page i)))))
    where
      x : Named
      x = root_named (block t w.core) w.root

      more : (i : ℕ) (y : Named) → i < 1024 → next_named m w.names i ≡ y ∷ [] → y.level ≡ w.names.level - 1 → R (further w i y)
      more i y h e q =
          record {
            of_core = r.of_core;
            begins = r.begins;
            depth = omega (arith, r.depth);
            follows =
                ap (follow m x) (more_entries w.entries w.first w.second (ptea_at w.names.page i) (omega arith))
                ∙ follow_more m x (entries_of w.entries w.first w.second) (ptea_at w.names.page i)
                ∙ ap (flat_map (λ (z : Named). named_at m z (ptea_at w.names.page i))) r.follows
                ∙ append-nil (named_at m w.names (ptea_at w.names.page i))
                ∙ at_place m w.names i h
                ∙ e;
          }

  onward_real : (d n : ℕ) (w : Way) → d + n ≤ 2 → Short d n w → Each R (onward m d w)
  unfolding onward
  onward_real zero n w few s = (s.0, tt)
  onward_real (suc d) n w few s = (s.0, each_through (Short d (n + 1)) R (onward m d) (next_ways m w) (λ v k. onward_real d (n + 1) v (omega arith) k) (next_real d n w (omega arith) s))

  from_real : (w : Way) → R w → w.entries ≡ 0 → Each R (all_from m w)
  unfolding all_from
  from_real w r z = if_both (Each R) (ltb w.names.level 3) (onward m w.names.level w) [] (λ e. let h = ltb-true w.names.level 3 e in onward_real w.names.level 0 w (omega arith) (r, omega arith, refl)) (λ _. tt)

  -- the roots of a block are held
  numbered : (f : ℕ → Root) (P : Root → Type 0) (l : List ℕ) → ((n : ℕ) → In n l → P (f n)) → Each P (map f l)
  numbered f P [] h = tt
  numbered f P (n ∷ l) h = (h n (in_here n l), numbered f P l (λ k i. h k (in_there k n l i)))

  held : (b : List ℕ) → Each (λ (r : Root). is_root b r ≡ true) (roots b)
  unfolding roots
  held b = (refl, each_append (λ (r : Root). is_root b r ≡ true) (map AtWalk (walk_numbers b)) (map AtStore (store_numbers b)) (numbered AtWalk (λ (r : Root). is_root b r ≡ true) (walk_numbers b) (λ n h. h)) (numbered AtStore (λ (r : Root). is_root b r ≡ true) (store_numbers b) (λ n h. h)))

  core_real : (k : ℕ) → In k cs → Each R (core_ways t m k)
  unfolding core_ways follow
  core_real k h =
      each_through (λ (r : Root). is_root (block t k) r ≡ true) R (λ (r : Root). all_from m (root_way (block t k) k r)) (roots (block t k))
      (λ r e. from_real (root_way (block t k) k r) (record { of_core = h; begins = e; depth = omega arith; follows = refl }) refl) (held (block t k))

  of_cores : (l : List ℕ) → ((k : ℕ) → In k l → In k cs) → Each R (ways l t m)
  unfolding ways flat_map
  of_cores [] f = tt
  of_cores (k ∷ l) f = each_append R (core_ways t m k) (ways l t m) (core_real k (f k (in_here k l))) (of_cores l (λ j h. f j (in_there j k l h)))

  pub ways_real : Each R (ways cs t m)
  ways_real = of_cores cs (λ k h. h)
