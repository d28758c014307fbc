-- Laws of reach: tables lead into it, its cores' blocks are good, and it depends on those blocks and its tables alone.
-- Assumes nothing.
use Rattle.std.specs.Prelude.{if◌then◌else◌, Option, Some}
use mathlib.Core.Path.{◌≡◌, refl, sym, ap, ap₂, subst, ◌∙◌}
use mathlib.Core.Bool.{Bool, true, ◌&&◌}
use mathlib.Core.List.{List, [], ◌∷◌, ◌++◌, map, flat_map}
use Prim.Native.Nat.{ℕ, zero, suc, ◌+◌, ◌*◌, ◌%◌, ◌<◌, ◌≤◌}
use native.Mathlib.Omega.{arith}
use lib.Dec.{eqb}
use borrow.Author.Tests.{eq-eqb}
use Rattle.layout.specs.Blocks.{block}
use Rattle.records.specs.declared.Walk.{Walk}
use Rattle.records.specs.declared.Store.{Store}
use Rattle.records.specs.Records.{all, stores, walks, walk_in, walk_numbers}
use Rattle.records.specs.Contents.{store_sound, walk_sound}
use Rattle.tables.specs.Sound.{sound_block}
use Rattle.tables.proofs.Steps.{block_stores, block_walks}
use Rattle.word.proofs.Words.{Words}
use Rattle.word.proofs.Truth.{and_left, and_right, and_both}
use Rattle.tlb.specs.Walks.{walk_level, walk_r, walk_ba, base_address, entry_at, ptea_at, pte_p, pte_r, pte_ba, complete}
use Rattle.tables.specs.Views.{user_mode}
use Rattle.tlb.specs.Steps.{origin_of}
use Rattle.tlb.proofs.Fields.{level_sound}
use Rattle.store_buffer.specs.System.{sized, aligned}
use Rattle.reach.specs.Lists.{range, select}
use Rattle.reach.specs.Reach.{table_pages, grants_write, any_rights, bases_of, store_pages, named_by, named, over, first_pages, second_pages, data_pages, writable_pages, reach}
use Rattle.reach.proofs.Lists.{In, Each, if_both, in_left, in_right, in_here, in_there, in_flat_map, in_range, range_in, flat_map_same}
use Rattle.separation.proofs.Memory.{page, Fits, Agree, entry_at_same}
use Rattle.separation.proofs.Good.{AtLevel, WalkOk, StoreOk, Good, Closed, base_page, entry_place}
use Rattle.separation.proofs.Local.{aligned_fits}

-- ---- entries

named_entry : (t : ℕ → Bool) (x : Option ℕ) (e : ℕ) → x ≡ Some e → pte_p e ≡ true → t (pte_r e) ≡ true → In (pte_ba e) (named_by t x)
named_entry t x e q p r = subst (λ (y : Option ℕ). In (pte_ba e) (named_by t y)) (sym q) (subst (λ (b : Bool). In (pte_ba e) (if b then pte_ba e ∷ [] else [])) (sym (and_both (pte_p e) _ p r)) (in_here (pte_ba e) []))

named_in : (t : ℕ → Bool) (m : List ℕ) (p i e : ℕ) → i < 1024 → entry_at m (ptea_at p i) ≡ Some e → pte_p e ≡ true → t (pte_r e) ≡ true → In (pte_ba e) (named t m p)
unfolding named
named_in t m p i e q h x r =
    in_flat_map (λ (j : ℕ). named_by t (entry_at m (ptea_at p j))) i (pte_ba e) (range 1024) (in_range 1024 i q) (named_entry t (entry_at m (ptea_at p i)) e h x r)

pub closed_reach : (cs t m : List ℕ) → Closed (reach cs t m) m
unfolding reach second_pages data_pages writable_pages
closed_reach cs t m =
    record {
      down = λ p i e h q g x. in_left _ _ (over cs t (λ b. bases_of (λ w. eqb (walk_level w) 1) (walks b))) (in_flat_map (named any_rights m) p _ (first_pages cs t) h (named_in any_rights m p i e q g x refl));
      leaf = λ p i e h q g x. in_left _ _ (over cs t (λ b. bases_of complete (walks b) ++ store_pages (stores b))) (in_flat_map (named any_rights m) p _ (second_pages cs t m) h (named_in any_rights m p i e q g x refl));
      leaf_write = λ p i e h q g x y. in_left _ _ (over cs t (λ b. bases_of (λ w. complete w && grants_write (walk_r w)) (walks b) ++ store_pages (stores b)))
          (in_flat_map (named grants_write m) p _ (second_pages cs t m) h (named_in grants_write m p i e q g x y));
    }

-- ---- blocks

over_in : (cs t : List ℕ) (f : List ℕ → List ℕ) (k p : ℕ) → In k cs → In p (f (block t k)) → In p (over cs t f)
over_in cs t f k p h g = in_flat_map (λ (j : ℕ). f (block t j)) k p cs h g

bases_here : (t : Walk → Bool) (w : Walk) (l : List Walk) → t w ≡ true → In (walk_ba w) (bases_of t (w ∷ l))
unfolding select
bases_here t w l e = rw e (in_here (walk_ba w) (bases_of t l))

bases_there : (t : Walk → Bool) (w : Walk) (l : List Walk) (p : ℕ) → In p (bases_of t l) → In p (bases_of t (w ∷ l))
unfolding select
bases_there t w l p h =
    if_both (λ (k : List Walk). In p (map (λ (v : Walk). walk_ba v) k)) (t w) (w ∷ select t l) (select t l) (λ _. in_there p (walk_ba w) (bases_of t l) h) (λ _. h)

store_fits : (n : ℕ) (s : Store) → store_sound n s ≡ true → Fits s.address s.width
unfolding store_sound aligned
store_fits n s e =
    let z : sized s.width ≡ true = and_left (sized s.width) _ e in
    let r : eqb (s.address % s.width) 0 ≡ true = and_left (eqb (s.address % s.width) 0) _ (and_right (sized s.width) _ e) in
    aligned_fits s.address s.width (and_both (sized s.width) _ z r)

module _ (cs t m : List ℕ) (k : ℕ) (h : In k cs) where
  b : List ℕ
  b = block t k

  walk_level_lem : (w : Walk) → ((f : Walk → Bool) → f w ≡ true → In (walk_ba w) (bases_of f (walks (block t k)))) → (j : ℕ) → walk_level w ≡ j → j ≤ 2
      → AtLevel (reach cs t m) j (walk_r w) (walk_ba w)
  unfolding reach second_pages first_pages data_pages writable_pages
  walk_level_lem w f zero q l = (
    in_right _ (flat_map (named any_rights m) (second_pages cs t m)) _
        (over_in cs t (λ b. bases_of complete (walks b) ++ store_pages (stores b)) k (walk_ba w) h
        (in_left (walk_ba w) (bases_of complete (walks (block t k))) (store_pages (stores (block t k))) (f complete (eq-eqb (walk_level w) 0 q)))),
    λ r. in_right _ (flat_map (named grants_write m) (second_pages cs t m)) _
        (over_in cs t (λ b. bases_of (λ v. complete v && grants_write (walk_r v)) (walks b) ++ store_pages (stores b)) k (walk_ba w) h
        (in_left (walk_ba w) (bases_of (λ v. complete v && grants_write (walk_r v)) (walks (block t k))) (store_pages (stores (block t k)))
        (f (λ v. complete v && grants_write (walk_r v)) (and_both (complete w) _ (eq-eqb (walk_level w) 0 q) r)))),
  )
  walk_level_lem w f (suc zero) q l =
      in_right _ (flat_map (named any_rights m) (first_pages cs t)) _
      (over_in cs t (λ b. bases_of (λ v. eqb (walk_level v) 1) (walks b)) k (walk_ba w) h (f (λ v. eqb (walk_level v) 1) (eq-eqb (walk_level w) 1 q)))
  walk_level_lem w f (suc (suc zero)) q l =
      over_in cs t (λ b. origin_of b ∷ bases_of (λ v. eqb (walk_level v) 2) (walks b)) k (walk_ba w) h
      (in_there (walk_ba w) (origin_of (block t k)) (bases_of (λ v. eqb (walk_level v) 2) (walks (block t k))) (f (λ v. eqb (walk_level v) 2) (eq-eqb (walk_level w) 2 q)))
  walk_level_lem w f (suc (suc (suc j))) q l = omega arith

  walks_ok : Words (block t k) → (l : List ℕ) → ((f : Walk → Bool) (p : ℕ) → In p (bases_of f (map (walk_in (block t k)) l)) → In p (bases_of f (walks (block t k))))
      → all walk_sound (map (walk_in (block t k)) l) ≡ true → Each (WalkOk (reach cs t m)) (map (walk_in (block t k)) l)
  unfolding all
  walks_ok W [] f a = tt
  walks_ok W (x ∷ l) f a =
      let w : Walk = walk_in (block t k) x in (
        record {
          at_level = walk_level_lem w (λ g q. f g (walk_ba w) (bases_here g w (map (walk_in (block t k)) l) q)) (walk_level w) refl (level_sound w (and_left (walk_sound w) _ a));
          word = W _;
        },
        walks_ok W l (λ g p q. f g p (bases_there g w (map (walk_in (block t k)) l) p q)) (and_right (walk_sound w) _ a),
      )

  stores_ok : (n : ℕ) (l : List Store) → ((p : ℕ) → In p (store_pages l) → In p (store_pages (stores (block t k)))) → all (store_sound n) l ≡ true
      → Each (StoreOk (reach cs t m)) l
  unfolding reach data_pages writable_pages all
  stores_ok n [] f a = tt
  stores_ok n (s ∷ l) f a = (
    record {
      writable = subst (λ (p : ℕ). In p (reach cs t m).writables) (base_page s.address)
          (unfold reach in in_right _ (flat_map (named grants_write m) (second_pages cs t m)) _
          (over_in cs t (λ b. bases_of (λ w. complete w && grants_write (walk_r w)) (walks b) ++ store_pages (stores b)) k (base_address s.address) h
          (in_right _ (bases_of (λ w. complete w && grants_write (walk_r w)) (walks (block t k))) (store_pages (stores (block t k))) (f (base_address s.address) (in_here _ _)))));
      fits = store_fits n s (and_left (store_sound n s) _ a);
    },
    stores_ok n l (λ p q. f p (in_there p (base_address s.address) (store_pages l) q)) (and_right (store_sound n s) _ a),
  )

  pub good_reach : (n : ℕ) → sound_block n (block t k) ≡ true → Words (block t k) → user_mode (block t k) ≡ true → Good (reach cs t m) (block t k)
  good_reach n e W u =
      record {
        user = u;
        word = W _;
        origin = first;
        held = held;
        pending = stores_ok n (stores (block t k)) (λ p q. q) (block_stores n (block t k) e);
      }
    where
      first : In (origin_of (block t k)) (reach cs t m).firsts
      first = unfold reach first_pages in over_in cs t (λ b. origin_of b ∷ bases_of (λ v. eqb (walk_level v) 2) (walks b)) k (origin_of (block t k)) h (in_here _ _)

      held : Each (WalkOk (reach cs t m)) (walks (block t k))
      held = unfold walks in walks_ok W (walk_numbers (block t k)) (λ f p q. unfold walks in q) (unfold walks in block_walks n (block t k) e)

-- ---- reach is the same where the blocks and the tables are

named_same : (f : ℕ → Bool) (ps m n : List ℕ) (p : ℕ) → p < 4096 → Agree ps m n → In p ps → named f m p ≡ named f n p
unfolding named
named_same f ps m n p l A h = flat_map_same _ _ (range 1024) (λ i q. ap (named_by f) (same i (range_in 1024 i q)))
  where
    same : (i : ℕ) → i < 1024 → entry_at m (ptea_at p i) ≡ entry_at n (ptea_at p i)
    same i q =
        let z : ptea_at p i ≡ 4096 * p + 4 * i = entry_place p i l q in
        let e : p ≡ page (ptea_at p i) = omega arith in
        entry_at_same ps m n A (ptea_at p i) (subst (λ (x : ℕ). In x ps) e h) (omega arith)

module _ (cs t u m n : List ℕ) (f : (k : ℕ) → In k cs → block t k ≡ block u k) where
  over_same : (g : List ℕ → List ℕ) → over cs t g ≡ over cs u g
  over_same g = flat_map_same _ _ cs (λ k h. ap g (f k h))

  module _ (A : Agree (table_pages (reach cs t m)) m n) (L : (p : ℕ) → In p (table_pages (reach cs t m)) → p < 4096) where
    firsts_same : first_pages cs t ≡ first_pages cs u
    unfolding first_pages
    firsts_same = over_same (λ b. origin_of b ∷ bases_of (λ w. eqb (walk_level w) 2) (walks b))

    table_named : (g : ℕ → Bool) (p : ℕ) → In p (table_pages (reach cs t m)) → named g m p ≡ named g n p
    table_named g p h = named_same g (table_pages (reach cs t m)) m n p (L p h) A h

    first_named : (g : ℕ → Bool) (p : ℕ) → In p (first_pages cs t) → named g m p ≡ named g n p
    first_named g p h = table_named g p (unfold reach in in_left p (first_pages cs t) (second_pages cs t m) h)

    second_named : (g : ℕ → Bool) (p : ℕ) → In p (second_pages cs t m) → named g m p ≡ named g n p
    second_named g p h = table_named g p (unfold reach in in_right p (first_pages cs t) (second_pages cs t m) h)

    seconds_same : second_pages cs t m ≡ second_pages cs u n
    unfolding second_pages
    seconds_same =
        ap₂ ◌++◌ (flat_map_same _ _ (first_pages cs t) (first_named any_rights) ∙ ap (flat_map (named any_rights n)) firsts_same) (over_same (λ b. bases_of (λ w. eqb (walk_level w) 1) (walks b)))

    leaves_same : (g : ℕ → Bool) → flat_map (named g m) (second_pages cs t m) ≡ flat_map (named g n) (second_pages cs u n)
    leaves_same g = flat_map_same _ _ (second_pages cs t m) (second_named g) ∙ ap (flat_map (named g n)) seconds_same

    pub reach_same : reach cs t m ≡ reach cs u n
    unfolding reach data_pages writable_pages
    reach_same =
        λ i. record {
          firsts = firsts_same i;
          seconds = seconds_same i;
          datas = leaves_same any_rights i ++ over_same (λ b. bases_of complete (walks b) ++ store_pages (stores b)) i;
          writables = leaves_same grants_write i ++ over_same (λ b. bases_of (λ w. complete w && grants_write (walk_r w)) (walks b) ++ store_pages (stores b)) i;
        }
