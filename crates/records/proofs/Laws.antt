-- The laws of the operations on linked records: what each does to the stores, the walks and the words below the
-- records.
-- Assumes nothing.
use mathlib.Core.Path.{◌≡◌, refl, sym, ap, ◌∙◌}
use mathlib.Core.Logic.{◌≢◌}
use Prim.Native.Nat.{ℕ, ◌+◌, ◌<◌, ◌≤◌}
use mathlib.Core.Bool.{Bool, true, false}
use mathlib.Core.List.{List, [], ◌∷◌, ◌++◌, append-nil}
use native.Mathlib.Omega.{arith}
use lib.ListN.{length, get_or, drop, length-map}
use Rattle.layout.specs.Layout.{store_head, walk_head, free_head}
use Rattle.records.specs.declared.Store.{Store}
use Rattle.records.specs.declared.Walk.{Walk}
use Rattle.records.specs.declared.Flush.{Flush}
use Rattle.records.specs.Records.{chain_at, store_in, walk_in, stores, walks, linked, end_of, insert, among, goes, put_store, take_store, add_walk, drop_walks}
use Rattle.records.specs.inner.Walks.{staying, with_walk}
use Rattle.records.proofs.Three.{held}
use Rattle.records.proofs.Good.{Good, good_linked, linked_good, all_31}
use Rattle.records.proofs.Views.{store_of, walk_of, stores_good, walks_good, map-append, map_kept, good_release_store, kept_rs, out_rs, good_insert_store, kept_is, out_is, new_store, good_insert_walk, kept_iw, out_iw, new_walk}
use Rattle.records.proofs.Low.{release_low, insert_low, sweep_low}
use Rattle.records.proofs.Sweep.{Swept, swept}

-- an operation on the block b left the block c, with these stores and walks
pub record After (b c : List ℕ) (ss : List Store) (ws : List Walk) : Type 0 where
  pub long : length c ≡ 256
  pub chains : linked c ≡ true
  pub stores_view : stores c ≡ ss
  pub walks_view : walks c ≡ ws
  pub low : (i : ℕ) → i < 128 → i ≢ store_head → i ≢ walk_head → i ≢ free_head → get_or c i 0 ≡ get_or b i 0

module _ (b : List ℕ) (long : length b ≡ 256) (e : linked b ≡ true) where
  start : Good b (chain_at b store_head) (chain_at b walk_head) (chain_at b free_head)
  start = linked_good b e long

  lengths : (length (stores b) ≡ length (chain_at b store_head)) × (length (walks b) ≡ length (chain_at b walk_head))
  unfolding stores walks
  lengths = (length-map (chain_at b store_head) (store_in b), length-map (chain_at b walk_head) (walk_in b))

  -- the counts that linked records have
  pub few_stores : length (stores b) ≤ 8
  few_stores = omega (arith, start.few_s, lengths)

  pub few_walks : length (walks b) ≤ 23
  few_walks = omega (arith, start.few_w, lengths)

  all_there_lem : length (chain_at b store_head) + (length (chain_at b walk_head) + length (chain_at b free_head)) ≡ 31
  all_there_lem = all_31 (chain_at b store_head) (chain_at b walk_head) (chain_at b free_head) start.three.once start.three.below

  -- a record is free wherever fewer than 31 are in use
  free_some : length (stores b) + length (walks b) < 31 → (r : ℕ) × (fs : List ℕ) × (chain_at b free_head ≡ r ∷ fs)
  free_some h = go (chain_at b free_head) refl
    where
      go : (l : List ℕ) → chain_at b free_head ≡ l → (r : ℕ) × (fs : List ℕ) × (chain_at b free_head ≡ r ∷ fs)
      go [] f = absurd (omega (arith, h, lengths, all_there_lem, ap (λ (l : List ℕ). length l) f))
      go (r ∷ fs) f = (r, fs, f)

  -- the oldest store goes
  pub take_law : 0 < length (stores b) → After b (take_store b) (drop 1 (stores b)) (walks b)
  unfolding end_of take_store
  take_law some = go (chain_at b store_head) refl
    where
      go : (l : List ℕ) → chain_at b store_head ≡ l → After b (take_store b) (drop 1 (stores b)) (walks b)
      go [] f = absurd (omega (arith, some, lengths, ap (λ (l : List ℕ). length l) f))
      go (r ∷ ss) f =
          let G : Good b (r ∷ ss) (chain_at b walk_head) (chain_at b free_head) = rw f at start in
          let G' = good_release_store b r [] ss (chain_at b walk_head) (chain_at b free_head) G in
          let K = kept_rs b r [] ss (chain_at b walk_head) (chain_at b free_head) G in
          let out = out_rs b r [] ss (chain_at b walk_head) (chain_at b free_head) G in
          record {
            long = G'.three.long;
            chains = good_linked G';
            stores_view = stores_good G' ∙ map_kept K store_of ss out.1 ∙ sym (ap (drop 1) (stores_good G));
            walks_view = walks_good G' ∙ map_kept K walk_of (chain_at b walk_head) out.2 ∙ sym (walks_good G);
            low = λ i l p q s. release_low b store_head [] i l p s;
          }

  -- a new store goes last
  pub put_law : (s : Store) → length (stores b) < 8 → After b (put_store b s) (stores b ++ (s ∷ [])) (walks b)
  unfolding put_store
  put_law s few =
      let w = free_some (omega (arith, few, few_walks)) in
      let ss = chain_at b store_head in
      let ws = chain_at b walk_head in
      let G : Good b (ss ++ []) ws (w.0 ∷ w.1) = rw (append-nil ss) (rw w.2 at start) in
      let room : length (ss ++ []) < 8 = rw append-nil (omega (arith, few, lengths)) in
      let G' = good_insert_store b w.0 ss [] ws w.1 s.address s.value s.width G room in
      let K = kept_is b w.0 ss [] ws w.1 s.address s.value s.width G in
      let out = out_is b w.0 ss [] ws w.1 s.address s.value s.width G in
      record {
        long = G'.three.long;
        chains = good_linked G';
        stores_view =
            stores_good G' ∙ map-append (λ n. store_of (held (put_store b s) n)) ss (w.0 ∷ [])
            ∙ (λ i. map_kept K store_of ss out.0 i ++ (store_of (new_store b w.0 ss [] ws w.1 s.address s.value s.width G i) ∷ []))
            ∙ ap (λ (l : List Store). l ++ (s ∷ [])) (sym (stores_good start));
        walks_view = walks_good G' ∙ map_kept K walk_of ws out.2 ∙ sym (walks_good start);
        low = λ i l p q f. insert_low b store_head ss i l p f s.address s.value s.width;
      }

  -- a new walk goes first, unless it is held
  module _ (w : Walk) where
    new_law : length (walks b) < 23 → After b (insert b walk_head w.first w.second 0) (stores b) (w ∷ walks b)
    unfolding end_of
    new_law few =
        let v = free_some (omega (arith, few, few_stores)) in
        let ss = chain_at b store_head in
        let ws = chain_at b walk_head in
        let G : Good b ss ws (v.0 ∷ v.1) = rw v.2 at start in
        let G' = good_insert_walk b v.0 [] ws ss v.1 w.first w.second G (omega (arith, few, lengths)) in
        let K = kept_iw b v.0 [] ws ss v.1 w.first w.second G in
        let out = out_iw b v.0 [] ws ss v.1 w.first w.second G in
        record {
          long = G'.three.long;
          chains = good_linked G';
          stores_view = stores_good G' ∙ map_kept K store_of ss out.2 ∙ sym (stores_good start);
          walks_view =
              walks_good G' ∙ (λ i. walk_of (new_walk b v.0 [] ws ss v.1 w.first w.second G i) ∷ map_kept K walk_of ws out.1 i)
              ∙ ap (λ (l : List Walk). w ∷ l) (sym (walks_good start));
          low = λ i l p q f. insert_low b walk_head [] i l q f w.first w.second 0;
        }

    pub add_law : (among w (walks b) ≡ false → length (walks b) < 23) → After b (add_walk b w) (stores b) (with_walk w (walks b))
    unfolding add_walk with_walk
    add_law f = go (among w (walks b)) f
      where
        go : (t : Bool) → (t ≡ false → length (walks b) < 23)
            → After b (elim t [ true ↦ b | false ↦ insert b walk_head w.first w.second 0 ]) (stores b) (elim t [ true ↦ walks b | false ↦ w ∷ walks b ])
        go true f = record { long = long; chains = e; stores_view = refl; walks_view = refl; low = λ i l p q r. refl }
        go false f = new_law (f refl)

  -- the walks that match go
  pub drop_law : (f : Flush) → After b (drop_walks f b) (stores b) (staying (goes f) (walks b))
  unfolding drop_walks end_of
  drop_law f =
      let S : Swept (goes f) b (drop_walks f b) [] (chain_at b walk_head) (chain_at b store_head) = swept (goes f) (chain_at b walk_head) b [] (chain_at b store_head) (chain_at b free_head) start in
      record {
        long = S.good.three.long;
        chains = good_linked S.good;
        stores_view = stores_good S.good ∙ S.others ∙ sym (stores_good start);
        walks_view = walks_good S.good ∙ S.own ∙ ap (staying (goes f)) (sym (walks_good start));
        low = λ i l p q r. sweep_low (goes f) (chain_at b walk_head) b [] i l q r;
      }
