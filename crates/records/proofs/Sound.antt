-- Sound records stay sound under each operation.
-- Assumes nothing.
use mathlib.Core.Path.{◌≡◌, refl, sym, ap, ◌∙◌}
use Prim.Native.Nat.{ℕ, ◌<◌}
use mathlib.Core.Bool.{Bool, true, false, ◌&&◌, ◌||◌, not}
use mathlib.Core.List.{List, [], ◌∷◌, ◌++◌}
use lib.ListN.{length, drop}
use borrow.Author.Tests.{not-true}
use Rattle.records.specs.declared.Store.{Store}
use Rattle.records.specs.declared.Walk.{Walk}
use Rattle.records.specs.declared.Flush.{Flush}
use Rattle.records.specs.Records.{all, stores, walks, same, among, differing, goes, put_store, take_store, add_walk, drop_walks}
use Rattle.records.specs.inner.Walks.{staying, with_walk}
use Rattle.records.specs.Contents.{store_sound, walk_sound, sound_records}
use Rattle.records.proofs.Laws.{After, take_law, put_law, add_law, drop_law}
use Rattle.records.proofs.Contents.{parts_of, parts_all}
use Rattle.word.proofs.Truth.{and_left, and_right, and_both, or_none_left, or_none_right}

-- ---- rules on lists, which the lists after an operation keep

pub all_snoc : {A : Type 0} (p : A → Bool) (l : List A) (x : A) → all p l ≡ true → p x ≡ true → all p (l ++ (x ∷ [])) ≡ true
unfolding all
all_snoc p [] x e f = and_both (p x) true f refl
all_snoc p (y ∷ l) x e f = and_both (p y) _ (and_left (p y) (all p l) e) (all_snoc p l x (and_right (p y) (all p l) e) f)

pub all_rest : {A : Type 0} (p : A → Bool) (l : List A) → all p l ≡ true → all p (drop 1 l) ≡ true
unfolding all
all_rest p [] e = refl
all_rest p (x ∷ l) e = and_right (p x) (all p l) e

pub all_staying : (hit : ℕ → Bool) (p : Walk → Bool) (l : List Walk) → all p l ≡ true → all p (staying hit l) ≡ true
unfolding all staying
all_staying hit p [] e = refl
all_staying hit p (w ∷ l) e = go (hit w.first) (all_staying hit p l (and_right (p w) (all p l) e))
  where
    go : (t : Bool) → all p (staying hit l) ≡ true → all p (elim t [ true ↦ staying hit l | false ↦ w ∷ staying hit l ]) ≡ true
    go true f = f
    go false f = and_both (p w) _ (and_left (p w) (all p l) e) f

among_staying : (hit : ℕ → Bool) (v : Walk) (l : List Walk) → among v l ≡ false → among v (staying hit l) ≡ false
unfolding among staying
among_staying hit v [] e = refl
among_staying hit v (w ∷ l) e = go (hit w.first) (among_staying hit v l (or_none_right (same w v) (among v l) e))
  where
    go : (t : Bool) → among v (staying hit l) ≡ false → among v (elim t [ true ↦ staying hit l | false ↦ w ∷ staying hit l ]) ≡ false
    go true h = h
    go false h = ap (λ (s : Bool). s || among v (staying hit l)) (or_none_left (same w v) (among v l) e) ∙ h

differing_staying : (hit : ℕ → Bool) (l : List Walk) → differing l ≡ true → differing (staying hit l) ≡ true
unfolding differing staying
differing_staying hit [] e = refl
differing_staying hit (w ∷ l) e =
    go (hit w.first) (differing_staying hit l (and_right (not (among w l)) (differing l) e))
    (among_staying hit w l (not-true (among w l) (and_left (not (among w l)) (differing l) e)))
  where
    go : (t : Bool) → differing (staying hit l) ≡ true → among w (staying hit l) ≡ false → differing (elim t [ true ↦ staying hit l | false ↦ w ∷ staying hit l ]) ≡ true
    go true h k = h
    go false h k = ap (λ (s : Bool). not s && differing (staying hit l)) k ∙ h

module _ (w : Walk) (l : List Walk) where
  pub all_with : (p : Walk → Bool) → p w ≡ true → all p l ≡ true → all p (with_walk w l) ≡ true
  unfolding with_walk all
  all_with p e f = go (among w l)
    where
      go : (t : Bool) → all p (elim t [ true ↦ l | false ↦ w ∷ l ]) ≡ true
      go true = f
      go false = and_both (p w) _ e f

  differing_with : differing l ≡ true → differing (with_walk w l) ≡ true
  unfolding with_walk differing
  differing_with e = go (among w l) refl
    where
      go : (t : Bool) → among w l ≡ t → differing (elim t [ true ↦ l | false ↦ w ∷ l ]) ≡ true
      go true f = e
      go false f = ap (λ (s : Bool). not s && differing l) f ∙ e

-- ---- the operations

-- sound lists in linked records are sound records
after_sound : (n : ℕ) {b c : List ℕ} {ss : List Store} {ws : List Walk} → After b c ss ws → all (store_sound n) ss ≡ true → all walk_sound ws ≡ true → differing ws ≡ true → sound_records n c ≡ true
after_sound n {b} {c} A e f g =
    sym (parts_all n c A.chains (ap (all (store_sound n)) A.stores_view ∙ e) (ap (all walk_sound) A.walks_view ∙ f)) ∙ ap differing A.walks_view ∙ g

module _ (n : ℕ) (b : List ℕ) (long : length b ≡ 256) (e : sound_records n b ≡ true) where
  pub take_sound : 0 < length (stores b) → sound_records n (take_store b) ≡ true
  take_sound some =
      let p = parts_of n b e in
      after_sound n (take_law b long p.0 some) (all_rest (store_sound n) (stores b) p.1) p.2 p.3

  pub put_sound : (s : Store) → store_sound n s ≡ true → length (stores b) < 8 → sound_records n (put_store b s) ≡ true
  put_sound s f few =
      let p = parts_of n b e in
      after_sound n (put_law b long p.0 s few) (all_snoc (store_sound n) (stores b) s p.1 f) p.2 p.3

  pub add_sound : (w : Walk) → walk_sound w ≡ true → (among w (walks b) ≡ false → length (walks b) < 23) → sound_records n (add_walk b w) ≡ true
  add_sound w f few =
      let p = parts_of n b e in
      after_sound n (add_law b long p.0 w few) p.1 (all_with w (walks b) walk_sound f p.2) (differing_with w (walks b) p.3)

  pub drop_sound : (f : Flush) → sound_records n (drop_walks f b) ≡ true
  drop_sound f =
      let p = parts_of n b e in
      after_sound n (drop_law b long p.0 f) p.1 (all_staying (goes f) walk_sound (walks b) p.2) (differing_staying (goes f) (walks b) p.3)
