-- The operations on records leave words words; what is held is words, and so is a sound store.
-- Assumes nothing.
use mathlib.Core.Path.{◌≡◌, refl, sym, subst}
use mathlib.Core.Logic.{⊎_elim}
use mathlib.Core.Bool.{Bool, true, false}
use mathlib.Core.List.{List, [], ◌∷◌, map}
use Prim.Native.Nat.{ℕ, suc, ◌+◌, ◌^◌, ◌≤◌, ◌<◌}
use native.Mathlib.Omega.{arith}
use lib.ListN.{get_or, set}
use lib.Dec.{ltb, leb}
use borrow.Author.Tests.{lt-ltb, ltb-true}
use Rattle.word.proofs.Words.{Words, set_below}
use Rattle.word.proofs.Truth.{and_left, and_right, and_both, or_cases}
use Rattle.layout.specs.Layout.{record_at, store_head, walk_head, free_head, local_ports, local_port_bytes, io_ports, io_port_bytes}
use Rattle.records.specs.declared.Store.{Store}
use Rattle.records.specs.declared.Walk.{Walk}
use Rattle.records.specs.declared.Flush.{Flush}
use Rattle.records.specs.Records.{all, among, walks, walk_in, store_numbers, walk_numbers, goes, moved, release, insert, end_of, put_store, take_store, add_walk, sweep, drop_walks}
use Rattle.records.specs.Contents.{io_port, there, all_there, store_sound}
use Rattle.records.proofs.Facts.{store_facts, all_among}

-- ---- the operations

module _ (b : List ℕ) (w : Words b) where
  moved_words : (p r next link x y z head : ℕ) → next < 2 ^ 32 → link < 2 ^ 32 → x < 2 ^ 32 → y < 2 ^ 32 → z < 2 ^ 32 → head < 2 ^ 32 → Words (moved b p r next link x y z head)
  moved_words p r next link x y z head h₁ h₂ h₃ h₄ h₅ h₆ =
      let b₁ : List ℕ = set b p next in
      let b₂ : List ℕ = set b₁ (record_at r) link in
      let b₃ : List ℕ = set b₂ (record_at r + 1) x in
      let b₄ : List ℕ = set b₃ (record_at r + 2) y in
      let b₅ : List ℕ = set b₄ (record_at r + 3) z in
      let w₃ : Words b₃ = set_below b₂ (record_at r + 1) x (set_below b₁ (record_at r) link (set_below b p next w h₁) h₂) h₃ in
      set_below b₅ free_head head (set_below b₄ (record_at r + 3) z (set_below b₃ (record_at r + 2) y w₃ h₄) h₅) h₆

  release_words : (p : ℕ) → Words (release b p)
  unfolding release
  release_words p = moved_words p (get_or b p 0) _ _ 0 0 0 _ (w _) (w _) (omega arith) (omega arith) (omega arith) (w _)

  insert_words : (p x y z : ℕ) → x < 2 ^ 32 → y < 2 ^ 32 → z < 2 ^ 32 → Words (insert b p x y z)
  unfolding insert
  insert_words p x y z h₁ h₂ h₃ = moved_words p (get_or b free_head 0) _ _ x y z _ (w _) (w _) h₁ h₂ h₃ (w _)

sweep_words : (hit : ℕ → Bool) (l b : List ℕ) (p : ℕ) → Words b → Words (sweep hit b p l)
unfolding sweep
sweep_words hit [] b p w = w
sweep_words hit (x ∷ l) b p w =
    go (hit (get_or b (record_at x + 1) 0)) (sweep_words hit l (release b p) p (release_words b w p)) (sweep_words hit l b (record_at x) w)
  where
    go : (t : Bool) → Words (sweep hit (release b p) p l) → Words (sweep hit b (record_at x) l) → Words (elim t [ true ↦ sweep hit (release b p) p l | false ↦ sweep hit b (record_at x) l ])
    go true u v = u
    go false u v = v

-- a store is three words, a walk two
abbrev pub StoreWords : Store → Type 0
StoreWords s = (s.address < 2 ^ 32) × (s.value < 2 ^ 32) × (s.width < 2 ^ 32)

abbrev pub WalkWords : Walk → Type 0
WalkWords w = (w.first < 2 ^ 32) × (w.second < 2 ^ 32)

-- a test of the first
abbrev is_word : Walk → Bool
is_word w = ltb w.first (2 ^ 32)

module _ (b : List ℕ) (w : Words b) where
  pub put_words : (s : Store) → StoreWords s → Words (put_store b s)
  unfolding put_store
  put_words s h = insert_words b w (end_of store_head (store_numbers b)) s.address s.value s.width h.0 h.1 h.2

  pub take_words : Words (take_store b)
  unfolding take_store
  take_words = release_words b w store_head

  pub add_words : (v : Walk) → WalkWords v → Words (add_walk b v)
  unfolding add_walk
  add_words v h = go (among v (walks b))
    where
      go : (t : Bool) → Words (elim t [ true ↦ b | false ↦ insert b walk_head v.first v.second 0 ])
      go true = w
      go false = insert_words b w walk_head v.first v.second 0 h.0 h.1 (omega arith)

  pub drop_words : (f : Flush) → Words (drop_walks f b)
  unfolding drop_walks
  drop_words f = sweep_words (goes f) (walk_numbers b) b walk_head w

  -- ---- what is held

  pub held_first : (v : Walk) → among v (walks b) ≡ true → v.first < 2 ^ 32
  unfolding walks all
  held_first v h = ltb-true v.first (2 ^ 32) (all_among is_word v (walks b) (each (walk_numbers b)) h)
    where
      each : (l : List ℕ) → all is_word (map (walk_in b) l) ≡ true
      each [] = refl
      each (x ∷ l) = and_both (is_word (walk_in b x)) _ (lt-ltb (get_or b (record_at x + 1) 0) (2 ^ 32) (w (record_at x + 1))) (each l)

-- ---- a sound store, where memory has n bytes

place_lt : (n a : ℕ) → n ≤ 2 ^ 32 → there n a ≡ true → a < 2 ^ 32
place_lt n a l h =
    ⊎_elim (λ p. omega (arith, ltb-true a n p))
    (λ p. ⊎_elim (λ q. omega (arith, ltb-true a (io_ports + io_port_bytes) (and_right (leb io_ports a) _ q)))
    (λ q. omega (arith, ltb-true a (local_ports + local_port_bytes) (and_right (leb local_ports a) _ q)))
    (or_cases (io_port a) _ p))
    (or_cases (ltb a n) _ h)

module _ (n : ℕ) (s : Store) (e : store_sound n s ≡ true) where
  by_width : (P : ℕ → Type 0) → P 1 → P 2 → P 4 → P s.width
  by_width P p q r =
      ⊎_elim (λ f. subst P (sym f) p) (⊎_elim (λ f. subst P (sym f) q) (λ f. subst P (sym f) r)) (store_facts n s e).wide

  pub value_lt : s.value < 2 ^ 32
  value_lt = by_width (λ (d : ℕ). s.value < 256 ^ d → s.value < 2 ^ 32) (λ h. omega arith) (λ h. omega arith) (λ h. omega arith) (store_facts n s e).fits

  pub store_words : n ≤ 2 ^ 32 → StoreWords s
  store_words l =
      let first : (d : ℕ) → all_there (suc d) n s.address ≡ true → s.address < 2 ^ 32 = λ d h. place_lt n s.address l (and_left (there n s.address) _ h) in
      let address : s.address < 2 ^ 32 = by_width (λ (d : ℕ). all_there d n s.address ≡ true → s.address < 2 ^ 32) (first 0) (first 1) (first 3) (store_facts n s e).inside in
      (address, value_lt, by_width (λ (d : ℕ). d < 2 ^ 32) (omega arith) (omega arith) (omega arith))
