-- The words below the records that the operations leave alone: all but the heads of the chains.
-- Assumes nothing.
use mathlib.Core.Path.{◌≡◌, refl, sym, ap, ◌∙◌}
use mathlib.Core.Logic.{◌≢◌, ⊎_elim}
use Prim.Native.Nat.{ℕ, ◌+◌, ◌<◌}
use mathlib.Core.Bool.{Bool, true, false}
use mathlib.Core.List.{List, [], ◌∷◌, ◌++◌}
use native.Mathlib.Omega.{arith}
use lib.ListN.{get_or}
use lib.Seq.{get_or-set_other}
use Rattle.layout.specs.Layout.{record_at, walk_head, free_head}
use Rattle.records.specs.Records.{end_of, release, insert, sweep}
use Rattle.records.proofs.Three.{end_cases}
use Rattle.records.proofs.Along.{end_snoc}
use Rattle.records.proofs.Sweep.{sweep_hit, sweep_miss}

-- a link of the chain with head h: the head's word, or a record's
off_link : (h : ℕ) (s : List ℕ) (i : ℕ) → i < 128 → i ≢ h → i ≢ end_of h s
off_link h s i l d = ⊎_elim (λ e. omega arith) (λ w. omega (arith, w.1)) (end_cases h s)

-- no linked records are needed: a word below the records is none that is written
module _ (b : List ℕ) (h : ℕ) (s : List ℕ) (i : ℕ) (l : i < 128) (d : i ≢ h) (e : i ≢ free_head) where
  pub release_low : get_or (release b (end_of h s)) i 0 ≡ get_or b i 0
  unfolding release
  release_low =
      let a : i ≢ end_of h s = off_link h s i l d in
      let d0 : i ≢ record_at (get_or b (end_of h s) 0) = omega arith in
      let d1 : i ≢ record_at (get_or b (end_of h s) 0) + 1 = omega arith in
      let d2 : i ≢ record_at (get_or b (end_of h s) 0) + 2 = omega arith in
      let d3 : i ≢ record_at (get_or b (end_of h s) 0) + 3 = omega arith in
      simp get_or-set_other

  pub insert_low : (x y z : ℕ) → get_or (insert b (end_of h s) x y z) i 0 ≡ get_or b i 0
  unfolding insert
  insert_low x y z =
      let a : i ≢ end_of h s = off_link h s i l d in
      let d0 : i ≢ record_at (get_or b free_head 0) = omega arith in
      let d1 : i ≢ record_at (get_or b free_head 0) + 1 = omega arith in
      let d2 : i ≢ record_at (get_or b free_head 0) + 2 = omega arith in
      let d3 : i ≢ record_at (get_or b free_head 0) + 3 = omega arith in
      simp get_or-set_other

pub sweep_low : (hit : ℕ → Bool) (l : List ℕ) (b front : List ℕ) (i : ℕ) → i < 128 → i ≢ walk_head → i ≢ free_head → get_or (sweep hit b (end_of walk_head front) l) i 0 ≡ get_or b i 0
unfolding sweep
sweep_low hit [] b front i p d e = refl
sweep_low hit (x ∷ l) b front i p d e =
    go (hit (get_or b (record_at x + 1) 0)) refl (sweep_low hit l (release b (end_of walk_head front)) front i p d e) (sweep_low hit l b (front ++ (x ∷ [])) i p d e)
  where
    go : (t : Bool) → hit (get_or b (record_at x + 1) 0) ≡ t → get_or (sweep hit (release b (end_of walk_head front)) (end_of walk_head front) l) i 0 ≡ get_or (release b (end_of walk_head front)) i 0
        → get_or (sweep hit b (end_of walk_head (front ++ (x ∷ []))) l) i 0 ≡ get_or b i 0 → get_or (sweep hit b (end_of walk_head front) (x ∷ l)) i 0 ≡ get_or b i 0
    go true f S T = ap (λ (c : List ℕ). get_or c i 0) (sweep_hit hit b (end_of walk_head front) x l f) ∙ S ∙ release_low b walk_head front i p d e
    go false f S T = ap (λ (c : List ℕ). get_or c i 0) (sweep_miss hit b (end_of walk_head front) x l f) ∙ ap (λ (a : ℕ). get_or (sweep hit b a l) i 0) (sym (end_snoc walk_head front x)) ∙ T
