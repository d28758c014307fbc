-- Laws of walks: their fields, the addresses of their entries, and which of them are sound.
-- Assumes nothing.
use mathlib.Core.Path.{◌≡◌, refl, sym, ◌∙◌}
use mathlib.Core.Bool.{Bool, true, false}
use Prim.Native.Nat.{ℕ, ◌+◌, ◌-◌, ◌*◌, ◌/◌, ◌%◌, ◌^◌, ◌≤◌, ◌<◌}
use native.Mathlib.Omega.{arith}
use lib.Dec.{eqb, leb}
use borrow.Author.Tests.{eq-eqb, ne_eqb, eqb-true, eqb-false, leb-true, le-leb, lt-ltb}
use Rattle.records.specs.declared.Walk.{Walk}
use Rattle.records.specs.Contents.{walk_sound}
use Rattle.tlb.specs.Walks.{walk_va, walk_asid, walk_level, walk_r, walk_ba, walk_of, index, ptea, pte_p, pte_r, pte_ba, complete, winit, wext}
use Rattle.word.proofs.Truth.{and_left, and_both}

-- two walks with equal words
pub same_walk : {v w : Walk} → v.first ≡ w.first → v.second ≡ w.second → v ≡ w
same_walk e f = λ i. record { first = e i; second = f i }

-- ---- a packed walk has the fields that were packed

pub record Fields (w : Walk) (v a l r b : ℕ) : Type 0 where
  pub va : walk_va w ≡ v
  pub asid : walk_asid w ≡ a
  pub level : walk_level w ≡ l
  pub rights : walk_r w ≡ r
  pub base : walk_ba w ≡ b

module _ (v a l r b : ℕ) (ha : a < 2 ^ 6) (hl : l < 4) (hr : r < 2 ^ 3) where
  pub of_fields : Fields (walk_of v a l r b) v a l r b
  unfolding walk_of
  of_fields = record { va = omega arith; asid = omega arith; level = omega arith; rights = omega arith; base = refl }

  -- its first word is a word, and it is sound
  pub first_lt : v < 2 ^ 20 → (walk_of v a l r b).first < 2 ^ 32
  unfolding walk_of
  first_lt h = omega arith

  pub of_sound : l ≤ 2 → b < 2 ^ 20 → walk_sound (walk_of v a l r b) ≡ true
  unfolding walk_sound walk_of
  of_sound p q =
      let f : ℕ = v * 4096 + a * 64 + l * 8 + r in
      let low : f / 8 % 4 ≤ 2 = omega arith in
      let zero : f / 32 % 2 ≡ 0 = omega arith in
      and_both (leb (f / 8 % 4) 2) _ (le-leb (f / 8 % 4) 2 low)
      (and_both (eqb (f / 32 % 2) 0) _ (eq-eqb (f / 32 % 2) 0 zero) (lt-ltb b (2 ^ 20) q))

-- ---- a sound walk's level

module _ (w : Walk) (e : walk_sound w ≡ true) where
  pub level_sound : walk_level w ≤ 2
  unfolding walk_sound
  level_sound = leb-true _ 2 (and_left (leb (walk_level w) 2) _ e)

-- ---- the entry that extends a walk

module _ (w : Walk) where
  pub index_two : walk_level w ≡ 2 → w.first / 2 ^ 22 ≡ index w
  unfolding index
  index_two e = rw (eq-eqb _ 2 e) (omega arith)

  pub index_one : (walk_level w ≡ 2 → ⊥) → w.first / 2 ^ 12 % 2 ^ 10 ≡ index w
  unfolding index
  index_one n = rw (ne_eqb _ 2 n) (omega arith)

  pub index_lt : w.first < 2 ^ 32 → index w < 2 ^ 10
  index_lt h = go (eqb (walk_level w) 2) refl
    where
      go : (t : Bool) → eqb (walk_level w) 2 ≡ t → index w < 2 ^ 10
      go true e = omega (arith, index_two (eqb-true _ 2 e))
      go false e = omega (arith, index_one (eqb-false _ 2 e))

  -- the sum that keeps 32 bits, with the base page shifted first
  pub ptea_sum : (w.second * 2 ^ 12 % 2 ^ 32 + 4 * index w) % 2 ^ 32 ≡ ptea w
  unfolding ptea
  ptea_sum = omega arith

  -- an entry's address is divisible by four
  pub ptea_aligned : ptea w % 4 ≡ 0
  unfolding ptea
  ptea_aligned = omega arith

  pub ptea_low : ptea w + 4 ≤ 2 ^ 32
  unfolding ptea
  ptea_low = omega (arith, ptea_aligned)

  -- and lies in the walk's page
  module _ (h : w.first < 2 ^ 32) (k : walk_ba w < 2 ^ 20) where
    pub ptea_at_lem : ptea w ≡ 4096 * walk_ba w + 4 * index w
    unfolding ptea
    ptea_at_lem = omega (arith, index_lt h)

    pub ptea_page : ptea w / 4096 ≡ walk_ba w
    ptea_page = omega (arith, index_lt h, ptea_at_lem)

-- ---- created and extended walks are sound

pub winit_sound : (va origin asid : ℕ) → origin < 2 ^ 20 → asid < 2 ^ 6 → walk_sound (winit va origin asid) ≡ true
unfolding winit
winit_sound va origin asid p q = of_sound va asid 2 7 origin q (omega arith) (omega arith) (omega arith) p

-- a present entry of 32 bits
pub wext_present : (w : Walk) (e : ℕ) → pte_p e ≡ true → wext w e ≡ walk_of (walk_va w) (walk_asid w) (walk_level w - 1) (pte_r e) (pte_ba e)
unfolding wext
wext_present w e p = rw p

pub wext_absent : (w : Walk) (e : ℕ) → pte_p e ≡ false → wext w e ≡ w
unfolding wext
wext_absent w e p = rw p

-- by the parts that the code has at hand
pub wext_parts : (w : Walk) (e : ℕ) {v a l r : ℕ} → pte_p e ≡ true → v ≡ walk_va w → a ≡ walk_asid w → l ≡ walk_level w → r ≡ pte_r e → walk_of v a (l - 1) r (pte_ba e) ≡ wext w e
wext_parts w e p v a l r =
    (λ i. walk_of (v i) (a i) (l i - 1) (r i) (pte_ba e)) ∙ sym (wext_present w e p)

pub wext_sound : (w : Walk) (e : ℕ) → walk_sound w ≡ true → e < 2 ^ 32 → walk_sound (wext w e) ≡ true
wext_sound w e s h = go (pte_p e) refl
  where
    go : (t : Bool) → pte_p e ≡ t → walk_sound (wext w e) ≡ true
    go true p =
        rw (wext_present w e p)
        (of_sound (walk_va w) (walk_asid w) (walk_level w - 1) (pte_r e) (pte_ba e) (omega arith) (omega arith) (omega arith) (omega (arith, level_sound w s)) (omega arith))
    go false p = rw (wext_absent w e p) s

-- their first words are words
pub winit_first : (va origin asid : ℕ) → va < 2 ^ 20 → asid < 2 ^ 6 → (winit va origin asid).first < 2 ^ 32
unfolding winit
winit_first va origin asid h q = first_lt va asid 2 7 origin q (omega arith) (omega arith) h

pub wext_first : (w : Walk) (e : ℕ) → w.first < 2 ^ 32 → (wext w e).first < 2 ^ 32
wext_first w e h = go (pte_p e) refl
  where
    go : (t : Bool) → pte_p e ≡ t → (wext w e).first < 2 ^ 32
    go true p = rw (wext_present w e p) (first_lt (walk_va w) (walk_asid w) (walk_level w - 1) (pte_r e) (pte_ba e) (omega arith) (omega arith) (omega arith) (omega arith))
    go false p = rw (wext_absent w e p) h

-- the fields of a created walk, and of one that a present entry extends
pub winit_fields : (va origin asid : ℕ) → asid < 2 ^ 6 → Fields (winit va origin asid) va asid 2 7 origin
unfolding winit
winit_fields va origin asid h = of_fields va asid 2 7 origin h (omega arith) (omega arith)

pub wext_fields : (w : Walk) (e : ℕ) → pte_p e ≡ true → Fields (wext w e) (walk_va w) (walk_asid w) (walk_level w - 1) (pte_r e) (pte_ba e)
wext_fields w e p =
    rw (wext_present w e p) (of_fields (walk_va w) (walk_asid w) (walk_level w - 1) (pte_r e) (pte_ba e) (omega arith) (omega arith) (omega arith))

-- an incomplete walk has a level to lose
pub incomplete_level : (w : Walk) → complete w ≡ false → 0 < walk_level w
incomplete_level w e = let n = eqb-false (walk_level w) 0 e in omega arith
