-- The answers of Make, test by test.
-- Assumes nothing.
use mathlib.Core.Path.{◌≡◌, refl, ap, ◌∙◌}
use mathlib.Core.Logic.{◌≢◌}
use Prim.Native.Nat.{ℕ, ◌+◌, ◌*◌, ◌/◌, ◌%◌, ◌≤◌}
use mathlib.Core.Bool.{Bool, true, false, ◌&&◌, ◌||◌, not}
use native.Mathlib.Omega.{arith}
use native.Mathlib.Decide.{dec_lt}
use lib.Dec.{eqb, ltb, leb}
use borrow.Author.Tests.{lt-ltb, le-ltb, le-leb, lt-leb, leb-true, eq-eqb, ne_eqb}
use Rattle.layout.specs.Layout as at
use Rattle.records.proofs.Counts.{either}
use Rattle.tables.specs.Sound.{up_to}
use Rattle.std.specs.Prelude.{Some, None}
use Rattle.refusals.specs.declared.Refusal.{Refusal}
use Rattle.tables.specs.Make.{refusal, whole_pages}
use Rattle.word.proofs.Truth.{and_right}

leb_not : (a b : ℕ) → leb a b ≡ not (ltb b a)
leb_not a b = either (dec_lt b a) (λ h. rw (lt-leb a b h, lt-ltb b a h)) (λ h. rw (le-leb a b (omega arith), le-ltb b a (omega arith)))

and_not : (p q : Bool) → not p && not q ≡ not (p || q)
and_not true q = refl
and_not false q = refl

and_or : (p q : Bool) → p && not q ≡ not (not p || q)
and_or true q = refl
and_or false q = refl

pub up_to_lem : (m x : ℕ) → up_to m x ≡ not (ltb x 1 || ltb m x)
up_to_lem m x = (λ i. leb_not 1 x i && leb_not x m i) ∙ and_not (ltb x 1) (ltb m x)

whole_pages_lem : (m : ℕ) → whole_pages m ≡ not (not (eqb (m % 4096) 0) || (ltb (m / 4096) 1 || ltb 4096 (m / 4096)))
whole_pages_lem m = ap (λ (t : Bool). eqb (m % 4096) 0 && t) (up_to_lem 4096 (m / 4096)) ∙ and_or (eqb (m % 4096) 0) (ltb (m / 4096) 1 || ltb 4096 (m / 4096))

module _ (n m l : ℕ) where
  pub refuse_cores : ltb n 1 || ltb 4 n ≡ true → Some Refusal.Cores ≡ refusal n m l
  unfolding refusal
  refuse_cores e = let f : up_to at.most_cores n ≡ false = up_to_lem 4 n ∙ ap not e in rw (f, refusal)

  module _ (e : ltb n 1 || ltb 4 n ≡ false) where
    few : up_to at.most_cores n ≡ true
    few = up_to_lem 4 n ∙ ap not e

    pub few_cores : n ≤ 4
    few_cores = leb-true n 4 (and_right (leb 1 n) (leb n 4) few)

    pub refuse_memory : not (eqb (m % 4096) 0) || (ltb (m / 4096) 1 || ltb 4096 (m / 4096)) ≡ true → Some Refusal.Memory ≡ refusal n m l
    unfolding refusal
    refuse_memory g = let f : whole_pages m ≡ false = whole_pages_lem m ∙ ap not g in rw (few, refusal) (rw (f, refusal))

    module _ (g : not (eqb (m % 4096) 0) || (ltb (m / 4096) 1 || ltb 4096 (m / 4096)) ≡ false) where
      whole : whole_pages m ≡ true
      whole = whole_pages_lem m ∙ ap not g

      pub few_pages : m / 4096 ≤ 4096
      few_pages = leb-true (m / 4096) 4096 (and_right (leb 1 (m / 4096)) (leb (m / 4096) 4096) (and_right (eqb (m % 4096) 0) (up_to 4096 (m / 4096)) whole))

      pub refuse_length : l ≢ 32 + 256 * n → Some Refusal.TableLength ≡ refusal n m l
      unfolding refusal
      refuse_length d = let f : eqb l (at.table_words n) ≡ false = ne_eqb l (at.table_words n) d in rw (few, refusal) (rw (whole, refusal) (rw (f, refusal)))

      pub accept : l ≡ 32 + 256 * n → None ≡ refusal n m l
      unfolding refusal
      accept d = let f : eqb l (at.table_words n) ≡ true = eq-eqb l (at.table_words n) d in rw (few, refusal) (rw (whole, refusal) (rw (f, refusal)))
