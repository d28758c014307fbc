-- Whether f is 1 at a number up to j, and the least such number.
-- Assumes nothing.
use Rattle.std.specs.Prelude.{Some, None}
use mathlib.Core.Path.{◌≡◌, sym, ap, ◌∙◌}
use mathlib.Core.Bool.{true, false}
use mathlib.Core.Logic.{⊎_elim}
use Prim.Native.Nat.{ℕ, zero, suc, ◌≤◌}
use native.Mathlib.Omega.{arith}
use lib.Dec.{eqb}
use borrow.Author.Tests.{eq-eqb, ne_eqb}
use Rattle.word.proofs.Laws.{side}
use Rattle.word.proofs.Truth.{or_true, clash}
use Rattle.vector_register.specs.Vectors.{least, some_up_to}
use Rattle.vector_register.proofs.Least.{Unset, found_none, set_below, set_there}

pub some_no : (f : ℕ → ℕ) (j : ℕ) → Unset f (suc j) → some_up_to f j ≡ false
unfolding some_up_to
some_no f zero c = ne_eqb (f 0) 1 (c 0 (omega arith))
some_no f (suc j) c =
    rw (ne_eqb (f (suc j)) 1 (c (suc j) (omega arith)))
    (some_no f j (λ k l. c k (omega arith)))

pub some_yes : (f : ℕ → ℕ) (j k : ℕ) → k ≤ j → f k ≡ 1 → some_up_to f j ≡ true
unfolding some_up_to
some_yes f zero k l e = let z : k ≡ 0 = omega arith in eq-eqb (f 0) 1 (ap f (sym z) ∙ e)
some_yes f (suc j) k l e =
    ⊎_elim
    (λ h. rw (some_yes f j k (omega arith) e) (or_true (eqb (f (suc j)) 1)))
    (λ h. let z : k ≡ suc j = omega arith in rw (eq-eqb (f (suc j)) 1 (ap f (sym z) ∙ e)))
    (side k (suc j))

-- of the 256 vectors, one is set or none
module _ (f : ℕ → ℕ) where
  pub one_set : (v : ℕ) → least f 256 0 ≡ Some v → some_up_to f 255 ≡ true
  one_set v e = some_yes f 255 v (omega (arith, set_below f 256 v e)) (set_there f 256 v e)

  pub none_set : some_up_to f 255 ≡ false → least f 256 0 ≡ None
  none_set h = found_none f 256 (λ k l e. clash _ (some_yes f 255 k (omega arith) e) h)
