-- A number that is made bit by bit has as its members the cores that pass a test.
-- Assumes nothing.
use mathlib.Core.Path.{◌≡◌, refl, sym, ap, subst, ◌∙◌}
use mathlib.Core.Bool.{Bool, true, false}
use Prim.Native.Nat.{ℕ, ◌+◌, ◌<◌}
use native.Mathlib.Omega.{arith}
use native.Mathlib.Decide.{ℕ_discrete}
use mir.Val.{bool_byte}
use lib.Dec.{eqb}
use Rattle.word.specs.Word.{is_set, flag, with_bit}
use Rattle.word.proofs.Bits.{bit_same, bit_other}
use Rattle.records.proofs.Counts.{either}
use Rattle.reach.specs.Lists.{range, select}
use Rattle.reach.specs.Reach.{members}
use Rattle.reach.proofs.Lists.{range_in, select_same}

-- the bits of r below k say which of the first k cores pass the test
pub record Bits (test : ℕ → Bool) (r k : ℕ) : Type 0 where
  pub bits : (j : ℕ) → j < k → is_set r j ≡ test j

pub bits_none : (test : ℕ → Bool) (r : ℕ) → Bits test r 0
bits_none test r = record { bits = λ j h. absurd (omega arith) }

flag_small : (b : Bool) → flag b < 2
flag_small true = omega arith
flag_small false = omega arith

flag_bit : (b : Bool) → eqb (flag b) 1 ≡ b
flag_bit true = refl
flag_bit false = refl

pub bits_next : (test : ℕ → Bool) (r k : ℕ) → Bits test r k → Bits test (with_bit r k (flag (test k))) (k + 1)
bits_next test r k o =
    record {
      bits = λ j h. either (ℕ_discrete j k)
          (λ e. subst (λ (i : ℕ). is_set (with_bit r k (flag (test k))) i ≡ test i) (sym e)
          (ap (λ (x : ℕ). eqb x 1) (bit_same r k (flag (test k)) (flag_small (test k))) ∙ flag_bit (test k)))
          (λ d. ap (λ (x : ℕ). eqb x 1) (bit_other r k (flag (test k)) (flag_small (test k)) j d) ∙ o.bits j (omega arith));
    }

pub byte_small : (b : Bool) → bool_byte b < 2
byte_small true = omega arith
byte_small false = omega arith

pub byte_flag : (b : Bool) → bool_byte b ≡ flag b
byte_flag true = refl
byte_flag false = refl

-- the bit that the code puts
pub bits_put : (test : ℕ → Bool) (r s k : ℕ) (b : Bool) → b ≡ test k → s ≡ with_bit r k (bool_byte b) → Bits test r k → Bits test s (k + 1)
bits_put test r s k b p e o =
    subst (λ (n : ℕ). Bits test n (k + 1)) (sym (e ∙ ap (with_bit r k) (byte_flag b ∙ ap flag p))) (bits_next test r k o)

pub bits_members : (test : ℕ → Bool) (r n : ℕ) → Bits test r n → members r n ≡ select test (range n)
unfolding members
bits_members test r n o = select_same (λ j. is_set r j) test (range n) (λ j h. o.bits j (range_in n j h))
