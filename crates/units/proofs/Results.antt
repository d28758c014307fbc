-- The units make words of words, and the multiplication unit makes a double word.
-- Assumes nothing.
use Rattle.std.specs.Prelude.{if◌then◌else◌}
use mathlib.Core.Bool.{Bool}
use mathlib.Core.List.{List, [], ◌∷◌}
use Prim.Native.Nat.{ℕ, ◌-◌, ◌*◌, ◌%◌, ◌^◌, ◌<◌}
use native.Mathlib.Nat.{div-le_self}
use native.Mathlib.Omega.{arith}
use lib.Dec.{eqb, ltb}
use lib.IntN.{◌*ℤ◌}
use lib.Signed.{lt_z}
use lib.Bits.{bit_or, and_lt, or_lt, xor_lt}
use Rattle.word.specs.Word.{signed}
use Rattle.word.proofs.Laws.{below, sra_lt, twoc_lt}
use Rattle.word.proofs.Words.{if_lt}
use Rattle.units.specs.Control.{Line, choose}
use Rattle.units.specs.Alu.{results, alures}
use Rattle.units.specs.Multiplication.{products, mures}
use Rattle.units.specs.Shift.{shifts, sures}

-- the value of every line is below n
abbrev Below : ℕ → List (Line ℕ) → Type 0
Below n [] = Unit {0}
Below n (l ∷ ls) = (l.value < n) × Below n ls

choose_lt : {n : ℕ} (e : ℕ) (ls : List (Line ℕ)) (k : ℕ) → e < n → Below n ls → choose e ls k < n
choose_lt e [] k h w = h
choose_lt e (l ∷ ls) k h w = if_lt (eqb k l.control) l.value (choose e ls k) w.0 (choose_lt e ls k h w.1)

pub alures_lt : (a b c : ℕ) (i : Bool) → a < 2 ^ 32 → b < 2 ^ 32 → alures a b c i < 2 ^ 32
unfolding alures
alures_lt a b c i ha hb =
    let nor : (if i then b % 2 ^ 16 * 2 ^ 16 else 2 ^ 32 - 1 - bit_or a b) < 2 ^ 32 = if_lt i (b % 2 ^ 16 * 2 ^ 16) (2 ^ 32 - 1 - bit_or a b) (omega arith) (omega arith) in
    let slt : (if lt_z (signed 32 a) (signed 32 b) then 1 else 0) < 2 ^ 32 = if_lt (lt_z (signed 32 a) (signed 32 b)) 1 0 (omega arith) (omega arith) in
    let sltu : (if ltb a b then 1 else 0) < 2 ^ 32 = if_lt (ltb a b) 1 0 (omega arith) (omega arith) in
    choose_lt {n = 2 ^ 32} 0 (results a b i) c (omega arith)
    (omega arith, (omega arith, (omega arith, (omega arith, (and_lt 32 a b ha hb, (or_lt 32 a b ha hb, (xor_lt 32 a b ha hb, (nor, (slt, (sltu, tt))))))))))

pub mures_lt : (a b cd c : ℕ) → a < 2 ^ 32 → b < 2 ^ 32 → mures a b cd c < 2 ^ 64
unfolding mures
mures_lt a b cd c ha hb =
    choose_lt {n = 2 ^ 64} 0 (products a b cd) c (omega arith)
    (twoc_lt 64 (signed 32 a *ℤ signed 32 b), (below ha hb, (omega arith, (omega arith, (omega arith, (omega arith, tt))))))

pub sures_lt : (a i c : ℕ) → a < 2 ^ 32 → i < 32 → sures a i c < 2 ^ 32
unfolding sures
sures_lt a i c ha hi =
    choose_lt {n = 2 ^ 32} 0 (shifts a i) c (omega arith) (omega arith, (omega (arith, div-le_self a (2 ^ i)), (sra_lt a i ha hi, tt)))
