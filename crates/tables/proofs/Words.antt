-- The registers of a block of words are words, and words put in as registers leave words.
-- Assumes nothing.
use mathlib.Core.List.{List, ◌∷◌, ◌++◌}
use Prim.Native.Nat.{ℕ}
use lib.ListN.{drop}
use Rattle.isa.specs.declared.registers.Registers.{Registers}
use Rattle.isa.proofs.Words.{Words, cons_below, append_below, take_below, drop_below, RegisterWords}
use Rattle.tables.specs.Views.{registers_of, with_registers}

pub block_registers : (b : List ℕ) → Words b → RegisterWords (registers_of b)
unfolding registers_of
block_registers b w =
    record { general = take_below 32 b w; special = take_below 32 (drop 32 b) (drop_below 32 b w); counter = w 64; high = w 65; low = w 66 }

pub with_words : (b : List ℕ) (r : Registers) → Words b → RegisterWords r → Words (with_registers b r)
unfolding with_registers
with_words b r w R =
    append_below r.gpr (r.spr ++ (r.pc ∷ r.hi ∷ r.lo ∷ drop 67 b)) R.general
    (append_below r.spr (r.pc ∷ r.hi ∷ r.lo ∷ drop 67 b) R.special
    (cons_below r.pc (r.hi ∷ r.lo ∷ drop 67 b) R.counter (cons_below r.hi (r.lo ∷ drop 67 b) R.high (cons_below r.lo (drop 67 b) R.low (drop_below 67 b w)))))
