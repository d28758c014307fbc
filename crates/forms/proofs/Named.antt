-- A row's operands are of the fields that it names, and of no other.
-- Assumes nothing.
use mathlib.Core.Path.{◌≡◌}
use mathlib.Core.Bool.{Bool, false, ◌||◌}
use mathlib.Core.List.{List, [], ◌∷◌}
use Prim.Native.Nat.{ℕ}
use lib.Dec.{T, eqb}
use Rattle.word.proofs.Tests.{same, same_eq}
use Rattle.decode.specs.declared.Instruction.{Instruction}
use Rattle.decode.specs.Table.{table}
use Rattle.decode.proofs.Numbers.{everywhere, every}
use Rattle.forms.specs.declared.Operand.{Operand}
use Rattle.forms.specs.declared.Operand.TheVariants.{Rs, Rt, Rd, Sa, Imm, Uimm, Iindex}
use Rattle.forms.specs.Syntax.{syntax_of}
use Rattle.forms.specs.Named.{names_rs, names_rt, names_rd, names_sa, names_imm, names_iindex}

-- a number for each field
abbrev pub field_number : Operand → ℕ
field_number Rs = 0
field_number Rt = 1
field_number Rd = 2
field_number Sa = 3
field_number Imm = 4
field_number Uimm = 4
field_number Iindex = 5

-- a field is among operands
abbrev pub shows : ℕ → List Operand → Bool
shows n [] = false
shows n (o ∷ l) = eqb n (field_number o) || shows n l

pub record AllShown (i : Instruction) : Type 0 where
  pub shown_rs : names_rs i ≡ shows 0 (syntax_of i).operands
  pub shown_rt : names_rt i ≡ shows 1 (syntax_of i).operands
  pub shown_rd : names_rd i ≡ shows 2 (syntax_of i).operands
  pub shown_sa : names_sa i ≡ shows 3 (syntax_of i).operands
  pub shown_imm : names_imm i ≡ shows 4 (syntax_of i).operands
  pub shown_iindex : names_iindex i ≡ shows 5 (syntax_of i).operands

-- a test of all rows
abbrev shown_at : (Instruction → Bool) → ℕ → Instruction → Bool
shown_at p n i = same (p i) (shows n (syntax_of i).operands)

shown_at_lem : (p : Instruction → Bool) (n : ℕ) → T (everywhere (shown_at p n) table) → (i : Instruction) → p i ≡ shows n (syntax_of i).operands
shown_at_lem p n t i = same_eq (p i) (shows n (syntax_of i).operands) (every (shown_at p n) t i)

pub all_shown : (i : Instruction) → AllShown i
unfolding syntax_of names_rs names_rt names_rd names_sa names_imm names_iindex
all_shown i =
    record {
      shown_rs = shown_at_lem names_rs 0 tt i;
      shown_rt = shown_at_lem names_rt 1 tt i;
      shown_rd = shown_at_lem names_rd 2 tt i;
      shown_sa = shown_at_lem names_sa 3 tt i;
      shown_imm = shown_at_lem names_imm 4 tt i;
      shown_iindex = shown_at_lem names_iindex 5 tt i;
    }
