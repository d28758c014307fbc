-- The text of every row: that of its form, and how long it is, which is a test that is computed on all rows.
-- Assumes nothing.
use mathlib.Core.Path.{◌≡◌, refl}
use mathlib.Core.Bool.{Bool}
use mathlib.Core.Logic.{⊎_elim}
use mathlib.Core.List.{List, [], ◌∷◌}
use Prim.Native.Nat.{ℕ, suc, ◌+◌, ◌-◌, ◌≤◌, ◌<◌, ◌^◌}
use native.Mathlib.Omega.{arith}
use lib.Dec.{T, leb}
use lib.ListN.{length, length-append}
use borrow.Author.Tests.{leb-true, lt-ltb, le-ltb}
use Rattle.word.specs.Word.{signed}
use Rattle.word.proofs.Tests.{truth}
use Rattle.word.proofs.Laws.{sub_neg, side}
use Rattle.text.specs.Text.{ascii, decimal}
use Rattle.text.proofs.Decimals.{decimal_short}
use Rattle.decode.specs.declared.Instruction.{Instruction}
use Rattle.decode.specs.Fields.{rs, rt, rd, sa, imm, iindex}
use Rattle.decode.specs.Table.{decoded}
use Rattle.decode.proofs.Numbers.{every}
use Rattle.forms.specs.declared.Operand.{Operand}
use Rattle.forms.specs.declared.Operand.TheVariants.{Rs, Rt, Rd, Sa, Imm, Uimm, Iindex}
use Rattle.forms.specs.Syntax.{Syntax, syntax_of}
use Rattle.forms.specs.inner.Forms.{form_of}
use Rattle.forms.proofs.Rows.{form_row}
use Rattle.disassemble.specs.Disassembly.{integer_text, operand_text, operands_text, text_for, disassembly}
use Rattle.disassemble.specs.inner.Texts.{form_text}

-- the text of the form that the code has is the row's
pub form_text_lem : (i : Instruction) (w : ℕ) → form_text (form_of (syntax_of i)) w ≡ text_for (syntax_of i) w
unfolding form_text text_for
form_text_lem i w = rw ((form_row i).0, (form_row i).1) refl

-- ---- no text is longer than 20 bytes

-- the most bytes that an operand takes, with its blank
abbrev most : Operand → ℕ
most Rs = 4
most Rt = 4
most Rd = 4
most Sa = 3
most Imm = 7
most Uimm = 6
most Iindex = 9

abbrev most_of : List Operand → ℕ
most_of [] = 0
most_of (o ∷ l) = most o + most_of l

pub signed_low : (x : ℕ) → x < 2 ^ 15 → integer_text (signed 16 x) ≡ decimal x
unfolding signed
signed_low x h = rw (lt-ltb x (2 ^ 15) h) refl

pub signed_high : (x : ℕ) → 2 ^ 15 ≤ x → x < 2 ^ 16 → integer_text (signed 16 x) ≡ 45 ∷ decimal (2 ^ 16 - x)
unfolding signed
signed_high x h l =
    let e : suc (2 ^ 16 - suc x) ≡ 2 ^ 16 - x = omega arith in
    rw (le-ltb x (2 ^ 15) h, sub_neg x (2 ^ 16) (2 ^ 16 - suc x) (omega arith), e) refl

-- an operand of a word takes no more
operand_most : (o : Operand) (w : ℕ) → length (operand_text o w) ≤ most o
unfolding operand_text
operand_most Rs w = omega (arith, decimal_short 20 2 (rs w) (omega arith) (omega arith))
operand_most Rt w = omega (arith, decimal_short 20 2 (rt w) (omega arith) (omega arith))
operand_most Rd w = omega (arith, decimal_short 20 2 (rd w) (omega arith) (omega arith))
operand_most Sa w = omega (arith, decimal_short 20 2 (sa w) (omega arith) (omega arith))
operand_most Imm w =
    ⊎_elim (λ (h : imm w < 2 ^ 15). rw (signed_low (imm w) h) (omega (arith, decimal_short 20 5 (imm w) (omega arith) (omega arith))))
    (λ (h : 2 ^ 15 ≤ imm w). rw (signed_high (imm w) h (omega arith)) (omega (arith, decimal_short 20 5 (2 ^ 16 - imm w) (omega arith) (omega arith))))
    (side (imm w) (2 ^ 15))
operand_most Uimm w = omega (arith, decimal_short 20 5 (imm w) (omega arith) (omega arith))
operand_most Iindex w = omega (arith, decimal_short 20 8 (iindex w) (omega arith) (omega arith))

operands_most : (l : List Operand) (w : ℕ) → length (operands_text l w) ≤ most_of l
operands_most [] w = omega arith
operands_most (o ∷ l) w = omega (arith, length-append (operand_text o w) (operands_text l w), operand_most o w, operands_most l w)

abbrev roomy : Instruction → Bool
roomy i = leb (length (ascii (syntax_of i).mnemonic) + most_of (syntax_of i).operands) 20

all_roomy : (i : Instruction) → T (roomy i)
unfolding syntax_of
all_roomy = every roomy tt

pub text_short : (w : ℕ) → length (disassembly w) ≤ 20
unfolding disassembly text_for
text_short w =
    let s : Syntax = syntax_of (decoded w) in
    let h : length (ascii s.mnemonic) + most_of s.operands ≤ 20 = leb-true (length (ascii s.mnemonic) + most_of s.operands) 20 (truth (roomy (decoded w)) (all_roomy (decoded w))) in
    omega (arith, length-append (ascii s.mnemonic) (operands_text s.operands w), operands_most s.operands w)

-- no text is longer than the buffer
pub text_fits : (w : ℕ) → length (disassembly w) ≤ 32
text_fits w = omega (arith, text_short w)
