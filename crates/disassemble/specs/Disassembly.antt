-- The text of an instruction word (02): mnemonic and operands as the column 'assembler syntax' of tables 1 to 4 has
-- them (forms, specs/Syntax).
-- Assumes nothing.
use Rattle.std.specs.Prelude.{if◌then◌else◌, not, List, [], ◌∷◌, ◌++◌, ℕ, suc, ◌+◌, ◌-◌, eqb, ℤ, pos, negsuc, length, replicate, Result, Ok, Err}
use Rattle.word.specs.Word.{signed}
use Rattle.text.specs.Text.{ascii, decimal}
use Rattle.decode.specs.Fields.{rs, rt, rd, sa, imm, iindex}
use Rattle.decode.specs.Table.{decoded}
use Rattle.forms.specs.declared.Operand.{Operand}
use Rattle.forms.specs.declared.Operand.TheVariants.{Rs, Rt, Rd, Sa, Imm, Uimm, Iindex}
use Rattle.forms.specs.Syntax.{Syntax, syntax_of}
use Rattle.refusals.specs.declared.Refusal.{Refusal}
use Rattle.refusals.specs.Numbers.{number}

-- ---- the text

abbrev pub register_text : ℕ → List ℕ
register_text n = ascii "r" ++ decimal n

abbrev pub integer_text : ℤ → List ℕ
integer_text (pos n) = decimal n
integer_text (negsuc n) = ascii "-" ++ decimal (suc n)

-- the field of a word that an operand names
abbrev pub field_of : Operand → ℕ → ℕ
field_of Rs w = rs w
field_of Rt w = rt w
field_of Rd w = rd w
field_of Sa w = sa w
field_of Imm w = imm w
field_of Uimm w = imm w
field_of Iindex w = iindex w

-- how a field is shown
abbrev pub shown_as : Operand → ℕ → List ℕ
shown_as Rs x = register_text x
shown_as Rt x = register_text x
shown_as Rd x = register_text x
shown_as Sa x = decimal x
shown_as Imm x = integer_text (signed 16 x)
shown_as Uimm x = decimal x
shown_as Iindex x = decimal x

-- one blank before each operand
unfoldable pub operand_text : Operand → ℕ → List ℕ
operand_text o w = ascii " " ++ shown_as o (field_of o w)

abbrev pub operands_text : List Operand → ℕ → List ℕ
operands_text [] w = []
operands_text (o ∷ l) w = operand_text o w ++ operands_text l w

unfoldable pub text_for : Syntax → ℕ → List ℕ
text_for s w = ascii s.mnemonic ++ operands_text s.operands w

unfoldable pub disassembly : ℕ → List ℕ
disassembly w = text_for (syntax_of (decoded w)) w

-- ---- the operation: the text in a buffer of 32 bytes, zero beyond it, and its length; or TextLength (17), and nothing
-- is written

pub record TextAnswer : Type 0 where
  pub answer : Result ℕ Refusal
  pub bytes : List ℕ

unfoldable pub disassemble_on : ℕ → List ℕ → TextAnswer
disassemble_on w b =
    if not (eqb (length b) 32) then record { answer = Err Refusal.TextLength; bytes = b }
    else record { answer = Ok (length (disassembly w)); bytes = disassembly w ++ replicate (32 - length (disassembly w)) 0 }

-- the number for each answer: the length, or 100 and the number of a refusal
abbrev pub disassembled_number : Result ℕ Refusal → ℕ
disassembled_number (Ok n) = n
disassembled_number (Err r) = 100 + number r
