-- A row of the column as the code has it: the mnemonic filled up with zeros to six bytes, and up to three operands.
-- `form_row` of proofs/Rows says that they are the row's.
-- Assumes nothing.
use Rattle.std.specs.Prelude.{List, [], ◌∷◌, ◌++◌, ℕ, zero, suc, take, replicate}
use Rattle.text.specs.Text.{ascii}
use Rattle.forms.specs.declared.Operand.{Operand}
use Rattle.forms.specs.declared.OperandList.{OperandList}
use Rattle.forms.specs.declared.OperandList.TheVariants.{None, One, Two, Three}
use Rattle.forms.specs.declared.Form.{Form}
use Rattle.forms.specs.Syntax.{Syntax}

-- the first three of a list
abbrev pub first_three : List Operand → OperandList
first_three [] = None
first_three (a ∷ []) = One a
first_three (a ∷ b ∷ []) = Two a b
first_three (a ∷ b ∷ c ∷ l) = Three a b c

abbrev pub as_list : OperandList → List Operand
as_list None = []
as_list (One a) = a ∷ []
as_list (Two a b) = a ∷ b ∷ []
as_list (Three a b c) = a ∷ b ∷ c ∷ []

unfoldable pub form_of : Syntax → Form
form_of s = record { 0 = take 6 (ascii s.mnemonic ++ replicate 6 0); 1 = first_three s.operands }

-- the bytes before the first zero
unfoldable pub letters : List ℕ → List ℕ
letters [] = []
letters (zero ∷ l) = []
letters (suc c ∷ l) = suc c ∷ letters l
