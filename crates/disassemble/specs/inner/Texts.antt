-- The text of a row as the code has it. `form_text_lem` of proofs/Rows says that it is the row's.
-- Assumes nothing.
use Rattle.std.specs.Prelude.{List, ◌++◌, ℕ}
use Rattle.forms.specs.declared.Form.{Form}
use Rattle.forms.specs.inner.Forms.{letters, as_list}
use Rattle.disassemble.specs.Disassembly.{operands_text}

unfoldable pub form_text : Form → ℕ → List ℕ
form_text l w = letters l.0 ++ operands_text (as_list l.1) w
