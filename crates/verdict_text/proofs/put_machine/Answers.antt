use native.Mathlib.Omega.{arith}
use mathlib.Core.Path.{ap, ◌∙◌}
use Prim.Native.Nat.{ℕ, ◌*◌}
use lib.ListN.{drop}
use Rattle.word.specs.Bytes.{words_in}
use Rattle.text.proofs.Texts.{told}
use Rattle.judgement.specs.Report.{report_text}
use Rattle.verdict_text.proofs.Said.{said_cut, said_long, said_report, tables_room}
use Rattle.verdict_text.proofs.put_machine.Goals as goal

pub returns-then-input-bytes-clause-text : goal.returns-then-input-bytes-clause-text
returns-then-input-bytes-clause-text g c = told _ _ c.put_cut.ensures.text (said_cut _ _ _ _ c.if-input-bytes.true)

pub returns-then-bytes-input-clause-text : goal.returns-then-bytes-input-clause-text
returns-then-bytes-input-clause-text g c = told _ _ c.put_long.ensures.text (said_long _ _ _ _ c.if-bytes-input.true)

pub returns-clause-text : goal.returns-clause-text
returns-clause-text g c =
    told _ _ c.put_report.ensures.text
    (ap (λ (n : ℕ). report_text c.args.group (words_in n c.args.input.now) (drop (4 * n) c.args.input.now)) (tables_room _ _ (omega arith))
    ∙ said_report _ _ _ _ c.if-input-bytes.false c.if-bytes-input.false)
