use mathlib.Core.Path.{refl}
use native.Mathlib.Omega.{arith}
use borrow.Author.Tests.{ne_eqb}
use Rattle.text.proofs.Texts.{grown}
use Rattle.reason_lines.specs.Reasons.{start_text}
use Rattle.reason_lines.proofs.put_start.Goals as goal

pub returns-in_default-clause-text : goal.returns-in_default-clause-text
unfolding start_text
returns-in_default-clause-text g c =
    let n = c.args.w.start in
    rw (ne_eqb n 0 (λ e. absurd (omega arith)), ne_eqb n 1 (λ e. absurd (omega arith)))
    (grown _ _ _ c.put-in_default.ensures c.put_number-in_default.ensures.text refl)
