use mathlib.Core.Path.{refl}
use mathlib.Core.List.{List, ◌++◌}
use Prim.Native.Nat.{ℕ}
use native.Mathlib.Omega.{arith}
use borrow.Author.Tests.{ne_eqb}
use Rattle.io.specs.Digits.{last_digits}
use Rattle.text.specs.Text.{ascii}
use Rattle.text.proofs.Texts.{grown}
use Rattle.reason_lines.specs.Reasons.{entries_text}
use Rattle.reason_lines.proofs.put_entries.Goals as goal

pub returns-in_default-clause-text : goal.returns-in_default-clause-text
unfolding entries_text
returns-in_default-clause-text g c =
    let w = c.args.w in
    let old = c.args.text.now in
    let first : List ℕ = ascii ", entries at " ++ last_digits 16 8 w.first in
    rw (ne_eqb w.entries 0 (λ e. absurd (omega arith)), ne_eqb w.entries 1 (λ e. absurd (omega arith)))
    (grown old (first ++ ascii " and ") (last_digits 16 8 w.second)
    (grown old first (ascii " and ") (grown old (ascii ", entries at ") (last_digits 16 8 w.first) c.put-in_default.ensures c.put_hex-in_default.ensures.text refl) c.put-in_default-2.ensures refl)
    c.put_hex-in_default-2.ensures.text refl)
