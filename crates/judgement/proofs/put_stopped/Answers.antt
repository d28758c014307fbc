-- `judgement::put_stopped` meets its contract.
-- Assumes nothing.
use mathlib.Core.Path.{refl, ap, ◌∙◌}
use mathlib.Core.List.{List, ◌++◌}
use Prim.Native.Nat.{ℕ}
use Rattle.text.specs.Text.{ascii}
use Rattle.reach.specs.Reach.{members}
use Rattle.picture.specs.Lines.{cores_text}
use Rattle.text.proofs.Texts.{grown, as_it_was}
use Rattle.judgement.proofs.NotJudged.{no_line, a_line}
use Rattle.judgement.proofs.put_stopped.Goals as goal

pub returns-then-count_cores-eq0-clause-text : goal.returns-then-count_cores-eq0-clause-text
returns-then-count_cores-eq0-clause-text g c =
    let still = ap (λ (n : ℕ). members c.stopped-still.result n) c.cores-cores.ensures.0 ∙ c.stopped-still.ensures in
    as_it_was _ (no_line still c.count_cores.ensures c.if-count_cores-eq0.true)

pub returns-clause-text : goal.returns-clause-text
returns-clause-text g c =
    let old = c.args.text.now in
    let head : List ℕ = ascii "not running, so not judged: " in
    let cores : List ℕ = cores_text (members c.stopped-still.result c.cores-cores.result) in
    let still = ap (λ (n : ℕ). members c.stopped-still.result n) c.cores-cores.ensures.0 ∙ c.stopped-still.ensures in
    grown old (head ++ cores) (ascii "\n") (grown old head cores c.put.ensures c.put_cores.ensures.text refl) c.put-2.ensures
    (a_line still c.count_cores.ensures c.if-count_cores-eq0.false)
