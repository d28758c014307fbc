-- `judgement::put_judged` meets its contract. Two arrays of 4,096 bytes have room for a map each.
-- Assumes nothing.
use mathlib.Core.Path.{ap, ◌∙◌}
use mathlib.Core.List.{List, ◌++◌}
use Prim.Native.Nat.{ℕ}
use Rattle.judgement.specs.Report.{report_text}
use Rattle.judgement.proofs.put_judged.Goals as goal

pub returns-clause-text : goal.returns-clause-text
returns-clause-text g c =
    let a = c.args in
    let S = c.new-sides.result in
    let e = c.new-sides.ensures in
    let words =
    ap (λ (k : ℕ). report_text k S.machine.tables.now S.machine.memory.now) e.2
    ∙ ap (λ (t : List ℕ). report_text a.group t S.machine.memory.now) e.0
    ∙ ap (λ (m : List ℕ). report_text a.group a.machine.now.tables.now m) e.1 in
    c.put_all.ensures.text ∙ ap (λ (l : List ℕ). a.text.now ++ l) words
