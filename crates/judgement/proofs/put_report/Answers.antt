-- `judgement::put_report` meets its contract.
-- Assumes nothing.
use mathlib.Core.Path.{ap, sym, ◌∙◌}
use mathlib.Core.List.{List, ◌++◌}
use Prim.Native.Nat.{ℕ}
use Rattle.refusals.specs.declared.Refusal.TheVariants.{Group}
use Rattle.reach.specs.Reach.{is_group}
use Rattle.separation.proofs.Deciding.{says_unsound, says_group}
use Rattle.judgement.proofs.Answers.{said_refused}
use Rattle.judgement.proofs.put_report.Goals as goal

pub returns-in-Err-clause-text : goal.returns-in-Err-clause-text
returns-in-Err-clause-text g c =
    let a = c.args in
    let e = c.in-Err.ensures in
    c.put_refused.ensures.text ∙ ap (λ (l : List ℕ). a.text.now ++ l) (said_refused a.group a.t.now a.m.now c.in-Err.refusal (rw e.0 (sym (says_unsound a.t.now a.m.now a.group e.1))))

pub returns-then-not-is_group-clause-text : goal.returns-then-not-is_group-clause-text
returns-then-not-is_group-clause-text g c =
    let a = c.args in
    let M = c.in-Ok.machine in
    let e = c.in-Ok.ensures in
    let i = c.is_group.ensures ∙ ap (λ (n : ℕ). is_group a.group n) c.cores.ensures.0 in
    c.put_refused-then-not-is_group.ensures.text ∙ ap (λ (l : List ℕ). a.text.now ++ l)
    (rw (sym e.0, sym e.1) (said_refused a.group M.tables.now M.memory.now Group (sym (says_group M.tables.now M.memory.now a.group M.is_sound (sym i ∙ c.if-not-is_group.true)))))
