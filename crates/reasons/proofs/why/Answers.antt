-- `reasons::why` meets its contract.
-- Assumes nothing.
use mathlib.Core.Path.{◌≡◌, sym, ap, ◌∙◌}
use mathlib.Core.List.{List}
use Prim.Native.Nat.{ℕ}
use Rattle.reasons.specs.Why.{why_after}
use Rattle.std.specs.Prelude.{Ok}
use Rattle.std.proofs.lemmas.Result.{err_from_is_err_and}
use Rattle.reach.specs.Reach.{is_group}
use Rattle.reasons.proofs.Law.{promised}
use Rattle.reasons.proofs.Telling.{says_unsound, says_group, judged}
use Rattle.reasons.proofs.why.Goals as goal

pub returns-in_err-machine : goal.returns-in_err-machine
returns-in_err-machine c =
    let a = c.args in
    let r = err_from_is_err_and c.from_residual.result c.from_residual.ensures.1 in
    let e = c.in_err-machine.ensures in
    rw (r.1, r.2, e.0) (promised a.after a.group a.t.now a.m.now _ (says_unsound a.after a.group a.t.now a.m.now e.1))

pub returns-then-not-is_group : goal.returns-then-not-is_group
returns-then-not-is_group c =
    let a = c.args in
    let M = c.in_ok-machine.machine in
    let e = c.in_ok-machine.ensures in
    let g = c.is_group.ensures ∙ ap (λ (n : ℕ). is_group a.group n) c.cores.ensures.0 in
    rw (sym e.0, sym e.1) (promised a.after a.group M.tables.now M.memory.now _ (says_group a.after a.group M.tables.now M.memory.now M.is_sound (sym g ∙ c.if-not-is_group.true)))

pub returns : goal.returns
returns c =
    let a = c.args in
    let M = c.in_ok-machine.machine in
    let e = c.in_ok-machine.ensures in
    let g = c.is_group.ensures ∙ ap (λ (n : ℕ). is_group a.group n) c.cores.ensures.0 in
    let q : Ok c.judge.result ≡ why_after a.after a.group a.t.now a.m.now =
    ap Ok c.judge.ensures ∙ sym (judged a.after a.group M.tables.now M.memory.now M.is_sound (sym g ∙ c.if-not-is_group.false))
    ∙ ap (λ (t : List ℕ). why_after a.after a.group t M.memory.now) e.0 ∙ ap (λ (m : List ℕ). why_after a.after a.group a.t.now m) e.1 in
    promised a.after a.group a.t.now a.m.now _ q
