-- `separation::judged` meets its contract.
-- Assumes nothing.
use mathlib.Core.Path.{sym, ap, ◌∙◌}
use Prim.Native.Nat.{ℕ}
use native.Mathlib.Omega.{arith}
use Rattle.std.proofs.lemmas.Result.{err_from_is_err_and}
use Rattle.tables.proofs.Lift.{header}
use Rattle.reach.specs.Reach.{is_group}
use Rattle.separation.proofs.Deciding.{says_unsound, says_group, says_mode, says_pages}
use Rattle.separation.proofs.judged.Goals as goal

pub returns-in_err-machine : goal.returns-in_err-machine
returns-in_err-machine c =
    let r = err_from_is_err_and c.from_residual.result c.from_residual.ensures.1 in
    let e = c.in_err-machine.ensures in
    rw (r.1, r.2, e.0) (says_unsound c.args.t.now c.args.m.now c.args.group e.1)

pub returns-then-not-is_group : goal.returns-then-not-is_group
returns-then-not-is_group c =
    let M = c.in_ok-machine.machine in
    let e = c.in_ok-machine.ensures in
    let g = c.is_group.ensures ∙ ap (λ (n : ℕ). is_group c.args.group n) c.cores.ensures.0 in
    rw (sym e.0, sym e.1) (says_group M.tables.now M.memory.now c.args.group M.is_sound (sym g ∙ c.if-not-is_group.true))

pub all_in_user_mode-requires : goal.all_in_user_mode-requires
all_in_user_mode-requires c =
    let h = header _ _ c.in_ok-machine.machine.is_sound in
    (h.few_cores, omega (arith, h.long))

pub returns-then-not-all_in_user_mode : goal.returns-then-not-all_in_user_mode
returns-then-not-all_in_user_mode c =
    let M = c.in_ok-machine.machine in
    let e = c.in_ok-machine.ensures in
    let g = c.is_group.ensures ∙ ap (λ (n : ℕ). is_group c.args.group n) c.cores.ensures.0 in
    rw (sym e.0, sym e.1) (says_mode M.tables.now M.memory.now c.args.group M.is_sound (sym g ∙ c.if-not-is_group.false) (sym c.all_in_user_mode.ensures ∙ c.if-not-all_in_user_mode.true))

pub returns : goal.returns
returns c =
    let M = c.in_ok-machine.machine in
    let e = c.in_ok-machine.ensures in
    let g = c.is_group.ensures ∙ ap (λ (n : ℕ). is_group c.args.group n) c.cores.ensures.0 in
    rw (sym e.0, sym e.1) (says_pages M.tables.now M.memory.now c.args.group M.is_sound (sym g ∙ c.if-not-is_group.false) (sym c.all_in_user_mode.ensures ∙ c.if-not-all_in_user_mode.false) _ c.pages_apart.ensures)
