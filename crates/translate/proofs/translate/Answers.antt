-- `translate::translate` meets its contract, refusal by refusal.
-- Assumes nothing.
use mathlib.Core.Path.{sym}
use native.Mathlib.Omega.{arith}
use Rattle.std.proofs.lemmas.Result.{err_from_is_err_and}
use Rattle.translate.proofs.Answers.{numbered, unsound, no_core, too_many, other_words, done}
use Rattle.translate.proofs.translate.Goals as goal

pub returns-in_err-machine : goal.returns-in_err-machine
returns-in_err-machine c =
    let r = err_from_is_err_and c.from_residual.result c.from_residual.ensures.1 in
    let e = c.in_err-machine.ensures in
    let p = unsound _ _ _ _ _ e.1 in
    numbered _ _ _ _ _ (rw (r.1, r.2, e.0) p.0, p.1)

pub returns-then-cores-core : goal.returns-then-cores-core
returns-then-cores-core c =
    let M = c.in_ok-machine.machine in
    let e = c.in_ok-machine.ensures in
    rw (sym e.0, sym e.1) (numbered _ _ _ _ _ (no_core _ _ _ _ _ M.is_sound (omega (arith, c.cores.ensures.0, c.if-cores-core.true))))

pub returns-then-addresses-gt64 : goal.returns-then-addresses-gt64
returns-then-addresses-gt64 c =
    let M = c.in_ok-machine.machine in
    let e = c.in_ok-machine.ensures in
    rw (sym e.0, sym e.1) (numbered _ _ _ _ _ (too_many _ _ _ _ _ M.is_sound (omega (arith, c.cores.ensures.0, c.if-cores-core.false)) (omega (arith, c.if-addresses-gt64.true))))

pub returns-then-answers-addresses : goal.returns-then-answers-addresses
returns-then-answers-addresses c =
    let M = c.in_ok-machine.machine in
    let e = c.in_ok-machine.ensures in
    rw (sym e.0, sym e.1) (numbered _ _ _ _ _ (other_words _ _ _ _ _ M.is_sound (omega (arith, c.cores.ensures.0, c.if-cores-core.false)) c.if-addresses-gt64.false c.if-answers-addresses.true))

pub returns : goal.returns
returns c =
    let M = c.in_ok-machine.machine in
    let e = c.in_ok-machine.ensures in
    rw (sym e.0, sym e.1)
    (numbered _ _ _ _ _ (done _ _ _ _ _ M.is_sound (omega (arith, c.cores.ensures.0, c.if-cores-core.false)) c.if-addresses-gt64.false c.if-answers-addresses.false c.block.ensures.value.0 c.fill.ensures.value c.fill.ensures.answers_after))
