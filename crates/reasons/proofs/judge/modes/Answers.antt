use mathlib.Core.Path.{ap}
use mathlib.Core.Bool.{not}
use native.Mathlib.Omega.{arith}
use Rattle.reasons.proofs.Reasons.{modes_start, modes_next, modes_found, modes_end}
use Rattle.reasons.proofs.judge.modes.Goals as goal

pub loop-k-init : goal.loop-k-init
loop-k-init c = modes_start _ _

pub returns-then-not-passes : goal.returns-then-not-passes
returns-then-not-passes c =
    let a = c.args in
    let l = c.loop-k in
    modes_found a.group a.machine.now.tables.now l.k _ c.passes.ensures (ap not c.if-not-passes.true) l.invariant (omega (arith, c.cores-k-end.ensures, c.loop-k-test.true))

pub loop-k-preserved : goal.loop-k-preserved
loop-k-preserved c =
    let a = c.args in
    let l = c.loop-k in
    modes_next a.group a.machine.now.tables.now l.k _ c.passes.ensures (ap not c.if-not-passes.false) l.invariant

pub returns : goal.returns
returns c = let a = c.args in let l = c.loop-k in modes_end a.group a.machine.now.tables.now l.k (omega (arith, c.cores-k-end.ensures)) l.invariant
