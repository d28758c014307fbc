use mathlib.Core.Path.{sym, ◌∙◌}
use native.Mathlib.Omega.{arith}
use Rattle.records.proofs.Sweeping.{sweep_start, sweep_next_hit, sweep_next_miss, sweep_less_hit, sweep_less_miss, sweep_end}
use Rattle.records.proofs.drop_walks.Goals as goal

pub loop-n-init : goal.loop-n-init
loop-n-init c = sweep_start _ _ c.requires.b_len c.requires.b_value

pub release-requires : goal.release-requires
release-requires c =
    let S = c.loop-n.invariant in
    record { b_len = S.good.three.long; at_bound = S.in_block; at_bound_2 = omega (arith, S.now_at, S.below) }

pub loop-n-smaller-then-goes : goal.loop-n-smaller-then-goes
loop-n-smaller-then-goes c =
    rw c.release.ensures
    (sweep_less_hit c.loop-n.invariant c.loop-n-test.true
    (sym c.goes.ensures ∙ c.if-goes.true))

pub loop-n-preserved-then-goes : goal.loop-n-preserved-then-goes
loop-n-preserved-then-goes c =
    rw c.release.ensures
    (sweep_next_hit c.loop-n.invariant c.loop-n-test.true
    (sym c.goes.ensures ∙ c.if-goes.true))

pub loop-n-smaller : goal.loop-n-smaller
loop-n-smaller c =
    sweep_less_miss c.loop-n.invariant c.loop-n-test.true
    (sym c.goes.ensures ∙ c.if-goes.false)

pub loop-n-preserved : goal.loop-n-preserved
loop-n-preserved c =
    sweep_next_miss c.loop-n.invariant c.loop-n-test.true
    (sym c.goes.ensures ∙ c.if-goes.false)

pub shape_of-b : goal.shape_of-b
shape_of-b c = omega (arith, c.loop-n.invariant.good.three.long, c.requires.b_len)

pub returns : goal.returns
returns c = sweep_end c.loop-n.invariant c.loop-n-test.false
