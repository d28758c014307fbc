use mathlib.Core.Path.{sym, ◌∙◌}
use native.Mathlib.Omega.{arith}
use Rattle.records.proofs.Checking.{tally_start, tally_next, tally_end, tally_many, tally_big, tally_bad}
use Rattle.records.proofs.check.tally.Goals as goal

pub loop-n-init : goal.loop-n-init
loop-n-init c = tally_start _ _ _ _ _ c.requires.most_bound c.requires.seen_len c.requires.by_index

pub returns-then-k-eq0 : goal.returns-then-k-eq0
returns-then-k-eq0 c = tally_many _ _ _ _ _ _ _ _ c.loop-n.invariant c.loop-n-test.true c.if-k-eq0.true

pub returns-then-n-ge32 : goal.returns-then-n-ge32
returns-then-n-ge32 c = tally_big _ _ _ _ _ _ _ _ c.loop-n.invariant c.loop-n-test.true c.if-n-ge32.true

pub obeys-requires : goal.obeys-requires
obeys-requires c = record { b_len = c.requires.b_len; n_bound = omega arith }

pub returns-then-not-obeys : goal.returns-then-not-obeys
returns-then-not-obeys c = tally_bad _ _ _ _ _ _ _ _ c.loop-n.invariant c.loop-n-test.true c.if-n-ge32.false (sym c.obeys.ensures ∙ c.if-not-obeys.true)

pub overflow_add-seen : goal.overflow_add-seen
overflow_add-seen c = omega (arith, c.loop-n.invariant.bound c.loop-n.n)

pub loop-n-preserved : goal.loop-n-preserved
loop-n-preserved c =
    tally_next _ _ _ _ _ _ _ _ c.loop-n.invariant c.loop-n-test.true c.if-k-eq0.false c.if-n-ge32.false
    (sym c.obeys.ensures ∙ c.if-not-obeys.false)

pub returns : goal.returns
returns c = tally_end _ _ _ _ _ _ _ _ c.loop-n.invariant c.loop-n-test.false
