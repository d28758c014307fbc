-- `timer::tick` meets its contract.
-- Assumes nothing.
use Rattle.timer.proofs.Cases.{tick_still, tick_raised, tick_fallen}
use Rattle.timer.proofs.tick.Goals as goal

pub returns-then-period-eq0 : goal.returns-then-period-eq0
returns-then-period-eq0 c = tick_still _ c.if-period-eq0.true

pub returns-then-left-le1 : goal.returns-then-left-le1
returns-then-left-le1 c = tick_raised _ c.if-period-eq0.false c.if-left-le1.true c.set_line.ensures

pub returns : goal.returns
returns c = tick_fallen _ c.if-period-eq0.false c.if-left-le1.false
