-- `timer::write` meets its contract.
-- Assumes nothing.
use Rattle.timer.proofs.Cases.{period_written, line_lowered}
use Rattle.timer.proofs.write.Goals as goal

pub returns-then-a-eq0 : goal.returns-then-a-eq0
returns-then-a-eq0 c = period_written _ _ _ c.if-a-eq0.true

pub returns : goal.returns
returns c = line_lowered _ _ _ c.if-a-eq0.false c.set_line.ensures
