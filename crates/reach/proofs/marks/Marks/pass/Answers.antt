-- `reach::marks::Marks::pass` meets its contract.
-- Assumes nothing.
use mathlib.Core.Path.{sym}
use native.Mathlib.Omega.{arith}
use Rattle.reach.specs.inner.Marks.{order}
use Rattle.reach.proofs.Passes.{order_small, pass_next, pass_end}
use Rattle.reach.proofs.Marking.{loop_start}
use Rattle.reach.proofs.marks.Marks.pass.Goals as goal

pub loop-page-init : goal.loop-page-init
loop-page-init c = loop_start _ _

pub loop-page-preserved : goal.loop-page-preserved
loop-page-preserved c =
    let s = c.args.self.now in
    pass_next (order c.args.level) c.loop-page.page s.few (order_small c.args.level) c.loop-page-test.true s.long c.loop-page.invariant c.scan_marked.ensures

pub returns : goal.returns
returns c = pass_end (order c.args.level) c.args.self.now.pages _ _ c.loop-page.page (omega (arith, c.loop-page-test.false, c.loop-page.auto.page-end)) c.loop-page.invariant
