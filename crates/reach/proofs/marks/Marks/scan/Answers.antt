-- `reach::marks::Marks::scan` meets its contract.
-- Assumes nothing.
use mathlib.Core.List.{List}
use Prim.Native.Nat.{ℕ, ◌+◌, ◌*◌}
use native.Mathlib.Omega.{arith}
use Rattle.reach.specs.inner.Marks.{number_of, four_names}
use Rattle.reach.proofs.Marking.{named_in, loop_start, scan_next, scan_end}
use Rattle.reach.proofs.marks.Marks.scan.Goals as goal

pub loop-i-init : goal.loop-i-init
loop-i-init c = loop_start _ _

pub loop-i-preserved : goal.loop-i-preserved
loop-i-preserved c =
    let a = c.args in
    let s = a.self.now in
    let k = number_of a.set in
    let l = c.loop-i in
    scan_next k s.memory.now s.pages a.page l.i s.whole s.few c.requires c.loop-i-test.true l.invariant
    (named_in (λ (m : List ℕ). four_names k m (4096 * a.page + 16 * l.i)) l.invariant.memory c.mark_four.ensures)

pub returns : goal.returns
returns c = scan_end (number_of c.args.set) _ c.args.page (4 * c.loop-i.i) (omega (arith, c.loop-i-test.false, c.loop-i.auto.i-end)) c.loop-i.invariant
