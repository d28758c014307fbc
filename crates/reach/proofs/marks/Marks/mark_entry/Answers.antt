-- `reach::marks::Marks::mark_entry` meets its contract.
-- Assumes nothing.
use Rattle.reach.specs.inner.Marks.{number_of}
use Rattle.reach.proofs.Marking.{entry_there, entry_absent}
use Rattle.reach.proofs.marks.Marks.mark_entry.Goals as goal

pub returns-then-present : goal.returns-then-present
returns-then-present c = entry_there (number_of c.args.set) c.args.e _ c.present.ensures c.if-present.true c.mark.ensures

pub returns-else-present : goal.returns-else-present
returns-else-present c = entry_absent (number_of c.args.set) c.args.e _ _ c.present.ensures c.if-present.false
