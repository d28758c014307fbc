-- `reach::marks::Marks::mark_at` meets its contract.
-- Assumes nothing.
use Rattle.reach.specs.inner.Marks.{number_of}
use Rattle.reach.proofs.Marking.{entry_read}
use Rattle.reach.proofs.marks.Marks.mark_at.Goals as goal

pub returns : goal.returns
returns c = let a = c.args in entry_read (number_of a.set) a.self.now.memory.now a.at _ c.read_word.ensures c.mark_entry.ensures
