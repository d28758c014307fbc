use Rattle.picture.proofs.Marks.{spoiled}
use Rattle.picture.proofs.pages.spoils.Goals as goal

pub returns : goal.returns
returns c = spoiled c.args.own c.args.other c.is_written.ensures c.is_table.ensures c.is_written-2.ensures c.is_table-2.ensures c.is_reached.ensures c.is_written-3.ensures c.is_table-3.ensures
