-- `reach::is_group` meets its contract.
-- Assumes nothing.
use Rattle.reach.proofs.Answers.{group_test}
use Rattle.reach.proofs.is_group.Goals as goal

pub returns : goal.returns
returns c = group_test c.args.group c.args.cores _ c.requires c.shift_left.ensures
