use Rattle.tables.proofs.Shown.{pc_at}
use mathlib.Core.Path.{sym}
use Rattle.tables.proofs.block.pc.Goals as goal

pub returns : goal.returns
returns c = sym (pc_at _)
