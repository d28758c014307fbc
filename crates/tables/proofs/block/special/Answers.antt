use Rattle.tables.proofs.Shown.{special_at}
use mathlib.Core.Path.{sym}
use Rattle.tables.proofs.block.special.Goals as goal

pub returns : goal.returns
returns c = sym (special_at _ _ c.requires.n_bound)
