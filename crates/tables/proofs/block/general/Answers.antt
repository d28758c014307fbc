use Rattle.tables.proofs.Shown.{general_at}
use mathlib.Core.Path.{sym}
use Rattle.tables.proofs.block.general.Goals as goal

pub returns : goal.returns
returns c = sym (general_at _ _ c.requires.n_bound)
