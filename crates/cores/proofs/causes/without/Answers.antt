use mathlib.Core.Path.{refl}
use Rattle.cores.proofs.causes.without.Goals as goal

pub returns : goal.returns
returns c = rw (c.masked.ensures, c.without-e.ensures, ← c.status-status.ensures, c.is_heard.ensures) refl
