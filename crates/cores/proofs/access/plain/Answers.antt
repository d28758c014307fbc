use mathlib.Core.Path.{refl}
use Rattle.cores.proofs.access.plain.Goals as goal

pub returns-then-suppress : goal.returns-then-suppress
returns-then-suppress c = rw (c.stopped.ensures, ← c.requires.causes_value, ← c.suppress.ensures, c.if-suppress.true) refl

pub returns : goal.returns
returns c = rw (c.finished.ensures, c.dropped-walks.ensures, ← c.requires.causes_value, ← c.suppress.ensures, c.if-suppress.false) refl
