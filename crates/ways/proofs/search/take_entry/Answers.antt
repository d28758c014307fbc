-- `ways::search::take_entry` meets its contract.
-- Assumes nothing.
use mathlib.Core.Path.{◌∙◌, ap}
use Rattle.ways.specs.declared.Named.{Named}
use Rattle.ways.specs.declared.Way.{Way}
use Rattle.std.specs.Prelude.{Some}
use Rattle.ways.specs.Ways.{further, lower}
use Rattle.ways.proofs.search.take_entry.Goals as goal

pub returns : goal.returns
returns c = let a = c.args in c.lower.ensures ∙ ap (λ (v : Way). lower a.best (Some v)) (c.further.ensures ∙ ap (λ (x : Named). further a.way a.i x) c.named.ensures)
