-- `ways::search::from_second` meets its contract.
-- Assumes nothing.
use mathlib.Core.Path.{sym, subst}
use mathlib.Core.List.{[], ◌∷◌}
use Rattle.ways.specs.inner.Search.{looked_for, Searched}
use Rattle.ways.proofs.Searches.{searched_by, searched_then, onward_one}
use Rattle.ways.proofs.search.from_second.Goals as goal

pub scan_once-requires : goal.scan_once-requires
scan_once-requires c = record { entries_bound = c.requires.entries_bound; known = (searched_by (looked_for c.args.query.now) c.args.query.now.machine.memory.now _ _ c.args.seen.now (c.args.way ∷ []) c.requires.known c.take-found.ensures).known }

pub returns : goal.returns
returns c = subst (Searched (looked_for c.args.query.now) c.args.query.now.machine.memory.now _ _ _ _) (sym (onward_one c.args.query.now.machine.memory.now c.args.way)) (searched_then (looked_for c.args.query.now) c.args.query.now.machine.memory.now (searched_by (looked_for c.args.query.now) c.args.query.now.machine.memory.now _ _ _ (c.args.way ∷ []) c.requires.known c.take-found.ensures) c.scan_once.ensures)
