-- `ways::search::from_first` meets its contract.
-- Assumes nothing.
use mathlib.Core.Path.{sym, subst}
use mathlib.Core.List.{[], ◌∷◌}
use Rattle.ways.specs.inner.Search.{looked_for, Searched}
use Rattle.ways.proofs.Searches.{searched_by, searched_then, next_none, onward_two, onward_none}
use Rattle.ways.proofs.search.from_first.Goals as goal

pub from_entries-requires : goal.from_entries-requires
from_entries-requires c = record { page_bound = (c.if-way-query.true, c.requires.entries_value.0, c.requires.entries_value.1); known = (searched_by (looked_for c.args.query.now) c.args.query.now.machine.memory.now _ _ c.args.seen.now (c.args.way ∷ []) c.requires.known c.take-found.ensures).known }

pub returns-then-way-query : goal.returns-then-way-query
returns-then-way-query c = subst (Searched (looked_for c.args.query.now) c.args.query.now.machine.memory.now _ _ _ _) (sym (onward_two c.args.query.now.machine.memory.now c.args.way)) (searched_then (looked_for c.args.query.now) c.args.query.now.machine.memory.now (searched_by (looked_for c.args.query.now) c.args.query.now.machine.memory.now _ _ _ (c.args.way ∷ []) c.requires.known c.take-found.ensures) c.from_entries.ensures)

pub returns : goal.returns
returns c = subst (Searched (looked_for c.args.query.now) c.args.query.now.machine.memory.now _ _ _ _) (sym (onward_none c.args.query.now.machine.memory.now c.args.way (next_none c.args.query.now.machine.memory.now _ c.args.query.now.whole c.args.query.now.few c.args.way c.if-way-query.false))) (searched_by (looked_for c.args.query.now) c.args.query.now.machine.memory.now _ _ _ (c.args.way ∷ []) c.requires.known c.take-found.ensures)
