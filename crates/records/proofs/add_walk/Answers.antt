-- `records::add_walk` meets its contract, whether the walk is held or not.
-- Assumes nothing.
use mathlib.Core.Path.{sym, ◌∙◌}
use native.Mathlib.Omega.{arith}
use Rattle.records.proofs.Along.{head_of}
use Rattle.records.proofs.Fold.{add_held, add_new}
use Rattle.records.proofs.add_walk.Goals as goal

pub returns-then-holds_walk : goal.returns-then-holds_walk
returns-then-holds_walk c = add_held _ _ (sym c.holds_walk.ensures ∙ c.if-holds_walk.true)

pub insert-requires : goal.insert-requires
insert-requires c = let p = c.requires in record { b_len = p.b_len; at_bound = omega arith; free_head_bound = (head_of _ p.b_len p.b_value).2 }

pub returns : goal.returns
returns c = c.insert.ensures ∙ add_new _ _ (sym c.holds_walk.ensures ∙ c.if-holds_walk.false)
