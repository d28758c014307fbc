use Rattle.std.specs.Prelude.{Ok}
use mathlib.Core.Path.{sym, ◌∙◌, ap}
use Rattle.cores.proofs.Adding.{adding_held, adding_full, adding_none, adding_room}
use mathlib.Core.Bool.{not}
use lib.Dec.{eqb, leb}
use lib.ListN.{get_or}
use Rattle.std.proofs.lemmas.Bool.{le-leb, lt-leb}
use Rattle.word.proofs.Truth.{or_none_left, or_none_right, or_other}
use Rattle.cores.proofs.tlb_steps.adding.Goals as goal

pub returns-then-holds_walk : goal.returns-then-holds_walk
returns-then-holds_walk c = ap Ok c.done.ensures ∙ adding_held _ _ _ (sym c.holds_walk.ensures ∙ c.if-holds_walk.true)

pub returns-then-full : goal.returns-then-full
returns-then-full c = adding_full _ _ _ (sym c.holds_walk.ensures ∙ c.if-holds_walk.false) (rw (← c.count_walks-full.ensures) (le-leb 23 _ c.if-full.true))

pub returns-then-full-none : goal.returns-then-full-none
returns-then-full-none c = adding_none _ _ _ (sym c.holds_walk.ensures ∙ c.if-holds_walk.false) (rw (← c.count_walks-full.ensures) (lt-leb 23 _ c.if-full.false)) (ap not (or_other _ _ c.if-full-none.true (lt-leb 23 _ c.if-full.false)))

pub returns : goal.returns
returns c = let o = or_none_right (leb 23 c.count_walks-full.result) (eqb (get_or c.args.b.now 70 0) 0) c.if-full-none.false in ap Ok c.done-2.ensures ∙ adding_room _ _ _ (rw (← c.count_walks-full.ensures) (or_none_left (leb 23 c.count_walks-full.result) (eqb (get_or c.args.b.now 70 0) 0) c.if-full-none.false)) (ap not o)
