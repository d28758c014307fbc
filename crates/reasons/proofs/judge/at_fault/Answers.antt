-- `reasons::judge::at_fault` meets its contract.
-- Assumes nothing.
use mathlib.Core.Path.{sym, ◌∙◌}
use Rattle.separation.proofs.Deciding.{room}
use Rattle.reasons.proofs.judge.at_fault.Goals as goal

pub slice_bounds-marked-end : goal.slice_bounds-marked-end
slice_bounds-marked-end c = sym (room _ c.pages-pages.ensures.2)

pub marked-requires : goal.marked-requires
marked-requires c =
    (c.requires.0, c.requires.1, room _ c.pages-pages.ensures.2 ∙ c.pages-pages.ensures.0)
