use mathlib.Core.Path.{sym, ◌∙◌, ap₂}
use mathlib.Core.Bool.{◌||◌}
use Rattle.picture.specs.Pages.{mark_of}
use Rattle.picture.proofs.pages.mark.Goals as goal

pub returns-then-spoils : goal.returns-then-spoils
unfolding mark_of
returns-then-spoils c = rw (sym c.spoils.ensures ∙ c.if-spoils.true)

pub returns-then-is_written-is_table : goal.returns-then-is_written-is_table
unfolding mark_of
returns-then-is_written-is_table c = rw (sym c.spoils.ensures ∙ c.if-spoils.false, sym c.is_reached.ensures ∙ c.if-is_reached.true, sym c.is_reached-then-is_reached.ensures ∙ c.if-is_reached-2.true, sym (ap₂ ◌||◌ c.is_written.ensures c.is_table.ensures) ∙ c.if-is_written-is_table.true)

pub returns-then-is_reached-2 : goal.returns-then-is_reached-2
unfolding mark_of
returns-then-is_reached-2 c = rw (sym c.spoils.ensures ∙ c.if-spoils.false, sym c.is_reached.ensures ∙ c.if-is_reached.true, sym c.is_reached-then-is_reached.ensures ∙ c.if-is_reached-2.true, sym (ap₂ ◌||◌ c.is_written.ensures c.is_table.ensures) ∙ c.if-is_written-is_table.false)

pub returns-then-is_reached : goal.returns-then-is_reached
unfolding mark_of
returns-then-is_reached c = rw (sym c.spoils.ensures ∙ c.if-spoils.false, sym c.is_reached.ensures ∙ c.if-is_reached.true, sym c.is_reached-then-is_reached.ensures ∙ c.if-is_reached-2.false) c.letter.ensures

pub returns-then-is_reached-3 : goal.returns-then-is_reached-3
unfolding mark_of
returns-then-is_reached-3 c = rw (sym c.spoils.ensures ∙ c.if-spoils.false, sym c.is_reached.ensures ∙ c.if-is_reached.false, sym c.is_reached-2.ensures ∙ c.if-is_reached-3.true) c.letter-then-is_reached-3.ensures

pub returns : goal.returns
unfolding mark_of
returns c = rw (sym c.spoils.ensures ∙ c.if-spoils.false, sym c.is_reached.ensures ∙ c.if-is_reached.false, sym c.is_reached-2.ensures ∙ c.if-is_reached-3.false)
