use mathlib.Core.Path.{sym, ◌∙◌}
use Rattle.picture.specs.Pages.{letter_of}
use Rattle.picture.proofs.pages.letter.Goals as goal

pub returns-then-is_table : goal.returns-then-is_table
unfolding letter_of
returns-then-is_table c = rw (sym c.is_table.ensures ∙ c.if-is_table.true)

pub returns-then-is_written : goal.returns-then-is_written
unfolding letter_of
returns-then-is_written c = rw (sym c.is_table.ensures ∙ c.if-is_table.false, sym c.is_written.ensures ∙ c.if-is_written.true)

pub returns : goal.returns
unfolding letter_of
returns c = rw (sym c.is_table.ensures ∙ c.if-is_table.false, sym c.is_written.ensures ∙ c.if-is_written.false)
