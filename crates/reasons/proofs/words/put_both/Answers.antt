-- `reasons::words::put_both` meets its contract.
-- Assumes nothing.
use mathlib.Core.Path.{◌∙◌}
use Rattle.reasons.proofs.Telling.{both_written}
use Rattle.reasons.proofs.words.put_both.Goals as goal

pub returns : goal.returns
returns c =
    both_written c.args.a _ _ c.args.words.now c.requires (c.copy_from_slice.ensures.after ∙ c.first_words.ensures) (c.copy_from_slice-2.ensures.after ∙ c.second_words.ensures)
