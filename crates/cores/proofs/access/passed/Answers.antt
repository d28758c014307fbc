use mathlib.Core.Path.{◌∙◌}
use Rattle.cores.proofs.Judging.{data_incomplete, data_complete}
use Rattle.cores.proofs.Held.{same_offset}
use Rattle.cores.proofs.access.passed.Goals as goal

pub returns-then-not-ends : goal.returns-then-not-ends
returns-then-not-ends c = data_incomplete _ _ _ _ _ _ c.ends.result (rw (← c.user-user.ensures) c.ends.ensures) (c.if-not-ends.true)

pub physical-a-requires : goal.physical-a-requires
physical-a-requires c = rw c.user-user.ensures c.requires.second_value

pub at_address-requires : goal.at_address-requires
at_address-requires c = record { instruction_value = c.requires.instruction_value; a_value = rw (c.physical-a.ensures, c.address.ensures) (same_offset c.user-user.result c.args.walk.second _); causes_value = c.requires.causes_value }

pub returns : goal.returns
returns c = c.at_address.ensures ∙ (rw (c.physical-a.ensures, c.address.ensures, c.user-user.ensures) (data_complete _ _ _ _ _ _ c.ends.result (rw (← c.user-user.ensures) c.ends.ensures) (c.if-not-ends.false)))
