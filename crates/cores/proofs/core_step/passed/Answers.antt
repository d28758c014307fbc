use mathlib.Core.Path.{◌∙◌}
use Rattle.cores.proofs.Judging.{fetch_incomplete, fetch_complete}
use Rattle.cores.proofs.Held.{same_offset}
use Rattle.cores.proofs.core_step.passed.Goals as goal

pub returns-then-not-ends : goal.returns-then-not-ends
returns-then-not-ends c = fetch_incomplete _ _ _ _ _ c.ends.result (rw (← c.user-user.ensures) c.ends.ensures) (c.if-not-ends.true)

pub physical-a-requires : goal.physical-a-requires
physical-a-requires c = rw c.user-user.ensures c.requires.second_value

pub at_address-requires : goal.at_address-requires
at_address-requires c = record { a_value = rw (c.physical-a.ensures, c.pc.ensures) (same_offset c.user-user.result c.args.fetch.second _ ∙ c.requires.b_value) }

pub returns : goal.returns
returns c = c.at_address.ensures ∙ (rw (c.physical-a.ensures, c.pc.ensures, c.user-user.ensures) (fetch_complete _ _ _ _ _ c.ends.result (rw (← c.user-user.ensures) c.ends.ensures) (c.if-not-ends.false)))
