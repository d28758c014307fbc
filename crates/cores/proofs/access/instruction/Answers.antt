use mathlib.Core.Path.{sym, ◌∙◌}
use Rattle.cores.proofs.Judging.{instruction_waits, instruction_access, instruction_plain}
use Rattle.cores.proofs.Held.{records_linked}
use Rattle.cores.proofs.access.instruction.Goals as goal

pub finds_buffer-requires : goal.finds_buffer-requires
finds_buffer-requires c = record { b_len = c.args.core.now.sound.long; b_value = records_linked _ _ c.args.core.now.sound.records }

pub returns-then-not-finds_buffer : goal.returns-then-not-finds_buffer
returns-then-not-finds_buffer c = instruction_waits _ _ _ _ _ _ _ c.finds_buffer.ensures (c.if-not-finds_buffer.true)

pub access-requires : goal.access-requires
access-requires c = record { instruction_value = sym c.is_access.ensures ∙ c.if-is_access.true; causes_value = c.of-causes.ensures }

pub returns-then-is_access : goal.returns-then-is_access
returns-then-is_access c = c.access.ensures ∙ instruction_access _ _ _ _ _ _ _ c.finds_buffer.ensures (c.if-not-finds_buffer.false) (sym c.is_access.ensures ∙ c.if-is_access.true)

pub plain-requires : goal.plain-requires
plain-requires c = record { b_len = c.args.core.now.sound.long; causes_value = c.of-causes.ensures }

pub returns : goal.returns
returns c = c.plain.ensures ∙ instruction_plain _ _ _ _ _ _ _ c.finds_buffer.ensures (c.if-not-finds_buffer.false) (sym c.is_access.ensures ∙ c.if-is_access.false)
