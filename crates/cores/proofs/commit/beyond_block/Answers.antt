use borrow.Author.Rules.{rules}
use mathlib.Core.Path.{◌∙◌, refl}
use Rattle.cores.specs.Commit.{header_after, written_to}
use Rattle.cores.proofs.Doing.{memory_fits, io_fits}
use native.Mathlib.Omega.{arith}
use Rattle.cores.proofs.commit.beyond_block.Goals as goal

pub write_word-requires : goal.write_word-requires
write_word-requires c = let h = memory_fits _ _ _ _ c.in-Memory.is c.requires.m_value in omega (arith, h.1, c.if-d-eq4.true)

pub returns-then-d-eq4 : goal.returns-then-d-eq4
unfolding header_after written_to
returns-then-d-eq4 c = record { t_after = rw c.in-Memory.is refl; m_after = c.write_word.ensures ∙ rw (c.in-Memory.is, c.if-d-eq4.true) refl }

pub write-requires : goal.write-requires
write-requires c = (memory_fits _ _ _ _ c.in-Memory.is c.requires.m_value).1

pub write-requires-in-IoPort : goal.write-requires-in-IoPort
write-requires-in-IoPort c = (search rules, io_fits _ _ _ c.in-IoPort.is c.requires.m_value)

pub returns-in-Nothing : goal.returns-in-Nothing
unfolding header_after written_to
returns-in-Nothing c = record { t_after = rw c.in-Nothing.is refl; m_after = rw c.in-Nothing.is refl }

pub returns-else-d-eq4 : goal.returns-else-d-eq4
unfolding header_after written_to
returns-else-d-eq4 c = record { t_after = rw c.in-Memory.is refl; m_after = c.write.ensures ∙ rw c.in-Memory.is refl }

pub returns-in-LocalPort : goal.returns-in-LocalPort
unfolding header_after written_to
returns-in-LocalPort c = record { t_after = rw c.in-LocalPort.is refl; m_after = rw c.in-LocalPort.is refl }

pub returns-in-IoPort : goal.returns-in-IoPort
unfolding header_after written_to
returns-in-IoPort c = record { t_after = c.write-in-IoPort.ensures ∙ rw c.in-IoPort.is refl; m_after = rw c.in-IoPort.is refl }
