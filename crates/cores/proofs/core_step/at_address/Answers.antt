use mathlib.Core.Path.{sym, ◌∙◌}
use Rattle.cores.proofs.Judging.{fetch_port, fetch_word, fetch_nowhere}
use Rattle.cores.proofs.Accesses.{word_aligned}
use Rattle.cores.proofs.core_step.at_address.Goals as goal

pub returns-then-is_port : goal.returns-then-is_port
returns-then-is_port c = fetch_port _ _ _ _ _ (sym c.is_port.ensures ∙ c.if-is_port.true)

pub read_memory-r-requires : goal.read_memory-r-requires
read_memory-r-requires c = word_aligned _ c.requires.a_value

pub returns-in-Some : goal.returns-in-Some
returns-in-Some c = c.instruction.ensures ∙ (rw c.decode-i.ensures (fetch_word _ _ _ _ _ (sym c.is_port.ensures ∙ c.if-is_port.false) _ (sym c.read_memory-r.ensures ∙ c.in-Some.is)))

pub returns-in-None : goal.returns-in-None
returns-in-None c = fetch_nowhere _ _ _ _ _ (sym c.is_port.ensures ∙ c.if-is_port.false) (sym c.read_memory-r.ensures ∙ c.in-None.is)
