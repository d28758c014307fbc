-- `store_buffer::destination` meets its contract.
-- Assumes nothing.
use mathlib.Core.Path.{sym, ◌∙◌}
use Rattle.store_buffer.proofs.Leaves.{to_local, to_io, to_memory, to_none}
use Rattle.store_buffer.proofs.destination.Goals as goal

pub returns-then-is_local_port : goal.returns-then-is_local_port
returns-then-is_local_port c = to_local _ _ (sym c.is_local_port.ensures ∙ c.if-is_local_port.true) c.sub.ensures c.word_only.ensures

pub returns-then-is_io_port : goal.returns-then-is_io_port
returns-then-is_io_port c = to_io _ _ (sym c.is_local_port.ensures ∙ c.if-is_local_port.false) (sym c.is_io_port.ensures ∙ c.if-is_io_port.true) c.sub-then-is_io_port.ensures c.word_only-then-is_io_port.ensures

pub returns-then-at-s : goal.returns-then-at-s
returns-then-at-s c = to_memory _ _ (sym c.is_local_port.ensures ∙ c.if-is_local_port.false) (sym c.is_io_port.ensures ∙ c.if-is_io_port.false) c.if-at-s.true

pub returns : goal.returns
returns c = to_none _ _ (sym c.is_local_port.ensures ∙ c.if-is_local_port.false) (sym c.is_io_port.ensures ∙ c.if-is_io_port.false) c.if-at-s.false
