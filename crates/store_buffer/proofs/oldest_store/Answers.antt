-- `store_buffer::oldest_store` meets its contract.
-- Assumes nothing.
use Rattle.std.specs.Prelude.{Some}
use mathlib.Core.Path.{ap, ◌∙◌}
use Rattle.records.proofs.Along.{head_of}
use Rattle.store_buffer.proofs.Leaves.{oldest_none, oldest_some}
use Rattle.store_buffer.proofs.oldest_store.Goals as goal

pub returns-then-n-eq0 : goal.returns-then-n-eq0
returns-then-n-eq0 c = oldest_none _ c.if-n-eq0.true

pub store_at-requires-clause-number_bound : goal.store_at-requires-clause-number_bound
store_at-requires-clause-number_bound c = (head_of _ c.requires.b_len c.requires.b_value).0

pub returns : goal.returns
returns c = ap Some c.store_at.ensures ∙ oldest_some _ c.if-n-eq0.false
