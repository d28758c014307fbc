-- `records::take_store` meets its contract: the first store's record is below 32.
-- Assumes nothing.
use borrow.Author.Rules.{rules}
use native.Mathlib.Omega.{arith}
use Rattle.records.specs.Records.{take_store}
use Rattle.records.proofs.Along.{head_of}
use Rattle.records.proofs.take_store.Goals as goal

pub release-requires : goal.release-requires
release-requires c = let p = c.requires in record { b_len = p.b_len; at_bound = omega arith; at_bound_2 = (head_of _ p.b_len p.b_value).0 }

pub returns : goal.returns
unfolding take_store
returns c = search rules
