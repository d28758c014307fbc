-- `ways::roots::from_block` meets its contract.
-- Assumes nothing.
use mathlib.Core.Path.{refl}
use native.Mathlib.Omega.{arith}
use Rattle.ways.specs.inner.Search.{looked_for}
use Rattle.records.proofs.Along.{walks_small, stores_small}
use Rattle.ways.proofs.Blocks.{block_ways_lem}
use Rattle.ways.proofs.roots.from_block.Goals as goal

pub from_root-first-requires : goal.from_root-first-requires
from_root-first-requires c = record { entries_value = refl; known = c.requires.known }

pub from_chain-walks-requires : goal.from_chain-walks-requires
from_chain-walks-requires c = let r = c.from_root-first.ensures in record { b_len = (c.requires.b_len.0, omega arith, walks_small _ c.requires.b_len.0 c.requires.b_len.1); known = r.known }

pub from_chain-requires : goal.from_chain-requires
from_chain-requires c = let r = c.from_root-first.ensures in let q = c.from_chain-walks.ensures in record { b_len = (c.requires.b_len.0, omega arith, stores_small _ c.requires.b_len.0 c.requires.b_len.1); known = q.known }

pub returns : goal.returns
returns c = block_ways_lem (looked_for c.args.query.now) c.args.query.now.machine.memory.now c.args.b.now c.args.k _ c.origin-page.ensures c.from_root-first.ensures c.from_chain-walks.ensures c.from_chain.ensures
