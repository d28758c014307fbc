-- `records::put_store` meets its contract: the record goes in at the end of the chain.
-- Assumes nothing.
use mathlib.Core.Path.{ap, ◌∙◌}
use Prim.Native.Nat.{ℕ}
use native.Mathlib.Omega.{arith}
use Rattle.records.specs.Records.{insert, put_store}
use Rattle.records.proofs.Along.{head_of, store_chain, end_low}
use Rattle.records.proofs.put_store.Goals as goal

pub insert-requires : goal.insert-requires
insert-requires c = let p = c.requires in record { b_len = p.b_len; at_bound = omega (arith, end_low (store_chain _ p.b_len p.b_value) (omega arith), c.stores_end-at.ensures); free_head_bound = (head_of _ p.b_len p.b_value).2 }

pub returns : goal.returns
unfolding put_store
returns c =
    let a = c.args in
    c.insert.ensures ∙ ap (λ (at : ℕ). insert a.b.now at a.s.address a.s.value a.s.width) c.stores_end-at.ensures
