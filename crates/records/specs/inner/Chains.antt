-- What the iterator over a chain gives. It serves contracts inside alone: a store and a walk of a record are those that
-- Records reads (`store_in_of`, `walk_in_of` of proofs/Iterate).
-- Assumes nothing.
use Rattle.std.specs.Prelude.{ℕ, ◌+◌, List, get_or, map}
use Rattle.layout.specs.Layout.{record_at}
use Rattle.records.specs.Records.{chain}
use Rattle.records.specs.declared.Record.{Record}
use Rattle.records.specs.declared.Store.{Store}
use Rattle.records.specs.declared.Walk.{Walk}

-- record n of a block
abbrev pub record_in : List ℕ → ℕ → Record
record_in b n =
    record { number = n; first = get_or b (record_at n + 1) 0; second = get_or b (record_at n + 2) 0; last = get_or b (record_at n + 3) 0 }

-- the records along the links from n: at most `left` of them
abbrev pub records_from : List ℕ → ℕ → ℕ → List Record
records_from b left n = map (record_in b) (chain left b n)

abbrev pub store_of : Record → Store
store_of r = record { address = r.first; value = r.second; width = r.last }

abbrev pub walk_of : Record → Walk
walk_of r = record { first = r.first; second = r.second }
