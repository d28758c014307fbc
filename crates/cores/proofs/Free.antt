-- A record is free while fewer than 31 are in use, so that a store within eight and a walk within 23 always find one.
-- Assumes nothing.
use mathlib.Core.Path.{◌≡◌, ap}
use mathlib.Core.Bool.{true, not}
use mathlib.Core.List.{List}
use Prim.Native.Nat.{ℕ, ◌+◌, ◌<◌}
use lib.ListN.{length, get_or, length-map}
use native.Mathlib.Omega.{arith}
use borrow.Author.Tests.{ne_eqb}
use Rattle.layout.specs.Layout as at
use Rattle.records.specs.Records.{chain, chain_at, store_in, walk_in, linked, stores, walks}
use Rattle.records.proofs.Good.{linked_good, all_31}
use Rattle.cores.specs.Core.{is_free}

pub free_there : (b : List ℕ) → length b ≡ 256 → linked b ≡ true → length (stores b) + length (walks b) < 31 → is_free b ≡ true
unfolding stores walks chain
free_there b long e h =
    let G = linked_good b e long in
    let l = all_31 (chain_at b at.store_head) (chain_at b at.walk_head) (chain_at b at.free_head) G.three.once G.three.below in
    ap not (ne_eqb (get_or b at.free_head 0) 0 (λ q. omega (arith, l, none q, length-map (chain_at b at.store_head) (store_in b), length-map (chain_at b at.walk_head) (walk_in b))))
  where
    none : get_or b at.free_head 0 ≡ 0 → length (chain_at b at.free_head) ≡ 0
    none q = ap (λ (n : ℕ). length (chain 32 b n)) q
