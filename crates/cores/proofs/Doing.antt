-- What a plan asks, taken apart for the functions that do it.
-- Assumes nothing.
use mathlib.Core.Path.{◌≡◌, ◌∙◌, subst}
use mathlib.Core.Bool.{true}
use mathlib.Core.List.{List}
use Prim.Native.Nat.{ℕ, ◌+◌, ◌<◌, ◌≤◌}
use lib.ListN.{length}
use lib.Dec.{leb}
use borrow.Author.Tests.{ltb-true, leb-true}
use Rattle.records.specs.Records.{linked}
use Rattle.store_buffer.specs.System.{sized}
use Rattle.ioapic.specs.IoApic.{writes}
use Rattle.cores.specs.declared.Write.{Write}
use Rattle.cores.specs.declared.Write.TheVariants.{Memory, LocalPort, IoPort}
use Rattle.cores.specs.declared.Plan.{Plan}
use Rattle.cores.specs.Commit.{core_after, buffer_after, walks_after}
use Rattle.cores.specs.inner.Ready.{buffer_ready, walks_ready, port_ready, ready, fits}
use Rattle.cores.proofs.Changes.{core_left, buffer_after_lem, walks_after_lem, buffer_asks, walks_ask}
use Rattle.word.proofs.Truth.{and_left, and_right}

pub memory_fits : {x : Write} (a d v n : ℕ) → x ≡ Memory a d v → fits x n ≡ true → (sized d ≡ true) × (a + d ≤ n)
unfolding fits
memory_fits a d v n p e =
    let f = subst (λ y. fits y n ≡ true) p e in (and_left (sized d) (leb (a + d) n) f, leb-true (a + d) n (and_right (sized d) (leb (a + d) n) f))

pub io_fits : {x : Write} (a v n : ℕ) → x ≡ IoPort a v → fits x n ≡ true → writes a v ≡ true
unfolding fits
io_fits a v n p e = subst (λ y. fits y n ≡ true) p e

pub port_fits : {x : Write} (a v : ℕ) → x ≡ LocalPort a v → port_ready x ≡ true → a < 128
unfolding port_ready
port_fits a v p e = ltb-true a 128 (subst (λ y. port_ready y ≡ true) p e)

module _ (p : Plan) (b : List ℕ) (r : ready p b ≡ true) where
  buffer_ready_lem : buffer_ready p.buffer b ≡ true
  unfolding ready
  buffer_ready_lem = and_left (buffer_ready p.buffer b) _ r

  walks_ready_lem : walks_ready p.walks b ≡ true
  unfolding ready
  walks_ready_lem = and_left (walks_ready p.walks b) _ (and_right (buffer_ready p.buffer b) _ r)

  pub port_ready_lem : port_ready p.write ≡ true
  unfolding ready
  port_ready_lem = and_right (walks_ready p.walks b) _ (and_right (buffer_ready p.buffer b) _ r)

  module _ (long : length b ≡ 256) (e : linked b ≡ true) where
    pub core_done : (length (core_after p.core b) ≡ 256) × (linked (core_after p.core b) ≡ true)
    core_done = let L = core_left b long e p.core in (L.long, L.chains)

    after : (length (buffer_after p.buffer (core_after p.core b)) ≡ 256) × (linked (buffer_after p.buffer (core_after p.core b)) ≡ true)
        × (walks_ready p.walks (buffer_after p.buffer (core_after p.core b)) ≡ true)
    after =
        let L = core_left b long e p.core in
        let A = buffer_after_lem (core_after p.core b) L.long L.chains p.buffer (buffer_asks p.buffer (core_after p.core b) b L.same_sb ∙ buffer_ready_lem) in
        (A.0, A.1, walks_ask p.walks _ b (A.2 ∙ L.same_tlb) ∙ walks_ready_lem)

    pub buffer_done : (length (buffer_after p.buffer (core_after p.core b)) ≡ 256) × (linked (buffer_after p.buffer (core_after p.core b)) ≡ true)
    buffer_done = (after.0, after.1)

    pub walks_done : length (walks_after p.walks (buffer_after p.buffer (core_after p.core b))) ≡ 256
    walks_done = (walks_after_lem (buffer_after p.buffer (core_after p.core b)) after.0 after.1 p.walks after.2).0
