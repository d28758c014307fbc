-- The oldest store, and where it goes.
-- Assumes nothing.
use Rattle.std.specs.Prelude.{Some, None}
use mathlib.Core.Path.{◌≡◌, sym, ap, ◌∙◌}
use mathlib.Core.Logic.{◌≢◌}
use Prim.Native.Nat.{ℕ, ◌+◌, ◌-◌, ◌^◌, ◌<◌, ◌≤◌}
use mathlib.Core.Bool.{true, false}
use mathlib.Core.List.{List, map}
use native.Mathlib.Omega.{arith}
use lib.ListN.{get_or}
use borrow.Author.Tests.{le-leb, lt-leb}
use Rattle.word.specs.Word.{minus}
use Rattle.layout.specs.Layout.{store_head, local_ports, io_ports}
use Rattle.records.specs.declared.Store.{Store}
use Rattle.records.specs.Records.{stores, store_in}
use Rattle.records.specs.Contents.{local_port, io_port}
use Rattle.records.proofs.Checking.{chain_step, chain_zero}
use Rattle.store_buffer.specs.declared.Place.{Place}
use Rattle.store_buffer.specs.declared.Place.TheVariants.{LocalPort, IoPort, Memory, Beyond}
use Rattle.store_buffer.specs.System.{apicadr, ioapicadr}
use Rattle.store_buffer.specs.Leaving.{oldest, word_only, place_of}
use Rattle.store_buffer.proofs.Beneath.{local_range, io_range, local_adr, io_adr}

distance : (x l : ℕ) → l ≤ x → x < 2 ^ 32 → minus 32 x l ≡ x - l
distance x l p q = omega arith

module _ (b : List ℕ) where
  pub oldest_none : get_or b store_head 0 ≡ 0 → None ≡ oldest (stores b)
  unfolding stores
  oldest_none e = sym (ap (λ (l : List ℕ). oldest (map (store_in b) l)) (chain_zero 32 b (get_or b store_head 0) e))

  pub oldest_some : get_or b store_head 0 ≢ 0 → Some (store_in b (get_or b store_head 0)) ≡ oldest (stores b)
  unfolding stores
  oldest_some d = sym (ap (λ (l : List ℕ). oldest (map (store_in b) l)) (chain_step 32 b (get_or b store_head 0) (omega arith) d))

module _ (n : ℕ) (s : Store) where
  pub to_local : {v : ℕ} {t : Place} → local_port s.address ≡ true → v ≡ minus 32 s.address local_ports → t ≡ word_only s (LocalPort v) → t ≡ place_of n s
  unfolding place_of
  to_local {v} e g h =
      let r = local_range s.address e in
      let k : v ≡ apicadr s.address = g ∙ distance s.address local_ports r.0 (omega (arith, r.1)) ∙ sym (local_adr s.address r.0 r.1) in
      rw (e, ← k) h

  pub to_io : {v : ℕ} {t : Place} → local_port s.address ≡ false → io_port s.address ≡ true → v ≡ minus 32 s.address io_ports → t ≡ word_only s (IoPort v) → t ≡ place_of n s
  unfolding place_of
  to_io {v} d e g h =
      let r = io_range s.address e in
      let k : v ≡ ioapicadr s.address = g ∙ distance s.address io_ports r.0 (omega (arith, r.1)) ∙ sym (io_adr s.address r.0 r.1) in
      rw (d, e, ← k) h

  pub to_memory : local_port s.address ≡ false → io_port s.address ≡ false → s.address + s.width ≤ n → Memory ≡ place_of n s
  unfolding place_of
  to_memory d e f = rw (d, e, le-leb (s.address + s.width) n f)

  pub to_none : local_port s.address ≡ false → io_port s.address ≡ false → n < s.address + s.width → Beyond ≡ place_of n s
  unfolding place_of
  to_none d e f = rw (d, e, lt-leb (s.address + s.width) n f)
