-- `store_buffer::read_beneath` meets its contract.
-- Assumes nothing.
use Rattle.std.specs.Prelude.{if◌then◌else◌, Some}
use mathlib.Core.Path.{◌≡◌, refl, sym, ap, ◌∙◌}
use Prim.Native.Nat.{ℕ, ◌-◌, ◌/◌, ◌%◌, ◌^◌}
use native.Mathlib.Omega.{arith}
use borrow.Author.Tests.{lt-ltb, le-ltb}
use lib.Dec.{ltb}
use Rattle.layout.specs.Layout.{io_ports}
use Rattle.store_buffer.proofs.Access.{aligned_word, aligned_sized}
use Rattle.store_buffer.proofs.Beneath.{reads_local, reads_io, reads_memory}
use Rattle.store_buffer.proofs.read_beneath.Goals.{then-at-lt4, else-at-lt4}
use Rattle.store_buffer.proofs.read_beneath.Goals as goal

pub part-requires-clause-d_value : goal.part-requires-clause-d_value
part-requires-clause-d_value c = aligned_sized _ _ c.requires.d_value

pub returns-then-is_local_port : goal.returns-then-is_local_port
returns-then-is_local_port c =
    ap Some c.part.ensures ∙ sym (reads_local c.args.a c.args.d (omega arith) (aligned_word _ _ c.requires.d_value) c.args.b.now c.args.memory.now c.args.select c.args.window (sym c.is_local_port.ensures ∙ c.if-is_local_port.true))

pub part-requires-then-is_io_port-clause-d_value : goal.part-requires-then-is_io_port-clause-d_value
part-requires-then-is_io_port-clause-d_value c = aligned_sized _ _ c.requires.d_value

pub returns-then-is_io_port : goal.returns-then-is_io_port
returns-then-is_io_port c =
    let a = c.args in
    let p : c.if-at-lt4.port ≡ (if ltb (a.a - io_ports) 4 then a.select else a.window) =
    elim c.if-at-lt4.branch [ then-at-lt4 w ↦ w.port-is ∙ rw (lt-ltb _ _ w.if-at-lt4.true) refl | else-at-lt4 w ↦ w.port-is ∙ rw (le-ltb _ _ w.if-at-lt4.false) refl ]
    in
    ap Some (c.part-then-is_io_port.ensures ∙ ap (λ (x : ℕ). x / 256 ^ (a.a % 4) % 256 ^ a.d) p)
    ∙ sym (reads_io a.a a.d (omega arith) (aligned_word _ _ c.requires.d_value) a.b.now a.memory.now a.select a.window (sym c.is_local_port.ensures ∙ c.if-is_local_port.false) (sym c.is_io_port.ensures ∙ c.if-is_io_port.true))

pub returns : goal.returns
returns c =
    c.read_memory.ensures ∙ sym (reads_memory c.args.a c.args.d (omega arith) (aligned_word _ _ c.requires.d_value) c.args.b.now c.args.memory.now c.args.select c.args.window (sym c.is_local_port.ensures ∙ c.if-is_local_port.false) (sym c.is_io_port.ensures ∙ c.if-is_io_port.false))
