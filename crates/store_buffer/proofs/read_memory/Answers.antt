-- `store_buffer::read_memory` meets its contract.
-- Assumes nothing.
use Rattle.std.specs.Prelude.{Some}
use mathlib.Core.Path.{sym, ap, ◌∙◌}
use Prim.Native.Nat.{ℕ}
use native.Mathlib.Omega.{arith}
use Rattle.word.specs.Bytes.{bytes_at}
use Rattle.store_buffer.proofs.Access.{InWord, aligned_word, memory_there, memory_beyond}
use Rattle.store_buffer.proofs.read_memory.Goals as goal
use Rattle.store_buffer.proofs.read_memory.Goals.{After-shared_slice_known-1}

word : (c : After-shared_slice_known-1) → InWord c.args.a c.args.d
word c = aligned_word _ _ c.requires

pub returns-then-memory-at : goal.returns-then-memory-at
returns-then-memory-at c =
    let w = word (goal.at.returns-then-memory-at c).After-shared_slice_known-1 in
    sym (memory_beyond c.args.memory.now c.args.a c.args.d (omega (arith, w.within, w.some)) w.some c.if-memory-at.true)

pub returns-then-d-eq4 : goal.returns-then-d-eq4
returns-then-d-eq4 c =
    let w = word (goal.at.returns-then-d-eq4 c).After-shared_slice_known-1 in
    ap Some (c.read_word.ensures ∙ ap (λ (n : ℕ). bytes_at n c.args.memory.now c.args.a) (sym c.if-d-eq4.true))
    ∙ sym (memory_there c.args.memory.now c.args.a c.args.d (omega (arith, w.within, w.some)) c.if-memory-at.false)

pub read-requires : goal.read-requires
read-requires c = let w = word (goal.at.read-requires c).After-shared_slice_known-1 in (omega arith, omega (arith, w.within))

pub returns : goal.returns
returns c =
    let w = word (goal.at.returns c).After-shared_slice_known-1 in
    ap Some c.read.ensures ∙ sym (memory_there c.args.memory.now c.args.a c.args.d (omega (arith, w.within, w.some)) c.if-memory-at.false)
