use mathlib.Core.Path.{sym}
use Prim.Native.Nat.{ℕ, ◌+◌}
use native.Mathlib.Omega.{arith}
use Rattle.vector_register.specs.Vectors.{bit_at}
use Rattle.vector_register.proofs.Least.{found_none}
use Rattle.vector_register.proofs.Words.{word_found}
use Rattle.vector_register.proofs.lowest.Goals as goal

pub returns-then-word-ne0 : goal.returns-then-word-ne0
returns-then-word-ne0 c =
    let a = c.args in
    let l = c.loop-i in
    sym (word_found a.b.now a.place l.i l.invariant (omega arith) (omega arith) (c.type_inv.b (a.place + l.i)).fits)

pub returns : goal.returns
returns c = sym (found_none (λ (k : ℕ). bit_at c.args.b.now c.args.place k) 256 (λ k l. c.loop-i.invariant k (omega arith)))
