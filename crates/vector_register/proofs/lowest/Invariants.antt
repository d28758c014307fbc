-- `vector_register::lowest` meets its contract. The invariant: no vector of the words before word i is set.
use Prim.Native.Nat.{ℕ, ◌*◌}
use Rattle.vector_register.specs.Vectors.{bit_at}
use Rattle.vector_register.proofs.Least.{Unset}
use Rattle.vector_register.proofs.lowest.Given as goal

abbrev pub invariant-loop-i : goal.invariant-loop-i
invariant-loop-i l = Unset (λ (k : ℕ). bit_at l.b l.place k) (32 * l.i)
