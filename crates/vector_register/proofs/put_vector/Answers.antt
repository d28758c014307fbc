-- `vector_register::put_vector` meets its contract.
use Rattle.vector_register.specs.Vectors.{with_vector}
use Rattle.vector_register.proofs.put_vector.Goals as goal

pub returns : goal.returns
unfolding with_vector
returns c = rw (c.put_bit.ensures, c.from.ensures)
