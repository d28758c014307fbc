use mathlib.Core.Path.{refl}
use Rattle.cores.proofs.access.finds_buffer.Goals as goal

pub returns-then-is_cas-is_mfence : goal.returns-then-is_cas-is_mfence
returns-then-is_cas-is_mfence c = rw (← c.is_cas.ensures, ← c.is_mfence.ensures, c.if-is_cas-is_mfence.true, c.count_stores.ensures) refl

pub returns : goal.returns
returns c = rw (← c.is_cas.ensures, ← c.is_mfence.ensures, c.if-is_cas-is_mfence.false) refl
