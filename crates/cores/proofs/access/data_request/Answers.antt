use mathlib.Core.Path.{refl}
use Rattle.cores.proofs.access.data_request.Goals as goal

pub returns-then-is_store-is_cas : goal.returns-then-is_store-is_cas
returns-then-is_store-is_cas c = rw (← c.is_store.ensures, ← c.is_cas.ensures, c.if-is_store-is_cas.true, c.address-va.ensures, c.asid-asid.ensures.0) refl

pub returns-else-is_store-is_cas : goal.returns-else-is_store-is_cas
returns-else-is_store-is_cas c = rw (← c.is_store.ensures, ← c.is_cas.ensures, c.if-is_store-is_cas.false, c.address-va.ensures, c.asid-asid.ensures.0) refl
