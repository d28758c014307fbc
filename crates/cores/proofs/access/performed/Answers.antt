use mathlib.Core.Path.{sym, ◌∙◌, refl, subst, ◌≡◌}
use Rattle.cores.specs.Core.{performed}
use Rattle.cores.proofs.Accesses.{cas_width}
use Rattle.store_buffer.specs.System.{aligned}
use mathlib.Core.Bool.{true}
use Rattle.cores.proofs.access.performed.Goals as goal

pub returns-then-is_load : goal.returns-then-is_load
unfolding performed
returns-then-is_load c = rw (c.load.ensures, ← c.is_load.ensures, c.if-is_load.true) refl

pub returns-then-is_store : goal.returns-then-is_store
unfolding performed
returns-then-is_store c = rw (c.store.ensures, ← c.is_load.ensures, c.if-is_load.false, ← c.is_store.ensures, c.if-is_store.true) refl

pub cas-requires : goal.cas-requires
cas-requires c = record { a_value = subst (λ n. aligned c.args.a n ≡ true) (cas_width c.args.f.instruction c.requires.instruction_value (sym c.is_load.ensures ∙ c.if-is_load.false) (sym c.is_store.ensures ∙ c.if-is_store.false)) c.requires.instruction_value_2 }

pub returns : goal.returns
unfolding performed
returns c = rw (c.cas.ensures, ← c.is_load.ensures, c.if-is_load.false, ← c.is_store.ensures, c.if-is_store.false) refl
