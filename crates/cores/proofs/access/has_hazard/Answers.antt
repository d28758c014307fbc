use mathlib.Core.Path.{sym, ◌∙◌, refl}
use Rattle.cores.proofs.Accesses.{load_wide}
use Rattle.cores.proofs.access.has_hazard.Goals as goal

pub hazard-requires : goal.hazard-requires
hazard-requires c = record { b_len = c.requires.b_len; b_value = c.requires.b_value; d_nonzero = rw c.width.ensures (load_wide _ (sym c.is_load.ensures ∙ c.if-is_load.true)) }

pub returns-then-is_load : goal.returns-then-is_load
returns-then-is_load c = rw (← c.is_load.ensures, c.if-is_load.true, c.hazard.ensures, c.width.ensures) refl

pub returns : goal.returns
returns c = rw (← c.is_load.ensures, c.if-is_load.false) refl
