use mathlib.Core.Path.{refl}
use Rattle.cores.proofs.access.dropped.Goals as goal

pub returns-then-is_flush : goal.returns-then-is_flush
returns-then-is_flush c = rw (← c.is_flush.ensures, c.if-is_flush.true) refl

pub returns-then-is_invlpg : goal.returns-then-is_invlpg
returns-then-is_invlpg c = rw (← c.is_flush.ensures, c.if-is_flush.false, ← c.is_invlpg.ensures, c.if-is_invlpg.true, c.page_key.ensures, c.general-asid.ensures, c.rs.ensures, c.page-va.ensures, c.general.ensures, c.rd.ensures) refl

pub returns : goal.returns
returns c = rw (← c.is_flush.ensures, c.if-is_flush.false, ← c.is_invlpg.ensures, c.if-is_invlpg.false) refl
