use mathlib.Core.Path.{refl}
use borrow.Author.Tests.{eq-eqb, ne_eqb, le-leb, lt-leb}
use Rattle.store_buffer.proofs.Access.{aligned_sized}
use Rattle.cores.proofs.Held.{records_linked}
use Rattle.cores.proofs.access.store.Goals as goal

pub is_there-requires : goal.is_there-requires
is_there-requires c = record { width_value = rw c.width.ensures c.requires.instruction_value; bytes_value = c.args.core.now.sound.whole }

pub returns-then-not-is_there : goal.returns-then-not-is_there
returns-then-not-is_there c = rw (← c.width.ensures, ← c.is_there.ensures, c.if-not-is_there.true) refl

pub count_stores-requires : goal.count_stores-requires
count_stores-requires c = record { b_len = c.args.core.now.sound.long; b_value = records_linked _ _ c.args.core.now.sound.records }

pub returns-then-count_stores-ge8 : goal.returns-then-count_stores-ge8
returns-then-count_stores-ge8 c = rw (← c.width.ensures, ← c.is_there.ensures, c.if-not-is_there.false, ← c.count_stores.ensures, le-leb _ _ c.if-count_stores-ge8.true) refl

pub returns-then-core-eq0 : goal.returns-then-core-eq0
returns-then-core-eq0 c = rw (← c.width.ensures, ← c.is_there.ensures, c.if-not-is_there.false, ← c.count_stores.ensures, lt-leb _ _ c.if-count_stores-ge8.false, eq-eqb _ _ c.if-core-eq0.true) refl

pub stored-s-requires : goal.stored-s-requires
stored-s-requires c = record { b_len = c.args.core.now.sound.long; instruction_value = aligned_sized _ _ c.requires.instruction_value }

pub returns : goal.returns
returns c = rw (c.finished.ensures, c.stored-s.ensures, ← c.width.ensures, ← c.is_there.ensures, c.if-not-is_there.false, ← c.count_stores.ensures, lt-leb _ _ c.if-count_stores-ge8.false, ne_eqb _ _ c.if-core-eq0.false) refl
