use mathlib.Core.Path.{sym, ap, ◌∙◌}
use native.Mathlib.Omega.{arith}
use Rattle.verdict_text.specs.inner.First.{core_of}
use Rattle.verdict_text.proofs.Named.{core_low, core_high, core_long, core_ended, core_last, core_is}
use Rattle.verdict_text.proofs.arguments.core_at.Goals as goal

pub returns-then-byte-lt48-clause-core : goal.returns-then-byte-lt48-clause-core
returns-then-byte-lt48-clause-core c = sym (ap core_of (core_low _ _ c.requires c.if-byte-lt48.true))

pub returns-then-byte-gt51-clause-core : goal.returns-then-byte-gt51-clause-core
returns-then-byte-gt51-clause-core c = sym (ap core_of (core_high _ _ c.requires c.if-byte-gt51.true))

pub returns-then-a-next-ne0-clause-core : goal.returns-then-a-next-ne0-clause-core
returns-then-a-next-ne0-clause-core c =
    sym (ap core_of (core_long _ _ c.requires c.if-next-a.true c.if-byte-lt48.false c.if-a-next-ne0.true))

pub returns-then-next-a-clause-core : goal.returns-then-next-a-clause-core
returns-then-next-a-clause-core c =
    let digit = core_ended _ _ c.requires c.if-next-a.true c.if-byte-lt48.false c.if-byte-gt51.false in
    core_is (c.wide-k.ensures.0 ∙ sym (digit c.if-a-next-ne0.false)) (omega (arith, c.wide-k.ensures.0))

pub returns-clause-core : goal.returns-clause-core
returns-clause-core c =
    let last = core_last _ _ c.requires c.if-byte-lt48.false c.if-byte-gt51.false c.if-next-a.false in
    core_is (c.wide-k.ensures.0 ∙ sym last) (omega (arith, c.wide-k.ensures.0))
