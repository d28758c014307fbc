use mathlib.Core.Path.{sym, ap, ◌∙◌}
use Prim.Native.Nat.{ℕ, ◌+◌}
use lib.ListN.{drop}
use Rattle.verdict_text.specs.Arguments.{arguments_in, asked_from}
use Rattle.verdict_text.proofs.Named.{next_argument, wrong_argument, is_core, is_none, all_there}
use Rattle.verdict_text.proofs.arguments.ask.Goals as goal

pub returns-in_default-clause-no_core : goal.returns-in_default-clause-no_core
returns-in_default-clause-no_core c =
    c.loop-at.invariant ∙ wrong_argument _ _ c.loop-at-test.true _ (is_none _ c.in_default.ensures.core)

pub loop-at-preserved : goal.loop-at-preserved
loop-at-preserved c =
    let rest = arguments_in (drop (c.loop-at.at + 2) c.args.a.now) in
    let named = c.in-Some.ensures in
    c.loop-at.invariant
    ∙ next_argument _ _ c.loop-at-test.true _ _ (is_core _ _ named.core) named.few
    ∙ ap (λ (g : ℕ). asked_from g rest) (sym c.put_bit-group.ensures)

pub returns-clause-cores : goal.returns-clause-cores
returns-clause-cores c = c.loop-at.invariant ∙ all_there _ _ _ c.loop-at-test.false
