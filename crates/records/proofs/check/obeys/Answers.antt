-- `records::check::obeys` meets its contract, rule by rule.
-- Assumes nothing.
use mathlib.Core.Path.{◌≡◌, sym, ap, ◌∙◌}
use Prim.Native.Nat.{ℕ}
use mathlib.Core.Bool.{Bool, ◌&&◌}
use mathlib.Core.List.{List}
use Rattle.records.specs.declared.check.Rule.{Rule}
use Rattle.records.specs.Records.{last_blank}
use Rattle.records.specs.inner.Rules.{obeys}
use Rattle.records.proofs.check.obeys.Goals as goal

by_rule : (b : List ℕ) (n : ℕ) {q r : Rule} → q ≡ r → obeys r b n ≡ obeys q b n
by_rule b n e = ap (λ (r : Rule). obeys r b n) (sym e)

pub returns-in-Blank : goal.returns-in-Blank
returns-in-Blank c = by_rule _ _ c.in-Blank.is

pub returns-in-Store : goal.returns-in-Store
returns-in-Store c = c.store_sound.ensures ∙ by_rule _ _ c.in-Store.is

pub returns-in-Walk : goal.returns-in-Walk
returns-in-Walk c =
    let a = c.args in
    ap (λ (t : Bool). t && last_blank a.b.now a.n) c.walk_sound.ensures ∙ by_rule _ _ c.in-Walk.is
