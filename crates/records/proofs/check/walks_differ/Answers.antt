use mathlib.Core.Path.{◌≡◌, sym, ap, ◌∙◌}
use mathlib.Core.Bool.{Bool, true, false, not, ◌&&◌}
use mathlib.Core.List.{map}
use borrow.Author.Rules.{rules}
use borrow.Author.Tests.{tests}
use Rattle.std.proofs.lemmas.Iterator.{cases_from_any}
use Rattle.std.proofs.lemmas.Iterator.Consumers.{YieldsList-from_first}
use Rattle.records.specs.Records.{walks, same, among, differing}
use Rattle.records.specs.inner.Chains.{records_from, walk_of}
use Rattle.records.proofs.Iterate.{any_among, walk_in_of, differ_first, differ_none}
use Rattle.records.proofs.check.walks_differ.Goals as goal
use Rattle.records.proofs.check.walks_differ.Goals.{After-any}

-- what `any` says of the records after this one
asked : (c : After-any) → c.any.result ≡ among (walk_of c.in-Some.record) (map walk_of (records_from c.next.new.self.block.now c.next.new.self.left c.next.new.self.next))
asked c =
    any_among (walk_of c.in-Some.record) _ c.any.result
    (cases_from_any c.any.new.self _ c.any.result (λ x. same (walk_of x) (walk_of c.in-Some.record) ≡ true) (λ x. same (walk_of x) (walk_of c.in-Some.record) ≡ false) c.any.ensures.ran
    (YieldsList-from_first (λ x. x) (λ s. records_from s.block.now s.left s.next) _ (search rules)) (λ x q k. search (rules, tests)) (λ x q k. search (rules, tests)))

pub loop-record-init : goal.loop-record-init
unfolding walks
loop-record-init c = ap (λ l. differing (map walk_of l)) c.at-rest.ensures ∙ ap differing (walk_in_of _ _)

pub returns-then-any : goal.returns-then-any
returns-then-any c =
    ap (λ (t : Bool). not t && differing (map walk_of (records_from c.next.new.self.block.now c.next.new.self.left c.next.new.self.next))) (sym c.if-any.true)
    ∙ sym (differ_first c.in-Some.record _ _ c.in-Some.ensures.steps (asked (goal.at.returns-then-any c).After-any))
    ∙ c.loop-record.invariant

pub loop-record-preserved : goal.loop-record-preserved
loop-record-preserved c =
    ap (λ (t : Bool). not t && differing (map walk_of (records_from c.next.new.self.block.now c.next.new.self.left c.next.new.self.next))) (sym c.if-any.false)
    ∙ sym (differ_first c.in-Some.record _ _ c.in-Some.ensures.steps (asked (goal.at.loop-record-preserved c).After-any))
    ∙ c.loop-record.invariant

pub returns : goal.returns
returns c = differ_none _ c.in_default.ensures.steps.0 ∙ c.loop-record.invariant
