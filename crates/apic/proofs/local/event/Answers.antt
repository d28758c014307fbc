-- `apic::local::event` meets its contract, by whether each register has a vector, and by their lowest ones.
use mathlib.Core.Path.{sym, ◌∙◌}
use Rattle.vector_register.proofs.Some.{none_set}
use Rattle.apic.proofs.Events.{event_none, event_free, event_below, event_masked}
use Rattle.apic.proofs.local.event.Goals as goal

pub returns-then-not-any : goal.returns-then-not-any
returns-then-not-any c = event_none c.args.b.now (none_set _ (sym c.any.ensures ∙ c.if-not-any.true))

pub returns-in_err-asked : goal.returns-in_err-asked
returns-in_err-asked c = c.from_residual.ensures ∙ event_none c.args.b.now (sym c.in_err-asked.ensures)

pub returns-then-not-any-2 : goal.returns-then-not-any-2
returns-then-not-any-2 c = event_free c.args.b.now _ (sym c.in_ok-asked.ensures) (none_set _ (sym c.any-2.ensures ∙ c.if-not-any-2.true))

pub returns-in-Some : goal.returns-in-Some
returns-in-Some c = event_masked c.args.b.now _ (sym c.in_ok-asked.ensures) _ (sym c.in-Some.ensures) c.if-served-asked.true

pub returns-in_default : goal.returns-in_default
returns-in_default c = event_below c.args.b.now _ (sym c.in_ok-asked.ensures) _ (sym c.in-Some.ensures) c.if-served-asked.false

pub returns-in_default-2 : goal.returns-in_default-2
returns-in_default-2 c = event_free c.args.b.now _ (sym c.in_ok-asked.ensures) (sym c.in_default.ensures)
