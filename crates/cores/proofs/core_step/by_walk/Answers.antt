use Rattle.std.specs.Prelude.{Ok}
use mathlib.Core.Path.{sym, ◌∙◌, refl, ap}
use Rattle.cores.proofs.Judging.{fetch_unfit, fetch_fit, fetch_faults, fetch_undecided}
use Rattle.cores.proofs.Held.{records_linked, held_base}
use Rattle.tlb.specs.declared.Faulting.TheVariants.{Faults, Passes, Undecided}
use Rattle.tlb.specs.Walks.{hit}
use Rattle.cores.proofs.core_step.by_walk.Goals as goal

pub fits-requires : goal.fits-requires
fits-requires c = record { b_len = c.args.core.now.sound.long; b_value = records_linked _ _ c.args.core.now.sound.records }

pub returns-then-not-fits : goal.returns-then-not-fits
returns-then-not-fits c = fetch_unfit _ _ _ _ _ c.fits.result (rw (← c.user-user.ensures, ← c.fetch_request-t.ensures) c.fits.ensures) (c.if-not-fits.true)

pub passed-requires : goal.passed-requires
passed-requires c = record { b_value = c.requires.b_value; second_value = rw (← c.user-user.ensures) (held_base _ c.args.core.now.block.now c.args.fetch c.user-user.result (hit c.fetch_request-t.result c.args.fetch) c.args.core.now.sound.records (sym c.fits.ensures ∙ c.if-not-fits.false)) }

pub returns-in-Passes : goal.returns-in-Passes
returns-in-Passes c = c.passed.ensures ∙ fetch_fit _ _ _ _ _ c.fits.result Passes (rw (← c.user-user.ensures, ← c.fetch_request-t.ensures) c.fits.ensures) (c.if-not-fits.false) (sym c.in-Passes.is ∙ (rw (← c.user-user.ensures, ← c.fetch_request-t.ensures) c.fault-f.ensures))

pub returns-in-Faults : goal.returns-in-Faults
returns-in-Faults c = ap Ok c.stopped.ensures ∙ (rw (c.without-ca.ensures, c.faulted.ensures, c.fetch_request-t.ensures) refl ∙ (fetch_faults _ _ _ _ _ ∙ fetch_fit _ _ _ _ _ c.fits.result Faults (rw (← c.user-user.ensures, ← c.fetch_request-t.ensures) c.fits.ensures) (c.if-not-fits.false) (sym c.in-Faults.is ∙ (rw (← c.user-user.ensures, ← c.fetch_request-t.ensures) c.fault-f.ensures))))

pub returns-in-Undecided : goal.returns-in-Undecided
returns-in-Undecided c = (fetch_undecided _ _ _ _ _ ∙ fetch_fit _ _ _ _ _ c.fits.result Undecided (rw (← c.user-user.ensures, ← c.fetch_request-t.ensures) c.fits.ensures) (c.if-not-fits.false) (sym c.in-Undecided.is ∙ (rw (← c.user-user.ensures, ← c.fetch_request-t.ensures) c.fault-f.ensures)))
