use Rattle.std.specs.Prelude.{Ok}
use mathlib.Core.Path.{sym, ◌∙◌, refl, ap}
use Rattle.cores.proofs.Judging.{access_unfit, access_fit, data_faults, data_undecided}
use Rattle.cores.proofs.Held.{records_linked, held_base}
use native.Mathlib.Omega.{arith}
use Rattle.cores.specs.Core.{view_of}
use Rattle.tlb.specs.declared.Faulting.TheVariants.{Faults, Passes, Undecided}
use Rattle.cores.proofs.Accesses.{with_fault, with_fault_lt}
use Rattle.tlb.specs.Walks.{hit}
use Rattle.cores.proofs.access.access.Goals as goal

pub fits-requires : goal.fits-requires
fits-requires c = record { b_len = c.args.core.now.sound.long; b_value = records_linked _ _ c.args.core.now.sound.records }

pub returns-then-not-fits : goal.returns-then-not-fits
returns-then-not-fits c = access_unfit _ _ _ _ _ _ c.fits.result (rw (← c.user-user.ensures, ← c.data_request-t.ensures) c.fits.ensures) (c.if-not-fits.true)

pub passed-requires : goal.passed-requires
passed-requires c = record { instruction_value = c.requires.instruction_value; second_value = rw (← c.user-user.ensures) (held_base _ c.args.core.now.block.now c.args.walk c.user-user.result (hit c.data_request-t.result c.args.walk) c.args.core.now.sound.records (sym c.fits.ensures ∙ c.if-not-fits.false)); causes_value = c.requires.causes_value }

pub overflow_add-f : goal.overflow_add-f
overflow_add-f c = let h = with_fault_lt (view_of c.args.core.now.block.now) c.args.f.instruction c.args.f.word c.args.f.causes c.requires.causes_value in omega (arith, h)

pub returns-in-Passes : goal.returns-in-Passes
returns-in-Passes c = c.passed.ensures ∙ access_fit _ _ _ _ _ _ c.fits.result Passes (rw (← c.user-user.ensures, ← c.data_request-t.ensures) c.fits.ensures) (c.if-not-fits.false) (sym c.in-Passes.is ∙ (rw (← c.user-user.ensures, ← c.data_request-t.ensures) c.fault-v.ensures))

pub returns-in-Faults : goal.returns-in-Faults
returns-in-Faults c = ap Ok c.stopped.ensures ∙ (rw (c.requires.causes_value, c.faulted.ensures, c.data_request-t.ensures, with_fault _ _ _) refl ∙ (data_faults _ _ _ _ _ _ ∙ access_fit _ _ _ _ _ _ c.fits.result Faults (rw (← c.user-user.ensures, ← c.data_request-t.ensures) c.fits.ensures) (c.if-not-fits.false) (sym c.in-Faults.is ∙ (rw (← c.user-user.ensures, ← c.data_request-t.ensures) c.fault-v.ensures))))

pub returns-in-Undecided : goal.returns-in-Undecided
returns-in-Undecided c = (data_undecided _ _ _ _ _ _ ∙ access_fit _ _ _ _ _ _ c.fits.result Undecided (rw (← c.user-user.ensures, ← c.data_request-t.ensures) c.fits.ensures) (c.if-not-fits.false) (sym c.in-Undecided.is ∙ (rw (← c.user-user.ensures, ← c.data_request-t.ensures) c.fault-v.ensures)))
