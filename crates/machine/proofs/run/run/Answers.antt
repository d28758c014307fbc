use mathlib.Core.Path.{sym, ◌∙◌, ap, refl}
use mathlib.Core.Bool.{not}
use Rattle.machine.proofs.Running.{same_result, not_sound_run, not_whole_run, whole_is_run, moved}
use Rattle.machine.proofs.run.run.Goals as goal

pub returns-then-not-sound : goal.returns-then-not-sound
returns-then-not-sound c = same_result c.new.ensures refl refl (not_sound_run c.args.t.now c.args.m.now c.args.schedule.now c.args.limit (sym c.sound.ensures ∙ c.if-not-sound.true))

pub returns-then-schedule : goal.returns-then-schedule
returns-then-schedule c = same_result c.new-then-schedule.ensures refl refl (not_whole_run c.args.t.now c.args.m.now c.args.schedule.now c.args.limit (sym c.sound.ensures ∙ c.if-not-sound.false) (ap not c.if-schedule.true))

pub steps-requires : goal.steps-requires
steps-requires c = record { m_value = sym c.sound.ensures ∙ c.if-not-sound.false; schedule_value = ap not c.if-schedule.false }

pub returns : goal.returns
returns c = moved (whole_is_run c.args.t.now c.args.m.now c.args.schedule.now c.args.limit (sym c.sound.ensures ∙ c.if-not-sound.false) (ap not c.if-schedule.false)) c.steps.ensures
