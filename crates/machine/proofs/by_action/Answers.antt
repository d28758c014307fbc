use Rattle.std.proofs.lemmas.Result.{err_from_is_err_and}
use mathlib.Core.Path.{sym, refl}
use lib.ListN.{length}
use Rattle.tables.proofs.Lift.{header}
use Rattle.machine.specs.Decide.{by_step}
use Rattle.machine.specs.inner.Tried.{tried}
use Rattle.machine.proofs.Deciding.{apic_doable}
use Rattle.machine.proofs.by_action.Goals as goal

pub action-requires : goal.action-requires
action-requires c = record { t_len = (header c.args.t.now (length c.args.m.now) c.requires.m_value).long; p_value = c.requires.p_value }

pub returns-in_err-a : goal.returns-in_err-a
unfolding by_step tried
returns-in_err-a c =
    let p = err_from_is_err_and c.from_residual.result c.from_residual.ensures.1 in
    record { value = rw (p.1, p.2, ← c.in_err-a.ensures) refl; t_after = rw (← c.in_err-a.ensures) refl }

pub commit-requires : goal.commit-requires
commit-requires c =
    let H = header c.args.t.now (length c.args.m.now) c.requires.m_value in
    record { t_few = H.few_cores; t_len = H.long; a_value = apic_doable c.args.t.now c.args.m.now c.args.p c.requires.p_value (sym c.in_ok-a.ensures) }

pub returns : goal.returns
unfolding by_step tried
returns c = record { value = rw (← c.in_ok-a.ensures) refl; t_after = rw (c.commit.ensures, ← c.in_ok-a.ensures) refl }
