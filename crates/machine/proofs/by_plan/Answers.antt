use Rattle.std.proofs.lemmas.Result.{err_from_is_err_and}
use mathlib.Core.Path.{sym, refl}
use lib.ListN.{length}
use native.Mathlib.Omega.{arith}
use borrow.Author.Tests.{lt-ltb}
use Rattle.tables.specs.Views.{cores_of}
use Rattle.machine.specs.Actions.{tables_after, memory_after}
use Rattle.machine.specs.Decide.{by_step}
use Rattle.machine.specs.inner.Tried.{tried}
use Rattle.machine.proofs.Fitting.{has, chains}
use Rattle.machine.proofs.Deciding.{plan_doable}
use Rattle.machine.proofs.by_plan.Goals as goal

pub returns-in_err-plan : goal.returns-in_err-plan
unfolding by_step tried
returns-in_err-plan c =
    let p = err_from_is_err_and c.from_residual.result c.from_residual.ensures.1 in
    record {
      value = rw (p.1, p.2, ← c.in_err-plan.ensures) refl;
      t_after = rw (← c.in_err-plan.ensures) refl;
      m_after = rw (← c.in_err-plan.ensures) refl;
    }

pub commit-requires : goal.commit-requires
commit-requires c =
    let t = c.args.t.now in
    let m = c.args.m.now in
    let e = c.requires.m_value in
    let d = plan_doable t m e (λ i. grind arith) (λ i. grind arith) c.args.k c.args.p c.requires.p_value (sym c.in_ok-plan.ensures) in
    let h = lt-ltb c.args.k (cores_of t) d.0 in
    record {
      k_in_bounds = has t (length m) e c.args.k h;
      k_value = chains t (length m) e c.args.k h;
      m_value = d.1.is_fitting;
      k_value_2 = d.1.is_ready;
    }

pub returns : goal.returns
unfolding by_step tried tables_after memory_after
returns c =
    record {
      value = rw (← c.in_ok-plan.ensures) refl;
      t_after = rw (c.commit.ensures.t_after, ← c.in_ok-plan.ensures) refl;
      m_after = rw (c.commit.ensures.m_after, ← c.in_ok-plan.ensures) refl;
    }
