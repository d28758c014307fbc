-- The steps of a run leave what as many single steps leave as its count says, and one more where a step was refused.
-- Assumes nothing.
use Rattle.std.specs.Prelude.{if◌then◌else◌, Result, Ok, Err}
use Rattle.refusals.specs.declared.Refusal.{Refusal}
use mathlib.Core.Path.{◌≡◌, refl, sym, ◌∙◌, ap}
use mathlib.Core.Bool.{Bool, true, false}
use mathlib.Core.List.{List}
use Prim.Native.Nat.{ℕ, zero, suc, ◌+◌}
use lib.ListN.{take, drop}
use lib.Dec.{eqb}
use native.Mathlib.Omega.{arith}
use Rattle.steps.specs.declared.Answer.{Answer}
use Rattle.machine.specs.declared.run.Stop.{Stop}
use Rattle.machine.specs.declared.run.Stop.TheVariants as stop
use Rattle.machine.specs.Step.{Stepped, step}
use Rattle.machine.specs.Run.{RunResult, stops_with, on_answer, run_from}

-- the tables and the memory after the first k steps of a schedule, each a single step
pub tables_by : ℕ → List ℕ → List ℕ → List ℕ → List ℕ
tables_by zero s t m = t
tables_by (suc k) s t m = tables_by k (drop 6 s) (step t m (take 6 s)).tables (step t m (take 6 s)).memory

pub memory_by : ℕ → List ℕ → List ℕ → List ℕ → List ℕ
memory_by zero s t m = m
memory_by (suc k) s t m = memory_by k (drop 6 s) (step t m (take 6 s)).tables (step t m (take 6 s)).memory

-- accepted steps, and the refused one
abbrev pub steps_of : Stop → ℕ → ℕ
steps_of (stop.Refused x) d = suc d
steps_of stop.End d = d
steps_of stop.Limit d = d

-- r is d accepted steps beyond n, from t and m
pub record Counts (s t m : List ℕ) (n : ℕ) (r : RunResult) : Type 0 where
  pub done : ℕ
  pub count : r.accepted ≡ n + done
  pub same_tables : r.tables ≡ tables_by (steps_of r.why done) s t m
  pub same_memory : r.memory ≡ memory_by (steps_of r.why done) s t m

module _ (s t m : List ℕ) (n : ℕ) where
  abbrev next : Stepped
  next = step t m (take 6 s)

  ended : (w : Stop) → steps_of w 0 ≡ 0 → Counts s t m n (stops_with n w t m)
  unfolding tables_by memory_by
  ended w e =
      record {
        done = 0;
        count = omega arith;
        same_tables = ap (λ (k : ℕ). tables_by k s t m) (sym e);
        same_memory = ap (λ (k : ℕ). memory_by k s t m) (sym e);
      }

  one_more : {r : RunResult} → Counts (drop 6 s) next.tables next.memory (n + 1) r → Counts s t m n r
  unfolding tables_by memory_by
  one_more {r} C =
      record {
        done = suc C.done;
        count = omega (arith, C.count);
        same_tables = C.same_tables ∙ ap (λ (k : ℕ). tables_by k s t m) (later r.why C.done);
        same_memory = C.same_memory ∙ ap (λ (k : ℕ). memory_by k s t m) (later r.why C.done);
      }
    where
      later : (w : Stop) (d : ℕ) → suc (steps_of w d) ≡ steps_of w (suc d)
      later (stop.Refused x) d = refl
      later stop.End d = refl
      later stop.Limit d = refl

  by_answer : (a : Result Answer Refusal) {r : RunResult} → Counts (drop 6 s) next.tables next.memory (n + 1) r →
      Counts s t m n (on_answer a n next.tables next.memory r)
  unfolding tables_by memory_by
  by_answer (Ok a) C = one_more C
  by_answer (Err x) C = record { done = 0; count = omega arith; same_tables = refl; same_memory = refl }

  by_limit : (b : Bool) {r : RunResult} → Counts s t m n r → Counts s t m n (if b then stops_with n stop.Limit t m else r)
  by_limit true C = ended stop.Limit refl
  by_limit false C = C

pub counts : (k : ℕ) (s : List ℕ) (limit n : ℕ) (t m : List ℕ) → Counts s t m n (run_from k s limit n t m)
unfolding run_from
counts zero s limit n t m = ended s t m n stop.End refl
counts (suc k) s limit n t m =
    by_limit s t m n (eqb n limit)
    (by_answer s t m n (step t m (take 6 s)).answer (counts k (drop 6 s) limit (n + 1) (step t m (take 6 s)).tables (step t m (take 6 s)).memory))
