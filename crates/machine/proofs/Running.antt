-- A run, step by step: what is left of it from any place gives the whole.
-- Assumes nothing.
use Rattle.std.specs.Prelude.{if◌then◌else◌, Result, Ok, Err}
use Rattle.refusals.specs.declared.Refusal.{Refusal}
use Rattle.refusals.specs.declared.Refusal.TheVariants.{Unsound, Schedule}
use mathlib.Core.Path.{◌≡◌, refl, sym, ◌∙◌, ap, subst}
use mathlib.Core.Bool.{Bool, true, false, not, ◌||◌}
use mathlib.Core.List.{List, ◌++◌}
use Prim.Native.Nat.{ℕ, suc, ◌+◌, ◌-◌, ◌*◌, ◌/◌, ◌%◌, ◌<◌, ◌≤◌}
use lib.ListN.{length, take, drop, length-append}
use lib.Seq.{drop-drop, take-append_seam, drop-append_seam}
use Rattle.std.proofs.lemmas.List.{length-drop}
use lib.Dec.{eqb, ltb}
use native.Mathlib.Omega.{arith}
use borrow.Author.Tests.{eq-eqb, ne_eqb, eqb-true, ltb-false, not-false}
use Rattle.word.proofs.Bytes.{Bytes}
use Rattle.word.proofs.Words.{Words}
use Rattle.word.proofs.Tests.{true_false}
use Rattle.tables.specs.Sound.{sound}
use Rattle.steps.specs.declared.Answer.{Answer}
use Rattle.machine.specs.declared.run.Ran.{Ran}
use Rattle.machine.specs.declared.run.Stop.{Stop}
use Rattle.machine.specs.declared.run.Stop.TheVariants as stop
use Rattle.machine.specs.Step.{Stepped, step}
use Rattle.machine.specs.Run.{RunResult, Is, stops_with, on_answer, on_step, run_from, whole, run, stop_number}
use Rattle.machine.proofs.Taking.{Steps}
use Rattle.machine.proofs.Keeping.{step_sound}

-- n steps of the schedule s are accepted; t and m are what they left of t₀ and m₀
pub record Running (s : List ℕ) (limit : ℕ) (t₀ m₀ t m : List ℕ) (n : ℕ) : Type 0 where
  pub within : 6 * n ≤ length s
  pub sixes : length s % 6 ≡ 0
  pub few : length s ≤ 6144
  pub stays_sound : sound t (length m) ≡ true
  pub words : Words t
  pub bytes : Bytes m
  pub rest : run_from (length s / 6 - n) (drop (6 * n) s) limit n t m ≡ run_from (length s / 6) s limit 0 t₀ m₀

or_none : (a b : Bool) → not (a || b) ≡ true → (a ≡ false) × (b ≡ false)
or_none false false e = (refl, refl)
or_none false true e = (refl, sym e)
or_none true b e = absurd (true_false (sym e))

pub begins : (s : List ℕ) (limit : ℕ) (t m : List ℕ) → whole s ≡ true → sound t (length m) ≡ true → Words t → Bytes m → Running s limit t m t m 0
begins s limit t m w e ws bs =
    let p = or_none (not (eqb (length s % 6) 0)) (ltb 6144 (length s)) w in
    record {
      within = omega arith;
      sixes = eqb-true (length s % 6) 0 (not-false (eqb (length s % 6) 0) p.0);
      few = ltb-false 6144 (length s) p.1;
      stays_sound = e;
      words = ws;
      bytes = bs;
      rest = ap (λ (k : ℕ). run_from k s limit 0 t m) (omega arith);
    }

-- x is the next six words of l, and y those after them
pub record Chunk (l x y : List ℕ) : Type 0 where
  pub long : 6 ≤ length l
  pub next_is : x ≡ take 6 l
  pub rest_is : y ≡ drop 6 l

pub chunk_lem : {l x y : List ℕ} → l ≡ x ++ y → length x ≡ 6 → Chunk l x y
chunk_lem {l} {x} {y} e h =
    record {
      long = omega (arith, ap length e, length-append x y, h);
      next_is = sym (ap (take 6) e ∙ ap (λ (k : ℕ). take k (x ++ y)) (sym h) ∙ take-append_seam x y);
      rest_is = sym (ap (drop 6) e ∙ ap (λ (k : ℕ). drop k (x ++ y)) (sym h) ∙ drop-append_seam x y);
    }

module _ {s : List ℕ} {limit : ℕ} {t₀ m₀ t m : List ℕ} {n : ℕ} (R : Running s limit t₀ m₀ t m n) where
  abbrev whole_run : RunResult
  whole_run = run_from (length s / 6) s limit 0 t₀ m₀

  -- what is left of the schedule
  abbrev left : List ℕ
  left = drop (6 * n) s

  abbrev next : Stepped
  next = step t m (take 6 left)

  pub few_accepted : n ≤ 1024
  few_accepted = omega (arith, R.within, R.few)

  left_long : length left ≡ length s - 6 * n
  left_long = length-drop (6 * n) s

  pub ends : length left < 6 → stops_with n stop.End t m ≡ whole_run
  unfolding run_from
  ends h =
      let e : 0 ≡ length s / 6 - n = omega (arith, h, left_long, R.within, R.sixes) in
      ap (λ (k : ℕ). run_from k left limit n t m) e ∙ R.rest

  -- six words are left
  module _ (h : 6 ≤ length left) where
    one_less : suc (length s / 6 - (n + 1)) ≡ length s / 6 - n
    one_less = omega (arith, h, left_long, R.sixes)

    unrolled : run_from (suc (length s / 6 - (n + 1))) left limit n t m ≡ whole_run
    unrolled = ap (λ (k : ℕ). run_from k left limit n t m) one_less ∙ R.rest

    abbrev remaining : RunResult
    remaining = run_from (length s / 6 - (n + 1)) (drop 6 left) limit (n + 1) next.tables next.memory

    pub spent : n ≡ limit → stops_with n stop.Limit t m ≡ whole_run
    unfolding run_from
    spent e = ap (λ b. if b then stops_with n stop.Limit t m else on_step next n remaining) (sym (eq-eqb n limit e)) ∙ unrolled

    module _ (l : n ≡ limit → ⊥) where
      goes_on : on_step next n remaining ≡ whole_run
      unfolding run_from
      goes_on = ap (λ b. if b then stops_with n stop.Limit t m else on_step next n remaining) (sym (ne_eqb n limit l)) ∙ unrolled

      -- r, t' and m' are what the step of the words x leaves
      module _ (x : List ℕ) (q : x ≡ take 6 left) (r : Result Answer Refusal) (t' m' : List ℕ) (S : Steps t m x r t' m') where
        as_next : step t m x ≡ next
        as_next = ap (λ y. step t m y) q

        answered : r ≡ next.answer
        answered = S.0 ∙ ap (λ y. y.answer) as_next

        left_tables : t' ≡ next.tables
        left_tables = S.1.0 ∙ ap (λ y. y.tables) as_next

        left_memory : m' ≡ next.memory
        left_memory = S.1.1.0 ∙ ap (λ y. y.memory) as_next

        pub refused_there : (e : Refusal) → r ≡ Err e → stops_with n (stop.Refused e) t' m' ≡ whole_run
        refused_there e f =
            rw (left_tables, left_memory) (ap (λ y. on_answer y n next.tables next.memory remaining) (sym (sym answered ∙ f)) ∙ goes_on)

        pub accepted_there : (a : Answer) → r ≡ Ok a → Words t' → Bytes m' → Running s limit t₀ m₀ t' m' (n + 1)
        accepted_there a f ws bs =
            let p : 6 * (n + 1) ≡ 6 * n + 6 = omega arith in
            record {
              within = omega (arith, h, left_long);
              sixes = R.sixes;
              few = R.few;
              stays_sound = rw (left_tables, left_memory) (step_sound t m (take 6 left) R.stays_sound R.words R.bytes);
              words = ws;
              bytes = bs;
              rest =
                  rw (left_tables, left_memory, p, ← (drop-drop 6 (6 * n) s))
                  (ap (λ y. on_answer y n next.tables next.memory remaining) (sym (sym answered ∙ f)) ∙ goes_on);
            }

-- ---- the operation

module _ (t m s : List ℕ) (limit : ℕ) where
  pub not_sound_run : sound t (length m) ≡ false → stops_with 0 (stop.Refused Unsound) t m ≡ run t m s limit
  unfolding run
  not_sound_run e = rw (e) refl

  pub not_whole_run : sound t (length m) ≡ true → whole s ≡ false → stops_with 0 (stop.Refused Schedule) t m ≡ run t m s limit
  unfolding run
  not_whole_run e f = rw (e, f) refl

  pub whole_is_run : sound t (length m) ≡ true → whole s ≡ true → run_from (length s / 6) s limit 0 t m ≡ run t m s limit
  unfolding run
  whole_is_run e f = rw (e, f) refl

-- an answer that is a result
pub same_result : {r : Ran} {t m : List ℕ} {n : ℕ} {w : Stop} {t' m' : List ℕ} {x : RunResult} → (r.accepted ≡ n) × (r.stop ≡ w) → t' ≡ t → m' ≡ m → stops_with n w t m ≡ x → Is r t' m' x
same_result p q q' e =
    record {
      same_accepted = p.0 ∙ ap (λ y. y.accepted) e;
      same_why = p.1 ∙ ap (λ y. y.why) e;
      same_number = ap stop_number (p.1 ∙ ap (λ y. y.why) e);
      same_tables = q ∙ ap (λ y. y.tables) e;
      same_memory = q' ∙ ap (λ y. y.memory) e;
    }

pub moved : {r : Ran} {t m : List ℕ} {x y : RunResult} → x ≡ y → Is r t m x → Is r t m y
moved {r} {t} {m} e p = subst (λ z. Is r t m z) e p
