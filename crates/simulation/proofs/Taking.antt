-- Laws of one step more: its line after those before it, and the machine after it.
-- Assumes nothing.
use Rattle.std.specs.Prelude.{Result, Ok, Err, is_ok}
use Rattle.refusals.specs.declared.Refusal.{Refusal}
use mathlib.Core.Path.{◌≡◌, refl, ap, ◌∙◌}
use mathlib.Core.List.{List, ◌++◌}
use Prim.Native.Nat.{ℕ, ◌+◌, ◌-◌, ◌*◌, ◌≤◌}
use native.Mathlib.Numerals.{add-one}
use native.Mathlib.Omega.{arith}
use lib.ListN.{length, take, drop, length-drop}
use lib.Seq.{take_all}
use borrow.Author.Tests.{eq-eqb, ne_eqb}
use Rattle.word.specs.Word.{flag}
use Rattle.word.specs.Bytes.{words_in}
use Rattle.text.specs.Text.{Put, ascii}
use Rattle.text.proofs.Texts.{follow, reworded, nothing}
use Rattle.steps.specs.declared.Answer.{Answer}
use Rattle.machine.specs.Step.{Stepped, step}
use Rattle.lines.specs.Lines.{line_text, end_text}
use Rattle.simulation.specs.Simulated.{Progress, from, step_at, stepped, after_steps, step_lines, last_text}

-- the words of a step, read from its place to the end
pub step_words : (s b : List ℕ) (at : ℕ) → s ≡ words_in 6 (take (length b - at) (drop at b)) → s ≡ words_in 6 (drop at b)
step_words s b at e = e ∙ ap (words_in 6) (take_all (length b - at) (drop at b) (omega (arith, length-drop at b)))

pub no_lines : (o : List ℕ) (place : ℕ) (p : Progress) (b : List ℕ) → Put o 0 (step_lines 0 place p b) 0 o
unfolding step_lines
no_lines o place p b = nothing o 0

pub none_after : (p : Progress) (b : List ℕ) → p ≡ after_steps 0 p b
unfolding after_steps
none_after p b = refl

module _ (i : ℕ) (p : Progress) (b t m : List ℕ) (k : ℕ) (e : from t m k ≡ after_steps i p b) where
  taken_is : step t m (words_in 6 (drop (24 * i) b)) ≡ step_at (after_steps i p b) b (24 * i)
  taken_is = ap (λ (q : Progress). step_at q b (24 * i)) e

  module _ (a : Result Answer Refusal) (f : a ≡ (step t m (words_in 6 (drop (24 * i) b))).answer) where
    pub lines_next :
        (place : ℕ) {o : List ℕ} {w : ℕ} {c : List ℕ} {v : ℕ} {d : List ℕ} → Put o 0 (step_lines i place p b) w c → Put c w (line_text (place + i) a) v d
        → Put o 0 (step_lines (i + 1) place p b) v d
    unfolding step_lines
    lines_next place P Q =
        let g : a ≡ (step_at (after_steps i p b) b (24 * i)).answer = f ∙ ap (λ (s : Stepped). s.answer) taken_is in
        rw (add-one i) (follow P (reworded (ap (line_text (place + i)) g) Q))

    pub after_next :
        (t' m' : List ℕ) (k' : ℕ) → t' ≡ (step t m (words_in 6 (drop (24 * i) b))).tables → m' ≡ (step t m (words_in 6 (drop (24 * i) b))).memory
        → k' ≡ k + flag (is_ok a) → from t' m' k' ≡ after_steps (i + 1) p b
    unfolding after_steps
    after_next t' m' k' x y z =
        let s : Stepped = step t m (words_in 6 (drop (24 * i) b)) in
        rw (add-one i)
        (ap (λ (l : List ℕ). from l m' k') x
        ∙ ap (λ (l : List ℕ). from s.tables l k') y
        ∙ ap (λ (n : ℕ). from s.tables s.memory n) (z ∙ ap (λ (r : Result Answer Refusal). k + flag (is_ok r)) f)
        ∙ ap (λ (q : Progress). stepped q (step_at q b (24 * i))) e)

-- ---- the last lines

module _ (n a left : ℕ) where
  pub last_whole : left ≡ 0 → end_text a (n - a) ≡ last_text n a left
  unfolding last_text
  last_whole e = rw (eq-eqb left 0 e) refl

  pub last_cut : (left ≡ 0 → ⊥) → ascii "cut\n" ++ end_text a (n - a) ≡ last_text n a left
  unfolding last_text
  last_cut e = rw (ne_eqb left 0 e) refl

flag_one : (a : Result Answer Refusal) → flag (is_ok a) ≤ 1
flag_one (Ok x) = omega arith
flag_one (Err r) = omega arith

pub flag_few : (n : ℕ) (a : Result Answer Refusal) → n ≡ flag (is_ok a) → n ≤ 1
flag_few n a e = omega (arith, flag_one a, e)

-- ---- all steps of a part

module _ (i n : ℕ) (h : i ≤ n) (k : n ≤ i) (p : Progress) (b : List ℕ) where
  all : i ≡ n
  all = omega arith

  pub lines_all : (place : ℕ) {o : List ℕ} {w : ℕ} {c : List ℕ} → Put o 0 (step_lines i place p b) w c → Put o 0 (step_lines n place p b) w c
  lines_all place P = reworded (ap (λ (j : ℕ). step_lines j place p b) all) P

  pub after_all : {q : Progress} → q ≡ after_steps i p b → q ≡ after_steps n p b
  after_all e = e ∙ ap (λ (j : ℕ). after_steps j p b) all
