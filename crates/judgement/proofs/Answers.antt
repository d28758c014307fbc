-- Laws of the report: lines after lines, and what is said of each verdict.
-- Assumes nothing.
use mathlib.Core.Path.{◌≡◌, refl, sym, ap, ◌∙◌}
use mathlib.Core.Bool.{Bool, true, false}
use mathlib.Core.Logic.{◌≢◌}
use mathlib.Core.List.{List, [], ◌++◌, append-nil, append_assoc}
use Prim.Native.Nat.{ℕ, suc, ◌+◌, ◌-◌, ◌<◌, ◌≤◌}
use native.Mathlib.Omega.{arith}
use lib.ListN.{length}
use borrow.Author.Tests.{eq-eqb, ne_eqb}
use Rattle.text.specs.Text.{ascii}
use Rattle.tables.specs.Views.{cores_of}
use Rattle.tables.specs.Sound.{sound}
use Rattle.reach.specs.Reach.{is_group, members, map_for}
use Rattle.separation.specs.Apart.{rest, apart, apart_on}
use Rattle.std.specs.Prelude.{Option, Result, Ok, Err}
use Rattle.std.specs.Option.{is_none}
use Rattle.refusals.specs.declared.Refusal.{Refusal}
use Rattle.refusals.specs.Numbers.{number}
use Rattle.reasons.specs.declared.Reason.{Reason}
use Rattle.reasons.specs.Why.{reason_number, first_after, why_after, first_words, second_words}
use Rattle.reasons.proofs.None.{no_reason}
use Rattle.reasons.proofs.Telling.{judged}
use Rattle.reason_lines.specs.Reasons.{way_of, reason_text, reason_lines}
use Rattle.judgement.specs.Report.{refused_text}
use Rattle.judgement.specs.Report.{shown_sides, sides_text, closing_text, said_of, report_text}

-- ---- reasons, line by line

none_left : {whole left : List ℕ} (x : List ℕ) → left ≡ [] → x ++ left ≡ whole → x ≡ whole
none_left x e l = sym (append-nil x) ∙ ap (λ (y : List ℕ). x ++ y) (sym e) ∙ l

module _ (g : ℕ) (t m : List ℕ) (s : sound t (length m) ≡ true) (i : is_group g (cores_of t) ≡ true) where
  after_is : (a : ℕ) (r : Option Reason) → r ≡ first_after g t m (6 - a) a → why_after a g t m ≡ Ok r
  after_is a r e = judged a g t m s i ∙ ap Ok (sym e)

  -- the reason r after a, by its number n
  module _ (d a n : ℕ) (r : Option Reason) (e : r ≡ first_after g t m (6 - a) a) (p : n ≡ reason_number r) where
    no_line : n ≡ 0 → reason_lines (suc d) a g t m ≡ []
    unfolding reason_lines
    no_line z = rw (after_is a r e, eq-eqb (reason_number r) 0 (sym p ∙ z)) refl

    next_line : n ≢ 0 → reason_lines (suc d) a g t m ≡ reason_text n (way_of (first_words r)) (way_of (second_words r)) ++ reason_lines d n g t m
    unfolding reason_lines
    next_line z = rw (after_is a r e, ne_eqb (reason_number r) 0 (λ u. z (p ∙ u)), p) refl

  -- the text x, and the lines left after k of them
  module _ (k a n : ℕ) (r : Option Reason) (e : r ≡ first_after g t m (6 - a) a) (p : n ≡ reason_number r) (h : k < 6) (x : List ℕ) {whole : List ℕ} (l : x ++ reason_lines (6 - k) a g t m ≡ whole) where
    left : 6 - k ≡ suc (6 - (k + 1))
    left = omega arith

    pub line_done : n ≡ 0 → x ≡ whole
    line_done z = none_left x (ap (λ (d : ℕ). reason_lines d a g t m) left ∙ no_line (6 - (k + 1)) a n r e p z) l

    pub line_more : n ≢ 0 → {y : List ℕ} → y ≡ x ++ reason_text n (way_of (first_words r)) (way_of (second_words r)) → y ++ reason_lines (6 - (k + 1)) n g t m ≡ whole
    line_more z q =
        let line : List ℕ = reason_text n (way_of (first_words r)) (way_of (second_words r)) in
        let rest : List ℕ = reason_lines (6 - (k + 1)) n g t m in
        ap (λ (u : List ℕ). u ++ rest) q ∙ append_assoc x line rest
        ∙ ap (λ (u : List ℕ). x ++ u) (sym (ap (λ (d : ℕ). reason_lines d a g t m) left ∙ next_line (6 - (k + 1)) a n r e p z)) ∙ l

  pub line_last : (k a : ℕ) → 6 ≤ k → {whole : List ℕ} (x : List ℕ) → x ++ reason_lines (6 - k) a g t m ≡ whole → x ≡ whole
  unfolding reason_lines
  line_last k a h x l = let e : 6 - k ≡ 0 = omega arith in none_left x (ap (λ (d : ℕ). reason_lines d a g t m) e) l

  -- the verdict by the first reason
  verdict_is : (r : Option Reason) (b : Bool) → r ≡ first_after g t m 6 0 → b ≡ is_none r → apart_on g t m ≡ Ok b
  unfolding apart_on
  verdict_is r b e p = let q : apart g t m ≡ b = sym (no_reason g t m) ∙ ap is_none (sym e) ∙ sym p in rw (s, i, q) refl

  pub verdict_yes : (r : Option Reason) (b : Bool) → r ≡ first_after g t m 6 0 → b ≡ is_none r → b ≡ true → apart_on g t m ≡ Ok true
  verdict_yes r b e p z = verdict_is r b e p ∙ rw z refl

  pub verdict_no : (r : Option Reason) (b : Bool) → r ≡ first_after g t m 6 0 → b ≡ is_none r → b ≡ false → apart_on g t m ≡ Ok false
  verdict_no r b e p z = verdict_is r b e p ∙ rw z refl

-- ---- the sides, with the maps that were filled

module _ (g r : ℕ) (t m own other : List ℕ) (e : own ≡ map_for (members g (cores_of t)) t m) (f : members r (cores_of t) ≡ rest g t)
    (o : other ≡ map_for (members r (cores_of t)) t m) where
  pub sides_made : shown_sides (members g (cores_of t)) (members r (cores_of t)) own other ≡ sides_text g t m
  unfolding sides_text
  sides_made =
      let G : List ℕ = members g (cores_of t) in
      let h : other ≡ map_for (rest g t) t m = o ∙ ap (λ (l : List ℕ). map_for l t m) f in
      ap (λ (x : List ℕ). shown_sides G (members r (cores_of t)) x other) e
      ∙ ap (λ (x : List ℕ). shown_sides G x (map_for G t m) other) f
      ∙ ap (λ (x : List ℕ). shown_sides G (rest g t) (map_for G t m) x) h

-- ---- what is said of each verdict

module _ (g : ℕ) (t m : List ℕ) where
  said : (v : Result Bool Refusal) → apart_on g t m ≡ v → said_of v g t m ≡ report_text g t m
  unfolding report_text
  said v e = ap (λ (w : Result Bool Refusal). said_of w g t m) (sym e)

  pub said_yes : apart_on g t m ≡ Ok true → sides_text g t m ++ closing_text g t (ascii "apart\n") ≡ report_text g t m
  unfolding said_of
  said_yes e = said (Ok true) e

  pub said_no : apart_on g t m ≡ Ok false → sides_text g t m ++ reason_lines 6 0 g t m ++ closing_text g t (ascii "not apart\n") ≡ report_text g t m
  unfolding said_of
  said_no e = said (Ok false) e

  pub said_refused : (n : Refusal) → apart_on g t m ≡ Err n → refused_text (number n) ≡ report_text g t m
  unfolding said_of
  said_refused n e = said (Err n) e
