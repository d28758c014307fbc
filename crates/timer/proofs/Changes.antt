-- What a tick and a write at the ports change: the lines, the period and the ticks left. Of the lines that is line 0
-- alone, and words stay words.
-- Assumes nothing.
use Rattle.std.specs.Prelude.{if◌then◌else◌}
use mathlib.Core.Path.{◌≡◌, refl, ◌∙◌, ap}
use mathlib.Core.Logic.{◌≢◌, ◌⊎◌, inl, inr}
use mathlib.Core.Bool.{Bool, true, false}
use mathlib.Core.List.{List}
use Prim.Native.Nat.{ℕ, ◌-◌, ◌^◌, ◌<◌, ◌≤◌}
use native.Mathlib.Omega.{arith}
use lib.ListN.{length, get_or, set}
use lib.Seq.{get_or-set_same, get_or-set_other}
use lib.Dec.{eqb}
use Rattle.word.specs.Word.{bit, with_bit}
use Rattle.word.proofs.Bits.{put_below, bit_other}
use Rattle.word.proofs.Words.{Words, set_below}
use Rattle.layout.specs.Layout.{header_words, lines, period, left}
use Rattle.layout.specs.Lines.{line_set}
use Rattle.timer.specs.Timer.{ticked, timer_written}

-- a word that the timer changes
abbrev pub Timed : ℕ → Type 0
Timed i = (i ≡ lines) ⊎ ((period ≤ i) × (i ≤ left))

in_timer : (i : ℕ) → period ≤ i → i ≤ left → Timed i
in_timer i p q = inr (p, q)

-- what holds whichever of these words is set holds after a tick and after a write
module _ (P : List ℕ → Type 0) (f : (t : List ℕ) (i v : ℕ) → Timed i → P t → P (set t i v)) (t : List ℕ) (p : P t) where
  line_by : (level : ℕ) → P (line_set t 0 level)
  line_by level = f t lines (with_bit (get_or t lines 0) 0 level) (inl refl) p

  pub by_ticked : P (ticked t)
  unfolding ticked
  by_ticked = go (eqb (get_or t period 0) 0) (eqb (get_or t left 0 - 1) 0)
    where
      go : (x y : Bool) → P (if x then t else if y then set (line_set t 0 1) left (get_or t period 0) else set t left (get_or t left 0 - 1))
      go true y = p
      go false true = f (line_set t 0 1) left (get_or t period 0) (in_timer left (omega arith) (omega arith)) (line_by 1)
      go false false = f t left (get_or t left 0 - 1) (in_timer left (omega arith) (omega arith)) p

  pub by_written : (a v : ℕ) → P (timer_written t a v)
  unfolding timer_written
  by_written a v = go (eqb a 0)
    where
      go : (x : Bool) → P (if x then set (set t period v) left v else line_set t 0 0)
      go true = f (set t period v) left v (in_timer left (omega arith) (omega arith)) (f t period v (in_timer period (omega arith) (omega arith)) p)
      go false = line_by 0

-- the other lines stay
module _ (t : List ℕ) (long : header_words ≤ length t) (j : ℕ) (d : j ≢ 0) where
  line_other : (level : ℕ) → level < 2 → bit (get_or (line_set t 0 level) lines 0) j ≡ bit (get_or t lines 0) j
  line_other level h =
      ap (λ (w : ℕ). bit w j) (get_or-set_same t lines (with_bit (get_or t lines 0) 0 level) 0 (omega arith))
      ∙ bit_other (get_or t lines 0) 0 level h j d

  pub ticked_other : bit (get_or (ticked t) lines 0) j ≡ bit (get_or t lines 0) j
  unfolding ticked
  ticked_other = go (eqb (get_or t period 0) 0) (eqb (get_or t left 0 - 1) 0)
    where
      go : (x y : Bool) → bit (get_or (if x then t else if y then set (line_set t 0 1) left (get_or t period 0) else set t left (get_or t left 0 - 1)) lines 0) j ≡ bit (get_or t lines 0) j
      go true y = refl
      go false true = ap (λ (w : ℕ). bit w j) (get_or-set_other (line_set t 0 1) left lines (get_or t period 0) 0 (omega arith)) ∙ line_other 1 (omega arith)
      go false false = ap (λ (w : ℕ). bit w j) (get_or-set_other t left lines (get_or t left 0 - 1) 0 (omega arith))

  pub written_other : (a v : ℕ) → bit (get_or (timer_written t a v) lines 0) j ≡ bit (get_or t lines 0) j
  unfolding timer_written
  written_other a v = go (eqb a 0)
    where
      go : (x : Bool) → bit (get_or (if x then set (set t period v) left v else line_set t 0 0) lines 0) j ≡ bit (get_or t lines 0) j
      go true = ap (λ (w : ℕ). bit w j) (get_or-set_other (set t period v) left lines v 0 (omega arith) ∙ get_or-set_other t period lines v 0 (omega arith))
      go false = line_other 0 (omega arith)

-- words stay words
module _ (t : List ℕ) (w : Words t) where
  line_words : (level : ℕ) → level < 2 → Words (line_set t 0 level)
  line_words level h = set_below t lines (with_bit (get_or t lines 0) 0 level) w (put_below 32 (get_or t lines 0) 0 level (w lines) (omega arith) h)

  pub ticked_words : Words (ticked t)
  unfolding ticked
  ticked_words = go (eqb (get_or t period 0) 0) (eqb (get_or t left 0 - 1) 0)
    where
      go : (x y : Bool) → Words (if x then t else if y then set (line_set t 0 1) left (get_or t period 0) else set t left (get_or t left 0 - 1))
      go true y = w
      go false true = set_below (line_set t 0 1) left (get_or t period 0) (line_words 1 (omega arith)) (w period)
      go false false = set_below t left (get_or t left 0 - 1) w (omega (arith, w left))

  pub written_words : (a v : ℕ) → v < 2 ^ 32 → Words (timer_written t a v)
  unfolding timer_written
  written_words a v h = go (eqb a 0)
    where
      go : (x : Bool) → Words (if x then set (set t period v) left v else line_set t 0 0)
      go true = set_below (set t period v) left v (set_below t period v w h) h
      go false = line_words 0 (omega arith)
