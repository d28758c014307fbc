-- The parts of an input: the text of the steps is that of a part and then that of the rest, from where the part ended.
-- Assumes nothing.
use mathlib.Core.Path.{◌≡◌, refl, sym, ap, ◌∙◌}
use mathlib.Core.Bool.{Bool, true, false, ◌&&◌}
use mathlib.Core.List.{List, [], ◌∷◌, ◌++◌, append_assoc, append-nil}
use Prim.Native.Nat.{ℕ, zero, suc, ◌+◌, ◌*◌, ◌/◌, ◌%◌, ◌≤◌}
use native.Mathlib.Omega.{arith}
use lib.Dec.{leb}
use lib.ListN.{length, take, drop, length-drop, length-append, get_or-append}
use lib.Seq.{drop-drop, drop_at, drop-append-le, take-append-le}
use borrow.Author.Tests.{le-leb}
use Rattle.word.specs.Bytes.{words_in}
use Rattle.word.proofs.Bytes.{words_take}
use Rattle.lines.specs.Lines.{line_text}
use Rattle.simulation.specs.Simulated.{Progress, step_at, after_steps, step_lines, last_text, cores_byte, pages_byte, memory_bytes, is_sized, is_started, first_text, started, steps_in, steps_text, simulated}

-- ---- only the bytes of a step are asked

front_words : (a r : List ℕ) (at : ℕ) → at + 24 ≤ length a → words_in 6 (drop at (a ++ r)) ≡ words_in 6 (drop at a)
front_words a r at h =
    let e : drop at (a ++ r) ≡ drop at a ++ r = drop-append-le at a r (omega arith) in
    let l : 24 ≤ length (drop at a) = omega (arith, length-drop at a) in
    ap (words_in 6) e ∙ sym (words_take 6 24 (drop at a ++ r) (omega arith)) ∙ ap (words_in 6) (take-append-le 24 (drop at a) r l) ∙ words_take 6 24 (drop at a) (omega arith)

-- n steps in a part are those in the part with a rest after it
pub after_front : (n : ℕ) (p : Progress) (a r : List ℕ) → 24 * n ≤ length a → after_steps n p (a ++ r) ≡ after_steps n p a
unfolding after_steps
after_front zero p a r h = refl
after_front (suc n) p a r h = rw (after_front n p a r (omega arith), front_words a r (24 * n) (omega arith)) refl

pub lines_front : (n place : ℕ) (p : Progress) (a r : List ℕ) → 24 * n ≤ length a → step_lines n place p (a ++ r) ≡ step_lines n place p a
unfolding step_lines
lines_front zero place p a r h = refl
lines_front (suc n) place p a r h = rw (lines_front n place p a r (omega arith), after_front n p a r (omega arith), front_words a r (24 * n) (omega arith)) refl

-- ---- steps after k others

module _ (k : ℕ) (p : Progress) (b : List ℕ) where
  same_place : (n : ℕ) → drop (24 * n) (drop (24 * k) b) ≡ drop (24 * (k + n)) b
  same_place n = let e : 24 * k + 24 * n ≡ 24 * (k + n) = omega arith in drop-drop (24 * n) (24 * k) b ∙ ap (λ (j : ℕ). drop j b) e

  pub after_more : (n : ℕ) → after_steps (k + n) p b ≡ after_steps n (after_steps k p b) (drop (24 * k) b)
  unfolding after_steps
  after_more zero = let e : k + 0 ≡ k = omega arith in ap (λ (j : ℕ). after_steps j p b) e
  after_more (suc n) =
      let e : k + suc n ≡ suc (k + n) = omega arith in
      rw e (rw (same_place n, sym (after_more n)) refl)

  pub lines_more : (n place : ℕ) → step_lines (k + n) place p b ≡ step_lines k place p b ++ step_lines n (place + k) (after_steps k p b) (drop (24 * k) b)
  unfolding step_lines
  lines_more zero place = let e : k + 0 ≡ k = omega arith in rw e (sym (append-nil (step_lines k place p b)))
  lines_more (suc n) place =
      let e : k + suc n ≡ suc (k + n) = omega arith in
      let f : place + (k + n) ≡ place + k + n = omega arith in
      rw e (rw (same_place n, sym (after_more n), lines_more n place, f) (append_assoc (step_lines k place p b) (step_lines n (place + k) (after_steps k p b) (drop (24 * k) b)) (line_text (place + k + n) (step_at (after_steps (k + n) p b) b (24 * (k + n))).answer)))

-- ---- a part of k whole steps and the rest

module _ (k : ℕ) (p : Progress) (a r : List ℕ) (h : length a ≡ 24 * k) (n : ℕ) where
  rest_is : drop (24 * k) (a ++ r) ≡ r
  rest_is = drop_at a r (24 * k) h

  pub after_part : after_steps (k + n) p (a ++ r) ≡ after_steps n (after_steps k p a) r
  after_part = after_more k p (a ++ r) n ∙ rw (rest_is, after_front k p a r (omega arith)) refl

  pub lines_part : (place : ℕ) → step_lines (k + n) place p (a ++ r) ≡ step_lines k place p a ++ step_lines n (place + k) (after_steps k p a) r
  lines_part place = lines_more k p (a ++ r) n place ∙ rw (rest_is, after_front k p a r (omega arith), lines_front k place p a r (omega arith)) refl

-- ---- all parts: whole steps in each, and what is left in a last one

-- the bytes of parts and of the last one
abbrev pub joined : List (List ℕ) → List ℕ → List ℕ
joined [] last = last
joined (a ∷ l) last = a ++ joined l last

-- what is said of each, from a place on: each goes on where the one before ended
abbrev pub parts_text : ℕ → Progress → List (List ℕ) → List ℕ → List ℕ
parts_text place p [] last =
    step_lines (length last / 24) place p last ++ last_text (place + length last / 24) (after_steps (length last / 24) p last).accepted (length last % 24)
parts_text place p (a ∷ l) last =
    step_lines (length a / 24) place p a ++ parts_text (place + length a / 24) (after_steps (length a / 24) p a) l last

abbrev pub Whole : List (List ℕ) → Type 0
Whole [] = Unit {0}
Whole (a ∷ l) = (length a % 24 ≡ 0) × Whole l

and-true : (p q : Bool) → (p && q) ≡ true → (p && true) ≡ true
and-true true q e = refl
and-true false q e = e

-- what is said of the n steps in b from a place on
abbrev rest_text : ℕ → Progress → List ℕ → ℕ → List ℕ
rest_text place p b n = step_lines n place p b ++ last_text (place + n) (after_steps n p b).accepted (length b % 24)

pub in_parts :
    (place : ℕ) (p : Progress) (l : List (List ℕ)) (last : List ℕ) → Whole l
    → parts_text place p l last ≡ rest_text place p (joined l last) (length (joined l last) / 24)
in_parts place p [] last w = refl
in_parts place p (a ∷ l) last (e, w) =
    let b : List ℕ = joined l last in
    let k : ℕ = length a / 24 in
    let n : ℕ = length b / 24 in
    let h : length a ≡ 24 * k = omega arith in
    let m : length (a ++ b) / 24 ≡ k + n = omega (arith, length-append a b) in
    let r : length (a ++ b) % 24 ≡ length b % 24 = omega (arith, length-append a b) in
    let f : place + k + n ≡ place + (k + n) = omega arith in
    let t : List ℕ = last_text (place + (k + n)) (after_steps n (after_steps k p a) b).accepted (length b % 24) in
    ap (λ (x : List ℕ). step_lines k place p a ++ x) (in_parts (place + k) (after_steps k p a) l last w)
    ∙ ap (λ (j : ℕ). step_lines k place p a ++ (step_lines n (place + k) (after_steps k p a) b ++ last_text j (after_steps n (after_steps k p a) b).accepted (length b % 24))) f
    ∙ sym (append_assoc (step_lines k place p a) (step_lines n (place + k) (after_steps k p a) b) t)
    ∙ ap (λ (x : List ℕ). x ++ t) (sym (lines_part k p a b h n place))
    ∙ ap (λ (q : Progress). step_lines (k + n) place p (a ++ b) ++ last_text (place + (k + n)) q.accepted (length b % 24)) (sym (after_part k p a b h n))
    ∙ ap (λ (j : ℕ). step_lines (k + n) place p (a ++ b) ++ last_text (place + (k + n)) (after_steps (k + n) p (a ++ b)).accepted j) (sym r)
    ∙ ap (rest_text place p (a ++ b)) (sym m)

-- ---- the front and the parts

module _ (f b : List ℕ) where
  module _ (h : 2 ≤ length f) where
    same_cores : cores_byte (f ++ b) ≡ cores_byte f
    same_cores = get_or-append f b 0 0 (omega arith)

    same_pages : pages_byte (f ++ b) ≡ pages_byte f
    same_pages = get_or-append f b 0 1 (omega arith)

    same_sized : is_sized (f ++ b) ≡ is_sized f
    unfolding is_sized
    same_sized = rw (same_cores, same_pages, le-leb 2 (length f) h, le-leb 2 (length (f ++ b)) (omega (arith, length-append f b))) refl

    -- where the two bytes are out of range nothing more is read
    pub bad_front : is_sized f ≡ false → simulated (f ++ b) ≡ first_text f
    unfolding simulated is_started
    bad_front e = rw (same_sized, e) refl

  module _ (s : is_started f ≡ true) (l : length f ≡ 2 + memory_bytes f) where
    long : 2 ≤ length f
    long = omega arith

    same_start : is_started (f ++ b) ≡ true
    unfolding is_started
    same_start =
        rw (same_sized long, same_pages long, le-leb (2 + memory_bytes f) (length (f ++ b)) (omega (arith, length-append f b)))
        (and-true (is_sized f) (leb (2 + memory_bytes f) (length f)) s)

    same_memory : take (memory_bytes f) (drop 2 (f ++ b)) ≡ take (memory_bytes f) (drop 2 f)
    same_memory =
        ap (take (memory_bytes f)) (drop-append-le 2 f b long)
        ∙ take-append-le (memory_bytes f) (drop 2 f) b (omega (arith, length-drop 2 f))

    steps_are : steps_in (f ++ b) ≡ b
    steps_are = rw (same_pages long) (drop_at f b (2 + memory_bytes f) l)

    same_started : started (f ++ b) ≡ started f
    same_started = rw (same_cores long, same_pages long, same_memory) refl

    pub good_front : simulated (f ++ b) ≡ first_text f ++ steps_text (length b / 24) (started f) b
    unfolding simulated
    good_front = rw (same_start, s, steps_are, same_started) refl

-- the whole text is that of the front and that of the parts, one after the other
pub parts_join :
    (f : List ℕ) (l : List (List ℕ)) (last : List ℕ) → is_started f ≡ true → length f ≡ 2 + memory_bytes f → Whole l
    → simulated (f ++ joined l last) ≡ first_text f ++ parts_text 0 (started f) l last
parts_join f l last s e w =
    let b : List ℕ = joined l last in
    let n : ℕ = length b / 24 in
    let z : n ≡ 0 + n = omega arith in
    good_front f b s e
    ∙ ap (λ (j : ℕ). first_text f ++ (step_lines n 0 (started f) b ++ last_text j (after_steps n (started f) b).accepted (length b % 24))) z
    ∙ ap (λ (x : List ℕ). first_text f ++ x) (sym (in_parts 0 (started f) l last w))
