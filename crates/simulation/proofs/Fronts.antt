-- Laws of the front of an input, by the code's tests of it; and the machine that is made.
-- Assumes nothing.
use Rattle.std.specs.Prelude.{if◌then◌else◌}
use mathlib.Core.Path.{◌≡◌, refl, sym, ap, ◌∙◌, subst}
use mathlib.Core.Bool.{Bool, true, false, not, ◌&&◌, ◌||◌}
use mathlib.Core.List.{List}
use Prim.Native.Nat.{ℕ, ◌+◌, ◌-◌, ◌*◌, ◌/◌, ◌%◌, ◌≤◌, ◌<◌}
use native.Mathlib.Omega.{arith}
use lib.Dec.{T, eqb, ltb, leb, leb→le}
use lib.ListN.{length, take, drop, length-drop}
use lib.Seq.{length-take-le}
use borrow.Author.Tests.{lt-leb, le-leb, lt-ltb, le-ltb}
use Rattle.word.proofs.Tests.{and_left, and_right}
use Rattle.text.specs.Text.{ascii}
use Rattle.layout.specs.Layout.{table_words, most_cores}
use Rattle.tables.specs.Sound.{up_to}
use Rattle.std.specs.Prelude.{Option}
use Rattle.refusals.specs.declared.Refusal.{Refusal}
use Rattle.tables.specs.Make.{made, made_or, refusal}
use Rattle.tables.proofs.Answers.{up_to_lem, accept}
use Rattle.simulation.specs.Simulated.{cores_byte, pages_byte, memory_bytes, is_sized, is_started, first_text}

-- what memory_bytes answers
abbrev pub asked : List ℕ → ℕ
asked input = if is_sized input then memory_bytes input else 0

module _ (input : List ℕ) where
  pub none_short : length input < 2 → 0 ≡ asked input
  unfolding is_sized
  none_short h = rw (lt-leb 2 (length input) h) refl

  module _ (h : 2 ≤ length input) (x : ℕ) (e : x ≡ cores_byte input) where
    pub none_cores : (ltb x 1 || ltb 4 x) ≡ true → 0 ≡ asked input
    unfolding is_sized
    none_cores b = let f : up_to most_cores (cores_byte input) ≡ false = ap (up_to 4) (sym e) ∙ up_to_lem 4 x ∙ ap not b in rw (le-leb 2 (length input) h, f) refl

    module _ (b : (ltb x 1 || ltb 4 x) ≡ false) (y : ℕ) (g : y ≡ pages_byte input) where
      few : up_to most_cores (cores_byte input) ≡ true
      few = ap (up_to 4) (sym e) ∙ up_to_lem 4 x ∙ ap not b

      pub none_pages : (ltb y 1 || ltb 8 y) ≡ true → 0 ≡ asked input
      unfolding is_sized
      none_pages d = let f : up_to 8 (pages_byte input) ≡ false = ap (up_to 8) (sym g) ∙ up_to_lem 8 y ∙ ap not d in rw (le-leb 2 (length input) h, few, f) refl

      pub all_pages : (ltb y 1 || ltb 8 y) ≡ false → 4096 * y ≡ asked input
      unfolding is_sized
      all_pages d =
          let f : up_to 8 (pages_byte input) ≡ true = ap (up_to 8) (sym g) ∙ up_to_lem 8 y ∙ ap not d in
          ap (λ (k : ℕ). 4096 * k) g ∙ rw (le-leb 2 (length input) h, few, f) refl

-- at most 8 pages
pub at_most : (x : ℕ) → (ltb x 1 || ltb 8 x) ≡ false → 4096 * x ≤ 32768
at_most x e = let h : x ≤ 8 = leb→le x 8 (and_right (leb 1 x) (leb x 8) (subst T (sym (up_to_lem 8 x ∙ ap not e)) tt)) in omega arith

-- ---- a start

-- the numbers of an input that is started
pub record Start (input : List ℕ) : Type 0 where
  pub long : 2 ≤ length input
  pub some_cores : 1 ≤ cores_byte input
  pub few_cores : cores_byte input ≤ 4
  pub some_pages : 1 ≤ pages_byte input
  pub few_pages : pages_byte input ≤ 8
  pub whole : 2 + memory_bytes input ≤ length input
  pub asked_is : asked input ≡ memory_bytes input

is_true : (b : Bool) → T b → b ≡ true
is_true true t = refl
is_true false t = absurd t

pub start_of : (input : List ℕ) → is_started input ≡ true → Start input
unfolding is_started is_sized
start_of input e =
    let a : T (is_sized input) = and_left (is_sized input) (leb (2 + memory_bytes input) (length input)) (subst T (sym e) tt) in
    let w : T (leb (2 + memory_bytes input) (length input)) = and_right (is_sized input) (leb (2 + memory_bytes input) (length input)) (subst T (sym e) tt) in
    let r : T (up_to most_cores (cores_byte input) && up_to 8 (pages_byte input)) = and_right (leb 2 (length input)) (up_to most_cores (cores_byte input) && up_to 8 (pages_byte input)) a in
    let c : T (up_to most_cores (cores_byte input)) = and_left (up_to most_cores (cores_byte input)) (up_to 8 (pages_byte input)) r in
    let p : T (up_to 8 (pages_byte input)) = and_right (up_to most_cores (cores_byte input)) (up_to 8 (pages_byte input)) r in
    record {
      long = leb→le 2 (length input) (and_left (leb 2 (length input)) (up_to most_cores (cores_byte input) && up_to 8 (pages_byte input)) a);
      some_cores = leb→le 1 (cores_byte input) (and_left (leb 1 (cores_byte input)) (leb (cores_byte input) 4) c);
      few_cores = leb→le (cores_byte input) 4 (and_right (leb 1 (cores_byte input)) (leb (cores_byte input) 4) c);
      some_pages = leb→le 1 (pages_byte input) (and_left (leb 1 (pages_byte input)) (leb (pages_byte input) 8) p);
      few_pages = leb→le (pages_byte input) 8 (and_right (leb 1 (pages_byte input)) (leb (pages_byte input) 8) p);
      whole = leb→le (2 + memory_bytes input) (length input) w;
      asked_is = rw (is_true (is_sized input) a) refl;
    }

-- the test of it
sized_some : (input : List ℕ) → is_sized input ≡ true → 0 < memory_bytes input
unfolding is_sized
sized_some input e =
    let r : T (up_to most_cores (cores_byte input) && up_to 8 (pages_byte input)) = and_right (leb 2 (length input)) (up_to most_cores (cores_byte input) && up_to 8 (pages_byte input)) (subst T (sym e) tt) in
    let p : 1 ≤ pages_byte input = leb→le 1 (pages_byte input) (and_left (leb 1 (pages_byte input)) (leb (pages_byte input) 8) (and_right (up_to most_cores (cores_byte input)) (up_to 8 (pages_byte input)) r)) in
    omega arith

by_size : (input : List ℕ) (n : ℕ) → n ≡ asked input → (b : Bool) → is_sized input ≡ b → (ltb 0 n && leb (2 + n) (length input)) ≡ (is_sized input && leb (2 + memory_bytes input) (length input))
by_size input n e false q = let z : n ≡ 0 = e ∙ rw q refl in rw (q, z) refl
by_size input n e true q = let z : n ≡ memory_bytes input = e ∙ rw q refl in rw (q, z, lt-ltb 0 (memory_bytes input) (sized_some input q)) refl

pub started_by : (input : List ℕ) (n : ℕ) → n ≡ asked input → (ltb 0 n && leb (2 + n) (length input)) ≡ is_started input
unfolding is_started
started_by input n e = by_size input n e (is_sized input) refl

pub first_started : (input : List ℕ) → is_started input ≡ true → ascii "step answer\n" ≡ first_text input
first_started input e = rw e refl

pub first_bad : (input : List ℕ) → is_started input ≡ false → ascii "bad\n" ≡ first_text input
first_bad input e = rw e refl

-- ---- the machine that is made

module _ (input : List ℕ) (S : Start input) (t : List ℕ) where
  pub makes :
      (x m l : ℕ) → x ≡ cores_byte input → m ≡ memory_bytes input → l ≡ table_words (cores_byte input)
      → made_or (refusal x m l) x m t ≡ made (cores_byte input) (pages_byte input)
  makes x m l c e f =
      let n : ℕ = cores_byte input in
      let p : ℕ = pages_byte input in
      let d : 4096 * p / 4096 ≡ p = omega arith in
      let r : 4096 * p % 4096 ≡ 0 = omega arith in
      let a : (ltb n 1 || ltb 4 n) ≡ false = rw (le-ltb n 1 S.some_cores, le-ltb 4 n S.few_cores) refl in
      let g : (not (eqb (4096 * p % 4096) 0) || (ltb (4096 * p / 4096) 1 || ltb 4096 (4096 * p / 4096))) ≡ false
      = rw (r, d, le-ltb p 1 S.some_pages, le-ltb 4096 p (omega (arith, S.few_pages))) refl in
      ap (λ (k : ℕ). made_or (refusal k m l) k m t) c
      ∙ ap (λ (k : ℕ). made_or (refusal n k l) n k t) e
      ∙ ap (λ (k : Option Refusal). made_or k n (4096 * p) t) (sym (accept n (4096 * p) l a g f))
      ∙ ap (made n) d

  -- the memory is what stands after the two bytes
  pub memory_length : (n : ℕ) → n ≡ asked input → length (take (2 + n - 2) (drop 2 input)) ≡ memory_bytes input
  memory_length n e =
      let z : n ≡ memory_bytes input = e ∙ S.asked_is in
      length-take-le (2 + n - 2) (drop 2 input) (omega (arith, length-drop 2 input, S.whole, z)) ∙ omega (arith, z)
