-- Laws of what is said of an input, by each test; and that nothing beyond the machine's bytes and one more is asked.
-- Assumes nothing.
use Rattle.std.specs.Prelude.{if◌then◌else◌}
use mathlib.Core.Path.{◌≡◌, refl, sym, ap, ◌∙◌, subst}
use mathlib.Core.Bool.{Bool, true, false, not, ◌&&◌, ◌||◌}
use mathlib.Core.Logic.{⊎_elim}
use mathlib.Core.List.{List, []}
use Prim.Native.Nat.{ℕ, ◌+◌, ◌*◌, ◌-◌, ◌≤◌, ◌<◌, min}
use native.Mathlib.Omega.{arith}
use lib.Dec.{T, eqb, ltb, leb, leb→le}
use lib.ListN.{length, take, drop, replicate, length-drop, length-replicate}
use lib.Seq.{take_all, take-take, length-take-le}
use borrow.Author.Tests.{lt-ltb, le-ltb, eq-eqb, ne_eqb, eqb-true, not-false}
use Rattle.word.specs.Bytes.{words_in}
use Rattle.word.proofs.Laws.{side}
use Rattle.word.proofs.Tests.{and_right}
use Rattle.word.proofs.Bytes.{bytes_take, length_words}
use Rattle.text.specs.Text.{Put}
use Rattle.text.proofs.Texts.{reworded}
use Rattle.layout.specs.Layout.{table_words, most_cores, most_pages}
use Rattle.tables.specs.Sound.{up_to}
use Rattle.tables.proofs.Answers.{up_to_lem}
use Rattle.judgement.specs.Report.{report_text}
use Rattle.verdict_text.specs.Arguments.{arguments_in, Question, Cores, NoCore, asked_from}
use Rattle.verdict_text.specs.Wrong as wrong
use Rattle.verdict_text.specs.inner.First.{first}
use Rattle.verdict_text.specs.Judged.{input_cores, input_pages, machine_bytes, of_machine, of_input, no_core, answered, judged, names_group, asks_input}

-- ---- a number from 1 on

pub beyond : (m x : ℕ) → (ltb x 1 || ltb m x) ≡ true → up_to m x ≡ false
beyond m x e = up_to_lem m x ∙ ap not e

pub inside : (m x : ℕ) → (ltb x 1 || ltb m x) ≡ false → up_to m x ≡ true
inside m x e = up_to_lem m x ∙ ap not e

pub at_most : (m n : ℕ) → up_to m n ≡ true → n ≤ m
at_most m n e = leb→le n m (and_right (leb 1 n) (leb n m) (subst T (sym e) tt))

module _ (g : ℕ) (input : List ℕ) where
  -- ---- where words 0 and 1 are good

  module _ (cores pages : ℕ) where
    abbrev bytes : ℕ
    bytes = machine_bytes cores pages

    pub said_cut : length input < bytes → wrong.cut_text (length input) cores pages bytes ≡ of_machine g input cores pages
    unfolding of_machine
    said_cut h = rw (lt-ltb (length input) bytes h) refl

    pub said_long : bytes < length input → wrong.long_text cores pages bytes ≡ of_machine g input cores pages
    unfolding of_machine
    said_long h = rw (le-ltb (length input) bytes (omega arith), lt-ltb bytes (length input) h) refl

    pub said_report : bytes ≤ length input → length input ≤ bytes → report_text g (words_in (table_words cores) input) (drop (4 * table_words cores) input) ≡ of_machine g input cores pages
    unfolding of_machine
    said_report h k = rw (le-ltb (length input) bytes h, le-ltb bytes (length input) k) refl

  -- ---- any input

  pub said_cut_head : length input < 8 → wrong.cut_head_text (length input) ≡ of_input g input
  unfolding of_input
  said_cut_head h = rw (lt-ltb (length input) 8 h) refl

  module _ (h : 8 ≤ length input) where
    pub said_bad_cores : up_to most_cores (input_cores input) ≡ false → wrong.bad_cores_text (input_cores input) ≡ of_input g input
    unfolding of_input
    said_bad_cores c = rw (le-ltb (length input) 8 h, c) refl

    module _ (c : up_to most_cores (input_cores input) ≡ true) where
      pub said_bad_pages : up_to most_pages (input_pages input) ≡ false → wrong.bad_pages_text (input_pages input) ≡ of_input g input
      unfolding of_input
      said_bad_pages p = rw (le-ltb (length input) 8 h, c, p) refl

      pub said_machine : up_to most_pages (input_pages input) ≡ true → of_machine g input (input_cores input) (input_pages input) ≡ of_input g input
      unfolding of_input
      said_machine p = rw (le-ltb (length input) 8 h, c, p) refl

-- the same with numbers that were read there, and the code's tests of them
module _ (g x : ℕ) (input : List ℕ) (e : x ≡ input_cores input) (h : 8 ≤ length input) where
  pub read_bad_cores : (ltb x 1 || ltb 4 x) ≡ true → wrong.bad_cores_text x ≡ of_input g input
  read_bad_cores b = ap wrong.bad_cores_text e ∙ said_bad_cores g input h (ap (up_to most_cores) (sym e) ∙ beyond 4 x b)

  module _ (y : ℕ) (f : y ≡ input_pages input) (b : (ltb x 1 || ltb 4 x) ≡ false) where
    few : up_to most_cores (input_cores input) ≡ true
    few = ap (up_to most_cores) (sym e) ∙ inside 4 x b

    pub read_bad_pages : (ltb y 1 || ltb 4096 y) ≡ true → wrong.bad_pages_text y ≡ of_input g input
    read_bad_pages p = ap wrong.bad_pages_text f ∙ said_bad_pages g input h few (ap (up_to most_pages) (sym f) ∙ beyond 4096 y p)

    pub read_machine : (ltb y 1 || ltb 4096 y) ≡ false → of_machine g input x y ≡ of_input g input
    read_machine p =
        ap (λ (k : ℕ). of_machine g input k y) e
        ∙ ap (λ (k : ℕ). of_machine g input (input_cores input) k) f
        ∙ said_machine g input h few (ap (up_to most_pages) (sym f) ∙ inside 4096 y p)

-- ---- the arguments

pub said_long_arguments : (a input : List ℕ) → 4096 < length a → wrong.long_arguments_text ≡ judged a input
unfolding judged
said_long_arguments a input h = rw (lt-ltb 4096 (length a) h) refl

module _ (a : List ℕ) (h : length a ≤ 4096) where
  pub said_by_arguments : (x : Question) → asked_from 0 (arguments_in a) ≡ x → (input : List ℕ) → judged a input ≡ answered x input
  unfolding judged
  said_by_arguments x e input = rw (le-ltb 4096 (length a) h) (ap (λ (y : Question). answered y input) e)

  pub asks_by_arguments : (x : Question) → asked_from 0 (arguments_in a) ≡ x → names_group x ≡ asks_input a
  unfolding asks_input
  asks_by_arguments x e = rw (le-ltb 4096 (length a) h) (ap names_group (sym e))

pub asks_too_long : (a : List ℕ) → 4096 < length a → false ≡ asks_input a
unfolding asks_input
asks_too_long a h = rw (lt-ltb 4096 (length a) h) refl

module _ (g : ℕ) (input : List ℕ) where
  said_no_group : g ≡ 0 → answered (Cores g) input ≡ wrong.no_group_text
  unfolding answered
  said_no_group e = rw (eq-eqb g 0 e) refl

  pub said_group : (g ≡ 0 → ⊥) → answered (Cores g) input ≡ of_input g input
  unfolding answered
  said_group e = rw (ne_eqb g 0 e) refl

-- ---- how much is to be read: one byte more than the machine has, of which word 1 says the pages

module _ (input : List ℕ) (n : ℕ) (h : machine_bytes most_cores (min (input_pages input) most_pages) < n) where
  module _ (g : ℕ) (l : n < length input) where
    abbrev front : List ℕ
    front = take n input

    length_front : length front ≡ n
    length_front = length-take-le n input (omega arith)

    same_cores : input_cores front ≡ input_cores input
    same_cores = bytes_take 4 n input 0 (omega arith)

    same_pages : input_pages front ≡ input_pages input
    same_pages = bytes_take 4 n input 4 (omega arith)

    module _ (c : up_to most_cores (input_cores input) ≡ true) where
      by_pages : (b : Bool) → up_to most_pages (input_pages input) ≡ b → of_input g front ≡ of_input g input
      by_pages false p =
          sym (said_bad_pages g front (omega (arith, length_front)) (ap (up_to most_cores) same_cores ∙ c) (ap (up_to most_pages) same_pages ∙ p))
          ∙ ap wrong.bad_pages_text same_pages
          ∙ said_bad_pages g input (omega arith) c p
      by_pages true p =
          let k : input_cores input ≤ 4 = at_most most_cores (input_cores input) c in
          let q : input_pages input ≤ 4096 = at_most most_pages (input_pages input) p in
          let m : machine_bytes (input_cores input) (input_pages input) < n = omega arith in
          sym (said_machine g front (omega (arith, length_front)) (ap (up_to most_cores) same_cores ∙ c) (ap (up_to most_pages) same_pages ∙ p))
          ∙ ap (λ (x : ℕ). of_machine g front x (input_pages front)) same_cores
          ∙ ap (λ (x : ℕ). of_machine g front (input_cores input) x) same_pages
          ∙ sym (said_long g front (input_cores input) (input_pages input) (omega (arith, length_front, m)))
          ∙ said_long g input (input_cores input) (input_pages input) (omega (arith, m))
          ∙ said_machine g input (omega arith) c p

    by_cores : (b : Bool) → up_to most_cores (input_cores input) ≡ b → of_input g front ≡ of_input g input
    by_cores false c =
        sym (said_bad_cores g front (omega (arith, length_front)) (ap (up_to most_cores) same_cores ∙ c))
        ∙ ap wrong.bad_cores_text same_cores
        ∙ said_bad_cores g input (omega arith) c
    by_cores true c = by_pages c (up_to most_pages (input_pages input)) refl

  same_input : (g : ℕ) → of_input g (take n input) ≡ of_input g input
  same_input g =
      ⊎_elim (λ (l : n < length input). by_cores g l (up_to most_cores (input_cores input)) refl) (λ (l : length input ≤ n). ap (of_input g) (take_all n input l))
      (side n (length input))

  same_answer : (x : Question) → answered x (take n input) ≡ answered x input
  unfolding answered
  same_answer (NoCore s) = refl
  same_answer (Cores g) = ap (λ (x : List ℕ). if eqb g 0 then wrong.no_group_text else x) (same_input g)

  pub enough : (a : List ℕ) → judged a (take n input) ≡ judged a input
  unfolding judged
  enough a = ap (λ (x : List ℕ). if ltb 4096 (length a) then wrong.long_arguments_text else x) (same_answer (asked_from 0 (arguments_in a)))

-- ---- the report on what was read

report_same : (g n : ℕ) (b t : List ℕ) → t ≡ words_in n b → report_text g t (take (length b - 4 * length t) (drop (4 * length t) b)) ≡ report_text g (words_in n b) (drop (4 * n) b)
report_same g n b t p =
    let k : length t ≡ n = ap length p ∙ length_words n b in
    let m : List ℕ = take (length b - 4 * length t) (drop (4 * length t) b) in
    let q : m ≡ drop (4 * n) b
    = ap (λ (j : ℕ). take (length b - 4 * j) (drop (4 * j) b)) k ∙ take_all (length b - 4 * n) (drop (4 * n) b) (omega (arith, length-drop (4 * n) b)) in
    ap (λ (x : List ℕ). report_text g x m) p ∙ ap (λ (x : List ℕ). report_text g (words_in n b) x) q

pub report_read :
    (g n : ℕ) (b t : List ℕ) → t ≡ words_in n b → {e : List ℕ} {r : ℕ} {c : List ℕ} → Put e 0 (report_text g t (take (length b - 4 * length t) (drop (4 * length t) b))) r c
    → Put e 0 (report_text g (words_in n b) (drop (4 * n) b)) r c
report_read g n b t p = reworded (report_same g n b t p)

-- an array of zeros has room for the tables
pub tables_room : (n x : ℕ) → n ≤ 1056 → length (take n (replicate 1056 x)) ≡ n
tables_room n x h = length-take-le n (replicate 1056 x) (omega (arith, length-replicate 1056 x))

-- ---- an argument that names no core, as it is shown

module _ (s f : List ℕ) (at n : ℕ) (h : n ≤ length s) (e : take n s ≡ f) where
  length_is : length f ≡ n
  length_is = ap length (sym e) ∙ length-take-le n s h

  pub said_long_argument : 16 < n → wrong.no_core_text (take (at + 16 - at) s) true ≡ no_core f
  said_long_argument l =
      let p : at + 16 - at ≡ 16 = omega arith in
      let t : take 16 f ≡ take (at + 16 - at) s = ap (take 16) (sym e) ∙ take-take 16 n s (omega arith) ∙ ap (λ (j : ℕ). take j s) (sym p) in
      rw (t, lt-ltb 16 (length f) (omega (arith, length_is))) refl

  pub said_argument : n ≤ 16 → wrong.no_core_text (take (at + n - at) s) false ≡ no_core f
  said_argument l =
      let p : at + n - at ≡ n = omega arith in
      let t : take 16 f ≡ take (at + n - at) s = take_all 16 f (omega (arith, length_is)) ∙ sym e ∙ ap (λ (j : ℕ). take j s) (sym p) in
      rw (t, le-ltb 16 (length f) (omega (arith, length_is))) refl

-- ---- the arguments as they were gone through

module _ (a : List ℕ) (h : length a ≤ 4096) where
  module _ (at : ℕ) (e : asked_from 0 (arguments_in a) ≡ NoCore (first (drop at a))) where
    pub said_wrong : (input : List ℕ) → no_core (first (drop at a)) ≡ judged a input
    unfolding answered
    said_wrong input = sym (said_by_arguments a h (NoCore (first (drop at a))) e input)

    pub asks_wrong : false ≡ asks_input a
    asks_wrong = asks_by_arguments a h (NoCore (first (drop at a))) e

  module _ {g : ℕ} (e : asked_from 0 (arguments_in a) ≡ Cores g) where
    pub said_none : g ≡ 0 → (input : List ℕ) → wrong.no_group_text ≡ judged a input
    said_none z input = sym (said_by_arguments a h (Cores g) e input ∙ said_no_group g input z)

    pub said_asked : (g ≡ 0 → ⊥) → (input : List ℕ) → of_input g input ≡ judged a input
    said_asked z input = sym (said_by_arguments a h (Cores g) e input ∙ said_group g input z)

    pub asks_group : not (eqb g 0) ≡ asks_input a
    asks_group = asks_by_arguments a h (Cores g) e

-- ---- where the input does not count, the same is said whatever it is

same_said : (x : Question) → names_group x ≡ false → (input : List ℕ) → answered x input ≡ answered x []
unfolding answered
same_said (NoCore s) e input = refl
same_said (Cores g) e input = let z : g ≡ 0 = eqb-true g 0 (not-false (eqb g 0) e) in rw (eq-eqb g 0 z) refl

by_length : (b : Bool) (x : Question) → (not b && names_group x) ≡ false → (input : List ℕ) → (if b then wrong.long_arguments_text else answered x input) ≡ (if b then wrong.long_arguments_text else answered x [])
by_length true x e input = refl
by_length false x e input = same_said x e input

pub unasked : (a : List ℕ) → asks_input a ≡ false → (input : List ℕ) → judged a input ≡ judged a []
unfolding judged asks_input
unasked a e input = by_length (ltb 4096 (length a)) (asked_from 0 (arguments_in a)) e input
