-- Laws of counts, marks and rows.
-- Assumes nothing.
use mathlib.Core.Path.{◌≡◌, refl, sym, ap, ◌∙◌}
use mathlib.Core.Bool.{Bool, true, false, ◌&&◌, ◌||◌}
use mathlib.Core.List.{List, [], ◌∷◌, ◌++◌}
use Prim.Native.Nat.{ℕ, ◌+◌, ◌≤◌, ◌<◌}
use native.Mathlib.Numerals.{add-one}
use native.Mathlib.Omega.{arith}
use lib.ListN.{length, drop, get_or, drop_of_length-le}
use lib.Seq.{drop-cons}
use Rattle.word.specs.Word.{flag}
use Rattle.picture.specs.Pages.{count_of, is_reached, can_write, is_table, page_spoils, mark_of, mark_row, row, rows}

-- ---- counts: so many of the pages passed, and those of the pages left

pub count_begins : (p : ℕ → Bool) (l : List ℕ) → 0 + count_of p (drop 0 l) ≡ count_of p l
count_begins p l = omega arith

pub count_more :
    (p : ℕ → Bool) (l : List ℕ) (i n : ℕ) {k : ℕ} → i < length l → k ≡ n + flag (p (get_or l i 0)) → n + count_of p (drop i l) ≡ count_of p l
    → k + count_of p (drop (i + 1) l) ≡ count_of p l
unfolding count_of
count_more p l i n h e q =
    let s : drop i l ≡ get_or l i 0 ∷ drop (i + 1) l = drop-cons l i 0 h ∙ ap (λ (j : ℕ). get_or l i 0 ∷ drop j l) (sym (add-one i)) in
    let c : count_of p (drop i l) ≡ flag (p (get_or l i 0)) + count_of p (drop (i + 1) l) = ap (count_of p) s in
    omega arith

pub flag_small : (b : Bool) → flag b ≤ 1
flag_small true = omega arith
flag_small false = omega arith

pub count_ends : (p : ℕ → Bool) (l : List ℕ) (i n : ℕ) → length l ≤ i → n + count_of p (drop i l) ≡ count_of p l → n ≡ count_of p l
unfolding count_of
count_ends p l i n h q =
    let c : count_of p (drop i l) ≡ 0 = ap (count_of p) (drop_of_length-le l h) in
    omega arith

-- ---- marks

-- the test, as the code makes it
pub spoiled :
    (x y : ℕ) {a b c d e f g : Bool} → a ≡ can_write x → b ≡ is_table x → c ≡ can_write y → d ≡ is_table y → e ≡ is_reached x → f ≡ can_write y → g ≡ is_table y
    → ((a && b) || (c && d)) || (e && (f || g)) ≡ page_spoils x y
unfolding page_spoils
spoiled x y {a} {b} {c} {d} {e} {f} {g} p q r s t u v = rw (p, q, r, s, t, u, v) (grouped (can_write x && is_table x) (can_write y && is_table y) (is_reached x && (can_write y || is_table y)))
  where
    grouped : (a b c : Bool) → (a || b) || c ≡ a || (b || c)
    grouped true b c = refl
    grouped false b c = refl

pub marks_more :
    (own other : List ℕ) (a i : ℕ) {v : ℕ} → v ≡ mark_of (get_or own (a + i) 0) (get_or other (a + i) 0)
    → mark_row own other a i ++ (v ∷ []) ≡ mark_row own other a (i + 1)
unfolding mark_row
marks_more own other a i e = ap (λ (w : ℕ). mark_row own other a i ++ (w ∷ [])) e ∙ ap (mark_row own other a) (sym (add-one i))

pub rows_more : (own other : List ℕ) (n : ℕ) → rows own other n ++ row own other n ≡ rows own other (n + 1)
unfolding rows
rows_more own other n = ap (rows own other) (sym (add-one n))
