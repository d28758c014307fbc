-- The mark ! is separation's: no page has it exactly where every page may have the bytes that it has in the two maps.
-- Assumes nothing.
use Rattle.std.specs.Prelude.{if◌then◌else◌}
use mathlib.Core.Path.{◌≡◌, refl, sym, ap, ap₂, ◌∙◌}
use mathlib.Core.Bool.{Bool, true, false, ◌&&◌, ◌||◌, not}
use mathlib.Core.List.{List, [], ◌∷◌}
use Prim.Native.Nat.{ℕ, zero, suc, ◌+◌}
use native.Mathlib.Omega.{arith}
use lib.Dec.{eqb}
use lib.ListN.{get_or}
use Rattle.word.specs.Word.{is_set}
use Rattle.records.specs.Records.{all}
use Rattle.reach.specs.Lists.{range, has}
use Rattle.reach.proofs.Lists.{has_append, all_append}
use Rattle.separation.specs.inner.Sides.{page_apart}
use Rattle.picture.specs.Pages.{is_reached, can_write, is_table, page_spoils, letter_of, mark_of, mark_row}

-- by the bits 1 and 2 of the one byte and of the other, and whether the one is zero
tested :
    (a b c d e : Bool)
    → (b && a) || ((d && c) || (not e && (d || c))) ≡ not (not (a && b) && (not (c && d) && not (not e && (d || c))))
tested true true c d e = refl
tested true false true true e = refl
tested true false true false true = refl
tested true false true false false = refl
tested true false false true true = refl
tested true false false true false = refl
tested true false false false true = refl
tested true false false false false = refl
tested false true true true e = refl
tested false true true false true = refl
tested false true true false false = refl
tested false true false true true = refl
tested false true false true false = refl
tested false true false false true = refl
tested false true false false false = refl
tested false false true true e = refl
tested false false true false true = refl
tested false false true false false = refl
tested false false false true true = refl
tested false false false true false = refl
tested false false false false true = refl
tested false false false false false = refl

pub spoils_or_apart : (x y : ℕ) → page_spoils x y ≡ not (page_apart x y)
unfolding page_spoils page_apart
spoils_or_apart x y = tested (is_set x 1) (is_set x 2) (is_set y 1) (is_set y 2) (eqb x 0)

bang :
    (s rx ry p tx wx ty wy : Bool)
    → eqb 33
    (if s then 33
    else if rx then
    if ry then
    if p then 43
    else 61
    else if tx then 116
    else if wx then 119
    else 114
    else if ry then
    if ty then 84
    else if wy then 87
    else 82
    else 46)
    ≡ s
bang true rx ry p tx wx ty wy = refl
bang false true true true tx wx ty wy = refl
bang false true true false tx wx ty wy = refl
bang false true false p true wx ty wy = refl
bang false true false p false true ty wy = refl
bang false true false p false false ty wy = refl
bang false false true p tx wx true wy = refl
bang false false true p tx wx false true = refl
bang false false true p tx wx false false = refl
bang false false false p tx wx ty wy = refl

pub mark_spoils : (x y : ℕ) → eqb 33 (mark_of x y) ≡ page_spoils x y
unfolding mark_of letter_of
mark_spoils x y = bang (page_spoils x y) (is_reached x) (is_reached y) (can_write x || is_table x) (is_table x) (can_write x) (is_table y) (can_write y)

negated : (h m t : Bool) → m ≡ not t → not (h || (m || false)) ≡ not h && (t && true)
negated true m t e = refl
negated false true true e = sym e
negated false true false e = refl
negated false false true e = refl
negated false false false e = sym e

pub none_spoils :
    (own other : List ℕ) (n : ℕ)
    → not (has 33 (mark_row own other 0 n)) ≡ all (λ (i : ℕ). page_apart (get_or own i 0) (get_or other i 0)) (range n)
unfolding has mark_row range all
none_spoils own other zero = refl
none_spoils own other (suc n) =
    let k : 0 + n ≡ n = omega arith in
    let x : ℕ = get_or own (0 + n) 0 in
    let y : ℕ = get_or other (0 + n) 0 in
    let t : ℕ → Bool = λ (i : ℕ). page_apart (get_or own i 0) (get_or other i 0) in
    ap not (has_append 33 (mark_row own other 0 n) (mark_of x y ∷ []))
    ∙ negated (has 33 (mark_row own other 0 n)) (eqb 33 (mark_of x y)) (t (0 + n)) (mark_spoils x y ∙ spoils_or_apart x y)
    ∙ ap₂ (λ (a b : Bool). a && (b && true)) (none_spoils own other n) (ap t k)
    ∙ sym (all_append t (range n) (n ∷ []))
