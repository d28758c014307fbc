-- Laws of the lists of cores.
-- Assumes nothing.
use Rattle.std.specs.Prelude.{if◌then◌else◌}
use mathlib.Core.Path.{◌≡◌, refl, sym, ap, ◌∙◌}
use mathlib.Core.Bool.{Bool, true, false}
use mathlib.Core.List.{List, [], ◌∷◌, ◌++◌}
use Prim.Native.Nat.{ℕ, ◌+◌}
use native.Mathlib.Numerals.{add-one}
use lib.ListN.{length, length-append}
use Rattle.word.specs.Word.{is_set, flag}
use Rattle.reach.specs.Lists.{range, select}
use Rattle.reach.specs.Reach.{members}
use Rattle.reach.proofs.Lists.{select_append}
use Rattle.picture.specs.Lines.{listed}

pub no_members : (g : ℕ) → members g 0 ≡ []
unfolding members range select
no_members g = refl

pub members_more : (g k : ℕ) → members g (k + 1) ≡ members g k ++ (if is_set g k then k ∷ [] else [])
unfolding members range select
members_more g k = ap (members g) (add-one k) ∙ select_append (λ (i : ℕ). is_set g i) (range k) (k ∷ [])

pub listed_append : (l r : List ℕ) → listed (l ++ r) ≡ listed l ++ listed r
unfolding listed
listed_append [] r = refl
listed_append (k ∷ l) r = ap (λ (x : List ℕ). 32 ∷ (48 + k) ∷ x) (listed_append l r)

pub listed_more : (g k : ℕ) → listed (members g k) ++ listed (if is_set g k then k ∷ [] else []) ≡ listed (members g (k + 1))
listed_more g k = sym (listed_append (members g k) (if is_set g k then k ∷ [] else [])) ∙ ap listed (sym (members_more g k))

length_one : (t : Bool) (k : ℕ) → length (if t then k ∷ [] else []) ≡ flag t
length_one true k = refl
length_one false k = refl

pub length_more : (g k : ℕ) → length (members g (k + 1)) ≡ length (members g k) + flag (is_set g k)
length_more g k =
    ap length (members_more g k) ∙ length-append (members g k) (if is_set g k then k ∷ [] else []) ∙ ap (λ (n : ℕ). length (members g k) + n) (length_one (is_set g k) k)

pub listed_none : (g : ℕ) → [] ≡ listed (members g 0)
unfolding listed
listed_none g = ap listed (sym (no_members g))
