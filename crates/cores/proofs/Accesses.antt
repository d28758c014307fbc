-- What an access that is not suppressed has: its width and its alignment.
-- Assumes nothing.
use mathlib.Core.Path.{◌≡◌, refl, sym, ◌∙◌, ap}
use mathlib.Core.Bool.{Bool, true, false, not, ◌&&◌, ◌||◌}
use Prim.Native.Nat.{ℕ, zero, suc, ◌+◌, ◌*◌, ◌%◌, ◌^◌, ◌<◌}
use lib.Dec.{T, eqb}
use native.Mathlib.Omega.{arith}
use borrow.Author.Tests.{eq-eqb, ne_eqb, eqb-true}
use Rattle.word.specs.Word.{is_set, flag}
use Rattle.word.proofs.Tests.{truth, true_false, or_false, and_left, and_right}
use Rattle.decode.specs.declared.Instruction.{Instruction}
use Rattle.decode.specs.Mnemonics.{load, store, cas}
use Rattle.isa.proofs.Ranges.{mal_width}
use Rattle.decode.proofs.Ranges.{agree}
use Rattle.isa.specs.declared.registers.Registers.{Registers}
use Rattle.isa.specs.declared.interrupts.Events.{Events}
use Rattle.layout.specs.Layout.{sr}
use Rattle.isa.specs.Core.{d, ea, spr_at}
use Rattle.isa.specs.Interrupts.{mca, lowest_bit, causes_of, events_as}
use Rattle.store_buffer.specs.System.{sized, aligned}
use Rattle.isa.proofs.Words.{causes_lt}
use Rattle.cores.specs.Core.{View, is_access, is_event, causes, suppressed}

-- ---- a misaligned access is interrupted, and not by a continue type

-- a test of both truth values
abbrev pub all_b : (Bool → Bool) → Bool
all_b p = p true && p false

pub bools : (p : Bool → Bool) → T (all_b p) → (b : Bool) → T (p b)
bools p t true = and_left (p true) (p false) t
bools p t false = and_right (p true) (p false) t

-- the masked causes of an access that is misaligned
abbrev P : Bool → Bool → Bool → Bool → Bool → Bool → Bool
P io ill pff pfls sysc ovf =
    suppressed (flag io * 2 ^ 1 + flag ill * 2 ^ 2 + flag true * 2 ^ 3 + flag pff * 2 ^ 4 + flag pfls * 2 ^ 5 + flag sysc * 2 ^ 6 + flag ovf * 2 ^ 7)

abbrev P₅ : Bool → Bool → Bool → Bool → Bool → Bool
P₅ a b c d e = all_b (P a b c d e)

abbrev P₄ : Bool → Bool → Bool → Bool → Bool
P₄ a b c d = all_b (P₅ a b c d)

abbrev P₃ : Bool → Bool → Bool → Bool
P₃ a b c = all_b (P₄ a b c)

abbrev P₂ : Bool → Bool → Bool
P₂ a b = all_b (P₃ a b)

abbrev P₁ : Bool → Bool
P₁ a = all_b (P₂ a)

always : T (all_b P₁)
unfolding lowest_bit
always = tt

misaligned_stops : (io ill pff pfls sysc ovf : Bool) → P io ill pff pfls sysc ovf ≡ true
misaligned_stops a b c d e f =
    truth (P a b c d e f) (bools (P a b c d e) (bools (P₅ a b c d) (bools (P₄ a b c) (bools (P₃ a b) (bools (P₂ a) (bools P₁ always a) b) c) d) e) f)

-- so one that is not suppressed is aligned
stops_at : (m : Bool) (e : Events) (sr : ℕ) → e.mal ≡ m → suppressed (mca e sr) ≡ false → m ≡ false
stops_at false e sr p s = refl
stops_at true e sr p s =
    absurd (true_false
    (sym (misaligned_stops (e.io && is_set sr 1) e.ill e.pff e.pfls e.sysc (e.ovf && is_set sr 7))
    ∙ (ap (λ m. suppressed (flag (e.io && is_set sr 1) * 2 ^ 1 + flag e.ill * 2 ^ 2 + flag m * 2 ^ 3 + flag e.pff * 2 ^ 4 + flag e.pfls * 2 ^ 5 + flag e.sysc * 2 ^ 6 + flag (e.ovf && is_set sr 7) * 2 ^ 7)) (sym p) ∙ s)))

pub not_misaligned : (e : Events) (sr : ℕ) → suppressed (mca e sr) ≡ false → e.mal ≡ false
not_misaligned e sr s = stops_at e.mal e sr refl s

-- ---- widths

pub access_sized : (i : Instruction) → sized (d i) ≡ is_access i
unfolding d load store cas
access_sized = agree (λ i. sized (d i)) is_access tt

pub load_sized : (i : Instruction) → load i ≡ true → sized (d i) ≡ true
load_sized i e = rw (access_sized i, e) refl

cas_or : (i : Instruction) → (cas i || eqb (d i) 4) ≡ eqb (d i) 4
unfolding d cas
cas_or = agree (λ i. cas i || eqb (d i) 4) (λ i. eqb (d i) 4) tt

pub third : (l s c : Bool) → (l || (s || c)) ≡ true → l ≡ false → s ≡ false → c ≡ true
third false false c a p q = a
third false true c a p q = absurd (true_false q)
third true s c a p q = absurd (true_false p)

pub cas_width : (i : Instruction) → is_access i ≡ true → load i ≡ false → store i ≡ false → d i ≡ 4
cas_width i a l s = eqb-true (d i) 4 (sym (cas_or i) ∙ ap (λ c. c || eqb (d i) 4) (third (load i) (store i) (cas i) a l s))

pub not_not : (b : Bool) → not b ≡ false → b ≡ true
not_not true e = refl
not_not false e = absurd (true_false e)

quarter : (a x : ℕ) → a % 4 ≡ x % 4 → a % 2 ≡ x % 2
quarter a x e = omega arith

five : (w : ℕ) → sized (suc (suc (suc (suc (suc w))))) ≡ false
five w =
    rw (ne_eqb (suc (suc (suc (suc (suc w))))) 1 (λ e. omega arith), ne_eqb (suc (suc (suc (suc (suc w))))) 2 (λ e. omega arith), ne_eqb (suc (suc (suc (suc (suc w))))) 4 (λ e. omega arith)) refl

-- by each width
aligned_by : (w a x : ℕ) → sized w ≡ true → a % 4 ≡ x % 4 → ((eqb w 4 && not (eqb (x % 2 ^ 2) 0)) || (eqb w 2 && not (eqb (x % 2) 0))) ≡ false → aligned a w ≡ true
unfolding aligned
aligned_by zero a x s q e = s
aligned_by (suc zero) a x s q e = eq-eqb (a % 1) 0 (omega arith)
aligned_by (suc (suc zero)) a x s q e = eq-eqb (a % 2) 0 (quarter a x q ∙ eqb-true (x % 2) 0 (not_not (eqb (x % 2) 0) e))
aligned_by (suc (suc (suc zero))) a x s q e = s
aligned_by (suc (suc (suc (suc zero)))) a x s q e = eq-eqb (a % 4) 0 (q ∙ eqb-true (x % 4) 0 (not_not (eqb (x % 2 ^ 2) 0) (sym (or_false (not (eqb (x % 2 ^ 2) 0))) ∙ e)))
aligned_by (suc (suc (suc (suc (suc w))))) a x s q e = absurd (true_false (sym s ∙ five w))

-- an access at a physical address with the offset of its effective address
pub access_aligned : (i : Instruction) (c : Registers) (w a : ℕ) (io pfls : Bool) → is_access i ≡ true →
    suppressed (causes_of c (events_as i c w io pfls)) ≡ false → a % 4 ≡ ea i c w % 4 → aligned a (d i) ≡ true
access_aligned i c w a io pfls p s q =
    aligned_by (d i) a (ea i c w) (access_sized i ∙ p) q (mal_width i (ea i c w) ∙ not_misaligned (events_as i c w io pfls) (spr_at c sr) s)

pub load_wide : (i : Instruction) → load i ≡ true → 0 < d i
load_wide i e = wide (d i) (load_sized i e)
  where
    wide : (n : ℕ) → sized n ≡ true → 0 < n
    wide zero s = absurd (true_false (sym s))
    wide (suc n) s = omega arith

pub word_aligned : (a : ℕ) → a % 4 ≡ 0 → aligned a 4 ≡ true
unfolding aligned
word_aligned a e = eq-eqb (a % 4) 0 e

-- ---- a page fault

-- it is one cause more
pub with_fault : (v : View) (i : Instruction) (w : ℕ) → causes v i w false + 32 ≡ causes v i w true
with_fault v i w = omega arith

pub with_fault_lt : (v : View) (i : Instruction) (w ca : ℕ) → ca ≡ causes v i w false → ca + 32 < 2 ^ 32
with_fault_lt v i w ca e = rw (e, with_fault v i w) (causes_lt (events_as i v.core w (is_event v.eev) true) (spr_at v.core sr))
