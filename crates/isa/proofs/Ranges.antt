-- Predicates on instructions by their numbers: each is tested on every row of the tables.
-- Assumes nothing.
use Rattle.std.specs.Prelude.{if◌then◌else◌}
use mathlib.Core.Path.{◌≡◌, sym, ap, ◌∙◌, refl}
use mathlib.Core.Bool.{Bool, false, not, ◌&&◌, ◌||◌}
use Prim.Native.Nat.{ℕ, ◌<◌, ◌+◌, ◌*◌, ◌/◌, ◌%◌, ◌^◌}
use lib.Dec.{eqb, ltb}
use native.Mathlib.Omega.{arith}
use borrow.Author.Tests.{eqb-true, ne_eqb, le-ltb}
use Rattle.word.specs.Word.{is_set, flag, sxt}
use Rattle.word.proofs.Tests.{and_false, truth}
use Rattle.decode.specs.declared.System.{System}
use Rattle.decode.specs.declared.System.TheVariants.{Cas, Flush, Invlpg, Eret}
use Rattle.decode.specs.declared.Load.{Load}
use Rattle.decode.specs.declared.Load.TheVariants.{Lb, Lh, Lw, Lbu, Lhu}
use Rattle.decode.specs.declared.StoreWidth.{StoreWidth}
use Rattle.decode.specs.declared.StoreWidth.TheVariants.{Sb, Sh, Sw}
use Rattle.decode.specs.declared.Move.{Move}
use Rattle.decode.specs.declared.Move.TheVariants.{Movg2s, Movs2g}
use Rattle.decode.specs.contracts.SystemPartialEq.TheImpl.{ghosts as system}
use Rattle.decode.specs.contracts.MovePartialEq.TheImpl.{ghosts as move}
use Rattle.decode.specs.declared.Instruction.{Instruction}
use Rattle.decode.specs.Mnemonics.{number, rtype, ill, sysc, lw, lh, lhu, sh, sw, cas, movg2s, movs2g, eret, flush, invlpg}
use Rattle.decode.proofs.Numbers.{every}
use Rattle.decode.proofs.Ranges.{agree, ill_number, sysc_number}
use Rattle.units.specs.Overflow.{overflow}
use Rattle.units.proofs.Overflows.{overflow_number}
use Rattle.isa.specs.Core.{d, mal, lv}
use Rattle.isa.specs.Interrupts.{privileged, mca}
use Rattle.isa.specs.inner.Outcomes.{rop_by, ea_by, ovf_by, events_by}

-- the widths of accesses as the code finds them
abbrev pub load_width : Load → ℕ
load_width Lb = 1
load_width Lh = 2
load_width Lw = 4
load_width Lbu = 1
load_width Lhu = 2

abbrev pub store_width : StoreWidth → ℕ
store_width Sb = 1
store_width Sh = 2
store_width Sw = 4

abbrev width_shape : Instruction → ℕ
width_shape (Instruction.Load l) = load_width l
width_shape (Instruction.Store s) = store_width s
width_shape (Instruction.System t) = if system.eq t Cas then 4 else 0
width_shape _ = 0

width_same : (i : Instruction) → width_shape i ≡ d i
unfolding d cas
width_same i =
    eqb-true (width_shape i) (d i)
    (truth (eqb (width_shape i) (d i)) (every (λ (j : Instruction). eqb (width_shape j) (d j)) tt i))

pub load_wide : (i : Instruction) (l : Load) → i ≡ Instruction.Load l → load_width l ≡ d i
load_wide i l e = ap width_shape (sym e) ∙ width_same i

pub store_wide : (i : Instruction) (s : StoreWidth) → i ≡ Instruction.Store s → store_width s ≡ d i
store_wide i s e = ap width_shape (sym e) ∙ width_same i

pub system_wide : (i : Instruction) (t : System) (r : Bool) → i ≡ Instruction.System t → system.eq t Cas ≡ r → (if r then 4 else 0) ≡ d i
system_wide i t r e f = ap (λ (x : Bool). if x then 4 else 0) (sym f) ∙ ap width_shape (sym e) ∙ width_same i

pub not_wide : (i : Instruction) → ((l : Load) → i ≡ Instruction.Load l → ⊥) → ((s : StoreWidth) → i ≡ Instruction.Store s → ⊥) →
    ((t : System) → i ≡ Instruction.System t → ⊥) → 0 ≡ d i
not_wide i f g h = go i f g h ∙ width_same i
  where
    go : (i : Instruction) → ((l : Load) → i ≡ Instruction.Load l → ⊥) → ((s : StoreWidth) → i ≡ Instruction.Store s → ⊥) →
        ((t : System) → i ≡ Instruction.System t → ⊥) → 0 ≡ width_shape i
    go (Instruction.Load l) f g h = absurd (f l refl)
    go (Instruction.Store s) f g h = absurd (g s refl)
    go (Instruction.System t) f g h = absurd (h t refl)
    go _ f g h = refl

-- the privileged instructions as the code finds them
abbrev pub privileged_shape : Instruction → Bool
privileged_shape (Instruction.System t) = system.eq t Flush || system.eq t Invlpg || system.eq t Eret
privileged_shape (Instruction.Move t) = move.eq t Movg2s || move.eq t Movs2g
privileged_shape _ = false

pub privileged_same : (i : Instruction) → privileged_shape i ≡ privileged i
unfolding privileged movg2s movs2g eret flush invlpg
privileged_same = agree privileged_shape privileged tt

pub not_privileged : (i : Instruction) → ((t : System) → i ≡ Instruction.System t → ⊥) → ((t : Move) → i ≡ Instruction.Move t → ⊥) → false ≡ privileged i
not_privileged i f g = go i f g ∙ privileged_same i
  where
    go : (i : Instruction) → ((t : System) → i ≡ Instruction.System t → ⊥) → ((t : Move) → i ≡ Instruction.Move t → ⊥) → false ≡ privileged_shape i
    go (Instruction.System t) f g = absurd (f t refl)
    go (Instruction.Move t) f g = absurd (g t refl)
    go _ f g = refl

pub privileged_range : (i : Instruction) → ((ltb 50 (number i) && ltb (number i) 53) || (ltb 57 (number i) && ltb (number i) 61)) ≡ privileged i
unfolding privileged movg2s movs2g eret flush invlpg
privileged_range = agree (λ (i : Instruction). (ltb 50 (number i) && ltb (number i) 53) || (ltb 57 (number i) && ltb (number i) 61)) privileged tt

-- no instruction with a number below 51 is illegal, in whatever mode
quiet : (n : ℕ) (user : Bool) → n < 51 → false ≡ (eqb n 61 || (user && ((ltb 50 n && ltb n 53) || (ltb 57 n && ltb n 61))))
quiet n user h =
    rw (ne_eqb n 61 (λ p. omega arith), le-ltb 50 n (omega arith), le-ltb 57 n (omega arith), and_false user)

pub allowed : (i : Instruction) (user : Bool) → number i < 51 → false ≡ (ill i || (user && privileged i))
allowed i user h = rw (← ill_number i, ← privileged_range i) (quiet (number i) user h)

-- the width of an access: a digit for each of the eight loads and stores, and cas
abbrev pub width_at : ℕ → ℕ
width_at n = if ltb n 8 then 0x42121421 / 2 ^ (4 * n) % 8 else if eqb n 49 then 4 else 0

pub width_number : (i : Instruction) → d i ≡ width_at (number i)
unfolding d cas
width_number i =
    eqb-true (d i) (width_at (number i))
    (truth (eqb (d i) (width_at (number i))) (every (λ (j : Instruction). eqb (d j) (width_at (number j))) tt i))

-- cas loads a word
pub cas_value : (R : ℕ) → lv (Instruction.System Cas) R ≡ sxt 32 (R % 2 ^ 32)
unfolding lv d cas
cas_value R = refl

-- an access is misaligned by its width alone
words_width : (i : Instruction) → (lw i || sw i || cas i) ≡ eqb (d i) 4
unfolding d cas
words_width =
    agree (λ (i : Instruction). lw i || sw i || cas i)
    (λ (i : Instruction). eqb (d i) 4) tt

halves_width : (i : Instruction) → (lhu i || lh i || sh i) ≡ eqb (d i) 2
unfolding d cas
halves_width =
    agree (λ (i : Instruction). lhu i || lh i || sh i)
    (λ (i : Instruction). eqb (d i) 2) tt

pub mal_width : (i : Instruction) (a : ℕ) → (eqb (d i) 4 && not (eqb (a % 2 ^ 2) 0)) || (eqb (d i) 2 && not (eqb (a % 2) 0)) ≡ mal i a
unfolding mal
mal_width i a = rw (words_width i, halves_width i)

-- ---- causes of the first 48 instructions

-- none of them is a system call
pub no_call : (i : Instruction) → number i < 48 → sysc i ≡ false
no_call i h = sym (sysc_number i) ∙ ne_eqb (number i) 48 (λ p. omega arith)

-- no load or store overflows
pub no_overflow : (i : Instruction) (a b : ℕ) → number i < 8 → overflow i a b ≡ false
no_overflow i a b h = overflow_number i a b ∙ rw (ne_eqb (number i) 36 (λ p. omega arith), ne_eqb (number i) 8 (λ p. omega arith), ne_eqb (number i) 38 (λ p. omega arith)) refl

-- any other accesses nothing
pub no_access : (i : Instruction) (a : ℕ) → 7 < number i → number i < 48 → mal i a ≡ false
no_access i a l h =
    sym (mal_width i a) ∙ rw (width_number i, le-ltb (number i) 8 (omega arith), ne_eqb (number i) 49 (λ p. omega arith)) refl

-- so what is left of the sum is the external event, the page fault, and misalignment or overflow
module _ (i : Instruction) (w p q : ℕ) (user io pfls : Bool) (status : ℕ) where
  abbrev outside : ℕ
  outside = flag (io && is_set status 1) * 2 + flag pfls * 32

  few_causes : number i < 48 → mca (events_by i w p q user io pfls) status ≡ outside + flag (mal i (ea_by i w p)) * 8 + flag (ovf_by i w p q && is_set status 7) * 128
  few_causes h = rw (← allowed i user (omega (arith, h)), no_call i h) (omega arith)

  -- each addend under the name that its maker has
  pub access_causes : (x y z : ℕ) → number i < 8 → x ≡ flag (io && is_set status 1) → y ≡ flag pfls → z ≡ flag (mal i (ea_by i w p)) →
      x * 2 + y * 32 + z * 8 ≡ mca (events_by i w p q user io pfls) status
  access_causes x y z h a b c = rw (few_causes (omega (arith, h)), no_overflow i p (rop_by (rtype i) w q) h, a, b, c) (omega arith)

  pub other_causes : (x y z : ℕ) → 7 < number i → number i < 48 → x ≡ flag (io && is_set status 1) → y ≡ flag pfls → z ≡ flag (ovf_by i w p q && is_set status 7) →
      x * 2 + y * 32 + z * 128 ≡ mca (events_by i w p q user io pfls) status
  other_causes x y z l h a b c = rw (few_causes h, no_access i (ea_by i w p) l h, a, b, c) (omega arith)
