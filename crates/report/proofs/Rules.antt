-- The two rules of overflow, the table's and the trade's: where they part, and what that is to the causes of a core's
-- step and to what takes effect.
-- Assumes nothing.
use Rattle.std.specs.Prelude.{if◌then◌else◌}
use mathlib.Core.Path.{◌≡◌, refl, sym, ◌∙◌, ap, subst}
use mathlib.Core.Bool.{Bool, true, false, not, ◌&&◌, ◌||◌}
use mathlib.Core.List.{[], ◌∷◌}
use Prim.Native.Nat.{ℕ, ◌+◌, ◌-◌, ◌/◌, ◌%◌, ◌^◌}
use native.Mathlib.Nat.{div-div-eq-div-mul}
use native.Mathlib.Omega.{arith}
use lib.Dec.{T, eqb, ltb}
use borrow.Author.Tests.{eqb-true}
use Rattle.word.specs.Word.{field, is_set}
use Rattle.word.proofs.Tests.{same, truth, and_false}
use Rattle.word.proofs.Truth as truths
use Rattle.layout.specs.Layout as at
use Rattle.decode.specs.declared.Immediate.TheVariants.{Addiu}
use Rattle.decode.specs.declared.Alu.TheVariants.{Addu, Subu}
use Rattle.decode.specs.declared.Instruction.{Instruction}
use Rattle.decode.specs.Fields.{opc, fun, rs, rt}
use Rattle.decode.specs.Table.{Row, Column, blank, is, meets, look, table, row_of, decoded}
use Rattle.decode.specs.Mnemonics.{number, one_of, rtype, compi, compr, alu, load, store, cas}
use Rattle.decode.proofs.Rows.{found_by}
use Rattle.decode.proofs.Numbers.{everywhere}
use Rattle.decode.proofs.Ranges.{agree}
use Rattle.units.specs.Alu.{alucon}
use Rattle.units.specs.Overflow.{overflow}
use Rattle.units.proofs.Overflows.{overflow_number}
use Rattle.isa.specs.declared.registers.Registers.{Registers}
use Rattle.isa.specs.Core.{spr_at, lop, rop}
use Rattle.isa.specs.Interrupts.{ovf_of, signals, events_without, causes_of, jisr, il, continues}
use Rattle.records.specs.declared.Walk.{Walk}
use Rattle.report.specs.Configuration.{Configuration}
use Rattle.report.specs.Components.{ovf, eev, min, is_found}
use Rattle.report.specs.Delta as report
use Rattle.report.specs.Demands.{excepted, overflow_printed}

-- ---- the control bits of an ALU instruction, by its name

-- definition 28 from the codes
abbrev con_code : Bool → ℕ → ℕ → ℕ
con_code r o f = (if (r && eqb (f / 8 % 2) 1) || (not (eqb (o / 4 % 2) 1) && eqb (o / 2 % 2) 1) then 2 ^ 3 else 0) + (if r then f % 8 else o % 8)

bit_one : (x : ℕ) → x % 2 ^ 6 / 2 % 2 ≡ x / 2 % 2
bit_one x = omega arith

bit_two : (x : ℕ) → x % 2 ^ 6 / 4 % 2 ≡ x / 4 % 2
bit_two x = omega arith

alucon_code : (r : Bool) (w : ℕ) → alucon r w ≡ con_code r (opc w) (fun w)
unfolding alucon
alucon_code true w =
    let p : fun w / 8 % 2 ≡ w / 2 ^ 3 % 2 = omega arith in
    let q : opc w / 4 % 2 ≡ w / 2 ^ 28 % 2 = bit_two (w / 2 ^ 26) ∙ ap (λ (n : ℕ). n % 2) (div-div-eq-div-mul w (2 ^ 26) 4) in
    let s : opc w / 2 % 2 ≡ w / 2 ^ 27 % 2 = bit_one (w / 2 ^ 26) ∙ ap (λ (n : ℕ). n % 2) (div-div-eq-div-mul w (2 ^ 26) 2) in
    let l : fun w % 8 ≡ w % 2 ^ 3 = omega arith in
    rw (p, q, s, l)
alucon_code false w =
    let q : opc w / 4 % 2 ≡ w / 2 ^ 28 % 2 = bit_two (w / 2 ^ 26) ∙ ap (λ (n : ℕ). n % 2) (div-div-eq-div-mul w (2 ^ 26) 4) in
    let s : opc w / 2 % 2 ≡ w / 2 ^ 27 % 2 = bit_one (w / 2 ^ 26) ∙ ap (λ (n : ℕ). n % 2) (div-div-eq-div-mul w (2 ^ 26) 2) in
    let l : opc w % 8 ≡ field 28 26 w = omega arith in
    rw (q, s, l)

-- by its number
abbrev con_of : ℕ → ℕ
con_of n = if ltb n 10 then n - 8 else if ltb n 12 then n else if ltb n 16 then n - 8 else if ltb n 44 then n - 36 else n - 34

abbrev finds : Instruction → ℕ → ℕ → Bool
finds i o f = not (alu i) || eqb (con_code (rtype i) o f) (con_of (number i))

-- a row that leaves the function code free is not of R-type
abbrev columns : Instruction → Column → Column → Bool
columns i blank c = false
columns i (is k) (is j) = finds i k j
columns i (is k) blank = not (alu i) || (not (rtype i) && finds i k 0)

at_columns : (i : Instruction) (a b : Column) (o f : ℕ) → T (columns i a b) → meets a o ≡ true → meets b f ≡ true → T (finds i o f)
at_columns i blank b o f t p q = absurd t
at_columns i (is k) (is j) o f t p q = subst (λ (n : ℕ). T (finds i n f)) (sym (eqb-true o k p)) (subst (λ (n : ℕ). T (finds i k n)) (sym (eqb-true f j q)) t)
at_columns i (is k) blank o f t p q = subst (λ (n : ℕ). T (finds i n f)) (sym (eqb-true o k p)) (go (alu i) (rtype i) t)
  where
    go : (a r : Bool) → T (not a || (not r && (not a || eqb (con_code r k 0) (con_of (number i))))) → T (not a || eqb (con_code r k f) (con_of (number i)))
    go false r t = tt
    go true true t = absurd t
    go true false t = t

abbrev controlled : Row → Bool
controlled r = columns r.name r.opcode r.fun

looked : (o f s t : ℕ) → T (finds (look table o f s t) o f)
unfolding alu compi compr rtype
looked o f s t =
    found_by (λ (i : Instruction). finds i o f) controlled table o f s t tt
    (λ r u e.
    let e₁ = truths.and_right (meets r.opcode o) _ e in
    let e₂ = truths.and_right (meets r.rs s) _ e₁ in
    at_columns r.name r.opcode r.fun o f u (truths.and_left (meets r.opcode o) _ e) (truths.and_right (meets r.rt t) _ e₂)) tt

control : (w : ℕ) → alu (decoded w) ≡ true → alucon (rtype (decoded w)) w ≡ con_of (number (decoded w))
unfolding decoded row_of
control w e =
    alucon_code (rtype (decoded w)) w
    ∙ eqb-true _ _ (truth _ (subst (λ (a : Bool). T (not a || eqb (con_code (rtype (decoded w)) (opc w) (fun w)) (con_of (number (decoded w))))) e (looked (opc w) (fun w) (rs w) (rt w))))

-- ---- where the rules part

sums : (x : Instruction) → (alu x && eqb (con_of (number x)) 1) ≡ one_of x (Instruction.Alu Addu ∷ Instruction.Immediate Addiu ∷ [])
unfolding alu compi compr
sums = agree (λ (x : Instruction). alu x && eqb (con_of (number x)) 1) (λ (x : Instruction). one_of x (Instruction.Alu Addu ∷ Instruction.Immediate Addiu ∷ [])) tt

differences : (x : Instruction) → (alu x && eqb (con_of (number x)) 3) ≡ one_of x (Instruction.Alu Subu ∷ [])
unfolding alu compi compr
differences = agree (λ (x : Instruction). alu x && eqb (con_of (number x)) 3) (λ (x : Instruction). one_of x (Instruction.Alu Subu ∷ [])) tt

pub as_printed : (c : Registers) (w : ℕ) → report.by_table (decoded w) c w ≡ overflow_printed (decoded w) (lop c w) (rop (rtype (decoded w)) c w)
unfolding ovf
as_printed c w =
    named (alu (decoded w)) refl
    ∙ (shape _ _ (alu (decoded w)) (eqb (con_of (number (decoded w))) 1) (eqb (con_of (number (decoded w))) 3) ∙ rw (sums (decoded w), differences (decoded w)) refl)
  where
    a : ℕ
    a = lop c w

    b : ℕ
    b = rop (rtype (decoded w)) c w

    named : (t : Bool) → alu (decoded w) ≡ t → (t && ovf a b (alucon (rtype (decoded w)) w)) ≡ (t && ovf a b (con_of (number (decoded w))))
    named true e = ap (ovf a b) (control w e)
    named false e = refl

    shape : (x y t p q : Bool) → (t && (if p then x else if q then y else false)) ≡ (if t && p then x else if t && q then y else false)
    shape x y true p q = refl
    shape x y false p q = refl

-- what holds of none but those six
outside : (p : Instruction → Bool) → T (everywhere (λ (x : Instruction). same (p x && excepted x) (p x)) table) → (x : Instruction) → excepted x ≡ false → p x ≡ false
outside p t x e = sym (agree (λ (y : Instruction). p y && excepted y) p t x) ∙ (ap (λ (b : Bool). p x && b) e ∙ and_false (p x))

-- neither overflows on any other word
quiet : (x : Instruction) (a b : ℕ) → excepted x ≡ false → overflow x a b ≡ false
quiet x a b e =
    overflow_number x a b ∙ rw (outside (λ (y : Instruction). eqb (number y) 36 || eqb (number y) 8) tt x e, outside (λ (y : Instruction). eqb (number y) 38) tt x e) refl

quiet_printed : (x : Instruction) (a b : ℕ) → excepted x ≡ false → overflow_printed x a b ≡ false
quiet_printed x a b e =
    rw (outside (λ (y : Instruction). one_of y (Instruction.Alu Addu ∷ Instruction.Immediate Addiu ∷ [])) tt x e, outside (λ (y : Instruction). one_of y (Instruction.Alu Subu ∷ [])) tt x e) refl

rules_agree : (c : Registers) (w : ℕ) → excepted (decoded w) ≡ false → report.by_table (decoded w) c w ≡ ovf_of (decoded w) c w
rules_agree c w e =
    as_printed c w
    ∙ (quiet_printed (decoded w) (lop c w) (rop (rtype (decoded w)) c w) e ∙ sym (quiet (decoded w) (lop c w) (rop (rtype (decoded w)) c w) e))

-- ---- a core's step

-- none of these is excepted
pub load_not : (x : Instruction) → (load x && excepted x) ≡ false
unfolding load
load_not = agree (λ (x : Instruction). load x && excepted x) (λ (x : Instruction). false) tt

pub store_not : (x : Instruction) → (store x && excepted x) ≡ false
unfolding store
store_not = agree (λ (x : Instruction). store x && excepted x) (λ (x : Instruction). false) tt

pub cas_not : (x : Instruction) → (cas x && excepted x) ≡ false
unfolding cas
cas_not = agree (λ (x : Instruction). cas x && excepted x) (λ (x : Instruction). false) tt

module _ (c : Configuration) (i : ℕ) (w_i w_r : Walk) where
  abbrev I : ℕ
  I = report.I c i w_i w_r

  abbrev pub Same : Type 0
  Same = report.mca c i w_i w_r report.by_table ≡ report.mca c i w_i w_r ovf_of

  -- the masked causes, where f says that there is an instruction and o that it overflows
  causes_at : Bool → Bool → ℕ
  causes_at f o =
      causes_of (c.p i).core (if f then signals (decoded I) (c.p i).core I (is_found (min (eev (c.p i).apic))) (report.pfls c i w_i w_r) o
      else events_without (is_found (min (eev (c.p i).apic))) (not (report.aligned c i w_i w_r)) (report.pff c i w_i w_r))

  causes_by : (f : Bool) → report.fetched c i w_i w_r ≡ f → (rule : report.Rule) → report.mca c i w_i w_r rule ≡ causes_at f (rule (decoded I) (c.p i).core I)
  unfolding report.events causes_at
  causes_by f p rule = rw p refl

  pub causes_agree : report.by_table (decoded I) (c.p i).core I ≡ ovf_of (decoded I) (c.p i).core I → Same
  causes_agree e =
      causes_by (report.fetched c i w_i w_r) refl report.by_table ∙ (ap (causes_at (report.fetched c i w_i w_r)) e ∙ sym (causes_by (report.fetched c i w_i w_r) refl ovf_of))

  pub causes_masked : is_set (spr_at (c.p i).core at.sr) 7 ≡ false → Same
  unfolding causes_at
  causes_masked e =
      causes_by (report.fetched c i w_i w_r) refl report.by_table
      ∙ (go (report.fetched c i w_i w_r) (report.by_table (decoded I) (c.p i).core I) (ovf_of (decoded I) (c.p i).core I) ∙ sym (causes_by (report.fetched c i w_i w_r) refl ovf_of))
    where
      go : (f o p : Bool) → causes_at f o ≡ causes_at f p
      go true o p = rw (e, and_false o, and_false p) refl
      go false o p = refl

  pub causes_same : (f : Bool) → report.fetched c i w_i w_r ≡ f → (f && excepted (decoded I)) ≡ false → Same
  unfolding causes_at
  causes_same true p e = causes_agree (rules_agree (c.p i).core I e)
  causes_same false p e = causes_by false p report.by_table ∙ sym (causes_by false p ovf_of)

  -- what takes effect of an instruction that is not excepted
  pub does_same : (p : Instruction → Bool) → ((x : Instruction) → (p x && excepted x) ≡ false) → report.does c i w_i w_r report.by_table p ≡ report.does c i w_i w_r ovf_of p
  unfolding report.does
  does_same p h = go (report.is c i w_i w_r p) refl
    where
      go : (b : Bool) → report.is c i w_i w_r p ≡ b →
          (b && report.◌⇒◌ (jisr (report.mca c i w_i w_r report.by_table)) (continues (il (report.mca c i w_i w_r report.by_table))))
          ≡ (b && report.◌⇒◌ (jisr (report.mca c i w_i w_r ovf_of)) (continues (il (report.mca c i w_i w_r ovf_of))))
      go true e =
          let q = truths.and_right (report.fetched c i w_i w_r) (p (decoded I)) e in
          ap (λ (ca : ℕ). report.◌⇒◌ (jisr ca) (continues (il ca)))
          (causes_same true (truths.and_left (report.fetched c i w_i w_r) (p (decoded I)) e) (sym (ap (λ (t : Bool). t && excepted (decoded I)) q) ∙ h (decoded I)))
      go false e = refl
