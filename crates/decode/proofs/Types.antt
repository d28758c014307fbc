-- The types of definition 23 by opcode are those by table, for every legal word.
-- Assumes nothing.
use mathlib.Core.Path.{◌≡◌, refl, sym, subst}
use mathlib.Core.Bool.{Bool, true, false, not, ◌&&◌, ◌||◌}
use Prim.Native.Nat.{ℕ}
use lib.Dec.{T, eqb}
use borrow.Author.Tests.{eqb-true}
use Rattle.word.proofs.Tests.{and_left, and_right, same, same_eq}
use Rattle.decode.specs.declared.Instruction.{Instruction}
use Rattle.decode.specs.Fields.{opc, fun, rs, rt}
use Rattle.decode.specs.Table.{Row, Column, blank, is, meets, look, table, row_of, decoded}
use Rattle.decode.specs.Mnemonics.{itype, jtype, rtype, ill}
use Rattle.decode.proofs.Rows.{found_by}

-- definition 23
abbrev pub rtype_code : ℕ → Bool
rtype_code o = eqb o 0b000000 || (eqb o 0b010000 || eqb o 0b011100)

abbrev pub jtype_code : ℕ → Bool
jtype_code o = eqb o 0b000010 || eqb o 0b000011

-- an instruction under an opcode is of the types that the opcode says
abbrev agree : Instruction → ℕ → Bool
agree i o = same (rtype i) (rtype_code o) && (same (jtype i) (jtype_code o) && same (itype i) (not (rtype_code o || jtype_code o)))

abbrev agree_column : Instruction → Column → Bool
agree_column i blank = false
agree_column i (is k) = agree i k

abbrev typed : Row → Bool
typed r = agree_column r.name r.opcode

column : (i : Instruction) (k : Column) (o : ℕ) → T (agree_column i k) → meets k o ≡ true → T (agree i o)
column i blank o t e = absurd t
column i (is k) o t e = subst (λ (n : ℕ). T (agree i n)) (sym (eqb-true o k e)) t

and-true : (a b : Bool) → a && b ≡ true → a ≡ true
and-true true b e = refl
and-true false b e = e

or_right : (a b : Bool) → T b → T (a || b)
or_right true b t = tt
or_right false b t = t

found : (o f s t : ℕ) → T (ill (look table o f s t) || agree (look table o f s t) o)
unfolding ill rtype jtype itype
found o f s t =
    found_by (λ (i : Instruction). ill i || agree i o) typed table o f s t tt
    (λ r u e. or_right (ill r.name) (agree r.name o) (column r.name r.opcode o u (and-true (meets r.opcode o) (meets r.rs s && (meets r.rt t && meets r.fun f)) e)))
    tt

left : (a b : Bool) → T (a || b) → a ≡ false → T b
left true b t e = absurd (subst T e tt)
left false b t e = t

agreed : (w : ℕ) → ill (decoded w) ≡ false → T (agree (decoded w) (opc w))
unfolding decoded row_of rtype jtype itype
agreed w e = left (ill (decoded w)) (agree (decoded w) (opc w)) (found (opc w) (fun w) (rs w) (rt w)) e

pub types_by_opcode : (w : ℕ) → ill (decoded w) ≡ false →
    (rtype (decoded w) ≡ rtype_code (opc w)) × (jtype (decoded w) ≡ jtype_code (opc w)) × (itype (decoded w) ≡ not (rtype_code (opc w) || jtype_code (opc w)))
types_by_opcode w e =
    let i : Instruction = decoded w in
    let r : Bool = same (rtype i) (rtype_code (opc w)) in
    let j : Bool = same (jtype i) (jtype_code (opc w)) in
    let t : Bool = same (itype i) (not (rtype_code (opc w) || jtype_code (opc w))) in
    let u : T (j && t) = and_right r (j && t) (agreed w e) in
    (same_eq (rtype i) (rtype_code (opc w)) (and_left r (j && t) (agreed w e)), same_eq (jtype i) (jtype_code (opc w)) (and_left j t u), same_eq (itype i) (not (rtype_code (opc w) || jtype_code (opc w))) (and_right j t u))
