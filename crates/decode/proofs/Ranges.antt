-- Classes of instructions as the code tests them: each test is tried on every row of the tables.
-- Assumes nothing.
use mathlib.Core.Path.{◌≡◌, refl, ◌∙◌}
use mathlib.Core.Bool.{Bool, true, false, not, ◌&&◌, ◌||◌}
use lib.Dec.{T, eqb, ltb}
use Rattle.word.proofs.Tests.{same, same_eq}
use Rattle.decode.specs.declared.Instruction.{Instruction}
use Rattle.decode.specs.Table.{table}
use Rattle.decode.specs.Mnemonics.{number, itype, rtype, mulacc, load, store, cas, mfence, flush, invlpg, eret, sysc, ill}
use Rattle.decode.specs.contracts.InstructionPartialEq.TheImpl.{ghosts}
use Rattle.decode.specs.declared.Instruction.TheVariants.{Illegal}
use Rattle.decode.specs.declared.Load.{Load}
use Rattle.decode.specs.declared.StoreWidth.{StoreWidth}
use Rattle.decode.specs.contracts.MultiplyPartialEq.TheImpl.{ghosts as multiply}
use Rattle.decode.specs.declared.Multiply.{Multiply}
use Rattle.decode.specs.declared.Multiply.TheVariants.{Mul}
use Rattle.decode.specs.declared.System.TheVariants.{Cas, Mfence, Flush, Invlpg, Sysc, Eret}
use Rattle.decode.proofs.Numbers.{everywhere, every}

-- two predicates that agree on every row agree
pub agree : (p q : Instruction → Bool) → T (everywhere (λ (i : Instruction). same (p i) (q i)) table) → (i : Instruction) → p i ≡ q i
agree p q t i = same_eq (p i) (q i) (every (λ (j : Instruction). same (p j) (q j)) t i)

abbrev pub load_shape : Instruction → Bool
load_shape (Instruction.Load x) = true
load_shape _ = false

pub load_same : (i : Instruction) → load_shape i ≡ load i
unfolding load
load_same = agree load_shape load tt

pub not_load : (i : Instruction) → ((x : Load) → i ≡ Instruction.Load x → ⊥) → false ≡ load i
not_load i h = go i h ∙ load_same i
  where
    go : (i : Instruction) → ((x : Load) → i ≡ Instruction.Load x → ⊥) → false ≡ load_shape i
    go (Instruction.Load x) h = absurd (h x refl)
    go _ h = refl

abbrev pub store_shape : Instruction → Bool
store_shape (Instruction.Store x) = true
store_shape _ = false

pub store_same : (i : Instruction) → store_shape i ≡ store i
unfolding store
store_same = agree store_shape store tt

pub not_store : (i : Instruction) → ((x : StoreWidth) → i ≡ Instruction.Store x → ⊥) → false ≡ store i
not_store i h = go i h ∙ store_same i
  where
    go : (i : Instruction) → ((x : StoreWidth) → i ≡ Instruction.Store x → ⊥) → false ≡ store_shape i
    go (Instruction.Store x) h = absurd (h x refl)
    go _ h = refl

pub cas_same : (i : Instruction) → ghosts.eq i (Instruction.System Cas) ≡ cas i
unfolding cas
cas_same = agree (λ (i : Instruction). ghosts.eq i (Instruction.System Cas)) cas tt

pub mfence_same : (i : Instruction) → ghosts.eq i (Instruction.System Mfence) ≡ mfence i
unfolding mfence
mfence_same = agree (λ (i : Instruction). ghosts.eq i (Instruction.System Mfence)) mfence tt

pub flush_same : (i : Instruction) → ghosts.eq i (Instruction.System Flush) ≡ flush i
unfolding flush
flush_same = agree (λ (i : Instruction). ghosts.eq i (Instruction.System Flush)) flush tt

pub invlpg_same : (i : Instruction) → ghosts.eq i (Instruction.System Invlpg) ≡ invlpg i
unfolding invlpg
invlpg_same = agree (λ (i : Instruction). ghosts.eq i (Instruction.System Invlpg)) invlpg tt

pub itype_range : (i : Instruction) → ltb (number i) 22 ≡ itype i
unfolding itype
itype_range = agree (λ (i : Instruction). ltb (number i) 22) itype tt

pub rtype_range : (i : Instruction) → (ltb 23 (number i) && ltb (number i) 61) ≡ rtype i
unfolding rtype
rtype_range = agree (λ (i : Instruction). ltb 23 (number i) && ltb (number i) 61) rtype tt

abbrev pub mulacc_shape : Instruction → Bool
mulacc_shape (Instruction.Multiply x) = not (multiply.eq x Mul)
mulacc_shape _ = false

pub mulacc_same : (i : Instruction) → mulacc_shape i ≡ mulacc i
unfolding mulacc
mulacc_same = agree mulacc_shape mulacc tt

pub not_mulacc : (i : Instruction) → ((x : Multiply) → i ≡ Instruction.Multiply x → ⊥) → false ≡ mulacc i
not_mulacc i h = go i h ∙ mulacc_same i
  where
    go : (i : Instruction) → ((x : Multiply) → i ≡ Instruction.Multiply x → ⊥) → false ≡ mulacc_shape i
    go (Instruction.Multiply x) h = absurd (h x refl)
    go _ h = refl

pub sysc_same : (i : Instruction) → ghosts.eq i (Instruction.System Sysc) ≡ sysc i
unfolding sysc
sysc_same = agree (λ (i : Instruction). ghosts.eq i (Instruction.System Sysc)) sysc tt

pub eret_same : (i : Instruction) → ghosts.eq i (Instruction.System Eret) ≡ eret i
unfolding eret
eret_same = agree (λ (i : Instruction). ghosts.eq i (Instruction.System Eret)) eret tt

pub ill_same : (i : Instruction) → ghosts.eq i Illegal ≡ ill i
unfolding ill
ill_same = agree (λ (i : Instruction). ghosts.eq i Illegal) ill tt

pub sysc_number : (i : Instruction) → eqb (number i) 48 ≡ sysc i
unfolding sysc
sysc_number = agree (λ (i : Instruction). eqb (number i) 48) sysc tt

pub ill_number : (i : Instruction) → eqb (number i) 61 ≡ ill i
unfolding ill
ill_number = agree (λ (i : Instruction). eqb (number i) 61) ill tt

-- what the number of an instruction tells of these classes
pub load_range : (i : Instruction) → ltb (number i) 5 ≡ load i
unfolding load
load_range = agree (λ (i : Instruction). ltb (number i) 5) load tt

pub store_range : (i : Instruction) → (ltb 4 (number i) && ltb (number i) 8) ≡ store i
unfolding store
store_range = agree (λ (i : Instruction). ltb 4 (number i) && ltb (number i) 8) store tt

pub cas_number : (i : Instruction) → eqb (number i) 49 ≡ cas i
unfolding cas
cas_number = agree (λ (i : Instruction). eqb (number i) 49) cas tt

pub mfence_number : (i : Instruction) → eqb (number i) 50 ≡ mfence i
unfolding mfence
mfence_number = agree (λ (i : Instruction). eqb (number i) 50) mfence tt

pub flush_number : (i : Instruction) → eqb (number i) 51 ≡ flush i
unfolding flush
flush_number = agree (λ (i : Instruction). eqb (number i) 51) flush tt

pub invlpg_number : (i : Instruction) → eqb (number i) 52 ≡ invlpg i
unfolding invlpg
invlpg_number = agree (λ (i : Instruction). eqb (number i) 52) invlpg tt

pub mulacc_range : (i : Instruction) → ((ltb 33 (number i) && ltb (number i) 36) || ((ltb 52 (number i) && ltb (number i) 58) && not (eqb (number i) 55))) ≡ mulacc i
unfolding mulacc
mulacc_range = agree (λ (i : Instruction). (ltb 33 (number i) && ltb (number i) 36) || ((ltb 52 (number i) && ltb (number i) 58) && not (eqb (number i) 55))) mulacc tt

pub eret_number : (i : Instruction) → eqb (number i) 58 ≡ eret i
unfolding eret
eret_number = agree (λ (i : Instruction). eqb (number i) 58) eret tt
