-- The addresses that a core's step uses have 32 bits, and the word 0 is an instruction that asks for nothing.
-- Assumes nothing.
use Rattle.std.specs.Prelude.{if◌then◌else◌, Some, None}
use mathlib.Core.Path.{◌≡◌, refl, sym, ◌∙◌}
use mathlib.Core.Logic.{⊎_elim}
use mathlib.Core.Bool.{Bool, true, false, not, ◌&&◌, ◌||◌}
use mathlib.Core.List.{List}
use Prim.Native.Nat.{ℕ, ◌+◌, ◌*◌, ◌%◌, ◌^◌, ◌<◌, ◌≤◌}
use lib.Dec.{ltb}
use lib.ListN.{length, get_or}
use native.Mathlib.Omega.{arith}
use borrow.Author.Tests.{ltb-true}
use Rattle.word.specs.Word.{plus, sxt}
use Rattle.word.proofs.Laws.{side}
use Rattle.layout.specs.Blocks.{block}
use Rattle.layout.proofs.Blocks.{block_at_lem}
use Rattle.decode.specs.declared.Instruction.{Instruction}
use Rattle.decode.specs.Fields.{rs, imm}
use Rattle.decode.specs.Table.{row_of, decoded}
use Rattle.decode.specs.Mnemonics.{itype, load, store, cas, mfence}
use Rattle.isa.specs.Core.{gpr_at, ea}
use Rattle.isa.specs.Interrupts.{user}
use Rattle.records.specs.declared.Walk.{Walk}
use Rattle.records.specs.Records.{among}
use Rattle.tlb.specs.Walks.{walk_ba}
use Rattle.store_buffer.specs.System.{memory_byte, reads}
use Rattle.store_buffer.proofs.Access.{never, reads_each, memory_there}
use Rattle.tables.specs.Views.{cores_of}
use Rattle.tables.specs.Sound.{sound}
use Rattle.tables.proofs.Parts.{records_of}
use Rattle.tables.proofs.Lift.{core_sound}
use Rattle.cores.specs.Core.{View, physical, is_access}
use Rattle.tables.proofs.Shown.{general_at, pc_at}
use Rattle.cores.proofs.Held.{held_base, used_base}
use Rattle.report.specs.Demands.{Words}
use Rattle.report.proofs.CoreFacts as facts

-- a word at a multiple of four is in memory, or all of it is not
module _ (m : List ℕ) (whole : length m % 4 ≡ 0) (a : ℕ) (four : a % 4 ≡ 0) (low : a < 2 ^ 32) where
  pub word_in : (v : ℕ) → reads 4 (memory_byte m) a ≡ Some v → a + 4 ≤ length m
  word_in v e = let r = reads_each (memory_byte m) 4 a v (omega arith) e 3 (omega arith) in go (ltb (a + 3) (length m)) refl r.0 r.1
    where
      go : (t : Bool) → ltb (a + 3) (length m) ≡ t → (x : ℕ) → (if t then Some (get_or m (a + 3) 0) else None) ≡ Some x → a + 4 ≤ length m
      go true p x k = omega (arith, ltb-true (a + 3) (length m) p)
      go false p x k = never k

  pub word_out : reads 4 (memory_byte m) a ≡ None → length m ≤ a
  word_out e =
      ⊎_elim (λ (l : a + 3 < length m). never (sym e ∙ memory_there m a 4 (omega arith) (omega arith))) (λ (l : length m ≤ a + 3). omega arith) (side (a + 3) (length m))

module _ (t m : List ℕ) (e : sound t (length m) ≡ true) (ws : Words t) (i : ℕ) (h : i < cores_of t) (w_i w_r : Walk) where
  abbrev b : List ℕ
  b = block t i

  abbrev v : View
  v = facts.v t m i w_i w_r

  abbrev u : Bool
  u = user v.core

  word_low : (n : ℕ) → n < 256 → get_or b n 0 < 2 ^ 32
  word_low n l = omega (arith, block_at_lem t i n l, ws (32 + 256 * i + n))

  pub register_low : (n : ℕ) → n < 32 → gpr_at v.core n < 2 ^ 32
  register_low n l = omega (arith, general_at b n l, word_low n (omega arith))

  pub pc_low : v.core.pc < 2 ^ 32
  pc_low = omega (arith, pc_at b, word_low 64 (omega arith))

  pub ea_low : (x : Instruction) (w : ℕ) → ea x v.core w < 2 ^ 32
  ea_low x w = go (itype x)
    where
      go : (k : Bool) → (if k then plus 32 (gpr_at v.core (rs w)) (sxt 16 (imm w)) else gpr_at v.core (rs w)) < 2 ^ 32
      go true = omega arith
      go false = register_low (rs w) (omega arith)

  -- by a walk that is held
  pub physical_low : (w : Walk) (k : Bool) (a : ℕ) → (not u || (among w v.tlb && k)) ≡ true → a < 2 ^ 32 → physical v w a < 2 ^ 32
  physical_low w k a f l = go u refl
    where
      go : (y : Bool) → u ≡ y → (if y then walk_ba w * 2 ^ 12 + a % 2 ^ 12 else a) < 2 ^ 32
      go true p = omega (arith, used_base u w.second p (held_base (length m) b w u k (records_of (length m) b (core_sound t (length m) e i h)) f))
      go false p = l

-- ---- the word 0

pub zero_idle : is_access (decoded 0) ≡ false
unfolding decoded row_of load store cas
zero_idle = refl

pub zero_finds : (cas (decoded 0) || mfence (decoded 0)) ≡ false
unfolding decoded row_of cas mfence
zero_finds = refl
