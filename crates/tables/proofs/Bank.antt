-- Other registers in a block: they are those that were put in, and all else stays.
-- Assumes nothing.
use mathlib.Core.Path.{◌≡◌, sym, ap, ◌∙◌}
use Prim.Native.Nat.{ℕ, ◌+◌, ◌-◌, ◌≤◌}
use mathlib.Core.Bool.{true}
use mathlib.Core.List.{List, [], ◌∷◌, ◌++◌}
use native.Mathlib.Omega.{arith}
use lib.ListN.{length, get_or, take, drop, length-append, length-take, length-drop, get_or-append}
use lib.Seq.{get_or-append-add, get_or-drop, get_or-take, take_at, drop_at}
use Rattle.layout.specs.Layout as at
use Rattle.isa.specs.declared.registers.Registers.{Registers}
use Rattle.records.specs.Records.{stores, walks}
use Rattle.records.proofs.Frame.{Alike, same_stores, same_walks, same_sound}
use Rattle.tables.specs.Views.{registers_of, with_registers}
use Rattle.tables.specs.Sound.{sound_block}
use Rattle.tables.proofs.Parts.{words_of, records_of, of_parts}
use Rattle.tables.proofs.Places.{words_facts, facts_words}

-- the registers of a block are 32 of each kind
module _ (b : List ℕ) (long : length b ≡ 256) where
  pub registers_size : (length (registers_of b).gpr ≡ 32) × (length (registers_of b).spr ≡ 32)
  unfolding registers_of
  registers_size = (simp (length-take, length-drop) (omega arith), simp (length-take, length-drop) (omega arith))

  -- and general register 0 is zero where the block is sound
  pub registers_zero : (n : ℕ) → sound_block n b ≡ true → get_or (registers_of b).gpr 0 0 ≡ 0
  unfolding registers_of
  registers_zero n e = get_or-take 32 b 0 0 (omega arith) ∙ (words_facts b (words_of n b e)).zero_register

module _ (b : List ℕ) (r : Registers) (long : length b ≡ 256) (g : length r.gpr ≡ 32) (s : length r.spr ≡ 32) where
  abbrev tail : List ℕ
  tail = r.pc ∷ r.hi ∷ r.lo ∷ drop 67 b

  pub put_long : length (with_registers b r) ≡ 256
  unfolding with_registers
  put_long = length-append r.gpr (r.spr ++ tail) ∙ omega (arith, length-append r.spr tail, length-drop 67 b)

  past : (i : ℕ) → get_or (with_registers b r) (64 + i) 0 ≡ get_or tail i 0
  unfolding with_registers
  past i =
      let e : 64 + i ≡ length r.gpr + (length r.spr + i) = omega arith in
      ap (λ (j : ℕ). get_or (with_registers b r) j 0) e ∙ get_or-append-add r.gpr (r.spr ++ tail) (length r.spr + i) 0 ∙ get_or-append-add r.spr tail i 0

  -- the words above the registers
  pub put_above : (i : ℕ) → at.running ≤ i → get_or (with_registers b r) i 0 ≡ get_or b i 0
  put_above i h =
      let e : 64 + (3 + (i - 67)) ≡ i = omega arith in
      let f : 67 + (i - 67) ≡ i = omega arith in
      ap (λ (j : ℕ). get_or (with_registers b r) j 0) (sym e) ∙ past (3 + (i - 67)) ∙ later (i - 67) ∙ ap (λ (j : ℕ). get_or b j 0) f
    where
      later : (k : ℕ) → get_or tail (3 + k) 0 ≡ get_or b (67 + k) 0
      later k = get_or-append-add (r.pc ∷ r.hi ∷ r.lo ∷ []) (drop 67 b) k 0 ∙ get_or-drop 67 b k 0

  pub put_registers_view : registers_of (with_registers b r) ≡ r
  unfolding registers_of with_registers
  put_registers_view =
      λ i. record {
        gpr = take_at r.gpr (r.spr ++ tail) 32 g i;
        spr = (ap (take 32) (drop_at r.gpr (r.spr ++ tail) 32 g) ∙ take_at r.spr tail 32 s) i;
        pc = past 0 i;
        hi = past 1 i;
        lo = past 2 i;
      }

  put_first : get_or (with_registers b r) 0 0 ≡ get_or r.gpr 0 0
  unfolding with_registers
  put_first = get_or-append r.gpr (r.spr ++ tail) 0 0 (omega arith)

  put_alike : Alike b (with_registers b r)
  put_alike = record { heads = λ i p q. put_above i (omega arith); records = λ i p. put_above i (omega arith) }

  pub put_stores : stores (with_registers b r) ≡ stores b
  put_stores = same_stores put_alike

  pub put_walks : walks (with_registers b r) ≡ walks b
  put_walks = same_walks put_alike

  pub put_sound : (n : ℕ) → sound_block n b ≡ true → get_or r.gpr 0 0 ≡ 0 → sound_block n (with_registers b r) ≡ true
  put_sound n e z =
      let W = words_facts b (words_of n b e) in
      of_parts n (with_registers b r)
      (facts_words (with_registers b r)
      (record {
        zero_register = put_first ∙ z;
        gap = put_above 71 (omega arith) ∙ W.gap;
        rest = λ i p q. put_above i (omega arith) ∙ W.rest i p q;
        running = omega (arith, W.running, put_above 67 (omega arith));
        sipirr = omega (arith, W.sipirr, put_above 112 (omega arith));
        initrr = omega (arith, W.initrr, put_above 114 (omega arith));
        vector = omega (arith, W.vector, put_above 113 (omega arith));
      }))
      (same_sound put_alike n ∙ records_of n b e)
