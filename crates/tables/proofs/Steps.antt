-- The operations on records in a sound block: it stays sound, and its registers and APIC words stay.
-- Assumes nothing.
use mathlib.Core.Path.{◌≡◌, sym, ◌∙◌}
use Prim.Native.Nat.{ℕ, ◌<◌, ◌≤◌}
use mathlib.Core.Bool.{true, false}
use mathlib.Core.List.{List, [], ◌∷◌, ◌++◌}
use native.Mathlib.Omega.{arith}
use lib.ListN.{length, drop}
use Rattle.records.specs.declared.Store.{Store}
use Rattle.records.specs.declared.Walk.{Walk}
use Rattle.records.specs.declared.Flush.{Flush}
use Rattle.records.specs.Records.{all, stores, walks, linked, among, goes, put_store, take_store, add_walk, drop_walks}
use Rattle.records.specs.inner.Walks.{staying, with_walk}
use Rattle.records.specs.Contents.{store_sound, walk_sound, sound_records}
use Rattle.records.proofs.Contents.{parts_of}
use Rattle.records.proofs.Laws.{After, few_stores, few_walks, take_law, put_law, add_law, drop_law}
use Rattle.records.proofs.Sound.{take_sound, put_sound, add_sound, drop_sound}
use Rattle.tables.specs.Views.{registers_of}
use Rattle.tables.specs.Sound.{sound_block}
use Rattle.tables.proofs.Parts.{words_of, records_of, of_parts}
use Rattle.tables.proofs.Places.{words_same, registers_same}

pub block_linked : (n : ℕ) (b : List ℕ) → sound_block n b ≡ true → linked b ≡ true
block_linked n b e = (parts_of n b (records_of n b e)).0

-- what an operation leaves
module _ {b c : List ℕ} {ss : List Store} {ws : List Walk} (A : After b c ss ws) where
  after_block : (n : ℕ) → sound_block n b ≡ true → sound_records n c ≡ true → sound_block n c ≡ true
  after_block n e f = of_parts n c (words_same b c A.low (words_of n b e)) f

  module _ (long : length b ≡ 256) where
    pub after_registers : registers_of c ≡ registers_of b
    after_registers = registers_same b c (A.long ∙ sym long) (λ j p. A.low j (omega arith) (omega arith) (omega arith) (omega arith))

module _ (n : ℕ) (b : List ℕ) (e : sound_block n b ≡ true) where
  -- what the records of a sound block hold
  pub block_stores : all (store_sound n) (stores b) ≡ true
  block_stores = (parts_of n b (records_of n b e)).1

  pub block_walks : all walk_sound (walks b) ≡ true
  block_walks = (parts_of n b (records_of n b e)).2

  module _ (long : length b ≡ 256) where
    pub block_few_stores : length (stores b) ≤ 8
    block_few_stores = few_stores b long (block_linked n b e)

    pub block_few_walks : length (walks b) ≤ 23
    block_few_walks = few_walks b long (block_linked n b e)

    -- the oldest store goes
    module _ (some : 0 < length (stores b)) where
      pub take_after : After b (take_store b) (drop 1 (stores b)) (walks b)
      take_after = take_law b long (block_linked n b e) some

      pub take_block : sound_block n (take_store b) ≡ true
      take_block = after_block take_after n e (take_sound n b long (records_of n b e) some)

    -- a new store goes last
    module _ (s : Store) (few : length (stores b) < 8) where
      pub put_after : After b (put_store b s) (stores b ++ (s ∷ [])) (walks b)
      put_after = put_law b long (block_linked n b e) s few

      pub put_block : store_sound n s ≡ true → sound_block n (put_store b s) ≡ true
      put_block f = after_block put_after n e (put_sound n b long (records_of n b e) s f few)

    -- a new walk goes first, unless it is held
    module _ (w : Walk) (few : among w (walks b) ≡ false → length (walks b) < 23) where
      pub add_after : After b (add_walk b w) (stores b) (with_walk w (walks b))
      add_after = add_law b long (block_linked n b e) w few

      pub add_block : walk_sound w ≡ true → sound_block n (add_walk b w) ≡ true
      add_block f = after_block add_after n e (add_sound n b long (records_of n b e) w f few)

    -- walks go
    module _ (f : Flush) where
      pub drop_after : After b (drop_walks f b) (stores b) (staying (goes f) (walks b))
      drop_after = drop_law b long (block_linked n b e) f

      pub drop_block : sound_block n (drop_walks f b) ≡ true
      drop_block = after_block drop_after n e (drop_sound n b long (records_of n b e) f)
