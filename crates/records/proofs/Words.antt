-- What release and insert do to each word of a block.
use mathlib.Core.Path.{◌≡◌}
use mathlib.Core.Logic.{◌≢◌}
use Prim.Native.Nat.{ℕ, ◌+◌, ◌<◌}
use mathlib.Core.List.{List}
use native.Mathlib.Omega.{arith}
use lib.ListN.{length, get_or, set, length-set}
use lib.Seq.{get_or-set_same, get_or-set_other}
use Rattle.layout.specs.Layout.{record_at, free_head}
use Rattle.records.specs.Records.{moved}

-- the word i is neither `at`, nor the free chain's head, nor in record r
pub record Clear (at r i : ℕ) : Type 0 where
  pub not_at : i ≢ at
  pub not_free : i ≢ free_head
  pub not_0 : i ≢ record_at r
  pub not_1 : i ≢ record_at r + 1
  pub not_2 : i ≢ record_at r + 2
  pub not_3 : i ≢ record_at r + 3

-- a link that release and insert may change
pub record Place (b : List ℕ) (at r : ℕ) : Type 0 where
  pub long : length b ≡ 256
  pub in_block : at < 256
  pub in_records : r < 32
  pub not_free : at ≢ free_head
  pub not_0 : at ≢ record_at r
  pub not_1 : at ≢ record_at r + 1
  pub not_2 : at ≢ record_at r + 2
  pub not_3 : at ≢ record_at r + 3

pub record Moved (b c : List ℕ) (at r next link x y z head : ℕ) : Type 0 where
  pub long : length c ≡ 256
  pub other : (i : ℕ) → Clear at r i → get_or c i 0 ≡ get_or b i 0
  pub at_at : get_or c at 0 ≡ next
  pub at_free : get_or c free_head 0 ≡ head
  pub at_0 : get_or c (record_at r) 0 ≡ link
  pub at_1 : get_or c (record_at r + 1) 0 ≡ x
  pub at_2 : get_or c (record_at r + 2) 0 ≡ y
  pub at_3 : get_or c (record_at r + 3) 0 ≡ z

here : (l : List ℕ) (i a : ℕ) → length l ≡ 256 → i < 256 → get_or (set l i a) i 0 ≡ a
here l i a e h = get_or-set_same l i a 0 (omega arith)

abbrev l1 : List ℕ → ℕ → ℕ → List ℕ
l1 b at next = set b at next

abbrev l2 : List ℕ → ℕ → ℕ → ℕ → ℕ → List ℕ
l2 b at r next link = set (l1 b at next) (record_at r) link

abbrev l3 : List ℕ → ℕ → ℕ → ℕ → ℕ → ℕ → List ℕ
l3 b at r next link x = set (l2 b at r next link) (record_at r + 1) x

abbrev l4 : List ℕ → ℕ → ℕ → ℕ → ℕ → ℕ → ℕ → List ℕ
l4 b at r next link x y = set (l3 b at r next link x) (record_at r + 2) y

abbrev l5 : List ℕ → ℕ → ℕ → ℕ → ℕ → ℕ → ℕ → ℕ → List ℕ
l5 b at r next link x y z = set (l4 b at r next link x y) (record_at r + 3) z

-- six stores, all at different words
pub at_words : (b : List ℕ) (at r next link x y z head : ℕ) → Place b at r → Moved b (moved b at r next link x y z head) at r next link x y z head
at_words b at r next link x y z head p =
    let a70 : at ≢ free_head = p.not_free in
    let a0 : at ≢ record_at r = p.not_0 in
    let a1 : at ≢ record_at r + 1 = p.not_1 in
    let a2 : at ≢ record_at r + 2 = p.not_2 in
    let a3 : at ≢ record_at r + 3 = p.not_3 in
    let d01 : record_at r ≢ record_at r + 1 = omega arith in
    let d02 : record_at r ≢ record_at r + 2 = omega arith in
    let d03 : record_at r ≢ record_at r + 3 = omega arith in
    let d07 : record_at r ≢ free_head = omega arith in
    let d12 : record_at r + 1 ≢ record_at r + 2 = omega arith in
    let d13 : record_at r + 1 ≢ record_at r + 3 = omega arith in
    let d17 : record_at r + 1 ≢ free_head = omega arith in
    let d23 : record_at r + 2 ≢ record_at r + 3 = omega arith in
    let d27 : record_at r + 2 ≢ free_head = omega arith in
    let d37 : record_at r + 3 ≢ free_head = omega arith in
    record {
      long = simp length-set p.long;
      other = λ i k. simp (get_or-set_other, k.not_at, k.not_free, k.not_0, k.not_1, k.not_2, k.not_3);
      at_at = simp get_or-set_other (here b at next p.long p.in_block);
      at_free = here (l5 b at r next link x y z) free_head head (simp length-set p.long) (omega arith);
      at_0 = simp get_or-set_other (here (l1 b at next) (record_at r) link (simp length-set p.long) (omega arith));
      at_1 = simp get_or-set_other (here (l2 b at r next link) (record_at r + 1) x (simp length-set p.long) (omega arith));
      at_2 = simp get_or-set_other (here (l3 b at r next link x) (record_at r + 2) y (simp length-set p.long) (omega arith));
      at_3 = simp get_or-set_other (here (l4 b at r next link x y) (record_at r + 3) z (simp length-set p.long) (omega arith));
    }
