-- Two blocks with the same heads and records: what is said of the records of one holds of the other.
-- Assumes nothing.
use mathlib.Core.Path.{◌≡◌, refl, ap, ◌∙◌}
use mathlib.Core.Logic.{◌≢◌}
use Prim.Native.Nat.{ℕ, zero, suc, ◌+◌, ◌<◌, ◌≤◌}
use mathlib.Core.Bool.{Bool, ◌&&◌}
use mathlib.Core.List.{List, [], ◌∷◌, ◌++◌, map}
use native.Mathlib.Omega.{arith}
use lib.ListN.{length, get_or, set}
use lib.Seq.{get_or-set_other}
use lib.Dec.{eqb, leb}
use Rattle.layout.specs.Layout.{record_at, store_head, walk_head, free_head}
use Rattle.records.specs.Records.{chain, chain_at, count, each, all, small, store_in, walk_in, stores, walks, store_numbers, walk_numbers, free_numbers, blank, last_blank, linked}
use Rattle.records.specs.Contents.{store_sound, walk_sound, sound_records}
use Rattle.records.specs.Records.{differing}

-- the same heads and records
pub record Alike (b c : List ℕ) : Type 0 where
  pub heads : (i : ℕ) → store_head ≤ i → i ≤ free_head → get_or c i 0 ≡ get_or b i 0
  pub records : (i : ℕ) → 128 ≤ i → get_or c i 0 ≡ get_or b i 0

-- a word that is neither a head nor a record's is written
pub set_alike : (b : List ℕ) (i v : ℕ) → i < 128 → i ≢ store_head → i ≢ walk_head → i ≢ free_head → Alike b (set b i v)
set_alike b i v l d₁ d₂ d₃ =
    record {
      heads = λ j p q. let d : j ≢ i = omega (arith, p, q, d₁, d₂, d₃) in get_or-set_other b i j v 0 d;
      records = λ j p. let d : j ≢ i = omega (arith, p) in get_or-set_other b i j v 0 d;
    }

map_ext : {A : Type 0} (f g : ℕ → A) (l : List ℕ) → ((n : ℕ) → f n ≡ g n) → map f l ≡ map g l
map_ext f g [] e = refl
map_ext f g (x ∷ l) e = λ i. e x i ∷ map_ext f g l e i

all_ext : (f g : ℕ → Bool) (l : List ℕ) → ((n : ℕ) → f n ≡ g n) → all f l ≡ all g l
unfolding all
all_ext f g [] e = refl
all_ext f g (x ∷ l) e = λ i. e x i && all_ext f g l e i

module _ {b c : List ℕ} (A : Alike b c) where
  chain_same : (k n : ℕ) → chain k c n ≡ chain k b n
  unfolding chain
  chain_same zero n = refl
  chain_same (suc k) zero = refl
  chain_same (suc k) (suc m) =
      ap (λ (l : List ℕ). suc m ∷ l) (ap (chain k c) (A.records (record_at (suc m)) (omega arith)) ∙ chain_same k (get_or b (record_at (suc m)) 0))

  numbers_same : (h : ℕ) → store_head ≤ h → h ≤ free_head → chain_at c h ≡ chain_at b h
  numbers_same h p q = ap (chain 32 c) (A.heads h p q) ∙ chain_same 32 (get_or b h 0)

  word_same : (n j : ℕ) → get_or c (record_at n + j) 0 ≡ get_or b (record_at n + j) 0
  word_same n j = A.records (record_at n + j) (omega arith)

  blank_same : (n : ℕ) → blank c n ≡ blank b n
  blank_same n = λ i. eqb (word_same n 1 i) 0 && (eqb (word_same n 2 i) 0 && eqb (word_same n 3 i) 0)

  pub same_stores : stores c ≡ stores b
  unfolding stores
  same_stores =
      map_ext (store_in c) (store_in b) (store_numbers c) (λ n i. record { address = word_same n 1 i; value = word_same n 2 i; width = word_same n 3 i })
      ∙ ap (map (store_in b)) (numbers_same store_head (omega arith) (omega arith))

  pub same_walks : walks c ≡ walks b
  unfolding walks
  same_walks =
      map_ext (walk_in c) (walk_in b) (walk_numbers c) (λ n i. record { first = word_same n 1 i; second = word_same n 2 i })
      ∙ ap (map (walk_in b)) (numbers_same walk_head (omega arith) (omega arith))

  pub same_linked : linked c ≡ linked b
  unfolding linked
  same_linked =
      let s = numbers_same store_head (omega arith) (omega arith) in
      let w = numbers_same walk_head (omega arith) (omega arith) in
      let f = numbers_same free_head (omega arith) (omega arith) in
      let fb : all (blank c) (free_numbers c) ≡ all (blank b) (free_numbers b) = all_ext (blank c) (blank b) (free_numbers c) blank_same ∙ ap (all (blank b)) f in
      let wb : all (last_blank c) (walk_numbers c) ≡ all (last_blank b) (walk_numbers b) = all_ext (last_blank c) (last_blank b) (walk_numbers c) (λ n i. eqb (word_same n 3 i) 0) ∙ ap (all (last_blank b)) w in
      λ i. each 31 (λ n. eqb (count n (s i ++ (w i ++ f i))) 1)
      && (all small (s i ++ (w i ++ f i)) && (leb (length (s i)) 8 && (leb (length (w i)) 23 && (fb i && (wb i && (eqb (A.records (record_at 0) (omega arith) i) 0 && blank_same 0 i))))))

  pub same_sound : (n : ℕ) → sound_records n c ≡ sound_records n b
  unfolding sound_records
  same_sound n =
      λ i. same_linked i && (all (store_sound n) (same_stores i) && (all walk_sound (same_walks i) && differing (same_walks i)))
