-- The invariant of a machine within a list, relative to the machine that the list began with, and what steps do to two
-- machines.
-- Assumes nothing.
use Rattle.std.specs.Prelude.{if◌then◌else◌}
use mathlib.Core.Path.{◌≡◌, sym, subst, ◌∙◌}
use mathlib.Core.Logic.{⊎_elim, ◌≢◌}
use mathlib.Core.Bool.{Bool, true, false, not}
use mathlib.Core.List.{List, ◌++◌}
use Prim.Native.Nat.{ℕ, ◌<◌}
use native.Mathlib.Omega.{arith}
use native.Mathlib.Decide.{ℕ_discrete}
use lib.ListN.{length}
use lib.Dec.{eqb, leb}
use borrow.Author.Tests.{eqb-false, not-true}
use Rattle.word.specs.Word.{is_set}
use Rattle.word.proofs.Bytes.{Bytes}
use Rattle.word.proofs.Truth.{and_left, and_right, tested, clash}
use Rattle.records.proofs.Counts.{either}
use Rattle.layout.specs.Blocks.{block}
use Rattle.tables.specs.Views.{cores_of}
use Rattle.tables.specs.Sound.{sound}
use Rattle.steps.specs.Form.{word}
use Rattle.reach.specs.Lists.{select}
use Rattle.reach.specs.Reach.{Pages, table_pages, reached}
use Rattle.separation.specs.Separation.{Point, called, is_interrupt, next, may, is_own, seen}
use Rattle.reach.proofs.Lists.{In, in_left, in_right, in_append, select_in, map_same}
use Rattle.separation.proofs.TwoLists.{Keeps}
use Rattle.separation.proofs.Memory.{Agree, Kept, kept_trans, kept_more, kept_agree, agree_sym, agree_trans, bytes_same}
use Rattle.separation.proofs.Good.{Good, Closed, Low, closed_kept, table_reached, writable_reached}
use Rattle.machine.proofs.Locality.{plain_form}
use Rattle.separation.proofs.Facts.{Steps, steps, law, Matched, matched}

-- the pages of the two sides do not meet: G the group's, R the rest's
pub record Parted (G R : Pages) : Type 0 where
  pub own : (p : ℕ) → In p G.writables → In p (table_pages G) → ⊥
  pub rest : (p : ℕ) → In p R.writables → In p (table_pages R) → ⊥
  pub written : (p : ℕ) → In p (reached G) → In p R.writables → ⊥
  pub table : (p : ℕ) → In p (reached G) → In p (table_pages R) → ⊥

-- what is fixed for a list: the sides, and the memory at first
pub record Fixed (G R : Pages) (m₀ : List ℕ) : Type 0 where
  pub parted : Parted G R
  pub group : Closed G m₀
  pub rest : Closed R m₀
  pub low : Low G
  pub low_rest : Low R
  pub bytes : Bytes m₀

module _ (g : ℕ) where
  module _ (G R : Pages) (c₀ : ℕ) (m₀ : List ℕ) where
    abbrev pub side_of : ℕ → Pages
    side_of k = if is_set g k then G else R

    pub record Within (x : Point) : Type 0 where
      pub sane : sound x.machine.tables (length x.machine.memory) ≡ true
      pub bytes : Bytes x.machine.memory
      pub count : cores_of x.machine.tables ≡ c₀
      pub kept : Kept (table_pages G ++ table_pages R) (G.writables ++ R.writables) m₀ x.machine.memory
      pub there : (k : ℕ) → In k x.going → k < c₀
      pub cores : (k : ℕ) → In k x.going → Good (side_of k) (block x.machine.tables k)

    module _ (X : Fixed G R m₀) where
      closed_side : (x : Point) (k : ℕ) → Within x → Closed (side_of k) x.machine.memory
      closed_side x k w = go (is_set g k)
        where
          go : (t : Bool) → Closed (if t then G else R) x.machine.memory
          go true =
              closed_kept (table_pages G ++ table_pages R) (G.writables ++ R.writables) m₀ x.machine.memory w.kept X.bytes w.bytes G X.low
              (λ p h q. ⊎_elim (λ a. X.parted.own p a h) (λ a. X.parted.written p (table_reached G p h) a) (in_append p G.writables R.writables q)) X.group
          go false =
              closed_kept (table_pages G ++ table_pages R) (G.writables ++ R.writables) m₀ x.machine.memory w.kept X.bytes w.bytes R X.low_rest
              (λ p h q. ⊎_elim (λ a. X.parted.table p (writable_reached G p a) h) (λ a. X.parted.rest p a h) (in_append p G.writables R.writables q)) X.rest

      low_side : (k : ℕ) → Low (side_of k)
      low_side k = go (is_set g k)
        where
          go : (t : Bool) → Low (if t then G else R)
          go true = X.low
          go false = X.low_rest

      widen : (k : ℕ) (m n : List ℕ) → Kept (table_pages (side_of k)) (side_of k).writables m n → Kept (table_pages G ++ table_pages R) (G.writables ++ R.writables) m n
      widen k m n = go (is_set g k)
        where
          go : (t : Bool) → Kept (table_pages (if t then G else R)) (if t then G else R).writables m n → Kept (table_pages G ++ table_pages R) (G.writables ++ R.writables) m n
          go true h = kept_more _ _ _ _ m n (λ p q. in_left p (table_pages G) (table_pages R) q) (λ p q. in_left p G.writables R.writables q) h
          go false h = kept_more _ _ _ _ m n (λ p q. in_right p (table_pages G) (table_pages R) q) (λ p q. in_right p G.writables R.writables q) h

      module _ (x : Point) (s : List ℕ) (w : Within x) (e : may x s ≡ true) where
        going : In (word s 1) x.going
        going = and_right (leb (word s 0) 4) _ e

        pub here : word s 1 < cores_of x.machine.tables
        here = omega (arith, w.there (word s 1) going, w.count)

        stepped : Steps (side_of (word s 1)) x.machine.tables x.machine.memory (word s 1) (called x s)
        stepped =
            steps (side_of (word s 1)) (low_side (word s 1)) x.machine.tables x.machine.memory s w.sane w.bytes here (w.cores (word s 1) going)
            (plain_form s (and_left (leb (word s 0) 4) _ e)) (closed_side x (word s 1) w)

        lawful : (j : ℕ) → j ≢ word s 1 → j < cores_of x.machine.tables → block (called x s).tables j ≡ block x.machine.tables j
        lawful =
            (law (side_of (word s 1)) (low_side (word s 1)) x.machine.tables x.machine.memory s w.sane w.bytes here (w.cores (word s 1) going)
            (plain_form s (and_left (leb (word s 0) 4) _ e))).others

        same_count : cores_of (called x s).tables ≡ cores_of x.machine.tables
        same_count =
            (law (side_of (word s 1)) (low_side (word s 1)) x.machine.tables x.machine.memory s w.sane w.bytes here (w.cores (word s 1) going)
            (plain_form s (and_left (leb (word s 0) 4) _ e))).cores

        still_sound : sound (called x s).tables (length (called x s).memory) ≡ true
        still_sound =
            (law (side_of (word s 1)) (low_side (word s 1)) x.machine.tables x.machine.memory s w.sane w.bytes here (w.cores (word s 1) going)
            (plain_form s (and_left (leb (word s 0) 4) _ e))).is_sound

        stays : (j : ℕ) → In j (next x s).going → In j x.going
        stays j = go (is_interrupt (called x s).answer)
          where
            go : (t : Bool) → In j (if t then select (λ k. not (eqb k (word s 1))) x.going else x.going) → In j x.going
            go true q = (select_in (λ k. not (eqb k (word s 1))) x.going j q).0
            go false q = q

        own_good : (j : ℕ) → In j (next x s).going → j ≡ word s 1 → Good (side_of j) (block (called x s).tables j)
        own_good j q i =
            tested (is_interrupt (called x s).answer)
            (λ t. absurd (eqb-false j (word s 1) (not-true _ (select_in (λ k. not (eqb k (word s 1))) x.going j
            (subst (λ (u : Bool). In j (if u then select (λ k. not (eqb k (word s 1))) x.going else x.going)) t q)).1) i))
            (λ t. subst (λ (k : ℕ). Good (side_of k) (block (called x s).tables k)) (sym i) (stepped.good t))

        pub next_within : Within (next x s)
        next_within =
            record {
              sane = still_sound;
              bytes = stepped.bytes;
              count = same_count ∙ w.count;
              kept = kept_trans _ _ m₀ x.machine.memory (called x s).memory w.kept (widen (word s 1) _ _ stepped.kept);
              there = λ j q. w.there j (stays j q);
              cores = λ j q. either (ℕ_discrete j (word s 1)) (λ i. own_good j q i)
                  (λ d. subst (Good (side_of j)) (sym (lawful j d (omega (arith, w.there j (stays j q), w.count)))) (w.cores j (stays j q)));
            }

        -- a step of the rest leaves what the group sees
        pub rest_blocks : is_own g s ≡ false → (k : ℕ) → is_set g k ≡ true → k < c₀ → block (called x s).tables k ≡ block x.machine.tables k
        rest_blocks n k h l = lawful k (λ q. clash (is_set g (word s 1)) (subst (λ (y : ℕ). is_set g y ≡ true) q h) n) (omega (arith, l, w.count))

        pub rest_memory : is_own g s ≡ false → Agree (reached G) x.machine.memory (called x s).memory
        rest_memory n =
            kept_agree (table_pages R) R.writables (reached G) _ _
            (subst (λ (t : Bool). Kept (table_pages (if t then G else R)) (if t then G else R).writables x.machine.memory (called x s).memory) n stepped.kept) X.parted.written X.parted.table

  -- ---- two machines, alike for the group

  module _ (G R Q : Pages) (c₀ d₀ : ℕ) (m₀ n₀ : List ℕ) (X : Fixed G R m₀) (Y : Fixed G Q n₀)
      (in_c : (k : ℕ) → is_set g k ≡ true → k < c₀) (in_d : (k : ℕ) → is_set g k ≡ true → k < d₀) where
    pub record Two (x y : Point) : Type 0 where
      pub left : Within G R c₀ m₀ x
      pub right : Within G Q d₀ n₀ y
      pub blocks : (k : ℕ) → is_set g k ≡ true → block x.machine.tables k ≡ block y.machine.tables k
      pub memory : Agree (reached G) x.machine.memory y.machine.memory

    pair_two : (x y : Point) (s : List ℕ) → Two x y → is_own g s ≡ true → may x s ≡ true → may y s ≡ true
        → ((called x s).answer ≡ (called y s).answer) × Two (next x s) (next y s)
    pair_two x y s t n e f =
        let o : Good G (block x.machine.tables (word s 1))
        = subst (λ (u : Bool). Good (if u then G else R) (block x.machine.tables (word s 1))) n (t.left.cores (word s 1) (and_right (leb (word s 0) 4) _ e)) in
        let c : Matched G (word s 1) (called x s) (called y s)
        = matched G X.low x.machine.tables x.machine.memory y.machine.tables y.machine.memory s t.left.sane t.right.sane t.left.bytes t.right.bytes
        (here G R c₀ m₀ X x s t.left e) (here G Q d₀ n₀ Y y s t.right f) o (plain_form s (and_left (leb (word s 0) 4) _ e)) (t.blocks (word s 1) n) t.memory in (
          c.answers,
          record {
            left = next_within G R c₀ m₀ X x s t.left e;
            right = next_within G Q d₀ n₀ Y y s t.right f;
            blocks = λ k h. either (ℕ_discrete k (word s 1))
                (λ i. subst (λ (j : ℕ). block (called x s).tables j ≡ block (called y s).tables j) (sym i) c.blocks)
                (λ d. lawful G R c₀ m₀ X x s t.left e k d (omega (arith, in_c k h, t.left.count)) ∙ t.blocks k h
                ∙ sym (lawful G Q d₀ n₀ Y y s t.right f k d (omega (arith, in_d k h, t.right.count))));
            memory = c.memories;
          },
        )

    left_two : (x y : Point) (s : List ℕ) → Two x y → is_own g s ≡ false → may x s ≡ true → Two (next x s) y
    left_two x y s t n e =
        record {
          left = next_within G R c₀ m₀ X x s t.left e;
          right = t.right;
          blocks = λ k h. rest_blocks G R c₀ m₀ X x s t.left e n k h (in_c k h) ∙ t.blocks k h;
          memory = agree_trans _ _ _ _ (agree_sym _ _ _ (rest_memory G R c₀ m₀ X x s t.left e n)) t.memory;
        }

    right_two : (x y : Point) (s : List ℕ) → Two x y → is_own g s ≡ false → may y s ≡ true → Two x (next y s)
    right_two x y s t n e =
        record {
          left = t.left;
          right = next_within G Q d₀ n₀ Y y s t.right e;
          blocks = λ k h. t.blocks k h ∙ sym (rest_blocks G Q d₀ n₀ Y y s t.right e n k h (in_d k h));
          memory = agree_trans _ _ _ _ t.memory (rest_memory G Q d₀ n₀ Y y s t.right e n);
        }

    -- what the cores cs of the group see of the pages ps that it reaches
    module _ (cs ps : List ℕ) (own : (k : ℕ) → In k cs → is_set g k ≡ true) (sub : (p : ℕ) → In p ps → In p (reached G)) where
      seen_two : (x y : Point) → Two x y → seen cs ps x.machine ≡ seen cs ps y.machine
      seen_two x y t =
          λ i.
          record {
            blocks = map_same (block x.machine.tables) (block y.machine.tables) cs (λ k h. t.blocks k (own k h)) i;
            pages = map_same _ _ ps (λ p h j. (p, bytes_same x.machine.memory y.machine.memory p (λ a e. t.memory a (subst (λ (q : ℕ). In q (reached G)) (sym e) (sub p h))) j)) i;
          }

      pub keeps_two : Keeps next (λ x s. (called x s).answer) (λ x. seen cs ps x.machine) (is_own g) may Two
      keeps_two = record { pair = pair_two; left = left_two; right = right_two; seen = seen_two }
