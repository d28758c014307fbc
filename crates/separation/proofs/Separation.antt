-- Demand 3.
-- Assumes nothing.
use Rattle.std.specs.Prelude.{if◌then◌else◌}
use mathlib.Core.Path.{◌≡◌, refl, sym, ap, subst, ◌∙◌}
use mathlib.Core.Bool.{Bool, true, false, ◌&&◌}
use mathlib.Core.List.{List, [], ◌∷◌}
use Prim.Native.Nat.{ℕ, ◌≤◌, ◌<◌}
use native.Mathlib.Omega.{arith}
use lib.ListN.{take}
use Rattle.word.specs.Word.{is_set}
use Rattle.word.proofs.Truth.{tested}
use Rattle.layout.specs.Blocks.{block}
use Rattle.tables.specs.Views.{cores_of, pages_of}
use Rattle.reach.specs.Lists.{range, has, select}
use Rattle.reach.specs.Reach.{Pages, reached, reach, in_memory, members}
use Rattle.std.specs.Prelude.{Ok}
use Rattle.separation.specs.Separation.{Machine, Given, verdict, Point, Observation, start, called, next, after_calls, may, admitted, is_own, page_of, seen, observed, observes, group, reachable, Alike, Framed, Demand3}
use Rattle.reach.proofs.Lists.{In, in_range, in_select, select_in, same_map}
use Rattle.separation.proofs.TwoLists.{trace, allowed, two_lists, kept_after}
use Rattle.separation.proofs.TwoLists as lists
use Rattle.separation.proofs.Memory.{page, Agree, page_same}
use Rattle.separation.proofs.Good.{table_reached}
use Rattle.separation.proofs.Closing.{reach_same}
use Rattle.separation.proofs.Mapped.{reached_low, shown_is, select_both, group_there, members_same}
use Rattle.separation.proofs.Within.{Fixed, Within, next_within, Two, keeps_two}
use Rattle.separation.proofs.Conditions.{G, R, conditions, low_group, fixed, start_within, framed}

-- ---- the statement's own recursions are those of the two lists

observed_is : (g : ℕ) (cs ps : List ℕ) (x : Point) (l : List (List ℕ))
    → observed g cs ps x l ≡ trace next (λ y s. (called y s).answer) (λ y. seen cs ps y.machine) (is_own g) x l
unfolding observed trace
observed_is g cs ps x [] = refl
observed_is g cs ps x (s ∷ l) = ap (λ k. if is_own g s then ((called x s).answer, seen cs ps (next x s).machine) ∷ k else k) (observed_is g cs ps (next x s) l)

admitted_is : (x : Point) (l : List (List ℕ)) → admitted x l ≡ allowed next may x l
unfolding admitted allowed
admitted_is x [] = refl
admitted_is x (s ∷ l) = ap (λ (b : Bool). may x s && b) (admitted_is (next x s) l)

after_is : (x : Point) (l : List (List ℕ)) → after_calls x l ≡ lists.reached next may x l
unfolding after_calls lists.reached
after_is x [] = refl
after_is x (s ∷ l) = after_is (next x s) l

frame : (g : ℕ) (M : Machine) → Given M → verdict g M ≡ Ok true → (l : List (List ℕ)) → admitted (start M) l ≡ true → (n : ℕ) → Framed g M (after_calls (start M) (take n l))
frame g M I e l q n =
    subst (Framed g M) (sym (after_is (start M) (take n l)))
    (framed g M I e (lists.reached next may (start M) (take n l))
    (kept_after next may (Within g (G g M I e) (R g M I e) (cores_of M.tables) M.memory)
    (λ x s w m. next_within g (G g M I e) (R g M I e) (cores_of M.tables) M.memory (fixed g M I e) x s w m)
    (start M) l n (start_within g M I e) (sym (admitted_is (start M) l) ∙ q)))

-- ---- the two lists

module _ (g : ℕ) (M N : Machine) (I : Given M) (J : Given N) (e : verdict g M ≡ Ok true) (f : verdict g N ≡ Ok true) (v : Alike g M N) where
  cores_same : group g M ≡ group g N
  cores_same = members_same g (cores_of M.tables) (cores_of N.tables) (conditions g M I e).is_group_lem (conditions g N J f).is_group_lem

  blocks_same : (k : ℕ) → In k (group g M) → block M.tables k ≡ block N.tables k
  blocks_same = same_map (block M.tables) (block N.tables) (group g M) (ap (λ (x : Observation). x.blocks) v)

  in_m : (k : ℕ) → is_set g k ≡ true → k < cores_of M.tables
  in_m k h = group_there g (cores_of M.tables) k (conditions g M I e).is_group_lem h

  in_n : (k : ℕ) → is_set g k ≡ true → k < cores_of N.tables
  in_n k h = group_there g (cores_of N.tables) k (conditions g N J f).is_group_lem h

  bit_blocks : (k : ℕ) → is_set g k ≡ true → block M.tables k ≡ block N.tables k
  unfolding members
  bit_blocks k h = blocks_same k (in_select (λ j. is_set g j) (range (cores_of M.tables)) k (in_range (cores_of M.tables) k (in_m k h)) h)

  shown : reachable g M ≡ select (λ p. has p (reached (G g M I e))) (range (pages_of M.tables))
  unfolding reachable
  shown = shown_is (group g M) M.tables M.memory (conditions g M I e).inner

  in_shown : (p : ℕ) → In p (reached (G g M I e)) → In p (reachable g M)
  in_shown p h =
      subst (In p) (sym shown)
      (in_select (λ q. has q (reached (G g M I e))) (range (pages_of M.tables)) p
      (in_range (pages_of M.tables) p (reached_low (pages_of M.tables) (G g M I e) p (conditions g M I e).inner h)) h)

  shown_in : (p : ℕ) → In p (reachable g M) → In p (reached (G g M I e))
  shown_in p h = (select_in (λ q. has q (reached (G g M I e))) (range (pages_of M.tables)) p (subst (In p) shown h)).1

  memory_same : Agree (reached (G g M I e)) M.memory N.memory
  memory_same a h =
      page_same M.memory N.memory (page a) a
      (ap (λ x. x.1) (same_map (λ p. (p, page_of M.memory p)) (λ p. (p, page_of N.memory p)) (reachable g M) (ap (λ (x : Observation). x.pages) v) (page a) (in_shown (page a) h))) refl

  pages_same : G g M I e ≡ G g N J f
  pages_same =
      reach_same (group g M) M.tables N.tables M.memory N.memory blocks_same
      (λ a h. memory_same a (table_reached (G g M I e) (page a) h)) (λ p h. low_group g M I e p (table_reached (G g M I e) p h))
      ∙ ap (λ (cs : List ℕ). reach cs N.tables N.memory) cores_same

  maps_same : reachable g M ≡ reachable g N
  unfolding reachable
  maps_same =
      shown
      ∙ select_both (λ p. has p (reached (G g M I e))) (pages_of M.tables) (pages_of N.tables) (beyond M (G g M I e) (conditions g M I e).inner)
      (beyond N (G g M I e) (subst (λ (S : Pages). in_memory S (pages_of N.tables) ≡ true) (sym pages_same) (conditions g N J f).inner))
      ∙ ap (λ (S : Pages). select (λ p. has p (reached S)) (range (pages_of N.tables))) pages_same
      ∙ sym (shown_is (group g N) N.tables N.memory (conditions g N J f).inner)
    where
      beyond : (K : Machine) (S : Pages) → in_memory S (pages_of K.tables) ≡ true → (p : ℕ) → pages_of K.tables ≤ p → has p (reached S) ≡ false
      beyond K S w p h = tested (has p (reached S)) (λ q. absurd (omega (arith, reached_low (pages_of K.tables) S p w q))) (λ q. q)

  same_observed : (l r : List (List ℕ)) → admitted (start M) l ≡ true → admitted (start N) r ≡ true → select (is_own g) l ≡ select (is_own g) r
      → observed g (group g M) (reachable g M) (start M) l ≡ observed g (group g M) (reachable g M) (start N) r
  unfolding members
  same_observed l r p q i =
      observed_is g (group g M) (reachable g M) (start M) l
      ∙ two_lists next (λ y s. (called y s).answer) (λ y. seen (group g M) (reachable g M) y.machine) (is_own g) may
      (Two g (G g M I e) (R g M I e) (R g N J f) (cores_of M.tables) (cores_of N.tables) M.memory N.memory (fixed g M I e) fixed' in_m in_n)
      (keeps_two g (G g M I e) (R g M I e) (R g N J f) (cores_of M.tables) (cores_of N.tables) M.memory N.memory (fixed g M I e) fixed' in_m in_n (group g M) (reachable g M) own shown_in)
      l r (start M) (start N)
      (record { left = start_within g M I e; right = within'; blocks = bit_blocks; memory = memory_same })
      (sym (admitted_is (start M) l) ∙ p) (sym (admitted_is (start N) r) ∙ q) i
      ∙ sym (observed_is g (group g M) (reachable g M) (start N) r)
    where
      own : (k : ℕ) → In k (group g M) → is_set g k ≡ true
      own k h = (select_in (λ j. is_set g j) (range (cores_of M.tables)) k h).1

      fixed' : Fixed (G g M I e) (R g N J f) N.memory
      fixed' = subst (λ (S : Pages). Fixed S (R g N J f) N.memory) (sym pages_same) (fixed g N J f)

      within' : Within g (G g M I e) (R g N J f) (cores_of N.tables) N.memory (start N)
      within' = subst (λ (S : Pages). Within g S (R g N J f) (cores_of N.tables) N.memory (start N)) (sym pages_same) (start_within g N J f)

  same_observes : (l r : List (List ℕ)) → admitted (start M) l ≡ true → admitted (start N) r ≡ true → select (is_own g) l ≡ select (is_own g) r
      → observes g M l ≡ observes g N r
  same_observes l r p q i =
      same_observed l r p q i
      ∙ ap (λ (cs : List ℕ). observed g cs (reachable g M) (start N) r) cores_same
      ∙ ap (λ (ps : List ℕ). observed g (group g N) ps (start N) r) maps_same

pub separation : Demand3
separation g M I e N J f v l r p q i =
    record {
      pages = maps_same g M N I J e f v;
      same = same_observes g M N I J e f v l r p q i;
      first = λ n. frame g M I e l p n;
      second = λ n. frame g N J f r q n;
    }
