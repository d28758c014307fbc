-- The marks tied to specs/Reach.antt: what is marked is what is reached, and what strays is beyond memory.
-- Assumes nothing.
use Rattle.std.specs.Prelude.{if◌then◌else◌}
use mathlib.Core.Path.{◌≡◌, refl, sym, ap, ap₂, ◌∙◌}
use mathlib.Core.Bool.{Bool, true, false, ◌&&◌, ◌||◌, not}
use mathlib.Core.List.{List, [], ◌∷◌, ◌++◌, map, flat_map}
use Prim.Native.Nat.{ℕ, ◌+◌, ◌-◌, ◌*◌, ◌%◌, ◌<◌, ◌≤◌}
use native.Mathlib.Omega.{arith}
use native.Mathlib.Decide.{ℕ_discrete, dec_lt}
use lib.Dec.{eqb, ltb}
use lib.ListN.{length, get_or, replicate, length-replicate, get_or-replicate, get_or-eq_default}
use Rattle.word.specs.Word.{is_set, flag}
use Rattle.word.proofs.Bytes.{Bytes}
use Rattle.word.proofs.Truth.{and_left, or_assoc, or_none, or_turn}
use Rattle.records.proofs.Counts.{either}
use Rattle.layout.specs.Blocks.{block}
use Rattle.records.specs.Records.{all, level_of, walk_in, walk_numbers, store_numbers}
use Rattle.tables.specs.Views.{cores_of, pages_of}
use Rattle.tables.specs.Sound.{sound}
use Rattle.tables.proofs.Lift.{header}
use Rattle.reach.specs.declared.roots.Content.{Content}
use Rattle.reach.specs.declared.roots.Content.TheVariants.{Walks, Stores}
use Rattle.reach.specs.Lists.{range, has, select}
use Rattle.reach.specs.Reach.{members, any_rights, grants_write, named, first_pages, second_pages, data_pages, writable_pages, reach, in_memory, map_byte, map_for}
use Rattle.reach.specs.declared.marks.Marks.{Marks}
use Rattle.reach.specs.inner.Marks.{Name, name, marks, strays, Blank, Marked, is_marked, is_written, byte_of, walk_name, record_name, core_names, member_names, root_names, entry_names, pass_names}
use Rattle.reach.proofs.Lists.{Each, each_append, each_flat_map, if_both, has_append, all_append, all_same, flat_map_below, map_same, range_in}
use Rattle.reach.proofs.Marking.{marks_long}
use Rattle.reach.proofs.Sets.{Proper, of_kind, written, pages_with, with_none, with_cons, with_append, marks_marked, marks_written}
use Rattle.reach.proofs.Passes.{pass_proper, pass_other}
use Rattle.reach.proofs.Names.{root_first, root_second, root_data, root_written, asks_any, asks_write, tables_pages, pass_pages}
use Rattle.reach.proofs.Low.{Words, named_beyond, first_low, second_low}

-- ---- the names of blocks are proper

walk_proper : (first second : ℕ) → Each Proper (walk_name first second)
unfolding walk_name
walk_proper first second =
    if_both (Each Proper) (ltb (level_of first) 3) (name (2 - level_of first) second (first % 2) ∷ []) [] (λ _. ((omega arith, omega arith), tt)) (λ _. tt)

record_proper : (s : Content) (b : List ℕ) (i : ℕ) → Each Proper (record_name s b i)
unfolding record_name
record_proper Stores b i = ((omega arith, omega arith), tt)
record_proper Walks b i = walk_proper (walk_in b i).first (walk_in b i).second

core_proper : (b : List ℕ) → Each Proper (core_names b)
unfolding core_names
core_proper b = (
  (omega arith, omega arith),
  each_append Proper (flat_map (record_name Walks b) (walk_numbers b)) (flat_map (record_name Stores b) (store_numbers b))
      (each_flat_map Proper (record_name Walks b) (walk_numbers b) (record_proper Walks b))
      (each_flat_map Proper (record_name Stores b) (store_numbers b) (record_proper Stores b)),
)

root_proper : (g : ℕ) (t : List ℕ) (n : ℕ) → Each Proper (root_names g t n)
unfolding root_names member_names
root_proper g t n = each_flat_map Proper (member_names g t) (range n) (λ k. if_both (Each Proper) (is_set g k) (core_names (block t k)) [] (λ _. core_proper (block t k)) (λ _. tt))

-- ---- what strays

-- a page of the list is beyond n
unfoldable outside : ℕ → List ℕ → Bool
outside n l = not (all (λ x. ltb x n) l)

outside_none : (n : ℕ) → outside n [] ≡ false
unfolding outside all
outside_none n = refl

not_and : (a b : Bool) → not (a && b) ≡ not a || not b
not_and true b = refl
not_and false b = refl

outside_append : (n : ℕ) (l r : List ℕ) → outside n (l ++ r) ≡ outside n l || outside n r
unfolding outside
outside_append n l r = ap not (all_append (λ x. ltb x n) l r) ∙ not_and (all (λ x. ltb x n) l) (all (λ x. ltb x n) r)

outside_same : (n : ℕ) (l r : List ℕ) → ((x : ℕ) → has x l ≡ has x r) → outside n l ≡ outside n r
unfolding outside
outside_same n l r h = ap not (all_same (λ x. ltb x n) l r h)

outside_with : (n : ℕ) (q : Name → Bool) (y : Name) (l : List Name) → outside n (pages_with q (y ∷ l)) ≡ (q y && not (ltb y.page n)) || outside n (pages_with q l)
unfolding outside all
outside_with n q y l = ap (outside n) (with_cons q y l) ∙ go (q y)
  where
    go : (b : Bool) → outside n (if b then y.page ∷ pages_with q l else pages_with q l) ≡ (b && not (ltb y.page n)) || outside n (pages_with q l)
    go true = not_and (ltb y.page n) (all (λ x. ltb x n) (pages_with q l))
    go false = refl

-- fewer names
outside_fewer : (n : ℕ) (p q : Name → Bool) (l : List Name) → ((y : Name) → p y ≡ true → q y ≡ true) → outside n (pages_with q l) || outside n (pages_with p l) ≡ outside n (pages_with q l)
outside_fewer n p q [] h = rw (with_none p, with_none q, outside_none n)
outside_fewer n p q (y ∷ l) h =
    ap₂ ◌||◌ (outside_with n q y l) (outside_with n p y l) ∙ go (q y) (p y) (not (ltb y.page n)) (outside n (pages_with q l)) (outside n (pages_with p l)) (h y) (outside_fewer n p q l h) ∙ sym (outside_with n q y l)
  where
    go : (a b o c d : Bool) → (b ≡ true → a ≡ true) → c || d ≡ c → ((a && o) || c) || ((b && o) || d) ≡ (a && o) || c
    go true b true c d f e = refl
    go true true false c d f e = e
    go true false false c d f e = e
    go false true true true d f e = refl
    go false true true false d f e = sym (f refl)
    go false true false c d f e = e
    go false false o c d f e = e

-- names are of one of three sets
one_of_three : (k : ℕ) (o a b c : Bool) → k < 3 → ((eqb k 0 && o) || a) || (((eqb k 1 && o) || b) || ((eqb k 2 && o) || c)) ≡ o || (a || (b || c))
one_of_three k o a b c h =
    either (ℕ_discrete k 0) (λ e. rw e (or_assoc o a (b || c)))
    (λ d. either (ℕ_discrete k 1) (λ e. rw e (second o a b c)) (λ f. let e : k ≡ 2 = omega arith in rw e (third o a b c)))
  where
    second : (o a b c : Bool) → a || ((o || b) || c) ≡ o || (a || (b || c))
    second true true b c = refl
    second true false b c = refl
    second false a b c = refl

    third : (o a b c : Bool) → a || (b || (o || c)) ≡ o || (a || (b || c))
    third true true b c = refl
    third true false true c = refl
    third true false false c = refl
    third false a b c = refl

strays_sets : (n : ℕ) (l : List Name) → Each Proper l → strays n l ≡ outside n (pages_with (of_kind 0) l) || (outside n (pages_with (of_kind 1) l) || outside n (pages_with (of_kind 2) l))
unfolding strays
strays_sets n [] h = rw (with_none (of_kind 0), with_none (of_kind 1), with_none (of_kind 2), outside_none n)
strays_sets n (y ∷ l) h =
    ap (λ (t : Bool). not (ltb y.page n) || t) (strays_sets n l h.1)
    ∙ sym (one_of_three y.kind (not (ltb y.page n)) (outside n (pages_with (of_kind 0) l)) (outside n (pages_with (of_kind 1) l)) (outside n (pages_with (of_kind 2) l)) h.0.0)
    ∙ ap₂ ◌||◌ (sym (outside_with n (of_kind 0) y l)) (ap₂ ◌||◌ (sym (outside_with n (of_kind 1) y l)) (sym (outside_with n (of_kind 2) y l)))

-- ---- the three states of the marks

-- what a pass leaves of the other sets
module _ (n : ℕ) (few : n ≤ 4096) (s : List ℕ) (l : List Name) (long : length s ≡ 24576) (proper : Each Proper l) (x : ℕ) (low : x < n) where
  kept : (k : ℕ) → pages_with (of_kind k) l ≡ [] → is_marked (marks n s l) k x ≡ is_marked s k x
  unfolding has
  kept k e = marks_marked n k x few low s l long proper ∙ rw e (sym (or_none (is_marked s k x) false refl))

  kept_written : (k : ℕ) → pages_with (written k) l ≡ [] → is_written (marks n s l) k x ≡ is_written s k x
  unfolding has
  kept_written k e = marks_written n k x few low s l long proper ∙ rw e (sym (or_none (is_written s k x) false refl))

-- a set that a list was, and what is marked besides
more : (n k x : ℕ) (s : List ℕ) (l : List Name) (a b : List ℕ) → n ≤ 4096 → x < n → length s ≡ 24576 → Each Proper l → is_marked s k x ≡ has x a → has x (pages_with (of_kind k) l) ≡ has x b → is_marked (marks n s l) k x ≡ has x (b ++ a)
more n k x s l a b few low long proper e f = marks_marked n k x few low s l long proper ∙ ap₂ ◌||◌ e f ∙ or_turn (has x a) (has x b) ∙ sym (has_append x b a)

more_written : (n k x : ℕ) (s : List ℕ) (l : List Name) (a b : List ℕ) → n ≤ 4096 → x < n → length s ≡ 24576 → Each Proper l → is_written s k x ≡ has x a → has x (pages_with (written k) l) ≡ has x b → is_written (marks n s l) k x ≡ has x (b ++ a)
more_written n k x s l a b few low long proper e f = marks_written n k x few low s l long proper ∙ ap₂ ◌||◌ e f ∙ or_turn (has x a) (has x b) ∙ sym (has_append x b a)

-- ---- sound tables, words and bytes, and marks that start blank

reorder : (f a b d e : Bool) → (f || (a || b)) || (d || e) ≡ (f || (d || a)) || (e || b)
reorder true a b d e = refl
reorder false true b true e = refl
reorder false true b false e = refl
reorder false false true true e = refl
reorder false false true false true = refl
reorder false false true false false = refl
reorder false false false true e = refl
reorder false false false false true = refl
reorder false false false false false = refl

module _ (t m : List ℕ) (g : ℕ) (e : sound t (length m) ≡ true) (words : Words t) (bytes : Bytes m) where
  abbrev z : List ℕ
  z = replicate 24576 0

  size : length z ≡ 24576
  size = length-replicate {A = ℕ} 24576 0

  blank : (i : ℕ) → get_or z i 0 ≡ 0
  blank i = either (dec_lt i 24576) (λ h. get_or-replicate {A = ℕ} 24576 i 0 0 h) (λ h. get_or-eq_default z 0 {n = i} (omega (arith, size)))

  abbrev n : ℕ
  n = pages_of t

  abbrev cs : List ℕ
  cs = members g (cores_of t)

  few : n ≤ 4096
  few = (header t (length m) e).few_pages

  long : length m ≡ 4096 * n
  long = (header t (length m) e).bytes

  -- the names of the blocks, and of the two passes, with the marks after each
  abbrev R : List Name
  R = root_names g t (cores_of t)

  abbrev s₁ : List ℕ
  s₁ = marks n z R

  abbrev E₁ : List Name
  E₁ = pass_names n 0 m s₁

  abbrev s₂ : List ℕ
  s₂ = marks n s₁ E₁

  abbrev E₂ : List Name
  E₂ = pass_names n 1 m s₂

  abbrev s₃ : List ℕ
  s₃ = marks n s₂ E₂

  size₁ : length s₁ ≡ 24576
  size₁ = marks_long n z R ∙ size

  size₂ : length s₂ ≡ 24576
  size₂ = marks_long n s₁ E₁ ∙ size₁

  proper₁ : Each Proper E₁
  proper₁ = pass_proper n 0 m s₁ (omega arith)

  proper₂ : Each Proper E₂
  proper₂ = pass_proper n 1 m s₂ (omega arith)

  blank_marked : (k x : ℕ) → is_marked z k x ≡ false
  blank_marked k x = ap₂ (λ (u v : ℕ). eqb u 1 || eqb v 1) (blank (8192 * k + x)) (blank (8192 * k + 4096 + x))

  blank_written : (k x : ℕ) → is_written z k x ≡ false
  blank_written k x = ap (λ (v : ℕ). eqb v 1) (blank (8192 * k + 4096 + x))

  -- after the blocks
  marked₁ : (k x : ℕ) → x < n → is_marked s₁ k x ≡ has x (pages_with (of_kind k) R)
  marked₁ k x low = marks_marked n k x few low z R size (root_proper g t (cores_of t)) ∙ ap (λ (b : Bool). b || has x (pages_with (of_kind k) R)) (blank_marked k x)

  written₁ : (k x : ℕ) → x < n → is_written s₁ k x ≡ has x (pages_with (written k) R)
  written₁ k x low = marks_written n k x few low z R size (root_proper g t (cores_of t)) ∙ ap (λ (b : Bool). b || has x (pages_with (written k) R)) (blank_written k x)

  first₁ : (x : ℕ) → x < n → is_marked s₁ 0 x ≡ has x (first_pages cs t)
  first₁ x low = marked₁ 0 x low ∙ ap (has x) (root_first g t (cores_of t))

  -- after the first pass
  tables₁ : (x : ℕ) → has x (pages_with (of_kind 1) E₁) ≡ has x (flat_map (named any_rights m) (first_pages cs t))
  tables₁ x =
      ap (has x) (pass_pages (of_kind 1) any_rights n 0 m s₁ (first_pages cs t) (asks_any 1) first₁)
      ∙ flat_map_below (named any_rights m) (first_pages cs t) n x (λ y i far. named_beyond any_rights m n y long far (first_low t m e g words bytes y i))

  first₂ : (x : ℕ) → x < n → is_marked s₂ 0 x ≡ has x (first_pages cs t)
  first₂ x low = kept n few s₁ E₁ size₁ proper₁ x low 0 (pass_other (of_kind 0) n 0 m s₁ (λ p w. refl)) ∙ first₁ x low

  second₂ : (x : ℕ) → x < n → is_marked s₂ 1 x ≡ has x (second_pages cs t m)
  unfolding second_pages
  second₂ x low =
      more n 1 x s₁ E₁ (pages_with (of_kind 1) R) (flat_map (named any_rights m) (first_pages cs t)) few low size₁ proper₁ (marked₁ 1 x low) (tables₁ x)
      ∙ ap (λ (l : List ℕ). has x (flat_map (named any_rights m) (first_pages cs t) ++ l)) (root_second g t (cores_of t))

  data₂ : (x : ℕ) → x < n → is_marked s₂ 2 x ≡ has x (pages_with (of_kind 2) R)
  data₂ x low = kept n few s₁ E₁ size₁ proper₁ x low 2 (pass_other (of_kind 2) n 0 m s₁ (λ p w. refl)) ∙ marked₁ 2 x low

  written₂ : (x : ℕ) → x < n → is_written s₂ 2 x ≡ has x (pages_with (written 2) R)
  written₂ x low = kept_written n few s₁ E₁ size₁ proper₁ x low 2 (pass_other (written 2) n 0 m s₁ (λ p w. refl)) ∙ written₁ 2 x low

  -- after the second pass
  below₂ : (p : ℕ → Bool) (x : ℕ) → has x (flat_map (named p m) (select (λ (y : ℕ). has y (second_pages cs t m)) (range n))) ≡ has x (flat_map (named p m) (second_pages cs t m))
  below₂ p x = flat_map_below (named p m) (second_pages cs t m) n x (λ y i far. named_beyond p m n y long far (second_low t m e g words bytes y i))

  tables₂ : (x : ℕ) → has x (pages_with (of_kind 2) E₂) ≡ has x (flat_map (named any_rights m) (second_pages cs t m))
  tables₂ x = ap (has x) (pass_pages (of_kind 2) any_rights n 1 m s₂ (second_pages cs t m) (asks_any 2) second₂) ∙ below₂ any_rights x

  grants₂ : (x : ℕ) → has x (pages_with (written 2) E₂) ≡ has x (flat_map (named grants_write m) (second_pages cs t m))
  grants₂ x = ap (has x) (pass_pages (written 2) grants_write n 1 m s₂ (second_pages cs t m) (asks_write 2) second₂) ∙ below₂ grants_write x

  first₃ : (x : ℕ) → x < n → is_marked s₃ 0 x ≡ has x (first_pages cs t)
  first₃ x low = kept n few s₂ E₂ size₂ proper₂ x low 0 (pass_other (of_kind 0) n 1 m s₂ (λ p w. refl)) ∙ first₂ x low

  second₃ : (x : ℕ) → x < n → is_marked s₃ 1 x ≡ has x (second_pages cs t m)
  second₃ x low = kept n few s₂ E₂ size₂ proper₂ x low 1 (pass_other (of_kind 1) n 1 m s₂ (λ p w. refl)) ∙ second₂ x low

  data₃ : (x : ℕ) → x < n → is_marked s₃ 2 x ≡ has x (data_pages cs t m)
  unfolding data_pages
  data₃ x low =
      more n 2 x s₂ E₂ (pages_with (of_kind 2) R) (flat_map (named any_rights m) (second_pages cs t m)) few low size₂ proper₂ (data₂ x low) (tables₂ x)
      ∙ ap (λ (l : List ℕ). has x (flat_map (named any_rights m) (second_pages cs t m) ++ l)) (root_data g t (cores_of t))

  written₃ : (x : ℕ) → x < n → is_written s₃ 2 x ≡ has x (writable_pages cs t m)
  unfolding writable_pages
  written₃ x low =
      more_written n 2 x s₂ E₂ (pages_with (written 2) R) (flat_map (named grants_write m) (second_pages cs t m)) few low size₂ proper₂ (written₂ x low) (grants₂ x)
      ∙ ap (λ (l : List ℕ). has x (flat_map (named grants_write m) (second_pages cs t m) ++ l)) (root_written g t (cores_of t))

  -- the map
  byte_same : (x : ℕ) → x < n → byte_of s₃ x ≡ map_byte (reach cs t m) x
  unfolding byte_of map_byte reach
  byte_same x low =
      ap₂ (λ (u v : ℕ). u * 2 + v + flag (is_written s₃ 2 x) * 4)
      (ap flag (ap₂ ◌||◌ (first₃ x low) (second₃ x low) ∙ sym (has_append x (first_pages cs t) (second_pages cs t m))))
      (ap flag (data₃ x low))
      ∙ ap (λ (b : Bool). flag (has x (first_pages cs t ++ second_pages cs t m)) * 2 + flag (has x (data_pages cs t m)) + flag b * 4) (written₃ x low)

  pub map_is : map (byte_of s₃) (range n) ≡ map_for cs t m
  unfolding map_for
  map_is = map_same (byte_of s₃) (λ (x : ℕ). map_byte (reach cs t m) x) (range n) (λ x i. byte_same x (range_in n x i))

  -- ---- beyond memory

  -- the names of the data pages in the definition's order
  abbrev named₂ : List Name
  named₂ = flat_map (entry_names 2 m) (second_pages cs t m) ++ R

  named_data : pages_with (of_kind 2) named₂ ≡ data_pages cs t m
  unfolding data_pages
  named_data = with_append (of_kind 2) (flat_map (entry_names 2 m) (second_pages cs t m)) R ∙ ap₂ ◌++◌ (tables_pages (of_kind 2) any_rights 2 (asks_any 2) m (second_pages cs t m)) (root_data g t (cores_of t))

  named_written : pages_with (written 2) named₂ ≡ writable_pages cs t m
  unfolding writable_pages
  named_written = with_append (written 2) (flat_map (entry_names 2 m) (second_pages cs t m)) R ∙ ap₂ ◌++◌ (tables_pages (written 2) grants_write 2 (asks_write 2) m (second_pages cs t m)) (root_written g t (cores_of t))

  outside_data : outside n (data_pages cs t m ++ writable_pages cs t m) ≡ outside n (flat_map (named any_rights m) (second_pages cs t m)) || outside n (pages_with (of_kind 2) R)
  unfolding data_pages
  outside_data =
      outside_append n (data_pages cs t m) (writable_pages cs t m)
      ∙ ap₂ (λ (a b : List ℕ). outside n a || outside n b) (sym named_data) (sym named_written)
      ∙ outside_fewer n (written 2) (of_kind 2) named₂ (λ y h. and_left (of_kind 2 y) (eqb y.write 1) h)
      ∙ ap (outside n) named_data
      ∙ outside_append n (flat_map (named any_rights m) (second_pages cs t m)) _
      ∙ ap (λ (l : List ℕ). outside n (flat_map (named any_rights m) (second_pages cs t m)) || outside n l) (sym (root_data g t (cores_of t)))

  outside_tables : outside n (first_pages cs t ++ second_pages cs t m) ≡ outside n (pages_with (of_kind 0) R) || (outside n (flat_map (named any_rights m) (first_pages cs t)) || outside n (pages_with (of_kind 1) R))
  unfolding second_pages
  outside_tables =
      outside_append n (first_pages cs t) (second_pages cs t m)
      ∙ ap₂ ◌||◌ (ap (outside n) (sym (root_first g t (cores_of t))))
      (outside_append n (flat_map (named any_rights m) (first_pages cs t)) _ ∙ ap (λ (l : List ℕ). outside n (flat_map (named any_rights m) (first_pages cs t)) || outside n l) (sym (root_second g t (cores_of t))))

  strays₁ : strays n E₁ ≡ outside n (flat_map (named any_rights m) (first_pages cs t))
  strays₁ =
      strays_sets n E₁ proper₁
      ∙ rw (pass_other (of_kind 0) n 0 m s₁ (λ p w. refl), pass_other (of_kind 2) n 0 m s₁ (λ p w. refl), outside_none n) (sym (or_none (outside n (pages_with (of_kind 1) E₁)) false refl))
      ∙ outside_same n (pages_with (of_kind 1) E₁) (flat_map (named any_rights m) (first_pages cs t)) tables₁

  strays₂ : strays n E₂ ≡ outside n (flat_map (named any_rights m) (second_pages cs t m))
  strays₂ =
      strays_sets n E₂ proper₂
      ∙ rw (pass_other (of_kind 0) n 1 m s₂ (λ p w. refl), pass_other (of_kind 1) n 1 m s₂ (λ p w. refl), outside_none n) (outside_same n (pages_with (of_kind 2) E₂) (flat_map (named any_rights m) (second_pages cs t m)) tables₂)

  pub beyond_is : strays n R || (strays n E₁ || strays n E₂) ≡ not (in_memory (reach cs t m) n)
  unfolding in_memory reach outside
  beyond_is =
      ap₂ ◌||◌ (strays_sets n R (root_proper g t (cores_of t))) (ap₂ ◌||◌ strays₁ strays₂)
      ∙ reorder (outside n (pages_with (of_kind 0) R)) (outside n (pages_with (of_kind 1) R)) (outside n (pages_with (of_kind 2) R)) (outside n (flat_map (named any_rights m) (first_pages cs t))) (outside n (flat_map (named any_rights m) (second_pages cs t m)))
      ∙ sym (outside_append n (first_pages cs t ++ second_pages cs t m) (data_pages cs t m ++ writable_pages cs t m) ∙ ap₂ ◌||◌ outside_tables outside_data)

  -- the code's marks, one call after the other
  module _ (o a b c : Marks) (O : Blank n m o) (A : Marked o a R) (B : Marked a b (pass_names a.pages 0 a.memory.now a.bytes)) (C : Marked b c (pass_names b.pages 1 b.memory.now b.bytes)) where
    pages₁ : a.pages ≡ n
    pages₁ = A.pages ∙ O.pages

    pages₂ : b.pages ≡ n
    pages₂ = B.pages ∙ pages₁

    memory₁ : a.memory.now ≡ m
    memory₁ = A.memory ∙ O.memory

    memory₂ : b.memory.now ≡ m
    memory₂ = B.memory ∙ memory₁

    after₁ : a.bytes ≡ s₁
    after₁ = A.left ∙ ap₂ (λ (u : ℕ) (v : List ℕ). marks u v R) O.pages O.bytes

    names₁ : pass_names a.pages 0 a.memory.now a.bytes ≡ E₁
    names₁ = ap (λ (u : ℕ). pass_names u 0 a.memory.now a.bytes) pages₁ ∙ ap₂ (pass_names n 0) memory₁ after₁

    after₂ : b.bytes ≡ s₂
    after₂ = B.left ∙ ap (λ (l : List Name). marks a.pages a.bytes l) names₁ ∙ ap₂ (λ (u : ℕ) (v : List ℕ). marks u v E₁) pages₁ after₁

    names₂ : pass_names b.pages 1 b.memory.now b.bytes ≡ E₂
    names₂ = ap (λ (u : ℕ). pass_names u 1 b.memory.now b.bytes) pages₂ ∙ ap₂ (pass_names n 1) memory₂ after₂

    after₃ : c.bytes ≡ s₃
    after₃ = C.left ∙ ap (λ (l : List Name). marks b.pages b.bytes l) names₂ ∙ ap₂ (λ (u : ℕ) (v : List ℕ). marks u v E₂) pages₂ after₂

    pub filled_map : (r : List ℕ) → r ≡ map (byte_of c.bytes) (range c.pages) → r ≡ map_for cs t m
    filled_map r h = h ∙ ap₂ (λ (v : List ℕ) (u : ℕ). map (byte_of v) (range u)) after₃ (C.pages ∙ pages₂) ∙ map_is

    beyond₁ : a.beyond ≡ strays n R
    beyond₁ = A.beyond ∙ ap₂ (λ (d : Bool) (u : ℕ). d || strays u R) O.beyond O.pages

    beyond₂ : b.beyond ≡ strays n R || strays n E₁
    beyond₂ = B.beyond ∙ ap₂ ◌||◌ beyond₁ (ap₂ strays pages₁ names₁)

    pub filled_beyond : c.beyond ≡ not (in_memory (reach cs t m) n)
    filled_beyond = C.beyond ∙ ap₂ ◌||◌ beyond₂ (ap₂ strays pages₂ names₂) ∙ or_assoc (strays n R) (strays n E₁) (strays n E₂) ∙ beyond_is
