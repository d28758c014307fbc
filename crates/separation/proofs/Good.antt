-- What holds of a core's block and of the tables within a list, for the pages S of the core's side.
-- Assumes nothing.
use Rattle.std.specs.Prelude.{Some}
use mathlib.Core.Path.{◌≡◌, sym, ap, subst, ◌∙◌}
use mathlib.Core.Logic.{⊎_elim}
use mathlib.Core.Bool.{Bool, true, false, ◌&&◌, false≢true}
use mathlib.Core.List.{List, [], ◌∷◌, ◌++◌}
use Prim.Native.Nat.{ℕ, zero, suc, ◌+◌, ◌*◌, ◌/◌, ◌%◌, ◌^◌, ◌<◌, ◌≤◌}
use native.Mathlib.Omega.{arith}
use lib.ListN.{get_or, drop}
use lib.Dec.{ltb, eqb}
use borrow.Author.Tests.{lt-leb}
use Rattle.word.specs.Bytes.{bytes_at}
use Rattle.word.proofs.Bytes.{Bytes}
use Rattle.word.proofs.Truth.{or_cases}
use Rattle.layout.specs.Layout as at
use Rattle.records.specs.declared.Walk.{Walk}
use Rattle.records.specs.declared.Store.{Store}
use Rattle.records.specs.Records.{stores, walks, among, same}
use Rattle.records.specs.inner.Walks.{with_walk, staying}
use Rattle.records.specs.Contents.{local_port, io_port}
use Rattle.records.proofs.Facts.{same_walk}
use Rattle.tables.specs.Views.{registers_of, user_mode}
use Rattle.tlb.specs.Walks.{walk_level, walk_r, walk_ba, ptea, ptea_at, entry_at, pte_p, pte_r, pte_ba, base_address}
use Rattle.tlb.specs.Steps.{origin_of}
use Rattle.tables.proofs.Shown.{special_at}
use Rattle.tlb.proofs.Entries.{entry_in, entry_high, same_ba, same_p, same_r}
use Rattle.tlb.proofs.Steps.{entry_word}
use Rattle.tlb.proofs.Fields.{index_lt, ptea_at_lem, ptea_page}
use Rattle.reach.specs.Reach.{Pages, table_pages, reached, grants_write}
use Rattle.reach.proofs.Lists.{In, Each, in_left, in_right}
use Rattle.separation.proofs.Memory.{page, Fits, Kept, kept_still}

-- the page of a walk is in the set that its level asks for
abbrev pub AtLevel : Pages → ℕ → ℕ → ℕ → Type 0
AtLevel S zero r p = In p S.datas × (grants_write r ≡ true → In p S.writables)
AtLevel S (suc zero) r p = In p S.seconds
AtLevel S (suc (suc zero)) r p = In p S.firsts
AtLevel S (suc (suc (suc n))) r p = ⊥

pub record WalkOk (S : Pages) (w : Walk) : Type 0 where
  pub at_level : AtLevel S (walk_level w) (walk_r w) (walk_ba w)
  pub word : w.first < 2 ^ 32

pub record StoreOk (S : Pages) (s : Store) : Type 0 where
  pub writable : In (page s.address) S.writables
  pub fits : Fits s.address s.width

-- a core that may still step
pub record Good (S : Pages) (b : List ℕ) : Type 0 where
  pub user : user_mode b ≡ true
  pub word : get_or b (at.spr + at.pto) 0 < 2 ^ 32
  pub origin : In (origin_of b) S.firsts
  pub held : Each (WalkOk S) (walks b)
  pub pending : Each (StoreOk S) (stores b)

-- tables lead where reach showed
pub record Closed (S : Pages) (m : List ℕ) : Type 0 where
  pub down : (p i e : ℕ) → In p S.firsts → i < 1024 → entry_at m (ptea_at p i) ≡ Some e → pte_p e ≡ true → In (pte_ba e) S.seconds
  pub leaf : (p i e : ℕ) → In p S.seconds → i < 1024 → entry_at m (ptea_at p i) ≡ Some e → pte_p e ≡ true → In (pte_ba e) S.datas
  pub leaf_write : (p i e : ℕ) → In p S.seconds → i < 1024 → entry_at m (ptea_at p i) ≡ Some e → pte_p e ≡ true → grants_write (pte_r e) ≡ true → In (pte_ba e) S.writables

-- every page reached is below 4,096, and so no port
abbrev pub Low : Pages → Type 0
Low S = (p : ℕ) → In p (reached S) → p < 4096

pub low_local : (a : ℕ) → page a < 4096 → local_port a ≡ false
low_local a h = ap (λ (t : Bool). t && ltb a (at.local_ports + at.local_port_bytes)) (lt-leb at.local_ports a (omega arith))

pub low_io : (a : ℕ) → page a < 4096 → io_port a ≡ false
low_io a h = ap (λ (t : Bool). t && ltb a (at.io_ports + at.io_port_bytes)) (lt-leb at.io_ports a (omega arith))

-- ---- walks

pub among_each : (P : Walk → Type 0) (w : Walk) (l : List Walk) → Each P l → among w l ≡ true → P w
unfolding among
among_each P w [] h e = absurd (false≢true e)
among_each P w (x ∷ l) h e =
    ⊎_elim (λ q. subst P (same_walk x w q) h.0) (λ q. among_each P w l h.1 q) (or_cases (same x w) _ e)

-- a walk that is not complete reads a table
pub level_table : (S : Pages) (k r p : ℕ) → 1 ≤ k → AtLevel S k r p → In p (table_pages S)
level_table S zero r p h g = absurd (omega arith)
level_table S (suc zero) r p h g = in_right p S.firsts S.seconds g
level_table S (suc (suc zero)) r p h g = in_left p S.firsts S.seconds g
level_table S (suc (suc (suc n))) r p h g = absurd g

pub table_reached : (S : Pages) (p : ℕ) → In p (table_pages S) → In p (reached S)
table_reached S p h = in_left p (table_pages S) (S.datas ++ S.writables) h

pub data_reached : (S : Pages) (p : ℕ) → In p S.datas → In p (reached S)
data_reached S p h = in_right p (table_pages S) (S.datas ++ S.writables) (in_left p S.datas S.writables h)

pub writable_reached : (S : Pages) (p : ℕ) → In p S.writables → In p (reached S)
writable_reached S p h = in_right p (table_pages S) (S.datas ++ S.writables) (in_right p S.datas S.writables h)

-- ---- addresses

pub base_page : (a : ℕ) → base_address a ≡ page a
base_page a = omega arith

pub entry_place : (p i : ℕ) → p < 4096 → i < 1024 → ptea_at p i ≡ 4096 * p + 4 * i
entry_place p i h q = omega arith

-- the entry of a walk that is not complete lies in a table
module _ (S : Pages) (L : Low S) (w : Walk) (k : WalkOk S w) (l : 1 ≤ walk_level w) where
  pub walk_table : In (walk_ba w) (table_pages S)
  walk_table = level_table S (walk_level w) (walk_r w) (walk_ba w) l k.at_level

  walk_low : walk_ba w < 4096
  walk_low = L (walk_ba w) (table_reached S (walk_ba w) walk_table)

  pub walk_page : page (ptea w) ≡ walk_ba w
  walk_page = ptea_page w k.word (omega (arith, walk_low))

  pub walk_fits : Fits (ptea w) 4
  walk_fits = omega (arith, ptea_at_lem w k.word (omega (arith, walk_low)), index_lt w k.word)

-- another block with the same special registers, and good walks and stores
pub good_after : (S : Pages) (b c : List ℕ) → Good S b → (registers_of c).spr ≡ (registers_of b).spr → Each (WalkOk S) (walks c) → Each (StoreOk S) (stores c) → Good S c
good_after S b c G e ws ss =
    record {
      user = ap (λ (l : List ℕ). eqb (get_or l at.mode 0 % 2) 1) e ∙ G.user;
      word = omega (arith, G.word, same_word at.pto (omega arith));
      origin = subst (λ (n : ℕ). In (base_address n) S.firsts) (sym (same_word at.pto (omega arith))) G.origin;
      held = ws;
      pending = ss;
    }
  where
    same_word : (i : ℕ) → i < 32 → get_or c (at.spr + i) 0 ≡ get_or b (at.spr + i) 0
    same_word i h = sym (special_at c i h) ∙ ap (λ (l : List ℕ). get_or l i 0) e ∙ special_at b i h

pub each_with : (P : Walk → Type 0) (w : Walk) (l : List Walk) → P w → Each P l → Each P (with_walk w l)
unfolding with_walk
each_with P w l p h = go (among w l)
  where
    go : (t : Bool) → Each P (elim t [ true ↦ l | false ↦ w ∷ l ])
    go true = h
    go false = (p, h)

pub each_staying : (P : Walk → Type 0) (hit : ℕ → Bool) (l : List Walk) → Each P l → Each P (staying hit l)
unfolding staying
each_staying P hit [] h = tt
each_staying P hit (w ∷ l) h = go (hit w.first) (each_staying P hit l h.1)
  where
    go : (t : Bool) → Each P (staying hit l) → Each P (elim t [ true ↦ staying hit l | false ↦ w ∷ staying hit l ])
    go true r = r
    go false r = (h.0, r)

pub each_drop : (P : Store → Type 0) (l : List Store) → Each P l → Each P (drop 1 l)
each_drop P [] h = tt
each_drop P (s ∷ l) h = h.1

-- ---- tables stay closed while entries keep all but their accessed bits

module _ (ts ws m n : List ℕ) (k : Kept ts ws m n) (bm : Bytes m) (bn : Bytes n) where
  module _ (p i : ℕ) (l : p < 4096) (q : i < 1024) (d : In p ws → ⊥) where
    byte_kept : (j : ℕ) → 0 < j → j < 4 → get_or n (ptea_at p i + j) 0 ≡ get_or m (ptea_at p i + j) 0
    byte_kept j s t =
        let f : ptea_at p i ≡ 4096 * p + 4 * i = entry_place p i l q in
        let e : page (ptea_at p i + j) ≡ p = omega arith in
        kept_still ts ws m n (ptea_at p i + j) k (λ h. d (subst (λ (x : ℕ). In x ws) e h)) (λ _ z. omega arith)

    high_kept : bytes_at 4 n (ptea_at p i) / 2 ^ 8 ≡ bytes_at 4 m (ptea_at p i) / 2 ^ 8
    high_kept =
        let e1 : get_or n (ptea_at p i + 1) 0 ≡ get_or m (ptea_at p i + 1) 0 = byte_kept 1 (omega arith) (omega arith) in
        let e2 : get_or n (ptea_at p i + 1 + 1) 0 ≡ get_or m (ptea_at p i + 1 + 1) 0 = deep 2 (omega arith) (omega arith) (omega arith) in
        let e3 : get_or n (ptea_at p i + 1 + 1 + 1) 0 ≡ get_or m (ptea_at p i + 1 + 1 + 1) 0 = deep 3 (omega arith) (omega arith) (omega arith) in
        entry_high n (ptea_at p i) bn ∙ (λ j. e1 j + 256 * (e2 j + 256 * (e3 j + 256 * 0))) ∙ sym (entry_high m (ptea_at p i) bm)
      where
        deep : (j : ℕ) {x : ℕ} → 0 < j → j < 4 → x ≡ ptea_at p i + j → get_or n x 0 ≡ get_or m x 0
        deep j {x} s t e = rw e (byte_kept j s t)

    -- an entry of the memory after was there before, with the same base, present bit and rights
    pub entry_kept : (e : ℕ) → entry_at n (ptea_at p i) ≡ Some e → (f : ℕ) × (entry_at m (ptea_at p i) ≡ Some f) × (e / 2 ^ 8 ≡ f / 2 ^ 8)
    entry_kept e h =
        let w = entry_word n (ptea_at p i) h in (
          bytes_at 4 m (ptea_at p i),
          sym (entry_in m (ptea_at p i) (omega (arith, w.1, k.size))),
          ap (λ (x : ℕ). x / 2 ^ 8) w.0 ∙ high_kept,
        )

  pub closed_kept : (S : Pages) → Low S → ((p : ℕ) → In p (table_pages S) → In p ws → ⊥) → Closed S m → Closed S n
  closed_kept S L d c =
      record {
        down = λ p i e h q g x. let r = entry_kept p i (L p (table_reached S p (one p h))) q (d p (one p h)) e g in
            rw (same_ba e r.0 r.2) (c.down p i r.0 h q r.1 (sym (same_p e r.0 r.2) ∙ x));
        leaf = λ p i e h q g x. let r = entry_kept p i (L p (table_reached S p (two p h))) q (d p (two p h)) e g in
            rw (same_ba e r.0 r.2) (c.leaf p i r.0 h q r.1 (sym (same_p e r.0 r.2) ∙ x));
        leaf_write = λ p i e h q g x y. let r = entry_kept p i (L p (table_reached S p (two p h))) q (d p (two p h)) e g in
            rw (same_ba e r.0 r.2) (c.leaf_write p i r.0 h q r.1 (sym (same_p e r.0 r.2) ∙ x) (sym (ap grants_write (same_r e r.0 r.2)) ∙ y));
      }
    where
      one : (p : ℕ) → In p S.firsts → In p (table_pages S)
      one p h = in_left p S.firsts S.seconds h

      two : (p : ℕ) → In p S.seconds → In p (table_pages S)
      two p h = in_right p S.firsts S.seconds h
