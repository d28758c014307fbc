-- The facts about one step of kind 0 to 4 of a core whose block is good for the pages S of its side.
-- Assumes nothing.
use Rattle.std.specs.Prelude.{if◌then◌else◌, Result, Ok, Err}
use Rattle.refusals.specs.declared.Refusal.{Refusal}
use mathlib.Core.Path.{◌≡◌, sym, ap, ap₂, subst, ◌∙◌}
use mathlib.Core.Bool.{Bool, true, false}
use mathlib.Core.List.{List, [], ◌∷◌}
use Prim.Native.Nat.{ℕ, ◌+◌, ◌-◌, ◌^◌, ◌<◌}
use native.Mathlib.Omega.{arith}
use lib.ListN.{length, get_or, set}
use lib.Dec.{ltb}
use Rattle.word.proofs.Bytes.{Bytes}
use Rattle.layout.specs.Layout as at
use Rattle.layout.specs.Blocks.{block}
use Rattle.records.specs.declared.Walk.{Walk}
use Rattle.records.specs.declared.Store.{Store}
use Rattle.records.specs.Records.{stores, walks, goes}
use Rattle.isa.specs.declared.registers.Registers.{Registers}
use Rattle.tables.specs.Views.{cores_of}
use Rattle.tables.specs.Sound.{sound}
use Rattle.tables.proofs.Lift.{core_long, core_sound}
use Rattle.tables.proofs.Places.{count_allowed, set_stores, set_walks, set_registers}
use Rattle.steps.specs.Form.{word}
use Rattle.machine.specs.Step.{Stepped, one_more, step}
use Rattle.cores.specs.declared.BufferChange.{BufferChange}
use Rattle.cores.specs.declared.BufferChange.TheVariants.{Put, Take}
use Rattle.cores.specs.declared.WalkChange.{WalkChange}
use Rattle.cores.specs.declared.WalkChange.TheVariants.{Add, Drop}
use Rattle.cores.specs.declared.Write.{Write}
use Rattle.cores.specs.declared.Write.TheVariants.{Memory, LocalPort, IoPort}
use Rattle.cores.specs.declared.Plan.{Plan}
use Rattle.cores.specs.Core.{io_ports_of}
use Rattle.cores.specs.Commit.{written_to, block_after}
use Rattle.cores.proofs.Sounds.{plan_shows, stores_after, tlb_after}
use Rattle.reach.specs.Reach.{Pages, table_pages, reached}
use Rattle.separation.specs.Separation.{is_interrupt}
use Rattle.reach.proofs.Lists.{Each, each_append}
use Rattle.separation.proofs.Memory.{Agree, Kept, kept_refl, put_same, put_bytes}
use Rattle.separation.proofs.Good.{WalkOk, StoreOk, Good, Closed, Low, good_after, each_with, each_staying, each_drop}
use Rattle.machine.proofs.Taking.{by_test}
use Rattle.machine.proofs.Levels.{answered}
use Rattle.cores.proofs.Decisions.{MayBeDone}
use Rattle.machine.proofs.Locality.{Plain, plan_of, form_of, own_after, bytes_after, is_counted, Law, plan_done, step_law}
use Rattle.separation.proofs.Local.{plan_same}
use Rattle.separation.proofs.Safe.{BufferOk, WalksOk, Safe, plan_safe}

stores_after_lem : (S : Pages) (c : BufferChange) (l : List Store) → BufferOk S c → Each (StoreOk S) l → Each (StoreOk S) (stores_after c l)
stores_after_lem S BufferChange.Nothing l h e = e
stores_after_lem S (Put s) l h e = each_append (StoreOk S) l (s ∷ []) e (h, tt)
stores_after_lem S Take l h e = each_drop (StoreOk S) l e

walks_after_lem : (S : Pages) (c : WalkChange) (l : List Walk) → WalksOk S c → Each (WalkOk S) l → Each (WalkOk S) (tlb_after c l)
walks_after_lem S WalkChange.Nothing l h e = e
walks_after_lem S (Add w) l h e = each_with (WalkOk S) w l h e
walks_after_lem S (Drop f) l h e = each_staying (WalkOk S) (goes f) l e

pub written_bytes : (x : Write) (m : List ℕ) → Bytes m → Bytes (written_to x m)
unfolding written_to
written_bytes Write.Nothing m b = b
written_bytes (Memory a d v) m b = put_bytes d m a v b
written_bytes (LocalPort a v) m b = b
written_bytes (IoPort a v) m b = b

written_same : (ps m n : List ℕ) (x : Write) → Agree ps m n → Agree ps (written_to x m) (written_to x n)
unfolding written_to
written_same ps m n Write.Nothing g a h = g a h
written_same ps m n (Memory i d v) g a h = put_same d m n i v a (g a h)
written_same ps m n (LocalPort i v) g a h = g a h
written_same ps m n (IoPort i v) g a h = g a h

bytes_same : (ps m n : List ℕ) (p : Result Plan Refusal) → Agree ps m n → Agree ps (bytes_after p m) (bytes_after p n)
bytes_same ps m n (Ok p) A = written_same ps m n p.write A
bytes_same ps m n (Err r) A = A

-- a refusal more leaves a good block good
good_more : (S : Pages) (b : List ℕ) → Good S b → Good S (one_more at.core_refusals b)
unfolding one_more
good_more S b G = go (get_or b at.core_refusals 0) (ltb (get_or b at.core_refusals 0) (2 ^ 32 - 1))
  where
    go : (v : ℕ) (t : Bool) → Good S (if t then set b at.core_refusals (v + 1) else b)
    go v true =
        let A = count_allowed (v + 1) in
        good_after S b (set b at.core_refusals (v + 1)) G
        (ap (λ (r : Registers). r.spr) (set_registers b at.core_refusals (v + 1) (omega arith)))
        (subst (Each (WalkOk S)) (sym (set_walks b at.core_refusals (v + 1) A)) G.held)
        (subst (Each (StoreOk S)) (sym (set_stores b at.core_refusals (v + 1) A)) G.pending)
    go v false = G

-- so does a refused step
good_refused : (S : Pages) (c : Bool) (r : Refusal) (b : List ℕ) → Good S b → Good S (own_after c (Err r) b)
good_refused S c r b G = by_test (Good S) c (one_more at.core_refusals b) b (λ _. good_more S b G) (λ _. G)

-- what a step does within its side
pub record Steps (S : Pages) (t m : List ℕ) (k : ℕ) (r : Stepped) : Type 0 where
  pub kept : Kept (table_pages S) S.writables m r.memory
  pub good : is_interrupt r.answer ≡ false → Good S (block r.tables k)
  pub bytes : Bytes r.memory

module _ (S : Pages) (L : Low S) (t m s : List ℕ) (e : sound t (length m) ≡ true) (b : Bytes m) (h : word s 1 < cores_of t) (G : Good S (block t (word s 1)))
    (o : Plain (word s 1) (form_of s)) where
  k : ℕ
  k = word s 1

  abbrev P : Result Plan Refusal
  P = plan_of o (block t (word s 1)) (io_ports_of t) m

  pub law : Law t m (word s 1) (is_counted s) (plan_of o (block t (word s 1)) (io_ports_of t) m) (step t m s)
  law = step_law t m s e b h G.word o

  -- by what was decided
  within : (p : Result Plan Refusal) (r : Stepped) → Law t m (word s 1) (is_counted s) p r → MayBeDone (length m) (block t (word s 1)) p → Safe S m (block t (word s 1)) p → Steps S t m (word s 1) r
  within (Err x) r law D safe =
      record {
        kept = subst (λ (n : List ℕ). Kept (table_pages S) S.writables m n) (sym law.bytes) (kept_refl _ _ m);
        good = λ q. subst (Good S) (sym law.own) (good_refused S (is_counted s) x (block t (word s 1)) G);
        bytes = subst (λ (n : List ℕ). Bytes n) (sym law.bytes) b;
      }
  within (Ok p) r law D safe =
      let shows = plan_shows (length m) p (block t (word s 1)) (core_long t (length m) e (word s 1) h) (core_sound t (length m) e (word s 1) h) D.is_ready D.is_sound in
      record {
        kept = subst (λ (n : List ℕ). Kept (table_pages S) S.writables m n) (sym law.bytes) safe.kept;
        good = λ q.
            subst (Good S) (sym law.own)
            (good_after S (block t (word s 1)) (block_after p (block t (word s 1))) G
            (ap (λ (r : Registers). r.spr) shows.registers_view ∙ safe.special (sym (ap is_interrupt law.answers) ∙ q))
            (subst (Each (WalkOk S)) (sym shows.walks_view) (walks_after_lem S p.walks (walks (block t (word s 1))) safe.adds G.held))
            (subst (Each (StoreOk S)) (sym shows.stores_view) (stores_after_lem S p.buffer (stores (block t (word s 1))) safe.puts G.pending)));
        bytes = subst (λ (n : List ℕ). Bytes n) (sym law.bytes) (written_bytes p.write m b);
      }

  pub steps : Closed S m → Steps S t m (word s 1) (step t m s)
  steps C = within P (step t m s) law (plan_done t m e s h o b G.word) (plan_safe S L m (block t (word s 1)) b G C o (io_ports_of t))

-- from two machines with the same block, whose memories agree on what the side reaches, a step does the same
pub record Matched (S : Pages) (k : ℕ) (x y : Stepped) : Type 0 where
  pub answers : x.answer ≡ y.answer
  pub blocks : block x.tables k ≡ block y.tables k
  pub memories : Agree (reached S) x.memory y.memory

pub matched : (S : Pages) → Low S → (t m u n s : List ℕ) → sound t (length m) ≡ true → sound u (length n) ≡ true → Bytes m → Bytes n
    → word s 1 < cores_of t → word s 1 < cores_of u → Good S (block t (word s 1)) → Plain (word s 1) (form_of s)
    → block t (word s 1) ≡ block u (word s 1) → Agree (reached S) m n → Matched S (word s 1) (step t m s) (step u n s)
matched S L t m u n s e f b c h i G o q A =
    let F : Good S (block u (word s 1)) = subst (Good S) q G in
    let p : plan_of o (block t (word s 1)) (io_ports_of t) m ≡ plan_of o (block u (word s 1)) (io_ports_of u) n
    = plan_same S L (block t (word s 1)) G m n A (io_ports_of t) (io_ports_of u) o
    ∙ ap (λ (x : List ℕ). plan_of o x (io_ports_of u) n) q in
    let X = law S L t m s e b h G o in
    let Y = law S L u n s f c i F o in
    record {
      answers = X.answers ∙ ap answered p ∙ sym Y.answers;
      blocks = X.own ∙ ap₂ (λ (r : Result Plan Refusal) (x : List ℕ). own_after (is_counted s) r x) p q ∙ sym Y.own;
      memories =
          subst (λ (x : List ℕ). Agree (reached S) (step t m s).memory x) (sym (Y.bytes ∙ ap (λ (r : Result Plan Refusal). bytes_after r n) (sym p)))
          (subst (λ (x : List ℕ). Agree (reached S) x (bytes_after (plan_of o (block t (word s 1)) (io_ports_of t) m) n)) (sym X.bytes)
          (bytes_same (reached S) m n (plan_of o (block t (word s 1)) (io_ports_of t) m) A));
    }
