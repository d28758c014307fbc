-- A row of the table, looked up at a code that a match has found, or that is none of the codes of a match.
-- Assumes nothing.
use Rattle.std.specs.Prelude.{if◌then◌else◌}
use mathlib.Core.Path.{◌≡◌, refl, sym, ap}
use mathlib.Core.Bool.{Bool, true, false, not, ◌&&◌, ◌||◌}
use mathlib.Core.List.{List, [], ◌∷◌}
use Prim.Native.Nat.{ℕ}
use lib.Dec.{T}
use Rattle.word.proofs.Tests.{NoneOf, elem, missed, and_left, and_right, and_false}
use Rattle.decode.specs.declared.Instruction.{Instruction}
use Rattle.decode.specs.declared.Instruction.TheVariants.{Illegal}
use Rattle.decode.specs.Fields.{opc, fun, rs, rt}
use Rattle.decode.specs.Table.{Row, Column, blank, is, meets, met, look, table, row_of, decoded}

pub by_fun : (o s : ℕ) {f k : ℕ} → f ≡ k → row_of o k s 0 ≡ row_of o f s 0
by_fun o s e = ap (λ (x : ℕ). row_of o x s 0) (sym e)

pub by_rs : (f : ℕ) {s k : ℕ} → s ≡ k → row_of 16 f k 0 ≡ row_of 16 f s 0
by_rs f e = ap (λ (x : ℕ). row_of 16 f x 0) (sym e)

pub by_rt : {t k : ℕ} → t ≡ k → row_of 1 0 0 k ≡ row_of 1 0 0 t
by_rt e = ap (λ (x : ℕ). row_of 1 0 0 x) (sym e)

pub by_opcode : (w : ℕ) {k : ℕ} → opc w ≡ k → row_of k (fun w) (rs w) (rt w) ≡ decoded w
unfolding decoded
by_opcode w e = ap (λ (x : ℕ). row_of x (fun w) (rs w) (rt w)) (sym e)

-- ---- no row is met

abbrev pub each : (Row → Bool) → List Row → Bool
each p [] = true
each p (r ∷ l) = p r && each p l

none : (p : Row → Bool) (l : List Row) (o f s t : ℕ) → T (each p l) → ((r : Row) → T (p r) → met r o f s t ≡ false) → Illegal ≡ look l o f s t
none p [] o f s t u miss = refl
none p (r ∷ l) o f s t u miss =
    rw (miss r (and_left (p r) (each p l) u)) (none p l o f s t (and_right (p r) (each p l) u) miss)

-- ---- a row is met, or none

-- what holds of an illegal word, and of each row's instruction where the row is met, holds of what is found
pub found_by : (q : Instruction → Bool) (p : Row → Bool) (l : List Row) (o f s t : ℕ) → T (q Illegal) →
    ((r : Row) → T (p r) → met r o f s t ≡ true → T (q r.name)) → T (each p l) → T (q (look l o f s t))
found_by q p [] o f s t z m u = z
found_by q p (r ∷ l) o f s t z m u = pick (met r o f s t) refl (found_by q p l o f s t z m (and_right (p r) (each p l) u))
  where
    pick : (b : Bool) → met r o f s t ≡ b → T (q (look l o f s t)) → T (q (if b then r.name else look l o f s t))
    pick true e v = m r (and_left (p r) (each p l) u) e
    pick false e v = v

-- ---- codes that no row has

-- a column has one of the codes
abbrev pub listed : List ℕ → Column → Bool
listed ks blank = false
listed ks (is k) = elem k ks

pub column_missed : (c : Column) (x : ℕ) (ks : List ℕ) → T (listed ks c) → NoneOf x ks → meets c x ≡ false
column_missed blank x ks t n = absurd t
column_missed (is k) x ks t n = missed x k ks t n

-- an opcode that no row has
pub other_opcode : (w : ℕ) (ks : List ℕ) → T (each (λ (r : Row). listed ks r.opcode) table) → NoneOf (opc w) ks → Illegal ≡ decoded w
unfolding decoded row_of
other_opcode w ks t n =
    none (λ (r : Row). listed ks r.opcode) table (opc w) (fun w) (rs w) (rt w) t
    (λ r u. rw (column_missed r.opcode (opc w) ks u n))

-- under an opcode, another code that no row has; each row has another opcode or one of the codes
abbrev pub unless : (Row → Column) → ℕ → List ℕ → Row → Bool
unless column o ks r = not (meets r.opcode o) || listed ks (column r)

split : (b : Bool) (c : Bool) (d : Bool) → T (not b || c) → (T c → d ≡ false) → b && d ≡ false
split true c d t miss = miss t
split false c d t miss = refl

pub other_fun : (o f s : ℕ) (ks : List ℕ) → T (each (unless (λ (r : Row). r.fun) o ks) table) → NoneOf f ks → Illegal ≡ row_of o f s 0
unfolding row_of
other_fun o f s ks t n =
    none (unless (λ (r : Row). r.fun) o ks) table o f s 0 t
    (λ r u.
    split (meets r.opcode o) (listed ks r.fun) (meets r.rs s && (meets r.rt 0 && meets r.fun f)) u
    (λ v. rw (column_missed r.fun f ks v n, and_false (meets r.rt 0), and_false (meets r.rs s))))
