-- What a step of the I/O APIC leaves: every word but its own as it was, and words as words. What an EOI message does,
-- entry by entry.
-- Assumes nothing.
use Rattle.std.specs.Prelude.{if◌then◌else◌}
use mathlib.Core.Path.{◌≡◌, refl, sym, ap, ◌∙◌}
use mathlib.Core.Bool.{Bool, true, false}
use mathlib.Core.List.{List}
use mathlib.Core.Logic.{◌⊎◌, ⊎_elim}
use Prim.Native.Nat.{ℕ, zero, suc, ◌+◌, ◌^◌, ◌≤◌, ◌<◌}
use native.Mathlib.Omega.{arith}
use lib.ListN.{get_or, set, length, length-set}
use lib.Seq.{get_or-set_same, get_or-set_other}
use lib.Dec.{eqb, ltb}
use borrow.Author.Tests.{ltb-true}
use Rattle.word.specs.Word.{with_bit}
use Rattle.word.proofs.Laws.{side}
use Rattle.word.proofs.Words.{Words, set_below}
use Rattle.layout.specs.Layout.{ioregsel, iowin, redirect}
use Rattle.word.proofs.Bits.{put_below}
use Rattle.ioapic.specs.IoApic.{entry, with_entry, vect, rirr, ds, selected, windowed, io_written, on_entries, acknowledged, eoi_received, sampled, handed}

-- the words that are not the I/O APIC's
abbrev pub Foreign : ℕ → Type 0
Foreign x = (x < 4) ⊎ (29 < x)

pub record Kept (t t' : List ℕ) : Type 0 where
  pub long : length t' ≡ length t
  pub same : (x : ℕ) → Foreign x → get_or t' x 0 ≡ get_or t x 0
  pub words : Words t → Words t'

kept_all : (t : List ℕ) → Kept t t
kept_all t = record { long = refl; same = λ x p. refl; words = λ h. h }

kept_then : {a b c : List ℕ} → Kept a b → Kept b c → Kept a c
kept_then p q =
    record { long = q.long ∙ p.long; same = λ x h. q.same x h ∙ p.same x h; words = λ h. q.words (p.words h) }

kept_if : (s : Bool) {t x y : List ℕ} → Kept t x → Kept t y → Kept t (if s then x else y)
kept_if true p q = p
kept_if false p q = q

-- one word more
kept_more : {t u : List ℕ} → Kept t u → (i v : ℕ) → 4 ≤ i → i ≤ 29 → (Words t → v < 2 ^ 32) → Kept t (set u i v)
kept_more {t} {u} p i v l h w =
    record {
      long = length-set u i v ∙ p.long;
      same = λ x o. get_or-set_other u i x v 0 (λ e. ⊎_elim (λ k. omega arith) (λ k. omega arith) o) ∙ p.same x o;
      words = λ d. set_below u i v (p.words d) (w d);
    }

kept_set : (t : List ℕ) (i v : ℕ) → 4 ≤ i → i ≤ 29 → (Words t → v < 2 ^ 32) → Kept t (set t i v)
kept_set t i v l h w = kept_more (kept_all t) i v l h w

-- an entry with another value, made of the old one
kept_entry : (t : List ℕ) (k v : ℕ) → k < 24 → (Words t → v < 2 ^ 32) → Kept t (with_entry t k v)
kept_entry t k v h w = kept_set t (redirect + k) v (omega arith) (omega arith) w

bit_put : (t : List ℕ) (k i x : ℕ) → i < 32 → x < 2 → Words t → with_bit (entry t k) i x < 2 ^ 32
bit_put t k i x hi hx w = put_below 32 (entry t k) i x (w (redirect + k)) hi hx

module _ (t : List ℕ) where
  pub kept_selected : (v : ℕ) → v < 2 ^ 32 → Kept t (selected t v)
  unfolding selected
  kept_selected v hv =
      kept_more (kept_set t ioregsel v (omega arith) (omega arith) (λ w. hv)) iowin (entry t v) (omega arith) (omega arith) (λ w. w (redirect + v))

  window_case : (s : Bool) (v : ℕ) → ltb (get_or t ioregsel 0) 24 ≡ s → v < 2 ^ 32 → Kept t (if s then with_entry t (get_or t ioregsel 0) v else t)
  window_case true v e hv = kept_entry t (get_or t ioregsel 0) v (ltb-true (get_or t ioregsel 0) 24 e) (λ w. hv)
  window_case false v e hv = kept_all t

  pub kept_windowed : (v : ℕ) → v < 2 ^ 32 → Kept t (windowed t v)
  unfolding windowed
  kept_windowed v hv =
      kept_then (window_case (ltb (get_or t ioregsel 0) 24) v refl hv)
      (kept_set (if ltb (get_or t ioregsel 0) 24 then with_entry t (get_or t ioregsel 0) v else t) iowin v (omega arith) (omega arith) (λ w. hv))

  pub kept_written : (a v : ℕ) → v < 2 ^ 32 → Kept t (io_written t a v)
  unfolding io_written
  kept_written a v hv = kept_if (eqb a 0) (kept_selected v hv) (kept_windowed v hv)

  pub kept_sampled : (k : ℕ) → k < 24 → Kept t (sampled t k)
  unfolding sampled
  kept_sampled k h = kept_entry t k (with_bit (entry t k) ds 1) h (bit_put t k ds 1 (omega arith) (omega arith))

  pub kept_handed : (k : ℕ) → k < 24 → Kept t (handed t k)
  unfolding handed
  kept_handed k h =
      kept_entry t k (with_bit (with_bit (entry t k) ds 0) rirr 1) h
      (λ w. put_below 32 (with_bit (entry t k) ds 0) rirr 1 (bit_put t k ds 0 (omega arith) (omega arith) w) (omega arith) (omega arith))

-- ---- an EOI message

acknowledged_lt : (v e : ℕ) (s : Bool) → e < 2 ^ 32 → (if s then with_bit e rirr 0 else e) < 2 ^ 32
acknowledged_lt v e true h = put_below 32 e rirr 0 h (omega arith) (omega arith)
acknowledged_lt v e false h = h

kept_entries : (t : List ℕ) (v n : ℕ) → n ≤ 24 → Kept t (on_entries (acknowledged v) n t)
unfolding on_entries
kept_entries t v zero h = kept_all t
kept_entries t v (suc n) h =
    let u = on_entries (acknowledged v) n t in
    kept_then (kept_entries t v n (omega arith))
    (kept_entry u n (acknowledged v (entry u n)) (omega arith) (λ w. acknowledged_lt v (entry u n) (eqb (vect (entry u n)) v) (w (redirect + n))))

pub kept_eoi_received : (t : List ℕ) (v : ℕ) → Kept t (eoi_received t v)
unfolding eoi_received
kept_eoi_received t v = kept_entries t v 24 (omega arith)

module _ (f : ℕ → ℕ) (t : List ℕ) (i : ℕ) where
  -- entries from n on are not reached yet
  entries_later : (n : ℕ) → n ≤ i → entry (on_entries f n t) i ≡ entry t i
  unfolding on_entries
  entries_later zero h = refl
  entries_later (suc n) h =
      get_or-set_other (on_entries f n t) (redirect + n) (redirect + i) (f (entry (on_entries f n t) n)) 0 (λ e. omega arith)
      ∙ entries_later n (omega arith)

  entries_long : (n : ℕ) → length (on_entries f n t) ≡ length t
  unfolding on_entries
  entries_long zero = refl
  entries_long (suc n) = length-set (on_entries f n t) (redirect + n) (f (entry (on_entries f n t) n)) ∙ entries_long n

  pub entries_at : (n : ℕ) → redirect + n ≤ length t → i < n → entry (on_entries f n t) i ≡ f (entry t i)
  unfolding on_entries
  entries_at zero l h = absurd (omega arith)
  entries_at (suc n) l h =
      ⊎_elim
      (λ k. get_or-set_other (on_entries f n t) (redirect + n) (redirect + i) (f (entry (on_entries f n t) n)) 0 (λ e. omega arith) ∙ entries_at n (omega arith) k)
      (λ k.
      let e : i ≡ n = omega arith in
      ap (λ (j : ℕ). get_or (set (on_entries f n t) (redirect + n) (f (entry (on_entries f n t) n))) (redirect + j) 0) e
      ∙ get_or-set_same (on_entries f n t) (redirect + n) (f (entry (on_entries f n t) n)) 0 (omega (arith, entries_long n))
      ∙ ap (λ (j : ℕ). f (entry (on_entries f n t) j)) (sym e)
      ∙ ap f (entries_later n (omega arith)))
      (side i n)

-- 10.2, EOI: every entry with this vector
pub eoi_entry_at : (t : List ℕ) (v i : ℕ) → 32 ≤ length t → i < 24 → entry (eoi_received t v) i ≡ acknowledged v (entry t i)
unfolding eoi_received
eoi_entry_at t v i l h = entries_at (acknowledged v) t i 24 (omega arith) h
