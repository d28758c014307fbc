-- What send_IPI, send_EOI and deliver do to each block and to the header, and what they leave.
-- Assumes nothing.
use Rattle.std.specs.Prelude.{if◌then◌else◌}
use mathlib.Core.Path.{◌≡◌, refl, sym, ap, ◌∙◌, subst}
use mathlib.Core.Bool.{Bool, true, false}
use mathlib.Core.List.{List}
use mathlib.Core.Logic.{inr}
use Prim.Native.Nat.{ℕ, ◌+◌, ◌*◌, ◌<◌}
use native.Mathlib.Omega.{arith}
use lib.ListN.{length, get_or}
use lib.Dec.{eqb}
use borrow.Author.Tests.{eqb-true, eqb-false}
use Rattle.word.proofs.Words.{Words}
use Rattle.layout.specs.Layout.{eoipending, redirect}
use Rattle.apic.specs.declared.active.Ipi.{Ipi}
use Rattle.apic.specs.LocalApic.{id_of, fixed, irr}
use Rattle.apic.specs.Active.{idle, received_by, eoi_sent}
use Rattle.apic.proofs.Kept.{Passive, kept_all, kept_if, kept_idle, kept_received_by, kept_vector}
use Rattle.apic.proofs.Kept as local
use Rattle.layout.specs.Blocks.{block}
use Rattle.ioapic.specs.Blocks.{on_block}
use Rattle.ioapic.specs.IoApic.{entry, dest, vect, acknowledged, eoi_received, handed}
use Rattle.ioapic.specs.Bus.{broadcast, send_ipi, send_eoi, deliver}
use Rattle.layout.proofs.Blocks.{Has}
use Rattle.ioapic.proofs.Header.{Kept, kept_eoi_received, kept_handed, eoi_entry_at}
use Rattle.ioapic.proofs.Blocks.{Sized, Wordly, block_agrees, on_block_long, on_block_same, on_block_other, on_block_header, on_block_words, on_blocks_header, on_blocks_at, on_blocks_words}

-- a function that is kept to the local APIC's words keeps length and words
abbrev Local : (List ℕ → List ℕ) → Type 0
Local f = (b : List ℕ) → local.Kept Passive b (f b)

sized : (f : List ℕ → List ℕ) → Local f → Sized f
sized f k b l = (k b).long ∙ l

wordly : (f : List ℕ → List ℕ) → Local f → Wordly f
wordly f k b w = (k b).words w

-- f at the block of core i, seen at core j
one_go : (f : List ℕ → List ℕ) → Sized f → (t : List ℕ) (i j : ℕ) → Has t i → Has t j → (s : Bool) → eqb j i ≡ s →
    block (on_block f i t) j ≡ (if s then f (block t j) else block t j)
one_go f z t i j hi hj true e =
    subst (λ (k : ℕ). block (on_block f i t) k ≡ f (block t k)) (sym (eqb-true j i e)) (on_block_same f z t i hi)
one_go f z t i j hi hj false e = on_block_other f z t i hi j hj (eqb-false j i e)

one : (f : List ℕ → List ℕ) → Sized f → (t : List ℕ) (i j : ℕ) → Has t i → Has t j →
    block (on_block f i t) j ≡ (if eqb j i then f (block t j) else block t j)
one f z t i j hi hj = one_go f z t i j hi hj (eqb j i) refl

module _ (n : ℕ) (t : List ℕ) (all : length t ≡ 32 + 256 * n) where
  has : (k : ℕ) → k < n → Has t k
  has k h = omega arith

  -- ---- apic-sendIPI

  module _ (i : ℕ) (hi : i < n) (m : Ipi) (hv : m.vect < 256) where
    abbrev f : ℕ → List ℕ → List ℕ
    f j b = received_by m (eqb j i) b

    local_f : (j : ℕ) → Local (f j)
    local_f j b = kept_received_by b m (eqb j i) hv

    idled : List ℕ
    idled = on_block idle i t

    idled_long : length idled ≡ 32 + 256 * n
    unfolding idled
    idled_long = on_block_long idle (sized idle kept_idle) t i (has i hi) ∙ all

    pub ipi_header : (x : ℕ) → x < 32 → get_or (send_ipi n i m t) x 0 ≡ get_or t x 0
    unfolding send_ipi broadcast idled
    ipi_header x h =
        on_blocks_header f (λ j. sized (f j) (local_f j)) idled n idled_long n (omega arith) x h
        ∙ on_block_header idle (sized idle kept_idle) t i (has i hi) x h

    pub ipi_block : (j : ℕ) → j < n → block (send_ipi n i m t) j ≡ received_by m (eqb j i) (if eqb j i then idle (block t j) else block t j)
    unfolding send_ipi broadcast idled
    ipi_block j h =
        on_blocks_at f (λ j. sized (f j) (local_f j)) idled n idled_long n (omega arith) j h
        ∙ ap (received_by m (eqb j i)) (one idle (sized idle kept_idle) t i j (has i hi) (has j h))

    pub ipi_words : Words t → Words (send_ipi n i m t)
    unfolding send_ipi broadcast idled
    ipi_words w =
        on_blocks_words f (λ j. wordly (f j) (local_f j)) (on_block idle i t) n (on_block_words idle (wordly idle kept_idle) t i w)

  -- ---- apic-sendEOI

  module _ (i : ℕ) (hi : i < n) (v : ℕ) (hv : v < 256) where
    abbrev g : List ℕ → List ℕ
    g b = eoi_sent b v

    local_g : Local g
    local_g b = kept_vector b eoipending v 0 (omega arith) (omega arith) hv (omega arith)

    sent : List ℕ
    sent = on_block g i t

    sent_long : length sent ≡ length t
    unfolding sent
    sent_long = on_block_long g (sized g local_g) t i (has i hi)

    pub eoi_entry : (k : ℕ) → k < 24 → entry (send_eoi i v t) k ≡ acknowledged v (entry t k)
    unfolding send_eoi sent
    eoi_entry k h =
        eoi_entry_at sent v k (omega (arith, sent_long)) h
        ∙ ap (acknowledged v) (on_block_header g (sized g local_g) t i (has i hi) (redirect + k) (omega arith))

    pub eoi_block : (j : ℕ) → j < n → block (send_eoi i v t) j ≡ (if eqb j i then eoi_sent (block t j) v else block t j)
    unfolding send_eoi sent
    eoi_block j h =
        block_agrees sent (eoi_received sent v) j (kept_eoi_received sent v).long (λ x l. (kept_eoi_received sent v).same x (inr l)) (omega (arith, sent_long))
        ∙ one g (sized g local_g) t i j (has i hi) (has j h)

    pub eoi_words : Words t → Words (send_eoi i v t)
    unfolding send_eoi sent
    eoi_words w = (kept_eoi_received sent v).words (on_block_words g (wordly g local_g) t i w)

  -- ---- ioapic-deliver

  module _ (k : ℕ) (hk : k < 24) where
    abbrev d : ℕ → List ℕ → List ℕ
    d j b = if eqb (id_of b) (dest (entry t k)) then fixed b (vect (entry t k)) else b

    local_d : (j : ℕ) → Local (d j)
    local_d j b =
        kept_if Passive (eqb (id_of b) (dest (entry t k)))
        (kept_vector b irr (vect (entry t k)) 1 (omega arith) (omega arith) (omega arith) (omega arith))
        (kept_all Passive b)

    kept : Kept t (handed t k)
    kept = kept_handed t k hk

    pub deliver_header : (x : ℕ) → x < 32 → get_or (deliver n k t) x 0 ≡ get_or (handed t k) x 0
    unfolding deliver
    deliver_header x h = on_blocks_header d (λ j. sized (d j) (local_d j)) (handed t k) n (kept.long ∙ all) n (omega arith) x h

    pub deliver_block : (j : ℕ) → j < n → block (deliver n k t) j ≡ (if eqb (id_of (block t j)) (dest (entry t k)) then fixed (block t j) (vect (entry t k)) else block t j)
    unfolding deliver
    deliver_block j h =
        on_blocks_at d (λ j. sized (d j) (local_d j)) (handed t k) n (kept.long ∙ all) n (omega arith) j h
        ∙ ap (d j) (block_agrees t (handed t k) j kept.long (λ x l. kept.same x (inr l)) (has j h))

    pub deliver_words : Words t → Words (deliver n k t)
    unfolding deliver
    deliver_words w =
        on_blocks_words d (λ j. wordly (d j) (local_d j)) (handed t k) n (kept.words w)
