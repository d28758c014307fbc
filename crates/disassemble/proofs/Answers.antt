-- What the operation answers and writes, from what each part of it has done.
-- Assumes nothing.
use mathlib.Core.Path.{◌≡◌, refl, ap, ◌∙◌}
use mathlib.Core.List.{List, ◌++◌}
use Prim.Native.Nat.{ℕ, ◌-◌, ◌≤◌}
use native.Mathlib.Omega.{arith}
use lib.ListN.{length, take, replicate}
use borrow.Author.Tests.{eq-eqb, ne_eqb}
use Rattle.text.specs.Text.{Put}
use Rattle.decode.specs.Table.{decoded}
use Rattle.forms.specs.declared.Form.{Form}
use Rattle.forms.specs.Syntax.{syntax_of}
use Rattle.forms.specs.inner.Forms.{form_of}
use Rattle.std.specs.Prelude.{Result, Ok, Err}
use Rattle.refusals.specs.declared.Refusal.{Refusal}
use Rattle.disassemble.specs.Disassembly.{disassembly, disassemble_on}
use Rattle.disassemble.specs.inner.Texts.{form_text}
use Rattle.disassemble.proofs.Rows.{form_text_lem, text_fits}

-- the answer and the bytes
abbrev Gives : ℕ → List ℕ → Result ℕ Refusal → List ℕ → Type 0
Gives w b a d = (a ≡ (disassemble_on w b).answer) × (d ≡ (disassemble_on w b).bytes)

pub refused : (w : ℕ) (b : List ℕ) → (length b ≡ 32 → ⊥) → Gives w b (Err Refusal.TextLength) b
unfolding disassemble_on
refused w b n = rw (ne_eqb (length b) 32 n) (refl, refl)

-- the text of the form that was found
pub form_found : {l : Form} (w : ℕ) → l ≡ form_of (syntax_of (decoded w)) → form_text l w ≡ disassembly w
unfolding disassembly
form_found w e = ap (λ (l : Form). form_text l w) e ∙ form_text_lem (decoded w) w

pub form_fits : {l : Form} (w : ℕ) → l ≡ form_of (syntax_of (decoded w)) → length (form_text l w) ≤ 32
form_fits w e = omega (arith, ap length (form_found w e), text_fits w)

pub gives :
    {l : Form} {d : List ℕ} {n : ℕ} (w : ℕ) (b : List ℕ) → length b ≡ 32 → l ≡ form_of (syntax_of (decoded w)) → n ≡ length (form_text l w)
    → d ≡ form_text l w ++ replicate (32 - length (form_text l w)) 0 → Gives w b (Ok n) d
unfolding disassemble_on
gives {l} {d} {n} w b h f p e =
    let t = form_found w f in
    rw (eq-eqb (length b) 32 h) (ap Ok (p ∙ ap length t), e ∙ ap (λ (x : List ℕ). x ++ replicate (32 - length x) 0) t)

-- the same from a buffer with the text at its front, of which the rest was filled
pub written :
    {l : Form} {b c d : List ℕ} {n : ℕ} (w : ℕ) → length b ≡ 32 → l ≡ form_of (syntax_of (decoded w)) → Put b 0 (form_text l w) n c
    → d ≡ take n c ++ replicate (length c - n) 0 → Gives w b (Ok n) d
unfolding disassemble_on
written {l} {b} {c} {d} {n} w h f p e =
    let k : n ≡ length (disassembly w) = omega (arith, p.place, ap length (form_found w f)) in
    let z : length c - n ≡ 32 - length (disassembly w) = omega (arith, p.kept) in
    rw (eq-eqb (length b) 32 h) (ap Ok k, e ∙ rw (p.front, form_found w f, z) refl)
