use borrow.Author.Rules.{rules}
use mathlib.Core.Path.{◌≡◌, ap, sym, ◌∙◌}
use mathlib.Core.List.{List, ◌++◌, append-nil}
use Prim.Native.Nat.{ℕ, ◌-◌}
use native.Mathlib.Omega.{arith}
use lib.ListN.{length, take, replicate, length-append}
use Rattle.forms.specs.declared.OperandList.{OperandList}
use Rattle.forms.specs.inner.Forms.{letters, as_list}
use Rattle.disassemble.specs.Disassembly.{operands_text}
use Rattle.disassemble.specs.inner.Texts.{form_text}
use Rattle.disassemble.proofs.Shown.{alone, beside}
use Rattle.disassemble.proofs.put_form.Goals as goal

pub put_mnemonic-n-requires : goal.put_mnemonic-n-requires
unfolding form_text
put_mnemonic-n-requires c =
    let a = c.args in omega (arith, length-append (letters a.l.0) (operands_text (as_list a.l.1) a.w), c.requires.room, c.requires.short)

pub put_operands-requires : goal.put_operands-requires
unfolding form_text
put_operands-requires c =
    let a = c.args in (
      search rules,
      omega (
        arith,
        length-append (letters a.l.0) (operands_text (as_list a.l.1) a.w),
        ap length c.new-shown.ensures,
        c.requires.short,
      ),
    )

pub returns-in-None-clause-bytes : goal.returns-in-None-clause-bytes
unfolding form_text
returns-in-None-clause-bytes c =
    let a = c.args in
    let m = letters a.l.0 in
    let p = c.put_mnemonic-n.ensures in
    let f : form_text a.l a.w ≡ m = ap (λ (o : OperandList). m ++ operands_text (as_list o) a.w) c.in-None.is ∙ append-nil m in
    alone c.put_mnemonic-n.result c.put_mnemonic-n.new.text m c.fill.new.self (omega (arith, p.kept, c.requires.room)) (omega (arith, p.place))
    (omega (arith, p.place, ap length f, c.requires.short)) p.front (c.fill.ensures.after (λ y e. e))
    ∙ ap (λ (x : List ℕ). x ++ replicate (32 - length x) 0) (sym f)

pub returns-in-None-clause-place : goal.returns-in-None-clause-place
unfolding form_text
returns-in-None-clause-place c =
    let a = c.args in
    let m = letters a.l.0 in
    let f : form_text a.l a.w ≡ m = ap (λ (o : OperandList). m ++ operands_text (as_list o) a.w) c.in-None.is ∙ append-nil m in
    omega (arith, c.put_mnemonic-n.ensures.place, ap length f)

pub returns-in_default : goal.returns-in_default
unfolding form_text
returns-in_default c =
    let a = c.args in
    let m = letters a.l.0 in
    let s = operands_text (as_list a.l.1) a.w in
    let n = c.put_mnemonic-n.result in
    let p = c.put_mnemonic-n.ensures in
    let e : c.put_operands.new.text ≡ s = c.put_operands.ensures ∙ ap (λ (x : List ℕ). x ++ s) c.new-shown.ensures in
    let g : c.copy_from_slice.new.self ≡ take (32 - n) (s ++ replicate (32 - length s) 0) =
    c.copy_from_slice.ensures.after ∙ ap (take (32 - n)) (c.as_padded.ensures ∙ ap (λ (x : List ℕ). x ++ replicate (32 - length x) 0) e) in
    record {
      bytes =
          beside n c.put_mnemonic-n.new.text m s c.copy_from_slice.new.self (omega (arith, p.kept, c.requires.room)) (omega (arith, p.place))
          (omega (arith, p.place, length-append m s, c.requires.short)) p.front g;
      place = omega (arith, p.place, length-append m s, ap length (c.as_bytes.ensures ∙ e));
    }
