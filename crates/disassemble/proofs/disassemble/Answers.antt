use mathlib.Core.Path.{ap}
use native.Mathlib.Omega.{arith}
use Rattle.disassemble.specs.Disassembly.{disassembled_number}
use Rattle.disassemble.proofs.Answers.{refused, form_fits, gives}
use Rattle.disassemble.proofs.disassemble.Goals as goal

pub returns-then-text-ne32 : goal.returns-then-text-ne32
returns-then-text-ne32 c =
    let g = refused c.args.w c.args.text.now c.if-text-ne32.true in
    record { value = g.0; text_after = g.1; result_value = ap disassembled_number g.0 }

pub put_form-n-requires : goal.put_form-n-requires
put_form-n-requires c = record { room = c.if-text-ne32.false; short = form_fits c.args.w c.form_of.ensures }

pub returns : goal.returns
returns c =
    let p = c.put_form-n.ensures in
    let g = gives c.args.w c.args.text.now c.if-text-ne32.false c.form_of.ensures p.place p.bytes in
    record { value = g.0; text_after = g.1; result_value = ap disassembled_number g.0 }
