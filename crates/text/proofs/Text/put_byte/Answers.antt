use Rattle.std.proofs.Common.{◌≡◌, ◌+◌, length, sym, ap, ◌∙◌, arith}
use Rattle.std.proofs.lemmas.List.{drop-set-lt}
use lib.Seq.{length-take-le}
use Rattle.text.proofs.Texts.{zeros_left}
use Rattle.text.proofs.Text.put_byte.Goals as goal

pub invariant_of-self : goal.invariant_of-self
invariant_of-self g c =
    let b = c.self.inside.bytes in
    let l = c.self.inside.len in
    let held : length c.args.self.now ≡ l = sym (ap length c.self.view_is) ∙ length-take-le l b (omega (arith, c.self.told, c.self.invariant.0)) in
    (omega (arith, c.requires.room, held), zeros_left b _ l 1 g.row.N c.self.invariant.1 (drop-set-lt (l + 1) b l c.args.byte (omega arith)))
