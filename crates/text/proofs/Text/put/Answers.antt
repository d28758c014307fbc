use Rattle.std.proofs.Common.{◌≡◌, ◌+◌, ◌-◌, length, sym, ap, ◌∙◌, arith}
use Rattle.std.proofs.lemmas.Slice.{drop-put_mid}
use lib.Seq.{length-take-le}
use Rattle.text.proofs.Texts.{zeros_left}
use Rattle.text.proofs.Text.put.Goals as goal

pub invariant_of-self : goal.invariant_of-self
invariant_of-self g c =
    let b = c.self.inside.bytes in
    let l = c.self.inside.len in
    let k = length c.args.bytes.now in
    let held : length c.args.self.now ≡ l = sym (ap length c.self.view_is) ∙ length-take-le l b (omega (arith, c.self.told, c.self.invariant.0)) in (
      omega (arith, c.requires.room, held),
      zeros_left b _ l k g.row.N c.self.invariant.1
          (drop-put_mid l (l + k - l) b _ (l + k) (omega arith) (omega (arith, c.self.told, c.self.invariant.0)) (omega (arith, c.copy_from_slice.ensures.len))),
    )
