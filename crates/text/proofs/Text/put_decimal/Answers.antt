use Rattle.std.proofs.Common.{List, ℕ, ap, ◌∙◌, ◌++◌, length, arith, rules}
use Rattle.text.proofs.Texts.{numbered}
use Rattle.text.proofs.Text.put_decimal.Goals as goal

pub put-requires : goal.put-requires
put-requires g c = let d = c.decimal-k.ensures in
    (search rules, omega (arith, ap length (numbered c.args.n _ (omega arith) d.digits d.len), c.requires.room))

pub returns : goal.returns
returns g c = let d = c.decimal-k.ensures in
    c.put.ensures ∙ ap (λ (l : List ℕ). c.args.self.now ++ l) (numbered c.args.n _ (omega arith) d.digits d.len)
