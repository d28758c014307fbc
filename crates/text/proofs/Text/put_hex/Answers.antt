use Rattle.std.proofs.Common.{List, ℕ, ap, ◌∙◌, ◌++◌, length, take, length-append, arith, rules}
use Rattle.text.proofs.Texts.{exact, hex_digits}
use Rattle.text.proofs.Text.put_hex.Goals as goal

pub put-requires : goal.put-requires
put-requires g c =
    let r = c.requires.digits in
    let d = c.hex-k.ensures in
    (search rules, omega (arith, exact _ _ _ r.0 r.1 r.2 d.len, d.in_bounds.1, c.requires.room))

pub returns-clause-text : goal.returns-clause-text
returns-clause-text g c =
    let r = c.requires.digits in
    let d = c.hex-k.ensures in
    c.put.ensures ∙ ap (λ (l : List ℕ). c.args.self.now ++ l) (hex_digits _ _ _ r.0 r.1 r.2 d.digits d.len)

pub returns-clause-bound : goal.returns-clause-bound
returns-clause-bound g c =
    let r = c.requires.digits in
    let d = c.hex-k.ensures in
    omega (arith, ap length c.put.ensures, length-append c.args.self.now (take c.hex-k.result c.hex-k.new.out), exact _ _ _ r.0 r.1 r.2 d.len, d.in_bounds.1)
