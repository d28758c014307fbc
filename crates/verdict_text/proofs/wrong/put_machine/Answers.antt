use mathlib.Core.Path.{refl}
use mathlib.Core.List.{List, ◌++◌}
use Prim.Native.Nat.{ℕ}
use Rattle.text.specs.Text.{ascii, decimal}
use Rattle.text.proofs.Texts.{grown}
use Rattle.verdict_text.specs.Wrong.{machine_text}
use Rattle.verdict_text.proofs.wrong.put_machine.Goals as goal

pub returns-clause-text : goal.returns-clause-text
unfolding machine_text
returns-clause-text g c =
    let old = c.args.text.now in
    let head : List ℕ = ascii ": a machine (cores: " in
    let cores : List ℕ = head ++ decimal c.args.cores in
    let pages : List ℕ = cores ++ ascii ", pages: " in
    let sizes : List ℕ = pages ++ decimal c.args.pages in
    let has : List ℕ = sizes ++ ascii ") has " in
    let bytes : List ℕ = has ++ decimal c.args.bytes in
    grown old bytes (ascii " bytes\n")
    (grown old has (decimal c.args.bytes)
    (grown old sizes (ascii ") has ")
    (grown old pages (decimal c.args.pages)
    (grown old cores (ascii ", pages: ") (grown old head (decimal c.args.cores) c.put.ensures c.put_number.ensures.text refl) c.put-2.ensures refl)
    c.put_number-2.ensures.text refl)
    c.put-3.ensures refl)
    c.put_number-3.ensures.text refl)
    c.put-4.ensures refl
