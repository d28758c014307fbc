-- `mips86::mips86_apart` meets its contract.
-- Assumes nothing.
use mathlib.Core.Path.{sym, ap, ◌∙◌}
use Rattle.separation.specs.Apart.{verdict_number}
use Rattle.mips86.proofs.Numbers.{yes_number}
use Rattle.mips86.proofs.mips86_apart.Goals as goal

pub returns : goal.returns
returns c =
    let r = c.apart.ensures in
    record {
      value = c.verdict_number.ensures ∙ ap (λ a. verdict_number a) r.value;
      promised = λ h. r.promised (yes_number _ (sym c.verdict_number.ensures ∙ h));
    }
