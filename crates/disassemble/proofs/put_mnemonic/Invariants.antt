use Rattle.disassemble.proofs.Shown.{Begun}
use Rattle.disassemble.proofs.put_mnemonic.Given as goal

abbrev pub invariant-loop-n : goal.invariant-loop-n
invariant-loop-n l = Begun l.initial.text l.mnemonic l.n l.text
