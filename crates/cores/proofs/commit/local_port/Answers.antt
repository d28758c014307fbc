use borrow.Author.Rules.{rules}
use mathlib.Core.Path.{◌≡◌, ◌∙◌, refl}
use mathlib.Core.List.{List}
use Prim.Native.Nat.{ℕ}
use Rattle.cores.specs.declared.Write.{Write}
use Rattle.cores.specs.declared.Write.TheVariants.{Memory, LocalPort, IoPort}
use Rattle.cores.specs.Commit.{port_after}
use Rattle.cores.proofs.Doing.{port_fits}
use Rattle.cores.proofs.commit.local_port.Goals as goal

pub write-requires : goal.write-requires
write-requires c = (search rules, port_fits _ _ c.in-LocalPort.is c.requires.write_value)

pub returns-in-LocalPort : goal.returns-in-LocalPort
unfolding port_after
returns-in-LocalPort c = c.write.ensures ∙ rw c.in-LocalPort.is refl

-- any other write leaves the ports
still : (b : List ℕ) (x : Write) → ((a v : ℕ) → x ≡ LocalPort a v → ⊥) → b ≡ port_after x b
unfolding port_after
still b Write.Nothing h = refl
still b (Memory a d v) h = refl
still b (LocalPort a v) h = absurd (h a v refl)
still b (IoPort a v) h = refl

pub returns-in_default : goal.returns-in_default
returns-in_default c = still c.args.b.now c.args.write c.in_default.not-LocalPort
