use borrow.Author.Rules.{rules}
use mathlib.Core.Path.{ap, refl}
use mathlib.Core.List.{[], ◌∷◌}
use native.Mathlib.Omega.{arith}
use lib.ListN.{length}
use Rattle.std.proofs.lemmas.List.{length_push}
use Rattle.text.proofs.Texts.{grown}
use Rattle.disassemble.specs.Disassembly.{field_of, shown_as, operand_text}
use Rattle.disassemble.proofs.put_operand.Goals as goal

pub put_byte-requires : goal.put_byte-requires
unfolding operand_text
put_byte-requires g c = (search rules, omega (arith, c.requires.room))

pub put_shown-requires : goal.put_shown-requires
unfolding operand_text
put_shown-requires g c = (search rules, omega (arith, c.requires.room, ap length c.put_byte.ensures, length_push c.args.text.now 32))

pub returns : goal.returns
unfolding operand_text
returns g c = let a = c.args in grown a.text.now (32 ∷ []) (shown_as a.o (field_of a.o a.w)) c.put_byte.ensures c.put_shown.ensures refl
