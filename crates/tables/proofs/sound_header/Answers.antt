-- `tables::sound_header` meets its contract: it is the definition, where there is a header.
-- Assumes nothing.
use mathlib.Core.Path.{ap}
use native.Mathlib.Omega.{arith}
use mathlib.Core.Bool.{Bool, ◌&&◌}
use Prim.Native.Nat.{◌+◌, ◌*◌, ◌^◌}
use lib.ListN.{length, get_or}
use lib.Dec.{eqb, ltb, leb}
use Rattle.tables.specs.Sound.{sound_header}
use Rattle.tables.proofs.Parts.{header_short}
use Rattle.tables.proofs.sound_header.Goals as goal

pub returns-then-tables-lt-HEADER_WORDS : goal.returns-then-tables-lt-HEADER_WORDS
returns-then-tables-lt-HEADER_WORDS c = header_short _ _ c.if-tables-lt-HEADER_WORDS.true

pub overflow_cast-result : goal.overflow_cast-result
overflow_cast-result c = omega (arith, c.type_inv.tables 0, c.type_inv.tables 1)

pub overflow_cast-result-2 : goal.overflow_cast-result-2
overflow_cast-result-2 c = omega (arith, c.type_inv.tables 0, c.type_inv.tables 1)

pub overflow_cast-result-3 : goal.overflow_cast-result-3
overflow_cast-result-3 c = omega (arith, c.type_inv.tables 0, c.type_inv.tables 1)

pub overflow_mul-result : goal.overflow_mul-result
overflow_mul-result c = omega (arith, c.type_inv.tables 0, c.type_inv.tables 1)

pub overflow_add-result : goal.overflow_add-result
overflow_add-result c = omega (arith, c.type_inv.tables 0, c.type_inv.tables 1)

pub overflow_cast-result-4 : goal.overflow_cast-result-4
overflow_cast-result-4 c = omega (arith, c.type_inv.tables 0, c.type_inv.tables 1)

pub overflow_mul-result-2 : goal.overflow_mul-result-2
overflow_mul-result-2 c = omega (arith, c.type_inv.tables 0, c.type_inv.tables 1)

pub returns : goal.returns
unfolding sound_header
returns c =
    let t = c.args.tables.now in
    let n = c.args.bytes in
    ap
    (λ (r : Bool). (leb 1 (get_or t 0 0) && leb (get_or t 0 0) 4) && ((leb 1 (get_or t 1 0) && leb (get_or t 1 0) 4096) && (eqb (length t) (32 + 256 * get_or t 0 0) && (eqb n (4096 * get_or t 1 0) && (r && ltb (get_or t 3 0) (2 ^ 24))))))
    c.zero_from-rest.ensures
