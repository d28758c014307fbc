-- `store_buffer::load` meets its contract.
-- Assumes nothing.
use Rattle.std.specs.Prelude.{None}
use mathlib.Core.Path.{sym, ap, ◌∙◌}
use Prim.Native.Nat.{ℕ, ◌^◌, ◌<◌}
use native.Mathlib.Omega.{arith}
use lib.ListN.{get_or}
use Rattle.records.proofs.Contents.{parts_of}
use Rattle.store_buffer.specs.System.{ports_of, on_read}
use Rattle.store_buffer.proofs.Access.{aligned_word, aligned_sized}
use Rattle.store_buffer.proofs.Served.{load_beneath, load_one, load_mixed, one_low, one_near}
use Rattle.store_buffer.proofs.load.Goals as goal

pub find-requires-clause-b_value : goal.find-requires-clause-b_value
find-requires-clause-b_value c = (parts_of _ _ c.requires.b_value).0

pub find-requires-clause-d_nonzero : goal.find-requires-clause-d_nonzero
find-requires-clause-d_nonzero c = (aligned_word _ _ c.requires.d_value).some

pub forwarded-requires : goal.forwarded-requires
forwarded-requires c =
    let f = sym c.in-One.is ∙ c.find.ensures in
    let w = aligned_word _ _ c.requires.d_value in
    let words : (m : ℕ) → get_or c.args.b.now m 0 < 2 ^ 32 = λ m. omega (arith, c.type_inv.b m) in
    record { b_len = c.requires.b_len; number_bound = one_low c.args.b.now c.args.a c.args.d (ports_of c.args.b.now c.args.select c.args.window) c.args.memory.now (omega arith) w c.requires.b_len c.requires.b_value words _ _ f; number_bound_2 = one_near c.args.b.now c.args.a c.args.d (ports_of c.args.b.now c.args.select c.args.window) c.args.memory.now (omega arith) w c.requires.b_len c.requires.b_value words _ _ f; d_value = aligned_sized _ _ c.requires.d_value }

pub returns-in-Some : goal.returns-in-Some
returns-in-Some c =
    ap (on_read None) (sym c.in-Some.is)
    ∙ load_beneath c.args.b.now c.args.a c.args.d (ports_of c.args.b.now c.args.select c.args.window) c.args.memory.now (omega arith) (aligned_word _ _ c.requires.d_value) (sym c.in-Nothing.is ∙ c.find.ensures) c.read_beneath.ensures

pub returns-in-None : goal.returns-in-None
returns-in-None c =
    ap (on_read None) (sym c.in-None.is)
    ∙ load_beneath c.args.b.now c.args.a c.args.d (ports_of c.args.b.now c.args.select c.args.window) c.args.memory.now (omega arith) (aligned_word _ _ c.requires.d_value) (sym c.in-Nothing.is ∙ c.find.ensures) c.read_beneath.ensures

pub returns-in-One : goal.returns-in-One
returns-in-One c =
    let f = sym c.in-One.is ∙ c.find.ensures in
    load_one c.args.b.now c.args.a c.args.d (ports_of c.args.b.now c.args.select c.args.window) c.args.memory.now (omega arith) (aligned_word _ _ c.requires.d_value) c.requires.b_len c.requires.b_value
    (λ m. omega (arith, c.type_inv.b m)) _ _ f c.forwarded.ensures

pub returns-in-Mixed : goal.returns-in-Mixed
returns-in-Mixed c =
    load_mixed c.args.b.now c.args.a c.args.d (ports_of c.args.b.now c.args.select c.args.window) c.args.memory.now (omega arith) (aligned_word _ _ c.requires.d_value) (sym c.in-Mixed.is ∙ c.find.ensures)
