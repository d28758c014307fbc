-- `translate::cache::Cache::entry` meets its contract: beyond memory, kept before, or read and kept now.
-- Assumes nothing.
use mathlib.Core.Path.{refl}
use native.Mathlib.Omega.{arith}
use Rattle.tlb.proofs.Entries.{read_in, read_out}
use Rattle.translate.proofs.Caching.{found, asked_beyond, asked_again, again_word, asked_new_at}
use Rattle.translate.proofs.cache.Cache.entry.Goals as goal

pub returns-then-self-a : goal.returns-then-self-a
returns-then-self-a c = record { value = read_out _ refl c.if-self-a.true; asked = asked_beyond _ _ _ _ _ _ c.args.self.now.cached c.if-self-a.true; same = refl }

pub offset_bounds-self-i : goal.offset_bounds-self-i
offset_bounds-self-i c = let f = found c.args.at c.args.self.now.kept _ _ _ c.in-Some.is c.find.ensures in omega (arith, f.0, c.requires)

pub bounds-self-i : goal.bounds-self-i
bounds-self-i c = let f = found c.args.at c.args.self.now.kept _ _ _ c.in-Some.is c.find.ensures in omega (arith, f.0, c.requires, c.args.self.now.cached.words_long)

pub returns-in-Some : goal.returns-in-Some
returns-in-Some c = let f = found c.args.at c.args.self.now.kept _ _ _ c.in-Some.is c.find.ensures in record { value = again_word _ _ _ _ _ _ c.args.self.now.cached _ f.0 f.1 c.if-self-a.false; asked = asked_again _ _ _ _ _ _ c.args.self.now.cached _ f.0 f.1; same = refl }

pub returns : goal.returns
returns c = let r = c.read_word-e.ensures in let i = c.if-self-a.false in record { value = read_in _ refl r i; asked = asked_new_at _ _ _ _ _ _ c.args.self.now.cached c.requires i (found c.args.at c.args.self.now.kept _ _ _ c.in_default.is c.find.ensures) _ _ r (omega arith) _ c.slot-s.ensures; same = refl }
