use mathlib.Core.Path.{refl}
use native.Mathlib.Omega.{arith}
use lib.ListN.{length-set}
use Rattle.records.specs.Records.{release}
use Rattle.records.proofs.release.Goals as goal

pub bounds-b-i-2 : goal.bounds-b-i-2
bounds-b-i-2 c = simp length-set (omega arith)

pub bounds-b-i-3 : goal.bounds-b-i-3
bounds-b-i-3 c = simp length-set (omega arith)

pub bounds-b-i-4 : goal.bounds-b-i-4
bounds-b-i-4 c = simp length-set (omega arith)

pub bounds-b-i-5 : goal.bounds-b-i-5
bounds-b-i-5 c = simp length-set (omega arith)

pub bounds-b-70-2 : goal.bounds-b-70-2
bounds-b-70-2 c = simp length-set (omega arith)

pub shape_of-b : goal.shape_of-b
shape_of-b c = simp length-set

pub returns : goal.returns
unfolding release
returns c = refl
