-- `translate::put` meets its contract, by what the answer is.
-- Assumes nothing.
use Rattle.translate.proofs.Filling.{put_case}
use Rattle.translate.proofs.put.Goals as goal

pub returns-in-Mapped : goal.returns-in-Mapped
returns-in-Mapped c = put_case _ _ _ _ c.in-Mapped.is c.put_three.ensures

pub returns-in-Absent : goal.returns-in-Absent
returns-in-Absent c = put_case _ _ _ _ c.in-Absent.is c.put_three-in-Absent.ensures

pub returns-in-Beyond : goal.returns-in-Beyond
returns-in-Beyond c = put_case _ _ _ _ c.in-Beyond.is c.put_three-in-Beyond.ensures
