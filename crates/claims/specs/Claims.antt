-- What is claimed of the machine, in one place; proofs/Claims proves it.
-- The operations that the claims speak of are those whose contracts the code is proved to meet, each an equality with a
-- definition: make (tables, specs/Make: `refusal` and `made_or`), step and run (machine, specs/Step: `step`, specs/Run:
-- `run`, which is single steps one after the other), reach (reach, specs/Reach: `reach_on`) and apart (separation,
-- specs/Apart: `apart_on`).
-- Assumes nothing.
use Rattle.report.specs.Demands.{Demand1, Demand2, Exception, Unhindered, Resets}
use Rattle.separation.specs.Separation.{Demand3, Refusals}

pub record Claims : Type 0 where
  -- For any words, bytes and step whatever: the answer is done, an interrupt of level 0 to 7 or a refusal 4 to 10, and
  -- 4 exactly where the tables are not sound; a refusal leaves every memory byte and every word but one count, that of
  -- the core which a step of kind 0 to 8 names and the header's for all the rest, and that count stays with 4 and else
  -- rises by one up to its largest; sound tables stay sound.
  pub demand1 : Demand1
  -- For sound tables and any bytes beyond memory: an accepted step does what the report's transition function does with
  -- it, and no more; every refusal has its ground. One exception: an accepted core step on a word of add, addu, addi,
  -- addiu, sub or subu does the same but for cause 7, which is by the trade's rule.
  pub demand2 : Demand2
  -- How far that goes: what the printed table says in the trade's words, and that the step is the function's after all
  -- where the two rules agree on the instruction, so where the signed sum or difference fits 32 bits, and where the
  -- status register masks overflow.
  pub exception : Exception
  -- So a step that the function allows is accepted, or refused by a limit of ours, 7 to 10.
  pub unhindered : Unhindered
  -- A machine as made is sound, in a configuration that the report allows after reset, and has counted no refusal.
  pub reset : Resets
  -- Two machines with the verdict "apart" for a group, alike in the group's blocks and reachable pages, and two lists
  -- of steps of kinds 0 to 4, of cores that run at the start, each up to its first interrupt, in which the group takes
  -- the same steps: the group gets the same answers and sees the same state after each of its steps, whatever the
  -- others hold and do; and in each list bytes that neither side can write stay, and table bytes but for accessed bits.
  pub demand3 : Demand3
  -- What a group sees includes its cores' counts of refusals. A core whose word counts a refusal is in the group
  -- exactly where the refused step is the group's, and a refused step of a core outside the group leaves every block of
  -- the group.
  pub refusals : Refusals
