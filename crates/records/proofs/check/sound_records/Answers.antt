-- `records::check::sound_records` meets its contract, part by part.
-- Assumes nothing.
use mathlib.Core.Path.{sym, ◌∙◌}
use Rattle.records.proofs.Contents.{tested_all, fails_once, fails_first, walks_low}
use Rattle.records.proofs.check.sound_records.Goals as goal

pub returns-then-not-records_once : goal.returns-then-not-records_once
returns-then-not-records_once c = fails_once _ _ _ (c.if-not-records_once.true) c.records_once.ensures

pub returns-then-not-first_blank : goal.returns-then-not-first_blank
returns-then-not-first_blank c = fails_first _ _ _ (c.if-not-first_blank.true) c.first_blank.ensures

pub walks_differ-requires : goal.walks_differ-requires
walks_differ-requires c = record { b_len = c.requires; b_value = walks_low _ _ (sym c.records_once.ensures ∙ c.if-not-records_once.false) }

pub returns : goal.returns
returns c =
    c.walks_differ.ensures
    ∙ tested_all _ _ (sym c.records_once.ensures ∙ c.if-not-records_once.false)
    (sym c.first_blank.ensures ∙ c.if-not-first_blank.false)
