use Rattle.text.proofs.Texts.{told}
use Rattle.verdict_text.proofs.Said.{said_cut_head, read_bad_cores, read_bad_pages, read_machine}
use Rattle.verdict_text.proofs.put_input.Goals as goal

pub returns-then-input-lt8-clause-text : goal.returns-then-input-lt8-clause-text
returns-then-input-lt8-clause-text g c = told _ _ c.put_cut_head.ensures.text (said_cut_head _ _ c.if-input-lt8.true)

pub returns-then-cores-clause-text : goal.returns-then-cores-clause-text
returns-then-cores-clause-text g c =
    told _ _ c.put_bad_cores.ensures.text (read_bad_cores _ _ _ c.read_word-cores.ensures c.if-input-lt8.false c.if-cores.true)

pub returns-then-pages-clause-text : goal.returns-then-pages-clause-text
returns-then-pages-clause-text g c =
    told _ _ c.put_bad_pages.ensures.text
    (read_bad_pages _ _ _ c.read_word-cores.ensures c.if-input-lt8.false _ c.read_word-pages.ensures c.if-cores.false c.if-pages.true)

pub returns-clause-text : goal.returns-clause-text
returns-clause-text g c =
    told _ _ c.put_machine.ensures.text
    (read_machine _ _ _ c.read_word-cores.ensures c.if-input-lt8.false _ c.read_word-pages.ensures c.if-cores.false c.if-pages.false)
