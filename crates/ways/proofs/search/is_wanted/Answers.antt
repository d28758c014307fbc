-- `ways::search::is_wanted` meets its contract.
-- Assumes nothing.
use mathlib.Core.Path.{◌≡◌, sym, ap, ◌∙◌}
use mathlib.Core.Bool.{Bool, ◌&&◌}
use lib.Dec.{eqb}
use lib.ListN.{get_or}
use Rattle.ways.specs.declared.want.Want.{Want}
use Rattle.ways.specs.declared.query.Query.{Query}
use Rattle.ways.specs.declared.Named.{Named}
use Rattle.ways.specs.inner.Search.{wanted, looked_for}
use Rattle.ways.proofs.Searches.{wanted_beyond, wanted_itself, wanted_below, wanted_out, wanted_marked}
use Rattle.ways.proofs.search.is_wanted.Goals as goal

-- what the query wants, by its case
by_case : (q : Query) (x : Named) (a : Want) {b : Bool} → q.want ≡ a → b ≡ wanted a q.pages q.map.now x → b ≡ looked_for q x
by_case q x a e p = p ∙ ap (λ (w : Want). wanted w q.pages q.map.now x) (sym e)

pub returns-in-Beyond : goal.returns-in-Beyond
returns-in-Beyond c = let a = c.args in by_case a.query.now a.names _ c.in-Beyond.is (wanted_beyond _ _ a.names)

pub returns-in-Page : goal.returns-in-Page
returns-in-Page c = let a = c.args in by_case a.query.now a.names _ c.in-Page.is (wanted_itself _ _ a.names _)

pub returns-then-page-low : goal.returns-then-page-low
returns-then-page-low c = let a = c.args in by_case a.query.now a.names _ c.in-Marked.is (wanted_below _ _ a.names _ _ c.if-page-low.true)

pub returns-then-query-page : goal.returns-then-query-page
returns-then-query-page c =
    let a = c.args in
    by_case a.query.now a.names _ c.in-Marked.is (wanted_out _ _ a.names _ _ c.if-page-low.false c.if-query-page.true)

pub returns-else-query-page : goal.returns-else-query-page
returns-else-query-page c =
    let a = c.args in
    by_case a.query.now a.names _ c.in-Marked.is
    (ap (λ (b : Bool). b && eqb (get_or a.query.now.map.now a.names.page 0) 1) c.shows.ensures
    ∙ wanted_marked _ _ a.names _ _ c.if-page-low.false c.if-query-page.false)
