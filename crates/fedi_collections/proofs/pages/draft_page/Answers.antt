use Rattle.std.proofs.Common.{◌≤◌, ap, subst}
use Rattle.fedi_collections.proofs.Found.{page_found}
use Rattle.fedi_collections.specs.Drafts.{reply_in}
use Rattle.fedi_collections.proofs.pages.draft_page.Goals as goal

pub returns-clause-page : goal.returns-clause-page
returns-clause-page g c =
    page_found (g.S.Shelf.holding c.args.shelf.now).town c.facts.result.now.town c.args.caller.now c.args.which.now c.args.owner.now c.args.number
    c.visible_page-page.result.total c.visible_page-page.result.places.items (reply_in c.in_ok-draft.draft) (ap (λ h. h.town) c.facts.ensures)
    c.visible_page-page.ensures.total (subst (λ top. c.args.number ≤ top) c.highest_page.ensures c.if-number-highest_page.false)
    c.visible_page-page.ensures.places c.in_ok-draft.ensures.page
