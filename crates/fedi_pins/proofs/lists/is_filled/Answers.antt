use Rattle.fedi_pins.proofs.Boards.{filled_page, none_filled}
use Rattle.fedi_pins.proofs.Slugs.{slug_id}
use Rattle.fedi_pins.proofs.lists.is_filled.Goals as goal

pub board_page-requires-clause-board : goal.board_page-requires-clause-board
board_page-requires-clause-board g c = slug_id c.args.member.now c.args.board.now c.in-Some.slug c.in-Some.ensures

pub returns-in_ok-page-in-Some-clause-value : goal.returns-in_ok-page-in-Some-clause-value
returns-in_ok-page-in-Some-clause-value g c =
    filled_page (g.S.Shelf.holding c.args.shelf.now).town c.args.caller.now c.args.member.now c.args.board.now c.in-Some.slug 0 c.in_ok-page-in-Some.page c.in-Some.ensures
    c.in_ok-page-in-Some.ensures.page

pub returns-in-None-clause-value : goal.returns-in-None-clause-value
returns-in-None-clause-value g c = none_filled (g.S.Shelf.holding c.args.shelf.now).town c.args.caller.now c.args.member.now c.args.board.now c.in-None.ensures
