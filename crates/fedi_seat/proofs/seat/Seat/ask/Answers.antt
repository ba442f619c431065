use Rattle.std.proofs.Common.{◌∙◌, ap, subst}
use Rattle.fedi_model.specs.Asks.{entry_of}
use Rattle.fedi_model.specs.Replies.{reply}
use Rattle.fedi_town.specs.Histories.{town}
use Rattle.fedi_seat.specs.Serving.{Became}
use Rattle.fedi_seat.proofs.Serving.{given_full, given_kept, untried_made}
use Rattle.fedi_seat.proofs.seat.Seat.ask.Goals as goal

pub keep_made-requires-clause-untried : goal.keep_made-requires-clause-untried
keep_made-requires-clause-untried g c =
    untried_made (town c.self.inside.core.history) c.args.caller.now c.args.ask c.args.moment
    c.in_ok-draft.field-0.entry c.in_ok-draft.ensures.entry

-- ---- the entry was kept, or there was none

pub returns-then-kept-clause-given : goal.returns-then-kept-clause-given
returns-then-kept-clause-given g c =
    let e = c.in_ok-draft.ensures in
    let t = town c.args.self.now.core.history in
    let made = c.in_ok-draft.field-0.entry in
    given_kept g.P.Keeper (reply t c.args.caller.now c.args.ask) c.in_ok-reply.reply
    (entry_of t c.args.caller.now c.args.ask c.args.moment) made c.args.self.now c.keep_made.new.self
    (c.in_ok-reply.ensures.reply ∙ e.reply ∙ ap (λ m. reply (town m.core.history) c.args.caller.now c.args.ask) c.self.view_is)
    (e.entry ∙ ap (λ m. entry_of (town m.core.history) c.args.caller.now c.args.ask c.args.moment) c.self.view_is)
    (subst (λ b. Became g.P.Keeper b made c.args.self.now c.keep_made.new.self) c.if-kept.true
    c.in_ok-kept.ensures.kept)

-- ---- there was no room for it

pub returns-clause-given : goal.returns-clause-given
returns-clause-given g c =
    let e = c.in_ok-draft.ensures in
    let t = town c.args.self.now.core.history in
    let made = c.in_ok-draft.field-0.entry in
    given_full g.P.Keeper (reply t c.args.caller.now c.args.ask) c.refusal_reply.result
    (entry_of t c.args.caller.now c.args.ask c.args.moment) made c.args.self.now c.keep_made.new.self
    c.refusal_reply.ensures
    (e.entry ∙ ap (λ m. entry_of (town m.core.history) c.args.caller.now c.args.ask c.args.moment) c.self.view_is)
    (subst (λ b. Became g.P.Keeper b made c.args.self.now c.keep_made.new.self) c.if-kept.false
    c.in_ok-kept.ensures.kept)
