use Rattle.std.proofs.Common.{◌≡◌, ◌∙◌, ℕ, List, Err, Ok, None, Option, ap, refl, subst}
use Rattle.std.specs.Prelude.{option_copied}
use Rattle.fedi_model.specs.Answers.{caller_of}
use Rattle.fedi_model.specs.Asks.{entry_of}
use Rattle.fedi_model.specs.Callers.{caller_by}
use Rattle.fedi_model.specs.Credentials.{shown_by}
use Rattle.fedi_model.specs.Refusing.{refused}
use Rattle.fedi_model.specs.Replies.{reply}
use Rattle.fedi_model.specs.Routes.{IsPostableAt}
use Rattle.fedi_town.specs.Histories.{town}
use Rattle.fedi_seat.specs.Serving.{Became}
use Rattle.fedi_seat.proofs.Serving.{asked, caller_is, given_full, given_kept, given_nothing, lacks_full, refused_caller, replied, replied_if, untried_made}
use Rattle.fedi_seat.proofs.seat.Seat.answer.Goals as goal

-- ---- the caller is refused

pub returns-in-Err-clause-served : goal.returns-in-Err-clause-served
returns-in-Err-clause-served g c =
    let now = c.args.self.now in
    let t = town now.core.history in
    let q = c.args.request.now in
    let shown = shown_by c.credentials.result in
    let caller : caller_of t q c.args.body.now ≡ Err c.in-Err.refusal =
    caller_is t shown q c.args.body.now c.in_ok-caller.field-0 (Err c.in-Err.refusal)
    (c.in_ok-caller.ensures.caller ∙ ap (λ m. caller_by (town m.core.history) shown) c.self.view_is)
    c.credentials.ensures c.in-Err.is in
    replied_if g.P.Keeper c.args.moment q c.args.body.now c.refusal_reply.result
    (refused c.in-Err.refusal) None c.write_reply.result now now
    (refused_caller t c.args.moment q c.args.body.now c.in-Err.refusal caller)
    (given_nothing g.P.Keeper (refused c.in-Err.refusal) c.refusal_reply.result now c.refusal_reply.ensures)
    c.write_reply.ensures.short c.write_reply.ensures.status c.write_reply.ensures.text

-- ---- what is asked

pub decide-requires : goal.decide-requires
decide-requires g c = record {
  postable = subst (λ (h : Option (List ℕ)). IsPostableAt h c.in_ok-ask.ask) c.host.ensures c.in_ok-ask.ensures.postable;
}

pub keep_made-requires-clause-untried : goal.keep_made-requires-clause-untried
keep_made-requires-clause-untried g c =
    untried_made (town c.self.inside.core.history) c.in-Ok.caller c.in_ok-ask.ask c.args.moment
    c.in_ok-draft.field-0.entry c.in_ok-draft.ensures.entry

pub returns-then-kept-clause-served : goal.returns-then-kept-clause-served
returns-then-kept-clause-served g c =
    let now = c.args.self.now in
    let after = c.keep_made.new.self in
    let t = town now.core.history in
    let q = c.args.request.now in
    let shown = shown_by c.credentials.result in
    let r = c.in_ok-reply.reply in
    let made = c.in_ok-draft.field-0.entry in
    let ask = c.in_ok-ask.ask in
    let by = c.in-Ok.caller in
    let caller : caller_of t q c.args.body.now ≡ Ok by =
    caller_is t shown q c.args.body.now c.in_ok-caller.field-0 (Ok by)
    (c.in_ok-caller.ensures.caller ∙ ap (λ m. caller_by (town m.core.history) shown) c.self.view_is)
    c.credentials.ensures c.in-Ok.is in
    replied g.P.Keeper c.args.moment q c.args.body.now c.in_ok-served.served r r made now after
    (asked t c.args.moment q c.args.body.now by ask (option_copied c.host.result) r made caller
    (c.host.ensures ∙ ap (λ m. (town m.core.history).host) c.self.view_is) c.in_ok-ask.ensures.asks
    (c.in_ok-reply.ensures.reply ∙ c.in_ok-draft.ensures.reply ∙ ap (λ m. reply (town m.core.history) by ask) c.self.view_is)
    (c.in_ok-draft.ensures.entry ∙ ap (λ m. entry_of (town m.core.history) by ask c.args.moment) c.self.view_is))
    (given_kept g.P.Keeper r r made made now after refl refl
    (subst (λ b. Became g.P.Keeper b made now after) c.if-kept.true
    c.in_ok-kept.ensures.kept))
    c.write_reply-2.ensures.short c.in_ok-served.ensures.status c.in_ok-served.ensures.text

-- ---- there is no room for the entry

pub returns-clause-served : goal.returns-clause-served
returns-clause-served g c =
    let now = c.args.self.now in
    let after = c.keep_made.new.self in
    let t = town now.core.history in
    let q = c.args.request.now in
    let shown = shown_by c.credentials.result in
    let r = c.in_ok-reply.reply in
    let made = c.in_ok-draft.field-0.entry in
    let ask = c.in_ok-ask.ask in
    let by = c.in-Ok.caller in
    let caller : caller_of t q c.args.body.now ≡ Ok by =
    caller_is t shown q c.args.body.now c.in_ok-caller.field-0 (Ok by)
    (c.in_ok-caller.ensures.caller ∙ ap (λ m. caller_by (town m.core.history) shown) c.self.view_is)
    c.credentials.ensures c.in-Ok.is in
    replied_if g.P.Keeper c.args.moment q c.args.body.now c.refusal_reply-full.result r made
    c.write_reply-3.result now after
    (asked t c.args.moment q c.args.body.now by ask (option_copied c.host.result) r made caller
    (c.host.ensures ∙ ap (λ m. (town m.core.history).host) c.self.view_is) c.in_ok-ask.ensures.asks
    (c.in_ok-reply.ensures.reply ∙ c.in_ok-draft.ensures.reply ∙ ap (λ m. reply (town m.core.history) by ask) c.self.view_is)
    (c.in_ok-draft.ensures.entry ∙ ap (λ m. entry_of (town m.core.history) by ask c.args.moment) c.self.view_is))
    (given_full g.P.Keeper r c.refusal_reply-full.result made made now after c.refusal_reply-full.ensures refl
    (subst (λ b. Became g.P.Keeper b made now after) c.if-kept.false
    c.in_ok-kept.ensures.kept))
    c.write_reply-3.ensures.short c.write_reply-3.ensures.status c.write_reply-3.ensures.text

pub returns-clause-lacking : goal.returns-clause-lacking
returns-clause-lacking g c =
    let after = c.keep_made.new.self in
    let made = c.in_ok-draft.field-0.entry in
    lacks_full g.P.Keeper made c.args.self.now after c.write_reply-3.result
    (subst (λ b. Became g.P.Keeper b made c.args.self.now after) c.if-kept.false
    c.in_ok-kept.ensures.kept)
