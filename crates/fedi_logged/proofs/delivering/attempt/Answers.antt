use Rattle.std.proofs.lemmas.Result.{err_from_is_err_and}
use Rattle.fedi_log.specs.Log.{history_of}
use Rattle.fedi_logged.proofs.Attempts.{lookup_begun, lookup_ended, lookup_may, none_sent, post_ended, post_may}
use Rattle.fedi_town.specs.Histories.{town}
use Rattle.fedi_logged.proofs.Attempting.{posted_at}
use Rattle.fedi_logged.proofs.delivering.attempt.Goals as goal

pub returns-in_err-buffer-clause-came : goal.returns-in_err-buffer-clause-came
returns-in_err-buffer-clause-came g c = λ p log more has begins sending.
    let e = err_from_is_err_and c.from_residual.result c.from_residual.ensures.1 in
    rw e.1 (none_sent (town (history_of log)) p.activity p.recipient _ e.0)

pub returns-in_err-came-clause-came : goal.returns-in_err-came-clause-came
returns-in_err-came-clause-came g c = λ p log more has begins sending.
    let e = err_from_is_err_and c.from_residual-in_err-came.result c.from_residual-in_err-came.ensures.1 in
    rw e.1 (lookup_begun (town (history_of log)) sending.act p.activity p.recipient c.args.outgoing.now _ _ _ _ _ e.0 sending.sent c.text-address.ensures c.deref.ensures.value
    (rw sending.recipient_is at c.look_up.ensures.looks_up))

pub returns-in-Ended-clause-came : goal.returns-in-Ended-clause-came
returns-in-Ended-clause-came g c = λ p log more has begins sending.
    lookup_ended (town (history_of log)) sending.act p.activity p.recipient c.args.outgoing.now _ _ _ _ c.in-Ended.came sending.sent c.text-address.ensures c.deref.ensures.value
    (rw (sending.recipient_is, c.in-Ended.is) at c.in_ok-came.ensures.looks_up)

pub returns-in-Ended-clause-may_come : goal.returns-in-Ended-clause-may_come
returns-in-Ended-clause-may_come g c =
    let looked = rw c.in-Ended.is at c.in_ok-came.ensures.looks_up in
    lookup_may c.args.recipient.now looked.row c.in-Ended.came looked.shows

pub returns-in_err-request-in-Inbox-clause-came : goal.returns-in_err-request-in-Inbox-clause-came
returns-in_err-request-in-Inbox-clause-came g c = λ p log more has begins sending.
    let e = err_from_is_err_and c.from_residual-in_err-request-in-Inbox.result c.from_residual-in_err-request-in-Inbox.ensures.1 in
    rw e.1 (lookup_begun (town (history_of log)) sending.act p.activity p.recipient c.args.outgoing.now _ _ _ _ _ e.0 sending.sent c.text-address.ensures c.deref.ensures.value
    (rw sending.recipient_is at c.look_up.ensures.looks_up))

pub returns-clause-came : goal.returns-clause-came
returns-clause-came g c = λ p log more has begins sending.
    let since = rw c.deref-in-Inbox.ensures.value at (c.in_ok-request-in-Inbox.ensures.post p has) in
    let posted = posted_at _ p sending.act c.args.outgoing.now log more _ _ c.in-Inbox.inbox c.args.outgoing.now.body.items _ begins c.in_ok-request-in-Inbox.ensures.goes sending.sent since in
    post_ended (town (history_of log)) sending.act c.args.claim.now.activity p.activity p.recipient c.in-Inbox.inbox c.args.outgoing.now
    _ _ _ _ _ _ c.post.result sending.sent sending.there sending.named c.text-address.ensures c.deref.ensures.value posted
    (rw (sending.recipient_is, c.in-Inbox.is) at c.in_ok-came.ensures.looks_up)
    (rw c.deref-in-Inbox-2.ensures.value at c.post.ensures.posts)

pub returns-clause-may_come : goal.returns-clause-may_come
returns-clause-may_come g c = post_may c.post.ensures.posts.row c.post.result c.post.ensures.posts.shows

pub returns-in_err-came-clause-same : goal.returns-in_err-came-clause-same
returns-in_err-came-clause-same g c = g.T.Turns.same_none c.args.turns.now

pub returns-in-Ended-clause-same : goal.returns-in-Ended-clause-same
returns-in-Ended-clause-same g c = g.T.Turns.same_none c.args.turns.now
