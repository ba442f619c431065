-- What is accepted is an entry that may come next in the history.
use Rattle.std.proofs.Common.{◌≡◌, ℕ, true, List, Option, Some, None, Result, Ok, Err, refl, sym, ap, subst, ◌∙◌}
use Rattle.std.specs.Prelude.{IfOk, IfSome}
use Rattle.std.specs.declared.alloc.AllocError.{AllocError}
use Rattle.fedi_objects.specs.declared.entry.Entry.{Entry}
use Rattle.fedi_objects.specs.declared.entry.Entry.TheVariants.{Local, Remote}
use Rattle.fedi_entry.specs.Limits.{IsAttemptWithin}
use Rattle.fedi_town.specs.declared.caller.Caller.{Caller}
use Rattle.fedi_town.specs.declared.caller.Caller.TheVariants as callers
use Rattle.fedi_town.specs.Histories.{town}
use Rattle.fedi_town.specs.Legal.{IsLegal}
use Rattle.fedi_town.specs.Towns.{Town, id_of}
use Rattle.fedi_model.specs.declared.ask.Ask.{Ask}
use Rattle.fedi_model.specs.declared.ask.Ask.TheVariants.{Nowhere, WrongMethod, Webfinger, Actor, Collection, Activity, Object, Outbox, Inbox, Board}
use Rattle.fedi_model.specs.declared.post.Post.{Post}
use Rattle.fedi_model.specs.Posting.{Judgement, Stop, Repeat, Keep, entry_at, inbox_entry, inbox_entry_at, judge_inbox, judge_post, post_entry, repeat_by}
use Rattle.fedi_model.specs.Asks.{IsPostable, entry_of}
use Rattle.fedi_laws.proofs.Next.{entry_admissible}
use Rattle.fedi_model.specs.Replies.{IsPrivate, reply}
use Rattle.fedi_laws.proofs.PrivateReplies.{replies_agree}
use Rattle.fedi_core.specs.Drafts.{reply_in}
use Rattle.fedi_core.specs.Keeping.{MayAdd}
use Rattle.fedi_core.specs.declared.deciding.Decision.{Decision}

-- ---- the entry that an ask adds is no attempt

post_no_attempt : (name : List ℕ) (post : Post) (moment : ℕ) (j : Judgement) (e : Entry) → post_entry name post moment j ≡ Some e → IsAttemptWithin e
post_no_attempt name post moment (Stop a) e made = absurd cc
post_no_attempt name post moment (Repeat id) e made = absurd cc
post_no_attempt name post moment (Keep a) e made =
    let same : Local name (repeat_by post.digest post.key) a moment ≡ e = cc in subst IsAttemptWithin same tt

delivery_no_attempt : (c : Caller) (name : List ℕ) (moment : ℕ) (j : Judgement) (e : Entry) → inbox_entry c name moment j ≡ Some e → IsAttemptWithin e
delivery_no_attempt c name moment (Stop a) e made = absurd cc
delivery_no_attempt c name moment (Repeat id) e made = absurd cc
delivery_no_attempt callers.Nobody name moment (Keep a) e made = absurd cc
delivery_no_attempt (callers.Actor own) name moment (Keep a) e made = absurd cc
delivery_no_attempt (callers.Peer host) name moment (Keep a) e made =
    let same : Remote host name a moment ≡ e = cc in subst IsAttemptWithin same tt

post_at_no_attempt : (t : Town) (c : Caller) (name : List ℕ) (post : Post) (moment : ℕ) (author : Option (List ℕ)) (e : Entry)
    → entry_at t c name post moment author ≡ Some e → IsAttemptWithin e
post_at_no_attempt t c name post moment None e made = absurd cc
post_at_no_attempt t c name post moment (Some author) e made = post_no_attempt name post moment (judge_post t c name author post) e made

delivery_at_no_attempt : (t : Town) (c : Caller) (name : List ℕ) (post : Post) (moment : ℕ) (owner : Option (List ℕ)) (e : Entry)
    → inbox_entry_at t c name post moment owner ≡ Some e → IsAttemptWithin e
delivery_at_no_attempt t c name post moment None e made = absurd cc
delivery_at_no_attempt t c name post moment (Some owner) e made = delivery_no_attempt c name moment (judge_inbox t c owner post) e made

no_attempt : (t : Town) (c : Caller) (ask : Ask) (moment : ℕ) (e : Entry) → entry_of t c ask moment ≡ Some e → IsAttemptWithin e
no_attempt t c Nowhere moment e made = absurd cc
no_attempt t c (WrongMethod allow) moment e made = absurd cc
no_attempt t c (Webfinger resource) moment e made = absurd cc
no_attempt t c (Actor name) moment e made = absurd cc
no_attempt t c (Collection which ask) moment e made = absurd cc
no_attempt t c (Board name slug ask) moment e made = absurd cc
no_attempt t c (Activity name number) moment e made = absurd cc
no_attempt t c (Object name number) moment e made = absurd cc
no_attempt t c (Outbox name post) moment e made = post_at_no_attempt t c name post moment (id_of t name) e made
no_attempt t c (Inbox name post) moment e made = delivery_at_no_attempt t c name post moment (id_of t name) e made

-- ---- what is decided

-- the entry that an ask adds may be added
entry_may : (t : Town) (c : Caller) (ask : Ask) (moment : ℕ) → IsPostable t ask → IfSome (entry_of t c ask moment) (MayAdd t)
entry_may t c ask moment postable =
    elim (entry_of t c ask moment) as (λ o. entry_of t c ask moment ≡ o → IfSome o (MayAdd t)) [
      | None ↦ λ made. tt
      | Some e ↦ λ made. record {
        admissible = entry_admissible t c ask moment e postable made;
        attempt = no_attempt t c ask moment e made;
      }
    ] refl

pub decided_may : (h : List Entry) (t : Town) (c : Caller) (ask : Ask) (moment : ℕ) (r : Result Decision AllocError) → t ≡ town h
    → IsPostable (town h) ask → IfOk r (λ d. d.entry ≡ entry_of t c ask moment) → IfOk r (λ d. IfSome d.entry (MayAdd (town h)))
decided_may h t c ask moment (Ok d) facts postable entry =
    subst (λ (e : Option Entry). IfSome e (MayAdd (town h))) (sym (entry ∙ ap (λ (s : Town). entry_of s c ask moment) facts))
    (entry_may (town h) c ask moment postable)
decided_may h t c ask moment (Err e) facts postable entry = tt

pub decided_private : (h : List Entry) (t : Town) (c : Caller) (ask : Ask) (r : Result Decision AllocError) → t ≡ town h → IsLegal h
    → IfOk r (λ d. reply_in d.draft ≡ reply t c ask) → IfOk r (λ d. IsPrivate h c ask (reply_in d.draft))
decided_private h t c ask (Ok d) facts legal is =
    λ g also agree. replies_agree g h c ask also legal agree ∙ sym (is ∙ ap (λ (s : Town). reply s c ask) facts)
decided_private h t c ask (Err e) facts legal is = tt
