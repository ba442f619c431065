-- The entry that a request adds is no attempt of a delivery.
use Rattle.std.proofs.Common.{◌≡◌, ℕ, false, List, Option, Some, None, refl}
use Rattle.fedi_log.specs.Claims.{tries}
use Rattle.fedi_log.specs.declared.items.Pair.{Pair}
use Rattle.fedi_model.specs.Asks.{entry_of}
use Rattle.fedi_model.specs.Posting.{Judgement, Keep, Repeat, Stop, entry_at, inbox_entry, inbox_entry_at, judge_inbox, judge_post, post_entry, repeat_by}
use Rattle.fedi_model.specs.declared.ask.Ask.{Ask}
use Rattle.fedi_model.specs.declared.ask.Ask.TheVariants.{Nowhere, WrongMethod, Webfinger, Actor, Collection, Activity, Object, Outbox, Inbox, Board}
use Rattle.fedi_model.specs.declared.post.Post.{Post}
use Rattle.fedi_objects.specs.declared.entry.Entry.{Entry}
use Rattle.fedi_objects.specs.declared.entry.Entry.TheVariants.{Local, Remote}
use Rattle.fedi_town.specs.declared.caller.Caller.{Caller}
use Rattle.fedi_town.specs.declared.caller.Caller.TheVariants as callers
use Rattle.fedi_town.specs.Towns.{Town, id_of}

-- the entry records an attempt of no delivery
abbrev pub IsUntried : Entry → Type 0
IsUntried e = (p : Pair) → tries p e ≡ false

posted : (name : List ℕ) (post : Post) (moment : ℕ) (j : Judgement) (e : Entry) → post_entry name post moment j ≡ Some e → IsUntried e
posted name post moment (Stop a) e is = absurd cc
posted name post moment (Repeat id) e is = absurd cc
posted name post moment (Keep a) e is = λ p. let same : e ≡ Local name (repeat_by post.digest post.key) a moment = cc in rw same refl

delivered : (c : Caller) (name : List ℕ) (moment : ℕ) (j : Judgement) (e : Entry) → inbox_entry c name moment j ≡ Some e → IsUntried e
delivered c name moment (Stop a) e is = absurd cc
delivered c name moment (Repeat id) e is = absurd cc
delivered callers.Nobody name moment (Keep a) e is = absurd cc
delivered (callers.Actor own) name moment (Keep a) e is = absurd cc
delivered (callers.Peer host) name moment (Keep a) e is = λ p. let same : e ≡ Remote host name a moment = cc in rw same refl

posted_at : (t : Town) (c : Caller) (name : List ℕ) (post : Post) (moment : ℕ) (id : Option (List ℕ)) (e : Entry) → entry_at t c name post moment id ≡ Some e → IsUntried e
posted_at t c name post moment None e is = absurd cc
posted_at t c name post moment (Some author) e is = posted name post moment (judge_post t c name author post) e is

delivered_at : (t : Town) (c : Caller) (name : List ℕ) (post : Post) (moment : ℕ) (id : Option (List ℕ)) (e : Entry) → inbox_entry_at t c name post moment id ≡ Some e → IsUntried e
delivered_at t c name post moment None e is = absurd cc
delivered_at t c name post moment (Some owner) e is = delivered c name moment (judge_inbox t c owner post) e is

pub untried : (t : Town) (c : Caller) (ask : Ask) (moment : ℕ) (e : Entry) → entry_of t c ask moment ≡ Some e → IsUntried e
untried t c Nowhere moment e is = absurd cc
untried t c (WrongMethod allow) moment e is = absurd cc
untried t c (Webfinger resource) moment e is = absurd cc
untried t c (Actor name) moment e is = absurd cc
untried t c (Collection which part) moment e is = absurd cc
untried t c (Board name slug part) moment e is = absurd cc
untried t c (Activity name number) moment e is = absurd cc
untried t c (Object name number) moment e is = absurd cc
untried t c (Outbox name post) moment e is = posted_at t c name post moment (id_of t name) e is
untried t c (Inbox name post) moment e is = delivered_at t c name post moment (id_of t name) e is
