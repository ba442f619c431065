-- No turn changes who may be taken for the caller of a request.
use Rattle.std.proofs.Common.{◌≡◌, ◌∙◌, ℕ, Bool, false, List, [], ◌∷◌, ◌++◌, Option, Some, None, Ok, Err}
use Rattle.std.proofs.Common.{Result, ap, refl, sym, subst}
use Rattle.std.specs.Prelude.{IfOk}
use Rattle.fedi_effects.specs.Rosters.{Callers, callers_in, changes_callers}
use Rattle.fedi_effects.proofs.SameCallers.{same_callers}
use Rattle.fedi_model.proofs.SameCallers.{same_caller}
use Rattle.fedi_model.specs.Answers.{caller_of}
use Rattle.fedi_model.specs.Asks.{entry_of}
use Rattle.fedi_model.specs.Credentials.{credentials_of}
use Rattle.fedi_model.specs.Posting.{Judgement, Keep, Repeat, Stop, entry_at, inbox_entry}
use Rattle.fedi_model.specs.Posting.{inbox_entry_at, judge_inbox, judge_post, post_entry, repeat_by}
use Rattle.fedi_model.specs.declared.ask.Ask.{Ask}
use Rattle.fedi_model.specs.declared.ask.Ask.TheVariants.{Nowhere, WrongMethod, Webfinger, Actor}
use Rattle.fedi_model.specs.declared.ask.Ask.TheVariants.{Collection, Activity, Object, Outbox}
use Rattle.fedi_model.specs.declared.ask.Ask.TheVariants.{Inbox, Board}
use Rattle.fedi_model.specs.declared.post.Post.{Post}
use Rattle.fedi_model.specs.declared.request.Request.{Request}
use Rattle.fedi_objects.specs.declared.entry.Entry.{Entry}
use Rattle.fedi_objects.specs.declared.entry.Entry.TheVariants.{Local, Remote}
use Rattle.fedi_town.specs.declared.caller.Caller.{Caller}
use Rattle.fedi_town.specs.declared.caller.Caller.TheVariants as callers
use Rattle.fedi_town.specs.declared.refusal.Refusal.{Refusal}
use Rattle.fedi_town.specs.Histories.{town}
use Rattle.fedi_town.specs.Towns.{Town, id_of}

-- ---- what a request adds is no member and no peer

posted : (name : List ℕ) (post : Post) (moment : ℕ) (j : Judgement) (e : Entry)
    → post_entry name post moment j ≡ Some e → changes_callers e ≡ false
posted name post moment (Stop a) e is = absurd cc
posted name post moment (Repeat id) e is = absurd cc
posted name post moment (Keep a) e is =
    let same : e ≡ Local name (repeat_by post.digest post.key) a moment = cc in rw same refl

delivered : (c : Caller) (name : List ℕ) (moment : ℕ) (j : Judgement) (e : Entry)
    → inbox_entry c name moment j ≡ Some e → changes_callers e ≡ false
delivered c name moment (Stop a) e is = absurd cc
delivered c name moment (Repeat id) e is = absurd cc
delivered callers.Nobody name moment (Keep a) e is = absurd cc
delivered (callers.Actor own) name moment (Keep a) e is = absurd cc
delivered (callers.Peer host) name moment (Keep a) e is =
    let same : e ≡ Remote host name a moment = cc in rw same refl

posted_at : (t : Town) (c : Caller) (name : List ℕ) (post : Post) (moment : ℕ)
    (id : Option (List ℕ)) (e : Entry) → entry_at t c name post moment id ≡ Some e
    → changes_callers e ≡ false
posted_at t c name post moment None e is = absurd cc
posted_at t c name post moment (Some author) e is =
    posted name post moment (judge_post t c name author post) e is

delivered_at : (t : Town) (c : Caller) (name : List ℕ) (post : Post) (moment : ℕ)
    (id : Option (List ℕ)) (e : Entry) → inbox_entry_at t c name post moment id ≡ Some e
    → changes_callers e ≡ false
delivered_at t c name post moment None e is = absurd cc
delivered_at t c name post moment (Some owner) e is =
    delivered c name moment (judge_inbox t c owner post) e is

pub settled : (t : Town) (c : Caller) (ask : Ask) (moment : ℕ) (e : Entry)
    → entry_of t c ask moment ≡ Some e → changes_callers e ≡ false
settled t c Nowhere moment e is = absurd cc
settled t c (WrongMethod allow) moment e is = absurd cc
settled t c (Webfinger resource) moment e is = absurd cc
settled t c (Actor name) moment e is = absurd cc
settled t c (Collection which part) moment e is = absurd cc
settled t c (Board name slug part) moment e is = absurd cc
settled t c (Activity name number) moment e is = absurd cc
settled t c (Object name number) moment e is = absurd cc
settled t c (Outbox name post) moment e is = posted_at t c name post moment (id_of t name) e is
settled t c (Inbox name post) moment e is = delivered_at t c name post moment (id_of t name) e is

-- ---- so members and peers stay

pub callers_stay : (h now : List Entry) (e : Entry) → changes_callers e ≡ false → now ≡ h ++ e ∷ []
    → callers_in (town now) ≡ callers_in (town h)
callers_stay h now e is more =
    ap (λ (l : List Entry). callers_in (town l)) more ∙ same_callers h e is

-- ---- and so does the caller of each request

pub callers_known : (opened now : List Entry) (q : Request) (body : List ℕ)
    (c : Result Caller Refusal) → callers_in (town now) ≡ callers_in (town opened)
    → caller_of (town opened) q body ≡ c → caller_of (town now) q body ≡ c
callers_known opened now q body c same is =
    same_caller (town now) (town opened) (credentials_of q body)
    (ap (λ (k : Callers). k.actors) same) (ap (λ (k : Callers). k.peers) same) ∙ is

-- whoever makes a request now made it at the opening
pub caller_opened : {E : Type 0} (opened now : List Entry) (q : Request) (body : List ℕ)
    (r : Result (Result Caller Refusal) E) → callers_in (town now) ≡ callers_in (town opened)
    → IfOk r (λ c. c ≡ caller_of (town now) q body)
    → IfOk r (λ c. c ≡ caller_of (town opened) q body)
caller_opened opened now q body (Ok c) same is =
    is ∙ callers_known opened now q body (caller_of (town opened) q body) same refl
caller_opened opened now q body (Err e) same is = tt
