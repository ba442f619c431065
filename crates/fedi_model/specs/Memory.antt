-- Which callers take memory to find, and which asks take memory to answer.
use Rattle.std.specs.Prelude.{ℕ, List, Bool, true, false, not, ◌||◌, Option, None, Some, Result, Ok}
use Rattle.std.specs.Prelude.{Err}
use Rattle.fedi_model.specs.declared.ask.Ask.{Ask}
use Rattle.fedi_model.specs.declared.ask.Ask.TheVariants.{Nowhere, WrongMethod, Webfinger, Actor}
use Rattle.fedi_model.specs.declared.ask.Ask.TheVariants.{Collection, Activity, Object, Outbox}
use Rattle.fedi_model.specs.declared.ask.Ask.TheVariants.{Inbox, Board}
use Rattle.fedi_model.specs.declared.ask.PageAsk.{PageAsk}
use Rattle.fedi_model.specs.declared.post.Post.{Post}
use Rattle.fedi_model.specs.AnswerKinds.{Answer, Refuse, Misshape, Disallow, Document, Profile}
use Rattle.fedi_model.specs.AnswerKinds.{Tombstone, Created, Accepted}
use Rattle.fedi_model.specs.Asks.{answer_of}
use Rattle.fedi_model.specs.Posting.{Judgement, Stop, Repeat, Keep, judge_inbox}
use Rattle.fedi_model.specs.Reading.{is_malformed, is_peer}
use Rattle.fedi_town.specs.declared.refusal.Refusal.{Refusal}
use Rattle.fedi_town.specs.declared.caller.Caller.{Caller}
use Rattle.fedi_town.specs.declared.caller.Which.{Which}
use Rattle.fedi_town.specs.declared.caller.Which.TheVariants.{Inbox as inbox, Outbox as outbox}
use Rattle.fedi_town.specs.declared.caller.Which.TheVariants.{Followers, Following, Liked, Likes}
use Rattle.fedi_town.specs.declared.caller.Which.TheVariants.{Shares}
use Rattle.fedi_town.specs.Towns.{Town, id_of}

-- the caller is a peer, whose host is copied
abbrev pub copies_host : Result Caller Refusal → Bool
copies_host (Ok c) = is_peer c
copies_host (Err refusal) = false

-- the answer refuses what was asked
abbrev pub is_refused : Answer → Bool
is_refused (Refuse r) = true
is_refused (Misshape fault) = true
is_refused (Disallow allow) = true
is_refused (Document d) = false
is_refused (Profile d) = false
is_refused (Tombstone d) = false
is_refused (Created id) = false
is_refused Accepted = false

-- the Likes or the Announces of an object, whose id is built to find it, unless the page is not a
-- number
abbrev pub finds_marked : Which → PageAsk → Bool
finds_marked (inbox name) part = false
finds_marked (outbox name) part = false
finds_marked (Followers name) part = false
finds_marked (Following name) part = false
finds_marked (Liked name) part = false
finds_marked (Likes name number) part = not (is_malformed part)
finds_marked (Shares name number) part = not (is_malformed part)

-- a collection that a member makes, which is put together to find how much is in it, unless there is
-- no such member or the page is not a number
abbrev pub finds_board : PageAsk → Option (List ℕ) → Bool
finds_board part None = false
finds_board part (Some id) = not (is_malformed part)

-- the delivered activity is kept
abbrev pub is_kept : Judgement → Bool
is_kept (Stop a) = false
is_kept (Repeat id) = false
is_kept (Keep a) = true

-- the delivery to an inbox is kept, given the inbox's owner if it was found
abbrev pub keeps_delivery : Town → Caller → Post → Option (List ℕ) → Bool
keeps_delivery t c post None = false
keeps_delivery t c post (Some owner) = is_kept (judge_inbox t c owner post)

-- The answer takes memory: an id is built to find what is asked for, or the answer is not a
-- refusal. A delivery takes memory only for its entry.
abbrev pub takes_memory : Town → Caller → Ask → Bool
takes_memory t c Nowhere = false
takes_memory t c (WrongMethod allow) = false
takes_memory t c (Webfinger resource) = not (is_refused (answer_of t c (Webfinger resource)))
takes_memory t c (Actor name) = not (is_refused (answer_of t c (Actor name)))
takes_memory t c (Collection which part) =
    finds_marked which part || not (is_refused (answer_of t c (Collection which part)))
takes_memory t c (Board name slug part) = finds_board part (id_of t name)
takes_memory t c (Activity name number) = true
takes_memory t c (Object name number) = true
takes_memory t c (Outbox name post) = not (is_refused (answer_of t c (Outbox name post)))
takes_memory t c (Inbox name post) = keeps_delivery t c post (id_of t name)
