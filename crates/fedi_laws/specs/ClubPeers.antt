-- What other servers deliver to the club, and what goes to them.
use Rattle.std.specs.Prelude.{◌≡◌, ℕ, true, false, List, [], ◌∷◌, ◌++◌, map, codes, Some, None}
use Rattle.std.specs.Prelude.{option_map}
use Rattle.fedi_address.specs.declared.recipients.Recipients.{Recipients}
use Rattle.fedi_town.specs.declared.refusal.Refusal.TheVariants.{NotFound}
use Rattle.fedi_address.specs.Iris.{public_iri}
use Rattle.fedi_objects.specs.declared.activity.Activity.{Activity}
use Rattle.fedi_objects.specs.declared.activity.ObjectRef.TheVariants.{Id, Whole}
use Rattle.fedi_objects.specs.declared.entry.Entry.{Entry}
use Rattle.fedi_objects.specs.declared.kind.Kind.TheVariants as kinds
use Rattle.fedi_objects.specs.declared.kind.State.TheVariants.{Done, Pending, Accepted}
use Rattle.fedi_objects.specs.declared.object.Object.{Object}
use Rattle.fedi_text.specs.Dates.{moment_text}
use Rattle.fedi_town.specs.declared.caller.Caller.TheVariants.{Actor, Peer}
use Rattle.fedi_town.specs.declared.caller.Which.TheVariants.{Inbox, Followers}
use Rattle.fedi_town.specs.declared.deed.Deed.TheVariants.{Reject}
use Rattle.fedi_town.specs.Addressing.{no_recipients}
use Rattle.fedi_town.specs.Histories.{town}
use Rattle.fedi_town.specs.Objects.{object_at}
use Rattle.fedi_town.specs.Queues.{Due, queue}
use Rattle.fedi_town.specs.Relations.{followers}
use Rattle.fedi_laws.specs.ClubFollows.{fans}
use Rattle.fedi_laws.specs.Fixture.{ana, ben, dan, member, activity_number, object_number, hill}
use Rattle.fedi_laws.specs.Fixture.{lake, dora, eve, with_peers, to, activity, note, posts}
use Rattle.fedi_laws.specs.Fixture.{delivers, is_legal, states, recipients, sight, total, rule}

-- an id that belongs to dora
abbrev pub by_dora : List ℕ → List ℕ
by_dora path = dora ++ path

-- dora's Create of a Note with this id and these recipients
abbrev pub note_of_dora : List ℕ → Object → Recipients → Activity
note_of_dora id o r = activity kinds.Create (Whole (record o { id = Some id })) r

-- ---- dora's public Note arrives for ana, and for ben

-- its recipients
abbrev pub dora_says : Recipients
dora_says = record no_recipients {
  to = public_iri ∷ [];
  cc = by_dora (codes "/followers") ∷ member ana ∷ [];
}

-- the Create
abbrev pub hi : Activity
hi = note_of_dora (by_dora (codes "/o/7")) (note no_recipients) dora_says

-- it arrived for ana
abbrev pub after_delivery : List Entry
after_delivery = with_peers ++ delivers hill ana dora (by_dora (codes "/a/7")) hi ∷ []

-- it arrived for ben too
abbrev pub after_second_inbox : List Entry
after_second_inbox = after_delivery ++ delivers hill ben dora (by_dora (codes "/a/7")) hi ∷ []

-- it is kept once, with both inboxes; its object is dora's; and nobody keeps it again
pub record DeliveredNote : Type 0 where
  pub legal : is_legal after_second_inbox ≡ true
  pub done : states after_second_inbox ≡ Done ∷ []
  pub inboxes : recipients after_second_inbox ≡ (member ana ∷ member ben ∷ []) ∷ []
  pub not_again :
      is_legal (after_delivery ++ delivers hill ana dora (by_dora (codes "/a/7")) hi ∷ []) ≡ false
  pub with_ana : total after_second_inbox (Actor ana) (Inbox ana) ≡ Some 1
  pub with_ben : total after_second_inbox (Actor ben) (Inbox ben) ≡ Some 1
  pub author : option_map (λ o. o.attributed_to)
      (object_at (town after_second_inbox) (by_dora (codes "/o/7"))) ≡ Some (Some dora)

-- ---- who may deliver

-- a peer delivers what its own actors do, a relay also what others do, and neither delivers what a
-- member does
pub record PeersAndRelays : Type 0 where
  pub other_host : is_legal (with_peers ++ delivers hill ana eve (eve ++ codes "/a/1")
      (activity kinds.Listen (Id dora) no_recipients) ∷ []) ≡ false
  pub own_host : is_legal (with_peers ++ delivers lake ana eve (eve ++ codes "/a/1")
      (activity kinds.Listen (Id dora) no_recipients) ∷ []) ≡ true
  pub by_relay :
      is_legal (with_peers ++ delivers lake ana dora (by_dora (codes "/a/7")) hi ∷ []) ≡ true
  pub of_member : is_legal (with_peers ++ delivers lake ana (member ana)
      (member ana ++ codes "/a/1") (activity kinds.Listen (Id dora) no_recipients) ∷ []) ≡ false

-- ---- dora's Tombstone

-- what is left of a Note
abbrev pub late_note : Object
late_note = record (note no_recipients) { kind = codes "Tombstone"; content = None }

-- it arrived for ana
abbrev pub after_tombstone : List Entry
after_tombstone =
    with_peers ++ delivers hill ana dora (by_dora (codes "/a/9"))
    (note_of_dora (by_dora (codes "/o/9")) late_note no_recipients) ∷ []

-- a Tombstone without its former type and the time of its deletion is completed
pub record DeliveredTombstone : Type 0 where
  pub legal : is_legal after_tombstone ≡ true
  pub former :
      option_map (λ o. o.former_kind) (object_at (town after_tombstone) (by_dora (codes "/o/9")))
      ≡ Some (Some (codes "Object"))
  pub deleted :
      option_map (λ o. o.deleted) (object_at (town after_tombstone) (by_dora (codes "/o/9")))
      ≡ Some (Some (moment_text 2))

-- ---- dora follows ana, and dan, who is locked and accepts

-- dora followed ana
abbrev pub after_remote_follow : List Entry
after_remote_follow =
    with_peers ++ delivers hill ana dora (by_dora (codes "/a/1"))
    (activity kinds.Follow (Id (member ana)) no_recipients) ∷ []

-- dora asked to follow dan
abbrev pub before_answer : List Entry
before_answer =
    with_peers ++ delivers hill dan dora (by_dora (codes "/a/1"))
    (activity kinds.Follow (Id (member dan)) no_recipients) ∷ []

-- dan accepted
abbrev pub after_answer : List Entry
after_answer =
    before_answer
    ++ posts dan (activity kinds.Accept (Id (by_dora (codes "/a/1"))) no_recipients) ∷ []

-- the Follow is accepted at once, or when dan accepts it; and it is not delivered to ana again
pub record DeliveredFollow : Type 0 where
  pub legal : is_legal after_remote_follow ≡ true
  pub not_again : is_legal (after_remote_follow ++ delivers hill ana dora (by_dora (codes "/a/1"))
      (activity kinds.Follow (Id (member ana)) no_recipients) ∷ []) ≡ false
  pub accepted : states after_remote_follow ≡ Accepted ∷ Done ∷ []
  pub answer : sight after_remote_follow (Peer hill)
      ≡ Some (by_dora (codes "/a/1")) ∷ Some (activity_number ana (codes "1")) ∷ []
  pub one : total after_remote_follow (Actor ana) (Followers ana) ≡ Some 1
  pub waits : states before_answer ≡ Pending ∷ []
  pub legal_too : is_legal after_answer ≡ true
  pub accepted_too : states after_answer ≡ Accepted ∷ Done ∷ []
  pub one_too : total after_answer (Actor dan) (Followers dan) ≡ Some 1

-- ---- a Follow of ana that arrives only for ben

-- it arrived for ben
abbrev pub after_stray_follow : List Entry
after_stray_follow =
    with_peers ++ delivers hill ben dora (by_dora (codes "/a/1"))
    (activity kinds.Follow (Id (member ana)) no_recipients) ∷ []

-- it is accepted in ana's name, who sees her Accept but not the Follow, and cannot reject it
pub record StrayFollow : Type 0 where
  pub legal : is_legal after_stray_follow ≡ true
  pub accepted : states after_stray_follow ≡ Accepted ∷ Done ∷ []
  pub follows : followers (town after_stray_follow) (member ana) ≡ dora ∷ []
  pub seen_by_ana :
      sight after_stray_follow (Actor ana) ≡ Some (activity_number ana (codes "1")) ∷ []
  pub not_found : rule after_stray_follow ana Reject (by_dora (codes "/a/1")) ≡ Some NotFound

-- ---- eve follows ana, who posts a public Note; dora replies to ana's followers

-- eve followed ana, who posted a Note
abbrev pub before_reply : List Entry
before_reply =
    with_peers ++ (delivers lake ana eve (eve ++ codes "/a/1")
    (activity kinds.Follow (Id (member ana)) no_recipients)
    ∷ posts ana (activity kinds.Create (Whole (note (to (public_iri ∷ [])))) (to (public_iri ∷ [])))
    ∷ [])

-- a Note that replies to it
abbrev pub reply : Object
reply = record (note no_recipients) { in_reply_to = Some (object_number ana (codes "2")) }

-- dora's reply, which goes to these
abbrev pub reply_to : List (List ℕ) → Entry
reply_to names =
    delivers hill ana dora (by_dora (codes "/a/8"))
    (note_of_dora (by_dora (codes "/o/8")) reply (record no_recipients { cc = names }))

-- dora's reply to ana's followers arrived for ana
abbrev pub after_reply : List Entry
after_reply = before_reply ++ reply_to ((member ana ++ codes "/followers") ∷ []) ∷ []

-- the Accept goes to eve, and so does dora's reply, as it names ana's followers; otherwise it does
-- not, nor does it go to a follower of dora's own host
pub record ForwardedReply : Type 0 where
  pub legal : is_legal after_reply ≡ true
  pub due : queue (town after_reply)
      ≡ record {
        activity = Some (activity_number ana (codes "1"));
        recipient = eve;
        progress = Due 0 2;
      }
      ∷ record { activity = Some (by_dora (codes "/a/8")); recipient = eve; progress = Due 0 2 }
      ∷ []
  pub unnamed :
      map (λ x. x.forwards) (town (before_reply ++ reply_to [] ∷ [])).acts ≡ [] ∷ [] ∷ [] ∷ [] ∷ []
  pub near : map (λ x. x.forwards)
      (town (after_remote_follow ++ reply_to ((member ana ++ codes "/followers") ∷ []) ∷ [])).acts
      ≡ [] ∷ [] ∷ [] ∷ []

-- ---- ana posts to her followers before there is one; eve of lake follows her later

-- she posted the Note
abbrev pub before_far_follow : List Entry
before_far_follow =
    with_peers ++ posts ana (activity kinds.Create (Whole (note (to fans))) (to fans)) ∷ []

-- eve followed her
abbrev pub after_far_follow : List Entry
after_far_follow =
    before_far_follow ++ delivers lake ana eve (eve ++ codes "/a/1")
    (activity kinds.Follow (Id (member ana)) no_recipients) ∷ []

-- eve undid it
abbrev pub after_far_undo : List Entry
after_far_undo =
    after_far_follow ++ delivers lake ana eve (eve ++ codes "/a/2")
    (activity kinds.Undo (Id (eve ++ codes "/a/1")) no_recipients) ∷ []

-- ana blocked her
abbrev pub after_far_block : List Entry
after_far_block = after_far_follow ++ posts ana (activity kinds.Block (Id eve) no_recipients) ∷ []

-- Lake sees the Note while somebody of lake follows ana. Hill, where nobody does, never sees it.
pub record FarFollower : Type 0 where
  pub legal : is_legal after_far_undo ≡ true
  pub before : sight before_far_follow (Peer lake) ≡ []
  pub after : sight after_far_follow (Peer lake)
      ≡ Some (activity_number ana (codes "1")) ∷ Some (eve ++ codes "/a/1")
      ∷ Some (activity_number ana (codes "2")) ∷ []
  pub other : sight after_far_follow (Peer hill) ≡ []
  pub undone : sight after_far_undo (Peer lake)
      ≡ Some (eve ++ codes "/a/1") ∷ Some (activity_number ana (codes "2"))
      ∷ Some (eve ++ codes "/a/2") ∷ []
  pub legal_block : is_legal after_far_block ≡ true
  pub blocked : sight after_far_block (Peer lake) ≡ Some (eve ++ codes "/a/1") ∷ []
