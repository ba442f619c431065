-- What the entry for which there is room adds: activities, or one more inbox for a known activity.
use Rattle.std.proofs.Common.{◌≡◌, ℕ, ◌≤◌, List, [], ◌++◌, Option, Some, None, refl, sym, subst}
use Rattle.std.specs.Prelude.{map}
use Rattle.std.proofs.lemmas.List.{append-nil}
use Rattle.fedi_effects.specs.Additions.{acts_in, inbox_in}
use Rattle.fedi_effects.specs.Holdings.{Holding, coming, coming_in, coming_inbox, coming_inbox_in}
use Rattle.fedi_index.specs.declared.collection.Collection.TheVariants as kinds
use Rattle.fedi_index.specs.Growing.{AreCandidates, HasInboxRoom, HasRooms, MayComeIn, MayGo, sent_on}
use Rattle.fedi_index.specs.Lists.{Listing, room_of}
use Rattle.fedi_objects.specs.declared.entry.Entry.{Entry}
use Rattle.fedi_town.specs.declared.act.Act.{Act}
use Rattle.fedi_town.specs.declared.addition.Addition.{Addition}
use Rattle.fedi_town.specs.declared.addition.Addition.TheVariants as additions
use Rattle.fedi_town.specs.Histories.{addition_of, with_recipient}
use Rattle.fedi_town.specs.Towns.{Town}

no_acts : (a : Addition) (pair : List ℕ × List ℕ) → inbox_in a ≡ Some pair → acts_in a ≡ []
no_acts additions.Nothing pair is = refl
no_acts (additions.Host host) pair is = refl
no_acts (additions.Member member) pair is = refl
no_acts (additions.Peer peer) pair is = refl
no_acts (additions.Activity a) pair is = absurd cc
no_acts (additions.Inbox id owner) pair is = refl
no_acts (additions.Attempt attempt) pair is = refl

alone : (t : Town) (room : Option Entry) (pair : List ℕ × List ℕ) → coming_inbox t room ≡ Some pair → coming t room ≡ []
alone t None pair is = absurd cc
alone t (Some e) pair is = no_acts (addition_of t e) pair is

-- ---- one more inbox

pub room_there : (h : Holding) (id owner : List ℕ) (lists : List Listing) → Some (id, owner) ≡ coming_inbox_in h → HasInboxRoom (coming_inbox_in h) lists → 1 ≤ room_of kinds.Inbox owner lists
room_there h id owner lists is room = subst (λ (pair : Option (List ℕ × List ℕ)). HasInboxRoom pair lists) (sym is) room

pub room_here : (h : Holding) (id owner : List ℕ) (lists : List Listing) → Some (id, owner) ≡ coming_inbox_in h → 1 ≤ room_of kinds.Inbox owner lists → HasInboxRoom (coming_inbox_in h) lists
room_here h id owner lists is room = subst (λ (pair : Option (List ℕ × List ℕ)). HasInboxRoom pair lists) is room

pub may_go_there : (h : Holding) (id owner : List ℕ) → Some (id, owner) ≡ coming_inbox_in h → MayComeIn h.town (coming_inbox_in h) → MayGo h.town id owner
may_go_there h id owner is may = subst (λ (pair : Option (List ℕ × List ℕ)). MayComeIn h.town pair) (sym is) may

-- no activity is added, so none needs room
pub rooms_of_none : (h : Holding) (id owner : List ℕ) (host : Option (List ℕ)) (lists : List Listing) → Some (id, owner) ≡ coming_inbox_in h → HasRooms host 2 (coming_in h) lists
rooms_of_none h id owner host lists is = subst (λ (acts : List Act). HasRooms host 2 acts lists) (sym (alone h.town h.room (id, owner) (sym is))) tt

pub all_sent_on : (h : Holding) (id owner : List ℕ) (host : Option (List ℕ)) (lists : List Listing) → Some (id, owner) ≡ coming_inbox_in h
    → AreCandidates host (map (with_recipient id owner) h.town.acts) lists → AreCandidates host (sent_on (coming_inbox_in h) h.town.acts ++ coming_in h) lists
all_sent_on h id owner host lists is are =
    subst (λ (pair : Option (List ℕ × List ℕ)). AreCandidates host (sent_on pair h.town.acts ++ coming_in h) lists) is
    (subst (λ (acts : List Act). AreCandidates host (map (with_recipient id owner) h.town.acts ++ acts) lists) (sym (alone h.town h.room (id, owner) (sym is)))
    (subst (λ (acts : List Act). AreCandidates host acts lists) (sym (append-nil (map (with_recipient id owner) h.town.acts))) are))

-- ---- no further inbox

pub no_inbox_room : (h : Holding) (lists : List Listing) → None ≡ coming_inbox_in h → HasInboxRoom (coming_inbox_in h) lists
no_inbox_room h lists is = subst (λ (pair : Option (List ℕ × List ℕ)). HasInboxRoom pair lists) is tt

pub none_sent_on : (h : Holding) (host : Option (List ℕ)) (lists : List Listing) → None ≡ coming_inbox_in h → AreCandidates host (h.town.acts ++ coming_in h) lists
    → AreCandidates host (sent_on (coming_inbox_in h) h.town.acts ++ coming_in h) lists
none_sent_on h host lists is are = subst (λ (pair : Option (List ℕ × List ℕ)). AreCandidates host (sent_on pair h.town.acts ++ coming_in h) lists) is are
