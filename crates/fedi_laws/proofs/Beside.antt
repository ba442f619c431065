-- What a caller knows does not depend on the attempts to deliver, nor on peers other than the
-- caller.
use Rattle.std.proofs.Common.{◌≡◌, ℕ, Bool, false, List, [], ◌∷◌, ◌++◌, Option, Some, None, refl, sym, ap, subst, ◌∙◌}
use Rattle.std.specs.Prelude.{map}
use Rattle.std.specs.List.{find}
use Rattle.std.specs.Option.{option_or}
use Rattle.std.specs.Str.{bytes_eq}
use Rattle.std.proofs.lemmas.List.Elements.{filter_agree}
use Rattle.std.proofs.lemmas.List.Folds.{find-append}
use Rattle.fedi_objects.specs.declared.entry.Came.{Came}
use Rattle.fedi_objects.specs.declared.entry.Entry.TheVariants.{PeerSet, Tried}
use Rattle.fedi_objects.specs.declared.entry.Entry.{Entry}
use Rattle.fedi_town.proofs.Lists.{list_any-agree}
use Rattle.fedi_town.specs.Agreement.{Agree, IsSameOwn, peer_of}
use Rattle.fedi_town.specs.Histories.{town}
use Rattle.fedi_town.specs.Objects.{maker_of}
use Rattle.fedi_town.specs.Relations.{has_block_between, ref_id}
use Rattle.fedi_town.specs.Seeing.{sees, sees_as, sees_with, seen, reaches, is_for_follower, is_follower_from}
use Rattle.fedi_town.specs.Showing.{sight_of, shown_ref, shown_activity, present_object, id_of_caller, view}
use Rattle.fedi_town.specs.Towns.{Town, has_host, id_of}
use Rattle.fedi_town.specs.declared.act.Act.{Act}
use Rattle.fedi_town.specs.declared.act.Attempt.{Attempt}
use Rattle.fedi_town.specs.declared.act.Peer as peers
use Rattle.fedi_town.specs.declared.caller.Caller.{Caller}
use Rattle.fedi_town.specs.declared.caller.Caller.TheVariants.{Nobody, Actor, Peer}
use Rattle.fedi_laws.proofs.Isolation.{town-push}
use Rattle.fedi_laws.specs.Statements.{is_peer_of}

-- the town with these peers and these attempts
abbrev beside : Town → List peers.Peer → List Attempt → Town
beside t ps tries = record t { peers = ps; attempts = tries }

-- ---- what is seen

reaches-beside : (t : Town) (ps : List peers.Peer) (tries : List Attempt) (host author r : List ℕ) → reaches (beside t ps tries) host author r ≡ reaches t host author r
unfolding reaches has_block_between
reaches-beside t ps tries host author r = refl

follower-beside : (t : Town) (ps : List peers.Peer) (tries : List Attempt) (host author : List ℕ) (f : Act)
    → is_follower_from (beside t ps tries) host author f ≡ is_follower_from t host author f
unfolding is_follower_from reaches has_block_between
follower-beside t ps tries host author f = refl

with-beside : (t : Town) (ps : List peers.Peer) (tries : List Attempt) (me : Option (List ℕ)) (x : Act) → sees_with (beside t ps tries) me x ≡ sees_with t me x
unfolding sees_as is_for_follower has_block_between
with-beside t ps tries None x = refl
with-beside t ps tries (Some me) x = refl

sees-beside : (t : Town) (ps : List peers.Peer) (tries : List Attempt) (c : Caller) (x : Act) → sees (beside t ps tries) c x ≡ sees t c x
unfolding sees
sees-beside t ps tries Nobody x = refl
sees-beside t ps tries (Actor name) x = with-beside t ps tries (id_of t name) x
sees-beside t ps tries (Peer host) x =
    rw (
      list_any-agree (reaches (beside t ps tries) host x.author) (reaches t host x.author) (reaches-beside t ps tries host x.author) x.recipients,
      list_any-agree (is_follower_from (beside t ps tries) host x.author) (is_follower_from t host x.author) (follower-beside t ps tries host x.author) t.acts,
    ) refl

-- ---- what is shown

maker-beside : (t : Town) (ps : List peers.Peer) (tries : List Attempt) (id : Option (List ℕ)) → maker_of (beside t ps tries) id ≡ maker_of t id
maker-beside t ps tries None = refl
maker-beside t ps tries (Some id) = refl

ref-beside : (t : Town) (ps : List peers.Peer) (tries : List Attempt) (x : Act) → shown_ref (beside t ps tries) x ≡ shown_ref t x
unfolding shown_ref present_object
ref-beside t ps tries x = rw (maker-beside t ps tries (ref_id x.activity.object)) refl

shown-beside : (t : Town) (ps : List peers.Peer) (tries : List Attempt) (c : Caller) (x : Act) → sight_of (beside t ps tries) c x ≡ sight_of t c x
unfolding sight_of shown_activity
shown-beside t ps tries Nobody x = rw (ref-beside t ps tries x) refl
shown-beside t ps tries (Actor name) x = rw (ref-beside t ps tries x) refl
shown-beside t ps tries (Peer host) x = rw (ref-beside t ps tries x) refl

map_agree : {A B : Type 0} (f g : A → B) → ((x : A) → f x ≡ g x) → (xs : List A) → map f xs ≡ map g xs
map_agree f g same [] = refl
map_agree f g same (x ∷ xs) = rw (same x, map_agree f g same xs) refl

view-beside : (t : Town) (ps : List peers.Peer) (tries : List Attempt) (c : Caller) → view (beside t ps tries) c ≡ view t c
view-beside t ps tries c =
    ap (map (sight_of (beside t ps tries) c)) (filter_agree (sees (beside t ps tries) c) (sees t c) (sees-beside t ps tries c) t.acts)
    ∙ map_agree (sight_of (beside t ps tries) c) (sight_of t c) (shown-beside t ps tries c) (seen t c)

-- ---- the whole

own-beside : (t : Town) (ps : List peers.Peer) (tries : List Attempt) (me : Option (List ℕ)) → IsSameOwn (beside t ps tries) t me
own-beside t ps tries None = tt
own-beside t ps tries (Some me) = record { count = refl; repeats = refl; blockers = λ b. refl }

agree_beside : (t : Town) (ps : List peers.Peer) (tries : List Attempt) (c : Caller) → peer_of (beside t ps tries) c ≡ peer_of t c → Agree (beside t ps tries) t c
agree_beside t ps tries c same = record {
  host = refl;
  names = refl;
  peer = same;
  view = view-beside t ps tries c;
  own = own-beside t ps tries (id_of_caller t c);
}

same_peer : (t : Town) (tries : List Attempt) (c : Caller) → peer_of (beside t t.peers tries) c ≡ peer_of t c
same_peer t tries Nobody = refl
same_peer t tries (Actor name) = refl
same_peer t tries (Peer host) = refl

other_found : (p : peers.Peer) (own : List ℕ) (found : Option peers.Peer) → bytes_eq p.host own ≡ false → option_or found (find (has_host own) (p ∷ [])) ≡ found
unfolding has_host
other_found p own None other = rw other refl
other_found p own (Some q) other = refl

one_more : (t : Town) (p : peers.Peer) (c : Caller) → is_peer_of p.host c ≡ false → peer_of (beside t (t.peers ++ p ∷ []) t.attempts) c ≡ peer_of t c
one_more t p Nobody other = refl
one_more t p (Actor name) other = refl
one_more t p (Peer own) other = find-append (has_host own) t.peers (p ∷ []) ∙ other_found p own (find (has_host own) t.peers) other

-- Adding a peer.
pub peers_alone : (history : List Entry) (host key address : List ℕ) (relay : Bool) (moment : ℕ) (c : Caller) → is_peer_of host c ≡ false
    → Agree (town (history ++ PeerSet host key address relay moment ∷ [])) (town history) c
peers_alone history host key address relay moment c other =
    let t : Town = town history in
    let p : peers.Peer = record { host = host; key = key; address = address; relay = relay } in
    subst (λ (u : Town). Agree u t c) (sym (town-push history (PeerSet host key address relay moment)))
    (agree_beside t (t.peers ++ p ∷ []) t.attempts c (one_more t p c other))

-- Adding an attempt.
pub attempts_untold : (history : List Entry) (activity recipient : List ℕ) (came : Came) (moment : ℕ) (c : Caller)
    → Agree (town (history ++ Tried activity recipient came moment ∷ [])) (town history) c
attempts_untold history activity recipient came moment c =
    let t : Town = town history in
    let a : Attempt = record { activity = activity; recipient = recipient; came = came; moment = moment } in
    subst (λ (u : Town). Agree u t c) (sym (town-push history (Tried activity recipient came moment)))
    (agree_beside t t.peers (t.attempts ++ a ∷ []) c (same_peer t (t.attempts ++ a ∷ []) c))
