-- Whoever sees the Create of an object sees its author's Updates and its Delete.
use Rattle.std.proofs.Common.{◌≡◌, ℕ, Bool, true, false, List, [], ◌∷◌, ◌++◌, Option, Some, None, refl, sym, ap, subst, ◌∙◌}
use Rattle.std.specs.Prelude.{◌&&◌, ◌||◌, not, filter, if◌then◌else◌, option_map}
use Rattle.std.specs.List.{find, flat_map, list_all, list_any}
use Rattle.std.specs.Str.{bytes_eq}
use Rattle.fedi_address.specs.declared.recipients.Recipients.{Recipients}
use Rattle.fedi_address.specs.Iris.{public_iri}
use Rattle.fedi_address.specs.Recipients.{all_of, is_among, is_public, names}
use Rattle.fedi_objects.specs.declared.activity.Activity.{Activity}
use Rattle.fedi_objects.specs.declared.entry.Entry.{Entry}
use Rattle.fedi_objects.specs.declared.entry.Entry.TheVariants.{Local}
use Rattle.fedi_town.specs.declared.act.Act.{Act}
use Rattle.fedi_town.specs.declared.act.Actor.{Actor as Member}
use Rattle.fedi_town.specs.declared.caller.Caller.{Caller}
use Rattle.fedi_town.specs.declared.caller.Caller.TheVariants.{Nobody, Actor, Peer}
use Rattle.fedi_town.specs.declared.deed.Deed.{Deed}
use Rattle.fedi_town.specs.declared.deed.Deed.TheVariants.{Create, Update, Delete, Follow, Like, Announce, Block, Accept, Reject, Undo, Other}
use Rattle.fedi_town.specs.Activities.{act_by, local_act}
use Rattle.fedi_town.specs.Addressing.{addressees, is_nobody_here, is_of_town, is_recipient, original, recipients_with}
use Rattle.fedi_town.specs.Deeds.{deed_of, is_delete, is_done, is_update}
use Rattle.fedi_town.specs.Histories.{town}
use Rattle.fedi_town.specs.Ids.{actor_id, followers_id}
use Rattle.fedi_town.specs.Legal.{IsLegal}
use Rattle.fedi_town.specs.Objects.{maker, maker_of}
use Rattle.fedi_town.specs.Relations.{follows, has_block_between, is_actor, ref_id}
use Rattle.fedi_town.specs.Seeing.{is_for_follower, sees, sees_as, sees_with}
use Rattle.fedi_town.specs.States.{state_of}
use Rattle.fedi_town.specs.Towns.{Town, empty_town, has_id, has_name, id_of, is_by}
use Rattle.fedi_town.proofs.MadeOnce.{made_once}
use Rattle.fedi_town.proofs.Once.{filter-among, once-among}
use Rattle.fedi_town.proofs.Texts.{and_none, bytes_eq-same, or_true, bytes_eq-swapped}
use Rattle.fedi_laws.proofs.Changes.{change_is_done, posts_as}
use Rattle.fedi_town.proofs.IdsTown.{found_any}
use Rattle.fedi_town.proofs.Growing.{legal_last}
use Rattle.fedi_town.proofs.Members.{is_member, not_public}
use Rattle.fedi_town.proofs.People.{id_of-is, named_is}
use Rattle.fedi_town.proofs.Sound.{IsHosted, is_set, town_sound}
use Rattle.fedi_town.proofs.Reached.{second_among}
use Rattle.fedi_laws.specs.Statements.{is_no_peer}

-- ---- who gets what the Create's readers get

also_gets : (t : Town) (author me : List ℕ) (r : Recipients) (others : List (List ℕ)) → is_recipient t author me ≡ true → is_among me others ≡ true
    → is_among me (recipients_with t author r others) ≡ true
also_gets t author me r others passes there =
    let all : List (List ℕ) = flat_map (addressees t author) (all_of r) ++ others in
    once-among me (filter (is_recipient t author) all)
    ∙ filter-among (is_recipient t author) me all passes
    ∙ second_among me (flat_map (addressees t author) (all_of r)) others there

-- a member's id is a known id
known_id : (name me : List ℕ) (xs : List Member) → option_map (λ a. a.id) (find (has_name name) xs) ≡ Some me → list_any (has_id me) xs ≡ true
unfolding has_id
known_id name me [] e = absurd cc
known_id name me (x ∷ xs) e =
    elim (has_name name x) as (λ b. option_map (λ a. a.id) (if b then Some x else find (has_name name) xs) ≡ Some me → (bytes_eq x.id me || list_any (has_id me) xs) ≡ true) [
      | true ↦ λ h. let same : x.id ≡ me = cc in rw (same, bytes_eq-same me) refl
      | false ↦ λ h. rw (known_id name me xs h) (or_true (bytes_eq x.id me))
    ] e

-- a member may get what the author sends to others if there is no Block between the two
may_get : (t : Town) (author name me : List ℕ) → bytes_eq me public_iri ≡ false → id_of t name ≡ Some me → bytes_eq author me ≡ false
    → has_block_between t me author ≡ false → is_recipient t author me ≡ true
unfolding is_recipient is_nobody_here is_actor
may_get t author name me not_all known other free =
    rw (not_all, bytes_eq-swapped author me other, known_id name me t.actors known, free, and_none (is_of_town t.host me)) refl

-- ---- who sees it

seen_by : (own block p q r more also too : Bool) → (p ≡ true → more ≡ true) → (block ≡ false → own ≡ false → q ≡ true → also ≡ true) → (r ≡ true → too ≡ true)
    → (own || (not block && (p || (q || r)))) ≡ true → (own || (not block && (more || (also || too)))) ≡ true
seen_by true block p q r more also too f g h e = refl
seen_by false true p q r more also too f g h e = absurd cc
seen_by false false true q r more also too f g h e = rw (f refl) refl
seen_by false false false true r more also too f g h e = rw (g refl refl refl) (or_true more)
seen_by false false false false true more also too f g h e = rw (h refl, or_true also) (or_true more)
seen_by false false false false false more also too f g h e = absurd cc

while_following : (p more following : Bool) → (p ≡ true → more ≡ true) → (p && following) ≡ true → (more && following) ≡ true
while_following true more following f e = rw (f refl) e
while_following false more following f e = absurd cc

seen_as : (t : Town) (me : List ℕ) (m x : Act) → x.author ≡ m.author → (m.is_public ≡ true → x.is_public ≡ true)
    → (has_block_between t me m.author ≡ false → is_by me m ≡ false → is_among me m.recipients ≡ true → is_among me x.recipients ≡ true)
    → (m.for_followers ≡ true → x.for_followers ≡ true) → sees_as t me m ≡ true → sees_as t me x ≡ true
unfolding sees_as is_by is_for_follower
seen_as t me m x same public gets follower seen =
    rw same (seen_by (is_by me m) (has_block_between t me m.author)
    m.is_public (is_among me m.recipients) (m.for_followers && follows t me m.author)
    x.is_public (is_among me x.recipients) (x.for_followers && follows t me m.author)
    public gets (while_following m.for_followers x.for_followers (follows t me m.author) follower) seen)

-- ---- an Update or a Delete

original_is : (t : Town) (d : Deed) (id : Option (List ℕ)) → (is_update d || is_delete d) ≡ true → original t d id ≡ maker_of t id
original_is t Create id e = absurd cc
original_is t Update id e = refl
original_is t Delete id e = refl
original_is t Follow id e = absurd cc
original_is t Like id e = absurd cc
original_is t Announce id e = absurd cc
original_is t Block id e = absurd cc
original_is t Accept id e = absurd cc
original_is t Reject id e = absurd cc
original_is t Undo id e = absurd cc
original_is t Other id e = absurd cc

-- what is known of an Update or a Delete, by its author, of what m made, that was done
record IsChange (t : Town) (author : List ℕ) (b : Activity) (m : Act) : Type 0 where
  of : original t (deed_of b.kind) (ref_id b.object) ≡ Some m
  by : m.author ≡ author
  done : is_done (state_of t true author (deed_of b.kind) b.object) ≡ true

is_open_too : (t : Town) (author : List ℕ) (repeat : Option (List ℕ × List ℕ)) (moment : ℕ) (b : Activity) (m : Act) → IsChange t author b m
    → m.is_public ≡ true → (act_by t author repeat moment b).is_public ≡ true
is_open_too t author repeat moment b m is public = rw (is.of, public) (or_true (is_public b.recipients))

goes_too : (t : Town) (author : List ℕ) (repeat : Option (List ℕ × List ℕ)) (moment : ℕ) (b : Activity) (m : Act) (me : List ℕ) → IsChange t author b m
    → is_recipient t author me ≡ true → is_among me m.recipients ≡ true → is_among me (act_by t author repeat moment b).recipients ≡ true
goes_too t author repeat moment b m me is passes there = rw is.of (also_gets t author me b.recipients m.recipients passes there)

for_followers_too : (t : Town) (author : List ℕ) (repeat : Option (List ℕ × List ℕ)) (moment : ℕ) (b : Activity) (m : Act) → IsChange t author b m
    → m.for_followers ≡ true → (act_by t author repeat moment b).for_followers ≡ true
for_followers_too t author repeat moment b m is followers = rw (is.of, is.done, followers) (or_true (names b.recipients (followers_id author)))

reader_of : (t : Town) (author : List ℕ) (repeat : Option (List ℕ × List ℕ)) (moment : ℕ) (b : Activity) (m : Act) (name : List ℕ) (id : Option (List ℕ)) → IsChange t author b m
    → id_of t name ≡ id → ((me : List ℕ) → id ≡ Some me → bytes_eq me public_iri ≡ false)
    → sees_with t id m ≡ true → sees_with t id (act_by t author repeat moment b) ≡ true
unfolding is_by
reader_of t author repeat moment b m name None is known not_all seen = is_open_too t author repeat moment b m is seen
reader_of t author repeat moment b m name (Some me) is known not_all seen =
    seen_as t me m (act_by t author repeat moment b) (sym is.by) (is_open_too t author repeat moment b m is)
    (λ free other there. goes_too t author repeat moment b m me is
    (may_get t author name me (not_all me refl) known (rw is.by at other) (rw is.by at free)) there)
    (for_followers_too t author repeat moment b m is) seen

reader_is : (t : Town) (author : List ℕ) (repeat : Option (List ℕ × List ℕ)) (moment : ℕ) (b : Activity) (m : Act) (c : Caller) → IsChange t author b m → is_no_peer c ≡ true
    → ((name me : List ℕ) → id_of t name ≡ Some me → bytes_eq me public_iri ≡ false) → sees t c m ≡ true → sees t c (act_by t author repeat moment b) ≡ true
unfolding sees
reader_is t author repeat moment b m Nobody is here not_all seen = is_open_too t author repeat moment b m is seen
reader_is t author repeat moment b m (Actor name) is here not_all seen = reader_of t author repeat moment b m name (id_of t name) is refl (not_all name) seen
reader_is t author repeat moment b m (Peer host) is here not_all seen = absurd cc

-- each member is a member of this host
members_here : (history : List Entry) (host : List ℕ) → IsLegal history → (town history).host ≡ Some host → list_all (is_member (Some host)) (town history).actors ≡ true
members_here history host legal hosted =
    let s : IsHosted (town history) = town_sound history legal in
    subst (λ (k : Option (List ℕ)). list_all (is_member k) (town history).actors ≡ true) hosted s.sound.members

-- no member's id is Public
not_everybody : (history : List Entry) (host name me : List ℕ) → IsLegal history → (town history).host ≡ Some host → id_of (town history) name ≡ Some me
    → bytes_eq me public_iri ≡ false
not_everybody history host name me legal hosted known =
    let t : Town = town history in
    let s : IsHosted t = town_sound history legal in
    let all : list_all (is_member (Some host)) t.actors ≡ true = members_here history host legal hosted in
    rw (id_of-is t host name me all known)
    (not_public host name (subst (λ (k : Option (List ℕ)). is_set k ≡ true) hosted s.host)
    (named_is name (Some host) t.actors all (found_any (has_name name) t.actors me known)))

-- Whoever sees the Create of an object sees its author's Updates and its Delete.
pub changes_are_seen : (history : List Entry) (host name id : List ℕ) (repeat : Option (List ℕ × List ℕ)) (a : Activity) (moment : ℕ) (m : Act) (c : Caller)
    → IsLegal (history ++ Local name repeat a moment ∷ []) → (town history).host ≡ Some host → (is_update (deed_of a.kind) || is_delete (deed_of a.kind)) ≡ true
    → ref_id (local_act (town history) host name repeat a moment).activity.object ≡ Some id → maker (town history) id ≡ Some m → m.author ≡ actor_id host name
    → is_no_peer c ≡ true → sees (town history) c m ≡ true → sees (town history) c (local_act (town history) host name repeat a moment) ≡ true
changes_are_seen history host name id repeat a moment m c legal hosted changes about made own here seen =
    let t : Town = town history in
    let x : Act = local_act t host name repeat a moment in
    let parts = legal_last history empty_town (Local name repeat a moment) legal.admissible in
    let before : IsLegal history = record { admissible = parts.0 } in
    let posted = posts_as t host name repeat a (id_of t name) (members_here history host before hosted) refl parts.1 in
    reader_is t (actor_id host name) repeat moment x.activity m c
    (record {
      of = original_is t (deed_of a.kind) (ref_id x.activity.object) changes ∙ ap (maker_of t) about ∙ made;
      by = own;
      done = change_is_done t host name id repeat a moment m changes (made_once history id) about made posted;
    })
    here (λ n me known. not_everybody history host n me before hosted known) seen
