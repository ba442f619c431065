-- Where an activity of some server's history comes from, in a world.
use Rattle.std.proofs.Common.{◌≡◌, ℕ, zero, suc, Bool, true, false, List, [], ◌∷◌, ◌++◌, Option}
use Rattle.std.proofs.Common.{Some, None, refl, sym, ◌∙◌, subst, ⊎_elim}
use Rattle.std.specs.Prelude.{slice_get, MatchBool, Ok, codes, nat_eq}
use Rattle.std.proofs.lemmas.Bool.{and_parts}
use Rattle.std.specs.List.{list_any, starts_with}
use Rattle.std.specs.Str.{bytes_eq}
use Rattle.serde_json.specs.Data.{Data}
use Rattle.fedi_address.specs.Iris.{host_of}
use Rattle.fedi_objects.specs.declared.activity.Activity.{Activity}
use Rattle.fedi_objects.specs.declared.entry.Entry.{Entry}
use Rattle.fedi_objects.specs.declared.entry.Entry.TheVariants.{Remote}
use Rattle.fedi_reading.specs.Deliveries.{reads_delivered}
use Rattle.fedi_town.specs.declared.act.Act.{Act}
use Rattle.fedi_town.specs.Addressing.{is_of_town}
use Rattle.fedi_town.specs.Histories.{town}
use Rattle.fedi_town.specs.Ids.{is_of_host}
use Rattle.fedi_town.specs.Legal.{IsLegal}
use Rattle.fedi_town.specs.Lists.{PassesOnce}
use Rattle.fedi_town.specs.Relations.{has_activity_id}
use Rattle.fedi_town.proofs.IdsTown.{town_ids}
use Rattle.fedi_town.proofs.Lists.{got_any}
use Rattle.fedi_town.proofs.Texts.{bytes_eq-is, bytes_eq-same}
use Rattle.fedi_worlds.specs.Promises.{Somewhere, HasOrigin, IsReadingOf, IsAccepted, IsRelay}
use Rattle.fedi_worlds.specs.Worlds.{Server, World}
use Rattle.fedi_worlds.proofs.Sites.{IsSite}
use Rattle.fedi_worlds.proofs.Shown.{document_of, document_is}
use Rattle.fedi_worlds.proofs.Invariant.{IsOwn, IsTaken, IsWorld}
use Rattle.fedi_worlds.proofs.Local.{Locals, IsSameActivity}
use Rattle.fedi_worlds.proofs.Places.{stays}

-- ---- one activity has an id

pub once_is : {A : Type 0} (p : A → Bool) (xs : List A) → PassesOnce p xs → (j k : ℕ) (x y : A)
    → slice_get xs j ≡ Some x → slice_get xs k ≡ Some y
    → p x ≡ true → p y ≡ true → x ≡ y
once_is p [] once j k x y a b h i = absurd cc
once_is p (z ∷ xs) once zero zero x y a b h i = cc
once_is p (z ∷ xs) once zero (suc k) x y a b h i =
    let same : z ≡ x = cc in
    let none : list_any p xs ≡ false = once.0 (rw same h) in
    let some : list_any p xs ≡ true = got_any p xs k y b i in absurd cc
once_is p (z ∷ xs) once (suc j) zero x y a b h i =
    let same : z ≡ y = cc in
    let none : list_any p xs ≡ false = once.0 (rw same i) in
    let some : list_any p xs ≡ true = got_any p xs j x a h in absurd cc
once_is p (z ∷ xs) once (suc j) (suc k) x y a b h i = once_is p xs once.1 j k x y a b h i

has_id : (id : List ℕ) (x : Act) → x.activity.id ≡ Some id → has_activity_id id x ≡ true
unfolding has_activity_id
has_id id x e = rw e (bytes_eq-same id)

pub one_act : (h : List Entry) (id : List ℕ) (j k : ℕ) (x y : Act) → IsLegal h
    → slice_get (town h).acts j ≡ Some x → slice_get (town h).acts k ≡ Some y
    → x.activity.id ≡ Some id → y.activity.id ≡ Some id → x ≡ y
one_act h id j k x y legal a b p q =
    once_is (has_activity_id id) (town h).acts (town_ids h legal id) j k x y a b (has_id id x p)
    (has_id id y q)

-- ---- activities of a server's own members

-- an IRI of the town is at its host
pub at_host : (host iri : List ℕ) → is_of_town (Some host) iri ≡ true → host_of iri ≡ host
unfolding is_of_host
at_host host iri e =
    bytes_eq-is (host_of iri) host
    (and_parts (starts_with nat_eq iri (codes "https://")) (bytes_eq (host_of iri) host) e).1

-- an activity that is accepted from a member is the member's own
pub own_is : (l : Locals) (h : List Entry) (host : List ℕ) (k : ℕ) (x : Act) → IsLegal h
    → (town h).host ≡ Some host → slice_get (town h).acts k ≡ Some x
    → is_of_town (town h).host x.author ≡ true → IsOwn host x
own_is l h host k x legal hosted at own =
    ⊎_elim (λ (o : IsOwn host x). o)
    (λ (t : IsTaken host h x).
    let here : host_of x.author ≡ host =
    at_host host x.author
    (subst (λ (o : Option (List ℕ)). is_of_town o x.author ≡ true) hosted own) in
    let same : bytes_eq (host_of x.author) host ≡ true = rw here (bytes_eq-same host) in
    let other : bytes_eq (host_of x.author) host ≡ false = t.away in absurd cc)
    (l.rooted h host legal hosted k x at).from

pub own_near : (l : Locals) (host : List ℕ) (x : Act) → IsSite host → IsOwn host x
    → (host_of x.author ≡ host) × (is_of_town (Some host) x.author ≡ true)
own_near l host x shape o =
    subst (λ (a : List ℕ). (host_of a ≡ host) × (is_of_town (Some host) a ≡ true)) (sym o.author)
    (l.near host o.name shape o.named)

-- a town that has activities of its own was set up
is_set : (host : Option (List ℕ)) (iri : List ℕ) → is_of_town host iri ≡ true
    → (own : List ℕ) × (host ≡ Some own)
is_set None iri e = absurd cc
is_set (Some own) iri e = (own, refl)

-- for the host that it has later
host_before : (seen later : List Entry) (host : List ℕ)
    → ((own : List ℕ) × ((town seen).host ≡ Some own))
    → ((own : List ℕ) → (town seen).host ≡ Some own → (town (seen ++ later)).host ≡ Some own)
    → (town (seen ++ later)).host ≡ Some host → (town seen).host ≡ Some host
host_before seen later host own stay at =
    let both : Some own.0 ≡ Some host = sym (stay own.0 own.1) ∙ at in own.1 ∙ both

-- ---- the origin of an activity

-- some server accepted the activity from its own member
pub record HasRoot (servers : List Server) (x : Act) : Type 0 where
  pub host : List ℕ
  pub shape : IsSite host
  pub own : IsOwn host x
  pub at : host_of x.author ≡ host
  pub somewhere : Somewhere servers host (λ g. IsAccepted g x.activity.id x.author x.activity.kind)

-- the same id, author and kind as a member's activity there
as_own : (host : List ℕ) (x y : Act) → y.activity.id ≡ x.activity.id → y.author ≡ x.author
    → IsOwn host y → IsOwn host x
as_own host x y id author o = record {
  name = o.name;
  number = o.number;
  named = o.named;
  small = o.small;
  author = sym author ∙ o.author;
  id = sym id ∙ o.id;
}

-- what was accepted from a member, with this id, author and kind
of_accepted : (l : Locals) (w : World) → IsWorld w
    → (x : Act) (host : List ℕ) (id : Option (List ℕ))
    → Somewhere w.servers host (λ g. IsAccepted g id x.author x.activity.kind)
    → id ≡ x.activity.id → HasRoot w.servers x
of_accepted l w i x host id s same =
    let r = s.fact in
    let server = i.servers s.number s.server s.there in
    let whole : IsLegal (r.seen ++ r.later) = subst IsLegal r.is server.legal in
    let legal : IsLegal r.seen = l.fronts r.seen r.later whole in
    let hosted : (town r.seen).host ≡ Some s.server.host =
    host_before r.seen r.later s.server.host (is_set (town r.seen).host r.act.author r.own)
    (λ own h. l.hosts r.seen r.later own whole h)
    (subst (λ (g : List Entry). (town g).host ≡ Some s.server.host) r.is server.host) in
    let mine : IsOwn s.server.host r.act =
    own_is l r.seen s.server.host r.place r.act legal hosted r.there r.own in
    let own : IsOwn s.server.host x =
    as_own s.server.host x r.act (r.id_is ∙ same) r.author_is mine in
    record {
      host = s.server.host;
      shape = server.shape;
      own = own;
      at = (own_near l s.server.host x server.shape own).0;
      somewhere = record {
        number = s.number;
        server = s.server;
        there = s.there;
        host_is = refl;
        fact =
            subst (λ (o : Option (List ℕ)). IsAccepted s.server.history o x.author x.activity.kind)
            same r;
      };
    }

-- what is read of an activity of its own server
of_reading : (l : Locals) (w : World) → IsWorld w → (host owner : List ℕ) (a : Activity)
    → Somewhere w.servers host (λ g. IsReadingOf g owner a)
    → (actor : List ℕ) → a.actor ≡ Some actor
    → Somewhere w.servers host (λ g. IsAccepted g a.id actor a.kind)
of_reading l w i host owner a s actor by =
    let r = s.fact in
    let server = i.servers s.number s.server s.there in
    let whole : IsLegal (r.seen ++ r.later) = subst IsLegal r.is server.legal in
    let legal : IsLegal r.seen = l.fronts r.seen r.later whole in
    let hosted : (town r.seen).host ≡ Some s.server.host =
    host_before r.seen r.later s.server.host (is_set (town r.seen).host r.act.author r.own)
    (λ own h. l.hosts r.seen r.later own whole h)
    (subst (λ (g : List Entry). (town g).host ≡ Some s.server.host) r.is server.host) in
    let mine : IsOwn s.server.host r.act =
    own_is l r.seen s.server.host r.place r.act legal hosted r.there r.own in
    let read : reads_delivered (document_of (town r.seen) r.act) ≡ Ok a =
    subst (λ (d : Data). reads_delivered d ≡ Ok a)
    (document_is (town r.seen) r.act r.document r.shown) r.reads in
    let same : IsSameActivity r.act a =
    l.reads (town r.seen) s.server.host r.act a server.shape mine read in
    let author : r.act.author ≡ actor =
    let both : Some r.act.author ≡ Some actor = sym same.actor ∙ by in cc in
    record {
      number = s.number;
      server = s.server;
      there = s.there;
      host_is = s.host_is;
      fact = record {
        seen = r.seen;
        later = r.later;
        is = r.is;
        place = r.place;
        act = r.act;
        there = r.there;
        own = r.own;
        id_is = sym same.id;
        author_is = author;
        kind_is = sym same.kind;
      };
    }

-- of an activity that was delivered
root_by : (l : Locals) (w : World) → IsWorld w
    → (x : Act) (peer inbox : List ℕ) (h : List Entry) (a : Activity)
    → HasOrigin w.servers h peer inbox a
    → a.id ≡ x.activity.id → a.actor ≡ Some x.author → a.kind ≡ x.activity.kind
    → HasRoot w.servers x
root_by l w i x peer inbox h a o id actor kind =
    let author : o.actor ≡ x.author =
    let both : Some o.actor ≡ Some x.author = sym o.by ∙ actor in cc in
    let done : (host : List ℕ) → Somewhere w.servers host (λ g. IsAccepted g a.id o.actor a.kind)
    → HasRoot w.servers x =
    λ host s. of_accepted l w i x host a.id
    (subst (λ (b : List ℕ). Somewhere w.servers host (λ g. IsAccepted g a.id b x.activity.kind))
    author
    (subst (λ k. Somewhere w.servers host (λ g. IsAccepted g a.id o.actor k)) kind s)) id in
    elim (bytes_eq peer (host_of o.actor)) as
    (λ b. MatchBool b (Somewhere w.servers peer (λ g. IsReadingOf g o.owner a))
    (IsRelay (town h) peer
    × Somewhere w.servers (host_of o.actor) (λ g. IsAccepted g a.id o.actor a.kind))
    → HasRoot w.servers x) [
      | true ↦ λ s. done peer (of_reading l w i peer o.owner a s o.actor o.by)
      | false ↦ λ s. done (host_of o.actor) s.1
    ] o.from

-- of an activity that a server had at some point
pub root_of : (l : Locals) (w : World) → IsWorld w → (n : ℕ) (s : Server)
    → slice_get w.servers n ≡ Some s → (seen later : List Entry) → s.history ≡ seen ++ later
    → (town seen).host ≡ Some s.host → (k : ℕ) (x : Act) → slice_get (town seen).acts k ≡ Some x
    → HasRoot w.servers x
root_of l w i n s there seen later is hosted k x at =
    let server = i.servers n s there in
    let legal : IsLegal seen = l.fronts seen later (subst IsLegal is server.legal) in
    let rooted = l.rooted seen s.host legal hosted k x at in
    ⊎_elim
    (λ (o : IsOwn s.host x).
    let near = own_near l s.host x server.shape o in
    record {
      host = s.host;
      shape = server.shape;
      own = o;
      at = near.0;
      somewhere = record {
        number = n;
        server = s;
        there = there;
        host_is = refl;
        fact = record {
          seen = seen;
          later = later;
          is = is;
          place = k;
          act = x;
          there = at;
          own = subst (λ (h : Option (List ℕ)). is_of_town h x.author ≡ true) (sym hosted) near.1;
          id_is = refl;
          author_is = refl;
          kind_is = refl;
        };
      };
    })
    (λ (t : IsTaken s.host seen x).
    let old : slice_get s.history t.place ≡ Some (Remote t.peer t.inbox t.a t.moment) =
    subst (λ (h : List Entry). slice_get h t.place ≡ Some (Remote t.peer t.inbox t.a t.moment))
    (sym is) (stays seen later t.place _ t.there) in
    root_by l w i x t.peer t.inbox s.history t.a
    (i.origins n t.place s t.peer t.inbox t.a t.moment there old) t.id t.actor t.kind)
    rooted.from
