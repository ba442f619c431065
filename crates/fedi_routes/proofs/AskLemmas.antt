-- A request asks for at most one thing, which holds only what may be posted.
use Rattle.std.proofs.Common.{◌≡◌, ℕ, List, Bool, true, false, Option, Some, None, Ok, Err, inl, inr, refl, sym, ◌∙◌, ap, subst}
use Rattle.std.specs.Prelude.{Result, IfOk, MatchBool, if◌then◌else◌}
use Rattle.serde_json.specs.Data.{Data}
use Rattle.fedi_model.specs.declared.ask.Ask.{Ask}
use Rattle.fedi_model.specs.declared.ask.Ask.TheVariants.{Outbox, Inbox}
use Rattle.fedi_model.specs.declared.post.KeyAsk.{KeyAsk}
use Rattle.fedi_model.specs.declared.post.Post.{Post}
use Rattle.fedi_model.specs.declared.post.Read.{Read}
use Rattle.fedi_model.specs.declared.post.Read.TheVariants.{NotJson, Bad, Ready}
use Rattle.fedi_model.specs.Asks.{IsRead, IsReadFor}
use Rattle.fedi_town.specs.Shapes.{is_posted, is_delivered}
use Rattle.fedi_town.specs.Histories.{town}
use Rattle.fedi_town.specs.Ids.{actor_id}
use Rattle.fedi_town.specs.Towns.{id_of}
use Rattle.fedi_town.specs.declared.caller.Caller.{Caller}
use Rattle.fedi_town.specs.declared.caller.Which.TheVariants as which
use Rattle.fedi_objects.specs.declared.activity.Activity as activities
use Rattle.fedi_reading.specs.Activities.{reads_activity}
use Rattle.fedi_reading.specs.Deliveries.{reads_delivered}
use Rattle.fedi_reading.specs.declared.shape_fault.ShapeFault.{ShapeFault}
use Rattle.fedi_town.proofs.Naming.{members_have_ids}
use Rattle.fedi_model.proofs.Delivered.{delivery_is_delivered}
use Rattle.fedi_model.proofs.PostedActivity.{activity_is_posted}
use Rattle.fedi_model.specs.Requests.{is_post, is_reading}
use Rattle.fedi_model.specs.Routes.{path_of, digest_under, no_digest, is_post_read, is_delivery_read, ReadsBody, ReadsIf, IsPost, IsDelivery, read_at, refused_at, PostsAs, DeliversTo, PostsTo, AsksAt, IsAskedOnce, IsPostableAt}
use Rattle.fedi_model.specs.Queries.{query_of}
use Rattle.fedi_model.specs.declared.place.Place.{Place}
use Rattle.fedi_model.specs.declared.place.Place.TheVariants.{Webfinger, Actor, Collection, Board, Activity, Object}
use Rattle.fedi_model.specs.declared.request.Request.{Request}
use Rattle.fedi_routes.proofs.PlaceLemmas.{place_once}

-- ---- posts

body_once : (reads : Data → Result activities.Activity ShapeFault) (body : List ℕ) (x y : Read) → ReadsBody reads body x → ReadsBody reads body y → x ≡ y
body_once reads body NotJson NotJson x y = refl
body_once reads body NotJson (Bad fault) x y = absurd (x y.0 y.1)
body_once reads body NotJson (Ready a) x y = absurd (x y.0 y.1)
body_once reads body (Bad fault) NotJson x y = absurd (y x.0 x.1)
body_once reads body (Ready a) NotJson x y = absurd (y x.0 x.1)
body_once reads body (Bad fault) (Bad other) x y = cc
body_once reads body (Bad fault) (Ready a) x y = cc
body_once reads body (Ready a) (Bad fault) x y = cc
body_once reads body (Ready a) (Ready other) x y = cc

read_once : (read : Bool) (reads : Data → Result activities.Activity ShapeFault) (body : List ℕ)
    (x y : Read) → ReadsIf read reads body x → ReadsIf read reads body y → x ≡ y
read_once true reads body x y h k = body_once reads body x y h k
read_once false reads body x y h k = h ∙ sym k

abbrev post_with : Bool → KeyAsk → List ℕ → Read → Post
post_with typed key digest read = record { is_typed = typed; key = key; digest = digest; read = read }

same_post : (x y : Post) → x.is_typed ≡ y.is_typed → x.key ≡ y.key → x.digest ≡ y.digest → x.read ≡ y.read → x ≡ y
same_post x y typed key digest read =
    let same : post_with x.is_typed x.key x.digest x.read ≡ post_with y.is_typed y.key y.digest y.read = cc in same

post_once : (c : Caller) (name : List ℕ) (q : Request) (author body : List ℕ) (x y : Post)
    → IsPost c name q author body x → IsPost c name q author body y → x ≡ y
post_once c name q author body x y a b =
    let key : x.key ≡ y.key = a.key ∙ sym b.key in
    let digest = a.digest ∙ ap (λ (k : KeyAsk).
    if is_post_read c name q.fields then digest_under k body else no_digest) key ∙ sym b.digest in
    same_post x y (a.typed ∙ sym b.typed) key digest
    (read_once (is_post_read c name q.fields) (reads_activity author) body x.read y.read a.read b.read)

delivery_once : (c : Caller) (q : Request) (body : List ℕ) (x y : Post) → IsDelivery c q body x
    → IsDelivery c q body y → x ≡ y
delivery_once c q body x y a b =
    same_post x y (a.typed ∙ sym b.typed) (a.key ∙ sym b.key) (a.digest ∙ sym b.digest)
    (read_once (is_delivery_read c q.fields) reads_delivered body x.read y.read a.read b.read)

-- an activity that was read passes every test that all the activities that the reading gives pass
body_passes : (reads : Data → Result activities.Activity ShapeFault) (test : activities.Activity → Bool) → ((d : Data) (a : activities.Activity) → reads d ≡ Ok a → test a ≡ true)
    → (body : List ℕ) (read : Read) → ReadsBody reads body read → IsRead test read
body_passes reads test passes body NotJson h = tt
body_passes reads test passes body (Bad fault) h = tt
body_passes reads test passes body (Ready a) h = passes h.0 a h.2

read_passes : (known : Bool) (reads : Data → Result activities.Activity ShapeFault)
    (test : activities.Activity → Bool)
    → ((d : Data) (a : activities.Activity) → reads d ≡ Ok a → test a ≡ true)
    → (body : List ℕ) (read : Read) → ReadsIf known reads body read → IsRead test read
read_passes true reads test passes body read h = body_passes reads test passes body read h
read_passes false reads test passes body read h = subst (λ (r : Read). IsRead test r) (sym h) tt

pub read_for : (author : List ℕ) (id : Option (List ℕ)) (read : Read) → ((own : List ℕ) → id ≡ Some own → own ≡ author)
    → IsRead (is_posted author) read → IsReadFor id read
read_for author None read same h = tt
read_for author (Some own) read same h = subst (λ (a : List ℕ). IsRead (is_posted a) read) (sym (same own refl)) h

-- ---- asks

-- what a read at a place asks for holds nothing but what was read of a post
read_at_postable : (host : Option (List ℕ)) (query : List ℕ) (there : Place) → IsPostableAt host (read_at host query there)
read_at_postable host query Webfinger = λ h legal hosted. tt
read_at_postable host query (Actor name) = λ h legal hosted. tt
read_at_postable host query (Collection which) = λ h legal hosted. tt
read_at_postable host query (Board name slug) = λ h legal hosted. tt
read_at_postable host query (Activity name number) = λ h legal hosted. tt
read_at_postable host query (Object name number) = λ h legal hosted. tt

refused_postable : (host : Option (List ℕ)) (there : Place) → IsPostableAt host (refused_at there)
refused_postable host there = λ h legal hosted. tt

outbox_postable : (host : List ℕ) (c : Caller) (q : Request) (body name : List ℕ) (post : Post) → IsPost c name q (actor_id host name) body post
    → IsPostableAt (Some host) (Outbox name post)
outbox_postable host c q body name post h = λ history legal hosted.
    read_for (actor_id host name) (id_of (town history) name) post.read
    (λ own is. (members_have_ids history host name own legal hosted is).1)
    (read_passes (is_post_read c name q.fields) (reads_activity (actor_id host name)) (is_posted (actor_id host name)) (λ d a is. activity_is_posted d a (actor_id host name) is)
    body post.read h.read)

inbox_postable : (host : Option (List ℕ)) (c : Caller) (q : Request) (body name : List ℕ) (post : Post) → IsDelivery c q body post → IsPostableAt host (Inbox name post)
inbox_postable host c q body name post h = λ history legal hosted.
    read_passes (is_delivery_read c q.fields) reads_delivered is_delivered delivery_is_delivered body
    post.read h.read

posted_as : (host : Option (List ℕ)) (c : Caller) (q : Request) (body name : List ℕ) (ask : Ask) → PostsAs host c q body name ask → IsPostableAt host ask
posted_as None c q body name ask h = subst (IsPostableAt None) (sym h) (λ h legal hosted. tt)
posted_as (Some host) c q body name ask h = subst (IsPostableAt (Some host)) (sym h.2) (outbox_postable host c q body name h.0 h.1)

posted_postable : (host : Option (List ℕ)) (c : Caller) (q : Request) (body : List ℕ) (there : Place) (ask : Ask) → PostsTo host c q body there ask → IsPostableAt host ask
posted_postable host c q body (Collection (which.Outbox name)) ask h = posted_as host c q body name ask h
posted_postable host c q body (Collection (which.Inbox name)) ask h = subst (IsPostableAt host) (sym h.2) (inbox_postable host c q body name h.0 h.1)
posted_postable host c q body there ask h = subst (IsPostableAt host) (sym h) (refused_postable host there)

postable_at : (host : Option (List ℕ)) (c : Caller) (q : Request) (body : List ℕ) (there : Place) (ask : Ask) → AsksAt host c q body there ask → IsPostableAt host ask
postable_at host c q body there ask = by (is_reading q.method) (is_post q.method)
  where
    by : (reads posts : Bool) → MatchBool reads (ask ≡ read_at host (query_of q.target) there)
        (MatchBool posts (PostsTo host c q body there ask) (ask ≡ refused_at there)) → IsPostableAt host ask
    by true posts h = subst (IsPostableAt host) (sym h) (read_at_postable host (query_of q.target) there)
    by false true h = posted_postable host c q body there ask h
    by false false h = subst (IsPostableAt host) (sym h) (refused_postable host there)

pub postable : {E : Type 0} (host : Option (List ℕ)) (c : Caller) (q : Request) (body : List ℕ) (there : Place) (r : Result Ask E)
    → IfOk r (λ ask. AsksAt host c q body there ask) → IfOk r (λ ask. IsPostableAt host ask)
postable host c q body there (Ok ask) h = postable_at host c q body there ask h
postable host c q body there (Err e) h = tt

-- ---- one request, one ask

outbox_once : (host : Option (List ℕ)) (c : Caller) (q : Request) (body name : List ℕ) (a b : Ask) → PostsAs host c q body name a → PostsAs host c q body name b → a ≡ b
outbox_once None c q body name a b x y = x ∙ sym y
outbox_once (Some host) c q body name a b x y =
    x.2 ∙ (ap (λ (p : Post). Outbox name p) (post_once c name q (actor_id host name) body x.0 y.0 x.1 y.1) ∙ sym y.2)

inbox_once : (c : Caller) (q : Request) (body name : List ℕ) (a b : Ask) → DeliversTo c q body name a → DeliversTo c q body name b → a ≡ b
inbox_once c q body name a b x y = x.2 ∙ (ap (λ (p : Post). Inbox name p) (delivery_once c q body x.0 y.0 x.1 y.1) ∙ sym y.2)

posted_once : (host : Option (List ℕ)) (c : Caller) (q : Request) (body : List ℕ) (there : Place) (a b : Ask) → PostsTo host c q body there a
    → PostsTo host c q body there b → a ≡ b
posted_once host c q body (Collection (which.Outbox name)) a b x y = outbox_once host c q body name a b x y
posted_once host c q body (Collection (which.Inbox name)) a b x y = inbox_once c q body name a b x y
posted_once host c q body there a b x y = x ∙ sym y

once_at : (host : Option (List ℕ)) (c : Caller) (q : Request) (body : List ℕ) (there : Place) (a b : Ask) → AsksAt host c q body there a → AsksAt host c q body there b → a ≡ b
once_at host c q body there a b = by (is_reading q.method) (is_post q.method)
  where
    by : (reads posts : Bool) → MatchBool reads (a ≡ read_at host (query_of q.target) there)
        (MatchBool posts (PostsTo host c q body there a) (a ≡ refused_at there))
        → MatchBool reads (b ≡ read_at host (query_of q.target) there)
        (MatchBool posts (PostsTo host c q body there b) (b ≡ refused_at there)) → a ≡ b
    by true posts x y = x ∙ sym y
    by false true x y = posted_once host c q body there a b x y
    by false false x y = x ∙ sym y

pub asked_once : (host : Option (List ℕ)) (c : Caller) (q : Request) (body : List ℕ) → IsAskedOnce host c q body
asked_once host c q body a b (inl x) (inl y) = x.1 ∙ sym y.1
asked_once host c q body a b (inl x) (inr y) = absurd (x.0 y.0 y.1)
asked_once host c q body a b (inr x) (inl y) = absurd (y.0 x.0 x.1)
asked_once host c q body a b (inr x) (inr y) =
    let same : y.0 ≡ x.0 = place_once (path_of q.target) y.0 x.0 y.1 x.1 in
    once_at host c q body x.0 a b x.2 (rw same at y.2)
