-- A post that is answered at its recipient's server.
use Rattle.std.proofs.Common.{◌≡◌, ℕ, ◌<◌, Bool, true, false, List, [], ◌∷◌, ◌++◌, length, Option}
use Rattle.std.proofs.Common.{Some, None, refl, sym, ap, ◌∙◌, subst, inl, inr, ⊎_elim, append_assoc}
use Rattle.std.proofs.Common.{append-nil, arith}
use Rattle.std.specs.Prelude.{◌⊎◌, ◌&&◌, not, codes, map, option_map, IsTrue, Ok, Err, Result}
use Rattle.std.specs.Prelude.{if◌then◌else◌, take, ◌==◌, slice_index, nat_le}
use Rattle.std.specs.List.{list_any, list_all, find, before_first, position_or_len}
use Rattle.std.specs.Str as str
use Rattle.std.proofs.lemmas.Bool.{and_parts, not-true}
use Rattle.std.proofs.lemmas.Bool.Decides.{nat_tests}
use Rattle.std.proofs.lemmas.List.{take_all}
use Rattle.fedi_address.specs.Hosts.{is_path_byte}
use Rattle.std.proofs.lemmas.List.Folds.{list_any-append}
use Rattle.serde_json.specs.Data.{Data}
use Rattle.fedi_address.specs.Iris.{host_of, target_of}
use Rattle.fedi_address.specs.Names.{is_name}
use Rattle.fedi_address.specs.Recipients.{is_among}
use Rattle.fedi_delivery.specs.Deliveries.{body_of, post_by, peer_for}
use Rattle.fedi_delivery.specs.Sending.{post_text, post_request}
use Rattle.fedi_model.specs.declared.ask.Ask.{Ask}
use Rattle.fedi_model.specs.declared.ask.Ask.TheVariants.{Nowhere, Inbox}
use Rattle.fedi_model.specs.declared.place.Place.{Place}
use Rattle.fedi_model.specs.declared.place.Place.TheVariants as places
use Rattle.fedi_model.specs.declared.post.Post.{Post}
use Rattle.fedi_model.specs.declared.post.Read.{Read}
use Rattle.fedi_model.specs.declared.post.Read.TheVariants.{NotJson, Bad, Ready}
use Rattle.fedi_model.specs.declared.reply.Reply.{Reply}
use Rattle.fedi_model.specs.declared.request.Request.{Request}
use Rattle.fedi_model.specs.AnswerKinds.{Refuse, Accepted}
use Rattle.fedi_model.specs.Answers.{AnswersTo, caller_of}
use Rattle.fedi_model.specs.Asks.{entry_of}
use Rattle.fedi_model.specs.Callers.{caller_among, caller_by, peer_or_refused, is_signed}
use Rattle.fedi_model.specs.Credentials.{Shows, Mac, Signature, credentials_by, credentials_of}
use Rattle.fedi_model.specs.Credentials.{signature_of, signed_by, code_of}
use Rattle.fedi_model.specs.Posting.{Judgement, Stop, Repeat, Keep, by_steps, judge_delivery}
use Rattle.fedi_model.specs.Posting.{judge_inbox, is_there, answer_delivery, delivery_answer}
use Rattle.fedi_model.specs.Posting.{inbox_entry, inbox_entry_at}
use Rattle.fedi_model.specs.Reading.{is_nobody, is_peer}
use Rattle.fedi_model.specs.Refusing.{refused}
use Rattle.fedi_model.specs.Replies.{reply, reply_of}
use Rattle.fedi_model.specs.Requests.{is_reading, is_post}
use Rattle.fedi_model.specs.Routes.{Asks, AsksAt, DeliversTo, IsDelivery, ReadsBody, ReadsIf}
use Rattle.fedi_model.specs.Routes.{is_delivery_read, path_of}
use Rattle.fedi_model.specs.Places.{LeadsTo}
use Rattle.fedi_objects.specs.declared.activity.Activity.{Activity}
use Rattle.fedi_objects.specs.declared.entry.Entry.{Entry}
use Rattle.fedi_objects.specs.declared.entry.Entry.TheVariants.{Remote}
use Rattle.fedi_reading.specs.Bodies.{IsBodyOf}
use Rattle.fedi_reading.specs.Deliveries.{reads_delivered}
use Rattle.fedi_town.proofs.Members.{host_of-actor_id, is_member}
use Rattle.fedi_town.proofs.People.{id_of-is}
use Rattle.fedi_town.proofs.Sound.{town_sound}
use Rattle.fedi_town.proofs.Texts.{bytes_eq-is, bytes_eq-same}
use Rattle.fedi_town.specs.declared.act.Act.{Act}
use Rattle.fedi_town.specs.declared.act.Peer.{Peer}
use Rattle.fedi_town.specs.declared.caller.Caller.{Caller}
use Rattle.fedi_town.specs.declared.caller.Caller.TheVariants as callers
use Rattle.fedi_town.specs.declared.caller.Which.TheVariants as which
use Rattle.fedi_town.specs.declared.refusal.Refusal.{Refusal}
use Rattle.fedi_town.specs.declared.refusal.Refusal.TheVariants.{NotFound, NotOwner, NotOrigin}
use Rattle.fedi_town.specs.declared.refusal.Refusal.TheVariants.{WrongMac, BadBody, WrongType}
use Rattle.fedi_town.specs.declared.refusal.Refusal.TheVariants.{NoKey, BadQuery, JournalFull}
use Rattle.fedi_town.specs.Agreement.{peer_of}
use Rattle.serde_json.specs.Read.{read}
use Rattle.std.specs.Cmp.Derive.{both_true}
use Rattle.std.proofs.lemmas.List.{length-append}
use Rattle.fedi_address.proofs.Audience.{is_among-append}
use Rattle.fedi_address.proofs.Unions.{among_alone}
use Rattle.fedi_town.proofs.Texts.{or_true}
use Rattle.fedi_town.specs.Activities.{remote_act}
use Rattle.fedi_town.specs.Effects.{acceptance, affect, effect_of}
use Rattle.fedi_town.specs.declared.addition.Addition.TheVariants as additions
use Rattle.fedi_town.specs.Relations.{has_activity_id}
use Rattle.fedi_worlds.proofs.Shown.{document_of}
use Rattle.fedi_worlds.proofs.Documents.{reads}
use Rattle.fedi_worlds.proofs.Growth.{town-more}
use Rattle.fedi_worlds.proofs.Plain.{document_back}
use Rattle.fedi_town.specs.Histories.{town, step, is_known, with_addition, with_recipient}
use Rattle.fedi_town.specs.Histories.{inbox_addition, delivery_addition}
use Rattle.fedi_town.specs.Ids.{actor_id, inbox_id}
use Rattle.fedi_town.specs.Legal.{IsLegal}
use Rattle.fedi_town.specs.Origins.{is_foreign, has_inbox}
use Rattle.fedi_town.specs.Towns.{Town, has_host, id_of}
use Rattle.fedi_worlds.specs.Steps.{Settles}
use Rattle.fedi_worlds.proofs.Local.{PostsDeliver}
use Rattle.fedi_worlds.proofs.Places.{some_is}
use Rattle.fedi_worlds.proofs.Reading.{inbox_place}
use Rattle.fedi_worlds.proofs.Simple.{inbox_target, inbox_host, inbox_path_is_plain}
use Rattle.fedi_worlds.proofs.Statuses.{IsBad, never_delivered, refused_bad, misshapen_bad}
use Rattle.fedi_worlds.proofs.Wire.{post_arrives, host_is_plain, path_plain, weaker}
use Rattle.fedi_town.proofs.Due.{any_on}
use Rattle.fedi_town.proofs.Finding.{found_passes}

-- ---- who posts

-- the caller is the peer of this host, or nobody may be taken for it
abbrev IsPeerOr : List ℕ → Result Caller Refusal → Type 0
IsPeerOr own (Ok c) = c ≡ callers.Peer own
IsPeerOr own (Err e) = Unit {0}

peer_is : (t : Town) (s : Signature) (p : Option Peer) → find (has_host s.host) t.peers ≡ p
    → IsPeerOr s.host (peer_or_refused s p)
unfolding has_host
peer_is t s None e = tt
peer_is t s (Some p) e =
    elim (is_signed p.key s) as (λ b.
    IsPeerOr s.host (if b then Ok (callers.Peer p.host) else Err WrongMac)) [
      | true ↦
          ap (λ (h : List ℕ). callers.Peer h)
          (bytes_eq-is p.host s.host (found_passes (has_host s.host) t.peers p e))
      | false ↦ tt
    ]

by_signature : (t : Town) (own : List ℕ) (s : Option Signature)
    → ((x : Signature) → s ≡ Some x → x.host ≡ own) → IsPeerOr own (caller_by t (Mac s))
unfolding caller_by caller_among
by_signature t own None h = tt
by_signature t own (Some s) h =
    subst (λ (o : List ℕ). IsPeerOr o (peer_or_refused s (find (has_host s.host) t.peers)))
    (h s refl) (peer_is t s (find (has_host s.host) t.peers) refl)

signature_host : (q : Request) (body own : List ℕ) (code : Option (List ℕ)) (s : Signature)
    → signature_of q body (Some own) code ≡ Some s → s.host ≡ own
signature_host q body own None s e = absurd cc
signature_host q body own (Some code) s e =
    elim (str.is_utf8 own) as (λ b.
    (if b then option_map (signed_by q body own) (code_of code) else None) ≡ Some s
    → s.host ≡ own) [
      | true ↦ λ h. of_code (code_of code) h
      | false ↦ λ h. absurd cc
    ] e
  where
    of_code : (o : Option (List ℕ)) → option_map (signed_by q body own) o ≡ Some s → s.host ≡ own
    of_code None h = absurd cc
    of_code (Some m) h =
        let same : signed_by q body own m ≡ s =
        some_is _ s h in ap (λ (x : Signature). x.host) (sym same)

-- the caller of a request that names its sender
sender_is : (t : Town) (q : Request) (body own : List ℕ) → q.fields.authorization ≡ None
    → q.fields.peer_host ≡ Some own → IsPeerOr own (caller_of t q body)
sender_is t q body own none some =
    let shows : credentials_of q body ≡ Mac (signature_of q body (Some own) q.fields.peer_mac) =
    ap (λ (a : Option (List ℕ)). credentials_by q body a q.fields.peer_host q.fields.peer_mac) none
    ∙ ap (λ (h : Option (List ℕ)). credentials_by q body None h q.fields.peer_mac) some in
    subst (λ (s : Shows). IsPeerOr own (caller_by t s)) (sym shows)
    (by_signature t own (signature_of q body (Some own) q.fields.peer_mac)
    (λ x e. signature_host q body own q.fields.peer_mac x e))

-- ---- what it asks for

is_post_text : (m : List ℕ) → m ≡ codes "POST" → (is_reading m ≡ false) × (is_post m ≡ true)
is_post_text m e = rw e (refl, refl)

no_mark : (xs : List ℕ) → list_all (λ b. not (b == 63)) xs ≡ true
    → before_first (λ b. b == 63) xs ≡ xs
no_mark xs h = ap (λ (n : ℕ). take n xs) (nowhere xs h) ∙ take_all (length xs) xs (omega arith)
  where
    nowhere : (xs : List ℕ) → list_all (λ b. not (b == 63)) xs ≡ true
        → position_or_len (λ b. b == 63) xs ≡ length xs
    nowhere [] h = refl
    nowhere (b ∷ xs) h =
        let p = and_parts (not (b == 63)) (list_all (λ c. not (c == 63)) xs) h in
        let first : (b == 63) ≡ false = not-true (b == 63) p.0 in
        rw (first, nowhere xs p.1) (omega arith)

no_query : (name : List ℕ) → is_name name ≡ true
    → path_of (codes "/users/" ++ (name ++ codes "/inbox"))
    ≡ codes "/users/" ++ (name ++ codes "/inbox")
no_query name named =
    let path : List ℕ = codes "/users/" ++ (name ++ codes "/inbox") in
    let parts =
    and_parts (slice_index path 0 == 47 && nat_le (length path) 128) (list_all is_path_byte path)
    (inbox_path_is_plain name named) in
    no_mark path
    (weaker is_path_byte (λ b. not (b == 63)) (λ b k. grind (arith, nat_tests)) path parts.1)

posts_there : (host : Option (List ℕ)) (c : Caller) (q : Request) (body name : List ℕ) (ask : Ask)
    → q.method ≡ codes "POST" → AsksAt host c q body (places.Collection (which.Inbox name)) ask
    → DeliversTo c q body name ask
posts_there host c q body name ask method asks =
    let m = is_post_text q.method method in rw (m.0, m.1) at asks

leads : (name : List ℕ) → is_name name ≡ true
    → LeadsTo (codes "/users/" ++ (name ++ codes "/inbox")) (places.Collection (which.Inbox name))
leads name named =
    record { there = named; spelled = sym (append_assoc (codes "/users/") name (codes "/inbox")) }

-- a post to the path of an inbox is a delivery there
asks_inbox : (host : Option (List ℕ)) (c : Caller) (q : Request) (body name : List ℕ) (ask : Ask)
    → is_name name ≡ true → q.method ≡ codes "POST"
    → q.target ≡ codes "/users/" ++ (name ++ codes "/inbox")
    → Asks host c q body ask → DeliversTo c q body name ask
asks_inbox host c q body name ask named method target asks =
    let path : path_of q.target ≡ codes "/users/" ++ (name ++ codes "/inbox") =
    ap path_of target ∙ no_query name named in
    ⊎_elim
    (λ (none : ((there : Place) → ¬ (LeadsTo (path_of q.target) there)) × (ask ≡ Nowhere)).
    absurd
    (none.0 (places.Collection (which.Inbox name))
    (subst (λ (p : List ℕ). LeadsTo p (places.Collection (which.Inbox name))) (sym path)
    (leads name named))))
    (λ (some : (there : Place) × LeadsTo (path_of q.target) there × AsksAt host c q body there ask).
    let at : some.0 ≡ places.Collection (which.Inbox name) =
    inbox_place name some.0 named (subst (λ (p : List ℕ). LeadsTo p some.0) path some.1) in
    posts_there host c q body name ask method
    (subst (λ (p : Place). AsksAt host c q body p ask) at some.2))
    asks

-- ---- what becomes of it

-- the judgement keeps the activity, finds that it is there, or stops with a reply that is no
-- success
abbrev pub JudgedBy : Town → List ℕ → Read → Judgement → Type 0
JudgedBy t owner read (Stop a) = IsBad (reply_of a).status
JudgedBy t owner read (Repeat id) =
    (a : Activity) × (read ≡ Ready a) × (has_inbox t a.id owner ≡ true)
JudgedBy t owner read (Keep a) = read ≡ Ready a

judged_read : (t : Town) (owner : List ℕ) (host : Option (List ℕ)) (p : Option Peer) (read : Read)
    → JudgedBy t owner read (judge_delivery host p (is_there t owner read) read)
judged_read t owner host None read = refused_bad NotOwner
judged_read t owner host (Some p) NotJson = refused_bad BadBody
judged_read t owner host (Some p) (Bad fault) = misshapen_bad fault
judged_read t owner host (Some p) (Ready a) =
    elim (is_foreign host p a.actor a.id a.object) as (λ b.
    JudgedBy t owner (Ready a)
    (if b then Stop (Refuse NotOrigin) else
    (if has_inbox t a.id owner then Repeat None else Keep a))) [
      | true ↦ refused_bad NotOrigin
      | false ↦
          elim (has_inbox t a.id owner) as (λ b. has_inbox t a.id owner ≡ b
          → JudgedBy t owner (Ready a) (if b then Repeat None else Keep a)) [
            | true ↦ λ e. (a, refl, e)
            | false ↦ λ e. refl
          ] refl
    ]

judged_steps : (t : Town) (owner : List ℕ) (read : Read) (bad nobody allowed typed : Bool)
    (j : Judgement) → JudgedBy t owner read j
    → JudgedBy t owner read (by_steps bad nobody allowed typed j)
judged_steps t owner read true nobody allowed typed j h = refused_bad BadQuery
judged_steps t owner read false true allowed typed j h = refused_bad NoKey
judged_steps t owner read false false false typed j h = refused_bad NotOwner
judged_steps t owner read false false true false j h = refused_bad WrongType
judged_steps t owner read false false true true j h = h

pub judged : (t : Town) (c : Caller) (owner : List ℕ) (post : Post)
    → JudgedBy t owner post.read (judge_inbox t c owner post)
judged t c owner post =
    judged_steps t owner post.read false (is_nobody c) (is_peer c) post.is_typed _
    (judged_read t owner t.host (peer_of t c) post.read)

-- a reply that is no success, with no entry
record IsStopped (given : Reply) (more : List Entry) : Type 0 where
  bad : IsBad given.status
  none : more ≡ []

-- the activity was there
record IsRepeated (t : Town) (owner : List ℕ) (read : Read) (more : List Entry) : Type 0 where
  a : Activity
  is : read ≡ Ready a
  there : has_inbox t a.id owner ≡ true
  none : more ≡ []

-- the activity is kept
record IsKept (own name : List ℕ) (moment : ℕ) (read : Read) (more : List Entry) : Type 0 where
  a : Activity
  is : read ≡ Ready a
  one : more ≡ Remote own name a moment ∷ []

abbrev EndsAs : Town → (own name owner : List ℕ) → ℕ → Read → Reply → List Entry → Type 0
EndsAs t own name owner moment read given more =
    IsStopped given more ⊎ (IsRepeated t owner read more ⊎ IsKept own name moment read more)

-- what is settled without an entry
settled_none : (r given : Reply) (more : List Entry) → Settles r None given more
    → (given ≡ r) × (more ≡ [])
settled_none r given more s =
    ⊎_elim (λ (k : (given ≡ r) × (more ≡ [])). k) (λ f. absurd (none_full f.0)) s
  where
    none_full : IsTrue false → ⊥
    none_full e = cc

ends_as : (t : Town) (own name owner : List ℕ) (moment : ℕ) (read : Read) (j : Judgement)
    (given : Reply) (more : List Entry) → JudgedBy t owner read j
    → Settles (reply_of (answer_delivery j)) (inbox_entry (callers.Peer own) name moment j) given
    more → EndsAs t own name owner moment read given more
ends_as t own name owner moment read (Stop a) given more h s =
    let k = settled_none (reply_of a) given more s in
    inl (record { bad = subst (λ (r : Reply). IsBad r.status) (sym k.0) h; none = k.1 })
ends_as t own name owner moment read (Repeat id) given more h s =
    let k = settled_none (reply_of Accepted) given more s in
    inr (inl (record { a = h.0; is = h.1; there = h.2; none = k.1 }))
ends_as t own name owner moment read (Keep a) given more h s =
    ⊎_elim
    (λ (k : (given ≡ reply_of Accepted) × (more ≡ Remote own name a moment ∷ [])).
    inr (inr (record { a = a; is = h; one = k.1 })))
    (λ f. inl
    (record {
      bad = subst (λ (r : Reply). IsBad r.status) (sym f.1) (refused_bad JournalFull);
      none = f.2;
    }))
    s

-- given the id of the inbox's owner if it was found
at_owner : (t : Town) (own name : List ℕ) (moment : ℕ) (post : Post) (id : Option (List ℕ))
    (given : Reply) (more : List Entry)
    → Settles (reply_of (delivery_answer t (callers.Peer own) post id))
    (inbox_entry_at t (callers.Peer own) name post moment id) given more
    → IsStopped given more
    ⊎ ((owner : List ℕ) × (id ≡ Some owner) × EndsAs t own name owner moment post.read given more)
at_owner t own name moment post None given more s =
    let k = settled_none (refused NotFound) given more s in
    inl (record {
      bad = subst (λ (r : Reply). IsBad r.status) (sym k.0) (refused_bad NotFound);
      none = k.1;
    })
at_owner t own name moment post (Some owner) given more s =
    inr (
      owner,
      refl,
      ends_as t own name owner moment post.read (judge_inbox t (callers.Peer own) owner post) given
          more (judged t (callers.Peer own) owner post) s,
    )

-- a post that arrived at the path of an inbox
record IsDelivering (t : Town) (own name : List ℕ) (moment : ℕ) (q : Request) (body : List ℕ)
    (given : Reply) (more : List Entry) : Type 0 where
  post : Post
  read : IsDelivery (callers.Peer own) q body post
  owner : List ℕ
  owned : id_of t name ≡ Some owner
  ends : EndsAs t own name owner moment post.read given more

by_ask : (t : Town) (own name : List ℕ) (moment : ℕ) (q : Request) (body : List ℕ) (c : Caller)
    (ask : Ask) (r given : Reply) (made : Option Entry) (more : List Entry)
    → c ≡ callers.Peer own → DeliversTo c q body name ask → r ≡ reply t c ask
    → made ≡ entry_of t c ask moment → Settles r made given more
    → IsStopped given more ⊎ IsDelivering t own name moment q body given more
by_ask t own name moment q body c ask r given made more who d is makes s =
    let post : Post = d.0 in
    let replied : r ≡ reply t (callers.Peer own) (Inbox name post) =
    is ∙ (ap (λ (x : Caller). reply t x ask) who
    ∙ ap (λ (a : Ask). reply t (callers.Peer own) a) d.2) in
    let made_is : made ≡ entry_of t (callers.Peer own) (Inbox name post) moment =
    makes ∙ (ap (λ (x : Caller). entry_of t x ask moment) who
    ∙ ap (λ (a : Ask). entry_of t (callers.Peer own) a moment) d.2) in
    let now : Settles (reply t (callers.Peer own) (Inbox name post))
    (entry_of t (callers.Peer own) (Inbox name post) moment) given more =
    subst (λ (m : Option Entry).
    Settles (reply t (callers.Peer own) (Inbox name post)) m given more) made_is
    (subst (λ (x : Reply). Settles x made given more) replied s) in
    ⊎_elim (λ (stop : IsStopped given more). inl stop)
    (λ (e : (owner : List ℕ) × (id_of t name ≡ Some owner)
    × EndsAs t own name owner moment post.read given more).
    let read : IsDelivery (callers.Peer own) q body post =
    subst (λ (x : Caller). IsDelivery x q body post) who d.1 in
    inr (record { post = post; read = read; owner = e.0; owned = e.1; ends = e.2 }))
    (at_owner t own name moment post (id_of t name) given more now)

by_caller : (t : Town) (own name : List ℕ) (moment : ℕ) (q : Request) (body : List ℕ)
    (c : Result Caller Refusal) (r given : Reply) (made : Option Entry) (more : List Entry)
    → IsPeerOr own c → is_name name ≡ true → q.method ≡ codes "POST"
    → q.target ≡ codes "/users/" ++ (name ++ codes "/inbox") → AnswersTo t moment c q body r made
    → Settles r made given more
    → IsStopped given more ⊎ IsDelivering t own name moment q body given more
by_caller t own name moment q body (Ok c) r given made more who named method target a s =
    by_ask t own name moment q body c a.0 r given made more who
    (asks_inbox t.host c q body name a.0 named method target a.1) a.2 a.3 s
by_caller t own name moment q body (Err e) r given made more who named method target a s =
    let k =
    settled_none (refused e) given more
    (subst (λ (m : Option Entry). Settles (refused e) m given more) a.1
    (subst (λ (x : Reply). Settles x made given more) a.0 s)) in
    inl (record {
      bad = subst (λ (x : Reply). IsBad x.status) (sym k.0) (refused_bad e);
      none = k.1;
    })

-- ---- the activity is there

has_now : (id owner : List ℕ) (x : Act) → has_activity_id id x ≡ true
    → (has_activity_id id (with_recipient id owner x)
    && is_among owner (with_recipient id owner x).recipients) ≡ true
unfolding has_activity_id
has_now id owner x h = rw h (both_true h (is_among-end owner x.recipients))
  where
    is_among-end : (r : List ℕ) (xs : List (List ℕ)) → is_among r (xs ++ r ∷ []) ≡ true
    is_among-end r xs = is_among-append r xs (r ∷ []) ∙ rw (among_alone r) (or_true (is_among r xs))

new_there : (id owner : List ℕ) (t : Town) (author : List ℕ) (a : Activity) (moment : ℕ)
    → a.id ≡ Some id
    → (has_activity_id id (remote_act t owner author a moment)
    && is_among owner (remote_act t owner author a moment).recipients) ≡ true
unfolding has_activity_id
new_there id owner t author a moment own = both_true (rw own (bytes_eq-same id)) (among_alone owner)

taken_there : (t : Town) (owner author id : List ℕ) (a : Activity) (moment : ℕ) → a.id ≡ Some id
    → has_inbox (with_addition t (inbox_addition t owner author id a moment)) (Some id) owner ≡ true
taken_there t owner author id a moment own =
    let p : Act → Bool = λ x. has_activity_id id x && is_among owner x.recipients in
    elim (is_known t id) as (λ b. is_known t id ≡ b
    → list_any p
    (with_addition t
    (if b then additions.Inbox id owner else additions.Activity
    (acceptance t (remote_act t owner author a moment)))).acts ≡ true) [
      | true ↦
          λ e. any_on (has_activity_id id) p (with_recipient id owner) (λ x h. has_now id owner x h)
          t.acts e
      | false ↦ λ e.
          list_any-append p (map (affect (effect_of t (remote_act t owner author a moment))) t.acts)
          _
          ∙ rw (new_there id owner t author a moment own)
          (or_true
          (list_any p (map (affect (effect_of t (remote_act t owner author a moment))) t.acts)))
    ] refl

kept_there : (t : Town) (own name owner id : List ℕ) (a : Activity) (moment : ℕ) (actor : List ℕ)
    → id_of t name ≡ Some owner → a.actor ≡ Some actor → a.id ≡ Some id
    → has_inbox (step t (Remote own name a moment)) (Some id) owner ≡ true
kept_there t own name owner id a moment actor owned by is =
    subst (λ (o : Option (List ℕ)).
    has_inbox (with_addition t (delivery_addition t o a.actor a.id a moment)) (Some id) owner
    ≡ true) (sym owned)
    (subst
    (λ (o : Option (List ℕ)).
    has_inbox (with_addition t (delivery_addition t (Some owner) o a.id a moment)) (Some id) owner
    ≡ true) (sym by)
    (subst
    (λ (o : Option (List ℕ)).
    has_inbox (with_addition t (delivery_addition t (Some owner) (Some actor) o a moment)) (Some id)
    owner ≡ true) (sym is)
    (taken_there t owner actor id a moment is)))

-- ---- the whole

-- the post, by its sender
post_from : (host : Option (List ℕ)) (p : Option Peer) (own inbox body text : List ℕ)
    → host ≡ Some own → post_by host p inbox body ≡ Some text
    → (key : List ℕ) × (text ≡ post_text own key inbox body)
post_from None p own inbox body text h e = absurd cc
post_from (Some o) None own inbox body text h e = absurd cc
post_from (Some o) (Some p) own inbox body text h e =
    let same : o ≡ own = some_is o own h in (
      p.key,
      sym (some_is (post_text o p.key inbox body) text e)
          ∙ ap (λ (x : List ℕ). post_text x p.key inbox body) same,
    )

-- an activity was read of the body
body_read : (known : Bool) (body : List ℕ) (read : Read) (a : Activity) → read ≡ Ready a
    → ReadsIf known reads_delivered body read → ReadsBody reads_delivered body read
body_read true body read a is r = r
body_read false body read a is r = absurd cc

is_ready : (body : List ℕ) (read : Read) (a : Activity) → read ≡ Ready a
    → ReadsBody reads_delivered body read
    → (d : Data) × IsBodyOf body d × (reads_delivered d ≡ Ok a)
is_ready body read a is r = subst (ReadsBody reads_delivered body) is r

-- what was read of a post
post_read : (t : Town) (x : Act) (body : List ℕ) (q : Request) (own : List ℕ) (post : Post)
    (a : Activity) → body ≡ body_of t x
    → IsDelivery (callers.Peer own) q body post → post.read ≡ Ready a
    → reads_delivered (document_of t x) ≡ Ok a
post_read t x body q own post a same d is =
    let known = is_delivery_read (callers.Peer own) q.fields in
    let r = is_ready body post.read a is (body_read known body post.read a is d.read) in
    let back : read (body_of t x) ≡ Some r.0 = ap read (sym same) ∙ r.1.1 in
    let doc : document_of t x ≡ r.0 =
    some_is (document_of t x) r.0 (sym (document_back t x) ∙ back) in
    ap reads_delivered doc ∙ r.2

-- the id of the member of this name
owner_is : (h : List Entry) (host name owner : List ℕ) → IsLegal h → (town h).host ≡ Some host
    → id_of (town h) name ≡ Some owner → owner ≡ actor_id host name
owner_is h host name owner legal hosted owned =
    let s = town_sound h legal in
    id_of-is (town h) host name owner
    (subst (λ (o : Option (List ℕ)). list_all (is_member o) (town h).actors ≡ true) hosted
    s.sound.members) owned

some_path : (name : List ℕ) → 0 < length (codes "/users/" ++ (name ++ codes "/inbox"))
some_path name = omega (arith, length-append (codes "/users/") (name ++ codes "/inbox"))

pub posts : PostsDeliver
posts since own id recipient inbox text place x s moment (Err e) body given head_only last more
    legal hosted site holds named root rsite rown small i sent server at comes serves grown =
    record {
      adds = inl serves.1;
      there = λ came c d.
          absurd
          (never_delivered moment head_only last given came
          (subst (λ (r : Reply). IsBad r.status) (sym serves.0) (refused_bad e)) c d);
    }
posts since own id recipient inbox text place x s moment (Ok q) body given head_only last more legal
    hosted site holds named root rsite rown small i sent server at comes serves grown =
    let content : List ℕ = body_of (town since) x in
    let path : List ℕ = codes "/users/" ++ (i.name ++ codes "/inbox") in
    let f =
    post_from (town since).host (peer_for (town since) recipient) own inbox content text hosted
    sent in
    let at_inbox : inbox ≡ inbox_id (actor_id i.host i.name) =
    i.inbox_is ∙ ap (λ (z : List ℕ). inbox_id z) i.recipient_is in
    let target : target_of inbox ≡ path =
    ap target_of at_inbox ∙ inbox_target i.host i.name i.shape i.named in
    let to : host_of inbox ≡ i.host =
    ap host_of at_inbox ∙ inbox_host i.host i.name i.shape i.named in
    let spelled : text ≡ post_request own f.0 path i.host content =
    f.1 ∙ (ap (λ (z : List ℕ). post_request own f.0 z (host_of inbox) content) target
    ∙ ap (λ (z : List ℕ). post_request own f.0 path z content) to) in
    let arrives =
    post_arrives own f.0 path i.host content text q body comes.0 (host_is_plain own site.shape)
    (path_plain path (inbox_path_is_plain i.name i.named)) (some_path i.name)
    (host_is_plain i.host i.shape.shape) small spelled comes.1 in
    let r = arrives.read in
    let who = sender_is (town s.history) q body own r.authorization r.sender in
    let here : s.host ≡ i.host =
    at ∙ (ap host_of i.recipient_is ∙ host_of-actor_id i.host i.name i.shape.shape i.named) in
    ⊎_elim
    (λ (stop : IsStopped given more).
    record {
      adds = inl stop.none;
      there = λ came c d. absurd (never_delivered moment head_only last given came stop.bad c d);
    })
    (λ (a : IsDelivering (town s.history) own i.name moment q body given more).
    let owner : a.owner ≡ recipient =
    owner_is s.history s.host i.name a.owner server.legal server.host a.owned
    ∙ (ap (λ (z : List ℕ). actor_id z i.name) here ∙ sym i.recipient_is) in
    let owned : id_of (town s.history) i.name ≡ Some recipient =
    a.owned ∙ ap (λ (z : List ℕ). Some z) owner in
    let known : (b : Activity) → a.post.read ≡ Ready b
    → reads_delivered (document_of (town since) x) ≡ Ok b = λ b is.
    post_read (town since) x body q own a.post b arrives.body_is a.read is in
    ⊎_elim
    (λ (stop : IsStopped given more).
    record {
      adds = inl stop.none;
      there = λ came c d. absurd (never_delivered moment head_only last given came stop.bad c d);
    })
    (λ (rest : IsRepeated (town s.history) a.owner a.post.read more
    ⊎ IsKept own i.name moment a.post.read more).
    ⊎_elim
    (λ (k : IsRepeated (town s.history) a.owner a.post.read more).
    let same = reads (town since) root x k.a rsite rown (known k.a k.is) in
    record {
      adds = inl k.none;
      there = λ came c d.
          subst (λ (m : List Entry). has_inbox (town (s.history ++ m)) (Some id) recipient ≡ true)
          (sym k.none)
          (subst (λ (h : List Entry). has_inbox (town h) (Some id) recipient ≡ true)
          (sym (append-nil s.history))
          (subst (λ (o : Option (List ℕ)). has_inbox (town s.history) o recipient ≡ true)
          (same.id ∙ named)
          (subst (λ (z : List ℕ). has_inbox (town s.history) k.a.id z ≡ true) owner k.there)));
    })
    (λ (k : IsKept own i.name moment a.post.read more).
    let same = reads (town since) root x k.a rsite rown (known k.a k.is) in
    record {
      adds = inr (i.name, k.a, k.one, known k.a k.is, owned);
      there = λ came c d.
          subst (λ (m : List Entry). has_inbox (town (s.history ++ m)) (Some id) recipient ≡ true)
          (sym k.one)
          (subst (λ (t : Town). has_inbox t (Some id) recipient ≡ true)
          (sym (town-more s.history (Remote own i.name k.a moment ∷ [])))
          (kept_there (town s.history) own i.name recipient id k.a moment x.author owned same.actor
          (same.id ∙ named)));
    })
    rest)
    a.ends)
    (by_caller (town s.history) own i.name moment q body (caller_of (town s.history) q body)
    serves.0 given serves.1 more who i.named r.method r.target_is serves.2 serves.3)
