-- What the lookups ask for, and the path of an inbox.
use Rattle.std.proofs.Common.{◌≡◌, ℕ, true, false, List, [], ◌∷◌, ◌++◌, drop, Option, Some, None}
use Rattle.std.proofs.Common.{refl, sym, ap, ◌∙◌, subst, ⊎_elim, append_assoc, lit<}
use Rattle.std.specs.Prelude.{codes, decimal, Ok, Err, Result, option_to_list, bytes_eq}
use Rattle.std.specs.List.{list_all}
use Rattle.std.proofs.lemmas.Bool.{and_parts}
use Rattle.std.proofs.lemmas.List.{append_cancel_left}
use Rattle.fedi_address.specs.Names.{is_name, is_name_byte}
use Rattle.fedi_address.specs.Iris.{host_of, target_of}
use Rattle.fedi_delivery.specs.Deliveries.{lookup_by, peer_for}
use Rattle.fedi_delivery.specs.Sending.{lookup_request, lookup_lines, lookup_text}
use Rattle.httparse.specs.Grammar.{is_token_byte}
use Rattle.fedi_http.specs.Arrivals.{HasRequest}
use Rattle.fedi_http.specs.Chunks.{Whole}
use Rattle.fedi_http.specs.declared.heads.TheConstants.{HEAD_LIMIT}
use Rattle.fedi_http.specs.declared.requests.TheConstants.{MOST_FIELDS}
use Rattle.fedi_model.specs.declared.ask.Ask.{Ask}
use Rattle.fedi_model.specs.declared.ask.Ask.TheVariants.{Nowhere}
use Rattle.fedi_model.specs.declared.place.Place.{Place}
use Rattle.fedi_model.specs.declared.place.Place.TheVariants.{Webfinger, Actor, Collection, Board}
use Rattle.fedi_model.specs.declared.place.Place.TheVariants.{Activity, Object}
use Rattle.fedi_model.specs.declared.reply.Reply as replies
use Rattle.fedi_model.specs.declared.request.Request as requests
use Rattle.fedi_model.specs.Answers.{AnswersTo, caller_of}
use Rattle.fedi_model.specs.Asks.{entry_of}
use Rattle.fedi_model.specs.Places.{LeadsTo, IsWhich, place_path}
use Rattle.fedi_model.specs.Queries.{query_of}
use Rattle.fedi_model.specs.Requests.{is_reading}
use Rattle.fedi_model.specs.Routes.{Asks, AsksAt, path_of, read_at}
use Rattle.fedi_objects.specs.declared.entry.Entry.{Entry}
use Rattle.std.specs.Str as str
use Rattle.fedi_town.proofs.Members.{name_bytes}
use Rattle.fedi_town.proofs.Texts.{bytes_eq-same, not_both}
use Rattle.fedi_town.specs.Histories.{town}
use Rattle.fedi_town.specs.Towns.{Town}
use Rattle.fedi_town.specs.declared.act.Peer.{Peer}
use Rattle.fedi_town.specs.declared.caller.Caller.{Caller}
use Rattle.fedi_town.specs.declared.caller.Which.{Which}
use Rattle.fedi_town.specs.declared.caller.Which.TheVariants.{Inbox, Outbox, Followers, Following}
use Rattle.fedi_town.specs.declared.caller.Which.TheVariants.{Liked, Likes, Shares}
use Rattle.fedi_town.specs.declared.refusal.Refusal.{Refusal}
use Rattle.fedi_worlds.specs.Steps.{Comes, IsAnswered, Settles}
use Rattle.fedi_worlds.proofs.Local.{LookupsOnlyRead}
use Rattle.fedi_worlds.proofs.Wire.{front_head, method_is}
use Rattle.fedi_town.proofs.IdsOnce.{not_slash, unslashed}

-- ---- a reading makes no entry

reads_nothing : (t : Town) (c : Caller) (host : Option (List ℕ)) (query : List ℕ) (there : Place)
    (moment : ℕ) → entry_of t c (read_at host query there) moment ≡ None
reads_nothing t c host query Webfinger moment = refl
reads_nothing t c host query (Actor name) moment = refl
reads_nothing t c host query (Collection which) moment = refl
reads_nothing t c host query (Board name slug) moment = refl
reads_nothing t c host query (Activity name number) moment = refl
reads_nothing t c host query (Object name number) moment = refl

get_asks : (host : Option (List ℕ)) (c : Caller) (q : requests.Request) (body : List ℕ) (there : Place)
    (ask : Ask) → is_reading q.method ≡ true → AsksAt host c q body there ask
    → ask ≡ read_at host (query_of q.target) there
get_asks host c q body there ask get asks = rw get at asks

get_makes : (t : Town) (c : Caller) (q : requests.Request) (body : List ℕ) (ask : Ask) (moment : ℕ)
    → is_reading q.method ≡ true → Asks t.host c q body ask → entry_of t c ask moment ≡ None
get_makes t c q body ask moment get asks =
    ⊎_elim
    (λ (none : ((there : Place) → ¬ (LeadsTo (path_of q.target) there)) × (ask ≡ Nowhere)).
    ap (λ (a : Ask). entry_of t c a moment) none.1)
    (λ (some : (there : Place) × LeadsTo (path_of q.target) there × AsksAt t.host c q body there ask).
    ap (λ (a : Ask). entry_of t c a moment) (get_asks t.host c q body some.0 ask get some.2)
    ∙ reads_nothing t c t.host (query_of q.target) some.0 moment)
    asks

none_made : (t : Town) (moment : ℕ) (q : requests.Request) (body : List ℕ) (r : replies.Reply)
    (made : Option Entry) (c : Result Caller Refusal) → is_reading q.method ≡ true
    → AnswersTo t moment c q body r made → made ≡ None
none_made t moment q body r made (Ok c) get a = a.3 ∙ get_makes t c q body a.0 moment get a.1
none_made t moment q body r made (Err e) get a = a.1

none_kept : (r given : replies.Reply) (made : Option Entry) (more : List Entry) → made ≡ None
    → Settles r made given more → more ≡ []
none_kept r given made more none s =
    ⊎_elim
    (λ (k : (given ≡ r) × (more ≡ option_to_list made)).
    k.1 ∙ ap (λ (o : Option Entry). option_to_list o) none)
    (λ full. full.2)
    s

is_get_text : (m : List ℕ) → m ≡ codes "GET" → is_reading m ≡ true
is_get_text m e = rw e refl

-- ---- the lookup

lookup_first : (own key target host : List ℕ)
    → (rest : List ℕ) × (lookup_request own key target host ≡ codes "GET" ++ 32 ∷ rest)
unfolding lookup_request lookup_lines
lookup_first own key target host = (_, refl)

lookup_is : (host : Option (List ℕ)) (p : Option Peer) (recipient text : List ℕ)
    → lookup_by host p recipient ≡ Some text
    → (own : List ℕ) × (key : List ℕ) × (text ≡ lookup_text own key recipient)
lookup_is None p recipient text e = absurd cc
lookup_is (Some own) None recipient text e = absurd cc
lookup_is (Some own) (Some p) recipient text e =
    (own, p.key, let same : lookup_text own p.key recipient ≡ text = cc in sym same)

get_read : (text rest : List ℕ) (q : requests.Request) (body left : List ℕ)
    → text ≡ codes "GET" ++ 32 ∷ rest → HasRequest HEAD_LIMIT MOST_FIELDS text q Whole body left
    → q.method ≡ codes "GET"
unfolding is_token_byte
get_read text rest q body left is h =
    let b : HasRequest HEAD_LIMIT MOST_FIELDS (codes "GET" ++ 32 ∷ rest) q Whole body left =
    subst (λ (s : List ℕ). HasRequest HEAD_LIMIT MOST_FIELDS s q Whole body left) is h in
    let f =
    front_head HEAD_LIMIT MOST_FIELDS 71 (69 ∷ 84 ∷ 32 ∷ rest) q b.end (lit< tt) refl b.head in
    ap (λ (k : requests.Request). k.method) f.request
    ∙ method_is (codes "GET") rest f.head (drop b.end (codes "GET" ++ 32 ∷ rest)) refl 71
    (69 ∷ 84 ∷ []) refl refl f.reads

serves_get : (h : List Entry) (moment : ℕ) (came : Result requests.Request Refusal)
    (text rest body : List ℕ) (given : replies.Reply) (more : List Entry)
    → text ≡ codes "GET" ++ 32 ∷ rest
    → Comes text came body → IsAnswered h moment came body given more → more ≡ []
serves_get h moment (Ok q) text rest body given more is c s =
    let method = get_read text rest q body c.0 is c.1 in
    none_kept s.0 given s.1 more
    (none_made (town h) moment q body s.0 s.1 (caller_of (town h) q body)
    (is_get_text q.method method) s.2) s.3
serves_get h moment (Err e) text rest body given more is c s = s.1

pub lookups : LookupsOnlyRead
lookups t recipient text h moment came body given more look c s =
    let l = lookup_is t.host (peer_for t recipient) recipient text look in
    let f = lookup_first l.0 l.1 (target_of recipient) (host_of recipient) in
    serves_get h moment came text f.0 body given more (l.2 ∙ f.1) c s

-- ---- the path of an inbox

pub differ : (s t : List ℕ) → str.bytes_eq s t ≡ false → s ≡ t → ⊥
differ s t unlike e = not_both (str.bytes_eq s t) (rw e (bytes_eq-same t)) unlike

no_tail : (m n t : List ℕ) → list_all is_name_byte m ≡ true → list_all is_name_byte n ≡ true
    → m ≡ n ++ 47 ∷ t → ⊥
no_tail [] [] t p q e = cc
no_tail [] (b ∷ n) t p q e = cc
no_tail (b ∷ m) [] t p q e =
    not_slash b (and_parts (is_name_byte b) (list_all is_name_byte m) p).0
    (let same : b ≡ 47 = cc in same)
no_tail (b ∷ m) (d ∷ n) t p q e =
    no_tail m n t (and_parts (is_name_byte b) (list_all is_name_byte m) p).1
    (and_parts (is_name_byte d) (list_all is_name_byte n) q).1
    (let rest : m ≡ n ++ 47 ∷ t = cc in rest)

-- after the name
tail_is : (name own s : List ℕ) → is_name name ≡ true → is_name own ≡ true
    → codes "/users/" ++ (own ++ 47 ∷ s) ≡ codes "/users/" ++ (name ++ codes "/inbox")
    → (own ≡ name) × (s ≡ codes "inbox")
tail_is name own s named of_name e =
    unslashed own name s (codes "inbox") (name_bytes own of_name) (name_bytes name named)
    (append_cancel_left (codes "/users/") _ _ e)

which_at : (name : List ℕ) (which : Which) → is_name name ≡ true → IsWhich which
    → place_path (Collection which) ≡ codes "/users/" ++ (name ++ codes "/inbox")
    → which ≡ Inbox name
which_at name (Inbox own) named w e =
    ap (λ (n : List ℕ). Inbox n) (tail_is name own (codes "inbox") named w e).0
which_at name (Outbox own) named w e =
    absurd
    (differ (codes "outbox") (codes "inbox") refl (tail_is name own (codes "outbox") named w e).1)
which_at name (Followers own) named w e =
    absurd
    (differ (codes "followers") (codes "inbox") refl
    (tail_is name own (codes "followers") named w e).1)
which_at name (Following own) named w e =
    absurd
    (differ (codes "following") (codes "inbox") refl
    (tail_is name own (codes "following") named w e).1)
which_at name (Liked own) named w e =
    absurd
    (differ (codes "liked") (codes "inbox") refl (tail_is name own (codes "liked") named w e).1)
which_at name (Likes own number) named w e =
    absurd
    (differ (codes "o/" ++ (decimal number ++ codes "/likes")) (codes "inbox") refl
    (tail_is name own (codes "o/" ++ (decimal number ++ codes "/likes")) named w.0
    (sym (regroup own (decimal number) (codes "/likes")) ∙ e)).1)
  where
    regroup : (n d l : List ℕ)
        → (codes "/users/" ++ (n ++ (codes "/o/" ++ d))) ++ l
        ≡ codes "/users/" ++ (n ++ (codes "/o/" ++ (d ++ l)))
    regroup n d l = simp append_assoc
which_at name (Shares own number) named w e =
    absurd
    (differ (codes "o/" ++ (decimal number ++ codes "/shares")) (codes "inbox") refl
    (tail_is name own (codes "o/" ++ (decimal number ++ codes "/shares")) named w.0
    (sym (regroup own (decimal number) (codes "/shares")) ∙ e)).1)
  where
    regroup : (n d l : List ℕ)
        → (codes "/users/" ++ (n ++ (codes "/o/" ++ d))) ++ l
        ≡ codes "/users/" ++ (n ++ (codes "/o/" ++ (d ++ l)))
    regroup n d l = simp append_assoc

-- the path of a member's inbox leads there alone
pub inbox_place : (name : List ℕ) (there : Place) → is_name name ≡ true
    → LeadsTo (codes "/users/" ++ (name ++ codes "/inbox")) there → there ≡ Collection (Inbox name)
inbox_place name Webfinger named l =
    absurd
    (differ (codes "/users/" ++ (name ++ codes "/inbox")) (codes "/.well-known/webfinger") refl
    l.spelled)
inbox_place name (Actor own) named l =
    absurd
    (no_tail own name (codes "inbox") (name_bytes own l.there) (name_bytes name named)
    (append_cancel_left (codes "/users/") _ _ (sym l.spelled)))
inbox_place name (Collection which) named l =
    ap (λ (w : Which). Collection w) (which_at name which named l.there (sym l.spelled))
inbox_place name (Board own None) named l =
    absurd
    (differ (codes "c") (codes "inbox") refl
    (tail_is name own (codes "c") named l.there.0 (sym l.spelled)).1)
inbox_place name (Board own (Some slug)) named l =
    absurd
    (differ (codes "c/" ++ slug) (codes "inbox") refl
    (tail_is name own (codes "c/" ++ slug) named l.there.0 (sym l.spelled)).1)
inbox_place name (Activity own number) named l =
    absurd
    (differ (codes "a/" ++ decimal number) (codes "inbox") refl
    (tail_is name own (codes "a/" ++ decimal number) named l.there.0 (sym l.spelled)).1)
inbox_place name (Object own number) named l =
    absurd
    (differ (codes "o/" ++ decimal number) (codes "inbox") refl
    (tail_is name own (codes "o/" ++ decimal number) named l.there.0 (sym l.spelled)).1)
