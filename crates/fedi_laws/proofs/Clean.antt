-- No answer names a hidden recipient.
use Rattle.std.proofs.Common.{◌≡◌, ℕ, zero, suc, ◌+◌, Bool, true, false, List, [], ◌∷◌, ◌++◌, length, Option, Some, None, refl}
use Rattle.std.proofs.lemmas.Bool.{and_parts}
use Rattle.std.specs.Prelude.{◌&&◌, ◌||◌, ◌==◌, map, codes, nat_le, if◌then◌else◌}
use Rattle.std.specs.Ordering.{nat_cmp, match_ordering}
use Rattle.std.specs.declared.cmp.Ordering.TheVariants.{Less, Equal, Greater}
use Rattle.std.specs.Cmp.Lexicographic.{slice_cmp}
use Rattle.std.specs.Str.{bytes_eq}
use Rattle.serde_json.specs.Data.{Data, Num, unsigned, number, string, array, Members, no_members, member, put}
use Rattle.serde_json.specs.View.{items_of}
use Rattle.fedi_town.specs.declared.refusal.Refusal.{Refusal}
use Rattle.fedi_town.specs.declared.refusal.Refusal.TheVariants.{NotFound, BadQuery, KeyReused, NotOrigin}
use Rattle.fedi_address.specs.Recipients.{is_among}
use Rattle.fedi_objects.specs.Forms.{is_open, is_clean, items_are_clean, members_are_clean, with_context, object_form, is_tombstone}
use Rattle.fedi_objects.specs.declared.object.Object as objects
use Rattle.fedi_objects.proofs.FormLemmas.{is_clean-activity_form, is_clean-object_form}
use Rattle.fedi_town.specs.declared.act.Act.{Act}
use Rattle.fedi_town.specs.declared.act.Peer.{Peer}
use Rattle.fedi_town.specs.declared.caller.Caller.{Caller}
use Rattle.fedi_town.specs.declared.caller.Which.{Which}
use Rattle.fedi_town.specs.declared.caller.Which.TheVariants as whiches
use Rattle.fedi_town.specs.Agreement.{repeats_of, peer_of}
use Rattle.fedi_town.specs.Boards.{board_address, board_items}
use Rattle.fedi_town.specs.Collections.{items, owner_of, highest, page_of}
use Rattle.fedi_town.specs.Origins.{is_foreign}
use Rattle.fedi_town.specs.Ids.{actor_id, activity_id, object_id}
use Rattle.fedi_town.specs.Objects.{whole_of}
use Rattle.fedi_town.specs.Rules.{broken_post, seen_act, seen_maker}
use Rattle.fedi_town.specs.Showing.{shown_activity}
use Rattle.fedi_town.specs.Towns.{Town, id_of}
use Rattle.fedi_model.specs.declared.ask.Ask.{Ask}
use Rattle.fedi_model.specs.declared.ask.Ask.TheVariants.{Nowhere, WrongMethod, Webfinger, Actor, Collection, Activity, Object, Outbox, Inbox, Board}
use Rattle.fedi_model.specs.declared.ask.PageAsk.{PageAsk}
use Rattle.fedi_model.specs.declared.ask.PageAsk.TheVariants as pages
use Rattle.fedi_model.specs.declared.ask.Resource.{Resource}
use Rattle.fedi_model.specs.declared.post.Post.{Post}
use Rattle.fedi_model.specs.declared.post.Read.{Read}
use Rattle.fedi_model.specs.declared.post.Read.TheVariants.{NotJson, Bad, Ready}
use Rattle.fedi_model.specs.AnswerKinds.{Answer, Refuse, Document, Tombstone, unless_refused}
use Rattle.fedi_model.specs.Asks.{id_at, answer_of}
use Rattle.fedi_model.specs.Cleanness.{is_clean_answer}
use Rattle.fedi_model.specs.Documents.{actor_form, self_link, links_of, jrd_form, embedded_form, item_form, page_id, with_ends, summary_form, with_next, with_prev, page_form}
use Rattle.fedi_model.specs.Posting.{Judgement, Stop, Repeat, Keep, unless_broken, by_steps, judge_activity, is_bad_key, repeat_under, unless_repeat, judge_read, answer_post, post_answer, judge_delivery, is_there, answer_delivery, delivery_answer}
use Rattle.fedi_model.specs.Reading.{is_nobody, is_self, is_peer, actor_or_missing, profile_or_missing, resource_answer, webfinger_answer, activity_document, activity_or_missing, activity_answer, object_document, maker_document, object_or_missing, object_answer, name_of, reading_rule, object_rule, part_answer, items_answer, owner_answer, is_malformed, member_answer, board_answer}

abbrev IsClean : Answer → Type 0
IsClean a = is_clean_answer a ≡ true

put_clean : (k : List ℕ) (d : Data) (ms : Members) → is_open k ≡ true → is_clean d ≡ true → members_are_clean ms ≡ true → members_are_clean (put k d ms) ≡ true
put_clean k d no_members free one rest = rw (free, one) refl
put_clean k d (member l e ms) free one rest =
    let first = and_parts (is_open l) (is_clean e && members_are_clean ms) rest in
    let second = and_parts (is_clean e) (members_are_clean ms) first.1 in
    elim (slice_cmp nat_cmp k l) as (λ o. members_are_clean (match_ordering o (member k d (member l e ms)) (member l d ms) (member l e (put k d ms))) ≡ true) [
      | Less ↦ rw (free, one) rest
      | Equal ↦ rw (first.0, one) second.1
      | Greater ↦ rw (first.0, second.0) (put_clean k d ms free one second.1)
    ]

items_clean : {A : Type 0} (f : A → Data) → ((x : A) → is_clean (f x) ≡ true) → (xs : List A) → items_are_clean (items_of (map f xs)) ≡ true
items_clean f all [] = refl
items_clean f all (x ∷ xs) = rw (all x, items_clean f all xs) refl

-- as records, so that lemmas can infer the values that they are about
record One (d : Data) : Type 0 where
  clean : is_clean d ≡ true

record Many (ms : Members) : Type 0 where
  clean : members_are_clean ms ≡ true

with_one : (k : List ℕ) (d : Data) (ms : Members) → is_open k ≡ true → One d → Many ms → Many (put k d ms)
with_one k d ms free one rest = record { clean = put_clean k d ms free one.clean rest.clean }

text_one : (text : List ℕ) → One (string text)
text_one text = record { clean = refl }

number_one : (n : Num) → One (number n)
number_one n = record { clean = refl }

none_many : Many no_members
none_many = record { clean = refl }

context_clean : (ms : Members) → Many ms → Many (with_context true ms)
unfolding with_context
context_clean ms h = with_one (codes "@context") _ ms refl (text_one _) h

ends_clean : (id : List ℕ) (n : ℕ) (ms : Members) → Many ms → Many (with_ends id n ms)
ends_clean id zero ms h = h
ends_clean id (suc n) ms h = with_one (codes "first") _ _ refl (text_one _) (with_one (codes "last") _ ms refl (text_one _) h)

type_clean : (kind : List ℕ) → Many (put (codes "type") (string kind) no_members)
type_clean kind = with_one (codes "type") _ _ refl (text_one kind) none_many

summary_clean : (id : List ℕ) (total : ℕ) → is_clean (summary_form id total) ≡ true
unfolding summary_form
summary_clean id total =
    (context_clean _ (with_one (codes "id") _ _ refl (text_one id) (ends_clean id total _ (with_one (codes "totalItems") _ _ refl (number_one (unsigned total)) (type_clean _))))).clean

next_clean : (id : List ℕ) (k : ℕ) (ms : Members) → Many ms → Many (with_next id k ms)
next_clean id zero ms h = h
next_clean id (suc k) ms h = with_one (codes "next") _ ms refl (text_one _) h

choice_clean : (b : Bool) (x y : Members) → Many x → Many y → Many (if b then x else y)
choice_clean true x y h k = h
choice_clean false x y h k = k

prev_clean : (id : List ℕ) (k top : ℕ) (ms : Members) → Many ms → Many (with_prev id k top ms)
prev_clean id k top ms h = choice_clean (nat_le (k + 1) top) _ ms (with_one (codes "prev") _ ms refl (text_one _) h) h

page_clean : {A : Type 0} (id : List ℕ) (k total : ℕ) (f : A → Data) (xs : List A) → ((x : A) → is_clean (f x) ≡ true) → is_clean (page_form id k total (map f xs)) ≡ true
unfolding page_form
page_clean id k total f xs all =
    let list : One (array (items_of (map f xs))) = record { clean = items_clean f all xs } in
    (context_clean _ (with_one (codes "id") _ _ refl (text_one (page_id id k)) (next_clean id k _ (with_one (codes "orderedItems") _ _ refl list
    (with_one (codes "partOf") _ _ refl (text_one id) (prev_clean id k (highest total) _ (type_clean _))))))).clean

list_clean : {A : Type 0} (ask : PageAsk) (id : List ℕ) (total : ℕ) (f : A → Data) (xs : List A) → ((x : A) → is_clean (f x) ≡ true) → IsClean (part_answer ask id total (λ k. map f (page_of k xs)))
list_clean pages.Summary id total f xs all = summary_clean id total
list_clean (pages.Page k) id total f xs all =
    elim (nat_le k (highest total)) as (λ b. IsClean (if b then Document (page_form id k total (map f (page_of k xs))) else Refuse NotFound)) [
      | true ↦ page_clean id k total f (page_of k xs) all
      | false ↦ refl
    ]
list_clean pages.Malformed id total f xs all = refl

embedded_clean : (t : Town) (x : Act) → is_clean (embedded_form t x) ≡ true
unfolding embedded_form
embedded_clean t x = is_clean-activity_form _ false x.author (shown_activity t x)

item_clean : (t : Town) (which : Which) (x : Act) → is_clean (item_form t which x) ≡ true
item_clean t (whiches.Inbox name) x = embedded_clean t x
item_clean t (whiches.Outbox name) x = embedded_clean t x
item_clean t (whiches.Followers name) x = refl
item_clean t (whiches.Following name) x = refl
item_clean t (whiches.Liked name) x = refl
item_clean t (whiches.Likes name n) x = refl
item_clean t (whiches.Shares name n) x = refl

-- ---- members

actor_clean : (host name : List ℕ) → is_clean (actor_form host name) ≡ true
unfolding actor_form
actor_clean host name =
    (context_clean _ (with_one (codes "followers") _ _ refl (text_one _) (with_one (codes "following") _ _ refl (text_one _)
    (with_one (codes "id") _ _ refl (text_one _) (with_one (codes "inbox") _ _ refl (text_one _) (with_one (codes "liked") _ _ refl (text_one _)
    (with_one (codes "outbox") _ _ refl (text_one _) (with_one (codes "preferredUsername") _ _ refl (text_one _) (type_clean _))))))))).clean

link_clean : (id : List ℕ) → is_clean (self_link id) ≡ true
link_clean id = refl

links_clean : (b : Bool) (id : List ℕ) → items_are_clean (items_of (if b then self_link id ∷ [] else [])) ≡ true
links_clean true id = rw (link_clean id) refl
links_clean false id = refl

jrd_clean : (host name : List ℕ) (rels : List (List ℕ)) → is_clean (jrd_form host name rels) ≡ true
unfolding jrd_form
jrd_clean host name rels =
    let links : One (array (items_of (links_of (actor_id host name) rels))) = record { clean = links_clean (length rels == 0 || is_among (codes "self") rels) (actor_id host name) } in
    let me : One (array (items_of (string (actor_id host name) ∷ []))) = record { clean = refl } in
    (with_one (codes "aliases") _ _ refl me (with_one (codes "links") _ _ refl links
    (with_one (codes "subject") _ _ refl (text_one (codes "acct:" ++ (name ++ (codes "@" ++ host)))) none_many))).clean

actor_answer_clean : (host : Option (List ℕ)) (name : List ℕ) (id : Option (List ℕ)) → IsClean (actor_or_missing host name id)
actor_answer_clean None name id = refl
actor_answer_clean (Some host) name None = refl
actor_answer_clean (Some host) name (Some id) = actor_clean host name

profile_clean : (host : Option (List ℕ)) (name : List ℕ) (rels : List (List ℕ)) (id : Option (List ℕ)) → IsClean (profile_or_missing host name rels id)
profile_clean None name rels id = refl
profile_clean (Some host) name rels None = refl
profile_clean (Some host) name rels (Some id) = jrd_clean host name rels

resource_clean : (t : Town) (name : Option (List ℕ)) (rels : List (List ℕ)) → IsClean (resource_answer t name rels)
resource_clean t None rels = refl
resource_clean t (Some name) rels = profile_clean t.host name rels (id_of t name)

webfinger_clean : (t : Town) (resource : Option Resource) → IsClean (webfinger_answer t resource)
webfinger_clean t None = refl
webfinger_clean t (Some r) = resource_clean t r.name r.rels

-- ---- activities and objects

found_clean : (t : Town) (m : Option Act) → IsClean (activity_or_missing t m)
unfolding activity_document
found_clean t None = refl
found_clean t (Some x) = is_clean-activity_form _ true x.author (shown_activity t x)

act_clean : (t : Town) (c : Caller) (id : Option (List ℕ)) → IsClean (activity_answer t c id)
act_clean t c None = refl
act_clean t c (Some id) = found_clean t (seen_act t c id)

choice_answer : (b : Bool) (x y : Answer) → IsClean x → IsClean y → IsClean (if b then x else y)
choice_answer true x y h k = h
choice_answer false x y h k = k

object_clean : (o : Option objects.Object) → IsClean (object_document o)
object_clean None = refl
object_clean (Some o) = choice_answer (is_tombstone o) (Tombstone (object_form true true o)) (Document (object_form true true o)) (is_clean-object_form true true o) (is_clean-object_form true true o)

made_clean : (t : Town) (m : Option Act) → IsClean (object_or_missing t m)
unfolding maker_document
made_clean t None = refl
made_clean t (Some x) = object_clean (whole_of (shown_activity t x).object)

object_answer_clean : (t : Town) (c : Caller) (id : Option (List ℕ)) → IsClean (object_answer t c id)
object_answer_clean t c None = refl
object_answer_clean t c (Some id) = made_clean t (seen_maker t c id)

-- ---- collections

rule_clean : (r : Option Refusal) (a : Answer) → IsClean a → IsClean (unless_refused r a)
rule_clean None a h = h
rule_clean (Some r) a h = refl

items_answer_clean : (t : Town) (c : Caller) (which : Which) (id : List ℕ) (ask : PageAsk) → IsClean (items_answer t c which id ask)
unfolding items_answer
items_answer_clean t c which id ask = list_clean ask _ _ (item_form t which) (items t c which id) (item_clean t which)

owner_clean : (t : Town) (c : Caller) (which : Which) (ask : PageAsk) (id : Option (List ℕ)) → IsClean (owner_answer t c which ask id)
owner_clean t c which ask None = refl
owner_clean t c which ask (Some id) =
    rule_clean (reading_rule c which) _ (rule_clean (object_rule t c which id) _ (items_answer_clean t c which id ask))

member_clean : (t : Town) (c : Caller) (which : Which) (ask : PageAsk) (id : Option (List ℕ)) → IsClean (member_answer t c which ask id)
member_clean t c which ask None = refl
member_clean t c which ask (Some id) = choice_answer (is_malformed ask) (Refuse BadQuery) _ refl (owner_clean t c which ask (owner_of t which))

-- ---- collections that members make

board_clean : (t : Town) (c : Caller) (slug : Option (List ℕ)) (ask : PageAsk) (id : Option (List ℕ)) → IsClean (board_answer t c slug ask id)
board_clean t c slug ask None = refl
board_clean t c slug ask (Some id) = list_clean ask (board_address id slug) _ (λ i. string i) (board_items t c id slug) (λ i. refl)

-- ---- posts

-- an answer that stops a post is clean
abbrev IsCleanJudgement : Judgement → Type 0
IsCleanJudgement (Stop a) = IsClean a
IsCleanJudgement (Repeat id) = Unit {0}
IsCleanJudgement (Keep a) = Unit {0}

choice_judgement : (b : Bool) (j k : Judgement) → IsCleanJudgement j → IsCleanJudgement k → IsCleanJudgement (if b then j else k)
choice_judgement true j k h i = h
choice_judgement false j k h i = i

steps_clean : (key nobody allowed typed : Bool) (j : Judgement) → IsCleanJudgement j → IsCleanJudgement (by_steps key nobody allowed typed j)
steps_clean true nobody allowed typed j h = refl
steps_clean false true allowed typed j h = refl
steps_clean false false false typed j h = refl
steps_clean false false true false j h = refl
steps_clean false false true true j h = h

broken_clean : (r : Option Refusal) (j : Judgement) → IsCleanJudgement j → IsCleanJudgement (unless_broken r j)
broken_clean None j h = h
broken_clean (Some r) j h = refl

kept_clean : (digest : List ℕ) (k : Option ((List ℕ × List ℕ) × Option (List ℕ))) (j : Judgement) → IsCleanJudgement j → IsCleanJudgement (unless_repeat digest k j)
kept_clean digest None j h = h
kept_clean digest (Some k) j h = choice_judgement (bytes_eq k.0.1 digest) (Repeat k.1) (Stop (Refuse KeyReused)) tt refl

read_clean : (t : Town) (c : Caller) (author : List ℕ) (post : Post) (read : Read) → IsCleanJudgement (judge_read t c author post read)
read_clean t c author post NotJson = refl
read_clean t c author post (Bad fault) = refl
read_clean t c author post (Ready a) =
    kept_clean post.digest (repeat_under (repeats_of t author) post.key) (judge_activity t c author a)
    (broken_clean (broken_post t c author a) (Keep a) tt)

told_clean : (t : Town) (name author : List ℕ) (j : Judgement) → IsCleanJudgement j → IsClean (answer_post t name author j)
told_clean t name author (Stop a) h = h
told_clean t name author (Repeat id) h = refl
told_clean t name author (Keep a) h = refl

post_clean : (t : Town) (c : Caller) (name : List ℕ) (post : Post) (author : Option (List ℕ)) → IsClean (post_answer t c name post author)
post_clean t c name post None = refl
post_clean t c name post (Some author) =
    told_clean t name author _ (steps_clean (is_bad_key post.key) (is_nobody c) (is_self c name) post.is_typed _ (read_clean t c author post post.read))

delivery_clean : (host : Option (List ℕ)) (p : Option Peer) (there : Bool) (read : Read) → IsCleanJudgement (judge_delivery host p there read)
delivery_clean host None there read = refl
delivery_clean host (Some p) there NotJson = refl
delivery_clean host (Some p) there (Bad fault) = refl
delivery_clean host (Some p) there (Ready a) =
    choice_judgement (is_foreign host p a.actor a.id a.object) (Stop (Refuse NotOrigin)) _ refl (choice_judgement there (Repeat None) (Keep a) tt tt)

taken_clean : (j : Judgement) → IsCleanJudgement j → IsClean (answer_delivery j)
taken_clean (Stop a) h = h
taken_clean (Repeat id) h = refl
taken_clean (Keep a) h = refl

inbox_clean : (t : Town) (c : Caller) (post : Post) (owner : Option (List ℕ)) → IsClean (delivery_answer t c post owner)
inbox_clean t c post None = refl
inbox_clean t c post (Some owner) =
    taken_clean _ (steps_clean false (is_nobody c) (is_peer c) post.is_typed _ (delivery_clean t.host (peer_of t c) (is_there t owner post.read) post.read))

-- ---- each ask

-- No answer names a hidden recipient.
pub answers_clean : (t : Town) (c : Caller) (ask : Ask) → is_clean_answer (answer_of t c ask) ≡ true
answers_clean t c Nowhere = refl
answers_clean t c (WrongMethod allow) = refl
answers_clean t c (Webfinger resource) = webfinger_clean t resource
answers_clean t c (Actor name) = actor_answer_clean t.host name (id_of t name)
answers_clean t c (Collection which ask) = member_clean t c which ask (id_of t (name_of which))
answers_clean t c (Board name slug ask) = board_clean t c slug ask (id_of t name)
answers_clean t c (Activity name n) = act_clean t c (id_at t.host activity_id name n)
answers_clean t c (Object name n) = object_answer_clean t c (id_at t.host object_id name n)
answers_clean t c (Outbox name post) = post_clean t c name post (id_of t name)
answers_clean t c (Inbox name post) = inbox_clean t c post (id_of t name)
