-- A reply is a function of what the caller knows and of the ask.
use Rattle.std.proofs.Common.{◌≡◌, ℕ, Bool, true, false, List, [], ◌∷◌, length, Option, Some, None, refl, sym, ap, subst, ◌∙◌}
use Rattle.std.specs.Prelude.{◌&&◌, map, filter, option_map, if◌then◌else◌}
use Rattle.std.specs.List.{list_any, find}
use Rattle.std.specs.Str.{bytes_eq}
use Rattle.std.proofs.lemmas.List.{length-map}
use Rattle.serde_json.specs.Data.{Data, string}
use Rattle.fedi_town.specs.declared.refusal.Refusal.{Refusal}
use Rattle.fedi_town.specs.declared.refusal.Refusal.TheVariants.{NotFound, NotOwner, BadQuery, NoKey, NotOrigin}
use Rattle.fedi_objects.specs.declared.activity.Activity as activities
use Rattle.fedi_objects.specs.declared.kind.State.{State}
use Rattle.fedi_objects.specs.Forms.{activity_form}
use Rattle.fedi_model.specs.AnswerKinds.{Answer, Refuse, Document, unless_refused}
use Rattle.fedi_model.specs.Asks.{id_at, answer_of}
use Rattle.fedi_model.specs.Documents.{collection_id, embedded_form, item_form}
use Rattle.fedi_model.specs.Posting.{is_bad_key, Judgement, Stop, Repeat, Keep, judge_activity, judge_read, by_steps, answer_post, post_answer, delivery_answer, judge_delivery, answer_delivery, is_there}
use Rattle.fedi_model.specs.Reading.{activity_document, activity_or_missing, activity_answer, object_document, maker_document, object_or_missing, object_answer, is_self, is_nobody, is_peer, name_of, reading_rule, marks_rule, object_rule, part_answer, items_answer, owner_answer, member_answer, collection_answer, board_answer, resource_answer, webfinger_answer}
use Rattle.fedi_model.specs.declared.ask.Ask.{Ask}
use Rattle.fedi_model.specs.declared.ask.Ask.TheVariants.{Nowhere, WrongMethod, Webfinger, Actor, Collection, Activity, Object, Outbox, Inbox, Board}
use Rattle.fedi_model.specs.declared.ask.PageAsk.{PageAsk}
use Rattle.fedi_model.specs.declared.ask.PageAsk.TheVariants as pages
use Rattle.fedi_model.specs.declared.ask.Resource.{Resource}
use Rattle.fedi_model.specs.declared.post.Post.{Post}
use Rattle.fedi_model.specs.declared.post.Read.{Read}
use Rattle.fedi_model.specs.declared.post.Read.TheVariants.{NotJson, Bad, Ready}
use Rattle.fedi_laws.specs.Statements.{is_of_profiles}
use Rattle.fedi_laws.proofs.Alike.{IsAlike, shown_alike}
use Rattle.fedi_town.proofs.Lists.{list_any-through, filter-through, find-through, map-through}
use Rattle.fedi_laws.proofs.Pages.{page_of-map, firsts-map}
use Rattle.fedi_laws.proofs.Boards.{view_boards, view_pinned}
use Rattle.fedi_town.specs.Addressing.{is_nobody_here, is_of_town}
use Rattle.fedi_town.specs.Agreement.{SameOwn, IsSameOwn, peer_of}
use Rattle.fedi_town.specs.Boards.{board_address, board_id, board_items, boards_by, pinned_by}
use Rattle.fedi_town.specs.Collections.{owner_of, is_item, is_same_item, items, object_key, text_of, page_of}
use Rattle.fedi_town.specs.Deeds.{is_open, is_pending, deed_of}
use Rattle.fedi_town.specs.Origins.{is_foreign}
use Rattle.fedi_town.specs.Ids.{activity_id, object_id}
use Rattle.fedi_town.specs.Objects.{makes, whole_of}
use Rattle.fedi_town.specs.Relations.{blocks, ref_id, is_about, has_activity_id, is_block_of, has_block_between, is_actor, is_following}
use Rattle.fedi_town.specs.Rules.{change_rule, like_rule, announce_rule, answer_rule, undo_rule, seen_maker, seen_act, broken, broken_about}
use Rattle.fedi_town.specs.Seeing.{sees, sees_as, seen}
use Rattle.fedi_town.specs.Showing.{sight_of, id_of_caller, own_among, view}
use Rattle.fedi_town.specs.States.{can_be_undone}
use Rattle.fedi_town.specs.Towns.{Town, is_by, has_id, has_name, id_of}
use Rattle.fedi_town.specs.declared.act.Act.{Act}
use Rattle.fedi_town.specs.declared.caller.Caller.{Caller}
use Rattle.fedi_town.specs.declared.caller.Caller.TheVariants as callers
use Rattle.fedi_town.specs.declared.caller.Which.{Which}
use Rattle.fedi_town.specs.declared.caller.Which.TheVariants as whiches
use Rattle.fedi_town.specs.declared.act.Actor.{Actor as Member}
use Rattle.fedi_town.specs.declared.act.Peer.{Peer}
use Rattle.fedi_town.specs.Lists.{firsts}
use Rattle.fedi_town.specs.declared.deed.Deed.{Deed}
use Rattle.fedi_town.specs.declared.deed.Deed.TheVariants.{Create, Update, Delete, Follow, Like, Announce, Block, Accept, Reject, Undo, Other}
use Rattle.fedi_address.specs.Recipients.{is_among}
use Rattle.std.proofs.lemmas.Bool.{and_parts}
use Rattle.fedi_town.proofs.Texts.{not_both, bytes_eq-same, bytes_eq-is}

-- the members' names and ids
abbrev pub members : Town → List (List ℕ × List ℕ)
members t = map (λ a. (a.name, a.id)) t.actors

-- the id that belongs to this name
abbrev id_among : List (List ℕ × List ℕ) → List ℕ → Option (List ℕ)
id_among ms name = option_map (λ m. m.1) (find (λ m. bytes_eq m.0 name) ms)

-- what a caller knows is the same in two towns
pub record Knows (g h : Town) (c : Caller) : Type 0 where
  pub host : g.host ≡ h.host
  pub members : members g ≡ members h
  pub peer : peer_of g c ≡ peer_of h c
  pub view : view g c ≡ view h c
  pub own : IsSameOwn g h (id_of_caller h c)

-- ---- tests give the same result for an activity and for what is shown of it

made_alike : (id : List ℕ) (x y : Act) → IsAlike x y → makes id y ≡ makes id x
unfolding makes is_about
made_alike id x y a = rw (a.kind, a.state, a.about) refl

own_alike : (id : List ℕ) (x y : Act) → IsAlike x y → has_activity_id id y ≡ has_activity_id id x
unfolding has_activity_id
own_alike id x y a = rw a.own refl

by_alike : (id : List ℕ) (x y : Act) → IsAlike x y → is_by id y ≡ is_by id x
unfolding is_by
by_alike id x y a = rw a.author refl

of_alike : (id : List ℕ) (x y : Act) → IsAlike x y → is_about id y ≡ is_about id x
unfolding is_about
of_alike id x y a = rw a.about refl

block_alike : (a b : List ℕ) (x y : Act) → IsAlike x y → is_block_of a b y ≡ is_block_of a b x
unfolding is_block_of is_about is_by
block_alike a b x y k = rw (k.kind, k.state, k.about, k.author) refl

undoable_alike : (x y : Act) → IsAlike x y → can_be_undone y ≡ can_be_undone x
unfolding can_be_undone
undoable_alike x y k = rw (k.kind, k.state) refl

-- ---- rules about what is found

change_alike : (t : Town) (c : Caller) (author : List ℕ) (m : Option Act) → change_rule author (option_map (sight_of t c) m) ≡ change_rule author m
change_alike t c author None = refl
change_alike t c author (Some m) = let k = shown_alike t c m in rw (by_alike author m (sight_of t c m) k, k.buried) refl

like_alike : (t : Town) (c : Caller) (m : Option Act) → like_rule (option_map (sight_of t c) m) ≡ like_rule m
like_alike t c None = refl
like_alike t c (Some m) = rw (shown_alike t c m).buried refl

share_alike : (t : Town) (c : Caller) (m : Option Act) → announce_rule (option_map (sight_of t c) m) ≡ announce_rule m
share_alike t c None = refl
share_alike t c (Some m) = let k = shown_alike t c m in rw (k.buried, k.is_public) refl

answer_alike : (t : Town) (c : Caller) (p : State → Bool) (author : List ℕ) (m : Option Act) → answer_rule p author (option_map (sight_of t c) m) ≡ answer_rule p author m
answer_alike t c p author None = refl
answer_alike t c p author (Some m) = let k = shown_alike t c m in rw (of_alike author m (sight_of t c m) k, k.kind, k.state) refl

undo_alike : (t : Town) (c : Caller) (author : List ℕ) (m : Option Act) → undo_rule author (option_map (sight_of t c) m) ≡ undo_rule author m
undo_alike t c author None = refl
undo_alike t c author (Some m) = let k = shown_alike t c m in rw (by_alike author m (sight_of t c m) k, undoable_alike m (sight_of t c m) k) refl

marks_alike : (t : Town) (c : Caller) (m : Option Act) → marks_rule (option_map (sight_of t c) m) ≡ marks_rule m
marks_alike t c None = refl
marks_alike t c (Some m) = rw (shown_alike t c m).buried refl

-- ---- finding among what the caller sees

-- finding in a view is like finding in what is seen
view_find : (p : Act → Bool) → ((x y : Act) → IsAlike x y → p y ≡ p x) → (t : Town) (c : Caller) → find p (view t c) ≡ option_map (sight_of t c) (find p (seen t c))
view_find p alike t c = find-through (sight_of t c) p p (λ x. alike x (sight_of t c x) (shown_alike t c x)) (seen t c)

-- the result for the found activity is the result for what is shown of it
found_agrees : {R : Type 0} (p : Act → Bool) → ((x y : Act) → IsAlike x y → p y ≡ p x) → (q f k : Option Act → R) (g h : Town) (c : Caller)
    → ((m : Option Act) → q (option_map (sight_of g c) m) ≡ f m) → ((m : Option Act) → q (option_map (sight_of h c) m) ≡ k m)
    → view g c ≡ view h c → f (find p (seen g c)) ≡ k (find p (seen h c))
found_agrees p alike q f k g h c of_g of_h same =
    sym (of_g (find p (seen g c))) ∙ ap q (sym (view_find p alike g c))
    ∙ ap (λ (xs : List Act). q (find p xs)) same
    ∙ ap q (view_find p alike h c) ∙ of_h (find p (seen h c))

-- the document of what is shown, at this host
abbrev shown_document : Option (List ℕ) → Option Act → Answer
shown_document host None = Refuse NotFound
shown_document host (Some y) = Document (activity_form (is_of_town host y.author) true y.author y.activity)

act_document-shown : (t : Town) (c : Caller) (m : Option Act) → shown_document t.host (option_map (sight_of t c) m) ≡ activity_or_missing t m
unfolding activity_document sight_of
act_document-shown t c None = refl
act_document-shown t c (Some x) = refl

abbrev shown_object : Option Act → Answer
shown_object None = Refuse NotFound
shown_object (Some y) = object_document (whole_of y.activity.object)

object_document-shown : (t : Town) (c : Caller) (m : Option Act) → shown_object (option_map (sight_of t c) m) ≡ object_or_missing t m
unfolding maker_document sight_of
object_document-shown t c None = refl
object_document-shown t c (Some x) = refl

act_agrees : (g h : Town) (c : Caller) (id : Option (List ℕ)) → g.host ≡ h.host → view g c ≡ view h c → activity_answer g c id ≡ activity_answer h c id
act_agrees g h c None host same = refl
act_agrees g h c (Some id) host same =
    found_agrees (has_activity_id id) (own_alike id) (shown_document g.host) (activity_or_missing g) (activity_or_missing h) g h c (act_document-shown g c)
    (λ m. ap (λ (k : Option (List ℕ)). shown_document k (option_map (sight_of h c) m)) host ∙ act_document-shown h c m) same

object_agrees : (g h : Town) (c : Caller) (id : Option (List ℕ)) → view g c ≡ view h c → object_answer g c id ≡ object_answer h c id
object_agrees g h c None same = refl
object_agrees g h c (Some id) same =
    found_agrees (makes id) (made_alike id) shown_object (object_or_missing g) (object_or_missing h) g h c (object_document-shown g c) (object_document-shown h c) same

-- ---- collections

list_reply-map : {A B : Type 0} (f : A → B) (w : B → Data) (v : A → Data) → ((x : A) → w (f x) ≡ v x) → (ask : PageAsk) (id : List ℕ) (xs : List A)
    → part_answer ask id (length (map f xs)) (λ k. map w (page_of k (map f xs))) ≡ part_answer ask id (length xs) (λ k. map v (page_of k xs))
list_reply-map f w v same pages.Summary id xs = rw (length-map xs f) refl
list_reply-map {A} {B} f w v same (pages.Page k) id xs =
    rw (length-map xs f, page_of-map f k xs, map-through f w v same (page_of k xs)) refl
list_reply-map f w v same pages.Malformed id xs = refl

own_inbox : (b : List ℕ) (rs : List (List ℕ)) → is_among b (own_among (Some b) rs) ≡ is_among b rs
unfolding is_among
own_inbox b rs =
    elim (is_among b rs) as (λ s. is_among b rs ≡ s → is_among b (if s then b ∷ [] else []) ≡ s) [
      | true ↦ λ e. rw (bytes_eq-same b) refl
      | false ↦ λ e. refl
    ] refl

shown_recipients : (t : Town) (c : Caller) (x : Act) → (sight_of t c x).recipients ≡ own_among (id_of_caller t c) x.recipients
unfolding sight_of
shown_recipients t c x = refl

own_alone : (t : Town) (c : Caller) (b : List ℕ) (x : Act) → id_of_caller t c ≡ Some b → is_among b (sight_of t c x).recipients ≡ is_among b x.recipients
own_alone t c b x own =
    ap (is_among b) (shown_recipients t c x ∙ ap (λ (i : Option (List ℕ)). own_among i x.recipients) own) ∙ own_inbox b x.recipients

item_alike : (t : Town) (c : Caller) (which : Which) (b : List ℕ) → ((name : List ℕ) → which ≡ whiches.Inbox name → id_of_caller t c ≡ Some b) → (x : Act) → is_item which b (sight_of t c x) ≡ is_item which b x
unfolding is_item is_following is_by is_about
item_alike t c (whiches.Inbox name) b own x = own_alone t c b x (own name refl)
item_alike t c (whiches.Outbox name) b own x = let k = shown_alike t c x in rw k.author refl
item_alike t c (whiches.Followers name) b own x = let k = shown_alike t c x in rw (k.kind, k.state, k.about) refl
item_alike t c (whiches.Following name) b own x = let k = shown_alike t c x in rw (k.kind, k.state, k.author) refl
item_alike t c (whiches.Liked name) b own x = let k = shown_alike t c x in rw (k.kind, k.state, k.author) refl
item_alike t c (whiches.Likes name n) b own x = let k = shown_alike t c x in rw (k.kind, k.state, k.about) refl
item_alike t c (whiches.Shares name n) b own x = let k = shown_alike t c x in rw (k.kind, k.state, k.about) refl

object_key-alike : (t : Town) (c : Caller) (x : Act) → object_key (sight_of t c x) ≡ object_key x
object_key-alike t c x = rw (shown_alike t c x).about refl

same_item-alike : (t : Town) (c : Caller) (which : Which) (x y : Act) → is_same_item which (sight_of t c x) (sight_of t c y) ≡ is_same_item which x y
unfolding is_same_item
same_item-alike t c (whiches.Inbox name) x y = refl
same_item-alike t c (whiches.Outbox name) x y = refl
same_item-alike t c (whiches.Followers name) x y = rw ((shown_alike t c x).author, (shown_alike t c y).author) refl
same_item-alike t c (whiches.Following name) x y = rw (object_key-alike t c x, object_key-alike t c y) refl
same_item-alike t c (whiches.Liked name) x y = refl
same_item-alike t c (whiches.Likes name n) x y = refl
same_item-alike t c (whiches.Shares name n) x y = refl

-- the items of what is shown
abbrev view_list : Which → List ℕ → List Act → List Act
view_list which b ys = firsts (is_same_item which) (filter (is_item which b) ys)

view_items : (t : Town) (c : Caller) (which : Which) (b : List ℕ) → ((name : List ℕ) → which ≡ whiches.Inbox name → id_of_caller t c ≡ Some b)
    → view_list which b (view t c) ≡ map (sight_of t c) (items t c which b)
view_items t c which b own =
    ap (firsts (is_same_item which)) (filter-through (sight_of t c) (is_item which b) (is_item which b) (item_alike t c which b own) (seen t c))
    ∙ firsts-map (sight_of t c) (is_same_item which) (is_same_item which) (same_item-alike t c which) (filter (is_item which b) (seen t c))

-- an item as it is shown, from what is shown of it
abbrev shown_item : Option (List ℕ) → Which → Act → Data
shown_item host (whiches.Inbox name) y = activity_form (is_of_town host y.author) false y.author y.activity
shown_item host (whiches.Outbox name) y = activity_form (is_of_town host y.author) false y.author y.activity
shown_item host (whiches.Followers name) y = string y.author
shown_item host (whiches.Following name) y = string (object_key y)
shown_item host (whiches.Liked name) y = string (object_key y)
shown_item host (whiches.Likes name n) y = string (text_of y.activity.id)
shown_item host (whiches.Shares name n) y = string (text_of y.activity.id)

item_shown : (t : Town) (c : Caller) (which : Which) (x : Act) → shown_item t.host which (sight_of t c x) ≡ item_form t which x
unfolding embedded_form sight_of
item_shown t c (whiches.Inbox name) x = refl
item_shown t c (whiches.Outbox name) x = refl
item_shown t c (whiches.Followers name) x = refl
item_shown t c (whiches.Following name) x = ap (λ (i : List ℕ). string i) (object_key-alike t c x)
item_shown t c (whiches.Liked name) x = ap (λ (i : List ℕ). string i) (object_key-alike t c x)
item_shown t c (whiches.Likes name n) x = ap (λ (i : Option (List ℕ)). string (text_of i)) (shown_alike t c x).own
item_shown t c (whiches.Shares name n) x = ap (λ (i : Option (List ℕ)). string (text_of i)) (shown_alike t c x).own

-- the answer, from the items of what is shown
abbrev list_answer : PageAsk → Option (List ℕ) → Which → List ℕ → List Act → Answer
list_answer ask host which b ys = part_answer ask (collection_id which b) (length ys) (λ k. map (shown_item host which) (page_of k ys))

items_shown : (t : Town) (c : Caller) (which : Which) (b : List ℕ) (ask : PageAsk) → ((name : List ℕ) → which ≡ whiches.Inbox name → id_of_caller t c ≡ Some b)
    → items_answer t c which b ask ≡ list_answer ask t.host which b (view_list which b (view t c))
unfolding items_answer
items_shown t c which b ask own =
    sym (list_reply-map (sight_of t c) (shown_item t.host which) (item_form t which) (item_shown t c which) ask (collection_id which b) (items t c which b))
    ∙ ap (list_answer ask t.host which b) (sym (view_items t c which b own))

items_agree : (g h : Town) (c : Caller) (which : Which) (b : List ℕ) (ask : PageAsk) → g.host ≡ h.host → view g c ≡ view h c
    → ((name : List ℕ) → which ≡ whiches.Inbox name → id_of_caller g c ≡ Some b) → ((name : List ℕ) → which ≡ whiches.Inbox name → id_of_caller h c ≡ Some b)
    → items_answer g c which b ask ≡ items_answer h c which b ask
items_agree g h c which b ask host same own_g own_h =
    items_shown g c which b ask own_g
    ∙ ap (λ (k : Option (List ℕ)). list_answer ask k which b (view_list which b (view g c))) host
    ∙ ap (λ (ys : List Act). list_answer ask h.host which b (view_list which b ys)) same
    ∙ sym (items_shown h c which b ask own_h)

-- the rule for an object, if the collection is an object's
rule_on_object : (g h : Town) (c : Caller) (which : Which) (b : List ℕ) → view g c ≡ view h c → object_rule g c which b ≡ object_rule h c which b
rule_on_object g h c (whiches.Inbox name) b same = refl
rule_on_object g h c (whiches.Outbox name) b same = refl
rule_on_object g h c (whiches.Followers name) b same = refl
rule_on_object g h c (whiches.Following name) b same = refl
rule_on_object g h c (whiches.Liked name) b same = refl
rule_on_object g h c (whiches.Likes name n) b same = found_agrees (makes b) (made_alike b) marks_rule marks_rule marks_rule g h c (marks_alike g c) (marks_alike h c) same
rule_on_object g h c (whiches.Shares name n) b same = found_agrees (makes b) (made_alike b) marks_rule marks_rule marks_rule g h c (marks_alike g c) (marks_alike h c) same

-- ---- names and ids

found_id : (name : List ℕ) (actors : List Member)
    → id_among (map (λ a. (a.name, a.id)) actors) name ≡ option_map (λ a. a.id) (find (has_name name) actors)
unfolding has_name
found_id name [] = refl
found_id name (a ∷ actors) =
    elim (bytes_eq a.name name) as (λ s. bytes_eq a.name name ≡ s
    → id_among (map (λ a. (a.name, a.id)) (a ∷ actors)) name ≡ option_map (λ a. a.id) (find (has_name name) (a ∷ actors))) [
      | true ↦ λ e. rw e refl
      | false ↦ λ e. rw e (found_id name actors)
    ] refl

known_id : (t : Town) (name : List ℕ) → id_among (members t) name ≡ id_of t name
unfolding has_name
known_id t name = found_id name t.actors

same_ids : (g h : Town) (name : List ℕ) → members g ≡ members h → id_of g name ≡ id_of h name
same_ids g h name same = sym (known_id g name) ∙ ap (λ (ms : List (List ℕ × List ℕ)). id_among ms name) same ∙ known_id h name

ids_agree : (g h : Town) (c : Caller) (name : List ℕ) → Knows g h c → id_of g name ≡ id_of h name
ids_agree g h c name agree = same_ids g h name agree.members

pub self_is : (c : Caller) (name : List ℕ) → is_self c name ≡ true → c ≡ callers.Actor name
self_is callers.Nobody name self = absurd cc
self_is (callers.Actor own) name self = ap (λ (n : List ℕ). callers.Actor n) (bytes_eq-is own name self)
self_is (callers.Peer host) name self = absurd cc

own_id : (t : Town) (c : Caller) (name b : List ℕ) → is_self c name ≡ true → id_of t name ≡ Some b → id_of_caller t c ≡ Some b
own_id t c name b self known = subst (λ (d : Caller). id_of_caller t d ≡ Some b) (sym (self_is c name self)) known

owners_agree : (g h : Town) (c : Caller) (which : Which) → Knows g h c → owner_of g which ≡ owner_of h which
owners_agree g h c (whiches.Inbox name) agree = ids_agree g h c name agree
owners_agree g h c (whiches.Outbox name) agree = ids_agree g h c name agree
owners_agree g h c (whiches.Followers name) agree = ids_agree g h c name agree
owners_agree g h c (whiches.Following name) agree = ids_agree g h c name agree
owners_agree g h c (whiches.Liked name) agree = ids_agree g h c name agree
owners_agree g h c (whiches.Likes name n) agree = rw agree.host refl
owners_agree g h c (whiches.Shares name n) agree = rw agree.host refl

-- ---- members

resource_agrees : (g h : Town) (name : Option (List ℕ)) (rels : List (List ℕ)) → g.host ≡ h.host → members g ≡ members h → resource_answer g name rels ≡ resource_answer h name rels
resource_agrees g h None rels host same = refl
resource_agrees g h (Some name) rels host same = rw (host, same_ids g h name same) refl

webfinger_agrees : (g h : Town) (resource : Option Resource) → g.host ≡ h.host → members g ≡ members h → webfinger_answer g resource ≡ webfinger_answer h resource
webfinger_agrees g h None host same = refl
webfinger_agrees g h (Some r) host same = resource_agrees g h r.name r.rels host same

-- who a member is depends only on the host and the members
pub profiles_agree : (g h : Town) (c d : Caller) (ask : Ask) → g.host ≡ h.host → members g ≡ members h → is_of_profiles ask ≡ true → answer_of g c ask ≡ answer_of h d ask
profiles_agree g h c d Nowhere host same is = absurd cc
profiles_agree g h c d (WrongMethod allow) host same is = absurd cc
profiles_agree g h c d (Webfinger resource) host same is = webfinger_agrees g h resource host same
profiles_agree g h c d (Actor name) host same is = rw (host, same_ids g h name same) refl
profiles_agree g h c d (Collection which ask) host same is = absurd cc
profiles_agree g h c d (Board name slug ask) host same is = absurd cc
profiles_agree g h c d (Activity name n) host same is = absurd cc
profiles_agree g h c d (Object name n) host same is = absurd cc
profiles_agree g h c d (Outbox name post) host same is = absurd cc
profiles_agree g h c d (Inbox name post) host same is = absurd cc

-- ---- reading a collection

by_rule : (c : Caller) (which : Which) (x y : Answer) → (((name : List ℕ) → which ≡ whiches.Inbox name → is_self c name ≡ true) → x ≡ y)
    → unless_refused (reading_rule c which) x ≡ unless_refused (reading_rule c which) y
by_rule c (whiches.Inbox name) x y h =
    elim (is_nobody c) as (λ n. unless_refused (if n then Some NoKey else (if is_self c name then None else Some NotOwner)) x ≡ unless_refused (if n then Some NoKey else (if is_self c name then None else Some NotOwner)) y) [
      | true ↦ refl
      | false ↦ elim (is_self c name) as (λ s. is_self c name ≡ s → unless_refused (if s then None else Some NotOwner) x ≡ unless_refused (if s then None else Some NotOwner) y) [
        | true ↦ λ e. h (λ other is. let same : name ≡ other = cc in subst (λ (n : List ℕ). is_self c n ≡ true) same e)
        | false ↦ λ e. refl
      ] refl
    ]
by_rule c (whiches.Outbox name) x y h = h (λ other e. absurd cc)
by_rule c (whiches.Followers name) x y h = h (λ other e. absurd cc)
by_rule c (whiches.Following name) x y h = h (λ other e. absurd cc)
by_rule c (whiches.Liked name) x y h = h (λ other e. absurd cc)
by_rule c (whiches.Likes name n) x y h = h (λ other e. absurd cc)
by_rule c (whiches.Shares name n) x y h = h (λ other e. absurd cc)

-- whoever reads an inbox reads their own
inbox_own : (t : Town) (c : Caller) (which : Which) (b : List ℕ) → owner_of t which ≡ Some b → ((name : List ℕ) → which ≡ whiches.Inbox name → is_self c name ≡ true)
    → (name : List ℕ) → which ≡ whiches.Inbox name → id_of_caller t c ≡ Some b
inbox_own t c which b owner self name is =
    let known : id_of t name ≡ Some b = sym (ap (owner_of t) is) ∙ owner in
    own_id t c name b (self name is) known

owner_agrees : (g h : Town) (c : Caller) (which : Which) (ask : PageAsk) (id : Option (List ℕ)) → Knows g h c → owner_of g which ≡ id → owner_of h which ≡ id
    → owner_answer g c which ask id ≡ owner_answer h c which ask id
owner_agrees g h c which ask None agree of_g of_h = refl
owner_agrees g h c which ask (Some b) agree of_g of_h =
    by_rule c which _ _ (λ self.
    ap (λ (r : Option Refusal). unless_refused r (items_answer g c which b ask)) (rule_on_object g h c which b agree.view)
    ∙ ap (unless_refused (object_rule h c which b))
    (items_agree g h c which b ask agree.host agree.view (inbox_own g c which b of_g self) (inbox_own h c which b of_h self)))

well_formed : (b : Bool) (x y : Answer) → x ≡ y → (if b then Refuse BadQuery else x) ≡ (if b then Refuse BadQuery else y)
well_formed b x y same = rw same refl

member_agrees : (g h : Town) (c : Caller) (which : Which) (ask : PageAsk) (id : Option (List ℕ)) → Knows g h c → member_answer g c which ask id ≡ member_answer h c which ask id
member_agrees g h c which ask None agree = refl
member_agrees g h c which ask (Some id) agree =
    well_formed _ _ _ (ap (owner_answer g c which ask) (owners_agree g h c which agree)
    ∙ owner_agrees g h c which ask (owner_of h which) agree (owners_agree g h c which agree) refl)

collection_agrees : (g h : Town) (c : Caller) (which : Which) (ask : PageAsk) → Knows g h c → collection_answer g c which ask ≡ collection_answer h c which ask
collection_agrees g h c which ask agree =
    ap (member_answer g c which ask) (ids_agree g h c (name_of which) agree) ∙ member_agrees g h c which ask (id_of h (name_of which)) agree

-- ---- reading a collection that a member makes

board_items_agree : (g h : Town) (c : Caller) (author : List ℕ) (slug : Option (List ℕ)) → view g c ≡ view h c → board_items g c author slug ≡ board_items h c author slug
board_items_agree g h c author None same = view_boards g c author ∙ ap (boards_by author) same ∙ sym (view_boards h c author)
board_items_agree g h c author (Some slug) same =
    view_pinned g c author slug ∙ ap (pinned_by author (board_id author slug)) same ∙ sym (view_pinned h c author slug)

board_agrees : (g h : Town) (c : Caller) (slug : Option (List ℕ)) (ask : PageAsk) (author : Option (List ℕ)) → view g c ≡ view h c
    → board_answer g c slug ask author ≡ board_answer h c slug ask author
board_agrees g h c slug ask None same = refl
board_agrees g h c slug ask (Some author) same =
    ap (λ (ids : List (List ℕ)). part_answer ask (board_address author slug) (length ids) (λ k. map string (page_of k ids)))
    (board_items_agree g h c author slug same)

-- ---- a member's post

-- the ids of members are known
actor_known : (t : Town) (id : List ℕ) → is_actor t id ≡ list_any (λ m. bytes_eq m.1 id) (members t)
unfolding is_actor has_id
actor_known t id = sym (list_any-through (λ a. (a.name, a.id)) (λ m. bytes_eq m.1 id) (has_id id) (λ a. refl) t.actors)

nobody_agrees : (g h : Town) (c : Caller) (id : List ℕ) → Knows g h c → is_nobody_here g id ≡ is_nobody_here h id
unfolding is_nobody_here
nobody_agrees g h c id agree = rw (actor_known g id, actor_known h id, agree.host, agree.members) refl

-- each element that passes is kept
any_kept : {A : Type 0} (p s : A → Bool) → ((x : A) → p x ≡ true → s x ≡ true) → (xs : List A) → list_any p (filter s xs) ≡ list_any p xs
any_kept p s all [] = refl
any_kept p s all (x ∷ xs) =
    elim (s x) as (λ b. s x ≡ b → list_any p (filter s (x ∷ xs)) ≡ list_any p (x ∷ xs)) [
      | true ↦ λ e. rw (e, any_kept p s all xs) refl
      | false ↦ λ e. elim (p x) as (λ b. p x ≡ b → list_any p (filter s (x ∷ xs)) ≡ list_any p (x ∷ xs)) [
        | true ↦ λ f. absurd (not_both (s x) (all x f) e)
        | false ↦ λ f. rw (e, f) (any_kept p s all xs)
      ] refl
    ] refl

block_is_own : (a b : List ℕ) (x : Act) → is_block_of a b x ≡ true → is_by a x ≡ true
unfolding is_block_of
block_is_own a b x e = (and_parts (is_by a x) (is_about b x) (and_parts _ (is_by a x && is_about b x) e).1).0

own_seen_as : (t : Town) (a : List ℕ) (x : Act) → is_by a x ≡ true → sees_as t a x ≡ true
unfolding sees_as
own_seen_as t a x own = rw own refl

own_seen : (t : Town) (name a : List ℕ) (x : Act) → id_of t name ≡ Some a → is_by a x ≡ true → sees t (callers.Actor name) x ≡ true
unfolding sees
own_seen t name a x id own = rw id (own_seen_as t a x own)

-- the caller's own Blocks are in the view
own_blocks : (t : Town) (name a b : List ℕ) → id_of t name ≡ Some a → blocks t a b ≡ list_any (is_block_of a b) (view t (callers.Actor name))
own_blocks t name a b id =
    let c : Caller = callers.Actor name in
    sym (any_kept (is_block_of a b) (sees t c) (λ x e. own_seen t name a x id (block_is_own a b x e)) t.acts)
    ∙ sym (list_any-through (sight_of t c) (is_block_of a b) (is_block_of a b) (λ x. block_alike a b x (sight_of t c x) (shown_alike t c x)) (seen t c))

between_agrees : (g h : Town) (name a b : List ℕ) → view g (callers.Actor name) ≡ view h (callers.Actor name) → id_of g name ≡ Some a → id_of h name ≡ Some a
    → SameOwn g h a → has_block_between g a b ≡ has_block_between h a b
unfolding has_block_between
between_agrees g h name a b same of_g of_h own =
    rw (own_blocks g name a b of_g, own_blocks h name a b of_h, same, own.blockers b) refl

-- what a post depends on
record Same (g h : Town) (name a : List ℕ) : Type 0 where
  agree : Knows g h (callers.Actor name)
  of_g : id_of g name ≡ Some a
  of_h : id_of h name ≡ Some a
  own : SameOwn g h a

maker_agrees : {R : Type 0} (rule : Option Act → R) (c : Caller) (alike : (t : Town) (m : Option Act) → rule (option_map (sight_of t c) m) ≡ rule m)
    → (g h : Town) (id : List ℕ) → view g c ≡ view h c → rule (seen_maker g c id) ≡ rule (seen_maker h c id)
maker_agrees rule c alike g h id same = found_agrees (makes id) (made_alike id) rule rule rule g h c (alike g) (alike h) same

own_agrees : {R : Type 0} (rule : Option Act → R) (c : Caller) (alike : (t : Town) (m : Option Act) → rule (option_map (sight_of t c) m) ≡ rule m)
    → (g h : Town) (id : List ℕ) → view g c ≡ view h c → rule (seen_act g c id) ≡ rule (seen_act h c id)
own_agrees rule c alike g h id same = found_agrees (has_activity_id id) (own_alike id) rule rule rule g h c (alike g) (alike h) same

broken_agrees : (g h : Town) (name a : List ℕ) (d : Deed) (id : List ℕ) → Same g h name a
    → broken_about g (callers.Actor name) a d id ≡ broken_about h (callers.Actor name) a d id
unfolding broken_about
broken_agrees g h name a Create id s = refl
broken_agrees g h name a Update id s = maker_agrees (change_rule a) (callers.Actor name) (λ t m. change_alike t (callers.Actor name) a m) g h id s.agree.view
broken_agrees g h name a Delete id s = maker_agrees (change_rule a) (callers.Actor name) (λ t m. change_alike t (callers.Actor name) a m) g h id s.agree.view
broken_agrees g h name a Follow id s =
    rw (nobody_agrees g h (callers.Actor name) id s.agree, between_agrees g h name a id s.agree.view s.of_g s.of_h s.own) refl
broken_agrees g h name a Like id s = maker_agrees like_rule (callers.Actor name) (λ t m. like_alike t (callers.Actor name) m) g h id s.agree.view
broken_agrees g h name a Announce id s = maker_agrees announce_rule (callers.Actor name) (λ t m. share_alike t (callers.Actor name) m) g h id s.agree.view
broken_agrees g h name a Block id s = rw (nobody_agrees g h (callers.Actor name) id s.agree) refl
broken_agrees g h name a Accept id s = own_agrees (answer_rule is_pending a) (callers.Actor name) (λ t m. answer_alike t (callers.Actor name) is_pending a m) g h id s.agree.view
broken_agrees g h name a Reject id s = own_agrees (answer_rule is_open a) (callers.Actor name) (λ t m. answer_alike t (callers.Actor name) is_open a m) g h id s.agree.view
broken_agrees g h name a Undo id s = own_agrees (undo_rule a) (callers.Actor name) (λ t m. undo_alike t (callers.Actor name) a m) g h id s.agree.view
broken_agrees g h name a Other id s = refl

rule_agrees : (g h : Town) (name a : List ℕ) (d : Deed) (id : Option (List ℕ)) → Same g h name a → broken g (callers.Actor name) a d id ≡ broken h (callers.Actor name) a d id
rule_agrees g h name a d None s = refl
rule_agrees g h name a d (Some id) s = broken_agrees g h name a d id s

judged_agrees : (g h : Town) (name a : List ℕ) (x : activities.Activity) → Same g h name a → judge_activity g (callers.Actor name) a x ≡ judge_activity h (callers.Actor name) a x
judged_agrees g h name a x s = rw (rule_agrees g h name a (deed_of x.kind) (ref_id x.object) s, s.own.count) refl

read_agrees : (g h : Town) (name a : List ℕ) (post : Post) (read : Read) → Same g h name a → judge_read g (callers.Actor name) a post read ≡ judge_read h (callers.Actor name) a post read
read_agrees g h name a post NotJson s = refl
read_agrees g h name a post (Bad fault) s = refl
read_agrees g h name a post (Ready x) s = rw (s.own.repeats, judged_agrees g h name a x s) refl

told_agrees : (g h : Town) (name a : List ℕ) (v : Judgement) → Same g h name a → answer_post g name a v ≡ answer_post h name a v
told_agrees g h name a (Stop r) s = refl
told_agrees g h name a (Repeat l) s = refl
told_agrees g h name a (Keep x) s = rw (s.own.count, s.agree.host) refl

same_for : (g h : Town) (c : Caller) (name a : List ℕ) → Knows g h c → is_self c name ≡ true → id_of g name ≡ Some a → id_of h name ≡ Some a → Same g h name a
same_for g h c name a agree self of_g of_h =
    let mine : Knows g h (callers.Actor name) = subst (λ (d : Caller). Knows g h d) (self_is c name self) agree in
    record { agree = mine; of_g = of_g; of_h = of_h; own = subst (λ (i : Option (List ℕ)). IsSameOwn g h i) of_h mine.own }

-- only the author passes the steps before the body is read
steps_agree : (g h : Town) (name a : List ℕ) (key nobody self typed : Bool) (v w : Judgement) → (self ≡ true → answer_post g name a v ≡ answer_post h name a w)
    → answer_post g name a (by_steps key nobody self typed v) ≡ answer_post h name a (by_steps key nobody self typed w)
steps_agree g h name a true nobody self typed v w k = refl
steps_agree g h name a false true self typed v w k = refl
steps_agree g h name a false false false typed v w k = refl
steps_agree g h name a false false true false v w k = refl
steps_agree g h name a false false true true v w k = k refl

post_agrees : (g h : Town) (c : Caller) (name : List ℕ) (post : Post) (a : Option (List ℕ)) → Knows g h c
    → id_of g name ≡ a → id_of h name ≡ a → post_answer g c name post a ≡ post_answer h c name post a
post_agrees g h c name post None agree of_g of_h = refl
post_agrees g h c name post (Some a) agree of_g of_h =
    steps_agree g h name a (is_bad_key post.key) (is_nobody c) (is_self c name) post.is_typed _ _ (λ self.
    let s : Same g h name a = same_for g h c name a agree self of_g of_h in
    subst (λ (d : Caller). answer_post g name a (judge_read g d a post post.read) ≡ answer_post h name a (judge_read h d a post post.read)) (sym (self_is c name self))
    (told_agrees g h name a (judge_read g (callers.Actor name) a post post.read) s ∙ ap (answer_post h name a) (read_agrees g h name a post post.read s)))

-- ---- a peer's post

taken_both : (k l : Bool) (a : activities.Activity) → answer_delivery (if k then Repeat None else Keep a) ≡ answer_delivery (if l then Repeat None else Keep a)
taken_both true true a = refl
taken_both true false a = refl
taken_both false true a = refl
taken_both false false a = refl

-- whether it was known makes no difference
known_alike : (host : Option (List ℕ)) (p : Option Peer) (k l nobody peer typed : Bool) (read : Read)
    → answer_delivery (by_steps false nobody peer typed (judge_delivery host p k read)) ≡ answer_delivery (by_steps false nobody peer typed (judge_delivery host p l read))
known_alike host p k l true peer typed read = refl
known_alike host p k l false false typed read = refl
known_alike host p k l false true false read = refl
known_alike host None k l false true true read = refl
known_alike host (Some p) k l false true true NotJson = refl
known_alike host (Some p) k l false true true (Bad fault) = refl
known_alike host (Some p) k l false true true (Ready a) =
    elim (is_foreign host p a.actor a.id a.object) as (λ f. answer_delivery (if f then Stop (Refuse NotOrigin) else (if k then Repeat None else Keep a)) ≡ answer_delivery (if f then Stop (Refuse NotOrigin) else (if l then Repeat None else Keep a))) [
      | true ↦ refl
      | false ↦ taken_both k l a
    ]

inbox_agrees : (g h : Town) (c : Caller) (post : Post) (owner : Option (List ℕ)) → Knows g h c → delivery_answer g c post owner ≡ delivery_answer h c post owner
inbox_agrees g h c post None agree = refl
inbox_agrees g h c post (Some owner) agree =
    rw (agree.peer, agree.host) (known_alike h.host (peer_of h c) (is_there g owner post.read) (is_there h owner post.read) (is_nobody c) (is_peer c) post.is_typed post.read)

-- ---- each ask

-- Towns that are the same to a caller give the caller the same answer.
pub answers_agree : (g h : Town) (c : Caller) (ask : Ask) → Knows g h c → answer_of g c ask ≡ answer_of h c ask
answers_agree g h c Nowhere agree = refl
answers_agree g h c (WrongMethod allow) agree = refl
answers_agree g h c (Webfinger resource) agree = webfinger_agrees g h resource agree.host agree.members
answers_agree g h c (Actor name) agree = rw (agree.host, ids_agree g h c name agree) refl
answers_agree g h c (Collection which ask) agree = collection_agrees g h c which ask agree
answers_agree g h c (Board name slug ask) agree =
    ap (board_answer g c slug ask) (ids_agree g h c name agree) ∙ board_agrees g h c slug ask (id_of h name) agree.view
answers_agree g h c (Activity name number) agree =
    ap (λ (k : Option (List ℕ)). activity_answer g c (id_at k activity_id name number)) agree.host ∙ act_agrees g h c (id_at h.host activity_id name number) agree.host agree.view
answers_agree g h c (Object name number) agree =
    ap (λ (k : Option (List ℕ)). object_answer g c (id_at k object_id name number)) agree.host ∙ object_agrees g h c (id_at h.host object_id name number) agree.view
answers_agree g h c (Outbox name post) agree =
    let id : id_of g name ≡ id_of h name = ids_agree g h c name agree in
    ap (post_answer g c name post) id ∙ post_agrees g h c name post (id_of h name) agree id refl
answers_agree g h c (Inbox name post) agree =
    ap (delivery_answer g c post) (ids_agree g h c name agree) ∙ inbox_agrees g h c post (id_of h name) agree
