-- A document that names an inbox is that of a member.
use Rattle.std.proofs.Common.{◌≡◌, ℕ, zero, suc, ◌+◌, ◌^◌, ◌<◌, ◌≤◌, Bool, true, false, List, []}
use Rattle.std.proofs.Common.{◌∷◌, ◌++◌, length, Option, Some, None, refl, sym, ap, ◌∙◌, subst, inl}
use Rattle.std.proofs.Common.{inr, ⊎_elim, arith, lit<, nat_eq, eq-eqb}
use Rattle.std.specs.Prelude.{◌⊎◌, ◌&&◌, ◌||◌, ◌==◌, codes, decimal, map, filter, nat_le, is_some}
use Rattle.std.specs.Prelude.{option_to_list, Ok, Err, Result, if◌then◌else◌}
use Rattle.std.specs.Fmt.{digits}
use Rattle.std.specs.List.{fold}
use Rattle.std.specs.Str.{bytes_eq}
use Rattle.std.proofs.lemmas.Bool.{and_parts}
use Rattle.serde_json.specs.Data.{Data, number, unsigned, string, array, object, Members}
use Rattle.serde_json.specs.Data.{no_members, put, depth}
use Rattle.serde_json.specs.Find.{get, get_member, as_object}
use Rattle.serde_json.specs.Read.{read}
use Rattle.json.specs.Json.{value}
use Rattle.json.specs.Lex.{lex, punctuate}
use Rattle.serde_json.specs.View.{items_of}
use Rattle.serde_json.specs.Written.{compact_text}
use Rattle.serde_json.proofs.Numbers.{number_of-decimal}
use Rattle.serde_json.proofs.Views.{get_member-put, get_member-put_other}
use Rattle.json.proofs.Printed.Decimals.{IsNumber-decimal}
use Rattle.fedi_address.specs.Names.{is_name}
use Rattle.fedi_address.specs.Recipients.{add_new, is_among}
use Rattle.fedi_delivery.specs.Replies.{HasHead, IsFoundIn, NamesInbox, inbox_in, inbox_of}
use Rattle.fedi_delivery.specs.declared.replies.Found.TheVariants.{Inbox as FoundInbox}
use Rattle.fedi_model.specs.declared.ask.Ask.{Ask}
use Rattle.fedi_model.specs.declared.ask.Ask.TheVariants as asks
use Rattle.fedi_model.specs.declared.ask.PageAsk.{PageAsk}
use Rattle.fedi_model.specs.declared.ask.PageAsk.TheVariants.{Summary, Page, Malformed}
use Rattle.fedi_model.specs.declared.ask.Resource.{Resource}
use Rattle.fedi_model.specs.declared.post.Post.{Post}
use Rattle.fedi_model.specs.declared.post.Read.{Read}
use Rattle.fedi_model.specs.declared.post.Read.TheVariants.{NotJson, Bad, Ready}
use Rattle.fedi_model.specs.declared.reply.Form.{Form}
use Rattle.fedi_model.specs.declared.reply.Form.TheVariants as forms
use Rattle.fedi_model.specs.declared.reply.Reply.{Reply}
use Rattle.fedi_model.specs.AnswerKinds.{Answer, Refuse, Disallow, Document, Tombstone, Created}
use Rattle.fedi_model.specs.AnswerKinds.{Accepted, unless_refused}
use Rattle.fedi_model.specs.Answers.{AnswersTo, caller_of}
use Rattle.fedi_model.specs.Asks.{answer_of, id_at}
use Rattle.fedi_model.specs.Documents.{actor_form, jrd_form, links_of, self_link, summary_form}
use Rattle.fedi_model.specs.Documents.{with_ends, page_form, with_next, with_prev, page_id}
use Rattle.fedi_model.specs.Documents.{item_form, embedded_form}
use Rattle.fedi_model.specs.Posting.{Judgement, Stop, Repeat, Keep, by_steps, judge_post}
use Rattle.fedi_model.specs.Posting.{judge_read, judge_activity, unless_broken, unless_repeat}
use Rattle.fedi_model.specs.Posting.{answer_post, post_answer, answer_delivery, delivery_answer}
use Rattle.fedi_model.specs.Posting.{judge_inbox, is_bad_key}
use Rattle.fedi_model.specs.Reading.{actor_or_missing, profile_or_missing, resource_answer}
use Rattle.fedi_model.specs.Reading.{webfinger_answer, activity_document, activity_or_missing}
use Rattle.fedi_model.specs.Reading.{activity_answer, object_document, maker_document}
use Rattle.fedi_model.specs.Reading.{object_or_missing, object_answer, part_answer, items_answer}
use Rattle.fedi_model.specs.Reading.{owner_answer, member_answer, reading_rule, object_rule}
use Rattle.fedi_model.specs.Reading.{is_malformed, name_of, is_nobody, is_self, board_answer}
use Rattle.fedi_model.specs.Replies.{reply, reply_of, showing}
use Rattle.fedi_model.specs.ReplyText.{reply_text, body_text}
use Rattle.fedi_objects.specs.Forms.{activity_form, object_form, object_members, live_members}
use Rattle.fedi_objects.specs.Forms.{tombstone_members, with_context, with_text, with_audience}
use Rattle.fedi_objects.specs.Forms.{with_words, with_links, with_id, with_collections}
use Rattle.fedi_objects.specs.Forms.{kind_members, with_activity_links, activity_kind_members}
use Rattle.fedi_objects.specs.Forms.{tag_form, is_tombstone}
use Rattle.fedi_objects.specs.Kinds.{kind_name}
use Rattle.fedi_objects.specs.declared.activity.Activity.{Activity}
use Rattle.fedi_objects.specs.declared.object.Object.{Object}
use Rattle.fedi_reading.specs.Activities.{reads_address}
use Rattle.fedi_reading.specs.Actors.{reads_actor, reads_members, reads_id, reads_inbox}
use Rattle.fedi_reading.specs.Actors.{reads_names}
use Rattle.fedi_reading.specs.Properties.{property, reference_at, text_at}
use Rattle.fedi_address.specs.Iris.{IsIri, host_of}
use Rattle.fedi_reading.specs.declared.actors.ActorDocument.{ActorDocument}
use Rattle.fedi_town.proofs.IdsTown.{found_any}
use Rattle.fedi_town.proofs.People.{named_is}
use Rattle.fedi_town.proofs.Sound.{town_sound}
use Rattle.fedi_town.proofs.Texts.{bytes_eq-is}
use Rattle.fedi_town.specs.Addressing.{is_of_town}
use Rattle.fedi_town.specs.Boards.{board_address, board_id, board_items, is_filled_by, is_pin_of}
use Rattle.fedi_town.specs.Boards.{is_remove, opens_board, target_key, with_pin}
use Rattle.fedi_town.specs.Collections.{items, highest, page_of, is_item, is_same_item, object_key}
use Rattle.fedi_town.specs.Collections.{owner_of}
use Rattle.fedi_town.specs.Histories.{town}
use Rattle.fedi_town.specs.Ids.{actor_id, inbox_id, outbox_id, followers_id, following_id, liked_id}
use Rattle.fedi_town.specs.Ids.{activity_id, object_id}
use Rattle.fedi_town.specs.Legal.{IsLegal}
use Rattle.fedi_town.specs.Lists.{firsts, differs}
use Rattle.fedi_town.specs.Objects.{whole_of}
use Rattle.fedi_town.specs.Rules.{broken_post, seen_act, seen_maker}
use Rattle.fedi_town.specs.Seeing.{seen, sees}
use Rattle.fedi_town.specs.Showing.{shown_activity}
use Rattle.fedi_town.specs.Towns.{Town, has_name, id_of}
use Rattle.fedi_town.specs.declared.act.Act.{Act}
use Rattle.fedi_town.specs.declared.caller.Caller.{Caller}
use Rattle.fedi_town.specs.declared.caller.Which.{Which}
use Rattle.fedi_town.specs.declared.caller.Which.TheVariants as which
use Rattle.fedi_town.specs.declared.refusal.Refusal.{Refusal}
use Rattle.fedi_town.specs.declared.refusal.Refusal.TheVariants.{NotFound, NotOwner, BadBody}
use Rattle.fedi_town.specs.declared.refusal.Refusal.TheVariants.{WrongType, NoKey, BadQuery}
use Rattle.fedi_town.specs.declared.refusal.Refusal.TheVariants.{KeyReused, WrongMethod}
use Rattle.fedi_town.specs.declared.refusal.Refusal.TheVariants.{JournalFull}
use Rattle.fedi_objects.specs.declared.entry.Entry.{Entry}
use Rattle.fedi_model.specs.declared.ask.Allow.{Allow}
use Rattle.fedi_model.specs.Documents.{collection_id}
use Rattle.fedi_worlds.proofs.Sites.{IsSite, IsServer}
use Rattle.fedi_worlds.proofs.Delivered.{JudgedBy, judged}
use Rattle.fedi_reading.specs.Plain.{IsPlain}
use Rattle.fedi_worlds.specs.Worlds.{Server}
use Rattle.fedi_reading.proofs.PlainRead.{reads_back}
use Rattle.fedi_worlds.proofs.Documents.{apart, text_other, list_other, object_other, context_other}
use Rattle.fedi_worlds.proofs.Documents.{iri_is, actor_is_iri, inbox_is_iri, reference_is, typed}
use Rattle.fedi_worlds.proofs.Documents.{worded, heard, aimed, told}
use Rattle.fedi_worlds.proofs.Invariant.{IsInboxOf}
use Rattle.fedi_worlds.proofs.Local.{DocumentsAreMembers}
use Rattle.fedi_worlds.proofs.Places.{some_is}
use Rattle.fedi_reading.proofs.PlainForms.{Good, good_put, good_none, good_string, good_context}
use Rattle.fedi_reading.proofs.PlainForms.{low_members, activity_low, object_low, AreLow, items_good}
use Rattle.fedi_reading.proofs.PlainForms.{strings_low}
use Rattle.fedi_worlds.proofs.Replies.{document_reply, body_read}
use Rattle.fedi_worlds.proofs.Statuses.{status_read, refused_bad, misshapen_bad, IsBad, is_good}

-- ---- documents without an inbox

-- the document can be read back, and names no inbox
record HasNone (d : Data) : Type 0 where
  plain : IsPlain d
  low : depth d ≤ 127
  none : get (codes "inbox") d ≡ None

abbrev q : List ℕ
q = codes "inbox"

none_activity : (local context : Bool) (author : List ℕ) (a : Activity)
    → get q (activity_form local context author a) ≡ None
unfolding activity_form with_activity_links with_audience with_words activity_kind_members
none_activity local context author a =
    context_other q context (put (codes "actor") (string author) (told local a)) refl
    ∙ (get_member-put_other q (codes "actor") (string author) (told local a)
    (apart q (codes "actor") refl)
    ∙ (text_other q (codes "id") a.id (aimed local a) refl
    ∙ (text_other q (codes "inReplyTo") a.in_reply_to _ refl
    ∙ (text_other q (codes "target") a.target _ refl
    ∙ (object_other q local a.object (heard a) refl
    ∙ (list_other q (codes "audience") (map string a.recipients.audience) _ refl
    ∙ (list_other q (codes "cc") (map string a.recipients.cc) _ refl
    ∙ (list_other q (codes "to") (map string a.recipients.to) (worded a) refl
    ∙ (text_other q (codes "content") a.content _ refl
    ∙ (text_other q (codes "name") a.name _ refl
    ∙ (text_other q (codes "summary") a.summary _ refl
    ∙ (list_other q (codes "tag") (map tag_form a.tags) _ refl
    ∙ (text_other q (codes "published") a.published (typed a) refl
    ∙ get_member-put_other q (codes "type") (string (kind_name a.kind)) no_members
    (apart q (codes "type") refl))))))))))))))

activity_none : (local context : Bool) (author : List ℕ) (a : Activity)
    → HasNone (activity_form local context author a)
activity_none local context author a =
    let l = activity_low local context author a in
    record {
      plain = l.plain;
      low = omega (arith, l.low);
      none = none_activity local context author a;
    }

live_none : (local : Bool) (o : Object) → get_member q (live_members local o) ≡ None
unfolding with_links with_id with_collections with_audience with_words kind_members
live_none local o =
    text_other q (codes "attributedTo") o.attributed_to _ refl
    ∙ (text_other q (codes "inReplyTo") o.in_reply_to _ refl
    ∙ (text_other q (codes "url") o.url _ refl
    ∙ (text_other q (codes "id") o.id _ refl
    ∙ (collections_other local o.id _
    ∙ (list_other q (codes "audience") (map string o.recipients.audience) _ refl
    ∙ (list_other q (codes "cc") (map string o.recipients.cc) _ refl
    ∙ (list_other q (codes "to") (map string o.recipients.to) _ refl
    ∙ (text_other q (codes "content") o.content _ refl
    ∙ (text_other q (codes "name") o.name _ refl
    ∙ (text_other q (codes "summary") o.summary _ refl
    ∙ (list_other q (codes "tag") (map tag_form o.tags) _ refl
    ∙ (text_other q (codes "published") o.published _ refl
    ∙ (get_member-put_other q (codes "type") (string o.kind)
    (with_text (codes "updated") o.updated no_members) (apart q (codes "type") refl)
    ∙ text_other q (codes "updated") o.updated no_members refl)))))))))))))
  where
    collections_other : (local : Bool) (id : Option (List ℕ)) (ms : Members)
        → get_member q (with_collections local id ms) ≡ get_member q ms
    collections_other true (Some id) ms =
        get_member-put_other q (codes "likes") _
        (put (codes "shares") (string (id ++ codes "/shares")) ms) (apart q (codes "likes") refl)
        ∙ get_member-put_other q (codes "shares") _ ms (apart q (codes "shares") refl)
    collections_other true None ms = refl
    collections_other false id ms = refl

tombstone_none : (o : Object) → get_member q (tombstone_members o) ≡ None
unfolding tombstone_members
tombstone_none o =
    text_other q (codes "deleted") o.deleted _ refl
    ∙ (text_other q (codes "formerType") o.former_kind _ refl
    ∙ (text_other q (codes "id") o.id _ refl
    ∙ get_member-put_other q (codes "type") (string o.kind) no_members
    (apart q (codes "type") refl)))

object_none : (o : Object) → HasNone (object_form true true o)
unfolding object_form
object_none o =
    let l = object_low true true o in
    record {
      plain = l.plain;
      low = omega (arith, l.low);
      none = context_other q true (object_members true o) refl
          ∙ elim (is_tombstone o) as (λ b.
          get_member q (if b then tombstone_members o else live_members true o) ≡ None) [
            | true ↦ tombstone_none o
            | false ↦ live_none true o
          ];
    }

link_low : (id : List ℕ) (rels : List (List ℕ)) → AreLow 1 (links_of id rels)
link_low id rels =
    elim (length rels == 0 || is_among (codes "self") rels) as (λ b.
    AreLow 1 (if b then self_link id ∷ [] else [])) [
      | true ↦
          let g =
          good_string 0 (codes "href") id
          (put (codes "rel") (string (codes "self"))
          (put (codes "type") (string (codes "application/activity+json")) no_members))
          (good_string 0 (codes "rel") (codes "self")
          (put (codes "type") (string (codes "application/activity+json")) no_members)
          (good_string 0 (codes "type") (codes "application/activity+json") no_members
          (good_none 0))) in
          (g.ordered, omega (arith, g.low), tt)
      | false ↦ tt
    ]

list_good : (n : ℕ) (k : List ℕ) (ds : List Data) (ms : Members) → AreLow n ds → Good (suc n) ms
    → Good (suc n) (put k (array (items_of ds)) ms)
list_good n k ds ms h g =
    let r = items_good n ds h in
    good_put (suc n) k (array (items_of ds)) ms r.plain (omega (arith, r.low)) g

put_other : (k : List ℕ) (d : Data) (ms : Members) → bytes_eq q k ≡ false → get_member q ms ≡ None
    → get_member q (put k d ms) ≡ None
put_other k d ms other h = get_member-put_other q k d ms (apart q k other) ∙ h

jrd_none : (host name : List ℕ) (rels : List (List ℕ)) → HasNone (jrd_form host name rels)
unfolding jrd_form
jrd_none host name rels =
    let subject : Members =
    put (codes "subject") (string (codes "acct:" ++ (name ++ (codes "@" ++ host)))) no_members in
    let links : Members =
    put (codes "links") (array (items_of (links_of (actor_id host name) rels))) subject in
    let g =
    list_good 1 (codes "aliases") (string (actor_id host name) ∷ []) links (tt, omega arith, tt)
    (list_good 1 (codes "links") (links_of (actor_id host name) rels) subject
    (link_low (actor_id host name) rels)
    (good_string 2 (codes "subject") _ no_members (good_none 2))) in
    let l = low_members 2 _ g in
    record {
      plain = l.plain;
      low = omega (arith, l.low);
      none =
          put_other (codes "aliases") (array (items_of (string (actor_id host name) ∷ []))) links
          refl
          (put_other (codes "links") (array (items_of (links_of (actor_id host name) rels))) subject
          refl
          (put_other (codes "subject") (string (codes "acct:" ++ (name ++ (codes "@" ++ host))))
          no_members refl refl));
    }

summary_none : (id : List ℕ) (total : ℕ) → total < 2 ^ 64 → HasNone (summary_form id total)
unfolding summary_form
summary_none id total small =
    let last : Members = put (codes "type") (string (codes "OrderedCollection")) no_members in
    let count : Members = put (codes "totalItems") (number (unsigned total)) last in
    let g =
    good_put 0 (codes "totalItems") (number (unsigned total)) last
    (IsNumber-decimal total small, number_of-decimal total small) (omega arith)
    (good_string 0 (codes "type") _ no_members (good_none 0)) in
    let n =
    put_other (codes "totalItems") (number (unsigned total)) last refl
    (put_other (codes "type") (string (codes "OrderedCollection")) no_members refl refl) in
    let e = ends total count g n in
    let l =
    low_members 0 _
    (good_context 0 true _ (good_string 0 (codes "id") id (with_ends id total count) e.0)) in
    record {
      plain = l.plain;
      low = omega (arith, l.low);
      none =
          context_other q true _ refl
          ∙ put_other (codes "id") (string id) (with_ends id total count) refl e.1;
    }
  where
    ends : (total : ℕ) (ms : Members) → Good 0 ms → get_member q ms ≡ None
        → Good 0 (with_ends id total ms) × (get_member q (with_ends id total ms) ≡ None)
    ends zero ms g n = (g, n)
    ends (suc m) ms g n = (
      good_string 0 (codes "first") _ (put (codes "last") (string (page_id id 0)) ms)
          (good_string 0 (codes "last") _ ms g),
      put_other (codes "first") (string (page_id id (highest (suc m))))
          (put (codes "last") (string (page_id id 0)) ms) refl
          (put_other (codes "last") (string (page_id id 0)) ms refl n),
    )

page_none : (id : List ℕ) (k total : ℕ) (ds : List Data) → AreLow 4 ds
    → HasNone (page_form id k total ds)
unfolding page_form
page_none id k total ds h =
    let last : Members = put (codes "type") (string (codes "OrderedCollectionPage")) no_members in
    let p =
    prev (nat_le (k + 1) (highest total)) last
    (good_string 5 (codes "type") _ no_members (good_none 5))
    (put_other (codes "type") (string (codes "OrderedCollectionPage")) no_members refl refl) in
    let part : Members = put (codes "partOf") (string id) (with_prev id k (highest total) last) in
    let listed : Members = put (codes "orderedItems") (array (items_of ds)) part in
    let g =
    list_good 4 (codes "orderedItems") ds part h
    (good_string 5 (codes "partOf") id (with_prev id k (highest total) last) p.0) in
    let n =
    put_other (codes "orderedItems") (array (items_of ds)) part refl
    (put_other (codes "partOf") (string id) (with_prev id k (highest total) last) refl p.1) in
    let x = next k listed g n in
    let l =
    low_members 5 _
    (good_context 5 true _ (good_string 5 (codes "id") _ (with_next id k listed) x.0)) in
    record {
      plain = l.plain;
      low = omega (arith, l.low);
      none =
          context_other q true _ refl
          ∙ put_other (codes "id") (string (page_id id k)) (with_next id k listed) refl x.1;
    }
  where
    prev : (b : Bool) (ms : Members) → Good 5 ms → get_member q ms ≡ None
        → Good 5 (if b then put (codes "prev") (string (page_id id (k + 1))) ms else ms)
        × (get_member q (if b then put (codes "prev") (string (page_id id (k + 1))) ms else ms)
        ≡ None)
    prev true ms g n = (
      good_string 5 (codes "prev") _ ms g,
      put_other (codes "prev") (string (page_id id (k + 1))) ms refl n,
    )
    prev false ms g n = (g, n)

    next : (k : ℕ) (ms : Members) → Good 5 ms → get_member q ms ≡ None
        → Good 5 (with_next id k ms) × (get_member q (with_next id k ms) ≡ None)
    next zero ms g n = (g, n)
    next (suc j) ms g n = (
      good_string 5 (codes "next") _ ms g,
      put_other (codes "next") (string (page_id id j)) ms refl n,
    )

item_low : (t : Town) (w : Which) (x : Act)
    → IsPlain (item_form t w x) × (depth (item_form t w x) ≤ 4)
unfolding embedded_form
item_low t (which.Inbox name) x =
    let l = activity_low (is_of_town t.host x.author) false x.author (shown_activity t x) in
    (l.plain, l.low)
item_low t (which.Outbox name) x =
    let l = activity_low (is_of_town t.host x.author) false x.author (shown_activity t x) in
    (l.plain, l.low)
item_low t (which.Followers name) x = (tt, omega arith)
item_low t (which.Following name) x = (tt, omega arith)
item_low t (which.Liked name) x = (tt, omega arith)
item_low t (which.Likes name n) x = (tt, omega arith)
item_low t (which.Shares name n) x = (tt, omega arith)

items_low : (t : Town) (w : Which) (xs : List Act) → AreLow 4 (map (item_form t w) xs)
items_low t w [] = tt
items_low t w (x ∷ xs) = let l = item_low t w x in (l.0, l.1, items_low t w xs)

-- ---- how many items

filter_less : {A : Type 0} (p : A → Bool) (xs : List A) → length (filter p xs) ≤ length xs
filter_less p [] = omega arith
filter_less {A} p (x ∷ xs) =
    elim (p x) as (λ b.
    length (if b then x ∷ filter p xs else filter p xs) ≤ length (x ∷ xs)) [
      | true ↦ omega (arith, filter_less p xs)
      | false ↦ omega (arith, filter_less p xs)
    ]

firsts_less : {A : Type 0} (same : A → A → Bool) (xs : List A) → length (firsts same xs) ≤ length xs
firsts_less same [] = omega arith
firsts_less same (x ∷ xs) =
    omega (arith, filter_less (differs same x) (firsts same xs), firsts_less same xs)

fold_less : {A : Type 0} (step : List (List ℕ) → A → List (List ℕ))
    → ((ids : List (List ℕ)) (x : A) → length (step ids x) ≤ suc (length ids))
    → (ids : List (List ℕ)) (xs : List A) → length (fold step ids xs) ≤ length ids + length xs
fold_less step few ids [] = omega arith
fold_less step few ids (x ∷ xs) = omega (arith, few ids x, fold_less step few (step ids x) xs)

append_one : {A : Type 0} (xs : List A) (x : A) → length (xs ++ x ∷ []) ≡ suc (length xs)
append_one [] x = refl
append_one (y ∷ xs) x = ap suc (append_one xs x)

added_few : (ids : List (List ℕ)) (id : List ℕ) → length (add_new ids id) ≤ suc (length ids)
added_few ids id =
    elim (is_among id ids) as (λ b.
    length (if b then ids else ids ++ id ∷ []) ≤ suc (length ids)) [
      | true ↦ omega arith
      | false ↦ omega (arith, append_one ids id)
    ]

pin_few : (ids : List (List ℕ)) (x : Act) → length (with_pin ids x) ≤ suc (length ids)
pin_few ids x =
    elim (is_remove x.activity.kind) as (λ b.
    length
    (if b then filter (differs bytes_eq (object_key x)) ids else add_new ids (object_key x))
    ≤ suc (length ids)) [
      | true ↦ omega (arith, filter_less (differs bytes_eq (object_key x)) ids)
      | false ↦ added_few ids (object_key x)
    ]

map_length : {A B : Type 0} (f : A → B) (xs : List A) → length (map f xs) ≡ length xs
map_length f [] = refl
map_length f (x ∷ xs) = ap suc (map_length f xs)

-- a collection that a member makes, and the list of them, have at most as many items as there are
-- activities
board_less : (t : Town) (c : Caller) (id : List ℕ) (slug : Option (List ℕ))
    → length (board_items t c id slug) ≤ length t.acts
board_less t c id (Some slug) =
    omega (
      arith,
      fold_less with_pin pin_few [] (filter (is_pin_of id (board_id id slug)) (seen t c)),
      filter_less (is_pin_of id (board_id id slug)) (seen t c),
      filter_less (sees t c) t.acts,
    )
board_less t c id None =
    let opened : List Act = filter (opens_board id) (seen t c) in
    omega (
      arith,
      filter_less (is_filled_by id (seen t c)) (firsts bytes_eq (map target_key opened)),
      firsts_less bytes_eq (map target_key opened),
      map_length target_key opened,
      filter_less (opens_board id) (seen t c),
      filter_less (sees t c) t.acts,
    )

items_less : (t : Town) (c : Caller) (w : Which) (id : List ℕ)
    → length (items t c w id) ≤ length t.acts
items_less t c w id =
    omega (
      arith,
      firsts_less (is_same_item w) (filter (is_item w id) (seen t c)),
      filter_less (is_item w id) (seen t c),
      filter_less (sees t c) t.acts,
    )

-- ---- answers

-- another status than 200, or a member's document, or a document without an inbox
record IsOther (status : ℕ) : Type 0 where
  three : length (decimal status) ≡ 3
  small : status < 2 ^ 64
  other : status ≡ 200 → ⊥

record IsMember (host : List ℕ) (a : Answer) : Type 0 where
  name : List ℕ
  named : is_name name ≡ true
  is : a ≡ Document (actor_form host name)

record IsDocument (a : Answer) : Type 0 where
  form : Form
  d : Data
  is : reply_of a ≡ showing 200 form d
  has : HasNone d

abbrev Fits : List ℕ → Answer → Type 0
Fits host a = IsOther (reply_of a).status ⊎ (IsMember host a ⊎ IsDocument a)

not_good : (n : ℕ) → IsBad n → IsOther n
not_good n b =
    record {
      three = b.three;
      small = b.small;
      other =
          λ e. let no_good : is_good 200 ≡ false =
          subst (λ (z : ℕ). is_good z ≡ false) e b.bad in cc;
    }

refuses : (host : List ℕ) (r : Refusal) → Fits host (Refuse r)
refuses host r = inl (not_good _ (refused_bad r))

shows : (host : List ℕ) (d : Data) → HasNone d → Fits host (Document d)
shows host d h = inr (inr (record { form = forms.Activity; d = d; is = refl; has = h }))

nat_apart : (n m : ℕ) → nat_eq n m ≡ false → n ≡ m → ⊥
nat_apart n m unlike e = let same : nat_eq n m ≡ true = eq-eqb n m e in cc

created : (host : List ℕ) (id : Option (List ℕ)) → Fits host (Created id)
unfolding digits
created host id = inl (record { three = refl; small = lit< tt; other = nat_apart 201 200 refl })

accepted : (host : List ℕ) → Fits host Accepted
unfolding digits
accepted host = inl (record { three = refl; small = lit< tt; other = nat_apart 202 200 refl })

buried : (host : List ℕ) (d : Data) → Fits host (Tombstone d)
unfolding digits
buried host d = inl (record { three = refl; small = lit< tt; other = nat_apart 410 200 refl })

-- a judgement that stops is no success
abbrev StopsBad : Judgement → Type 0
StopsBad (Stop a) = IsBad (reply_of a).status
StopsBad (Repeat id) = Unit {0}
StopsBad (Keep a) = Unit {0}

broken_bad : (r : Option Refusal) (a : Activity) → StopsBad (unless_broken r (Keep a))
broken_bad None a = tt
broken_bad (Some r) a = refused_bad r

repeat_bad : (digest : List ℕ) (k : Option ((List ℕ × List ℕ) × Option (List ℕ))) (j : Judgement)
    → StopsBad j → StopsBad (unless_repeat digest k j)
repeat_bad digest None j h = h
repeat_bad digest (Some k) j h =
    elim (bytes_eq k.0.1 digest) as (λ b.
    StopsBad (if b then Repeat k.1 else Stop (Refuse KeyReused))) [
      | true ↦ tt
      | false ↦ refused_bad KeyReused
    ]

read_bad : (t : Town) (c : Caller) (author : List ℕ) (post : Post) (r : Read)
    → StopsBad (judge_read t c author post r)
read_bad t c author post NotJson = refused_bad BadBody
read_bad t c author post (Bad fault) = misshapen_bad fault
read_bad t c author post (Ready a) =
    repeat_bad post.digest _ (judge_activity t c author a) (broken_bad (broken_post t c author a) a)

steps_bad : (bad nobody allowed typed : Bool) (j : Judgement) → StopsBad j
    → StopsBad (by_steps bad nobody allowed typed j)
steps_bad true nobody allowed typed j h = refused_bad BadQuery
steps_bad false true allowed typed j h = refused_bad NoKey
steps_bad false false false typed j h = refused_bad NotOwner
steps_bad false false true false j h = refused_bad WrongType
steps_bad false false true true j h = h

post_fits : (host : List ℕ) (t : Town) (name author : List ℕ) (j : Judgement) → StopsBad j
    → Fits host (answer_post t name author j)
post_fits host t name author (Stop a) h = inl (not_good _ h)
post_fits host t name author (Repeat id) h = created host id
post_fits host t name author (Keep a) h = created host _

outbox_fits : (host : List ℕ) (t : Town) (c : Caller) (name : List ℕ) (post : Post)
    (id : Option (List ℕ)) → Fits host (post_answer t c name post id)
outbox_fits host t c name post None = refuses host NotFound
outbox_fits host t c name post (Some author) =
    post_fits host t name author (judge_post t c name author post)
    (steps_bad (is_bad_key post.key) (is_nobody c) (is_self c name) post.is_typed _
    (read_bad t c author post post.read))

delivery_fits : (host : List ℕ) (t : Town) (owner : List ℕ) (read : Read) (j : Judgement)
    → JudgedBy t owner read j → Fits host (answer_delivery j)
delivery_fits host t owner read (Stop a) h = inl (not_good _ h)
delivery_fits host t owner read (Repeat id) h = accepted host
delivery_fits host t owner read (Keep a) h = accepted host

inbox_fits : (host : List ℕ) (t : Town) (c : Caller) (post : Post) (id : Option (List ℕ))
    → Fits host (delivery_answer t c post id)
inbox_fits host t c post None = refuses host NotFound
inbox_fits host t c post (Some owner) =
    delivery_fits host t owner post.read (judge_inbox t c owner post) (judged t c owner post)

-- ---- readings

member_named : (h : List Entry) (host name id : List ℕ) → IsLegal h → (town h).host ≡ Some host
    → id_of (town h) name ≡ Some id → is_name name ≡ true
member_named h host name id legal hosted is =
    let s = town_sound h legal in
    named_is name (town h).host (town h).actors s.sound.members
    (found_any (has_name name) (town h).actors id is)

actor_fits : (host name : List ℕ) (own id : Option (List ℕ)) → own ≡ Some host
    → ((i : List ℕ) → id ≡ Some i → is_name name ≡ true) → Fits host (actor_or_missing own name id)
actor_fits host name None id at named = refuses host NotFound
actor_fits host name (Some own) None at named = refuses host NotFound
actor_fits host name (Some own) (Some i) at named =
    let same : own ≡ host = some_is own host at in
    inr (inl
    (record {
      name = name;
      named = named i refl;
      is = ap (λ (o : List ℕ). Document (actor_form o name)) same;
    }))

profile_fits : (host name : List ℕ) (rels : List (List ℕ)) (own id : Option (List ℕ))
    → Fits host (profile_or_missing own name rels id)
profile_fits host name rels None id = refuses host NotFound
profile_fits host name rels (Some own) None = refuses host NotFound
profile_fits host name rels (Some own) (Some i) =
    inr (inr
    (record {
      form = forms.Jrd;
      d = jrd_form own name rels;
      is = refl;
      has = jrd_none own name rels;
    }))

webfinger_fits : (host : List ℕ) (t : Town) (r : Option Resource) → Fits host (webfinger_answer t r)
webfinger_fits host t None = refuses host BadQuery
webfinger_fits host t (Some r) = resource_fits r.name r.rels
  where
    resource_fits : (name : Option (List ℕ)) (rels : List (List ℕ))
        → Fits host (resource_answer t name rels)
    resource_fits None rels = refuses host NotFound
    resource_fits (Some name) rels = profile_fits host name rels t.host (id_of t name)

activity_fits : (host : List ℕ) (t : Town) (c : Caller) (id : Option (List ℕ))
    → Fits host (activity_answer t c id)
unfolding activity_document
activity_fits host t c None = refuses host NotFound
activity_fits host t c (Some id) = found_fits (seen_act t c id)
  where
    found_fits : (x : Option Act) → Fits host (activity_or_missing t x)
    found_fits None = refuses host NotFound
    found_fits (Some x) =
        shows host _ (activity_none (is_of_town t.host x.author) true x.author (shown_activity t x))

document_fits : (host : List ℕ) (o : Option Object) → Fits host (object_document o)
document_fits host None = refuses host NotFound
document_fits host (Some o) =
    elim (is_tombstone o) as (λ b.
    Fits host
    (if b then Tombstone (object_form true true o) else Document (object_form true true o))) [
      | true ↦ buried host (object_form true true o)
      | false ↦ shows host (object_form true true o) (object_none o)
    ]

object_fits : (host : List ℕ) (t : Town) (c : Caller) (id : Option (List ℕ))
    → Fits host (object_answer t c id)
unfolding maker_document
object_fits host t c None = refuses host NotFound
object_fits host t c (Some id) = found_fits (seen_maker t c id)
  where
    found_fits : (x : Option Act) → Fits host (object_or_missing t x)
    found_fits None = refuses host NotFound
    found_fits (Some x) = document_fits host (whole_of (shown_activity t x).object)

rule_fits : (host : List ℕ) (r : Option Refusal) (a : Answer) → Fits host a
    → Fits host (unless_refused r a)
rule_fits host None a h = h
rule_fits host (Some r) a h = refuses host r

part_fits : (host : List ℕ) (t : Town) (w : Which) (part : PageAsk) (id : List ℕ) (xs : List Act)
    → length xs < 2 ^ 64
    → Fits host (part_answer part id (length xs) (λ k. map (item_form t w) (page_of k xs)))
part_fits host t w Summary id xs small = shows host _ (summary_none id (length xs) small)
part_fits host t w (Page k) id xs small =
    elim (nat_le k (highest (length xs))) as (λ b.
    Fits host
    (if b then Document (page_form id k (length xs) (map (item_form t w) (page_of k xs))) else
    Refuse NotFound)) [
      | true ↦
          shows host _
          (page_none id k (length xs) (map (item_form t w) (page_of k xs))
          (items_low t w (page_of k xs)))
      | false ↦ refuses host NotFound
    ]
part_fits host t w Malformed id xs small = refuses host BadQuery

board_fits : (host : List ℕ) (t : Town) (c : Caller) (slug : Option (List ℕ)) (part : PageAsk)
    (id : Option (List ℕ)) → length t.acts < 2 ^ 64 → Fits host (board_answer t c slug part id)
board_fits host t c slug part None few = refuses host NotFound
board_fits host t c slug part (Some id) few =
    texts_fit host part (board_address id slug) (board_items t c id slug)
    (omega (arith, board_less t c id slug))
  where
    texts_fit : (host : List ℕ) (part : PageAsk) (id : List ℕ) (texts : List (List ℕ))
        → length texts < 2 ^ 64
        → Fits host (part_answer part id (length texts) (λ k. map string (page_of k texts)))
    texts_fit host Summary id texts small = shows host _ (summary_none id (length texts) small)
    texts_fit host (Page k) id texts small =
        elim (nat_le k (highest (length texts))) as (λ b.
        Fits host
        (if b then Document (page_form id k (length texts) (map string (page_of k texts))) else
        Refuse NotFound)) [
          | true ↦
              shows host _
              (page_none id k (length texts) (map string (page_of k texts))
              (strings_low 4 (page_of k texts)))
          | false ↦ refuses host NotFound
        ]
    texts_fit host Malformed id texts small = refuses host BadQuery

owner_fits : (host : List ℕ) (t : Town) (c : Caller) (w : Which) (part : PageAsk)
    (id : Option (List ℕ)) → length t.acts < 2 ^ 64 → Fits host (owner_answer t c w part id)
unfolding items_answer
owner_fits host t c w part None few = refuses host NotFound
owner_fits host t c w part (Some id) few =
    rule_fits host (reading_rule c w) _
    (rule_fits host (object_rule t c w id) (items_answer t c w id part)
    (part_fits host t w part (collection_id w id) (items t c w id)
    (omega (arith, items_less t c w id))))

collection_fits : (host : List ℕ) (t : Town) (c : Caller) (w : Which) (part : PageAsk)
    (id : Option (List ℕ)) → length t.acts < 2 ^ 64 → Fits host (member_answer t c w part id)
collection_fits host t c w part None few = refuses host NotFound
collection_fits host t c w part (Some id) few =
    elim (is_malformed part) as (λ b.
    Fits host (if b then Refuse BadQuery else owner_answer t c w part (owner_of t w))) [
      | true ↦ refuses host BadQuery
      | false ↦ owner_fits host t c w part (owner_of t w) few
    ]

disallows : (host : List ℕ) (allow : Allow) → Fits host (Disallow allow)
disallows host allow =
    let b = refused_bad WrongMethod in
    inl (not_good _ (record { three = b.three; small = b.small; bad = b.bad }))

answers_fit : (s : Server) → IsServer s → (c : Caller) (ask : Ask)
    → Fits s.host (answer_of (town s.history) c ask)
answers_fit s k c asks.Nowhere = refuses s.host NotFound
answers_fit s k c (asks.WrongMethod allow) = disallows s.host allow
answers_fit s k c (asks.Webfinger resource) = webfinger_fits s.host (town s.history) resource
answers_fit s k c (asks.Actor name) =
    actor_fits s.host name (town s.history).host (id_of (town s.history) name) k.host
    (λ i is. member_named s.history s.host name i k.legal k.host is)
answers_fit s k c (asks.Collection w part) =
    collection_fits s.host (town s.history) c w part (id_of (town s.history) (name_of w)) k.few
answers_fit s k c (asks.Board name slug part) =
    board_fits s.host (town s.history) c slug part (id_of (town s.history) name) k.few
answers_fit s k c (asks.Activity name n) =
    activity_fits s.host (town s.history) c (id_at (town s.history).host activity_id name n)
answers_fit s k c (asks.Object name n) =
    object_fits s.host (town s.history) c (id_at (town s.history).host object_id name n)
answers_fit s k c (asks.Outbox name post) =
    outbox_fits s.host (town s.history) c name post (id_of (town s.history) name)
answers_fit s k c (asks.Inbox name post) =
    inbox_fits s.host (town s.history) c post (id_of (town s.history) name)

-- ---- what the lookup finds

-- nothing is read of no text
nothing_read : (d : Data) → read [] ≡ Some d → ⊥
unfolding value lex punctuate
nothing_read d e = let none : read [] ≡ None = refl in cc

no_inbox : (d : Data) (recipient inbox : List ℕ) → get (codes "inbox") d ≡ None
    → inbox_in recipient d ≡ Some inbox → ⊥
unfolding inbox_in reads_actor reference_at property
no_inbox d recipient inbox none is =
    let absent : reference_at (codes "inbox") d ≡ None = no_reference d none in
    of_members d recipient inbox (is_some (as_object d)) absent is
  where
    no_reference : (d : Data) → get (codes "inbox") d ≡ None → reference_at (codes "inbox") d ≡ None
    no_reference d e = rw e refl

    of_id : (d : Data) (recipient inbox : List ℕ) (id : Option (List ℕ))
        → reference_at (codes "inbox") d ≡ None → inbox_of recipient (reads_id d id) ≡ Some inbox
        → ⊥
    of_id d recipient inbox None absent is = cc
    of_id d recipient inbox (Some id) absent is =
        let e : inbox_of recipient (reads_inbox id d None) ≡ Some inbox = rw absent at is in cc

    of_members : (d : Data) (recipient inbox : List ℕ) (b : Bool)
        → reference_at (codes "inbox") d ≡ None
        → inbox_of recipient (reads_members d b) ≡ Some inbox → ⊥
    of_members d recipient inbox false absent is = cc
    of_members d recipient inbox true absent is =
        of_id d recipient inbox (reference_at (codes "id") d) absent is

-- ---- a member's document

-- the members, from the last on
abbrev ended : List ℕ → List ℕ → Members
ended id name =
    put (codes "liked") (string (liked_id id))
    (put (codes "outbox") (string (outbox_id id))
    (put (codes "preferredUsername") (string name)
    (put (codes "type") (string (codes "Person")) no_members)))

abbrev boxed : List ℕ → List ℕ → Members
boxed id name = put (codes "inbox") (string (inbox_id id)) (ended id name)

abbrev owned : List ℕ → List ℕ → Members
owned id name = put (codes "id") (string id) (boxed id name)

abbrev followed : List ℕ → List ℕ → Members
followed id name = put (codes "following") (string (following_id id)) (owned id name)

actor_is : (host name : List ℕ)
    → actor_form host name
    ≡ object
    (with_context true
    (put (codes "followers") (string (followers_id (actor_id host name)))
    (followed (actor_id host name) name)))
unfolding actor_form
actor_is host name = refl

front_is : (k host name : List ℕ) → bytes_eq k (codes "@context") ≡ false
    → bytes_eq k (codes "followers") ≡ false → bytes_eq k (codes "following") ≡ false
    → get k (actor_form host name) ≡ get_member k (owned (actor_id host name) name)
front_is k host name a b c =
    let id : List ℕ = actor_id host name in
    ap (get k) (actor_is host name)
    ∙ (context_other k true (put (codes "followers") (string (followers_id id)) (followed id name))
    a
    ∙ (get_member-put_other k (codes "followers") (string (followers_id id)) (followed id name)
    (apart k (codes "followers") b)
    ∙ get_member-put_other k (codes "following") (string (following_id id)) (owned id name)
    (apart k (codes "following") c)))

id_read : (host name : List ℕ)
    → reference_at (codes "id") (actor_form host name) ≡ Some (actor_id host name)
id_read host name =
    reference_is (codes "id") (actor_id host name) (actor_form host name)
    (front_is (codes "id") host name refl refl refl
    ∙ get_member-put (codes "id") (string (actor_id host name)) (boxed (actor_id host name) name))

inbox_read : (host name : List ℕ)
    → reference_at (codes "inbox") (actor_form host name) ≡ Some (inbox_id (actor_id host name))
inbox_read host name =
    let id : List ℕ = actor_id host name in
    reference_is (codes "inbox") (inbox_id id) (actor_form host name)
    (front_is (codes "inbox") host name refl refl refl
    ∙ (get_member-put_other (codes "inbox") (codes "id") (string id) (boxed id name)
    (apart (codes "inbox") (codes "id") refl)
    ∙ get_member-put (codes "inbox") (string (inbox_id id)) (ended id name)))

address_read : (text : List ℕ) → IsIri text → reads_address text ≡ Ok text
unfolding reads_address
address_read text h = rw (iri_is text h) refl

is_object : (host name : List ℕ) → is_some (as_object (actor_form host name)) ≡ true
unfolding actor_form
is_object host name = refl

-- what is read of it
actor_read : (host name : List ℕ) → IsSite host → is_name name ≡ true
    → (document : ActorDocument) × (reads_actor (actor_form host name) ≡ Ok document)
    × (document.id ≡ actor_id host name) × (document.inbox ≡ inbox_id (actor_id host name))
unfolding reads_actor reads_names
actor_read host name site named =
    let id : List ℕ = actor_id host name in
    let one = address_read id (actor_is_iri host name site named) in
    let two = address_read (inbox_id id) (inbox_is_iri host name site named) in (
      record {
        id = id;
        inbox = inbox_id id;
        preferred_username = text_at (codes "preferredUsername") (actor_form host name);
      },
      rw (is_object host name, id_read host name, inbox_read host name, one, two) refl,
      refl,
      refl,
    )

-- what is named by a member's document
actor_names : (host name recipient inbox : List ℕ) → IsSite host → is_name name ≡ true
    → inbox_in recipient (actor_form host name) ≡ Some inbox → IsInboxOf recipient inbox
unfolding inbox_in
actor_names host name recipient inbox site named is =
    let r = actor_read host name site named in
    let e : inbox_of recipient (Ok r.0) ≡ Some inbox = ap (inbox_of recipient) (sym r.1) ∙ is in
    let n = names_both recipient inbox r.0 e in
    record {
      host = host;
      name = name;
      shape = site;
      named = named;
      recipient_is = sym n.0 ∙ r.2;
      inbox_is = sym n.1 ∙ (r.3 ∙ ap (λ (z : List ℕ). inbox_id z) (sym r.2 ∙ n.0));
    }
  where
    names_both : (recipient inbox : List ℕ) (d : ActorDocument)
        → inbox_of recipient (Ok d) ≡ Some inbox → (d.id ≡ recipient) × (d.inbox ≡ inbox)
    names_both recipient inbox d e =
        elim (bytes_eq d.id recipient && bytes_eq (host_of d.inbox) (host_of recipient)) as
        (λ b. (bytes_eq d.id recipient && bytes_eq (host_of d.inbox) (host_of recipient)) ≡ b
        → (if b then Some d.inbox else None) ≡ Some inbox
        → (d.id ≡ recipient) × (d.inbox ≡ inbox)) [
          | true ↦
              λ k h. (
                bytes_eq-is d.id recipient
                    (and_parts (bytes_eq d.id recipient)
                    (bytes_eq (host_of d.inbox) (host_of recipient)) k).0,
                some_is d.inbox inbox h,
              )
          | false ↦ λ k h. absurd cc
        ] refl e

actor_plain : (host name : List ℕ)
    → IsPlain (actor_form host name) × (depth (actor_form host name) ≤ 127)
unfolding actor_form
actor_plain host name =
    let id : List ℕ = actor_id host name in
    let l = low_members 0 _
    (good_context 0 true _
    (good_string 0 (codes "followers") _ (followed id name)
    (good_string 0 (codes "following") _ (owned id name)
    (good_string 0 (codes "id") id (boxed id name)
    (good_string 0 (codes "inbox") _ (ended id name)
    (good_string 0 (codes "liked") _ _
    (good_string 0 (codes "outbox") _ _
    (good_string 0 (codes "preferredUsername") name _
    (good_string 0 (codes "type") _ no_members (good_none 0)))))))))) in
    (l.plain, omega (arith, l.low))

body_is : (head_only : Bool) (body rest : List ℕ) (d : Data) → rest ≡ body_text head_only body
    → read rest ≡ Some d → read body ≡ Some d
body_is true body rest d e r = absurd (nothing_read d (subst (λ (z : List ℕ). read z ≡ Some d) e r))
body_is false body rest d e r = subst (λ (z : List ℕ). read z ≡ Some d) e r

of_answer : (s : Server) → IsServer s → (a : Answer) → Fits s.host a
    → (at : ℕ) (head_only last : Bool) (recipient inbox : List ℕ) → at ≤ 253402300799
    → length (reply_of a).body < 2 ^ 64
    → IsFoundIn recipient (Some (reply_text at head_only last (reply_of a))) (FoundInbox inbox)
    → IsInboxOf recipient inbox
of_answer s k a fits at head_only last recipient inbox now small f =
    ⊎_elim
    (λ (o : IsOther (reply_of a).status).
    absurd (o.other (sym (status_read at head_only last (reply_of a) 200 f.0 o.three o.small f.1))))
    (λ (rest : IsMember s.host a ⊎ IsDocument a).
    ⊎_elim
    (λ (m : IsMember s.host a).
    let is : reply_of a ≡ document_reply forms.Activity (compact_text (actor_form s.host m.name)) =
    ap reply_of m.is in
    let p = actor_plain s.host m.name in
    let d =
    same_document at head_only last (reply_of a) forms.Activity (actor_form s.host m.name) recipient
    inbox f.0 now small is p.0 p.1 f.1 f.2 in
    actor_names s.host m.name recipient inbox k.shape m.named d)
    (λ (m : IsDocument a).
    absurd
    (no_inbox m.d recipient inbox m.has.none
    (same_document at head_only last (reply_of a) m.form m.d recipient inbox f.0 now small m.is
    m.has.plain m.has.low f.1 f.2)))
    rest)
    fits
  where
    same_document : (at : ℕ) (head_only last : Bool) (r : Reply) (form : Form) (d : Data)
        (recipient inbox rest : List ℕ) → at ≤ 253402300799 → length r.body < 2 ^ 64
        → r ≡ document_reply form (compact_text d) → IsPlain d → depth d ≤ 127
        → HasHead (reply_text at head_only last r) 200 rest → NamesInbox recipient rest inbox
        → inbox_in recipient d ≡ Some inbox
    same_document at head_only last r form d recipient inbox rest now small is plain low h n =
        let short : length (compact_text d) < 2 ^ 64 =
        subst (λ (z : Reply). length z.body < 2 ^ 64) is small in
        let head : HasHead (reply_text at head_only last (document_reply form (compact_text d))) 200
        rest = subst (λ (z : Reply). HasHead (reply_text at head_only last z) 200 rest) is h in
        let body = body_read at head_only last form (compact_text d) rest 200 now short head in
        let back : read (compact_text d) ≡ Some n.0 =
        body_is head_only (compact_text d) rest n.0 body n.1.1 in
        let same : d ≡ n.0 = some_is d n.0 (sym (reads_back d plain low) ∙ back) in
        subst (λ (z : Data). inbox_in recipient z ≡ Some inbox) (sym same) n.2

bad_reply : (r : Reply) (at : ℕ) (head_only last : Bool) (recipient inbox : List ℕ) → IsBad r.status
    → IsFoundIn recipient (Some (reply_text at head_only last r)) (FoundInbox inbox) → ⊥
bad_reply r at head_only last recipient inbox b f =
    let o = not_good r.status b in
    o.other (sym (status_read at head_only last r 200 f.0 o.three o.small f.1))

pub documents : DocumentsAreMembers
documents s moment at (Err e) body given more head_only last recipient inbox k now small serves f =
    absurd
    (bad_reply given at head_only last recipient inbox
    (subst (λ (r : Reply). IsBad r.status) (sym serves.0) (refused_bad e)) f)
documents s moment at (Ok request) body given more head_only last recipient inbox k now small serves
    f =
    ⊎_elim
    (λ (kept : (given ≡ serves.0) × (more ≡ option_to_list serves.1)).
    by_caller (caller_of (town s.history) request body) kept.0 serves.2)
    (λ full.
    absurd
    (bad_reply given at head_only last recipient inbox
    (subst (λ (r : Reply). IsBad r.status) (sym full.1) (refused_bad JournalFull)) f))
    serves.3
  where
    by_caller : (c : Result Caller Refusal) → given ≡ serves.0
        → AnswersTo (town s.history) moment c request body serves.0 serves.1
        → IsInboxOf recipient inbox
    by_caller (Ok c) is a =
        let same : given ≡ reply (town s.history) c a.0 = is ∙ a.2 in
        of_answer s k (answer_of (town s.history) c a.0) (answers_fit s k c a.0) at head_only last
        recipient inbox now
        (subst (λ (r : Reply). length r.body < 2 ^ 64) same small)
        (subst
        (λ (r : Reply).
        IsFoundIn recipient (Some (reply_text at head_only last r)) (FoundInbox inbox)) same f)
    by_caller (Err e) is a =
        absurd
        (bad_reply given at head_only last recipient inbox
        (subst (λ (r : Reply). IsBad r.status) (sym (is ∙ a.0)) (refused_bad e)) f)
