-- No two entries have the same code.
use Rattle.std.proofs.Common.{◌≡◌, ℕ, List, [], ◌∷◌, ◌++◌, length, get_or, refl, sym, ◌∙◌, ap, subst, append_assoc, arith, length-append}
use Rattle.std.specs.Prelude.{Option, Some, None}
use Rattle.fedi_address.specs.declared.recipients.Recipients.{Recipients}
use Rattle.fedi_objects.specs.Kinds.{kind_number, kinds}
use Rattle.fedi_objects.specs.declared.kind.Kind.{Kind}
use Rattle.fedi_objects.specs.declared.kind.Kind.TheVariants.{Accept, Add, Announce, Arrive, Block, Create, Delete, Dislike, Flag, Follow, Ignore, Invite, Join, Leave, Like, Listen, Move, Offer, Question, Read, Reject, Remove, TentativeAccept, TentativeReject, Travel, Undo, Update, View}
use Rattle.fedi_objects.specs.declared.activity.Activity.{Activity}
use Rattle.fedi_objects.specs.declared.activity.ObjectRef.{ObjectRef}
use Rattle.fedi_objects.specs.declared.activity.ObjectRef.TheVariants.{Nothing, Id, Whole, Changed}
use Rattle.fedi_objects.specs.declared.entry.Came.{Came}
use Rattle.fedi_objects.specs.declared.entry.Entry.{Entry}
use Rattle.fedi_objects.specs.declared.entry.Entry.TheVariants.{Hosted, Made, PeerSet, Local, Remote, Tried}
use Rattle.fedi_objects.specs.declared.entry.Sent.{Sent}
use Rattle.fedi_objects.specs.declared.entry.Sent.TheVariants.{Lookup, Post}
use Rattle.fedi_objects.specs.declared.entry.What.{What}
use Rattle.fedi_objects.specs.declared.entry.What.TheVariants.{Failed, NoHead, BadActor, Status}
use Rattle.fedi_objects.specs.declared.object.Change.{Change}
use Rattle.fedi_objects.specs.declared.object.Object.{Object}
use Rattle.fedi_objects.specs.declared.object.Tag.{Tag}
use Rattle.fedi_entry.specs.Codes.{u64_code, bool_code, text_code, option_code, repeat_code, sent_number, what_code, came_code, entry_number, fields_code, code_of, HasStatus, HasDigest, HasSizes, Fits, tag_code, hidden_code, recipients_code, words_code, object_head, object_words, object_times, object_code, edits_code, change_code, object_ref_code, activity_head, activity_words, activity_code}
use Rattle.fedi_entry.proofs.CodeLemmas.{IsShort, Tells, text_tells, pair_tells, parts_tell, option_tells, edit_tells, list_tells, text_filled, byte_same, short_tail, IsFilled, short_rest, same_length, pair_is, u16_back, u64_code_injective, bool_back}

pub tag_tells : Tells tag_code
unfolding tag_code
tag_tells = parts_tell (pair_tells text_tells text_tells) (λ (t : Tag). (t.href, t.name)) (λ p. record { href = p.0; name = p.1 }) (λ r. refl)

tag_filled : IsFilled tag_code
unfolding tag_code
tag_filled tag = omega (arith, text_filled tag.href, length-append (text_code tag.href) (text_code tag.name))

pub recipients_tell : Tells recipients_code
unfolding recipients_code hidden_code
recipients_tell =
    let iris = list_tells text_filled text_tells in
    parts_tell (pair_tells iris (pair_tells iris (pair_tells iris (pair_tells iris iris))))
    (λ (r : Recipients). (r.to, (r.cc, (r.bto, (r.bcc, r.audience)))))
    (λ p. record { to = p.0; cc = p.1.0; bto = p.1.1.0; bcc = p.1.1.1.0; audience = p.1.1.1.1 })
    (λ r. refl)

pub object_tells : Tells object_code
unfolding object_code object_head object_words object_times words_code
object_tells =
    let text = option_tells text_tells in
    parts_tell
    (pair_tells (pair_tells text (pair_tells text_tells text))
    (pair_tells recipients_tell
    (pair_tells (pair_tells text (pair_tells (pair_tells text (pair_tells text text)) text))
    (pair_tells (pair_tells text (pair_tells text (pair_tells text text))) (list_tells tag_filled tag_tells)))))
    (λ (o : Object). ((o.id, (o.kind, o.attributed_to)), (o.recipients, ((o.in_reply_to, ((o.content, (o.summary, o.name)), o.url)), ((o.published, (o.updated, (o.former_kind, o.deleted))), o.tags)))))
    (λ p. record { id = p.0.0; kind = p.0.1.0; attributed_to = p.0.1.1; recipients = p.1.0; in_reply_to = p.1.1.0.0; content = p.1.1.0.1.0.0; summary = p.1.1.0.1.0.1.0; name = p.1.1.0.1.0.1.1; url = p.1.1.0.1.1; published = p.1.1.1.0.0; updated = p.1.1.1.0.1.0; former_kind = p.1.1.1.0.1.1.0; deleted = p.1.1.1.0.1.1.1; tags = p.1.1.1.1 })
    (λ r. refl)

pub change_tells : Tells change_code
unfolding change_code edits_code
change_tells =
    let edit = edit_tells text_tells in
    parts_tell
    (pair_tells text_tells
    (pair_tells (pair_tells edit (pair_tells edit edit))
    (pair_tells edit (pair_tells edit (edit_tells (list_tells tag_filled tag_tells))))))
    (λ (c : Change). (c.id, ((c.content, (c.summary, c.name)), (c.url, (c.in_reply_to, c.tags)))))
    (λ p. record { id = p.0; content = p.1.0.0; summary = p.1.0.1.0; name = p.1.0.1.1; url = p.1.1.0; in_reply_to = p.1.1.1.0; tags = p.1.1.1.1 })
    (λ r. refl)

object_ref_back : (a b : ObjectRef) (s t : List ℕ) → IsShort (object_ref_code a ++ s) → object_ref_code a ++ s ≡ object_ref_code b ++ t → (a ≡ b) × (s ≡ t)
unfolding object_ref_code
object_ref_back Nothing Nothing s t short e = (refl, (byte_same _ _ _ _ e).1)
object_ref_back (Id a) (Id b) s t short e =
    let both = text_tells.back a b s t (short_tail 1 _ short) (byte_same _ _ _ _ e).1 in
    (ap Id both.0, both.1)
object_ref_back (Whole a) (Whole b) s t short e =
    let both = object_tells.back a b s t (short_tail 2 _ short) (byte_same _ _ _ _ e).1 in
    (ap Whole both.0, both.1)
object_ref_back (Changed a) (Changed b) s t short e =
    let both = change_tells.back a b s t (short_tail 3 _ short) (byte_same _ _ _ _ e).1 in
    (ap Changed both.0, both.1)
object_ref_back a b s t short e = absurd (omega (arith, (byte_same _ _ _ _ e).0))

pub object_ref_tells : Tells object_ref_code
object_ref_tells = record { back = object_ref_back }

-- the type of an activity, by its number
numbered : (kind : Kind) → get_or (Accept ∷ kinds) (kind_number kind) Accept ≡ kind
numbered Accept = refl
numbered Add = refl
numbered Announce = refl
numbered Arrive = refl
numbered Block = refl
numbered Create = refl
numbered Delete = refl
numbered Dislike = refl
numbered Flag = refl
numbered Follow = refl
numbered Ignore = refl
numbered Invite = refl
numbered Join = refl
numbered Leave = refl
numbered Like = refl
numbered Listen = refl
numbered Move = refl
numbered Offer = refl
numbered Question = refl
numbered Read = refl
numbered Reject = refl
numbered Remove = refl
numbered TentativeAccept = refl
numbered TentativeReject = refl
numbered Travel = refl
numbered Undo = refl
numbered Update = refl
numbered View = refl

abbrev kind_code : Kind → List ℕ
kind_code kind = kind_number kind ∷ []

kind_back : (a b : Kind) (s t : List ℕ) → kind_code a ++ s ≡ kind_code b ++ t → (a ≡ b) × (s ≡ t)
kind_back a b s t e =
    let both = byte_same (kind_number a) (kind_number b) s t e in
    (sym (numbered a) ∙ (ap (λ n. get_or (Accept ∷ kinds) n Accept) both.0 ∙ numbered b), both.1)

kind_tells : Tells kind_code
kind_tells = record { back = λ a b s t short e. kind_back a b s t e }

pub activity_tells : Tells activity_code
unfolding activity_code activity_head activity_words words_code
activity_tells =
    let text = option_tells text_tells in
    parts_tell
    (pair_tells (pair_tells text (pair_tells kind_tells text))
    (pair_tells object_ref_tells
    (pair_tells text
    (pair_tells recipients_tell
    (pair_tells text (pair_tells (pair_tells text (pair_tells text text)) (pair_tells text (list_tells tag_filled tag_tells))))))))
    (λ (a : Activity). ((a.id, (a.kind, a.actor)), (a.object, (a.target, (a.recipients, (a.in_reply_to, ((a.content, (a.summary, a.name)), (a.published, a.tags))))))))
    (λ p. record { id = p.0.0; kind = p.0.1.0; actor = p.0.1.1; object = p.1.0; target = p.1.1.0; recipients = p.1.1.1.0; in_reply_to = p.1.1.1.1.0; content = p.1.1.1.1.1.0.0; summary = p.1.1.1.1.1.0.1.0; name = p.1.1.1.1.1.0.1.1; published = p.1.1.1.1.1.1.0; tags = p.1.1.1.1.1.1.1 })
    (λ r. refl)

sent_back : (a b : Sent) → sent_number a ≡ sent_number b → a ≡ b
sent_back Lookup Lookup e = refl
sent_back Post Post e = refl
sent_back Lookup Post e = absurd (omega arith)
sent_back Post Lookup e = absurd (omega arith)

what_back : (a b : What) (s t : List ℕ) → HasStatus a → HasStatus b → what_code a ++ s ≡ what_code b ++ t → (a ≡ b) × (s ≡ t)
unfolding what_code
what_back Failed Failed s t fits_a fits_b e = (refl, (byte_same _ _ _ _ e).1)
what_back NoHead NoHead s t fits_a fits_b e = (refl, (byte_same _ _ _ _ e).1)
what_back BadActor BadActor s t fits_a fits_b e = (refl, (byte_same _ _ _ _ e).1)
what_back (Status m) (Status n) s t fits_a fits_b e =
    let both = u16_back m n s t fits_a fits_b (byte_same _ _ _ _ e).1 in
    (ap Status both.0, both.1)
what_back a b s t fits_a fits_b e = absurd (omega (arith, (byte_same _ _ _ _ e).0))

came_back : (a b : Came) (s t : List ℕ) → HasStatus a.what → HasStatus b.what → came_code a ++ s ≡ came_code b ++ t → (a ≡ b) × (s ≡ t)
unfolding came_code
came_back a b s t fits_a fits_b e =
    let step = byte_same _ _ _ _ e in
    let what = what_back a.what b.what s t fits_a fits_b step.1 in
    let came : Sent → What → Came = λ x y. record { step = x; what = y } in
    (ap (λ (x : Sent). came x a.what) (sent_back a.step b.step step.0) ∙ ap (came b.step) what.0, what.1)

repeat_back : (a b : List ℕ × List ℕ) (s t : List ℕ) → length a.1 ≡ 32 → length b.1 ≡ 32 → IsShort (repeat_code a ++ s)
    → repeat_code a ++ s ≡ repeat_code b ++ t → (a ≡ b) × (s ≡ t)
unfolding repeat_code
repeat_back a b s t size_a size_b short e =
    let key = text_tells.back a.0 b.0 (a.1 ++ s) (b.1 ++ t) (subst IsShort (append_assoc (text_code a.0) a.1 s) short)
    (sym (append_assoc (text_code a.0) a.1 s) ∙ (e ∙ append_assoc (text_code b.0) b.1 t)) in
    let digest = same_length a.1 b.1 s t (size_a ∙ sym size_b) key.1 in
    (pair_is a b key.0 digest.0, digest.1)

repeats_back : (a b : Option (List ℕ × List ℕ)) (s t : List ℕ) → HasDigest a → HasDigest b → IsShort (option_code repeat_code a ++ s)
    → option_code repeat_code a ++ s ≡ option_code repeat_code b ++ t → (a ≡ b) × (s ≡ t)
unfolding option_code
repeats_back None None s t size_a size_b short e = (refl, (byte_same _ _ _ _ e).1)
repeats_back (Some a) (Some b) s t size_a size_b short e =
    let both = repeat_back a b s t size_a size_b (short_tail 1 (repeat_code a ++ s) short) (byte_same _ _ _ _ e).1 in
    (ap Some both.0, both.1)
repeats_back None (Some b) s t size_a size_b short e = absurd (omega (arith, (byte_same _ _ _ _ e).0))
repeats_back (Some a) None s t size_a size_b short e = absurd (omega (arith, (byte_same _ _ _ _ e).0))

fields_back : (a b : Entry) → HasSizes a → HasSizes b → IsShort (fields_code a) → code_of a ≡ code_of b → a ≡ b
unfolding code_of fields_code
fields_back (Hosted host moment) (Hosted host' moment') sizes sizes' short e =
    let one = text_tells.back host host' (u64_code moment) (u64_code moment') short (byte_same _ _ _ _ e).1 in
    let last = u64_code_injective moment moment' sizes sizes' one.1 in
    cc (one.0, last)
fields_back (Made name digest locked moment) (Made name' digest' locked' moment') sizes sizes' short e =
    let one = text_tells.back name name' (digest ++ (bool_code locked ++ u64_code moment)) (digest' ++ (bool_code locked' ++ u64_code moment')) short (byte_same _ _ _ _ e).1 in
    let two = same_length digest digest' (bool_code locked ++ u64_code moment) (bool_code locked' ++ u64_code moment') (sizes.0 ∙ sym sizes'.0) one.1 in
    let three = bool_back locked locked' (u64_code moment) (u64_code moment') two.1 in
    let last = u64_code_injective moment moment' sizes.1 sizes'.1 three.1 in
    cc (one.0, two.0, three.0, last)
fields_back (PeerSet host key address relay moment) (PeerSet host' key' address' relay' moment') sizes sizes' short e =
    let rest = text_code address ++ (bool_code relay ++ u64_code moment) in
    let rest' = text_code address' ++ (bool_code relay' ++ u64_code moment') in
    let one = text_tells.back host host' (key ++ rest) (key' ++ rest') short (byte_same _ _ _ _ e).1 in
    let two = same_length key key' rest (rest') (sizes.0 ∙ sym sizes'.0) one.1 in
    let short_rest_2 : IsShort rest = short_rest key rest (short_rest (text_code host) (key ++ rest) short) in
    let three = text_tells.back address address' (bool_code relay ++ u64_code moment) (bool_code relay' ++ u64_code moment') short_rest_2 two.1 in
    let four = bool_back relay relay' (u64_code moment) (u64_code moment') three.1 in
    let last = u64_code_injective moment moment' sizes.1 sizes'.1 four.1 in
    cc (one.0, two.0, three.0, four.0, last)
fields_back (Local name repeat activity moment) (Local name' repeat' activity' moment') sizes sizes' short e =
    let posted = activity_code activity ++ u64_code moment in
    let posted' = activity_code activity' ++ u64_code moment' in
    let one = text_tells.back name name' (option_code repeat_code repeat ++ posted) (option_code repeat_code repeat' ++ posted') short (byte_same _ _ _ _ e).1 in
    let short_1 : IsShort (option_code repeat_code repeat ++ posted) = short_rest (text_code name) (option_code repeat_code repeat ++ posted) short in
    let two = repeats_back repeat repeat' posted posted' sizes.0 sizes'.0 short_1 one.1 in
    let three = activity_tells.back activity activity' (u64_code moment) (u64_code moment') (short_rest (option_code repeat_code repeat) posted short_1) two.1 in
    let last = u64_code_injective moment moment' sizes.1 sizes'.1 three.1 in
    cc (one.0, two.0, three.0, last)
fields_back (Remote peer inbox activity moment) (Remote peer' inbox' activity' moment') sizes sizes' short e =
    let posted = activity_code activity ++ u64_code moment in
    let posted' = activity_code activity' ++ u64_code moment' in
    let one = text_tells.back peer peer' (text_code inbox ++ posted) (text_code inbox' ++ posted') short (byte_same _ _ _ _ e).1 in
    let short_1 : IsShort (text_code inbox ++ posted) = short_rest (text_code peer) (text_code inbox ++ posted) short in
    let two = text_tells.back inbox inbox' posted posted' short_1 one.1 in
    let three = activity_tells.back activity activity' (u64_code moment) (u64_code moment') (short_rest (text_code inbox) posted short_1) two.1 in
    let last = u64_code_injective moment moment' sizes sizes' three.1 in
    cc (one.0, two.0, three.0, last)
fields_back (Tried activity recipient came moment) (Tried activity' recipient' came' moment') sizes sizes' short e =
    let outcome = came_code came ++ u64_code moment in
    let outcome' = came_code came' ++ u64_code moment' in
    let one = text_tells.back activity activity' (text_code recipient ++ outcome) (text_code recipient' ++ outcome') short (byte_same _ _ _ _ e).1 in
    let short_1 : IsShort (text_code recipient ++ outcome) = short_rest (text_code activity) (text_code recipient ++ outcome) short in
    let two = text_tells.back recipient recipient' outcome outcome' short_1 one.1 in
    let three = came_back came came' (u64_code moment) (u64_code moment') sizes.0 sizes'.0 two.1 in
    let last = u64_code_injective moment moment' sizes.1 sizes'.1 three.1 in
    cc (one.0, two.0, three.0, last)
fields_back a b sizes sizes' short e = absurd (omega (arith, (byte_same _ _ _ _ e).0))

-- the law
pub code_of_injective : (a b : Entry) → Fits a → Fits b → code_of a ≡ code_of b → a ≡ b
unfolding code_of
code_of_injective a b fits_a fits_b e = fields_back a b fits_a.sizes fits_b.sizes (short_tail (entry_number a) (fields_code a) fits_a.short) e
