-- What is read of objects and activities is encoded by the bytes that were read, and a code is read
-- again.
use Rattle.std.proofs.Common.{◌≡◌, ℕ, ◌^◌, ◌<◌, cond, List, [], ◌∷◌, ◌++◌, length, Bool, true, false, Option, Some, None, Ok, Err, refl, sym, ap, subst, ◌∙◌, arith, inl, inr}
use Rattle.std.specs.Prelude.{IfSome, IsTrue, ◌==◌, nat_le, find}
use Rattle.std.proofs.lemmas.Bool.{and_parts}
use Rattle.std.proofs.lemmas.Bool.Decides.{nat_tests}
use Rattle.std.specs.List.{list_all}
use Rattle.fedi_address.specs.Iris.{normal}
use Rattle.fedi_objects.specs.Kinds.{kind_number, kinds as all_kinds}
use Rattle.fedi_objects.specs.declared.activity.ObjectRef.{ObjectRef}
use Rattle.fedi_objects.specs.declared.activity.ObjectRef.TheVariants.{Nothing, Id, Whole, Changed}
use Rattle.fedi_objects.specs.declared.kind.Kind.{Kind}
use Rattle.fedi_objects.specs.declared.kind.Kind.TheVariants as kinds
use Rattle.fedi_entry.specs.declared.read_objects.ActivityHead.{ActivityHead}
use Rattle.fedi_entry.specs.declared.read_objects.ActivityWords.{ActivityWords}
use Rattle.fedi_entry.specs.declared.read_objects.ChangedWords.{ChangedWords}
use Rattle.fedi_entry.specs.declared.read_objects.ObjectHead.{ObjectHead}
use Rattle.fedi_entry.specs.declared.read_objects.ObjectTimes.{ObjectTimes}
use Rattle.fedi_entry.specs.declared.read_objects.ObjectWords.{ObjectWords}
use Rattle.fedi_entry.specs.declared.read_objects.Words.{Words}
use Rattle.fedi_entry.specs.Codes.{text_code, option_code, list_code, tag_code, hidden_code, recipients_code, words_code, object_head, object_words, object_times, object_code, edits_code, change_code, object_ref_code, activity_head, activity_words, activity_code}
use Rattle.fedi_objects.specs.Limits.{is_text, is_date, is_type, is_date_byte}
use Rattle.fedi_entry.specs.Fields.{is_iri, is_own, AreRecipients, AreWords, IfDate, IfGiven, IfIri, IsActivity, IsChange, IsList, IsObject, IsObjectRef, IsTag, IsText}
use Rattle.fedi_entry.specs.Reading.{◌>>=◌, made_of, Read, byte_at, text_at, iri_at, content_at, date_at, list_at, tag_at, recipients_at, words_at, object_head_at, object_words_at, object_times_at, object_of, object_at, changed_words_at, change_of, change_at, object_ref_at, kind_of, some_or, kind_at, activity_head_at, activity_words_at, activity_of, activity_at}
use Rattle.fedi_entry.proofs.ReadingLemmas.{Reads, IsBytes, bind_ok, pair_reads, whole_reads, made_takes, text_reads, byte_is, choice_ok, said, option_reads, edit_reads, list_reads}

-- ---- texts

iri_short : (t : List ℕ) → IsTrue (is_iri t) → length t < 2 ^ 32
unfolding is_iri
iri_short t passes = grind (arith, nat_tests, (and_parts (is_own (normal t) t) (nat_le (length t) 2048) passes).1)

pub iri_reads : Reads text_code (IsText is_iri) iri_at
iri_reads = text_reads is_iri iri_short

content_short : (t : List ℕ) → IsTrue (is_text t) → length t < 2 ^ 32
unfolding is_text
content_short t passes = grind (arith, nat_tests, passes)

pub content_reads : Reads text_code (IsText is_text) content_at
content_reads = text_reads is_text content_short

type_short : (t : List ℕ) → IsTrue (is_type t) → length t < 2 ^ 32
unfolding is_type
type_short t passes = grind (arith, nat_tests, (and_parts (nat_le 1 (length t)) (nat_le (length t) 64) passes).1)

type_reads : Reads text_code (IsText is_type) (text_at is_type)
type_reads = text_reads is_type type_short

date_short : (t : List ℕ) → IsTrue (is_date t) → length t < 2 ^ 32
unfolding is_date
date_short t passes = grind (arith, nat_tests, (and_parts (nat_le (length t) 64) (list_all is_date_byte t) passes).0)

date_reads : Reads text_code (IsText is_date) date_at
date_reads = text_reads is_date date_short

-- ---- objects

tag_reads : Reads tag_code IsTag tag_at
unfolding tag_code tag_at
tag_reads =
    whole_reads (pair_reads iri_reads content_reads) (λ p. record { href = p.0; name = p.1 }) tag_code IsTag
    (λ p. refl) (λ p valid. valid) (λ t valid. ((t.href, t.name), refl, valid))

tags_read : Reads (list_code tag_code) (IsList IsTag) (list_at tag_at)
tags_read = list_reads tag_reads

recipients_read : Reads recipients_code AreRecipients recipients_at
unfolding recipients_code hidden_code recipients_at
recipients_read =
    let iris = list_reads iri_reads in
    whole_reads (pair_reads iris (pair_reads iris (pair_reads iris (pair_reads iris iris))))
    (λ p. record { to = p.0; cc = p.1.0; bto = p.1.1.0; bcc = p.1.1.1.0; audience = p.1.1.1.1 }) recipients_code AreRecipients
    (λ p. refl) (λ p valid. valid) (λ r valid. ((r.to, (r.cc, (r.bto, (r.bcc, r.audience)))), refl, valid))

abbrev code_of_words : Words → List ℕ
code_of_words w = words_code w.content w.summary w.name

abbrev IsWords : Words → Type 0
IsWords w = AreWords w.content w.summary w.name

words_read : Reads code_of_words IsWords words_at
unfolding words_code words_at
words_read =
    let content = option_reads content_reads in
    whole_reads (pair_reads content (pair_reads content content)) (λ p. record { content = p.0; summary = p.1.0; name = p.1.1 }) code_of_words IsWords
    (λ p. refl) (λ p valid. valid) (λ w valid. ((w.content, (w.summary, w.name)), refl, valid))

abbrev code_of_head : ObjectHead → List ℕ
code_of_head h = option_code text_code h.id ++ (text_code h.kind ++ option_code text_code h.attributed_to)

abbrev IsHead : ObjectHead → Type 0
IsHead h = IfIri h.id × (IsText is_type h.kind × IfIri h.attributed_to)

object_head_reads : Reads code_of_head IsHead object_head_at
unfolding object_head_at
object_head_reads =
    let iri = option_reads iri_reads in
    whole_reads (pair_reads iri (pair_reads type_reads iri)) (λ p. record { id = p.0; kind = p.1.0; attributed_to = p.1.1 }) code_of_head IsHead
    (λ p. refl) (λ p valid. valid) (λ h valid. ((h.id, (h.kind, h.attributed_to)), refl, valid))

abbrev code_of_says : ObjectWords → List ℕ
code_of_says s = option_code text_code s.in_reply_to ++ (code_of_words s.words ++ option_code text_code s.url)

abbrev IsSaid : ObjectWords → Type 0
IsSaid s = IfIri s.in_reply_to × (IsWords s.words × IfIri s.url)

object_words_read : Reads code_of_says IsSaid object_words_at
unfolding object_words_at
object_words_read =
    let iri = option_reads iri_reads in
    whole_reads (pair_reads iri (pair_reads words_read iri)) (λ p. record { in_reply_to = p.0; words = p.1.0; url = p.1.1 }) code_of_says IsSaid
    (λ p. refl) (λ p valid. valid) (λ s valid. ((s.in_reply_to, (s.words, s.url)), refl, valid))

abbrev code_of_times : ObjectTimes → List ℕ
code_of_times t = option_code text_code t.published ++ (option_code text_code t.updated ++ (option_code text_code t.former_kind ++ option_code text_code t.deleted))

abbrev AreTimes : ObjectTimes → Type 0
AreTimes t = IfDate t.published × (IfDate t.updated × (IfSome t.former_kind (IsText is_type) × IfDate t.deleted))

object_times_read : Reads code_of_times AreTimes object_times_at
unfolding object_times_at
object_times_read =
    let date = option_reads date_reads in
    whole_reads (pair_reads date (pair_reads date (pair_reads (option_reads type_reads) date)))
    (λ p. record { published = p.0; updated = p.1.0; former_kind = p.1.1.0; deleted = p.1.1.1 }) code_of_times AreTimes
    (λ p. refl) (λ p valid. valid) (λ t valid. ((t.published, (t.updated, (t.former_kind, t.deleted))), refl, valid))

pub object_reads : Reads object_code IsObject object_at
unfolding object_code object_head object_words object_times object_at
object_reads =
    whole_reads (pair_reads object_head_reads (pair_reads recipients_read (pair_reads object_words_read (pair_reads object_times_read tags_read))))
    (λ p. object_of p.0 p.1.0 p.1.1.0 p.1.1.1.0 p.1.1.1.1) object_code IsObject
    (λ p. refl) (λ p valid. valid)
    (λ o valid.
    let head : ObjectHead = record { id = o.id; kind = o.kind; attributed_to = o.attributed_to } in
    let words : Words = record { content = o.content; summary = o.summary; name = o.name } in
    let says : ObjectWords = record { in_reply_to = o.in_reply_to; words = words; url = o.url } in
    let times : ObjectTimes = record { published = o.published; updated = o.updated; former_kind = o.former_kind; deleted = o.deleted } in
    ((head, (o.recipients, (says, (times, o.tags)))), refl, valid))

-- ---- changes

abbrev code_of_changed : ChangedWords → List ℕ
code_of_changed w = edits_code w.content w.summary w.name

abbrev AreChanged : ChangedWords → Type 0
AreChanged w = IfGiven (IsText is_text) w.content × (IfGiven (IsText is_text) w.summary × IfGiven (IsText is_text) w.name)

changed_words_read : Reads code_of_changed AreChanged changed_words_at
unfolding edits_code changed_words_at
changed_words_read =
    let content = edit_reads content_reads in
    whole_reads (pair_reads content (pair_reads content content)) (λ p. record { content = p.0; summary = p.1.0; name = p.1.1 }) code_of_changed AreChanged
    (λ p. refl) (λ p valid. valid) (λ w valid. ((w.content, (w.summary, w.name)), refl, valid))

pub change_reads : Reads change_code IsChange change_at
unfolding change_code change_at
change_reads =
    let iri = edit_reads iri_reads in
    whole_reads (pair_reads iri_reads (pair_reads changed_words_read (pair_reads iri (pair_reads iri (edit_reads tags_read)))))
    (λ p. change_of p.0 p.1.0 p.1.1.0 p.1.1.1.0 p.1.1.1.1) change_code IsChange
    (λ p. refl) (λ p valid. valid)
    (λ c valid.
    let words : ChangedWords = record { content = c.content; summary = c.summary; name = c.name } in
    ((c.id, (words, (c.url, (c.in_reply_to, c.tags)))), refl, valid))

-- ---- what an activity is about

object_ref_takes : (bytes : List ℕ) (x : ObjectRef × List ℕ) → IsBytes bytes → object_ref_at bytes ≡ Ok x → (bytes ≡ object_ref_code x.0 ++ x.1) × IsObjectRef x.0
unfolding object_ref_at object_ref_code
object_ref_takes bytes x fits e =
    let b = bind_ok (byte_at bytes) (λ b. cond (b.0 == 0) (Ok (Nothing, b.1)) (cond (b.0 == 1) (made_of Id iri_at b.1) (cond (b.0 == 2) (made_of Whole object_at b.1) (cond (b.0 == 3) (made_of Changed change_at b.1) (Err (length bytes)))))) x e in
    let spelled = byte_is bytes b.0 b.1 in
    let change : Read ObjectRef = cond (b.0.0 == 3) (made_of Changed change_at b.0.1) (Err (length bytes)) in
    let object : Read ObjectRef = cond (b.0.0 == 2) (made_of Whole object_at b.0.1) change in
    let id : Read ObjectRef = cond (b.0.0 == 1) (made_of Id iri_at b.0.1) object in
    elim (choice_ok b.0.0 0 (Ok (Nothing, b.0.1)) id x b.2) [
      | inl is ↦ said b.0.0 0 object_ref_code IsObjectRef Nothing bytes b.0.1 x refl tt spelled is.0 is.1
      | inr e ↦ elim (choice_ok b.0.0 1 (made_of Id iri_at b.0.1) object x e) [
        | inl is ↦ made_takes iri_reads Id 1 object_ref_code IsObjectRef (λ v. refl) (λ v valid. valid) bytes b.0.1 x fits (spelled ∙ ap (λ (n : ℕ). n ∷ b.0.1) is.0) is.1
        | inr e ↦ elim (choice_ok b.0.0 2 (made_of Whole object_at b.0.1) change x e) [
          | inl is ↦ made_takes object_reads Whole 2 object_ref_code IsObjectRef (λ v. refl) (λ v valid. valid) bytes b.0.1 x fits (spelled ∙ ap (λ (n : ℕ). n ∷ b.0.1) is.0) is.1
          | inr e ↦ elim (choice_ok b.0.0 3 (made_of Changed change_at b.0.1) (Err (length bytes)) x e) [
            | inl is ↦ made_takes change_reads Changed 3 object_ref_code IsObjectRef (λ v. refl) (λ v valid. valid) bytes b.0.1 x fits (spelled ∙ ap (λ (n : ℕ). n ∷ b.0.1) is.0) is.1
            | inr e ↦ absurd (cc e)
          ]
        ]
      ]
    ]

object_ref_again : (o : ObjectRef) (rest : List ℕ) → IsObjectRef o → object_ref_at (object_ref_code o ++ rest) ≡ Ok (o, rest)
unfolding object_ref_at object_ref_code byte_at
object_ref_again Nothing rest valid = refl
object_ref_again (Id iri) rest valid = rw (iri_reads.again iri rest valid) refl
object_ref_again (Whole object) rest valid = rw (object_reads.again object rest valid) refl
object_ref_again (Changed change) rest valid = rw (change_reads.again change rest valid) refl

object_ref_reads : Reads object_ref_code IsObjectRef object_ref_at
object_ref_reads = record { takes = object_ref_takes; again = object_ref_again }

-- ---- types of activities

kind_again : (kind : Kind) → kind_of (kind_number kind) ≡ Some kind
unfolding kind_of
kind_again kinds.Accept = refl
kind_again kinds.Add = refl
kind_again kinds.Announce = refl
kind_again kinds.Arrive = refl
kind_again kinds.Block = refl
kind_again kinds.Create = refl
kind_again kinds.Delete = refl
kind_again kinds.Dislike = refl
kind_again kinds.Flag = refl
kind_again kinds.Follow = refl
kind_again kinds.Ignore = refl
kind_again kinds.Invite = refl
kind_again kinds.Join = refl
kind_again kinds.Leave = refl
kind_again kinds.Like = refl
kind_again kinds.Listen = refl
kind_again kinds.Move = refl
kind_again kinds.Offer = refl
kind_again kinds.Question = refl
kind_again kinds.Read = refl
kind_again kinds.Reject = refl
kind_again kinds.Remove = refl
kind_again kinds.TentativeAccept = refl
kind_again kinds.TentativeReject = refl
kind_again kinds.Travel = refl
kind_again kinds.Undo = refl
kind_again kinds.Update = refl
kind_again kinds.View = refl

found_is : (number : ℕ) (ks : List Kind) (kind : Kind) → find (λ k. kind_number k == number) ks ≡ Some kind → kind_number kind ≡ number
found_is number [] kind e = absurd cc
found_is number (k ∷ ks) kind e = by (kind_number k == number) refl (found_is number ks kind) e
  where
    by : (t : Bool) → (kind_number k == number) ≡ t → (find (λ k. kind_number k == number) ks ≡ Some kind → kind_number kind ≡ number)
        → cond t (Some k) (find (λ k. kind_number k == number) ks) ≡ Some kind → kind_number kind ≡ number
    by true is later e = let same : k ≡ kind = cc e in subst (λ (k : Kind). kind_number k ≡ number) same (grind (arith, nat_tests, is))
    by false is later e = later e

some_is : {X : Type 0} (left : ℕ) (o : Option X) (x : X) → some_or left o ≡ Ok x → o ≡ Some x
some_is left None x e = absurd cc
some_is left (Some y) x e = let same : y ≡ x = cc e in ap Some same

abbrev kind_code : Kind → List ℕ
kind_code kind = kind_number kind ∷ []

kind_reads : Reads kind_code (λ kind. Unit {0}) kind_at
unfolding kind_at kind_of byte_at
kind_reads = record {
  takes = λ bytes x fits e.
      let b = bind_ok (byte_at bytes) (λ b. some_or (length bytes) (kind_of b.0) >>= λ kind. Ok (kind, b.1)) x e in
      let k = bind_ok (some_or (length bytes) (kind_of b.0.0)) (λ kind. Ok (kind, b.0.1)) x b.2 in
      let number = found_is b.0.0 all_kinds k.0 (some_is (length bytes) (kind_of b.0.0) k.0 k.1) in
      let same : (k.0, b.0.1) ≡ x = cc k.2 in
      (byte_is bytes b.0 b.1 ∙ subst (λ (y : Kind × List ℕ). b.0.0 ∷ b.0.1 ≡ kind_number y.0 ∷ y.1) same (ap (λ (n : ℕ). n ∷ b.0.1) (sym number)), tt);
  again = λ kind rest valid. rw (kind_again kind) refl;
}

-- ---- activities

abbrev code_of_activity_head : ActivityHead → List ℕ
code_of_activity_head h = option_code text_code h.id ++ (kind_number h.kind ∷ option_code text_code h.actor)

abbrev IsActivityHead : ActivityHead → Type 0
IsActivityHead h = IfIri h.id × IfIri h.actor

activity_head_reads : Reads code_of_activity_head IsActivityHead activity_head_at
unfolding activity_head_at
activity_head_reads =
    let iri = option_reads iri_reads in
    whole_reads (pair_reads iri (pair_reads kind_reads iri)) (λ p. record { id = p.0; kind = p.1.0; actor = p.1.1 }) code_of_activity_head IsActivityHead
    (λ p. refl) (λ p valid. (valid.0, valid.1.1)) (λ h valid. ((h.id, (h.kind, h.actor)), refl, (valid.0, (tt, valid.1))))

abbrev code_of_activity_says : ActivityWords → List ℕ
code_of_activity_says s = option_code text_code s.in_reply_to ++ (code_of_words s.words ++ (option_code text_code s.published ++ list_code tag_code s.tags))

abbrev IsActivitySaid : ActivityWords → Type 0
IsActivitySaid s = IfIri s.in_reply_to × (IsWords s.words × (IfDate s.published × IsList IsTag s.tags))

activity_words_read : Reads code_of_activity_says IsActivitySaid activity_words_at
unfolding activity_words_at
activity_words_read =
    whole_reads (pair_reads (option_reads iri_reads) (pair_reads words_read (pair_reads (option_reads date_reads) tags_read)))
    (λ p. record { in_reply_to = p.0; words = p.1.0; published = p.1.1.0; tags = p.1.1.1 }) code_of_activity_says IsActivitySaid
    (λ p. refl) (λ p valid. valid) (λ s valid. ((s.in_reply_to, (s.words, (s.published, s.tags))), refl, valid))

pub activity_reads : Reads activity_code IsActivity activity_at
unfolding activity_code activity_head activity_words activity_at
activity_reads =
    whole_reads (pair_reads activity_head_reads (pair_reads object_ref_reads (pair_reads (option_reads iri_reads) (pair_reads recipients_read activity_words_read))))
    (λ p. activity_of p.0 p.1.0 p.1.1.0 p.1.1.1.0 p.1.1.1.1) activity_code IsActivity
    (λ p. refl) (λ p valid. valid)
    (λ a valid.
    let head : ActivityHead = record { id = a.id; kind = a.kind; actor = a.actor } in
    let words : Words = record { content = a.content; summary = a.summary; name = a.name } in
    let says : ActivityWords = record { in_reply_to = a.in_reply_to; words = words; published = a.published; tags = a.tags } in
    ((head, (a.object, (a.target, (a.recipients, says)))), refl, valid))
