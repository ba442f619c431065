-- An object that a client posts by itself is read in the shape of a post.
use Rattle.std.proofs.Common.{◌≡◌, ℕ, ◌≤◌, List, [], length, true, false, Option, Some, None, codes, refl, sym, subst}
use Rattle.std.specs.Prelude.{Ok, IsTrue}
use Rattle.std.specs.Cmp.Lexicographic.{pointwise}
use Rattle.std.specs.List.{filter_map}
use Rattle.std.specs.Str.{bytes_eq}
use Rattle.std.proofs.lemmas.Bool.{ltb-false, le-leb}
use Rattle.std.proofs.lemmas.Cmp.{nat_list_eq_equiv, lists_equiv}
use Rattle.serde_json.specs.Data.{Data}
use Rattle.fedi_address.specs.Recipients.{all_of, distinct}
use Rattle.fedi_address.specs.declared.recipients.Recipients.{Recipients}
use Rattle.fedi_objects.specs.declared.activity.Activity.{Activity}
use Rattle.fedi_objects.specs.declared.object.Object.{Object}
use Rattle.fedi_reading.specs.Faults.{is_long}
use Rattle.fedi_reading.specs.Properties.{entries_at}
use Rattle.fedi_reading.specs.Reading.{recipient_of, tags_of, wrapped, reads_posted}
use Rattle.fedi_reading.proofs.KeptLemmas.{named_by, AreNamed, IsMadeOf, type_kept, words_kept, people_kept, tags_kept, object_parts, posted_object}
use Rattle.fedi_objects.specs.Limits.{is_text}
use Rattle.fedi_town.proofs.Once.{once_folded}
use Rattle.fedi_town.specs.Shapes.{is_none_or, is_each_once, are_addressed, are_same, are_tags, is_posted}

-- ---- lists without duplicates

named_once : (key : List ℕ) (d : Data) → is_each_once (named_by key d) ≡ true
unfolding distinct
named_once key d = once_folded [] (filter_map recipient_of (entries_at key d)) refl

-- ---- recipients

same_names : (names : List (List ℕ)) → pointwise bytes_eq names names ≡ true
same_names names = (lists_equiv nat_list_eq_equiv).refl names

pub same_people : (r : Recipients) → are_same r r ≡ true
same_people r = rw (same_names r.to, same_names r.cc, same_names r.bto, same_names r.bcc, same_names r.audience) refl

-- there are at most so many recipients, and none is repeated in a field
pub addressed : (most : ℕ) (d : Data) (r : Recipients) → AreNamed d r → length (all_of r) ≤ most → are_addressed most r ≡ true
addressed most d r named few =
    let to : is_each_once r.to ≡ true = rw named.to (named_once (codes "to") d) in
    let copied : is_each_once r.cc ≡ true = rw named.cc (named_once (codes "cc") d) in
    let bto : is_each_once r.bto ≡ true = rw named.bto (named_once (codes "bto") d) in
    let bcc : is_each_once r.bcc ≡ true = rw named.bcc (named_once (codes "bcc") d) in
    let audience : is_each_once r.audience ≡ true = rw named.audience (named_once (codes "audience") d) in
    rw (le-leb (length (all_of r)) most few, to, copied, bto, bcc, audience) refl

-- ---- the whole

pub not_long : (text : Option (List ℕ)) → is_long text ≡ false → is_none_or is_text text ≡ true
unfolding is_text
not_long None h = refl
not_long (Some text) h = le-leb (length text) 65536 (ltb-false 65536 (length text) h)

pub named_shortly : (d : Data) → are_tags (tags_of d) ≡ true
unfolding is_text
named_shortly d = tags_kept d

-- the Create of an object that was read is within each limit
object_kept : (author : List ℕ) (d : Data) (o : Object) → IsMadeOf d o → is_posted author (wrapped o) ≡ true
object_kept author d o h =
    let type = type_kept d h.kind h.kind_read in
    let words = words_kept d h.words h.words_read in
    let content = not_long h.words.0 words.0 in
    let summary = not_long h.words.1 words.1 in
    let name = not_long h.words.2 words.2 in
    let people = people_kept d h.people h.people_read in
    let reached = addressed 500 d h.people.1 people.0 people.1 in
    let same = same_people h.people.1 in
    let tags = named_shortly d in
    subst (λ (x : Object). is_posted author (wrapped x) ≡ true) (sym h.whole)
    (rw (type.0, type.1, content, summary, name, tags, reached, same) refl)

pub read_is_posted : (d : Data) (a : Activity) (author : List ℕ) → reads_posted d ≡ Ok a → IsTrue (is_posted author a)
read_is_posted d a author h =
    let found = posted_object d a h in
    subst (λ (x : Activity). is_posted author x ≡ true) (sym found.2) (object_kept author d found.0 (object_parts d found.0 found.1))
