-- The recipients of an activity or an object (Activity Vocabulary, 4; W3C ActivityPub, 6 and 7).
use Rattle.std.specs.Prelude.{ℕ, Bool, List, [], ◌∷◌, ◌++◌, fold, bytes_eq, if◌then◌else◌}
use Rattle.std.specs.List.{list_any}
use Rattle.fedi_address.specs.declared.recipients.Recipients.{Recipients}
use Rattle.fedi_address.specs.Iris.{public_iri}

-- the text is one of these
unfoldable pub is_among : List ℕ → List (List ℕ) → Bool
is_among text texts = list_any (λ u. bytes_eq u text) texts

-- one more text, unless it is there already
abbrev pub add_new : List (List ℕ) → List ℕ → List (List ℕ)
add_new kept text = if is_among text kept then kept else kept ++ text ∷ []

-- the texts, each once, in the order of their first occurrences
unfoldable pub distinct : List (List ℕ) → List (List ℕ)
distinct texts = fold add_new [] texts

-- no recipient
abbrev pub nobody : Recipients
nobody = record { to = []; cc = []; bto = []; bcc = []; audience = [] }

-- all five fields, one after another
abbrev pub all_of : Recipients → List (List ℕ)
all_of r = r.to ++ (r.cc ++ (r.bto ++ (r.bcc ++ r.audience)))

-- one of the five fields names this text
abbrev pub names : Recipients → List ℕ → Bool
names r text = is_among text (all_of r)

-- one of the five fields names everyone (W3C ActivityPub, 5.6)
abbrev pub is_public : Recipients → Bool
is_public r = names r public_iri

-- without the recipients that only the sender may see (W3C ActivityPub, 6 and 7)
abbrev pub stripped : Recipients → Recipients
stripped r = record r { bto = []; bcc = [] }

-- field by field, the recipients of either, each once (W3C ActivityPub, 6.2)
abbrev pub union : Recipients → Recipients → Recipients
union a b = record {
  to = distinct (a.to ++ b.to);
  cc = distinct (a.cc ++ b.cc);
  bto = distinct (a.bto ++ b.bto);
  bcc = distinct (a.bcc ++ b.bcc);
  audience = distinct (a.audience ++ b.audience);
}
