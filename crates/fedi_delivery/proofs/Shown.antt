-- What some replies show, computed.
use Rattle.std.proofs.Common.{◌≡◌, ℕ, ◌≤◌, true, List, [], ◌++◌, length, Some, None, refl, arith, lit≤}
use Rattle.std.specs.Prelude.{codes}
use Rattle.std.specs.Char.{is_ascii_digit}
use Rattle.std.specs.List.{list_all}
use Rattle.std.specs.Str.Parse.{digits_value}
use Rattle.std.proofs.lemmas.List.Elements.{All-nil}
use Rattle.std.proofs.lemmas.List.Sums.{AllPass-from_list_all}
use Rattle.std.proofs.lemmas.Str.{IsUtf8-from_is_utf8}
use Rattle.httparse.specs.Grammar.{ResponseHead, crlf, is_value_byte, print_response}
use Rattle.serde_json.specs.Data.{Data, string, object, put, no_members}
use Rattle.serde_json.specs.Read.{read}
use Rattle.serde_json.proofs.OnLiterals.{serde_json_on_literals}
use Rattle.url.proofs.OnLiterals.{url_on_literals}
use Rattle.fedi_address.specs.Iris.{host_of, normal, web_url}
use Rattle.fedi_address.specs.Pieces.{after_any}
use Rattle.fedi_reading.specs.Activities.{reads_address}
use Rattle.fedi_reading.specs.Actors.{reads_actor, reads_names}
use Rattle.fedi_reading.specs.Properties.{first_of, iri, named, property, reference_at, text_at}
use Rattle.fedi_delivery.specs.Examples.{ShownReplies, eve}
use Rattle.fedi_delivery.specs.Replies.{HasHead, NamesInbox, NamesNone, inbox_in}

-- a head of HTTP/1.1 without fields
abbrev bare_head : List ℕ → List ℕ → ResponseHead
bare_head digits phrase = record { blank = []; minor = 1; digits = digits; reason = Some phrase; line_end = crlf; fields = []; last = crlf }

has_bare_head :
    (digits phrase rest : List ℕ) (status : ℕ) → length digits ≡ 3 → list_all is_ascii_digit digits ≡ true
    → list_all is_value_byte phrase ≡ true → status ≡ digits_value 10 digits → 100 ≤ status
    → HasHead (print_response (bare_head digits phrase) ++ rest) status rest
has_bare_head digits phrase rest status three each printable status_is known = record {
  head = bare_head digits phrase;
  reads = (
    record {
      minor = lit≤ tt;
      digits = (three, AllPass-from_list_all is_ascii_digit digits each);
      reason = AllPass-from_list_all is_value_byte phrase printable;
      fields = All-nil _;
    },
    refl,
  );
  few = lit≤ tt;
  status_is = status_is;
  known = known;
}

-- a document that names these
abbrev document : List ℕ → List ℕ → Data
document id inbox = object (put (codes "id") (string id) (put (codes "inbox") (string inbox) no_members))

-- its value is the only one
none_named : (recipient bytes : List ℕ) (d : Data) → read bytes ≡ Some d → inbox_in recipient d ≡ None → NamesNone recipient bytes
none_named recipient bytes d reads none = λ e body. cc (reads, body.1, none)

own : NamesInbox eve (codes "{\"id\":\"https://lake.example/users/eve\",\"inbox\":\"https://lake.example/users/eve/inbox\"}") (codes "https://lake.example/users/eve/inbox")
unfolding serde_json_on_literals url_on_literals host_of normal web_url after_any reads_address reads_actor reads_names first_of iri named property reference_at text_at inbox_in
own = (document eve (codes "https://lake.example/users/eve/inbox"), (IsUtf8-from_is_utf8 _ refl, refl), refl)

inbox_elsewhere : NamesNone eve (codes "{\"id\":\"https://lake.example/users/eve\",\"inbox\":\"https://hill.example/users/eve/inbox\"}")
unfolding serde_json_on_literals url_on_literals host_of normal web_url after_any reads_address reads_actor reads_names first_of iri named property reference_at text_at inbox_in
inbox_elsewhere = none_named eve _ (document eve (codes "https://hill.example/users/eve/inbox")) refl refl

id_of_another : NamesNone eve (codes "{\"id\":\"https://lake.example/users/dora\",\"inbox\":\"https://lake.example/users/eve/inbox\"}")
unfolding serde_json_on_literals url_on_literals host_of normal web_url after_any reads_address reads_actor reads_names first_of iri named property reference_at text_at inbox_in
id_of_another = none_named eve _ (document (codes "https://lake.example/users/dora") (codes "https://lake.example/users/eve/inbox")) refl refl

pub shown_replies : ShownReplies
unfolding print_response
shown_replies = record {
  found = (_, has_bare_head (codes "200") (codes "OK") _ 200 refl refl refl refl (lit≤ tt), own);
  elsewhere = (refl, (_, has_bare_head (codes "200") (codes "OK") _ 200 refl refl refl refl (lit≤ tt), inbox_elsewhere));
  of_another = (refl, (_, has_bare_head (codes "200") (codes "OK") _ 200 refl refl refl refl (lit≤ tt), id_of_another));
  gone = (refl, ([], has_bare_head (codes "410") (codes "Gone") [] 410 refl refl refl refl (lit≤ tt), λ e. omega (arith, e)));
  arrived = (refl, ([], has_bare_head (codes "202") (codes "Accepted") [] 202 refl refl refl refl (lit≤ tt)));
}
