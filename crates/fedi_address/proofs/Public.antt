-- The IRI that means everyone is an IRI.
use Rattle.std.proofs.Common.{◌≡◌, ℕ, ◌<◌, Bool, true, ◌||◌, ◌==◌, [], Some, None, inl, refl, arith, lit<, lit≤}
use Rattle.std.specs.Prelude.{codes}
use Rattle.std.proofs.lemmas.Bool.Decides.{nat_tests}
use Rattle.std.proofs.lemmas.List.Elements.{All-nil, All-weaker}
use Rattle.url.specs.declared.sets.TheConstants.{FRAGMENT, FORBIDDEN_DOMAIN}
use Rattle.url.specs.declared.host.Host.TheVariants.{Domain}
use Rattle.url.specs.Host.{IsDomain}
use Rattle.url.specs.Scheme.{scheme_type, default_port}
use Rattle.url.specs.Parts.{Parts, IsValidHead, IsValid}
use Rattle.url.proofs.InputLemmas.{Passes, All_from_list_all}
use Rattle.url.proofs.SetLemmas.{kept_from_passes}
use Rattle.url.proofs.OnLiterals.{url_on_literals}
use Rattle.fedi_address.specs.Names.{is_name_byte}
use Rattle.fedi_address.specs.Hosts.{is_domain_byte}
use Rattle.fedi_address.specs.Iris.{IsIri, public_iri}
use Rattle.fedi_address.proofs.Urls.{plain_path, IsScheme_https}

abbrev public_url : Parts
public_url = record {
  scheme = codes "https";
  username = [];
  password = [];
  host = Some (Domain (codes "www.w3.org"));
  port = None;
  path = codes "/ns/activitystreams";
  query = None;
  fragment = Some (codes "Public");
}

domain_byte_ascii : (b : ℕ) → is_domain_byte b ≡ true → b < 128
domain_byte_ascii b passes = grind (arith, nat_tests)

public_domain : IsDomain (codes "www.w3.org")
unfolding url_on_literals
public_domain = record {
  allowed = All-weaker (Passes is_domain_byte) _ (λ b passes. kept_from_passes is_domain_byte FORBIDDEN_DOMAIN refl b (domain_byte_ascii b passes) passes) (codes "www.w3.org") (All_from_list_all is_domain_byte (codes "www.w3.org") refl);
  lower = refl;
  named = refl;
}

-- a letter of either case
abbrev is_letter : ℕ → Bool
is_letter b = is_name_byte b || b == 80

letter_ascii : (b : ℕ) → is_letter b ≡ true → b < 128
letter_ascii b passes = grind (arith, nat_tests)

public_head : IsValidHead public_url
unfolding scheme_type default_port
public_head = record {
  scheme = IsScheme_https;
  username = All-nil _;
  password = All-nil _;
  host = (public_domain, lit< tt);
  port = tt;
  bare = λ _. (refl, refl, refl);
}

public_valid : IsValid public_url
unfolding scheme_type default_port
public_valid =
    let path = plain_path (codes "/ns/activitystreams") refl in
    record {
      head = public_head;
      path = inl (path.0, λ _. path.1);
      query = tt;
      fragment = All-weaker (Passes is_letter) _ (λ b passes. kept_from_passes is_letter FRAGMENT refl b (letter_ascii b passes) passes) (codes "Public") (All_from_list_all is_letter (codes "Public") refl);
    }

pub public_iri_is : IsIri public_iri
public_iri_is = record { url = public_url; valid = public_valid; web = refl; spelled = refl; short = lit≤ tt }
