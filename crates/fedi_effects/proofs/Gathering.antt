-- What is found one by one are the recipients, each once.
use Rattle.std.proofs.Common.{◌≡◌, ℕ, Bool, true, false, List, [], ◌∷◌, ◌++◌, refl, sym, ap, ◌∙◌, append_assoc}
use Rattle.std.specs.Prelude.{◌&&◌, not, filter, if◌then◌else◌}
use Rattle.std.specs.List.{fold, flat_map}
use Rattle.std.proofs.lemmas.List.{append-nil}
use Rattle.std.proofs.lemmas.List.Elements.{filter-append}
use Rattle.fedi_address.specs.declared.recipients.Recipients.{Recipients}
use Rattle.fedi_address.specs.Recipients.{all_of, distinct, is_among}
use Rattle.fedi_town.proofs.Once.{once-push}
use Rattle.fedi_town.specs.Addressing.{addressees, is_recipient, recipients_with}
use Rattle.fedi_town.specs.Towns.{Town}
use Rattle.fedi_effects.specs.Gathering.{is_new_recipient, with_addressees, with_reached}

-- of these, those who may get the activity
abbrev reached : Town → List ℕ → List (List ℕ) → List (List ℕ)
reached t author iris = filter (is_recipient t author) iris

found-one : (iri : List ℕ) (iris : List (List ℕ)) (r : Bool)
    → distinct (iris ++ (if r then iri ∷ [] else []))
    ≡ (if r && not (is_among iri (distinct iris)) then distinct iris ++ iri ∷ [] else distinct iris)
found-one iri iris false = rw append-nil refl
found-one iri iris true =
    elim (is_among iri (distinct iris)) as (λ b. distinct (iris ++ iri ∷ []) ≡ (if b then distinct iris else distinct iris ++ iri ∷ [])
    → distinct (iris ++ iri ∷ []) ≡ (if not b then distinct iris ++ iri ∷ [] else distinct iris)) [
      | true ↦ λ e. e
      | false ↦ λ e. e
    ] (once-push iris iri)

with_reached-one : (t : Town) (author iri : List ℕ) (iris : List (List ℕ))
    → with_reached t author (distinct (reached t author iris)) iri ≡ distinct (reached t author (iris ++ iri ∷ []))
unfolding with_reached is_new_recipient
with_reached-one t author iri iris =
    sym (rw (filter-append (is_recipient t author) iris (iri ∷ [])) (found-one iri (reached t author iris) (is_recipient t author iri)))

fold-reached : (t : Town) (author : List ℕ) (before iris : List (List ℕ))
    → fold (with_reached t author) (distinct (reached t author before)) iris ≡ distinct (reached t author (before ++ iris))
fold-reached t author before [] = rw append-nil refl
fold-reached t author before (iri ∷ iris) =
    ap (λ (found : List (List ℕ)). fold (with_reached t author) found iris) (with_reached-one t author iri before)
    ∙ fold-reached t author (before ++ iri ∷ []) iris
    ∙ ap (λ (all : List (List ℕ)). distinct (reached t author all)) (append_assoc before (iri ∷ []) iris)

fold-addressees : (t : Town) (author : List ℕ) (before iris : List (List ℕ))
    → fold (with_addressees t author) (distinct (reached t author before)) iris
    ≡ distinct (reached t author (before ++ flat_map (addressees t author) iris))
unfolding with_addressees
fold-addressees t author before [] = rw append-nil refl
fold-addressees t author before (iri ∷ iris) =
    ap (λ (found : List (List ℕ)). fold (with_addressees t author) found iris) (fold-reached t author before (addressees t author iri))
    ∙ fold-addressees t author (before ++ addressees t author iri) iris
    ∙ ap (λ (all : List (List ℕ)). distinct (reached t author all)) (append_assoc before (addressees t author iri) (flat_map (addressees t author) iris))

-- those that the names represent, and then the others
pub reached_are_recipients : (t : Town) (author : List ℕ) (r : Recipients) (others : List (List ℕ))
    → fold (with_reached t author) (fold (with_addressees t author) [] (all_of r)) others ≡ recipients_with t author r others
unfolding distinct
reached_are_recipients t author r others =
    ap (λ (found : List (List ℕ)). fold (with_reached t author) found others) (fold-addressees t author [] (all_of r))
    ∙ fold-reached t author (flat_map (addressees t author) (all_of r)) others
