-- An IRI that begins with `https://`, a host and `/` is of this host.
use Rattle.std.proofs.Common.{◌≡◌, ℕ, suc, ◌+◌, arith, Bool, true, false, List, [], ◌∷◌, ◌++◌, length, take, drop, refl, sym, ap, ◌∙◌, nat_eq, eq-eqb}
use Rattle.std.specs.Prelude.{◌&&◌, codes, if◌then◌else◌}
use Rattle.std.specs.List.{before_first, position_or_len, starts_with}
use Rattle.std.specs.Str.{bytes_eq}
use Rattle.std.proofs.lemmas.Bool.{and_parts, eqb-true}
use Rattle.fedi_address.specs.Hosts.{address, is_host_text}
use Rattle.fedi_address.specs.Iris.{after_slashes, authority_of, host_of, is_at, is_slash}
use Rattle.fedi_address.specs.Pieces.{after_any}
use Rattle.fedi_address.proofs.Parts.{host_of-address}
use Rattle.fedi_town.specs.Ids.{is_of_host}
use Rattle.fedi_town.proofs.Texts.{bytes_eq-is, bytes_eq-same}
use Rattle.fedi_effects.proofs.Prefixes.{rest_after}

parted : (front text back : List ℕ) → bytes_eq (take (length front) text) front ≡ true → back ≡ drop (length front) text → text ≡ front ++ back
parted front text back same is = bytes_eq-is text (front ++ back) (sym (rest_after front back text back same is) ∙ bytes_eq-same back)

one_more : (x n : ℕ) (l : List ℕ) → take (1 + n) (x ∷ l) ≡ x ∷ take n l
one_more x n l = let more : 1 + n ≡ suc n = omega arith in rw more refl

-- what follows the first `/` does not matter
before_slash : (xs rest : List ℕ) → before_first is_slash (xs ++ 47 ∷ rest) ≡ before_first is_slash (xs ++ 47 ∷ [])
before_slash [] rest = refl
before_slash (x ∷ xs) rest =
    elim (is_slash x) as (λ b. is_slash x ≡ b → before_first is_slash (x ∷ xs ++ 47 ∷ rest) ≡ before_first is_slash (x ∷ xs ++ 47 ∷ [])) [
      | true ↦ λ is. rw is refl
      | false ↦ λ isnt. rw isnt
          (one_more x (position_or_len is_slash (xs ++ 47 ∷ rest)) (xs ++ 47 ∷ rest) ∙ ap (λ (before : List ℕ). x ∷ before) (before_slash xs rest)
          ∙ sym (one_more x (position_or_len is_slash (xs ++ 47 ∷ [])) (xs ++ 47 ∷ [])))
    ] refl

host_then_slash : (host rest : List ℕ) → is_host_text host ≡ true → host_of (codes "https://" ++ (host ++ 47 ∷ rest)) ≡ host
unfolding host_of
host_then_slash host rest shape =
    ap (after_any is_at) (before_slash host rest) ∙ host_of-address host (codes "/") shape refl

slash_first : (rest : List ℕ) → starts_with nat_eq rest (codes "/") ≡ true → (more : List ℕ) × (rest ≡ 47 ∷ more)
slash_first [] first = absurd cc
slash_first (b ∷ more) first = (more, ap (λ (c : ℕ). c ∷ more) (sym (eqb-true 47 b (and_parts (nat_eq 47 b) true first).0)))

pub begins_there : (host text onward rest : List ℕ) → is_host_text host ≡ true
    → bytes_eq (take (length (codes "https://")) text) (codes "https://") ≡ true → onward ≡ drop (length (codes "https://")) text
    → bytes_eq (take (length host) onward) host ≡ true → rest ≡ drop (length host) onward
    → starts_with nat_eq rest (codes "/") ≡ true → is_of_host host text ≡ true
unfolding is_of_host
begins_there host text onward rest shape front after own further slash =
    let found = slash_first rest slash in
    let whole : text ≡ codes "https://" ++ (host ++ 47 ∷ found.0) =
    parted (codes "https://") text onward front after
    ∙ ap (λ (t : List ℕ). codes "https://" ++ t) (parted host onward rest own further ∙ ap (λ (t : List ℕ). host ++ t) found.1) in
    rw (whole, host_then_slash host found.0 shape) (bytes_eq-same host)
