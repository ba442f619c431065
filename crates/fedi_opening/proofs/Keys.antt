-- Whether a key for repeats was used before.
use Rattle.std.proofs.Common.{◌≡◌, ℕ, Bool, true, false, List, [], ◌∷◌, Option, Some, None, refl, sym, ap, ◌∙◌}
use Rattle.std.specs.Prelude.{◌||◌, filter, if◌then◌else◌, is_none, is_some, not, option_map}
use Rattle.std.specs.List.{cons_option, filter_map, find, list_any}
use Rattle.std.specs.Str.{bytes_eq}
use Rattle.fedi_town.specs.declared.act.Act.{Act}
use Rattle.fedi_town.specs.Agreement.{repeats_of}
use Rattle.fedi_town.specs.Legal.{has_key, is_new_key}
use Rattle.fedi_town.specs.Towns.{Town, is_by}

abbrev Kept : Type 0
Kept = (List ℕ × List ℕ) × Option (List ℕ)

abbrev under : List ℕ → Kept → Bool
under key r = bytes_eq r.0.0 key

abbrev kept_of : Act → Option Kept
kept_of x = option_map (λ r. (r, x.activity.id)) x.repeat

first_unused : (key : List ℕ) (r : Option (List ℕ × List ℕ)) (id : Option (List ℕ)) (rest : List Kept) (x : Bool) → is_none (find (under key) rest) ≡ not x
    → is_none (find (under key) (cons_option (option_map (λ q. (q, id)) r) rest)) ≡ not (has_key key r || x)
first_unused key None id rest x e = e
first_unused key (Some r) id rest x e =
    elim (bytes_eq r.0 key) as (λ b. is_none (if b then Some (r, id) else find (under key) rest) ≡ not (b || x)) [
      | true ↦ refl
      | false ↦ e
    ]

unused : (key : List ℕ) (xs : List Act) → is_none (find (under key) (filter_map kept_of xs)) ≡ not (list_any (λ x. has_key key x.repeat) xs)
unused key [] = refl
unused key (x ∷ xs) = first_unused key x.repeat x.activity.id (filter_map kept_of xs) (list_any (λ y. has_key key y.repeat) xs) (unused key xs)

none_found : (found : Option Kept) (passes : Bool) → is_some found ≡ not passes → passes ≡ is_none found
none_found None true e = refl
none_found None false e = absurd (cc e)
none_found (Some k) true e = absurd (cc e)
none_found (Some k) false e = refl

-- the author has posted nothing under the key exactly if the key is new
pub key_unused : (t : Town) (author : List ℕ) (repeat : Option (List ℕ × List ℕ)) (r : List ℕ × List ℕ) (found : Option Kept) (passes : Bool)
    → repeat ≡ Some r → found ≡ find (λ q. bytes_eq q.0.0 r.0) (repeats_of t author) → is_some found ≡ not passes
    → passes ≡ is_new_key (filter (is_by author) t.acts) repeat
key_unused t author repeat r found passes is first new =
    none_found found passes new
    ∙ (ap (λ (f : Option Kept). is_none f) first
    ∙ (unused r.0 (filter (is_by author) t.acts) ∙ ap (λ (o : Option (List ℕ × List ℕ)). is_new_key (filter (is_by author) t.acts) o) (sym is)))
