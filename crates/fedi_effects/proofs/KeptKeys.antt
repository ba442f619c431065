-- The first that an author posted under a key is the first of the author's with this key.
use Rattle.std.proofs.Common.{◌≡◌, ℕ, Bool, true, false, List, [], ◌∷◌, Option, Some, None, refl, ap, ◌∙◌}
use Rattle.std.specs.Prelude.{◌&&◌, filter, option_and_then, option_map, if◌then◌else◌}
use Rattle.std.specs.List.{cons_option, find, filter_map}
use Rattle.std.specs.Str.{bytes_eq}
use Rattle.fedi_town.specs.declared.act.Act.{Act}
use Rattle.fedi_town.specs.Agreement.{repeats_of}
use Rattle.fedi_town.specs.Towns.{Town, is_by}
use Rattle.fedi_town.specs.Legal.{has_key}
use Rattle.fedi_register.specs.Keys.{is_repeat}
use Rattle.fedi_effects.specs.Repeats.{repeat_in}

abbrev under : List ℕ → (List ℕ × List ℕ) × Option (List ℕ) → Bool
under key r = bytes_eq r.0.0 key

-- the first of more, if there is one before them
one-key : (key : List ℕ) (x : Act) (own : Option (List ℕ × List ℕ)) (found : Option Act) (more : List ((List ℕ × List ℕ) × Option (List ℕ)))
    → x.repeat ≡ own → option_and_then repeat_in found ≡ find (under key) more
    → option_and_then repeat_in (if has_key key own then Some x else found)
    ≡ find (under key) (cons_option (option_map (λ r. (r, x.activity.id)) own) more)
one-key key x None found more is rest = rest
one-key key x (Some pair) found more is rest =
    elim (bytes_eq pair.0 key) as (λ same. option_and_then repeat_in (if same then Some x else found)
    ≡ (if same then Some (pair, x.activity.id) else find (under key) more)) [
      | true ↦ ap (λ (o : Option (List ℕ × List ℕ)). option_map (λ r. (r, x.activity.id)) o) is
      | false ↦ rest
    ]

found-key : (author key : List ℕ) (acts : List Act)
    → option_and_then repeat_in (find (is_repeat author key) acts) ≡ find (under key) (filter_map repeat_in (filter (is_by author) acts))
unfolding is_repeat
found-key author key [] = refl
found-key author key (x ∷ acts) =
    elim (is_by author x) as (λ own. option_and_then repeat_in (if own && has_key key x.repeat then Some x else find (is_repeat author key) acts)
    ≡ find (under key) (filter_map repeat_in (if own then x ∷ filter (is_by author) acts else filter (is_by author) acts))) [
      | false ↦ found-key author key acts
      | true ↦ one-key key x x.repeat (find (is_repeat author key) acts) (filter_map repeat_in (filter (is_by author) acts)) refl (found-key author key acts)
    ]

pub found_under : (t : Town) (author key : List ℕ) (x : Act) → Some x ≡ find (is_repeat author key) t.acts
    → repeat_in x ≡ find (λ r. bytes_eq r.0.0 key) (repeats_of t author)
found_under t author key x found = ap (λ (o : Option Act). option_and_then repeat_in o) found ∙ found-key author key t.acts

pub none_under : (t : Town) (author key : List ℕ) → None ≡ find (is_repeat author key) t.acts → None ≡ find (λ r. bytes_eq r.0.0 key) (repeats_of t author)
none_under t author key found = ap (λ (o : Option Act). option_and_then repeat_in o) found ∙ found-key author key t.acts
