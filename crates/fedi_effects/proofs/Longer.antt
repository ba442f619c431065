-- The recipients of a known activity once it goes to one more inbox.
use Rattle.std.proofs.Common.{◌≡◌, ℕ, true, false, List, [], ◌∷◌, ◌++◌, Option, Some, None, sym, ap, ◌∙◌}
use Rattle.std.specs.Prelude.{IsTrue, is_some, option_map}
use Rattle.std.specs.List.{find, list_any}
use Rattle.fedi_town.specs.declared.act.Act.{Act}
use Rattle.fedi_town.specs.Relations.{has_activity_id}
use Rattle.fedi_register.proofs.Found.{some_found}
use Rattle.fedi_register.specs.Changes.{longer_of}

pub longer_found : (id owner : List ℕ) (acts : List Act) (x : Act) (rs : List (List ℕ)) → Some x ≡ find (has_activity_id id) acts → rs ≡ x.recipients ++ owner ∷ []
    → longer_of id owner acts ≡ Some rs
longer_found id owner acts x rs found is = sym (ap (λ (o : Option Act). option_map (λ y. y.recipients ++ owner ∷ []) o) found) ∙ ap (λ (r : List (List ℕ)). Some r) (sym is)

pub not_missing : (id : List ℕ) (acts : List Act) → IsTrue (list_any (has_activity_id id) acts) → None ≡ find (has_activity_id id) acts → ⊥
not_missing id acts known none =
    let wrong : false ≡ true = ap is_some none ∙ some_found (has_activity_id id) acts ∙ known in absurd cc
