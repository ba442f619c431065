-- A list of benches with one more bench.
use Rattle.std.proofs.Common.{◌≡◌, ℕ, ◌+◌, Bool, false, List, [], ◌∷◌, ◌++◌, All, None, map, add-one}
use Rattle.std.proofs.Common.{ap, sym, ◌∙◌}
use Rattle.std.proofs.lemmas.List.{map-append}
use Rattle.std.proofs.lemmas.List.Elements.{All-push, All-same}
use Rattle.fedi_adapters.specs.Benches.{first_roles, role_at}
use Rattle.fedi_adapters.specs.Untold.{untold_if}
use Rattle.fedi_adapters.specs.declared.tcp_doors.Role.{Role}

-- the list grows by a bench with the role of its place
pub first_roles-more : {A : Type 0} (role : A → Role) (size count : ℕ) (benches more : List A) (bench : A)
    → more ≡ benches ++ bench ∷ [] → map role benches ≡ first_roles size count
    → role bench ≡ role_at size count → map role more ≡ first_roles size (count + 1)
first_roles-more role size count benches more bench pushed before next =
    ap (map role) pushed ∙ map-append role benches (bench ∷ [])
    ∙ ap (λ roles. roles ++ role bench ∷ []) before
    ∙ ap (λ last. first_roles size count ++ last ∷ []) next
    ∙ ap (first_roles size) (sym (add-one count))

-- each bench waits, and so does the one more
pub waiting-more : {A : Type 0} (benches more : List A) (bench : A) → more ≡ benches ++ bench ∷ []
    → (out idle : A → Bool) → All (λ b. (untold_if (out b) ≡ None) × (idle b ≡ false)) benches
    → untold_if (out bench) ≡ None → idle bench ≡ false
    → All (λ b. (untold_if (out b) ≡ None) × (idle b ≡ false)) more
waiting-more {A} benches more bench pushed out idle before is_out is_idle =
    let Waits = λ (b : A). (untold_if (out b) ≡ None) × (idle b ≡ false) in
    All-same Waits more (benches ++ bench ∷ []) pushed
    (All-push Waits benches bench before (is_out, is_idle))
