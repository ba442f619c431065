use Rattle.std.proofs.Common.{◌≡◌, All, false, length, subst, sym, true, ◌∙◌}
use Rattle.fedi_sqlite.specs.Kept.{IsPlaceBelow}
use Rattle.fedi_sqlite.proofs.places.find_places.Goals as goal

pub returns : goal.returns
returns g c steady =
    let lists = c.in_ok-rows.ensures steady in record {
      stays = lists.stays;
      finds = λ records keeps.
          let found = lists.finds records keeps in
          let all = subst (λ xs. All (IsPlaceBelow (length xs)) xs) (sym c.deref.ensures.value) (subst (λ n. All (IsPlaceBelow n) c.in_ok-rows.rows.items) (sym found.0) found.1) in
          let never : false ≡ true = sym c.if-branch.false ∙ c.in_ok-are_below.ensures all in
          absurd cc;
    }
