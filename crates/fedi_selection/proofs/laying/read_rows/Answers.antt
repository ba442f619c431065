use Rattle.std.proofs.Common.{◌∙◌, ◌++◌, ◌∷◌, [], ap, subst, sym, take, length, slice_index_or, ◌<◌, ◌≡◌}
use Rattle.fedi_selection.proofs.Rows.{shown_at}
use Rattle.fedi_selection.proofs.laying.read_rows.Goals as goal

pub loop-row-preserved : goal.loop-row-preserved
loop-row-preserved c acts are =
    let i = c.loop-row.row-index in
    let row = c.row-item.result in
    let at = shown_at acts i row (subst (λ rs. i < length rs) are c.loop-row-test.true) (subst (λ rs. row ≡ slice_index_or rs i row) are c.row-item.is) in
    let so_far = c.loop-row.invariant acts are in
    let act = c.in_ok-read_row.ensures at.act at.is in
    c.in_ok-push.ensures.items ∙ ap (λ xs. xs ++ c.in_ok-read_row.field-0 ∷ []) so_far ∙ ap (λ x. take i acts ++ x ∷ []) act ∙ sym at.more
