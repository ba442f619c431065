use Rattle.std.proofs.Common.{[], ◌∷◌, Ok, codes}
use Rattle.json.specs.Token.{Token}
use Rattle.fedi_collections.proofs.Adding.{one_added, then_added}
use Rattle.fedi_collections.specs.Members.{total_member}
use Rattle.fedi_collections.proofs.members.write_total.Goals as goal

pub returns : goal.returns
unfolding total_member
returns c =
    then_added (Token.key (codes "totalItems") ∷ []) _ _ (one_added _ (Ok tt) c.in_ok-key.ensures) _ (one_added _ c.u64.result c.u64.ensures)
