use Rattle.std.proofs.Common.{[], ◌∷◌, Ok}
use Rattle.json.specs.Token.{Token}
use Rattle.fedi_collections.proofs.Adding.{one_added, then_added}
use Rattle.fedi_collections.specs.Members.{document_start}
use Rattle.fedi_collections.proofs.members.begin_document.Goals as goal

pub returns : goal.returns
unfolding document_start
returns c = then_added (Token.begin_object ∷ []) _ _ (one_added _ (Ok tt) c.in_ok-begin_object.ensures) _ c.write_str.ensures
