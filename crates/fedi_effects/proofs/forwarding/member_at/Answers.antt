use Rattle.std.proofs.Common.{◌∙◌, List, Some, None, ap, sym}
use Rattle.std.specs.List.{find}
use Rattle.std.proofs.lemmas.Bool.Decides.{Decides-eqb}
use Rattle.std.proofs.lemmas.Slice.Eq.{strip_suffix_is}
use Rattle.fedi_town.specs.declared.act.Actor.{Actor}
use Rattle.fedi_town.specs.Towns.{has_id}
use Rattle.fedi_effects.proofs.Forwards.{found_by_rest, none_at}
use Rattle.fedi_effects.proofs.forwarding.member_at.Goals as goal

pub returns-in-Some : goal.returns-in-Some
returns-in-Some c =
    let id = c.in-Some.id.now in
    c.of_text.ensures ∙ ap (λ (actors : List Actor). find (has_id id) actors) c.members.ensures
    ∙ sym (found_by_rest c.args.iri.now id c.args.facts.now.town.actors
    (rw (c.as_bytes.ensures.value, c.text.ensures.value, c.as_slice.ensures) at (strip_suffix_is Decides-eqb c.as_bytes.result.now c.as_slice.result.now (Some c.in-Some.id) c.in-Some.ensures.cases)))

pub returns-in-None : goal.returns-in-None
returns-in-None c =
    sym (none_at c.args.iri.now c.args.facts.now.town.actors
    (rw (c.as_bytes.ensures.value, c.text.ensures.value, c.as_slice.ensures) at (strip_suffix_is Decides-eqb c.as_bytes.result.now c.as_slice.result.now None c.in-None.ensures.cases)))
