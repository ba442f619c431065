use Rattle.std.proofs.Common.{rules, Bool}
use Rattle.std.specs.Prelude.{◌&&◌}
use Rattle.std.proofs.lemmas.Bool.{and_parts}
use Rattle.fedi_town.specs.declared.act.Act.{Act}
use Rattle.fedi_town.specs.Relations.{has_activity_id}
use Rattle.fedi_register.specs.Seeds.{mark_of}
use Rattle.fedi_register.specs.Registers.{has_own_id, own_mark}
use Rattle.fedi_register.proofs.Found.{found}
use Rattle.fedi_register.proofs.Places.{own_marked, marked_narrower}
use Rattle.fedi_register.proofs.register.Register.first_by_id.Goals as goal

pub returns : goal.returns
returns g c = λ p decides.
    let seed = c.self.inside.seed in
    let id = c.args.id.now in
    let both : Act → Bool = λ x. has_activity_id id x && p x in
    rw (← c.self.view_is)
    (found has_own_id both (own_mark seed) c.mark_of_iri.result (mark_of seed id) _ _ _ _ (c.first_of.ensures both (search (rules, decides))) c.deref.ensures.value c.mark_of_iri.ensures c.self.invariant.0.id
    (marked_narrower has_own_id (has_activity_id id) both (own_mark seed) (mark_of seed id) (own_marked seed id) (λ x is. (and_parts (has_activity_id id x) (p x) is).0)))
