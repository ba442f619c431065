use Rattle.std.proofs.Common.{◌≡◌, ℕ, ◌≤◌, List, length, subst, sym, rules, String, Global, Result, Ok, Err}
use Rattle.std.specs.Prelude.{IfOk}
use Rattle.std.specs.String.{string_bytes}
use Rattle.fedi_town.specs.Ids.{actor_id}
use Rattle.fedi_routes.proofs.DocumentLemmas.{id_is_short}
use Rattle.fedi_routes.proofs.documents.actor_text.Goals as goal

short_if_same : {E : Type 0} (r : Result (String Global) E) (text : List ℕ) → IfOk r (λ id. string_bytes id ≡ text) → length text ≤ 2200
    → IfOk r (λ id. length (string_bytes id) ≤ 2200)
short_if_same (Ok id) text same short = subst (λ (t : List ℕ). length t ≤ 2200) (sym same) short
short_if_same (Err e) text same short = tt

pub returns-clause-value : goal.returns-clause-value
unfolding actor_id
returns-clause-value c = search rules

pub returns-clause-short : goal.returns-clause-short
returns-clause-short c =
    short_if_same c.format.result (actor_id c.args.host.now c.args.name.now) (returns-clause-value c)
    (id_is_short c.args.host.now c.args.name.now c.text-host.ensures.root.short c.text-name.ensures.name)
