-- Whoever a roster says makes a request makes it.
use Rattle.std.proofs.Common.{◌≡◌, ◌∙◌, ℕ, List, Result, ap, sym}
use Rattle.fedi_effects.specs.Rosters.{Callers, callers_in}
use Rattle.fedi_model.specs.Answers.{caller_of}
use Rattle.fedi_model.specs.Callers.{caller_among, caller_by}
use Rattle.fedi_model.specs.Credentials.{credentials_of}
use Rattle.fedi_model.specs.declared.request.Request.{Request}
use Rattle.fedi_town.specs.declared.caller.Caller.{Caller}
use Rattle.fedi_town.specs.declared.refusal.Refusal.{Refusal}
use Rattle.fedi_town.specs.Towns.{Town}

pub known_caller : (t : Town) (known : Callers) (q : Request) (body : List ℕ)
    (c : Result Caller Refusal) → known ≡ callers_in t
    → c ≡ caller_among known.actors known.peers (credentials_of q body) → caller_of t q body ≡ c
unfolding caller_by
known_caller t known q body c same is = sym (is
    ∙ ap (λ (k : Callers). caller_among k.actors k.peers (credentials_of q body)) same)
