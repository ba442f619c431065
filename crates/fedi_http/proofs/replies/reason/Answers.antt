use Rattle.std.proofs.Common.{◌≡◌, ℕ, List, Bor, Option, Some, None, option_map, unwrap_or, ap, ◌∙◌}
use Rattle.http.specs.StatusCode.{reason_phrase}
use Rattle.fedi_model.specs.ReplyText.{reason_of}
use Rattle.fedi_http.proofs.replies.reason.Goals as goal

-- a default taken from references is the default taken from what they point to
unwrap_or-now : (r : Option (Bor (List ℕ))) (d : Bor (List ℕ)) (p : Option (List ℕ))
    → option_map (λ s. s.now) r ≡ p → (unwrap_or r d).now ≡ unwrap_or p d.now
unwrap_or-now None d p e = ap (λ (o : Option (List ℕ)). unwrap_or o d.now) e
unwrap_or-now (Some s) d p e = ap (λ (o : Option (List ℕ)). unwrap_or o d.now) e

pub returns : goal.returns
unfolding reason_of
returns c =
    ap (λ (s : Bor (List ℕ)). s.now) c.unwrap_or.ensures
    ∙ unwrap_or-now c.canonical_reason.result _ (reason_phrase c.args.status) c.canonical_reason.ensures.value
