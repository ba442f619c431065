use Rattle.std.proofs.Common.{ap, ◌∙◌}
use Rattle.fedi_demo.specs.Draws.{state_after}
use Rattle.fedi_demo.specs.Requests.{first_half, requests_text, second_half}
use Rattle.fedi_demo.proofs.asking.connections.Goals as goal

pub returns-clause-first : goal.returns-clause-first
unfolding first_half
returns-clause-first c =
    c.in_ok-first.ensures.text ∙ ap (λ s. requests_text s 0 1000) c.new-draws.ensures

pub returns-clause-second : goal.returns-clause-second
unfolding second_half
returns-clause-second c =
    c.in_ok-second.ensures.text
    ∙ ap (λ s. requests_text s 1000 1000)
    (c.in_ok-first.ensures.state ∙ ap (λ s. state_after s 1000) c.new-draws.ensures)
