use Rattle.std.proofs.Common.{refl}
use Rattle.fedi_program.specs.Headline.{kinds}
use Rattle.fedi_program.proofs.HeadlineLemmas.{runs}
use Rattle.fedi_program.proofs.TableLemmas.{serve_on_disk}
use Rattle.fedi_program.proofs.running.run.Goals as goal

pub returns-in-Some-Serve-clause-runs : goal.returns-in-Some-Serve-clause-runs
returns-in-Some-Serve-clause-runs g c =
    let asked = rw c.in-Some-Serve.field-0-is at c.in-Some-Serve.ensures in
    rw (serve_on_disk _ _ asked) (runs (kinds g.S.Source g.O.Sink g.D.Disk g.C.Clock g.E.Entropy g.W.Door g.K.Link g.V.Vault g.V.K.Keeper g.N.Selection) _ _ _ _ _ _ (λ in_vault. absurd (cc in_vault)) asked
    (c.serve.ensures.served, c.serve.ensures.waiting, refl)
    (record { input = λ _ _. refl; clock = refl; disk = λ store. absurd (cc store); second = λ _. c.serve.ensures.second; entropy = λ _. refl; benches = λ alone. absurd (cc alone); vault = λ _. refl; selection = λ _. refl }))
