-- Towns with the same members and the same peers know the same callers.
use Rattle.std.proofs.Common.{◌≡◌, List, ap, ◌∙◌}
use Rattle.fedi_town.specs.declared.act.Actor.{Actor}
use Rattle.fedi_town.specs.declared.act.Peer.{Peer}
use Rattle.fedi_town.specs.Towns.{Town}
use Rattle.fedi_model.specs.Callers.{caller_among, caller_by}
use Rattle.fedi_model.specs.Credentials.{Shows}

pub same_caller : (g h : Town) (s : Shows) → g.actors ≡ h.actors → g.peers ≡ h.peers → caller_by g s ≡ caller_by h s
unfolding caller_by
same_caller g h s actors peers =
    ap (λ (known : List Actor). caller_among known g.peers s) actors ∙ ap (λ (known : List Peer). caller_among h.actors known s) peers
