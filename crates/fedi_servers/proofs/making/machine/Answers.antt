use Rattle.std.proofs.Common.{◌∙◌, ap, subst, sym}
use Rattle.fedi_entry.specs.Codes.{code_of}
use Rattle.fedi_entry.specs.Limits.{KeepsLimits}
use Rattle.fedi_outside.specs.Keepers.{KeeperState}
use Rattle.fedi_servers.specs.Founding.{moment}
use Rattle.fedi_servers.proofs.NewMachines.{first_limits, keeper_after, new_machine}
use Rattle.fedi_servers.proofs.making.machine.Goals as goal

pub encode-requires : goal.encode-requires
encode-requires c =
    record { limits = subst KeepsLimits (sym c.first_entry-entry.ensures.entry) (first_limits c.args.host moment) }

pub returns-in-Ok-open : goal.returns-in-Ok-open
returns-in-Ok-open c =
    let kept = keeper_after c.new-keeper.result c.reserve.new.self c.append.new.self c.in_ok-code.code.items c.deref.result.now _ c.new-keeper.ensures c.in-Ok.ensures.ok c.deref.ensures.value c.append.ensures.after in
    new_machine c.args.host c.in_ok-code.code.items c.append.new.self.records c.in-Ok-open.core c.first_entry-entry.ensures.next
    (c.in_ok-code.ensures.code ∙ ap code_of c.first_entry-entry.ensures.entry) kept.0 c.in-Ok-open.ensures.opened c.in-Ok-open.ensures.unclaimed
    (ap (λ (k : KeeperState). k.end) c.in-Ok-open.ensures.shown ∙ kept.1)
