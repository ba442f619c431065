use Rattle.std.proofs.Common.{◌∙◌, ◌++◌, ℕ, List, true, false, arith, inr, ap, subst, sym}
use Rattle.fedi_script.specs.Lines.{lines_of}
use Rattle.fedi_script.specs.Printed.{refused_line}
use Rattle.fedi_servers.specs.Machines.{founding_of}
use Rattle.fedi_play.specs.Playing.{IsPlay, entries_lines}
use Rattle.fedi_play.proofs.Leading.{played_on}
use Rattle.fedi_play.proofs.Texts.{refused_play}
use Rattle.fedi_play.proofs.Starting.{are_new, begins}
use Rattle.fedi_play.proofs.playing.play.Goals as goal

pub start-requires : goal.start-requires
start-requires c =
    are_new c.in_ok-servers.servers.hosts.items c.in_ok-servers.servers.cores.items c.in_ok-servers.ensures.order

pub returns-in-Some : goal.returns-in-Some
returns-in-Some c =
    let short = c.if-script-gt-LONGEST.false in
    let event = rw c.if-refused.false at c.in_ok-servers.ensures.stops in
    let same = begins c.in_ok-servers.servers.hosts.items c.in_ok-servers.servers.cores.items c.in_ok-world.world c.in_ok-servers.ensures.order
    (c.in_ok-world.ensures.moment ∙ c.clamped.ensures) c.in_ok-world.ensures.servers c.in_ok-world.ensures.requests c.in_ok-world.ensures.replies
    c.in_ok-world.ensures.attempts c.in_ok-world.ensures.ends in
    let played = c.in_ok-number.ensures.played in
    let plays = rw c.in-Some.is at played.2 in
    let whole = played_on (founding_of c.in_ok-servers.servers) c.in_ok-world.world c.in_ok-servers.left.number (lines_of c.args.script.now)
    (lines_of c.in_ok-servers.left.bytes.now) (played.0 ++ refused_line c.in-Some.number) true c.in_ok-servers.ensures.leads event same plays in
    refused_play c.refused_at-in-Some.result c.args.script.now (played.0 ++ refused_line c.in-Some.number) c.happen_all.new.text.items
    (refused_line c.in-Some.number) c.refused_at-in-Some.ensures
    (ap (λ (l : List ℕ). l ++ refused_line c.in-Some.number) (played.1 ∙ ap (λ (l : List ℕ). l ++ played.0) c.new-text.ensures.items)) (omega (arith, short)) whole

pub returns : goal.returns
returns c =
    let short = c.if-script-gt-LONGEST.false in
    let event = rw c.if-refused.false at c.in_ok-servers.ensures.stops in
    let same = begins c.in_ok-servers.servers.hosts.items c.in_ok-servers.servers.cores.items c.in_ok-world.world c.in_ok-servers.ensures.order
    (c.in_ok-world.ensures.moment ∙ c.clamped.ensures) c.in_ok-world.ensures.servers c.in_ok-world.ensures.requests c.in_ok-world.ensures.replies
    c.in_ok-world.ensures.attempts c.in_ok-world.ensures.ends in
    let played = c.in_ok-number.ensures.played in
    let plays = rw c.in-None.is at played.2 in
    let whole = played_on (founding_of c.in_ok-servers.servers) c.in_ok-world.world c.in_ok-servers.left.number (lines_of c.args.script.now)
    (lines_of c.in_ok-servers.left.bytes.now) (played.0 ++ entries_lines c.happen_all.new.world.world.servers) false c.in_ok-servers.ensures.leads event same plays in
    let text = c.in_ok-put_all_entries-in-None.ensures
    ∙ ap (λ (l : List ℕ). l ++ entries_lines c.happen_all.new.world.world.servers) (played.1 ∙ ap (λ (l : List ℕ). l ++ played.0) c.new-text.ensures.items) in
    subst (λ (l : List ℕ). IsPlay c.args.script.now l false) (sym text) (inr (omega (arith, short), whole))
