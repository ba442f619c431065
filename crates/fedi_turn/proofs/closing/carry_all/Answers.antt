use Rattle.std.proofs.Common.{◌∙◌, refl, Some}
use Rattle.std.proofs.lemmas.List.Elements.{All-pop}
use Rattle.fedi_turn.specs.Turn.{IsIdle}
use Rattle.fedi_turn.proofs.TurnFacts.{none_carried, one_more}
use Rattle.fedi_turn.proofs.closing.carry_all.Goals as goal

pub loop-pass-init : goal.loop-pass-init
loop-pass-init g c =
    let t = c.requires.writer in
    (c.requires.gate, refl, c.requires.passes, none_carried c.args.passes.items c.args.writer.now.me t.0 t.1 t.2)

pub carry_pass-requires-clause-writer : goal.carry_pass-requires-clause-writer
carry_pass-requires-clause-writer g c =
    let t = c.loop-pass.invariant.3 in (_, t.here, t.still)

pub loop-pass-preserved : goal.loop-pass-preserved
loop-pass-preserved g c = (
  c.carry_pass.ensures.gate.0 ∙ c.loop-pass.invariant.0,
  c.carry_pass.ensures.table ∙ c.loop-pass.invariant.1,
  (All-pop (IsIdle g.V.Grows c.args.lock.now) c.loop-pass.passes.items c.pop.new.self.items (Some c.in-Some.pass) c.in-Some.ensures.items c.loop-pass.invariant.2).0,
  one_more c.args.passes.items c.loop-pass.passes.items c.pop.new.self.items c.args.writer.now.me c.loop-pass.writer.me c.carry_pass.new.writer.me c.in-Some.pass
      c.loop-pass.invariant.3 c.in-Some.ensures.items c.carry_pass.ensures.writer,
)
