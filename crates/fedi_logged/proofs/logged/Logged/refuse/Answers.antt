use Rattle.std.proofs.Common.{◌∙◌, ap, append-nil, Err, sym}
use Rattle.fedi_log.specs.Log.{NoEntry}
use Rattle.fedi_model.specs.Refusing.{refused}
use Rattle.fedi_logged.specs.Turns.{Standing, standing_by}
use Rattle.fedi_logged.proofs.Callers.{callers_known}
use Rattle.fedi_logged.proofs.Replying.{refused_reply}
use Rattle.fedi_logged.proofs.Telling.{told}
use Rattle.fedi_logged.proofs.logged.Logged.refuse.Goals as goal

pub returns : goal.returns
returns g c = λ by.
    let was : Standing = standing_by g.P.Keeper.shown g.P.Keeper.crashes c.self.inside.core in
    let same = ap (λ m. m.log) c.self.view_is in
    let known = callers_known g.O.Opened.state.history was.state.history c.args.request.now
    c.args.body.now (Err c.args.refusal) c.self.invariant.3 c.requires.caller in
    told g.P.Keeper.growth g.P.Keeper.room g.O.Opened.state was.state by _ _ _ c.args.moment
    c.args.request.now c.args.body.now c.args.closing NoEntry (refused c.args.refusal)
    c.refusal_text.result same c.self.invariant.1.holds
    (refused_reply g.P.Keeper.room was.state c.args.moment c.args.request.now c.args.body.now
    c.args.refusal known) (sym same ∙ sym (append-nil _)) c.refusal_text.ensures
