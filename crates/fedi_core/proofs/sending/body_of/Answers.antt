use Rattle.std.proofs.Common.{true, Bool, subst, ap, ◌∙◌}
use Rattle.serde_json.specs.Data.{Data}
use Rattle.fedi_delivery.specs.Deliveries.{body_of}
use Rattle.fedi_model.specs.Reading.{activity_document}
use Rattle.fedi_objects.specs.Forms.{activity_form, shown_in}
use Rattle.fedi_objects.specs.Writing.{IsWritten}
use Rattle.fedi_objects.proofs.Additions.{document}
use Rattle.fedi_town.specs.Addressing.{is_of_town}
use Rattle.fedi_town.specs.Showing.{shown_activity}
use Rattle.fedi_core.proofs.sending.body_of.Goals as goal

pub returns : goal.returns
unfolding body_of activity_document
returns c =
    let s = c.shown_of.result in
    let x = c.args.act.now in
    let local = is_of_town c.args.facts.now.town.host x.author in
    let d = activity_form local true x.author (shown_activity c.args.facts.now.town x) in
    let same = ap (λ (local : Bool). activity_form local true s.author.now (shown_in s)) c.shown_of.ensures.local ∙ c.shown_of.ensures.form local true in
    let written = subst (λ (e : Data). IsWritten e c.in_ok-out.out c.write_activity.new.out) same c.in_ok-write_activity.ensures in
    c.text_of.ensures d (document c.in_ok-out.ensures.tokens c.in_ok-out.ensures.before written)
