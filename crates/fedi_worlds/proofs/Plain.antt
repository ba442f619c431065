-- The document of an activity is read back from its text.
use Rattle.std.proofs.Common.{◌≡◌, Bool, true, Some, arith}
use Rattle.serde_json.specs.Read.{read}
use Rattle.fedi_delivery.specs.Deliveries.{body_of}
use Rattle.fedi_model.specs.Reading.{activity_document}
use Rattle.fedi_reading.proofs.PlainForms.{activity_low}
use Rattle.fedi_reading.proofs.PlainRead.{reads_back}
use Rattle.fedi_town.specs.Addressing.{is_of_town}
use Rattle.fedi_town.specs.Showing.{shown_activity}
use Rattle.fedi_town.specs.Towns.{Town}
use Rattle.fedi_town.specs.declared.act.Act.{Act}
use Rattle.fedi_worlds.proofs.Shown.{document_of}

pub document_back : (t : Town) (x : Act) → read (body_of t x) ≡ Some (document_of t x)
unfolding body_of activity_document
document_back t x =
    let l = activity_low (is_of_town t.host x.author) true x.author (shown_activity t x) in
    reads_back (document_of t x) l.plain (omega (arith, l.low))
