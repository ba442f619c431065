-- What is posted names nobody that is hidden.
use Rattle.std.proofs.Common.{true, inr, refl}
use Rattle.fedi_objects.proofs.FormLemmas.{is_clean-activity_form}
use Rattle.fedi_model.specs.Reading.{activity_document}
use Rattle.fedi_town.specs.Showing.{shown_activity}
use Rattle.fedi_delivery.specs.Deliveries.{BodiesAreClean, body_of}

pub bodies_clean : BodiesAreClean
unfolding activity_document body_of
bodies_clean t x = inr (_, is_clean-activity_form _ true x.author (shown_activity t x), refl)
