-- Which parts of an activity may cross threads.
use denote.Param.Send.{IsSend, IsSync, view_send, sendable}
use denote.Param.SendFields.{declared_send, variants_send}
use Rattle.std.proofs.Crossing.{crosses}
use Rattle.fedi_address.specs.contracts.iri.Iri as Iri
use Rattle.fedi_objects.proofs.kind.Kind.TheSendSync.{the_send as kind_send}
use Rattle.fedi_text.proofs.moment.Moment.TheSendSync.{the_send as moment_send}
use Rattle.fedi_text.specs.contracts.text.Text as Text
use Rattle.fedi_objects.proofs.kind.State.TheSendSync.{the_send as state_send}
use Rattle.fedi_register.proofs.common.Common.TheSendSync.{the_send as common_send, the_sync as common_sync}
use Rattle.fedi_register.proofs.extras.Extras.TheSendSync.{the_send as extras_send}
use Rattle.fedi_register.proofs.parts.Parts.TheSendSync.{the_send as parts_send}
use Rattle.fedi_register.specs.contracts.about.About as About
use Rattle.fedi_register.specs.contracts.about.Changed as Changed
use Rattle.fedi_register.specs.contracts.iris.Iris as Iris
use Rattle.fedi_register.specs.contracts.kept.Kept as Kept
use Rattle.fedi_register.specs.contracts.kept.Kept.TheInside as Inside
use Rattle.fedi_register.specs.contracts.object.Hidden as Hidden
use Rattle.fedi_register.specs.contracts.object.KeptObject as KeptObject
use Rattle.fedi_register.specs.contracts.parts.Beside as Beside
use Rattle.fedi_register.specs.contracts.words.Words as Words

pub iri_send : IsSend Iri.the_row
iri_send = search (crosses, sendable) depth 20

pub iri_sync : IsSync Iri.the_row
iri_sync = search (crosses, sendable) depth 20

pub text_send : IsSend Text.the_row
text_send = search (crosses, sendable) depth 20

pub text_sync : IsSync Text.the_row
text_sync = search (crosses, sendable) depth 20

words_send : IsSend Words.the_row
words_send = search (text_send, text_sync, crosses, sendable) depth 40

pub iris_send : IsSend Iris.the_row
iris_send = search (iri_send, iri_sync, crosses, sendable) depth 40

hidden_send : IsSend Hidden.the_row
hidden_send = search (crosses, sendable) depth 40

object_send : IsSend KeptObject.the_row
object_send = declared_send KeptObject.the_type (search (iri_send, text_send, words_send, common_send, common_sync, extras_send, hidden_send, crosses, sendable) depth 40)

changed_send : IsSend Changed.the_row
changed_send = search (iri_send, crosses, sendable) depth 20

about_send : IsSend About.the_row
about_send = variants_send About.enum (search (iri_send, object_send, changed_send, crosses, sendable) depth 40)

beside_send : IsSend Beside.the_row
beside_send = variants_send Beside.enum (search (parts_send, crosses, sendable) depth 40)

inside_send : IsSend Inside.the_row
inside_send = declared_send Inside.the_type (search (iri_send, about_send, beside_send, iris_send, moment_send, kind_send, state_send, hidden_send, crosses, sendable) depth 40)

pub kept_send : IsSend Kept.the_row
kept_send = view_send _ _ _ _ _ inside_send
