-- The document of an activity, which each of its readers gets.
use Rattle.std.proofs.Common.{◌≡◌, true, refl, sym, ◌∙◌}
use Rattle.serde_json.specs.Data.{Data}
use Rattle.fedi_model.specs.AnswerKinds.{Document}
use Rattle.fedi_model.specs.Reading.{activity_document}
use Rattle.fedi_objects.specs.Forms.{activity_form}
use Rattle.fedi_town.specs.declared.act.Act.{Act}
use Rattle.fedi_town.specs.Addressing.{is_of_town}
use Rattle.fedi_town.specs.Showing.{shown_activity}
use Rattle.fedi_town.specs.Towns.{Town}

-- the value that is written
abbrev pub document_of : Town → Act → Data
document_of t x = activity_form (is_of_town t.host x.author) true x.author (shown_activity t x)

pub shown_as : (t : Town) (x : Act) → activity_document t x ≡ Document (document_of t x)
unfolding activity_document
shown_as t x = refl

pub document_is : (t : Town) (x : Act) (d : Data) → activity_document t x ≡ Document d
    → d ≡ document_of t x
document_is t x d is = same d (document_of t x) (sym is ∙ shown_as t x)
  where
    same : (a b : Data) → Document a ≡ Document b → a ≡ b
    same a b e = cc
