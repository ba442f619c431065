-- Each reply is clean.
use Rattle.std.proofs.Common.{◌≡◌, ℕ, true, List, inl, inr, refl}
use Rattle.std.specs.Prelude.{codes}
use Rattle.serde_json.specs.Data.{Data, object, string, put, no_members}
use Rattle.serde_json.specs.Written.{compact_text}
use Rattle.serde_json.proofs.OnLiterals.{serde_json_on_literals}
use Rattle.fedi_model.specs.declared.ask.Ask.{Ask}
use Rattle.fedi_model.specs.AnswerKinds.{Answer, Refuse, Misshape, Disallow, Document, Profile, Tombstone, Created, Accepted}
use Rattle.fedi_model.specs.Asks.{answer_of}
use Rattle.fedi_model.specs.Cleanness.{is_clean_answer, IsCleanBody}
use Rattle.fedi_laws.proofs.Clean.{answers_clean}
use Rattle.fedi_reading.specs.declared.shape_fault.ShapeFault.{ShapeFault}
use Rattle.fedi_reading.specs.declared.shape_fault.ShapeFault.TheVariants as faults
use Rattle.fedi_reading.specs.Shapes.{fault_name}
use Rattle.fedi_town.specs.declared.caller.Caller.{Caller}
use Rattle.fedi_town.specs.declared.refusal.Refusal.{Refusal}
use Rattle.fedi_town.specs.declared.refusal.Refusal.TheVariants.{BadHead, BadBody, BadQuery, NoKey, WrongKey, WrongMac, NotOwner, Blocked, NotOrigin, NotPublic, NotFound, WrongMethod, KeyReused, NotStanding, Gone, NoLength, TooLong, WrongType, BadShape, HeadTooLong, NoCoding, ActorFull, KeeperFault, Memory, JournalFull}
use Rattle.fedi_town.specs.Towns.{Town}
use Rattle.fedi_model.specs.Refusals.{name_of, refusal_body}
use Rattle.fedi_model.specs.Refusing.{fault_body, refused}
use Rattle.fedi_model.specs.Replies.{reply, reply_of}

-- a value that names what is wrong
abbrev error_value : List ℕ → Data
error_value name = object (put (codes "error") (string name) no_members)

refusal_value : (r : Refusal) → refusal_body r ≡ compact_text (error_value (name_of r))
unfolding serde_json_on_literals
refusal_value BadHead = refl
refusal_value BadBody = refl
refusal_value BadQuery = refl
refusal_value NoKey = refl
refusal_value WrongKey = refl
refusal_value WrongMac = refl
refusal_value NotOwner = refl
refusal_value Blocked = refl
refusal_value NotOrigin = refl
refusal_value NotPublic = refl
refusal_value NotFound = refl
refusal_value WrongMethod = refl
refusal_value KeyReused = refl
refusal_value NotStanding = refl
refusal_value Gone = refl
refusal_value NoLength = refl
refusal_value TooLong = refl
refusal_value WrongType = refl
refusal_value BadShape = refl
refusal_value HeadTooLong = refl
refusal_value NoCoding = refl
refusal_value ActorFull = refl
refusal_value KeeperFault = refl
refusal_value Memory = refl
refusal_value JournalFull = refl

abbrev fault_value : List ℕ → Data
fault_value name = object (put (codes "error") (string (codes "BadShape")) (put (codes "fault") (string name) no_members))

fault_text : (f : ShapeFault) → fault_body f ≡ compact_text (fault_value (fault_name f))
unfolding serde_json_on_literals
fault_text faults.NotObject = refl
fault_text faults.BadContext = refl
fault_text faults.NoType = refl
fault_text faults.NoId = refl
fault_text faults.NoActor = refl
fault_text faults.NoObject = refl
fault_text faults.BadIri = refl
fault_text faults.TooManyRecipients = refl
fault_text faults.BadText = refl
fault_text faults.SelfTarget = refl
fault_text faults.Memory = refl

pub refused_is_clean : (r : Refusal) → IsCleanBody (refused r).body
refused_is_clean r = inr (error_value (name_of r), refl, refusal_value r)

-- a clean answer is written as a clean reply
answer_is_clean : (a : Answer) → is_clean_answer a ≡ true → IsCleanBody (reply_of a).body
answer_is_clean (Refuse r) clean = refused_is_clean r
answer_is_clean (Misshape fault) clean = inr (fault_value (fault_name fault), refl, fault_text fault)
answer_is_clean (Disallow allow) clean = refused_is_clean WrongMethod
answer_is_clean (Document d) clean = inr (d, clean, refl)
answer_is_clean (Profile d) clean = inr (d, clean, refl)
answer_is_clean (Tombstone d) clean = inr (d, clean, refl)
answer_is_clean (Created id) clean = inl refl
answer_is_clean Accepted clean = inl refl

pub reply_is_clean : (t : Town) (c : Caller) (ask : Ask) → IsCleanBody (reply t c ask).body
reply_is_clean t c ask = answer_is_clean (answer_of t c ask) (answers_clean t c ask)
