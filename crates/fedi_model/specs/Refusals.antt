-- What a reply says for each reason of a refusal.
use Rattle.std.specs.Prelude.{ℕ, List, ◌++◌, codes}
use Rattle.fedi_town.specs.declared.refusal.Refusal.{Refusal}
use Rattle.fedi_town.specs.declared.refusal.Refusal.TheVariants.{
  BadHead,
  BadBody,
  BadQuery,
  NoKey,
  WrongKey,
  WrongMac,
  NotOwner,
  Blocked,
  NotOrigin,
  NotPublic,
  NotFound,
  WrongMethod,
  KeyReused,
  NotStanding,
  Gone,
  NoLength,
  TooLong,
  WrongType,
  BadShape,
  HeadTooLong,
  NoCoding,
  ActorFull,
  KeeperFault,
  Memory,
  JournalFull,
}

-- the status code (RFC 9110, section 15; RFC 6585, section 5 for 431; RFC 4918, section 11 for 422
-- and 507)
abbrev pub status_of : Refusal → ℕ
status_of BadHead = 400
status_of BadBody = 400
status_of BadQuery = 400
status_of NoKey = 401
status_of WrongKey = 401
status_of WrongMac = 401
status_of NotOwner = 403
status_of Blocked = 403
status_of NotOrigin = 403
status_of NotPublic = 403
status_of NotFound = 404
status_of WrongMethod = 405
status_of KeyReused = 409
status_of NotStanding = 409
status_of Gone = 410
status_of NoLength = 411
status_of TooLong = 413
status_of WrongType = 415
status_of BadShape = 422
status_of HeadTooLong = 431
status_of NoCoding = 501
status_of ActorFull = 403
status_of KeeperFault = 503
status_of Memory = 507
status_of JournalFull = 500

-- the name of each reason
abbrev pub name_of : Refusal → List ℕ
name_of BadHead = codes "BadHead"
name_of BadBody = codes "BadBody"
name_of BadQuery = codes "BadQuery"
name_of NoKey = codes "NoKey"
name_of WrongKey = codes "WrongKey"
name_of WrongMac = codes "WrongMac"
name_of NotOwner = codes "NotOwner"
name_of Blocked = codes "Blocked"
name_of NotOrigin = codes "NotOrigin"
name_of NotPublic = codes "NotPublic"
name_of NotFound = codes "NotFound"
name_of WrongMethod = codes "WrongMethod"
name_of KeyReused = codes "KeyReused"
name_of NotStanding = codes "NotStanding"
name_of Gone = codes "Gone"
name_of NoLength = codes "NoLength"
name_of TooLong = codes "TooLong"
name_of WrongType = codes "WrongType"
name_of BadShape = codes "BadShape"
name_of HeadTooLong = codes "HeadTooLong"
name_of NoCoding = codes "NoCoding"
name_of ActorFull = codes "ActorFull"
name_of KeeperFault = codes "KeeperFault"
name_of Memory = codes "Memory"
name_of JournalFull = codes "JournalFull"

-- the body that names a reason
abbrev pub refusal_body : Refusal → List ℕ
refusal_body r = codes "{\"error\":\"" ++ (name_of r ++ codes "\"}")
