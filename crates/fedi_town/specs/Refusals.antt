-- The number of each reason for a refusal.
use Rattle.std.specs.Prelude.{ℕ}
use Rattle.fedi_town.specs.declared.refusal.Refusal.{Refusal}
use Rattle.fedi_town.specs.declared.refusal.Refusal.TheVariants.{
  BadHead,
  BadBody,
  BadQuery,
  NoKey,
  WrongKey,
  WrongMac,
  NotOwner,
  Blocked,
  NotOrigin,
  NotPublic,
  NotFound,
  WrongMethod,
  KeyReused,
  NotStanding,
  Gone,
  NoLength,
  TooLong,
  WrongType,
  BadShape,
  HeadTooLong,
  NoCoding,
  ActorFull,
  KeeperFault,
  Memory,
  JournalFull,
}

-- the number of each reason
abbrev pub number_of : Refusal → ℕ
number_of BadHead = 1
number_of BadBody = 2
number_of BadQuery = 3
number_of NoKey = 4
number_of WrongKey = 5
number_of WrongMac = 6
number_of NotOwner = 7
number_of Blocked = 8
number_of NotOrigin = 9
number_of NotPublic = 10
number_of NotFound = 11
number_of WrongMethod = 12
number_of KeyReused = 13
number_of NotStanding = 14
number_of Gone = 15
number_of NoLength = 16
number_of TooLong = 17
number_of WrongType = 18
number_of BadShape = 19
number_of HeadTooLong = 20
number_of NoCoding = 21
number_of ActorFull = 22
number_of KeeperFault = 23
number_of Memory = 24
number_of JournalFull = 25
