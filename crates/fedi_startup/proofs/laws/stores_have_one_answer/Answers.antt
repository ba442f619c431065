use Rattle.fedi_journal.specs.ChainLaws.{chained_ok}
use Rattle.fedi_outside.proofs.Openings.{damaged_not_older, one_place}
use Rattle.fedi_journal.specs.Chains.{chained}
use Rattle.fedi_startup.proofs.OneAnswer.{byte_record, none_byte, none_older, none_record, one_history, one_record, record_older, store_byte, store_none, store_older, store_record}
use Rattle.fedi_startup.proofs.laws.stores_have_one_answer.Goals as goal

pub returns-clause-history : goal.returns-clause-history
returns-clause-history c = one_history

pub returns-clause-byte : goal.returns-clause-byte
returns-clause-byte c = one_place chained chained_ok

pub returns-clause-bad : goal.returns-clause-bad
returns-clause-bad c = one_record

pub returns-clause-store_none : goal.returns-clause-store_none
returns-clause-store_none c = store_none

pub returns-clause-store_byte : goal.returns-clause-store_byte
returns-clause-store_byte c = store_byte

pub returns-clause-store_record : goal.returns-clause-store_record
returns-clause-store_record c = store_record

pub returns-clause-none_byte : goal.returns-clause-none_byte
returns-clause-none_byte c = none_byte

pub returns-clause-none_record : goal.returns-clause-none_record
returns-clause-none_record c = none_record

pub returns-clause-byte_record : goal.returns-clause-byte_record
returns-clause-byte_record c = byte_record

pub returns-clause-store_older : goal.returns-clause-store_older
returns-clause-store_older c = store_older

pub returns-clause-none_older : goal.returns-clause-none_older
returns-clause-none_older c = none_older

pub returns-clause-byte_older : goal.returns-clause-byte_older
returns-clause-byte_older c = damaged_not_older chained chained_ok

pub returns-clause-record_older : goal.returns-clause-record_older
returns-clause-record_older c = record_older
