-- The chain of the records of a machine that is closed.
use Rattle.std.proofs.Common.{◌≡◌, ℕ, List, map, Option, Some, sym, ap, subst, ◌∙◌}
use Rattle.std.specs.Prelude.{IfSome, option_map}
use Rattle.fedi_entry.specs.Codes.{code_of}
use Rattle.fedi_journal.specs.Chains.{chain, chained}
use Rattle.fedi_objects.specs.declared.entry.Entry.{Entry}
use Rattle.fedi_outside.specs.Disks.{DiskState}
use Rattle.fedi_outside.specs.Images.{kept_in}
use Rattle.fedi_outside.specs.Known.{records_told}
use Rattle.fedi_startup.specs.Stores.{records_of}
use Rattle.fedi_program.proofs.MigratingLemmas.{if_known, of_known}

-- it is that of its history, if the bytes of its disk are known
pub tip_is : (disk : DiskState) (records : Option (List (List ℕ))) (history : List Entry) (count : ℕ) (tip : List ℕ) → IfSome records (λ rs. map code_of history ≡ rs)
    → ((kept : List (List ℕ)) → records ≡ Some kept → tip ≡ chain kept) → records ≡ records_told chained count disk → IfSome disk.reads (λ _. tip ≡ chain (records_of history))
tip_is disk records history count tip kept is told =
    if_known disk.reads (λ bytes known.
    let here : records ≡ Some (kept_in chained count bytes) = told ∙ ap (option_map (kept_in chained count)) known in
    is (kept_in chained count bytes) here ∙ ap chain (sym (of_known records _ kept (kept_in chained count bytes) here)))

-- the bytes are those that it was opened over
pub tip_before : (start found : DiskState) (history : List Entry) (tip : List ℕ) → found.reads ≡ start.reads → IfSome found.reads (λ _. tip ≡ chain (records_of history))
    → IfSome start.reads (λ _. tip ≡ chain (records_of history))
tip_before start found history tip same is = subst (λ (o : Option (List ℕ)). IfSome o (λ _. tip ≡ chain (records_of history))) same is
