use Rattle.std.proofs.Common.{◌≡◌, ◌≤◌, ◌+◌, ℕ, List, ◌++◌, length, ap, subst, sym, ◌∙◌, append_assoc, length-append, arith}
use Rattle.std.proofs.lemmas.List.{drop-append-le}
use Rattle.std.specs.List.{AllByRecursion}
use Rattle.fedi_entry.specs.Fields.{IsFormed}
use Rattle.fedi_log.proofs.Growing.{history_append}
use Rattle.fedi_log.specs.Keeping.{since}
use Rattle.fedi_log.specs.Log.{Log, history_of}
use Rattle.fedi_objects.specs.declared.entry.Entry.{Entry}
use Rattle.fedi_log.proofs.LifeLemmas.{formed_front}
use Rattle.fedi_log.proofs.lives.later_crashes_end_lives.Goals as goal

pub returns : goal.returns
returns c = record {
  life = λ base opened seen log left formed within crash.
      let past : Log = since base (seen ++ crash.past) in
      let longer : base.kept ≤ length (seen ++ crash.past) = let sum = length-append seen crash.past in omega (arith, within, sum) in
      let parted : since base log ≡ past ++ crash.rest =
      ap (λ (l : Log). since base l) (crash.is ∙ sym (append_assoc seen crash.past crash.rest)) ∙ drop-append-le base.kept (seen ++ crash.past) crash.rest longer in
      let whole = ap (λ (es : List Entry). opened ++ es) (ap history_of parted ∙ history_append past crash.rest)
      ∙ sym (append_assoc opened (history_of past) (history_of crash.rest)) in
      record {
        formed = formed_front (opened ++ history_of past) (history_of crash.rest) (subst (AllByRecursion IsFormed) whole formed);
        leaves = crash.leaves;
      };
  begins = λ base seen past within. drop-append-le base.kept seen past within;
}
