use Rattle.std.proofs.Common.{List, ◌++◌, ap, subst, sym, ◌∙◌, append_assoc}
use Rattle.std.specs.List.{AllByRecursion}
use Rattle.fedi_entry.specs.Fields.{IsFormed}
use Rattle.fedi_log.proofs.Growing.{history_append}
use Rattle.fedi_log.specs.Log.{history_of}
use Rattle.fedi_objects.specs.declared.entry.Entry.{Entry}
use Rattle.fedi_log.proofs.LifeLemmas.{formed_front}
use Rattle.fedi_log.proofs.lives.crashes_end_lives.Goals as goal

pub returns : goal.returns
returns c = λ base opened log left formed crash.
    let whole = ap (λ (es : List Entry). opened ++ es) (ap history_of crash.is ∙ history_append crash.past crash.rest)
    ∙ sym (append_assoc opened (history_of crash.past) (history_of crash.rest)) in
    record {
      formed = formed_front (opened ++ history_of crash.past) (history_of crash.rest) (subst (AllByRecursion IsFormed) whole formed);
      leaves = crash.leaves;
    }
