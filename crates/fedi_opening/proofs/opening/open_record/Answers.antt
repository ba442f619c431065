use Rattle.std.proofs.Common.{◌≡◌, ◌+◌, List, [], ◌∷◌, ◌++◌, ◌∙◌, ap, sym, subst}
use Rattle.fedi_effects.specs.Holdings.{Holding}
use Rattle.fedi_entry.specs.Codes.{code_of}
use Rattle.fedi_objects.specs.declared.entry.Entry.{Entry}
use Rattle.fedi_town.specs.Histories.{town}
use Rattle.fedi_opening.specs.Opening.{IsNext, IsRead}
use Rattle.fedi_opening.proofs.Records.{read_more, record_is}
use Rattle.fedi_opening.proofs.opening.open_record.Goals as goal

pub returns-clause-read : goal.returns-clause-read
returns-clause-read g c =
    let k = g.P.Keeper.shown c.args.keeper.now in
    let held = g.S.Shelf.holding c.args.shelf.now in
    let e = c.in_ok-entry.entry in
    let bytes = c.in_ok-record.record.items in
    let next : IsNext (town held.history) e = subst (λ (x : Holding). IsNext (town x.history) e) c.facts.ensures c.in_ok-entry.ensures.next in
    let code : code_of e ≡ bytes = let is = c.in_ok-entry.ensures.code in let same = c.deref.ensures.value in cc in
    let is = record_is k.records c.args.place bytes (code_of e) c.in_ok-record.ensures.loaded code in
    let more = read_more k.records c.args.place held.history e c.requires.read next is in
    let history : (g.S.Shelf.holding c.push.new.self).history ≡ held.history ++ e ∷ [] =
    ap (λ (x : Holding). x.history) c.push.ensures ∙ ap (λ (x : Holding). x.history ++ e ∷ []) c.in_ok-reserve.ensures.ok in
    subst (λ (x : List Entry). IsRead k.records (c.args.place + 1) x) (sym history) more
