-- What remains true of a shelf.
use Rattle.std.proofs.Common.{◌≡◌, ℕ, true, List, [], ◌∷◌, ◌++◌, Option, Some, None, refl, sym, ap, subst, ◌∙◌}
use Rattle.std.proofs.lemmas.List.Sums.{fold_push}
use Rattle.fedi_effects.specs.Additions.{inbox_in}
use Rattle.fedi_effects.specs.Holdings.{Holding, coming_in, coming_inbox, coming_inbox_in}
use Rattle.fedi_index.specs.declared.collection.Collection.{Collection}
use Rattle.fedi_index.specs.declared.collection.Collection.TheVariants as kinds
use Rattle.fedi_index.specs.Candidates.{belongs, collection_of, is_candidate}
use Rattle.fedi_index.specs.Growing.{AreCandidates, MayComeIn, is_kept, sent_on}
use Rattle.fedi_index.specs.Lists.{Listing, places_of}
use Rattle.fedi_index.specs.Shelves.{IsNamed, IsShelf, MayCome}
use Rattle.fedi_index.proofs.NextEntry.{candidates_after, ids_of_town, legal_after, may_go_in}
use Rattle.fedi_index.proofs.Owners.{board_here, member_here, owner_here}
use Rattle.fedi_index.proofs.Positions.{places-same}
use Rattle.fedi_town.proofs.IdsTown.{HasIds}
use Rattle.fedi_objects.specs.declared.entry.Entry.{Entry}
use Rattle.fedi_town.specs.declared.act.Act.{Act}
use Rattle.fedi_town.specs.declared.caller.Which.{Which}
use Rattle.fedi_town.specs.Addressing.{is_of_town}
use Rattle.fedi_town.specs.Boards.{board_id}
use Rattle.fedi_town.specs.Collections.{owner_of}
use Rattle.fedi_town.specs.Histories.{addition_of, step, town}
use Rattle.fedi_town.specs.Towns.{Town, empty_town, id_of}
use Rattle.fedi_visible.specs.Pins.{directed_places, is_directed, is_pin_kind_by, pin_places}
use Rattle.fedi_visible.specs.Places.{places_from}
use Rattle.fedi_address.specs.Names.{is_name}

pub nothing_shelved : IsShelf (record { history = []; town = empty_town; room = None }) []
unfolding places_of
nothing_shelved = record {
  stands = refl;
  legal = record { admissible = refl };
  next = tt;
  candidates = record { places = λ k o. refl };
  room = tt;
  inbox_room = tt;
}

-- ---- one more entry

-- the additional inbox, if any, of the entry for which there is room may be added
pub may_come_in : (h : Holding) (lists : List Listing) → IsShelf h lists → MayComeIn h.town (coming_inbox_in h)
may_come_in h lists s = from h.room s.next
  where
    from : (room : Option Entry) → MayCome h.town room → MayComeIn h.town (coming_inbox h.town room)
    from None may = tt
    from (Some e) may =
        subst (λ (t : Town). MayComeIn t (inbox_in (addition_of t e))) (sym s.stands)
        (may_go_in h.history e s.legal (rw s.stands at may))

pub entry_pushed : (h after : Holding) (e : Entry) (old new : List Listing) → IsShelf h old → h.room ≡ Some e
    → after ≡ record { history = h.history ++ e ∷ []; town = town (h.history ++ e ∷ []); room = None }
    → AreCandidates h.town.host (sent_on (coming_inbox_in h) h.town.acts ++ coming_in h) new → IsShelf after new
entry_pushed h after e old new s room is are =
    let may : MayCome h.town (Some e) = rw room at s.next in
    let ids : HasIds h.town.host h.town.acts = subst (λ (t : Town). HasIds t.host t.acts) (sym s.stands) (ids_of_town h.history s.legal) in
    let next : step h.town e ≡ town (h.history ++ e ∷ []) = ap (λ (t : Town). step t e) s.stands ∙ sym (fold_push step empty_town h.history e) in
    let added : AreCandidates (step h.town e).host (step h.town e).acts new = candidates_after h.town e new may ids (rw room at are) in
    subst (λ (x : Holding). IsShelf x new) (sym is) (record {
      stands = refl;
      legal = legal_after h.history h.town e s.stands s.legal may;
      next = tt;
      candidates = subst (λ (t : Town). AreCandidates t.host t.acts new) next added;
      room = tt;
      inbox_room = tt;
    })

-- ---- the candidates of a collection

kept-here : (host : Option (List ℕ)) (k : Collection) (o : List ℕ) → is_of_town host o ≡ true → (x : Act) → is_kept host k o x ≡ belongs k o x
unfolding is_kept
kept-here host k o here x = rw here refl

pub candidates_of : (h : Holding) (lists : List Listing) (which : Which) (owner : List ℕ) → IsShelf h lists → IsNamed which → owner_of h.town which ≡ Some owner
    → places_of (collection_of which) owner lists ≡ places_from (is_candidate which owner) 0 h.town.acts
candidates_of h lists which owner s named is =
    let here : is_of_town h.town.host owner ≡ true =
    subst (λ (t : Town). is_of_town t.host owner ≡ true) (sym s.stands) (owner_here h.history which owner s.legal named (rw s.stands at is)) in
    s.candidates.places (collection_of which) owner
    ∙ places-same (is_kept h.town.host (collection_of which) owner) (is_candidate which owner) (kept-here h.town.host (collection_of which) owner here) 0 h.town.acts

-- ---- the candidates of the collections that members make

pins-kept : (host : Option (List ℕ)) (member : List ℕ) → is_of_town host member ≡ true → (x : Act) → is_kept host kinds.Pins member x ≡ is_pin_kind_by member x
unfolding is_kept belongs
pins-kept host member here x = rw here refl

pub pins_of_member : (h : Holding) (lists : List Listing) (name member : List ℕ) → IsShelf h lists → id_of h.town name ≡ Some member
    → places_of kinds.Pins member lists ≡ pin_places h.town member
pins_of_member h lists name member s is =
    let here : is_of_town h.town.host member ≡ true =
    subst (λ (t : Town). is_of_town t.host member ≡ true) (sym s.stands) (member_here h.history (town h.history).host name member s.legal refl (rw s.stands at is)) in
    s.candidates.places kinds.Pins member
    ∙ places-same (is_kept h.town.host kinds.Pins member) (is_pin_kind_by member) (pins-kept h.town.host member here) 0 h.town.acts

board-kept : (host : Option (List ℕ)) (board : List ℕ) → is_of_town host board ≡ true → (x : Act) → is_kept host kinds.Board board x ≡ is_directed board x
unfolding is_kept belongs
board-kept host board here x = rw here refl

pub pins_of_board : (h : Holding) (lists : List Listing) (name member slug board : List ℕ) → IsShelf h lists → is_name slug ≡ true → id_of h.town name ≡ Some member
    → board ≡ board_id member slug → places_of kinds.Board board lists ≡ directed_places h.town board
pins_of_board h lists name member slug board s slugged is own =
    let there : is_of_town (town h.history).host (board_id member slug) ≡ true = board_here h.history name slug member s.legal slugged (rw s.stands at is) in
    let here : is_of_town h.town.host board ≡ true = subst (λ (t : Town). is_of_town t.host board ≡ true) (sym s.stands) (rw own there) in
    s.candidates.places kinds.Board board
    ∙ places-same (is_kept h.town.host kinds.Board board) (is_directed board) (board-kept h.town.host board here) 0 h.town.acts
