-- What a seat of the record knows, how each step changes it, and the rule of the record.
use Rattle.std.specs.Prelude.{◌≡◌, ◌≢◌, ℕ, ◌+◌, ◌<◌, List, [], ◌∷◌, ◌++◌, All, Option, Some}
use mathlib.Core.Option.{some}
use lib.ListN.{get_elem?}
use Rattle.atomic_table.specs.Table.{Step, Me}
use Rattle.fedi_turn.specs.declared.record.ReaderView.{ReaderView}
use Rattle.fedi_turn.specs.declared.record.WriterView.{WriterView}
use Rattle.fedi_turn.specs.declared.record.View.{View}
use Rattle.fedi_turn.specs.declared.record.View.TheVariants.{Nothing, Reader, Writer}

module _ {I : Type 0} where
  -- the reader of this number, which has seen this list
  abbrev pub reader_view : ℕ → List I → ReaderView I
  reader_view n xs = record { number = n; list = xs }

  -- the writer between two turns
  abbrev pub idle_writer : List I → List I → ℕ → WriterView I
  idle_writer xs start count =
      record { list = xs; start = start; count = count; carried = []; turn = xs }

  -- the writer of a new lock, once it gave out this many numbers
  abbrev pub new_writer : List I → ℕ → View I
  new_writer xs count = Writer (idle_writer xs xs count)

  -- one more number was given out
  abbrev pub count_one : WriterView I → WriterView I
  count_one w = record w { count = w.count + 1 }

  -- the writer carries this reader too, or these
  abbrev pub take_in : WriterView I → ReaderView I → WriterView I
  take_in w r = record w { carried = r ∷ w.carried }

  -- or takes in all of these
  abbrev pub take_in_all : List (ReaderView I) → WriterView I → WriterView I
  take_in_all rs w = record w { carried = rs ++ w.carried }

  -- the list is longer by these items
  abbrev pub add_items : WriterView I → List I → WriterView I
  add_items w items = record w { list = w.list ++ items }

  -- the list is this one
  abbrev pub set_list : List I → WriterView I → WriterView I
  set_list xs w = record w { list = xs }

  -- the turn ends: nobody is carried, and the next turn begins with the list as it is
  abbrev pub end_turn : WriterView I → WriterView I
  end_turn w = record w { carried = []; turn = w.list }

  -- the same on views: a new reader gets the next number, and has seen the writer's list
  abbrev pub draw_left : View I → View I
  draw_left Nothing = Nothing
  draw_left (Reader r) = Reader r
  draw_left (Writer w) = Writer (count_one w)

  -- the new reader's view
  abbrev pub draw_right : View I → View I
  draw_right Nothing = Nothing
  draw_right (Reader r) = Nothing
  draw_right (Writer w) = Reader (reader_view w.count w.list)

  -- the writer's view with that of the reader that it takes in
  abbrev pub carry_both : View I → View I → View I
  carry_both (Writer w) (Reader r) = Writer (take_in w r)
  carry_both Nothing _ = Nothing
  carry_both (Reader r) _ = Nothing
  carry_both (Writer w) Nothing = Nothing
  carry_both (Writer w) (Writer v) = Nothing

  -- the writer's view after its turn
  abbrev pub return_left : View I → View I
  return_left Nothing = Nothing
  return_left (Reader r) = Reader r
  return_left (Writer w) = Writer (end_turn w)

  -- the number of the reader that was carried
  abbrev pub first_number : List (ReaderView I) → ℕ
  first_number [] = 0
  first_number (r ∷ rs) = r.number

  -- that reader's view after the turn: it has seen the writer's list
  abbrev pub return_right : View I → View I
  return_right Nothing = Nothing
  return_right (Reader r) = Nothing
  return_right (Writer w) = Reader (reader_view (first_number w.carried) w.list)

  -- what an append of items shows
  abbrev pub Appends : List I → Step (Unit {0}) → Me (Unit {0}) (View I) → ℕ
      → Me (Unit {0}) (View I) → Type 0
  Appends items st me found after =
      (after.1 ≡ me.1)
      × ((w : WriterView I) → me.0 ≡ Writer w → after.0 ≡ Writer (add_items w items))

  -- the writer's seat goes from one view to the next
  abbrev pub Becomes : (WriterView I → WriterView I) → Me (Unit {0}) (View I)
      → Me (Unit {0}) (View I) → Type 0
  Becomes f old new = (w : WriterView I) → old.0 ≡ Writer w → new ≡ (Writer (f w), [])

  -- the seat is the writer's
  abbrev pub IsWriter : Me (Unit {0}) (View I) → Type 0
  IsWriter me = (w : WriterView I) × (me ≡ (Writer w, []))

  -- the writer may take in readers: nothing was added in this turn
  abbrev pub MayCarry : Me (Unit {0}) (View I) → Type 0
  MayCarry me = (w : WriterView I) × (me ≡ (Writer w, [])) × (w.list ≡ w.turn)

  -- the second seat is a reader's, and the first one's may take it in
  abbrev pub MayJoin : Me (Unit {0}) (View I) → Me (Unit {0}) (View I) → Type 0
  MayJoin me his =
      (w : WriterView I) × (r : ReaderView I) × (me ≡ (Writer w, [])) × (his ≡ (Reader r, []))
      × (w.list ≡ w.turn)

  -- the writer carries one reader
  abbrev pub CarriesOne : Me (Unit {0}) (View I) → Type 0
  CarriesOne me =
      (w : WriterView I) × (r : ReaderView I) × (me ≡ (Writer w, [])) × (w.carried ≡ r ∷ [])

  -- no two have one number
  abbrev pub AreApart : List (ReaderView I) → Type 0
  AreApart [] = Unit {0}
  AreApart (r ∷ rs) = All (λ (s : ReaderView I). s.number ≢ r.number) rs × AreApart rs

module _ {I : Type 0} (name : I → Option ℕ) where
  -- a list continues what the pass n has seen: it begins with that, and each later item names
  -- another pass
  abbrev pub Continues : ℕ → List I → List I → Type 0
  Continues n seen xs = (rest : List I) × (xs ≡ seen ++ rest) × All (λ x. name x ≢ Some n) rest

  -- a list grew by items that name the pass n, or not at all
  abbrev pub GrowsBy : ℕ → List I → List I → Type 0
  GrowsBy n before xs = (added : List I) × (xs ≡ before ++ added) × All (λ x. name x ≡ Some n) added

  -- each item past the first ones names a pass below the count
  abbrev pub NamesBelow : ℕ → List I → List I → Type 0
  NamesBelow count start xs =
      (rest : List I) × (xs ≡ start ++ rest)
      × All (λ x. (n : ℕ) × (n < count) × (name x ≡ Some n)) rest

  -- each item past the turn's list names the one number that is carried
  abbrev pub NamesCarried : List (ReaderView I) → List I → List I → Type 0
  NamesCarried carried turn xs =
      (added : List I) × (xs ≡ turn ++ added)
      × All (λ x. (r : ReaderView I) × (carried ≡ r ∷ []) × (name x ≡ Some r.number)) added

  -- the writer carries one reader, and these items name its number
  abbrev pub MayAppend : List I → Me (Unit {0}) (View I) → Type 0
  MayAppend items me =
      (w : WriterView I) × (r : ReaderView I) × (me ≡ (Writer w, [])) × (w.carried ≡ r ∷ [])
      × All (λ x. name x ≡ Some r.number) items

  -- the writer carries one reader, and its list may grow to this one
  abbrev pub MayGrow : List I → Me (Unit {0}) (View I) → Type 0
  MayGrow xs me =
      (w : WriterView I) × (r : ReaderView I) × (me ≡ (Writer w, [])) × (w.carried ≡ r ∷ [])
      × GrowsBy r.number w.list xs

  -- what the rule says of the writer's own view
  pub record IsOrdered (w : WriterView I) : Type 0 where
    pub each_carried : All (λ (r : ReaderView I). (r.number < w.count)
        × Continues r.number r.list w.turn) w.carried
    pub apart : AreApart w.carried
    pub past : NamesCarried w.carried w.turn w.list
    pub below : NamesBelow w.count w.start w.list

  -- what the rule says of the seat j: each number has one position
  abbrev pub Fits : WriterView I → ℕ → (ℕ → ℕ) → ℕ → View I → Type 0
  Fits w at place j Nothing = Unit {0}
  Fits w at place j (Reader r) =
      (place r.number ≡ j) × (r.number < w.count) × Continues r.number r.list w.list
  Fits w at place j (Writer v) = (j ≡ at) × (v ≡ w)

  -- the rule where the seat `at` is the writer's
  pub record IsWrittenAt (views : List (View I)) (at : ℕ) (w : WriterView I) : Type 0 where
    pub place : ℕ → ℕ
    pub here : get_elem? views at ≡ some (Writer w)
    pub each : (j : ℕ) (v : View I) → get_elem? views j ≡ some v → Fits w at place j v
    pub carried_here : All (λ (r : ReaderView I). place r.number ≡ at) w.carried
    pub ordered : IsOrdered w

  -- the rule of the record: there is one writer
  abbrev pub IsRecord : List (View I) → Type 0
  IsRecord views = (at : ℕ) × (w : WriterView I) × IsWrittenAt views at w

  -- what a look of the writer shows
  abbrev pub Looks : Step (Unit {0}) → Me (Unit {0}) (View I) → ℕ → Me (Unit {0}) (View I) → Type 0
  Looks st me found after = (after ≡ me) × ((w : WriterView I) → me.0 ≡ Writer w → IsOrdered w)
