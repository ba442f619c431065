-- What a turn's steps show together.
use Rattle.std.proofs.Common.{◌≡◌, ℕ, ◌<◌, ◌≤◌, List, [], ◌∷◌, ◌++◌, Option, length, sym, ap, ◌∙◌, arith, append-nil, append_assoc, map, length-append}
use Rattle.std.proofs.lemmas.List.{nil_from_length, map_push}
use Rattle.std.proofs.lemmas.List.Elements.{All-head}
use Rattle.atomic_table.specs.Table.{Me}
use Rattle.fedi_turn.proofs.RecordSteps.{writer_is}
use Rattle.fedi_turn.specs.declared.record.ReaderView.{ReaderView}
use Rattle.fedi_turn.specs.declared.record.WriterView.{WriterView}
use Rattle.fedi_turn.specs.declared.record.View.{View}
use Rattle.fedi_turn.specs.declared.record.View.TheVariants.{Reader, Writer}
use Rattle.atomic_table.specs.declared.badge.Badge.{Badge}
use Rattle.atomic_table.specs.declared.shared.Seat.{Seat}
use Rattle.fedi_turn.specs.declared.gate.GateView.{GateView}
use Rattle.fedi_turn.specs.declared.gate.GateView.TheVariants.{Facts}
use Rattle.fedi_turn.specs.declared.gate.GateFacts.{GateFacts}
use Rattle.atomic_table.specs.Seated.{TableId}
use Rattle.fedi_turn.specs.declared.lock.Pass.{Pass}
use Rattle.fedi_turn.specs.Turn.{view_of, seen_of, HasGate, IsReader, IsSamePass, IsIdleAt}
use Rattle.fedi_turn.specs.Gate.{list_in}
use Rattle.fedi_turn.specs.Record.{reader_view, idle_writer, take_in, carry_both, Continues, GrowsBy, IsOrdered}

-- a seat made of a badge has the badge's view
pub seat_has : {S V : Type 0} (views : List V) (me : Me S V) (v : V) → views ≡ me.0 ∷ [] → me.1 ≡ [] → views ≡ v ∷ [] → me ≡ (v, [])
seat_has views me v e none is = let same : me.0 ≡ v = cc in λ i. (same i, none i)

module _ {I : Type 0} (name : I → Option ℕ) where
  -- after carry and look, the turn's list continues what the pass has seen
  pub turn_told : (w : WriterView I) (r : ReaderView I) (before his after : Me (Unit {0}) (View I)) → before ≡ (Writer w, []) → his ≡ (Reader r, [])
      → after ≡ (carry_both before.0 his.0, []) → ((u : WriterView I) → after.0 ≡ Writer u → IsOrdered name u) → Continues name r.number r.list w.turn
  turn_told w r before his after e e' e'' told =
      let is : after.0 ≡ Writer (take_in w r) = ap (λ (m : Me (Unit {0}) (View I)). m.0) e'' ∙ (λ i. carry_both (e i).0 (e' i).0) in
      (All-head (λ (q : ReaderView I). (q.number < w.count) × Continues name q.number q.list w.turn) r w.carried (told (take_in w r) is).each_carried).1

  -- after carry and look, the writer's badge has the turn's view
  pub turn_view : (w : WriterView I) (r : ReaderView I) (before his one now : Me (Unit {0}) (View I)) (views : List (View I)) → before ≡ (Writer w, []) → his ≡ (Reader r, [])
      → one ≡ (carry_both before.0 his.0, []) → now ≡ one → views ≡ now.0 ∷ [] → views ≡ Writer (take_in w r) ∷ []
  turn_view w r before his one now views e e' e'' same is =
      let there : one.0 ≡ Writer (take_in w r) = ap (λ (m : Me (Unit {0}) (View I)). m.0) e'' ∙ (λ i. carry_both (e i).0 (e' i).0) in
      is ∙ ap (λ (m : Me (Unit {0}) (View I)). m.0 ∷ []) same ∙ ap (λ (v : View I). v ∷ []) there

  -- a list that did not get longer is the same
  pub same_list : (n : ℕ) (before xs : List I) → GrowsBy name n before xs → length xs ≤ length before → xs ≡ before
  same_list n before xs g short =
      let none : g.0 ≡ [] = nil_from_length g.0 (omega (arith, length-append before g.0, ap length g.1)) in
      g.1 ∙ ap (λ l. before ++ l) none ∙ append-nil before

module _ {I : Type 0} where
  -- a drawn pass that got a seat of the gate is a new one of the lock with these tables
  pub fresh : {S : Type 0} (gate log : TableId) (v : GateFacts I) (seat : Seat S (GateView I)) (p old : Pass I) (k : ℕ) (xs : List I) → seat.table_id ≡ gate
      → seat.me ≡ (Facts v, []) → HasGate seat.table_id seat.me.0 p → IsSamePass old p → IsReader log xs k old → v.start ≡ xs
      → IsIdleAt gate log v p × (p.number ≡ k) × (seen_of p ≡ v.start)
  fresh {S} gate log v seat p old k xs t m a s d e =
      let n : p.number ≡ k = s.1 ∙ d.2 in
      let views : p.reader.views ≡ Reader (reader_view k xs) ∷ [] = ap (λ (z : Badge (View I)). z.views) s.0 ∙ d.1 in
      let seen : seen_of p ≡ xs = ap list_in views in (
        (
          a.0 ∙ t,
          a.1 ∙ ap (λ (z : Me S (GateView I)). z.0 ∷ []) m,
          ap (λ (z : Badge (View I)). z.table_id) s.0 ∙ d.0,
          views ∙ (λ i. Reader (reader_view (sym n i) (sym seen i)) ∷ []),
        ),
        n,
        seen ∙ sym e,
      )

module _ {I : Type 0} where
  -- of all passes the writer has carried those that are no longer left
  pub record HasCarried (all left : List (Pass I)) (start now : Me (Unit {0}) (View I)) : Type 0 where
    pub done : List (Pass I)
    pub parted : all ≡ left ++ done
    pub first : WriterView I
    pub started : start ≡ (Writer first, [])
    pub still : first.list ≡ first.turn
    pub here : now ≡ (Writer (record first { carried = map view_of done ++ first.carried }), [])

  pub none_carried : (all : List (Pass I)) (start : Me (Unit {0}) (View I)) (w : WriterView I) → start ≡ (Writer w, []) → w.list ≡ w.turn → HasCarried all all start start
  none_carried all start w e still = record { done = []; parted = sym (append-nil all); first = w; started = e; still = still; here = e }

  pub one_more : (all left left' : List (Pass I)) (start now now' : Me (Unit {0}) (View I)) (p : Pass I) → HasCarried all left start now → left ≡ left' ++ p ∷ []
      → ((w : WriterView I) → now.0 ≡ Writer w → now' ≡ (Writer (take_in w (view_of p)), [])) → HasCarried all left' start now'
  one_more all left left' start now now' p c e law = record {
    done = p ∷ c.done;
    parted = c.parted ∙ ap (λ (l : List (Pass I)). l ++ c.done) e ∙ append_assoc left' (p ∷ []) c.done;
    first = c.first;
    started = c.started;
    still = c.still;
    here = law (record c.first { carried = map view_of c.done ++ c.first.carried }) (ap (λ (m : Me (Unit {0}) (View I)). m.0) c.here);
  }

  pub all_carried : (all left : List (Pass I)) (start now : Me (Unit {0}) (View I)) → HasCarried all left start now → length left ≡ 0
      → (w : WriterView I) → start.0 ≡ Writer w → now ≡ (Writer (record w { carried = map view_of all ++ w.carried }), [])
  all_carried all left start now c none w e =
      let is : c.first ≡ w = writer_is c.first w (sym (ap (λ (m : Me (Unit {0}) (View I)). m.0) c.started) ∙ e) in
      let whole : c.done ≡ all = sym (c.parted ∙ ap (λ (l : List (Pass I)). l ++ c.done) (nil_from_length left none)) in
      c.here ∙ (λ i. (Writer (record (is i) { carried = map view_of (whole i) ++ (is i).carried }), []))

  -- the writer once it has carried a first pass and all others
  pub last_writer : (xs start : List I) (count : ℕ) (first : Pass I) (rest all : List (Pass I)) (before his one now : Me (Unit {0}) (View I))
      → before ≡ (Writer (idle_writer xs start count), []) → his ≡ (Reader (view_of first), []) → one ≡ (carry_both before.0 his.0, [])
      → ((w : WriterView I) → one.0 ≡ Writer w → now ≡ (Writer (record w { carried = map view_of rest ++ w.carried }), [])) → all ≡ rest ++ first ∷ []
      → now ≡ (Writer (record (idle_writer xs start count) { carried = map view_of all }), [])
  last_writer xs start count first rest all before his one now e e' e'' law whole =
      let is : one.0 ≡ Writer (take_in (idle_writer xs start count) (view_of first)) = ap (λ (m : Me (Unit {0}) (View I)). m.0) e'' ∙ (λ i. carry_both (e i).0 (e' i).0) in
      let joined : map view_of rest ++ view_of first ∷ [] ≡ map view_of all = sym (ap (map (view_of)) whole ∙ map_push view_of rest first) in
      law (take_in (idle_writer xs start count) (view_of first)) is ∙ (λ i. (Writer (record (idle_writer xs start count) { carried = joined i }), []))
