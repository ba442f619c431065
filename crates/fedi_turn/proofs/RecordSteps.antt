-- Each step of the record keeps its rule.
use Rattle.std.proofs.Common.{◌≡◌, ◌≢◌, ℕ, zero, suc, ◌+◌, ◌<◌, ◌≤◌, eqb, cond, eq-eqb, ne_eqb, List, [], ◌∷◌, ◌++◌, All, Option, Some, length, set, sym, refl, ap, ◌∙◌, subst, ⊎_elim, inl, inr, ◌⊎◌, append_assoc, append-nil, arith, length-set}
use Rattle.std.proofs.lemmas.List.Elements.{All-nil, All-cons, All-append, All-weaker, All-head}
use mathlib.Core.Option.{some, some-ne-none, some-injective}
use mathlib.Core.Logic.{dite}
use native.Mathlib.Decide.{ℕ_discrete}
use lib.ListN.{get_elem?}
use Rattle.atomic_table.proofs.Lists.{at_set, set_here, set_else, set_again, at_longer}
use Rattle.atomic_table.specs.Table.{State, Step, Me, keeps, Allows, Splits, Joins}
use Rattle.fedi_turn.specs.declared.record.ReaderView.{ReaderView}
use Rattle.fedi_turn.specs.declared.record.WriterView.{WriterView}
use Rattle.fedi_turn.specs.declared.record.View.{View}
use Rattle.fedi_turn.specs.declared.record.View.TheVariants.{Nothing, Reader, Writer}
use Rattle.fedi_turn.specs.Record.{reader_view, idle_writer, new_writer, count_one, take_in, add_items, end_turn, draw_left, draw_right, carry_both, return_left, return_right, Continues, NamesBelow, IsOrdered, Fits, IsWrittenAt, IsRecord, Looks, Appends, first_number}

-- the function that has v at n, and is f elsewhere
put : (ℕ → ℕ) → ℕ → ℕ → ℕ → ℕ
put f n v m = cond (eqb m n) v (f m)

put_here : (f : ℕ → ℕ) (n v : ℕ) → put f n v n ≡ v
unfolding put
put_here f n v = ap (λ b. cond b v (f n)) (eq-eqb n n refl)

put_else : (f : ℕ → ℕ) (n v m : ℕ) → m ≢ n → put f n v m ≡ f m
unfolding put
put_else f n v m ne = ap (λ b. cond b v (f m)) (ne_eqb m n ne)

put_kept : (f : ℕ → ℕ) (n v m : ℕ) → f m ≡ v → put f n v m ≡ v
put_kept f n v m e = dite (ℕ_discrete m n) (λ is. ap (put f n v) is ∙ put_here f n v) (λ ne. put_else f n v m ne ∙ e)

module _ {A : Type 0} where
  at_end : (l : List A) (a b : A) (j : ℕ) → get_elem? (l ++ a ∷ []) j ≡ some b → (get_elem? l j ≡ some b) ⊎ ((j ≡ length l) × (a ≡ b))
  at_end [] a b zero e = inr (refl, some-injective a b e)
  at_end [] a b (suc j) e = absurd (some-ne-none b (sym e))
  at_end (x ∷ xs) a b zero e = inl e
  at_end (x ∷ xs) a b (suc j) e = ⊎_elim inl (λ t. inr (ap suc t.0, t.1)) (at_end xs a b j e)

  in_range : (l : List A) (j : ℕ) (b : A) → get_elem? l j ≡ some b → j < length l
  in_range [] j b e = absurd (some-ne-none b (sym e))
  in_range (x ∷ xs) zero b e = omega arith
  in_range (x ∷ xs) (suc j) b e = let h = in_range xs j b e in omega arith

  All-and : (P Q R : A → Type 0) → ((x : A) → P x → Q x → R x) → (xs : List A) → All P xs → All Q xs → All R xs
  All-and P Q R law xs p q = λ k d h. law _ (p k d h) (q k d h)

pub writer_is : {I : Type 0} (w v : WriterView I) → ◌≡◌ {A = View I} (Writer w) (Writer v) → w ≡ v
writer_is w v e = cc

some_is : {n m : ℕ} → ◌≡◌ {A = Option ℕ} (Some n) (Some m) → n ≡ m
some_is e = cc

module _ {I : Type 0} (name : I → Option ℕ) where
  abbrev Rule : State (Unit {0}) (View I) → Type 0
  Rule s = IsRecord name s.views

  -- the writer is the seat that has its view
  pub own : (views : List (View I)) (id : ℕ) (w : WriterView I) → IsRecord name views → get_elem? views id ≡ some (Writer w) → IsWrittenAt name views id w
  own views id w r e =
      let is : (id ≡ r.0) × (w ≡ r.1) = r.2.each id (Writer w) e in
      subst (λ (z : ℕ × WriterView I). IsWrittenAt name views z.0 z.1) (λ i. (sym is.0 i, sym is.1 i)) r.2

  nothing_more : (n : ℕ) (xs : List I) → Continues name n xs xs
  nothing_more n xs = ([], sym (append-nil xs), All-nil (λ x. name x ≢ Some n))

  -- each seat fits after a change of the seat id
  each_set : (F : ℕ → View I → Type 0) (views : List (View I)) (id : ℕ) (u : View I) → F id u
      → ((j : ℕ) (v : View I) → j ≢ id → get_elem? views j ≡ some v → F j v) → (j : ℕ) (v : View I) → get_elem? (set views id u) j ≡ some v → F j v
  each_set F views id u mine others j v e =
      ⊎_elim (λ t. subst (λ (z : ℕ × View I). F z.0 z.1) (λ i. (sym t.0 i, t.1 i)) mine) (λ t. others j v t.0 t.1) (at_set views id j u v e)

  each_last : (F : ℕ → View I → Type 0) (views : List (View I)) (u : View I) → F (length views) u
      → ((j : ℕ) (v : View I) → get_elem? views j ≡ some v → F j v) → (j : ℕ) (v : View I) → get_elem? (views ++ u ∷ []) j ≡ some v → F j v
  each_last F views u last others j v e =
      ⊎_elim (λ t. others j v t) (λ t. subst (λ (z : ℕ × View I). F z.0 z.1) (λ i. (sym t.0 i, t.1 i)) last) (at_end views u v j e)

  -- a writer's step keeps what the rule says of a reader
  fits : (w u : WriterView I) (id : ℕ) (place place' : ℕ → ℕ) (j : ℕ) → j ≢ id
      → ((q : ReaderView I) → place q.number ≡ j → q.number < w.count → Continues name q.number q.list w.list
      → (place' q.number ≡ j) × (q.number < u.count) × Continues name q.number q.list u.list)
      → (v : View I) → Fits name w id place j v → Fits name u id place' j v
  fits w u id place place' j other law Nothing f = tt
  fits w u id place place' j other law (Reader q) f = law q f.0 f.1 f.2
  fits w u id place place' j other law (Writer v) f = absurd (other f.0)

  more_below : (count more : ℕ) (start xs : List I) → count ≤ more → NamesBelow name count start xs → NamesBelow name more start xs
  more_below count more start xs le d =
      (d.0, d.1, All-weaker (λ x. (n : ℕ) × (n < count) × (name x ≡ Some n)) (λ x. (n : ℕ) × (n < more) × (name x ≡ Some n)) (λ x t. let h = t.1 in (t.0, omega arith, t.2)) d.0 d.2)

  -- the writer draws the next number
  pub draws : (id : ℕ) (w : WriterView I) → Splits Rule id (Writer w) (Writer (count_one w)) (Reader (reader_view w.count w.list))
  draws id w s r e =
      let k = own s.views id w r e in let u = count_one w in let vs = set s.views id (Writer u) in let n = length vs in
      let place : ℕ → ℕ = put k.place w.count n in
      let inside = in_range s.views id (Writer w) e in
      let near : id < n = omega (arith, length-set s.views id (Writer u)) in (
        id,
        u,
        record {
          place = place;
          here = at_longer vs (Reader (reader_view w.count w.list) ∷ []) id (Writer u) (set_here s.views id (Writer u) inside);
          each = each_last (Fits name u id place) vs (Reader (reader_view w.count w.list)) (put_here k.place w.count n, omega arith, nothing_more w.count w.list)
              (each_set (Fits name u id place) s.views id (Writer u) (refl, refl)
              (λ j v other at. fits w u id k.place place j other (λ q p h c. (put_else k.place w.count n q.number (λ is. omega arith) ∙ p, omega arith, c)) v (k.each j v at)));
          carried_here = All-and (λ (q : ReaderView I). (q.number < w.count) × Continues name q.number q.list w.turn) (λ (q : ReaderView I). k.place q.number ≡ id) (λ (q : ReaderView I). place q.number ≡ id)
              (λ q h p. let low = h.0 in put_else k.place w.count n q.number (λ is. omega arith) ∙ p) w.carried k.ordered.each_carried k.carried_here;
          ordered = record {
            each_carried = All-weaker (λ (q : ReaderView I). (q.number < w.count) × Continues name q.number q.list w.turn) (λ (q : ReaderView I). (q.number < w.count + 1) × Continues name q.number q.list w.turn)
                (λ q h. let low = h.0 in (omega arith, h.1)) w.carried k.ordered.each_carried;
            apart = k.ordered.apart;
            past = k.ordered.past;
            below = more_below w.count (w.count + 1) w.start w.list (omega arith) k.ordered.below;
          };
        },
      )

  -- the writer takes in a reader, at the start of a turn
  pub carries : (id : ℕ) (w : WriterView I) (other : ℕ) (r : ReaderView I) → w.list ≡ w.turn → Joins Rule id (Writer w) other (Reader r) (Writer (take_in w r)) Nothing
  carries id w other r still s rule e two e' =
      let k = own s.views id w rule e in let u = take_in w r in let vs = set s.views id (Writer u) in
      let place : ℕ → ℕ = put k.place r.number id in
      let inside = in_range s.views id (Writer w) e in
      let was : get_elem? s.views other ≡ some (Reader r) = ⊎_elim (λ t. absurd (two t.0)) (λ t. t.1) (at_set s.views id other (Writer u) (Reader r) e') in
      let mine = k.each other (Reader r) was in
      let differs : (m : ℕ) → k.place m ≢ other → m ≢ r.number = λ m h is. h (ap k.place is ∙ mine.0) in (
        id,
        u,
        record {
          place = place;
          here = set_else vs other id Nothing (λ is. two (sym is)) ∙ set_here s.views id (Writer u) inside;
          each = each_set (Fits name u id place) vs other Nothing tt
              (λ j v apart at. each_set (λ j v. j ≢ other → Fits name u id place j v) s.views id (Writer u) (λ _. (refl, refl))
              (λ j v not_mine at apart. fits w u id k.place place j not_mine
              (λ q p h c. (put_else k.place r.number id q.number (differs q.number (λ is. apart (sym p ∙ is))) ∙ p, h, c)) v (k.each j v at)) j v at apart);
          carried_here = All-cons (λ (q : ReaderView I). place q.number ≡ id) r w.carried (put_here k.place r.number id)
              (All-weaker (λ (q : ReaderView I). k.place q.number ≡ id) (λ (q : ReaderView I). place q.number ≡ id) (λ q p. put_kept k.place r.number id q.number p) w.carried k.carried_here);
          ordered = record {
            each_carried = All-cons (λ (q : ReaderView I). (q.number < w.count) × Continues name q.number q.list w.turn) r w.carried (mine.1, subst (λ xs. Continues name r.number r.list xs) still mine.2) k.ordered.each_carried;
            apart = (All-weaker (λ (q : ReaderView I). k.place q.number ≡ id) (λ (q : ReaderView I). q.number ≢ r.number) (λ q p. differs q.number (λ is. two (sym is ∙ p))) w.carried k.carried_here, k.ordered.apart);
            past = ([], still ∙ sym (append-nil w.turn), All-nil (λ x. (q : ReaderView I) × (r ∷ w.carried ≡ q ∷ []) × (name x ≡ Some q.number)));
            below = k.ordered.below;
          };
        },
      )

  -- the writer hands the one number that it carries back to a new reader
  pub hands_back : (id : ℕ) (w : WriterView I) (r : ReaderView I) → w.carried ≡ r ∷ [] → Splits Rule id (Writer w) (Writer (end_turn w)) (Reader (reader_view r.number w.list))
  hands_back id w r one s rule e =
      let k = own s.views id w rule e in let u = end_turn w in let vs = set s.views id (Writer u) in let n = length vs in
      let place : ℕ → ℕ = put k.place r.number n in
      let inside = in_range s.views id (Writer w) e in
      let here : k.place r.number ≡ id = All-head (λ (q : ReaderView I). k.place q.number ≡ id) r [] (subst (All (λ (q : ReaderView I). k.place q.number ≡ id)) one k.carried_here) in
      let told = All-head (λ (q : ReaderView I). (q.number < w.count) × Continues name q.number q.list w.turn) r [] (subst (All (λ (q : ReaderView I). (q.number < w.count) × Continues name q.number q.list w.turn)) one k.ordered.each_carried) in (
        id,
        u,
        record {
          place = place;
          here = at_longer vs (Reader (reader_view r.number w.list) ∷ []) id (Writer u) (set_here s.views id (Writer u) inside);
          each = each_last (Fits name u id place) vs (Reader (reader_view r.number w.list)) (put_here k.place r.number n, told.0, nothing_more r.number w.list)
              (each_set (Fits name u id place) s.views id (Writer u) (refl, refl)
              (λ j v other at. fits w u id k.place place j other (λ q p h c. (put_else k.place r.number n q.number (λ is. other (sym p ∙ ap k.place is ∙ here)) ∙ p, h, c)) v (k.each j v at)));
          carried_here = All-nil (λ (q : ReaderView I). place q.number ≡ id);
          ordered = record {
            each_carried = All-nil (λ (q : ReaderView I). (q.number < w.count) × Continues name q.number q.list w.list);
            apart = tt;
            past = ([], sym (append-nil w.list), All-nil (λ x. (q : ReaderView I) × ([] ≡ q ∷ []) × (name x ≡ Some q.number)));
            below = k.ordered.below;
          };
        },
      )

  -- the writer looks
  pub looks : (slots id : ℕ) (me : Me (Unit {0}) (View I)) (w : WriterView I) (i : ℕ) (st : Step (Unit {0})) → me.0 ≡ Writer w
      → Allows Rule slots id me i (λ n. n) (Looks name st me)
  looks slots id me w i st is s rule none e small =
      let k = own s.views id w rule (e ∙ ap some is) in (
        me.0,
        keeps,
        tt,
        subst (IsRecord name) (sym (set_again s.views id me.0 e)) rule,
        (refl, λ v v_is. subst (IsOrdered name) (writer_is w v (sym is ∙ v_is)) k.ordered),
      )

  further : (n : ℕ) (seen xs items : List I) → Continues name n seen xs → All (λ x. name x ≢ Some n) items → Continues name n seen (xs ++ items)
  further n seen xs items c others = (c.0 ++ items, ap (λ l. l ++ items) c.1 ∙ append_assoc seen c.0 items, All-append (λ x. name x ≢ Some n) c.0 items c.2 others)

  others_named : (n m : ℕ) → n ≢ m → (items : List I) → All (λ x. name x ≡ Some m) items → All (λ x. name x ≢ Some n) items
  others_named n m ne items a = All-weaker (λ x. name x ≡ Some m) (λ x. name x ≢ Some n) (λ x is so. ne (some_is (sym so ∙ is))) items a

  -- the writer appends items that name the one number that it carries
  pub appends : (slots id : ℕ) (me : Me (Unit {0}) (View I)) (w : WriterView I) (r : ReaderView I) (items : List I) (i : ℕ) (f : ℕ → ℕ) (st : Step (Unit {0}))
      → me.0 ≡ Writer w → w.carried ≡ r ∷ [] → All (λ x. name x ≡ Some r.number) items → Allows Rule slots id me i f (Appends items st me)
  appends slots id me w r items i f st is one named s rule none e small =
      let k = own s.views id w rule (e ∙ ap some is) in let u = add_items w items in
      let inside = in_range s.views id me.0 e in
      let here : k.place r.number ≡ id = All-head (λ (q : ReaderView I). k.place q.number ≡ id) r [] (subst (All (λ (q : ReaderView I). k.place q.number ≡ id)) one k.carried_here) in
      let told = All-head (λ (q : ReaderView I). (q.number < w.count) × Continues name q.number q.list w.turn) r [] (subst (All (λ (q : ReaderView I). (q.number < w.count) × Continues name q.number q.list w.turn)) one k.ordered.each_carried) in
      let P : I → Type 0 = λ x. (q : ReaderView I) × (w.carried ≡ q ∷ []) × (name x ≡ Some q.number) in
      let D : I → Type 0 = λ x. (n : ℕ) × (n < w.count) × (name x ≡ Some n) in (
        Writer u,
        keeps,
        tt,
        (
          id,
          u,
          record {
            place = k.place;
            here = set_here s.views id (Writer u) inside;
            each = each_set (Fits name u id k.place) s.views id (Writer u) (refl, refl)
                (λ j v other at. fits w u id k.place k.place j other
                (λ q p h c. (p, h, further q.number q.list w.list items c (others_named q.number r.number (λ is. other (sym p ∙ ap k.place is ∙ here)) items named))) v (k.each j v at));
            carried_here = k.carried_here;
            ordered = record {
              each_carried = k.ordered.each_carried;
              apart = k.ordered.apart;
              past = (
                k.ordered.past.0 ++ items,
                ap (λ l. l ++ items) k.ordered.past.1 ∙ append_assoc w.turn k.ordered.past.0 items,
                All-append P k.ordered.past.0 items k.ordered.past.2 (All-weaker (λ x. name x ≡ Some r.number) P (λ x n. (r, one, n)) items named),
              );
              below = (
                k.ordered.below.0 ++ items,
                ap (λ l. l ++ items) k.ordered.below.1 ∙ append_assoc w.start k.ordered.below.0 items,
                All-append D k.ordered.below.0 items k.ordered.below.2 (All-weaker (λ x. name x ≡ Some r.number) D (λ x n. (r.number, told.0, n)) items named),
              );
            };
          },
        ),
        (refl, λ v v_is. ap (λ (z : WriterView I). Writer (add_items z items)) (writer_is w v (sym is ∙ v_is))),
      )

  -- the rule at the start
  pub opens : (xs : List I) → IsRecord name (new_writer xs 0 ∷ [])
  opens xs = let w = idle_writer xs xs 0 in let place : ℕ → ℕ = λ _. 0 in (
    0,
    w,
    record {
      place = place;
      here = refl;
      each = λ j v e. each_last (Fits name w 0 place) [] (Writer w) (refl, refl) (λ j v e. absurd (some-ne-none v (sym e))) j v e;
      carried_here = All-nil (λ (q : ReaderView I). place q.number ≡ 0);
      ordered = record {
        each_carried = All-nil (λ (q : ReaderView I). (q.number < 0) × Continues name q.number q.list xs);
        apart = tt;
        past = ([], sym (append-nil xs), All-nil (λ x. (q : ReaderView I) × ([] ≡ q ∷ []) × (name x ≡ Some q.number)));
        below = ([], sym (append-nil xs), All-nil (λ x. (n : ℕ) × (n < 0) × (name x ≡ Some n)));
      };
    },
  )

  -- the same steps as their calls ask for them
  pub draw_asks : (id : ℕ) (me : Me (Unit {0}) (View I)) (w : WriterView I) → me ≡ (Writer w, []) → Splits Rule id me.0 (draw_left me.0) (draw_right me.0)
  draw_asks id me w e = subst (λ (m : Me (Unit {0}) (View I)). Splits Rule id m.0 (draw_left m.0) (draw_right m.0)) (sym e) (draws id w)

  pub carry_asks : (id other : ℕ) (me his : Me (Unit {0}) (View I)) (w : WriterView I) (r : ReaderView I) → me ≡ (Writer w, []) → his ≡ (Reader r, []) → w.list ≡ w.turn
      → Joins Rule id me.0 other his.0 (carry_both me.0 his.0) Nothing
  carry_asks id other me his w r e e' still =
      subst (λ (m : Me (Unit {0}) (View I)). Joins Rule id m.0 other his.0 (carry_both m.0 his.0) Nothing) (sym e)
      (subst (λ (m : Me (Unit {0}) (View I)). Joins Rule id (Writer w) other m.0 (carry_both (Writer w) m.0) Nothing) (sym e') (carries id w other r still))

  return_exactly : (id : ℕ) (w : WriterView I) (r : ReaderView I) → w.carried ≡ r ∷ [] → Splits Rule id (Writer w) (return_left (Writer w)) (return_right (Writer w))
  return_exactly id w r one =
      subst (λ (n : ℕ). Splits Rule id (Writer w) (Writer (end_turn w)) (Reader (reader_view n w.list))) (sym (ap first_number one)) (hands_back id w r one)

  pub return_asks : (id : ℕ) (me : Me (Unit {0}) (View I)) (w : WriterView I) (r : ReaderView I) → me ≡ (Writer w, []) → w.carried ≡ r ∷ [] → Splits Rule id me.0 (return_left me.0) (return_right me.0)
  return_asks id me w r e one = subst (λ (m : Me (Unit {0}) (View I)). Splits Rule id m.0 (return_left m.0) (return_right m.0)) (sym e) (return_exactly id w r one)
