-- Which rows of the table of activities are shown, and in which order.
use Rattle.std.proofs.Common.{◌≡◌, ◌⊎◌, inl, inr, ℕ, suc, ◌+◌, ◌<◌, ◌≤◌, pos, nat_le, List, [], ◌∷◌, ◌++◌, length, map, flat_map, fold, Bool, true, false, cond, ◌&&◌, Some, Ok, Err, Result, IsTrue, IfOk, IfErr, Vec, is_eq, is_lt, int_cmp, bytes_eq, slice_index_or, All, IsPermutation, IsSorted, refl, sym, ap, subst, subst₂, ◌∙◌, arith}
use Rattle.std.proofs.lemmas.Bool.Decides.{nat_tests}
use Rattle.std.proofs.lemmas.List.Sorted.{All-permutation, length_permutation, sum_by-IsPermutation}
use Rattle.std.proofs.lemmas.List.Elements.{All-from_recursion}
use Rattle.std.proofs.lemmas.Map.Text.{is_eq-slice_cmp}
use Rattle.std.specs.List.{AllByRecursion}
use Rattle.std.specs.Ordering.{ordering_then}
use Rattle.std.specs.declared.cmp.Ordering.{Ordering}
use Rattle.std.specs.declared.cmp.Ordering.TheVariants.{Less, Equal, Greater}
use Rattle.sqlite.specs.declared.types.Value.TheVariants.{Null, Int, Text}
use Rattle.sqlite.specs.Order.{Row}
use Rattle.sqlite.specs.Collation.TheVariants.{Binary}
use Rattle.sqlite.specs.declared.error.Error.{Error}
use Rattle.sqlite.specs.Query.{Output, output, output_cmp, matches_as, end, IsAnswer}
use Rattle.sqlite.specs.Program.{overlay}
use Rattle.sqlite.specs.Term.{Env, holds, col, op2}
use Rattle.sqlite.specs.Ops.{binary, is_true, from_truth}
use Rattle.sqlite.specs.State.{State, FailsToQuery, Shown}
use Rattle.sqlite.proofs.Callers.{reads_as}
use Rattle.sqlite_sql.specs.declared.ops.BinaryOp.TheVariants.{Compare}
use Rattle.sqlite_sql.specs.declared.ops.CompareOp.TheVariants.{Eq}
use Rattle.sqlite_value.specs.Order.{column, value_cmp}
use Rattle.sqlite_value.proofs.OrderLemmas.{value_cmp-Int, value_cmp-Text}
use Rattle.fedi_selection.specs.ActRows.{ActFields, AreInOrder, is_by, picked}
use Rattle.fedi_selection.specs.Acts.{ShowsPicked, act_row, act_schema, shown_row}
use Rattle.fedi_selection.specs.Databases.{Rests}
use Rattle.fedi_selection.specs.Tables.{number_in}
use Rattle.fedi_selection.proofs.Ordered as ordered
use Rattle.fedi_selection.proofs.Steps.{not_read, reads_only, rests_on}
use Rattle.fedi_selection.proofs.Texts.{pick_is, pick_plain, pick_query, pick_text}

-- ---- which rows pass the test

abbrev params_of : List ℕ → List ℕ → Row
params_of actor kind = Text actor ∷ Text kind ∷ []

abbrev env_of : List ℕ → List ℕ → ActFields → Env
env_of actor kind x = params_of actor kind ∷ act_row x ∷ []

abbrev keep : List ℕ → List ℕ → Row → List Env
keep actor kind r = matches_as Null (λ _. []) pick_query.filter end (params_of actor kind ∷ r ∷ [])

truth : (b : Bool) → is_true (from_truth (Some b)) ≡ b
truth true = refl
truth false = refl

by_actor : (actor kind : List ℕ) (x : ActFields) → holds (env_of actor kind x) (op2 (Compare Eq Binary) (col 1 3) (col 0 0)) ≡ bytes_eq x.actor actor
unfolding binary
by_actor actor kind x = ap (λ o. is_true (from_truth (Some (is_eq o)))) (value_cmp-Text x.actor actor) ∙ truth _ ∙ is_eq-slice_cmp x.actor actor

by_kind : (actor kind : List ℕ) (x : ActFields) → holds (env_of actor kind x) (op2 (Compare Eq Binary) (col 1 4) (col 0 1)) ≡ bytes_eq x.kind kind
unfolding binary
by_kind actor kind x = ap (λ o. is_true (from_truth (Some (is_eq o)))) (value_cmp-Text x.kind kind) ∙ truth _ ∙ is_eq-slice_cmp x.kind kind

both : {X : Type 0} (a b : Bool) (x y : X) → cond (a && (b && true)) x y ≡ cond (a && b) x y
both true true x y = refl
both true false x y = refl
both false b x y = refl

keep_one : (actor kind : List ℕ) (x : ActFields) → keep actor kind (act_row x) ≡ cond (is_by actor kind x) (env_of actor kind x ∷ []) []
keep_one actor kind x =
    rw (by_actor actor kind x, by_kind actor kind x) (both (bytes_eq x.actor actor) (bytes_eq x.kind kind) (env_of actor kind x ∷ []) [])

kept_all : (actor kind : List ℕ) (acts : List ActFields) → flat_map (keep actor kind) (map act_row acts) ≡ map (env_of actor kind) (picked actor kind acts)
kept_all actor kind [] = refl
kept_all actor kind (x ∷ acts) = ap (λ head. head ++ flat_map (keep actor kind) (map act_row acts)) (keep_one actor kind x) ∙ go (kept_all actor kind acts) (is_by actor kind x)
  where
    go : flat_map (keep actor kind) (map act_row acts) ≡ map (env_of actor kind) (picked actor kind acts) → (b : Bool)
        → cond b (env_of actor kind x ∷ []) [] ++ flat_map (keep actor kind) (map act_row acts) ≡ map (env_of actor kind) (cond b (x ∷ picked actor kind acts) (picked actor kind acts))
    go more true = ap (λ rest. env_of actor kind x ∷ rest) more
    go more false = more

abbrev out_of : ActFields → Output
out_of x = (Int (pos x.place) ∷ [], shown_row x)

outputs : (actor kind : List ℕ) (acts : List ActFields) → map (output pick_query) (map (env_of actor kind) acts) ≡ map out_of acts
outputs actor kind [] = refl
outputs actor kind (x ∷ acts) = ap (λ rest. out_of x ∷ rest) (outputs actor kind acts)

shown_outputs : (acts : List ActFields) → map (λ (p : Output). p.1) (map out_of acts) ≡ map shown_row acts
shown_outputs [] = refl
shown_outputs (x ∷ acts) = ap (λ rest. shown_row x ∷ rest) (shown_outputs acts)

-- ---- those that are picked are in order too

below_picked : (actor kind : List ℕ) (n : ℕ) (acts : List ActFields) → AllByRecursion (λ (y : ActFields). n < y.place) acts → AllByRecursion (λ (y : ActFields). n < y.place) (picked actor kind acts)
below_picked actor kind n [] all = tt
below_picked actor kind n (x ∷ acts) all = go (below_picked actor kind n acts all.1) (is_by actor kind x)
  where
    go : AllByRecursion (λ (y : ActFields). n < y.place) (picked actor kind acts) → (b : Bool) → AllByRecursion (λ (y : ActFields). n < y.place) (cond b (x ∷ picked actor kind acts) (picked actor kind acts))
    go more true = (all.0, more)
    go more false = more

picked_in_order : (actor kind : List ℕ) (acts : List ActFields) → AreInOrder acts → AreInOrder (picked actor kind acts)
picked_in_order actor kind [] order = tt
picked_in_order actor kind (x ∷ acts) order = go (picked_in_order actor kind acts order.1) (is_by actor kind x)
  where
    go : AreInOrder (picked actor kind acts) → (b : Bool) → AreInOrder (cond b (x ∷ picked actor kind acts) (picked actor kind acts))
    go more true = (below_picked actor kind x.place acts order.0, more)
    go more false = more

-- ---- in which order they are shown

abbrev number : Output → ℕ
number o = number_in (column o.0 0)

abbrev In : List ActFields → ActFields → Type 0
In [] x = ⊥
In (y ∷ ys) x = (y ≡ x) ⊎ In ys x

-- an output of one of these
abbrev IsOf : List ActFields → Output → Type 0
IsOf acts o = (x : ActFields) × (o ≡ out_of x) × In acts x

below : (n : ℕ) (acts : List ActFields) (x : ActFields) → AllByRecursion (λ (y : ActFields). n < y.place) acts → In acts x → n < x.place
below n [] x all there = absurd there
below n (y ∷ ys) x all (inl is) = subst (λ (z : ActFields). n < z.place) is all.0
below n (y ∷ ys) x all (inr there) = below n ys x all.1 there

same_act : (acts : List ActFields) → AreInOrder acts → (x y : ActFields) → In acts x → In acts y → x.place ≡ y.place → x ≡ y
same_act [] order x y there_x there_y same = absurd there_x
same_act (z ∷ zs) order x y (inl is_x) (inl is_y) same = sym is_x ∙ is_y
same_act (z ∷ zs) order x y (inl is_x) (inr there_y) same =
    absurd (let low = below z.place zs y order.0 there_y in let e = ap (λ (a : ActFields). a.place) is_x in omega (arith, low, e, same))
same_act (z ∷ zs) order x y (inr there_x) (inl is_y) same =
    absurd (let low = below z.place zs x order.0 there_x in let e = ap (λ (a : ActFields). a.place) is_y in omega (arith, low, e, same))
same_act (z ∷ zs) order x y (inr there_x) (inr there_y) same = same_act zs order.1 x y there_x there_y same

one_of : (acts : List ActFields) → AreInOrder acts → (a b : Output) → IsOf acts a → IsOf acts b → number a ≡ number b → a ≡ b
one_of acts order a b is_a is_b same =
    let places : is_a.0.place ≡ is_b.0.place = sym (ap number is_a.1) ∙ same ∙ ap number is_b.1 in
    is_a.1 ∙ ap out_of (same_act acts order is_a.0 is_b.0 is_a.2 is_b.2 places) ∙ sym is_b.1

each_is_of : (acts more : List ActFields) → ((x : ActFields) → In more x → In acts x) → AllByRecursion (IsOf acts) (map out_of more)
each_is_of acts [] within = tt
each_is_of acts (x ∷ more) within = ((x, refl, within x (inl refl)), each_is_of acts more (λ y there. within y (inr there)))

rises_on : (x : ActFields) (acts : List ActFields) → AllByRecursion (λ (y : ActFields). x.place < y.place) acts → AllByRecursion (λ o. number (out_of x) < number o) (map out_of acts)
rises_on x [] all = tt
rises_on x (y ∷ acts) all = (all.0, rises_on x acts all.1)

rises : (P : Output → Type 0) (one : (a b : Output) → P a → P b → number a ≡ number b → a ≡ b) (acts : List ActFields) → AreInOrder acts → ordered.Rises number P one (map out_of acts)
rises P one [] order = tt
rises P one (x ∷ acts) order = (rises_on x acts order.0, rises P one acts order.1)

recursion_of : {X : Type 0} (P : X → Type 0) (xs : List X) → All P xs → AllByRecursion P xs
recursion_of P [] all = tt
recursion_of P (x ∷ xs) all = (all 0 x (omega arith), recursion_of P xs (λ i d low. all (suc i) d (omega (arith, low))))

then_equal : (o : Ordering) → is_lt (ordering_then o Equal) ≡ is_lt o
then_equal Less = refl
then_equal Equal = refl
then_equal Greater = refl

not_lower : (a b : ℕ) → is_lt (int_cmp (pos b) (pos a)) ≡ false → a ≤ b
not_lower a b h = grind (arith, nat_tests, h)

step : (acts : List ActFields) (a b : Output) → IsOf acts a → IsOf acts b → is_lt (output_cmp pick_query b a) ≡ false → number a ≤ number b
step acts a b is_a is_b h =
    let x = is_a.0 in
    let y = is_b.0 in
    let h2 : is_lt (output_cmp pick_query (out_of y) (out_of x)) ≡ false = subst₂ (λ p q. is_lt (output_cmp pick_query p q) ≡ false) is_b.1 is_a.1 h in
    let h3 : is_lt (int_cmp (pos y.place) (pos x.place)) ≡ false =
    sym (ap is_lt (value_cmp-Int (pos y.place) (pos x.place))) ∙ sym (then_equal (value_cmp (Int (pos y.place)) (Int (pos x.place)))) ∙ h2 in
    let at : x.place ≤ y.place = not_lower x.place y.place h3 in
    subst₂ (λ p q. number p ≤ number q) (sym is_a.1) (sym is_b.1) at

further : (n k : ℕ) (xs : List Output) → n ≤ k → AllByRecursion (λ o. k ≤ number o) xs → AllByRecursion (λ o. n ≤ number o) xs
further n k [] low all = tt
further n k (x ∷ xs) low all = (let at = all.0 in omega (arith, low, at), further n k xs low all.1)

falls : (acts : List ActFields) (one : (a b : Output) → IsOf acts a → IsOf acts b → number a ≡ number b → a ≡ b) (xs : List Output) → AllByRecursion (IsOf acts) xs → IsSorted (output_cmp pick_query) xs
    → ordered.NeverFalls number (IsOf acts) one xs
falls acts one [] all sorted = tt
falls acts one (a ∷ []) all sorted = (tt, tt)
falls acts one (a ∷ b ∷ xs) all sorted =
    let first : number a ≤ number b = step acts a b all.0 all.1.0 (sorted 0 a (omega arith) (omega arith)) in
    let tail = λ (k : ℕ) (d : Output) (low : 0 ≤ k) (high : k + 1 < length (b ∷ xs)).
    let e : suc k + 1 ≡ suc (k + 1) = omega arith in
    subst (λ n. is_lt (output_cmp pick_query (slice_index_or (a ∷ b ∷ xs) n d) (slice_index_or (b ∷ xs) k d)) ≡ false) e (sorted (suc k) d (omega arith) (omega (arith, high))) in
    let rest = falls acts one (b ∷ xs) all.1 tail in
    ((first, further (number a) (number b) xs first rest.0), rest)

counted : (P : Output → Type 0) (one : (a b : Output) → P a → P b → number a ≡ number b → a ≡ b) (n : ℕ) (xs : List Output) (s : ℕ)
    → fold (λ a o. a + cond (nat_le (number o) n) 1 0) s xs ≡ s + ordered.up_to number P one n xs
counted P one n [] s = omega arith
counted P one n (x ∷ xs) s = let e = counted P one n xs (s + cond (nat_le (number x) n) 1 0) in e ∙ omega arith

ordered_is : (acts : List ActFields) → AreInOrder acts → (outs : List Output) → IsPermutation (map out_of acts) outs → IsSorted (output_cmp pick_query) outs → map out_of acts ≡ outs
ordered_is acts order outs mixed sorted =
    let one = one_of acts order in
    let each = each_is_of acts acts (λ x there. there) in
    let all = recursion_of (IsOf acts) outs (All-permutation (IsOf acts) (map out_of acts) outs mixed (All-from_recursion _ _ each)) in
    let same = λ (n : ℕ).
    let p = sum_by-IsPermutation (λ (o : Output). cond (nat_le (number o) n) 1 0) (map out_of acts) outs mixed in
    let e : 0 + ordered.up_to number (IsOf acts) one n (map out_of acts) ≡ 0 + ordered.up_to number (IsOf acts) one n outs =
    sym (counted (IsOf acts) one n (map out_of acts) 0) ∙ sym p ∙ counted (IsOf acts) one n outs 0 in
    let f : ordered.up_to number (IsOf acts) one n (map out_of acts) ≡ ordered.up_to number (IsOf acts) one n outs = omega (arith, e) in f in
    ordered.only_one number (IsOf acts) one (map out_of acts) outs each all (rises (IsOf acts) one acts order) (falls acts one outs all sorted) same (sym (length_permutation (map out_of acts) outs mixed))

-- ---- what the statement shows

pub picks : (old new : State) (actor kind : List ℕ) (acts : List ActFields) (rows : List Row) → Rests act_schema (map act_row acts) old → AreInOrder acts → Shown pick_text (params_of actor kind) old new rows
    → rows ≡ map shown_row (picked actor kind acts)
picks old new actor kind acts rows rests order h =
    let params = params_of actor kind in
    let those = picked actor kind acts in
    let read = reads_as pick_text params old new act_schema rests.rest.schema_is _ pick_is.0 pick_plain pick_is.1 rows h in
    let a : IsAnswer pick_query (overlay old.now.trees []) params rows = read.answer Null in
    let staged : a.staged ≡ map (env_of actor kind) those = a.grouped ∙ ap (flat_map (keep actor kind)) rests.rows_are ∙ kept_all actor kind acts in
    let kept : a.kept ≡ map out_of those = a.distinct ∙ ap (map (output pick_query)) staged ∙ outputs actor kind those in
    let is = ordered_is those (picked_in_order actor kind acts order) a.ordered (subst (λ k. IsPermutation k a.ordered) kept a.same) a.sorted in
    a.shown ∙ ap (map (λ (p : Output). p.1)) (sym is) ∙ shown_outputs those

pub picks_or_not : (old new : State) → (IsTrue old.is_open → IsTrue new.is_open) → (actor kind : List ℕ) (T : Type 0) (r : Result (Vec Row T) Error)
    → IfOk r (λ rows. Shown pick_text (params_of actor kind) old new rows.items) → IfErr r (FailsToQuery pick_text (params_of actor kind) old new) → ShowsPicked actor kind old new r
picks_or_not old new stay actor kind T (Ok rows) shown tt = record {
  stays = λ all rests. rests_on act_schema all old new rests (stay rests.rest.is_open) (inl (reads_only pick_text (params_of actor kind) old new rows.items act_schema rests.rest.schema_is pick_plain shown));
  finds = λ acts rests order. picks old new actor kind acts rows.items rests order shown;
}
picks_or_not old new stay actor kind T (Err e) tt h = record {
  stays = λ all rests. rests_on act_schema all old new rests (stay rests.rest.is_open) (not_read pick_text (params_of actor kind) old new e h);
  finds = λ acts rests order. tt;
}
