-- Reading stops at the fault with the least number.
use Rattle.std.proofs.Common.{◌≡◌, ℕ, List, ◌++◌, length, append_assoc, Bool, true, false, not, cond, ◌||◌, nat_lt, Option, Some, None, codes, refl, ap, sym, ◌∙◌}
use Rattle.std.specs.Prelude.{◌≢◌, Result, Ok, Err, IfErr, OnOk, is_some, is_none}
use Rattle.std.specs.Option.{option_or, option_map_or}
use Rattle.std.specs.Result.{result_err}
use Rattle.std.specs.List.{list_any, filter_map}
use Rattle.std.proofs.lemmas.List.Folds.{list_any-append}
use Rattle.serde_json.specs.Data.{Data}
use Rattle.serde_json.specs.Find.{as_object}
use Rattle.fedi_reading.specs.Properties.{text_at, entries_at, reference_at, has_context, type_of, makes_nothing, iri, reads_type, made_type, reads_text, kept_text}
use Rattle.fedi_address.specs.Recipients.{distinct}
use Rattle.fedi_reading.specs.Reading.{is_bad, recipient_of, reads_entries, reads_fields, reads_recipients, all_entries, reads_iri, reads_reply, is_crowded, reads_few, reads_both, reads_people, reads_words, reads_object, wrapped, reads_posted}
use Rattle.fedi_reading.specs.Shapes.{◌>>=◌, Gives}
use Rattle.fedi_reading.specs.Faults.{is_bad_reply, is_long, has_fault, first_fault}
use Rattle.fedi_reading.specs.declared.shape_fault.ShapeFault.{ShapeFault}
use Rattle.fedi_reading.specs.declared.shape_fault.ShapeFault.TheVariants.{NotObject, BadContext, NoType, BadIri, TooManyRecipients, BadText, Memory}

-- the fault, if the test holds
abbrev pub only : Bool → ShapeFault → Option ShapeFault
only b e = cond b (Some e) None

-- the next step counts if the first has no fault
pub then_fault : {A B : Type 0} (r : Result A ShapeFault) (f : A → Result B ShapeFault) (first rest : Option ShapeFault) → result_err r ≡ first → ((x : A) → result_err (f x) ≡ rest) → result_err (r >>= f) ≡ option_or first rest
then_fault (Ok x) f first rest h k = rw (← h) (k x)
then_fault (Err e) f first rest h k = rw (← h) refl

pub or_none : (fault : Option ShapeFault) → option_or fault None ≡ fault
or_none None = refl
or_none (Some e) = refl

pub or_cond : (b : Bool) (e : ShapeFault) (rest : Option ShapeFault) → option_or (only b e) rest ≡ cond b (Some e) rest
or_cond true e rest = refl
or_cond false e rest = refl

pub or_both : (a b : Bool) (e : ShapeFault) → option_or (only a e) (only b e) ≡ only (a || b) e
or_both true b e = refl
or_both false b e = refl

or_two : (a b : Bool) (e f : ShapeFault) (rest : Option ShapeFault) → option_or (cond a (Some e) (only b f)) rest ≡ cond a (Some e) (cond b (Some f) rest)
or_two true b e f rest = refl
or_two false true e f rest = refl
or_two false false e f rest = refl

or_three : (a b c : Bool) (e : ShapeFault) → option_or (only a e) (option_or (only b e) (option_or (only c e) None)) ≡ only (a || (b || (c || false))) e
or_three true b c e = refl
or_three false true c e = refl
or_three false false true e = refl
or_three false false false e = refl

either_first : (a b : Bool) (e : ShapeFault) (rest : Option ShapeFault) → option_or (only a e) (cond b (Some e) rest) ≡ cond (a || b) (Some e) rest
either_first true b e rest = refl
either_first false b e rest = refl

pub ended_fault : {A : Type 0} (b : Bool) (e : ShapeFault) (x : A) → result_err (cond b (Err e) (Ok x)) ≡ only b e
ended_fault true e x = refl
ended_fault false e x = refl

pub named_fault : (text : Option (List ℕ)) → result_err (reads_iri text) ≡ only (option_map_or (λ t. is_none (iri t)) text false) BadIri
named_fault None = refl
named_fault (Some text) =
    elim (iri text) as (λ o. result_err (cond (is_some o) (Ok o) (Err BadIri)) ≡ only (is_none o) BadIri) [ None ↦ refl | Some i ↦ refl ]

long_fault : (text : Option (List ℕ)) → result_err (kept_text text) ≡ only (is_long text) BadText
long_fault None = refl
long_fault (Some text) = ended_fault (nat_lt 65536 (length text)) BadText (Some text)

made_fault : (text : Option (List ℕ)) → result_err (made_type text) ≡ only (option_map_or makes_nothing text true) NoType
made_fault None = refl
made_fault (Some text) = ended_fault (makes_nothing text) NoType text

-- a test that fails first
pub test_fault : {A : Type 0} (b : Bool) (e : ShapeFault) (r : Result A ShapeFault) (rest : Option ShapeFault) → result_err r ≡ rest → result_err (cond b (Err e) r) ≡ cond b (Some e) rest
test_fault true e r rest h = refl
test_fault false e r rest h = h

pub entries_fault : (ds : List Data) → result_err (reads_entries ds) ≡ only (list_any is_bad ds) BadIri
unfolding reads_entries
entries_fault ds =
    elim (list_any is_bad ds) as (λ b. result_err (cond b (Err BadIri) (Ok (distinct (filter_map recipient_of ds)))) ≡ only b BadIri)
    [ true ↦ refl | false ↦ refl ]

-- two parts that can be bad
pub both_bad : {A B : Type 0} (r : Result A ShapeFault) (f : A → Result B ShapeFault) (xs ys : List Data) → result_err r ≡ only (list_any is_bad xs) BadIri → ((x : A) → result_err (f x) ≡ only (list_any is_bad ys) BadIri) → result_err (r >>= f) ≡ only (list_any is_bad (xs ++ ys)) BadIri
both_bad r f xs ys h k = then_fault r f _ _ h k ∙ or_both _ _ BadIri ∙ ap (λ b. only b BadIri) (sym (list_any-append is_bad xs ys))

-- a part after which nothing can be bad
pub last_bad : {A B : Type 0} (r : Result A ShapeFault) (f : A → B) (xs : List Data) → result_err r ≡ only (list_any is_bad xs) BadIri → result_err (r >>= λ x. Ok (f x)) ≡ only (list_any is_bad xs) BadIri
last_bad r f xs h = then_fault r (λ x. Ok (f x)) _ None h (λ x. refl) ∙ or_none _

fields_fault : (first second : List ℕ) (d : Data) → result_err (reads_fields first second d) ≡ only (list_any is_bad (entries_at first d ++ entries_at second d)) BadIri
unfolding reads_fields
fields_fault first second d =
    both_bad _ _ _ _ (entries_fault (entries_at first d)) (λ a. last_bad _ (λ b. (a, b)) _ (entries_fault (entries_at second d)))

pub recipients_fault : (d : Data) → result_err (reads_recipients d) ≡ only (list_any is_bad (all_entries d)) BadIri
unfolding reads_recipients all_entries
recipients_fault d =
    both_bad (reads_fields (codes "to") (codes "cc") d) _ (entries_at (codes "to") d ++ entries_at (codes "cc") d) ((entries_at (codes "bto") d ++ entries_at (codes "bcc") d) ++ entries_at (codes "audience") d)
    (fields_fault (codes "to") (codes "cc") d)
    (λ told. both_bad (reads_fields (codes "bto") (codes "bcc") d) _ (entries_at (codes "bto") d ++ entries_at (codes "bcc") d) (entries_at (codes "audience") d)
    (fields_fault (codes "bto") (codes "bcc") d)
    (λ hidden. last_bad _ (λ audience. record { to = told.0; cc = told.1; bto = hidden.0; bcc = hidden.1; audience = audience }) _ (entries_fault (entries_at (codes "audience") d))))
    ∙ ap (λ ds. only (list_any is_bad ds) BadIri) (simp append_assoc)

pub reply_fault : (d : Data) → result_err (reads_reply d) ≡ only (is_bad_reply d) BadIri
unfolding reads_reply
reply_fault d = named_fault (reference_at (codes "inReplyTo") d)

pub few_fault : (most : ℕ) (d : Data) → result_err (reads_few most d) ≡ cond (list_any is_bad (all_entries d)) (Some BadIri) (only (is_crowded most d) TooManyRecipients)
unfolding reads_few
few_fault most d =
    then_fault (reads_recipients d) _ _ _ (recipients_fault d) (λ r. ended_fault (is_crowded most d) TooManyRecipients r)
    ∙ or_cond (list_any is_bad (all_entries d)) BadIri (only (is_crowded most d) TooManyRecipients)

pub both_fault : (most : ℕ) (d o : Data) → result_err (reads_both most d o)
    ≡ cond (list_any is_bad (all_entries d) || list_any is_bad (all_entries o)) (Some BadIri) (only (is_crowded most d || is_crowded most o) TooManyRecipients)
unfolding reads_both
both_fault most d o =
    let crowd : Bool = is_crowded most d || is_crowded most o in
    then_fault (reads_recipients d) _ _ (cond (list_any is_bad (all_entries o)) (Some BadIri) (only crowd TooManyRecipients)) (recipients_fault d)
    (λ a. then_fault (reads_recipients o) _ _ (only crowd TooManyRecipients) (recipients_fault o) (λ b. ended_fault crowd TooManyRecipients (a, b))
    ∙ or_cond (list_any is_bad (all_entries o)) BadIri (only crowd TooManyRecipients))
    ∙ either_first (list_any is_bad (all_entries d)) (list_any is_bad (all_entries o)) BadIri (only crowd TooManyRecipients)

pub people_fault : (d : Data) → result_err (reads_people d) ≡ cond (has_fault d BadIri) (Some BadIri) (only (has_fault d TooManyRecipients) TooManyRecipients)
unfolding reads_people
people_fault d =
    then_fault (reads_reply d) _ (only (is_bad_reply d) BadIri) (cond (list_any is_bad (all_entries d)) (Some BadIri) (only (has_fault d TooManyRecipients) TooManyRecipients)) (reply_fault d)
    (λ reply. then_fault (reads_few 500 d) (λ r. Ok (reply, r)) _ None (few_fault 500 d) (λ r. refl) ∙ or_none _)
    ∙ either_first (is_bad_reply d) (list_any is_bad (all_entries d)) BadIri _

pub fault_of : {A : Type 0} (r : Result A ShapeFault) (e : ShapeFault) → result_err r ≡ Some e → r ≡ Err e
fault_of (Ok x) e h = absurd cc
fault_of (Err e) f h = cc

-- one of the entries is bad, however many there are
pub bad_few : (most : ℕ) (d : Data) → list_any is_bad (all_entries d) ≡ true → reads_few most d ≡ Err BadIri
bad_few most d h = fault_of (reads_few most d) BadIri (few_fault most d ∙ rw h refl)

-- there are too many entries, and none is bad
pub crowded_few : (most : ℕ) (d : Data) → list_any is_bad (all_entries d) ≡ false → is_crowded most d ≡ true → reads_few most d ≡ Err TooManyRecipients
crowded_few most d h crowd = fault_of (reads_few most d) TooManyRecipients (few_fault most d ∙ rw (h, crowd) refl)

-- an entry of one of the two is bad
pub bad_both : (most : ℕ) (d o : Data) → (list_any is_bad (all_entries d) || list_any is_bad (all_entries o)) ≡ true → reads_both most d o ≡ Err BadIri
bad_both most d o h = fault_of (reads_both most d o) BadIri (both_fault most d o ∙ rw h refl)

-- one of the two has too many entries, and none is bad
pub crowded_both : (most : ℕ) (d o : Data) → list_any is_bad (all_entries d) ≡ false → list_any is_bad (all_entries o) ≡ false → (is_crowded most d || is_crowded most o) ≡ true → reads_both most d o ≡ Err TooManyRecipients
crowded_both most d o h k crowd = fault_of (reads_both most d o) TooManyRecipients (both_fault most d o ∙ rw (h, k, crowd) refl)

text_fault : (key : List ℕ) (d : Data) → result_err (reads_text key d) ≡ only (is_long (text_at key d)) BadText
unfolding reads_text
text_fault key d = long_fault (text_at key d)

pub words_fault : (d : Data) → result_err (reads_words d) ≡ only (has_fault d BadText) BadText
unfolding reads_words
words_fault d =
    then_fault (reads_text (codes "content") d) _ _ _ (text_fault (codes "content") d)
    (λ content. then_fault (reads_text (codes "summary") d) _ _ _ (text_fault (codes "summary") d)
    (λ summary. then_fault (reads_text (codes "name") d) (λ name. Ok (content, summary, name)) _ None (text_fault (codes "name") d) (λ name. refl)))
    ∙ or_three (is_long (text_at (codes "content") d)) (is_long (text_at (codes "summary") d)) (is_long (text_at (codes "name") d)) BadText

type_fault : (d : Data) → result_err (reads_type d) ≡ only (has_fault d NoType) NoType
unfolding reads_type
type_fault d = made_fault (type_of d)

object_fault : (d : Data) → result_err (reads_object d) ≡ cond (has_fault d NoType) (Some NoType) (cond (has_fault d BadIri) (Some BadIri) (cond (has_fault d TooManyRecipients) (Some TooManyRecipients) (only (has_fault d BadText) BadText)))
unfolding reads_object
object_fault d =
    then_fault (reads_type d) _ _ (cond (has_fault d BadIri) (Some BadIri) (cond (has_fault d TooManyRecipients) (Some TooManyRecipients) (only (has_fault d BadText) BadText))) (type_fault d)
    (λ kind. then_fault (reads_people d) _ _ (only (has_fault d BadText) BadText) (people_fault d)
    (λ people. then_fault (reads_words d) _ _ None (words_fault d) (λ words. refl) ∙ or_none _)
    ∙ or_two (has_fault d BadIri) (has_fault d TooManyRecipients) BadIri TooManyRecipients (only (has_fault d BadText) BadText))
    ∙ or_cond (has_fault d NoType) NoType (cond (has_fault d BadIri) (Some BadIri) (cond (has_fault d TooManyRecipients) (Some TooManyRecipients) (only (has_fault d BadText) BadText)))

-- reading returns the first fault that holds
pub posted_fault : (d : Data) → result_err (reads_posted d) ≡ first_fault d
unfolding reads_posted first_fault
posted_fault d =
    test_fault (not (is_some (as_object d))) NotObject _ _ (test_fault (not (has_context d)) BadContext _ _
    (then_fault (reads_object d) (λ o. Ok (wrapped o)) _ None (object_fault d) (λ o. refl) ∙ or_none _))

-- what is refused is refused for the first fault that holds
pub least_of : {A : Type 0} (read r : Result A ShapeFault) (first : Option ShapeFault) → result_err read ≡ first → Gives r read → IfErr r (λ e. e ≢ Memory → first ≡ Some e)
least_of read (Ok a) first h given = tt
least_of read (Err e) first h given = λ other. sym h ∙ ap result_err (given other)

-- what is read has no fault
pub none_of : {A : Type 0} (read r : Result A ShapeFault) (first : Option ShapeFault) → result_err read ≡ first → Gives r read → OnOk r (first ≡ None)
none_of read (Ok a) first h given = sym h ∙ ap result_err given
none_of read (Err e) first h given = tt
