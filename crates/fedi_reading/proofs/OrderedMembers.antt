-- What is put among ordered members leaves them in order.
use Rattle.std.proofs.Common.{◌≡◌, ℕ, List, Less, Equal, Greater, Ordering, nat_cmp, refl, ap, ◌∙◌}
use Rattle.std.proofs.lemmas.Cmp.{nat_list_cmp_total}
use Rattle.std.specs.Cmp.Lexicographic.{slice_cmp}
use Rattle.std.specs.Ordering.{match_ordering, ordering_reverse}
use Rattle.serde_json.specs.Data.{Data, Members, no_members, member, put}
use Rattle.fedi_reading.specs.Plain.{AreAbove, IsPlain, AreOrdered}

abbrev before : List ℕ → List ℕ → Ordering
before k l = slice_cmp nat_cmp k l

pub turned : (k l : List ℕ) → before k l ≡ Greater → before l k ≡ Less
turned k l e = nat_list_cmp_total.antisymm l k ∙ ap ordering_reverse e

pub turned_back : (k l : List ℕ) → before k l ≡ Less → before l k ≡ Greater
turned_back k l e = nat_list_cmp_total.antisymm l k ∙ ap ordering_reverse e

above_all : (k l : List ℕ) (ms : Members) → before k l ≡ Less → AreAbove l ms → AreAbove k ms
above_all k l no_members e h = tt
above_all k l (member m d ms) e h = (nat_list_cmp_total.trans k l m e h.0, above_all k l ms e h.1)

above_at : (o : Ordering) (j k l : List ℕ) (d e : Data) (ms more : Members) → before j k ≡ Less
    → before j l ≡ Less → AreAbove j ms → AreAbove j more
    → AreAbove j (match_ordering o (member k d (member l e ms)) (member l d ms) (member l e more))
above_at Less j k l d e ms more a b h i = (a, (b, h))
above_at Equal j k l d e ms more a b h i = (b, h)
above_at Greater j k l d e ms more a b h i = (b, i)

above_put : (j k : List ℕ) (d : Data) (ms : Members) → before j k ≡ Less → AreAbove j ms
    → AreAbove j (put k d ms)
above_put j k d no_members a h = (a, tt)
above_put j k d (member l e ms) a h =
    above_at (before k l) j k l d e ms (put k d ms) a h.0 h.1 (above_put j k d ms a h.1)

ordered_at : (o : Ordering) (k l : List ℕ) (d e : Data) (ms : Members) → before k l ≡ o → IsPlain d
    → AreOrdered (member l e ms) → AreOrdered (put k d ms)
    → AreOrdered
    (match_ordering o (member k d (member l e ms)) (member l d ms) (member l e (put k d ms)))
ordered_at Less k l d e ms is p h i = ((is, above_all k l ms is h.0), p, h)
ordered_at Equal k l d e ms is p h i = (h.0, p, h.2)
ordered_at Greater k l d e ms is p h i = (above_put l k d ms (turned k l is) h.0, h.1, i)

pub ordered_put : (k : List ℕ) (d : Data) (ms : Members) → IsPlain d → AreOrdered ms
    → AreOrdered (put k d ms)
ordered_put k d no_members p h = (tt, p, tt)
ordered_put k d (member l e ms) p h =
    ordered_at (before k l) k l d e ms refl p h (ordered_put k d ms p h.2)
