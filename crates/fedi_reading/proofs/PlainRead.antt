-- The text of a plain value is read back as the value.
use Rattle.std.proofs.Common.{◌≡◌, ℕ, ◌≤◌, List, [], Option, Some, option_map, option_and_then}
use Rattle.std.proofs.Common.{Less, nat_cmp, refl, sym, ap, ◌∙◌, arith, append-nil}
use Rattle.std.specs.Cmp.Lexicographic.{slice_cmp}
use Rattle.json.specs.Json as json
use Rattle.json.specs.Tree as tree
use Rattle.json.proofs.Printed.Trees.{value-json_tokens, ArePrintable-json_tokens}
use Rattle.json.proofs.Printed.Tokens.{tokens-print}
use Rattle.json.specs.Token.{Token}
use Rattle.serde_json.specs.Data.{Data, null, boolean, number, string, array, object, Items}
use Rattle.serde_json.specs.Data.{no_items, item, Members, no_members, member, put, depth}
use Rattle.serde_json.specs.Data.{items_depth, members_depth}
use Rattle.serde_json.specs.Read.{read, of_json, of_items, of_members, max_depth}
use Rattle.serde_json.specs.Written.{outline, items_outline, members_outline}
use Rattle.serde_json.proofs.Texts.{print-outline}
use Rattle.fedi_reading.specs.Plain.{AreAbove, IsPlain, ArePlain, AreOrdered, ReadsBack}
use Rattle.fedi_reading.proofs.OrderedMembers.{turned_back}

mutual
  shallow : (d : Data) → tree.depth (outline d) ≤ depth d
  shallow null = omega arith
  shallow (boolean b) = omega arith
  shallow (number n) = omega arith
  shallow (string s) = omega arith
  shallow (array ds) = omega (arith, shallow_items ds)
  shallow (object ms) = omega (arith, shallow_members ms)

  shallow_items : (ds : Items) → tree.items_depth (items_outline ds) ≤ items_depth ds
  shallow_items no_items = omega arith
  shallow_items (item d ds) = omega (arith, shallow d, shallow_items ds)

  shallow_members : (ms : Members) → tree.members_depth (members_outline ms) ≤ members_depth ms
  shallow_members no_members = omega arith
  shallow_members (member k d ms) = omega (arith, shallow d, shallow_members ms)

mutual
  numbers : (d : Data) → IsPlain d → tree.HasNumbers (outline d)
  numbers null p = tt
  numbers (boolean b) p = tt
  numbers (number n) p = p.0
  numbers (string s) p = tt
  numbers (array ds) p = numbers_items ds p
  numbers (object ms) p = numbers_members ms p

  numbers_items : (ds : Items) → ArePlain ds → tree.ItemsHaveNumbers (items_outline ds)
  numbers_items no_items p = tt
  numbers_items (item d ds) p = (numbers d p.0, numbers_items ds p.1)

  numbers_members : (ms : Members) → AreOrdered ms → tree.MembersHaveNumbers (members_outline ms)
  numbers_members no_members p = tt
  numbers_members (member k d ms) p = (numbers d p.1, numbers_members ms p.2)

-- members followed by others
abbrev joined : Members → Members → Members
joined no_members more = more
joined (member k d ms) more = member k d (joined ms more)

-- each of these keys is below this one
abbrev AreBelow : List ℕ → Members → Type 0
AreBelow k no_members = Unit {0}
AreBelow k (member l d ms) = (slice_cmp nat_cmp l k ≡ Less) × AreBelow k ms

put_end : (k : List ℕ) (d : Data) (found : Members) → AreBelow k found
    → put k d found ≡ joined found (member k d no_members)
put_end k d no_members h = refl
put_end k d (member l e found) h =
    rw (turned_back l k h.0) (ap (member l e) (put_end k d found h.1))

joined_more : (a b c : Members) → joined (joined a b) c ≡ joined a (joined b c)
joined_more no_members b c = refl
joined_more (member k d a) b c = ap (member k d) (joined_more a b c)

-- all of these keys are below all of those
abbrev Follow : Members → Members → Type 0
Follow found no_members = Unit {0}
Follow found (member k d ms) = AreBelow k found × Follow found ms

below_push : (j k : List ℕ) (d : Data) (found : Members) → AreBelow j found
    → slice_cmp nat_cmp k j ≡ Less → AreBelow j (joined found (member k d no_members))
below_push j k d no_members h e = (e, tt)
below_push j k d (member l c found) h e = (h.0, below_push j k d found h.1 e)

follow_push : (k : List ℕ) (d : Data) (found ms : Members) → Follow found ms → AreAbove k ms
    → Follow (joined found (member k d no_members)) ms
follow_push k d found no_members h a = tt
follow_push k d found (member l e ms) h a =
    (below_push l k d found h.0 a.0, follow_push k d found ms h.1 a.1)

joined_nothing : (found : Members) → joined found no_members ≡ found
joined_nothing no_members = refl
joined_nothing (member k d found) = ap (member k d) (joined_nothing found)

from_nothing : (ms : Members) → Follow no_members ms
from_nothing no_members = tt
from_nothing (member k d ms) = (tt, from_nothing ms)

mutual
  data_back : (d : Data) → IsPlain d → of_json (outline d) ≡ Some d
  data_back null p = refl
  data_back (boolean b) p = refl
  data_back (number n) p = ap (option_map number) p.1
  data_back (string s) p = refl
  data_back (array ds) p = ap (option_map array) (items_back ds p)
  data_back (object ms) p = ap (option_map object) (members_back ms no_members p (from_nothing ms))

  items_back : (ds : Items) → ArePlain ds → of_items (items_outline ds) ≡ Some ds
  items_back no_items p = refl
  items_back (item d ds) p = rw (data_back d p.0, items_back ds p.1)

  members_back : (ms found : Members) → AreOrdered ms → Follow found ms
      → of_members (members_outline ms) found ≡ Some (joined found ms)
  members_back no_members found p h = ap (λ (m : Members). Some m) (sym (joined_nothing found))
  members_back (member k d ms) found p h =
      rw (data_back d p.1, put_end k d found h.0)
      (members_back ms (joined found (member k d no_members)) p.2 (follow_push k d found ms h.1 p.0)
      ∙ ap (λ (m : Members). Some m) (joined_more found (member k d no_members) ms))

abbrev whole : Option (json.Json × List Token) → Option Data
whole o = option_and_then of_json (option_and_then (λ p. json.if_last p.0 p.1) o)

pub reads_back : ReadsBack
reads_back d p low =
    ap read (sym (print-outline d))
    ∙ ap whole
    (ap (json.value max_depth)
    (tokens-print (tree.json_tokens (outline d))
    (ArePrintable-json_tokens (outline d) (numbers d p)) ∙ sym (append-nil _))
    ∙ value-json_tokens (outline d) max_depth [] (omega (arith, shallow d)))
    ∙ data_back d p
