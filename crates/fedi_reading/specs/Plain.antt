-- JSON values that are read back from their compact texts (RFC 8259, sections 4 to 7).
use Rattle.std.specs.Prelude.{◌≡◌, ℕ, ◌≤◌, List, Some}
use Rattle.std.specs.Ordering.{nat_cmp}
use Rattle.std.specs.declared.cmp.Ordering.TheVariants.{Less}
use Rattle.std.specs.Cmp.Lexicographic.{slice_cmp}
use Rattle.serde_json.specs.Data.{Data, null, boolean, number, string, array, object, Items}
use Rattle.serde_json.specs.Data.{no_items, item, Members, no_members, member, depth}
use Rattle.json.specs.Print.{IsNumber}
use Rattle.serde_json.specs.Read.{number_of, read}
use Rattle.serde_json.specs.Written.{compact_text, number_text}

-- each of these keys is above this one, in the order of bytes
abbrev pub AreAbove : List ℕ → Members → Type 0
AreAbove k no_members = Unit {0}
AreAbove k (member l d ms) = (slice_cmp nat_cmp k l ≡ Less) × AreAbove k ms

abbrev mutual
  -- each number in the value is read back from its text, and the keys of each object are in order,
  -- so that none is there twice
  pub IsPlain : Data → Type 0
  IsPlain null = Unit {0}
  IsPlain (boolean b) = Unit {0}
  IsPlain (number n) = IsNumber (number_text n) × (number_of (number_text n) ≡ Some n)
  IsPlain (string s) = Unit {0}
  IsPlain (array ds) = ArePlain ds
  IsPlain (object ms) = AreOrdered ms

  -- the same of items
  pub ArePlain : Items → Type 0
  ArePlain no_items = Unit {0}
  ArePlain (item d ds) = IsPlain d × ArePlain ds

  -- the same of members, whose keys are in order
  pub AreOrdered : Members → Type 0
  AreOrdered no_members = Unit {0}
  AreOrdered (member k d ms) = AreAbove k ms × IsPlain d × AreOrdered ms

-- The compact text of such a value is read as the value, if it is nested no deeper than serde_json
-- reads.
abbrev pub ReadsBack : Type 0
ReadsBack = (d : Data) → IsPlain d → depth d ≤ 127 → read (compact_text d) ≡ Some d
