-- What is written of a value as JSON, token by token (RFC 8259).
use Rattle.std.specs.Prelude.{◌≡◌, ◌==◌, ℕ, List, [], ◌∷◌, ◌++◌, length, Bool, true, false}
use Rattle.std.specs.Prelude.{if◌then◌else◌, codes, Option, Some, None}
use Rattle.json.specs.Token.{Token}
use Rattle.json.specs.Tree.{json_tokens}
use Rattle.json.specs.Written.{Written}
use Rattle.serde_json.specs.Data.{Data, string, array}
use Rattle.serde_json.specs.View.{items_of}
use Rattle.serde_json.specs.Written.{outline}
use Rattle.fedi_objects.specs.declared.activity.ObjectRef.{ObjectRef}
use Rattle.fedi_objects.specs.declared.activity.ObjectRef.TheVariants as refs
use Rattle.fedi_objects.specs.Forms.{object_form}

-- the tokens were written after the earlier ones
pub record Adds (ts : List Token) (old new : Written) : Type 0 where
  pub tokens : new.tokens ≡ old.tokens ++ ts
  pub before : new.before ≡ old.before

-- the value was written after what was there
abbrev pub IsWritten : Data → Written → Written → Type 0
IsWritten d old new = Adds (json_tokens (outline d)) old new

-- the value is all that was written
pub record IsDocument (d : Data) (out : Written) : Type 0 where
  pub tokens : out.tokens ≡ json_tokens (outline d)
  pub before : out.before ≡ []

-- the tokens of a member that may be absent
abbrev pub member_tokens : List ℕ → Option Data → List Token
member_tokens key None = []
member_tokens key (Some d) = Token.key key ∷ json_tokens (outline d)

-- a list, if it is not empty
unfoldable pub listed : List Data → Option Data
listed ds = if length ds == 0 then None else Some (array (items_of ds))

-- the one context at the top of a document (ActivityStreams 2.0 Core, section 2.1)
unfoldable pub context_of : Bool → Option Data
context_of true = Some (string (codes "https://www.w3.org/ns/activitystreams"))
context_of false = None

-- the address of a collection of an object, if the object is local and has an id
unfoldable pub collection_of : Bool → Option (List ℕ) → List ℕ → Option Data
collection_of true (Some id) path = Some (string (id ++ path))
collection_of true None path = None
collection_of false id path = None

-- what an activity is about: an address, or the object itself
unfoldable pub object_value : Bool → ObjectRef → Option Data
object_value local refs.Nothing = None
object_value local (refs.Id id) = Some (string id)
object_value local (refs.Whole o) = Some (object_form local false o)
object_value local (refs.Changed change) = None
