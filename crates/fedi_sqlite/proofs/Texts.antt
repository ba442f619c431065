-- What the four texts mean.
use Rattle.std.proofs.Common.{◌≡◌, ℕ, pos, negsuc, List, [], ◌∷◌, codes, false, None, Ok, refl}
use Rattle.sqlite.specs.declared.types.Value.TheVariants.{Null, Int}
use Rattle.sqlite.specs.Collation.TheVariants.{Binary}
use Rattle.sqlite.specs.Term.{Term, lit, col, op2}
use Rattle.sqlite_sql.specs.declared.ops.BinaryOp.TheVariants.{Compare}
use Rattle.sqlite_sql.specs.declared.ops.CompareOp.TheVariants.{Eq}
use Rattle.sqlite_value.specs.Keys.{ascending}
use Rattle.sqlite.specs.Query.{Query, inner, end}
use Rattle.sqlite.specs.Source.TheVariants.{Values}
use Rattle.sqlite.specs.Command.TheVariants.{Insert, Select, CreateTable, Nothing}
use Rattle.sqlite.specs.Compile.{table_defined_by}
use Rattle.sqlite_tied.specs.Compute.{everything}
use Rattle.sqlite.specs.Listing.{understood, reads_listing}
use Rattle.sqlite.proofs.Callers.{IsPlain, command_of, statement_of}
use Rattle.fedi_sqlite.specs.Kept.{kept_table, kept_schema, no_schema}

abbrev pub make_text : List ℕ
make_text = codes "CREATE TABLE IF NOT EXISTS kept (place INTEGER PRIMARY KEY, payload BLOB NOT NULL) STRICT"

abbrev pub places_text : List ℕ
places_text = codes "SELECT place FROM kept ORDER BY place"

abbrev pub load_text : List ℕ
load_text = codes "SELECT payload FROM kept WHERE place = ?1"

abbrev pub append_text : List ℕ
append_text = codes "INSERT INTO kept (place, payload) VALUES (?1, ?2)"

abbrev pub append_terms : List Term
append_terms = col 0 0 ∷ lit Null ∷ col 0 1 ∷ []

abbrev pub load_query : Query
load_query = record {
  from = inner 0 end;
  filter = op2 (Compare Eq Binary) (col 1 0) (col 0 0) ∷ [];
  group = None;
  project = col 1 2 ∷ [];
  distinct = false;
  collations = [];
  order = [];
  limit = lit (Int (negsuc 0));
  offset = lit (Int (pos 0));
}

abbrev pub places_query : Query
places_query = record {
  from = inner 0 end;
  filter = [];
  group = None;
  project = col 1 0 ∷ [];
  distinct = false;
  collations = [];
  order = (col 1 0, ascending Binary) ∷ [];
  limit = lit (Int (negsuc 0));
  offset = lit (Int (pos 0));
}

pub append_is : command_of (understood kept_schema append_text) ≡ Insert 0 (Values append_terms 3)
unfolding understood everything
append_is = refl

pub append_plain : IsPlain (understood kept_schema append_text)
unfolding understood everything
append_plain = (refl, refl)

pub load_is : (command_of (understood kept_schema load_text) ≡ Select (record { lets = []; body = load_query }) (codes "payload" ∷ [])) × (reads_listing kept_schema load_text ≡ false)
unfolding understood everything
load_is = (refl, refl)

pub load_plain : IsPlain (understood kept_schema load_text)
unfolding understood everything
load_plain = (refl, refl)

pub places_is : (command_of (understood kept_schema places_text) ≡ Select (record { lets = []; body = places_query }) (codes "place" ∷ [])) × (reads_listing kept_schema places_text ≡ false)
unfolding understood everything
places_is = (refl, refl)

pub places_plain : IsPlain (understood kept_schema places_text)
unfolding understood everything
places_plain = (refl, refl)

pub make_again : command_of (understood kept_schema make_text) ≡ Nothing
unfolding understood everything
make_again = refl

pub make_again_plain : IsPlain (understood kept_schema make_text)
unfolding understood everything
make_again_plain = (refl, refl)

pub make_is : (command_of (understood no_schema make_text) ≡ CreateTable) × (statement_of make_text (understood no_schema make_text) ≡ make_text) × (table_defined_by make_text ≡ Ok kept_table)
unfolding understood everything
make_is = (refl, refl, refl)

pub make_plain : IsPlain (understood no_schema make_text)
unfolding understood everything
make_plain = (refl, refl)
