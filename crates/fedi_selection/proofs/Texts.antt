-- What the texts of the statements mean.
use Rattle.std.proofs.Common.{◌≡◌, ℕ, pos, negsuc, List, [], ◌∷◌, codes, false, None, Ok, refl}
use Rattle.sqlite.specs.declared.types.Value.TheVariants.{Null, Int}
use Rattle.sqlite.specs.Collation.TheVariants.{Binary}
use Rattle.sqlite.specs.Term.{Term, lit, col, op2}
use Rattle.sqlite_sql.specs.declared.ops.BinaryOp.TheVariants.{Compare}
use Rattle.sqlite_sql.specs.declared.ops.CompareOp.TheVariants.{Eq}
use Rattle.sqlite_value.specs.Keys.{ascending}
use Rattle.sqlite.specs.Query.{Query, inner, end}
use Rattle.sqlite.specs.Source.TheVariants.{Values}
use Rattle.sqlite.specs.Command.TheVariants.{Insert, Select, CreateTable, Nothing, Delete}
use Rattle.sqlite.specs.Compile.{table_defined_by}
use Rattle.sqlite_tied.specs.Compute.{everything}
use Rattle.sqlite.specs.Listing.{understood, reads_listing}
use Rattle.sqlite.proofs.Callers.{IsPlain, command_of, statement_of}
use Rattle.fedi_selection.specs.Acts.{act_table, act_schema, no_schema}

abbrev pub make_text : List ℕ
make_text =
    codes
    "CREATE TABLE IF NOT EXISTS act (place INTEGER PRIMARY KEY, id TEXT NOT NULL, actor TEXT NOT NULL, kind TEXT NOT NULL, state TEXT NOT NULL, moment INTEGER NOT NULL) STRICT"

abbrev pub clear_text : List ℕ
clear_text = codes "DELETE FROM act"

abbrev pub insert_text : List ℕ
insert_text = codes "INSERT INTO act (place, id, actor, kind, state, moment) VALUES (?1, ?2, ?3, ?4, ?5, ?6)"

abbrev pub pick_text : List ℕ
pick_text = codes "SELECT place, id, actor, kind, state, moment FROM act WHERE actor = ?1 AND kind = ?2 ORDER BY place"

abbrev pub insert_terms : List Term
insert_terms = col 0 0 ∷ lit Null ∷ col 0 1 ∷ col 0 2 ∷ col 0 3 ∷ col 0 4 ∷ col 0 5 ∷ []

abbrev pub clear_query : Query
clear_query = record {
  from = inner 0 end;
  filter = [];
  group = None;
  project = col 1 0 ∷ [];
  distinct = false;
  collations = [];
  order = [];
  limit = lit (Int (negsuc 0));
  offset = lit (Int (pos 0));
}

abbrev pub pick_query : Query
pick_query = record {
  from = inner 0 end;
  filter = op2 (Compare Eq Binary) (col 1 3) (col 0 0) ∷ op2 (Compare Eq Binary) (col 1 4) (col 0 1) ∷ [];
  group = None;
  project = col 1 0 ∷ col 1 2 ∷ col 1 3 ∷ col 1 4 ∷ col 1 5 ∷ col 1 6 ∷ [];
  distinct = false;
  collations = [];
  order = (col 1 0, ascending Binary) ∷ [];
  limit = lit (Int (negsuc 0));
  offset = lit (Int (pos 0));
}

pub insert_is : command_of (understood act_schema insert_text) ≡ Insert 0 (Values insert_terms 7)
unfolding understood everything
insert_is = refl

pub insert_plain : IsPlain (understood act_schema insert_text)
unfolding understood everything
insert_plain = (refl, refl)

pub clear_is : command_of (understood act_schema clear_text) ≡ Delete 0 (record { lets = []; body = clear_query })
unfolding understood everything
clear_is = refl

pub clear_plain : IsPlain (understood act_schema clear_text)
unfolding understood everything
clear_plain = (refl, refl)

pub pick_is : (command_of (understood act_schema pick_text)
    ≡ Select (record { lets = []; body = pick_query }) (codes "place" ∷ codes "id" ∷ codes "actor" ∷ codes "kind" ∷ codes "state" ∷ codes "moment" ∷ []))
    × (reads_listing act_schema pick_text ≡ false)
unfolding understood everything
pick_is = (refl, refl)

pub pick_plain : IsPlain (understood act_schema pick_text)
unfolding understood everything
pick_plain = (refl, refl)

pub make_again : command_of (understood act_schema make_text) ≡ Nothing
unfolding understood everything
make_again = refl

pub make_again_plain : IsPlain (understood act_schema make_text)
unfolding understood everything
make_again_plain = (refl, refl)

pub make_is : (command_of (understood no_schema make_text) ≡ CreateTable) × (statement_of make_text (understood no_schema make_text) ≡ make_text) × (table_defined_by make_text ≡ Ok act_table)
unfolding understood everything
make_is = (refl, refl, refl)

pub make_plain : IsPlain (understood no_schema make_text)
unfolding understood everything
make_plain = (refl, refl)
