-- What the texts of the statements mean.
use Rattle.std.proofs.Common.{◌≡◌, ℕ, pos, negsuc, List, [], ◌∷◌, codes, false, None, Ok, refl}
use Rattle.sqlite_value.specs.declared.value.Value.TheVariants.{Null, Int}
use Rattle.sqlite_value.specs.declared.keys.Collation.TheVariants.{Binary}
use Rattle.sqlite_sql.specs.Term.{Term, lit, col, op2}
use Rattle.sqlite_sql.specs.Query.{Query, inner, end}
use Rattle.sqlite_sql.specs.declared.ops.BinaryOp.TheVariants.{Compare}
use Rattle.sqlite_sql.specs.declared.ops.CompareOp.TheVariants.{Eq}
use Rattle.sqlite_schema.specs.declared.command.Source.TheVariants.{Values}
use Rattle.sqlite_schema.specs.declared.command.Command.{Command}
use Rattle.sqlite_schema.specs.declared.command.Command.TheVariants.{InsertOr, Select, CreateTable, Nothing}
use Rattle.sqlite_schema.specs.declared.command.Conflict.TheVariants.{Replace}
use Rattle.sqlite.specs.Compile.{table_defined_by}
use Rattle.sqlite_tied.specs.Compute.{everything}
use Rattle.sqlite.specs.Change.{created}
use Rattle.sqlite.specs.Listing.{understood, reads_listing}
use Rattle.sqlite.proofs.Callers.{IsPlain, command_of, statement_of}
use Rattle.state_store.specs.KeptTable.{kept_table, kept_schema, no_schema}
use Rattle.state_store.specs.Statements.{put_text}

abbrev pub make_text : List ℕ
make_text = codes "CREATE TABLE IF NOT EXISTS kept(key TEXT PRIMARY KEY, value BLOB NOT NULL)"

abbrev pub select_text : List ℕ
select_text = codes "SELECT value FROM kept WHERE key = ?1"

abbrev pub terms : List Term
terms = lit Null ∷ col 0 0 ∷ col 0 1 ∷ []

abbrev pub query : Query
query = record {
  from = inner 0 end;
  filter = op2 (Compare Eq Binary) (col 1 1) (col 0 0) ∷ [];
  group = None;
  project = col 1 2 ∷ [];
  distinct = false;
  collations = [];
  order = [];
  limit = lit (Int (negsuc 0));
  offset = lit (Int (pos 0));
}

abbrev pub selection : Command
selection = Select (record { lets = []; body = query }) (codes "value" ∷ [])

pub make_is : (command_of (understood no_schema make_text) ≡ CreateTable) × (statement_of make_text (understood no_schema make_text) ≡ make_text)
unfolding understood everything
make_is = (refl, refl)

pub table_is : table_defined_by make_text ≡ Ok kept_table
unfolding understood everything
table_is = refl

pub schema_is : created no_schema kept_table ≡ kept_schema
unfolding understood everything
schema_is = refl

pub put_is : command_of (understood kept_schema put_text) ≡ InsertOr 0 Replace (Values terms 3) []
unfolding understood everything
put_is = refl

pub select_is : (command_of (understood kept_schema select_text) ≡ selection) × (reads_listing kept_schema select_text ≡ false)
unfolding understood everything
select_is = (refl, refl)

pub select_plain : IsPlain (understood kept_schema select_text)
unfolding understood everything
select_plain = (refl, refl)

pub put_plain : IsPlain (understood kept_schema put_text)
unfolding understood everything
put_plain = (refl, refl)

pub make_plain : IsPlain (understood no_schema make_text)
unfolding understood everything
make_plain = (refl, refl)

pub make_again_is : command_of (understood kept_schema make_text) ≡ Nothing
unfolding understood everything
make_again_is = refl

pub make_again_plain : IsPlain (understood kept_schema make_text)
unfolding understood everything
make_again_plain = (refl, refl)
