use Rattle.std.specs.Prelude.{ℕ, List}
use Rattle.model.specs.declared.UseKind.{UseKind}
use Rattle.fields.specs.declared.Field.{Field}
use Rattle.lines.specs.declared.Line.{Line}
use Rattle.lines.specs.declared.Line.TheVariants.{Header, Use, Settle}

-- Some columns of a line: what they hold, and the place of the first.
pub record Columns : Type 0 where
  pub bytes : List ℕ
  pub line : ℕ
  pub column : ℕ

-- The parts of a line by its kind: of a header the page count, the top's size, the rule's letter
-- and the seed; of a use its kind and its page; a settle has none.
pub data Parts : Type 0 where
  header_parts : Columns → Columns → ℕ → Columns → Parts
  use_parts : UseKind → Columns → Parts
  settle_parts : Parts

-- What a borrowed field is.
abbrev pub columns_of : Field → Columns
columns_of f = record { bytes = f.bytes.now; line = f.line; column = f.column }

-- What a line that is handed out is made of.
abbrev pub parts_of : Line → Parts
parts_of (Header pages top rule seed) = header_parts (columns_of pages) (columns_of top) rule (columns_of seed)
parts_of (Use kind page) = use_parts kind (columns_of page)
parts_of Settle = settle_parts
