-- The lines that code makes of tables and lists: for the contracts of code, and nothing that need
-- be believed.
use Rattle.std.specs.Prelude.{ℕ, ◌+◌, ◌*◌, List, get_or}
use Rattle.finite.specs.Lists.{collect}
use Rattle.plan.specs.Code.{code_rank, code_kind}
use Rattle.lines.specs.Lines.{item_line, edge_line, value_line}

-- the line of item a by the numbers of an item table
unfoldable pub item_line_at : List ℕ → ℕ → List ℕ
item_line_at table a = item_line a (code_kind (get_or table a 0)) (code_rank (get_or table a 0))

-- the line of edge k of a list with three numbers an edge
unfoldable pub edge_line_at : List ℕ → ℕ → List ℕ
edge_line_at list k = edge_line (get_or list (3 * k) 0, get_or list (3 * k + 1) 0, get_or list (3 * k + 2) 0)

-- the line of region g
unfoldable pub value_line_at : List ℕ → ℕ → List ℕ
value_line_at words g = value_line g (get_or words g 0)

-- n items by the numbers of an item table
abbrev pub table_lines : List ℕ → ℕ → List ℕ
table_lines table n = collect n (item_line_at table)

-- m edges of a list with three numbers an edge
abbrev pub list_lines : List ℕ → ℕ → List ℕ
list_lines list m = collect m (edge_line_at list)

-- the words of n regions
abbrev pub word_lines : List ℕ → ℕ → List ℕ
word_lines words n = collect n (value_line_at words)
