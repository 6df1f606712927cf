-- The sizes of what is lent beside a plan, and where things stand in it (docs/LAYOUT.md).
use Rattle.std.specs.Prelude.{ℕ, ◌+◌, ◌-◌}
use Rattle.body.specs.Body.{first_slot}
pub use Rattle.edges.specs.EdgeList.{max_edges}

-- items: 128 tasks, and a send and a receive for each of 256 transfers
abbrev pub max_items : ℕ
max_items = 640

-- counts: a the started passes of item a, first_finished + a its finished passes, first_unmet + a how
-- many of its waits are unmet
abbrev pub count_words : ℕ
count_words = 1920

abbrev pub first_finished : ℕ
first_finished = 640

abbrev pub first_unmet : ℕ
first_unmet = 1280

-- values: the copies; from first_slot on (body/specs/Body.antt) the slots; first_held + a the word
-- that item a holds
abbrev pub value_words : ℕ
value_words = 3328

abbrev pub first_held : ℕ
first_held = 2688

-- the slot that a send (kind 1) or a receive (kind 2), item a, works on: it bears the number of the
-- send, which stands right before its receive
abbrev pub slot_of : ℕ → ℕ → ℕ
slot_of kind a = first_slot + (a + 1) - kind

-- edges: three numbers for each of max_edges, and no plan has more
-- (graph/specs/Laws.antt, `room`)
abbrev pub edge_words : ℕ
edge_words = 12672

-- results: a word for each region
abbrev pub result_words : ℕ
result_words = 128

-- the longest written text of a plan, in bytes
abbrev pub text_bytes : ℕ
text_bytes = 18732
