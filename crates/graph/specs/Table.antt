-- The item table: a number for each item, its rank, kind, task or region, and whether it is of a
-- wrapped transfer. `code_of` and `table_of` are what `taskiter_items` answers (Answers); `Graph`
-- and `Task` serve the contracts of inner functions.
use Rattle.std.specs.Prelude.{ℕ, ◌≤◌, ◌<◌, ◌≡◌, true, List, map, length, get_or}
use Rattle.body.specs.Body.{Body}
use Rattle.body.specs.Items.{Item, task, send, receive, kind_of, item_rank, fewer, item_list, item_count, item_at}
use Rattle.plan.specs.Limits.{max_tasks, max_accesses}
use Rattle.plan.specs.Sizes.{max_items}
use Rattle.plan.specs.Layout.{plan_words, regions_of, accesses_of, region_at, body_of}
use Rattle.plan.specs.Code.{code_from}
use Rattle.plan.specs.Form.{in_form}

-- of a task its number, of a send or receive its region
abbrev pub subject_of : Item → ℕ
subject_of (task i) = i
subject_of (send i g q) = g
subject_of (receive i g q) = g

unfoldable pub code_of : Body → Item → ℕ
code_of B x = code_from (fewer B x) (item_rank B x) (kind_of x) (subject_of x)

-- the numbers of all items
abbrev pub table_of : Body → List ℕ
table_of B = map (code_of B) (item_list B)

-- words in form, and a table of their items
pub record Graph (w items : List ℕ) (n : ℕ) : Type 0 where
  pub long : length w ≡ plan_words
  pub formed : in_form w ≡ true
  pub count : n ≡ item_count (body_of w)
  pub most : n ≤ max_items
  pub each : (a : ℕ) → a < n → get_or items a 0 ≡ code_of (body_of w) (item_at (body_of w) a)

-- task i can be looked at
pub record Task (w : List ℕ) (i : ℕ) : Type 0 where
  pub long : length w ≡ plan_words
  pub below : i < max_tasks
  pub few : accesses_of w i ≤ max_accesses
  pub within : (a : ℕ) → a < accesses_of w i → region_at w i a < regions_of w
  pub apart : (a b : ℕ) → a < accesses_of w i → b < accesses_of w i → region_at w i a ≡ region_at w i b → a ≡ b
