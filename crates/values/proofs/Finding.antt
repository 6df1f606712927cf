-- What is known of an item that is found, and what its number in the item table says.
use Prim.Native.Nat.{ℕ, suc, ◌*◌, ◌≤◌, ◌<◌}
use mathlib.Core.Path.{◌≡◌, refl, sym, ◌∙◌, ap, subst}
use mathlib.Core.List.{List, map}
use native.Mathlib.Nat.{mul-le-mul}
use native.Mathlib.Omega.{arith}
use lib.ListN.{get_or, take}
use Rattle.finite.proofs.Collect.{get_d_map}
use Rattle.body.specs.Body.{Fits}
use Rattle.body.specs.Items.{Item, task, send, receive, kind_of, item_list, item_count, item_at}
use Rattle.body.proofs.ItemOrder.{receive_after}
use Rattle.body.proofs.Accessed.{Known, item_known, rank_below}
use Rattle.edges.specs.Tests.{kind_at, rank_at}
use Rattle.plan.specs.Sizes.{max_items}
use Rattle.plan.specs.Code.{code_rank, code_kind, code_subject}
use Rattle.plan.specs.Layout.{plan_words, regions_of, tasks_of, body_of}
use Rattle.plan.proofs.Facts.{Formed}
use Rattle.graph.specs.Table.{subject_of, code_of, Graph, Task}
use Rattle.graph.proofs.Lookup.{form, body_fits, code_rank_lem, code_kind_lem, code_subject_lem, code_task, kind_few, task_ready}
use Rattle.graph.proofs.Theorems.{laws}
use Rattle.values.specs.Items.{Found}
use Rattle.values.proofs.Plans.{plan_whole}

-- a send or receive by its kind and subject
send_of : (x : Item) → kind_of x ≡ 1 → (i : ℕ) × (q : ℕ) × (x ≡ send i (subject_of x) q)
send_of (task i) e = absurd (omega arith)
send_of (send i g q) e = (i, q, refl)
send_of (receive i g q) e = absurd (omega arith)

receive_of : (x : Item) → kind_of x ≡ 2 → (i : ℕ) × (q : ℕ) × (x ≡ receive i (subject_of x) q)
receive_of (task i) e = absurd (omega arith)
receive_of (send i g q) e = absurd (omega arith)
receive_of (receive i g q) e = (i, q, refl)

-- an item of the item table
pub found_at : (w table : List ℕ) (n : ℕ) → Graph w table n → (a code : ℕ) → a < n → code ≡ get_or table a 0 → Found w a code
found_at w table n G a code l e = record { plan = record { long = G.long; formed = G.formed }; below = omega (arith, G.count); coded = e ∙ G.each a l }

module _ (w : List ℕ) (a code : ℕ) (F : Found w a code) where
  -- the item table, as a list
  table : List ℕ
  table = map (code_of (body_of w)) (item_list (body_of w))

  graph : Graph w table (item_count (body_of w))
  unfolding item_at table
  graph =
      record {
        long = F.plan.long;
        formed = F.plan.formed;
        count = refl;
        most = laws.items w F.plan.formed;
        each = λ b l. get_d_map (code_of (body_of w)) (item_list (body_of w)) b (task 0) 0 l;
      }

  in_table : code ≡ get_or table a 0
  in_table = F.coded ∙ sym (graph.each a F.below)

  pub facts : Formed w
  facts = form w table (item_count (body_of w)) graph

  pub fits : Fits (body_of w)
  fits = body_fits w table (item_count (body_of w)) graph

  pub number_most : a < max_items
  number_most = omega (arith, F.below, graph.most)

  pub found_kind : code_kind code ≡ kind_at (body_of w) a
  found_kind = code_kind_lem w table (item_count (body_of w)) graph a F.below code in_table

  found_rank : code_rank code ≡ rank_at (body_of w) a
  found_rank = code_rank_lem w table (item_count (body_of w)) graph a F.below code in_table

  pub found_subject : code_subject code ≡ subject_of (item_at (body_of w) a)
  found_subject = code_subject_lem w table (item_count (body_of w)) graph a F.below code in_table

  pub kind_most : code_kind code ≤ 2
  kind_most = kind_few w table (item_count (body_of w)) graph a F.below code in_table

  -- what is neither a receive nor a send is a task
  pub kind_left : (code_kind code ≡ 2 → ⊥) → (code_kind code ≡ 1 → ⊥) → code_kind code ≡ 0
  kind_left h k = omega (arith, kind_most)

  pub found_task : code_kind code ≡ 0 → item_at (body_of w) a ≡ task (code_subject code)
  found_task z = code_task w table (item_count (body_of w)) graph a F.below code in_table z

  pub task_below : code_kind code ≡ 0 → code_subject code < tasks_of w
  task_below z = subst (Known (body_of w)) (found_task z) (item_known (body_of w) a F.below)

  pub found_ready : (i : ℕ) → code_kind code ≡ 0 → i ≡ code_subject code → Task w i
  found_ready i z e = task_ready w table (item_count (body_of w)) graph a F.below code in_table i z e

  pub found_send : code_kind code ≡ 1 → (i : ℕ) × (q : ℕ) × (item_at (body_of w) a ≡ send i (code_subject code) q)
  found_send z = rw found_subject (send_of (item_at (body_of w) a) (sym found_kind ∙ z))

  pub found_receive : code_kind code ≡ 2 → (i : ℕ) × (q : ℕ) × (item_at (body_of w) a ≡ receive i (code_subject code) q)
  found_receive z = rw found_subject (receive_of (item_at (body_of w) a) (sym found_kind ∙ z))

  -- a send or receive moves one of the plan's regions
  pub region_below : (code_kind code ≡ 0 → ⊥) → code_subject code < regions_of w
  region_below z = go (item_at (body_of w) a) found_kind found_subject (item_known (body_of w) a F.below)
    where
      go : (x : Item) → code_kind code ≡ kind_of x → code_subject code ≡ subject_of x → Known (body_of w) x → code_subject code < regions_of w
      go (task i) k s u = absurd (z k)
      go (send i g q) k s u = rw s (fits.writes_below i g u.below u.writes)
      go (receive i g q) k s u = rw s (fits.writes_below i g u.below u.writes)

  -- a receive has its send before it
  pub receive_least : code_kind code ≡ 2 → 1 ≤ a
  receive_least z = go (found_receive z)
    where
      last : (i g q : ℕ) → (b : ℕ) × (a ≡ suc b) × (item_at (body_of w) b ≡ send i g q) → 1 ≤ a
      last i g q (b, k, s) = omega arith

      go : (i : ℕ) × (q : ℕ) × (item_at (body_of w) a ≡ receive i (code_subject code) q) → 1 ≤ a
      go (i, q, e) = last i (code_subject code) q (receive_after (body_of w) fits a i (code_subject code) q F.below e)

  rank_most : rank_at (body_of w) a ≤ 15
  rank_most = omega (arith, rank_below (body_of w) fits a F.below, facts.ranks_most)

  -- where the copies of the item's rank start
  pub copies_start : code_rank code * regions_of w ≡ rank_at (body_of w) a * (body_of w).regions
  copies_start = ap (λ (q : ℕ). q * regions_of w) found_rank

  pub start_most : code_rank code * regions_of w ≤ 1920
  start_most = rw found_rank (mul-le-mul rank_most facts.regions_most)

  -- the plan is just as long as its words
  pub whole_plan : take plan_words w ≡ w
  whole_plan = plan_whole w F.plan
