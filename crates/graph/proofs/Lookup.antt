-- What the item table says of an item.
use Prim.Native.Nat.{ℕ, ◌-◌, ◌≤◌, ◌<◌}
use mathlib.Core.Path.{◌≡◌, refl, sym, ◌∙◌, ap}
use mathlib.Core.List.{List}
use native.Mathlib.Omega.{arith}
use lib.ListN.{get_or}
use Rattle.body.specs.Body.{Fits}
use Rattle.body.specs.Items.{Item, task, send, receive, kind_of, fewer, item_at, item_passes}
use Rattle.body.proofs.ItemList.{tasks_listed}
use Rattle.body.proofs.Wrapped.{fewer_most}
use Rattle.body.proofs.Accessed.{Known, item_known, rank_below}
use Rattle.edges.specs.Tests.{kind_at, rank_at}
use Rattle.plan.specs.Limits.{max_passes, max_ranks, max_regions}
use Rattle.plan.specs.Layout.{passes_of, tasks_of, body_of}
use Rattle.plan.specs.Code.{code_from, code_fewer, code_rank, code_kind, code_subject}
use Rattle.plan.proofs.Facts.{Formed, formed}
use Rattle.graph.specs.Table.{subject_of, code_of, Graph, Task}
use Rattle.graph.proofs.Small.{form_words, plan_fits}

kind_most : (x : Item) → kind_of x ≤ 2
kind_most (task i) = omega arith
kind_most (send i g q) = omega arith
kind_most (receive i g q) = omega arith

-- a task by its kind and subject
task_of_lem : (x : Item) → kind_of x ≡ 0 → x ≡ task (subject_of x)
task_of_lem (task i) e = refl
task_of_lem (send i g q) e = absurd (omega arith)
task_of_lem (receive i g q) e = absurd (omega arith)

module _ (w items : List ℕ) (n : ℕ) (G : Graph w items n) where
  pub form : Formed w
  form = formed w (form_words w G.formed)

  pub body_fits : Fits (body_of w)
  body_fits = plan_fits w G.formed

  module _ (a : ℕ) (below : a < n) where
    pub subject_below : subject_of (item_at (body_of w) a) < max_regions
    subject_below = go (item_at (body_of w) a) (item_known (body_of w) a (omega (arith, G.count)))
      where
        go : (x : Item) → Known (body_of w) x → subject_of x < max_regions
        go (task i) k = omega (arith, k, form.tasks_most)
        go (send i g q) k = omega (arith, body_fits.writes_below i g k.below k.writes, form.regions_most)
        go (receive i g q) k = omega (arith, body_fits.writes_below i g k.below k.writes, form.regions_most)

    pub rank_few : rank_at (body_of w) a < max_ranks
    rank_few = omega (arith, rank_below (body_of w) body_fits a (omega (arith, G.count)), form.ranks_most)

    module _ (code : ℕ) (e : code ≡ get_or items a 0) where
      code_is : code ≡ code_from (fewer (body_of w) (item_at (body_of w) a)) (rank_at (body_of w) a) (kind_at (body_of w) a) (subject_of (item_at (body_of w) a))
      unfolding code_of
      code_is = e ∙ G.each a below

      pub code_rank_lem : code_rank code ≡ rank_at (body_of w) a
      code_rank_lem = omega (arith, code_is, kind_most (item_at (body_of w) a), subject_below, rank_few)

      pub code_fewer_lem : code_fewer code ≡ fewer (body_of w) (item_at (body_of w) a)
      code_fewer_lem = omega (arith, code_is, kind_most (item_at (body_of w) a), subject_below, rank_few)

      pub fewer_few : code_fewer code ≤ 1
      fewer_few = rw code_fewer_lem (fewer_most (body_of w) (item_at (body_of w) a))

      -- the item's own passes, from the plan's
      pub code_passes : passes_of w - code_fewer code ≡ item_passes (body_of w) a
      code_passes = ap (λ (k : ℕ). passes_of w - k) code_fewer_lem

      pub code_kind_lem : code_kind code ≡ kind_at (body_of w) a
      code_kind_lem = omega (arith, code_is, kind_most (item_at (body_of w) a), subject_below)

      pub code_subject_lem : code_subject code ≡ subject_of (item_at (body_of w) a)
      code_subject_lem = omega (arith, code_is, kind_most (item_at (body_of w) a), subject_below)

      pub kind_few : code_kind code ≤ 2
      kind_few = rw code_kind_lem (kind_most (item_at (body_of w) a))

      pub code_task : code_kind code ≡ 0 → item_at (body_of w) a ≡ task (code_subject code)
      code_task z = task_of_lem (item_at (body_of w) a) (sym code_kind_lem ∙ z) ∙ ap task (sym code_subject_lem)

      pub task_ready : (i : ℕ) → code_kind code ≡ 0 → i ≡ code_subject code → Task w i
      task_ready i z e =
          let l : i < tasks_of w = (tasks_listed (body_of w) i).0 (a, omega (arith, G.count), code_task z ∙ ap task (sym e)) in
          let u = form.used i l in
          record { long = G.long; below = omega (arith, form.tasks_most); few = u.accesses_most; within = u.region_below; apart = u.apart }

  -- the codes of all items, as a loop over them reads them
  pub passes_most : passes_of w ≤ max_passes
  passes_most = form.passes_most

  pub codes_few : (a : ℕ) → a < n → code_fewer (get_or items a 0) ≤ 1
  codes_few a l = fewer_few a l (get_or items a 0) refl

  pub own_passes_lem : (passes : ℕ) → passes ≡ passes_of w → (a : ℕ) → a < n → (own : ℕ) → own ≡ passes - code_fewer (get_or items a 0) → own ≡ item_passes (body_of w) a
  own_passes_lem passes p a l own e = e ∙ (ap (λ (k : ℕ). k - code_fewer (get_or items a 0)) p ∙ code_passes a l (get_or items a 0) refl)
