-- The loop over the accesses of task i, which is item a on rank q.
use Prim.Native.Nat.{ℕ, ◌+◌, ◌*◌, ◌≤◌, ◌<◌}
use mathlib.Core.Path.{◌≡◌, sym, ◌∙◌, ap}
use mathlib.Core.Bool.{Bool, cond}
use mathlib.Core.List.{List}
use native.Mathlib.Omega.{arith}
use lib.Dec.{eqb}
use Rattle.body.specs.Items.{task}
use Rattle.edges.specs.Touch.{touch}
use Rattle.plan.specs.Limits.{max_ranks, max_regions}
use Rattle.plan.specs.Sizes.{max_items}
use Rattle.plan.specs.Layout.{writes, access_region, accesses_of, access_at, body_of}
use Rattle.graph.specs.Table.{Task}
use Rattle.graph.proofs.Accesses.{Passed, passed_end, touch_to, touch_none, touch_fresh, touch_next, touch_all}
use Rattle.open_waits.specs.Sources.{Kept, Counted, Placed, Touched}
use Rattle.open_waits.proofs.Touching.{touched_none, touched_ext, touched_more}

module _ (w : List ℕ) (i a q mark : ℕ) (seen : List ℕ) where
  -- k accesses have been passed
  abbrev pub Accessed : ℕ → List ℕ → List ℕ → List ℕ → List ℕ → ℕ → Type 0
  Accessed k heads writers nexts seen' number = Touched (body_of w) a q (touch_to w i k) (8 * a + k) mark heads writers nexts seen seen' number

  pub task_none : (number : ℕ) (heads writers nexts : List ℕ) → Kept (body_of w) a (λ x. 0) (8 * a) heads writers nexts → Counted mark seen number
      → Accessed 0 heads writers nexts seen number
  task_none number heads writers nexts K C =
      touched_ext (body_of w) a q mark seen (λ g. 0) (touch_to w i 0) (8 * a) (8 * a + 0) number heads writers nexts seen (λ g l. sym (touch_none w i g)) (omega arith)
      (touched_none (body_of w) a q mark seen (8 * a) number heads writers nexts K C)

  pub task_more : (k access g e x : ℕ) (out : Bool) (heads heads' writers writers' nexts nexts' seen' seen'' : List ℕ) (number number' : ℕ) → Task w i → k < accesses_of w i
      → access ≡ access_at w i k → (g ≡ access_region access) × (g < max_regions) → out ≡ writes access → a < max_items → q < max_ranks → e ≡ 8 * a + k → x ≡ 128 * q + g
      → Accessed k heads writers nexts seen' number → Placed x e mark out heads heads' writers writers' nexts nexts' seen' seen'' number'
      → Accessed (k + 1) heads' writers' nexts' seen'' number'
  task_more k access g e x out heads heads' writers writers' nexts nexts' seen' seen'' number number' T l word (r, lg) o la lq ee at D P =
      touched_ext (body_of w) a q mark seen (λ h. cond (eqb h g) (cond out 2 1) (touch_to w i k h)) (touch_to w i (k + 1)) (e + 1) (8 * a + (k + 1)) number' heads' writers' nexts' seen''
      (λ h m. rw (r, o) (sym (touch_next w i k access T l word h))) (omega arith)
      (touched_more (body_of w) a q mark seen g e x (touch_to w i k) out heads heads' writers writers' nexts nexts' seen' seen'' number number' lg lq (omega (arith, T.few)) (omega (arith, T.few))
      (ap (touch_to w i k) r ∙ touch_fresh w i k access T l word) at (rw ee D) P)

  pub task_done : (count k number : ℕ) (heads writers nexts seen' : List ℕ) → Task w i → Passed w i count k → count ≤ k → Accessed k heads writers nexts seen' number
      → Touched (body_of w) a q (touch (body_of w) (task i)) (8 * (a + 1)) mark heads writers nexts seen seen' number
  task_done count k number heads writers nexts seen' T P end D =
      let all = passed_end w i count k P end in
      touched_ext (body_of w) a q mark seen (touch_to w i k) (touch (body_of w) (task i)) (8 * a + k) (8 * (a + 1)) number heads writers nexts seen' (λ g l. touch_all w i k g all)
      (omega (arith, all, T.few)) D
