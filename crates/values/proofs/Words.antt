-- The word that an item reads and computes.
use Prim.Native.Nat.{ℕ, ◌+◌, ◌-◌, ◌*◌, ◌<◌}
use mathlib.Core.Path.{◌≡◌, sym, ◌∙◌, ap}
use mathlib.Core.Bool.{true}
use mathlib.Core.List.{List, map}
use native.Mathlib.Omega.{arith}
use lib.ListN.{get_or, take, drop}
use lib.Seq.{get_or-take, get_or-drop}
use Rattle.finite.specs.Lists.{mem}
use Rattle.finite.proofs.Members.{map_ext, map_map}
use Rattle.unroll.specs.Sequential.{word_on}
use Rattle.body.specs.Body.{Body}
use Rattle.body.specs.Items.{task, send, receive, item_rank, item_at}
use Rattle.body.specs.Places.{slot, copy, reads_of, compute_of, system}
use Rattle.edges.specs.Tests.{rank_at}
use Rattle.plan.specs.Sizes.{slot_of}
use Rattle.plan.specs.Code.{code_kind, code_subject}
use Rattle.plan.specs.Layout.{body_of}
use Rattle.values.specs.Items.{Found}
use Rattle.values.proofs.Finding.{fits, found_task, task_below, found_send, found_receive, receive_least}

-- the words of items of each kind on a store
module _ (B : Body) (a : ℕ) (s : ℕ → ℕ) where
  word_task : (i : ℕ) → item_at B a ≡ task i → word_on (system B) a s ≡ B.compute i (map s (map (copy B (B.rank i)) (B.reads i)))
  unfolding word_on reads_of compute_of
  word_task i e = rw e

  word_send : (i g q : ℕ) → item_at B a ≡ send i g q → word_on (system B) a s ≡ s (copy B (B.rank i) g)
  unfolding word_on reads_of compute_of
  word_send i g q e = rw e

  word_receive : (i g q : ℕ) → item_at B a ≡ receive i g q → word_on (system B) a s ≡ s (slot (a - 1))
  unfolding word_on reads_of compute_of
  word_receive i g q e = rw e

module _ (w : List ℕ) (a code : ℕ) (F : Found w a code) where
  module _ (values : List ℕ) where
    pub receive_word : (x : ℕ) → code_kind code ≡ 2 → x ≡ slot_of (code_kind code) a → get_or values x 0 ≡ word_on (system (body_of w)) a (λ x. get_or values x 0)
    unfolding slot
    receive_word x z p = go (found_receive w a code F z)
      where
        place : x ≡ slot (a - 1)
        place = omega (arith, receive_least w a code F z)

        go : (i : ℕ) × (q : ℕ) × (item_at (body_of w) a ≡ receive i (code_subject code) q) → get_or values x 0 ≡ word_on (system (body_of w)) a (λ x. get_or values x 0)
        go (i, q, e) = ap (λ (x : ℕ). get_or values x 0) place ∙ sym (word_receive (body_of w) a (λ x. get_or values x 0) i (code_subject code) q e)

    -- where the copies of the item's rank start
    module _ (first : ℕ) (starts : first ≡ rank_at (body_of w) a * (body_of w).regions) where
      copy_is : (q g : ℕ) → rank_at (body_of w) a ≡ q → first + g ≡ copy (body_of w) q g
      unfolding copy
      copy_is q g e = ap (λ (x : ℕ). x + g) (starts ∙ ap (λ (r : ℕ). r * (body_of w).regions) e)

      -- the copies of its rank are lent, from there to `last`
      module _ (last : ℕ) (ends : last ≡ first + (body_of w).regions) where
        lent : (q g : ℕ) → rank_at (body_of w) a ≡ q → g < (body_of w).regions → get_or (take (last - first) (drop first values)) g 0 ≡ get_or values (copy (body_of w) q g) 0
        lent q g e l =
            get_or-take (last - first) (drop first values) g 0 (omega arith)
            ∙ (get_or-drop first values g 0 ∙ ap (λ (x : ℕ). get_or values x 0) (copy_is q g e))

        pub send_word : (g : ℕ) → code_kind code ≡ 1 → g ≡ code_subject code → g < (body_of w).regions →
            get_or (take (last - first) (drop first values)) g 0 ≡ word_on (system (body_of w)) a (λ x. get_or values x 0)
        send_word g z s l = go (found_send w a code F z)
          where
            go : (i : ℕ) × (q : ℕ) × (item_at (body_of w) a ≡ send i (code_subject code) q) →
                get_or (take (last - first) (drop first values)) g 0 ≡ word_on (system (body_of w)) a (λ x. get_or values x 0)
            go (i, q, e) =
                lent ((body_of w).rank i) g (ap (item_rank (body_of w)) e) l
                ∙ (ap (λ (h : ℕ). get_or values (copy (body_of w) ((body_of w).rank i) h) 0) s ∙ sym (word_send (body_of w) a (λ x. get_or values x 0) i (code_subject code) q e))

        pub task_word_lem : (i r : ℕ) → code_kind code ≡ 0 → i ≡ code_subject code →
            r ≡ (body_of w).compute i (map (λ g. get_or (take (last - first) (drop first values)) g 0) ((body_of w).reads i)) →
            r ≡ word_on (system (body_of w)) a (λ x. get_or values x 0)
        task_word_lem i r z s h =
            h ∙ (ap ((body_of w).compute i) (map_ext (λ g. get_or (take (last - first) (drop first values)) g 0) (λ g. get_or values (copy (body_of w) ((body_of w).rank i) g) 0) ((body_of w).reads i) each
            ∙ sym (map_map (λ x. get_or values x 0) (copy (body_of w) ((body_of w).rank i)) ((body_of w).reads i)))
            ∙ sym (word_task (body_of w) a (λ x. get_or values x 0) i is_task))
          where
            is_task : item_at (body_of w) a ≡ task i
            is_task = found_task w a code F z ∙ ap task (sym s)

            each : (g : ℕ) → mem g ((body_of w).reads i) ≡ true → get_or (take (last - first) (drop first values)) g 0 ≡ get_or values (copy (body_of w) ((body_of w).rank i) g) 0
            each g k =
                lent ((body_of w).rank i) g (ap (item_rank (body_of w)) is_task)
                ((fits w a code F).reads_below i g (omega (arith, task_below w a code F z)) k)
