-- What start and finish by tables answer and leave, for every content and length of the lent
-- slices. They look at the words of their own item, and at no other item's but the numbers that a
-- finish lowers.
use Rattle.std.specs.Prelude.{ℕ, zero, suc, ◌+◌, ◌-◌, ◌≡◌, Bool, cond, not, ◌&&◌, ◌||◌, List, [], ◌∷◌, ◌++◌, map, eqb, ltb, leb, length, get_or, set, drop}
use Rattle.finite.specs.Below.{all_below}
use Rattle.finite.specs.Lists.{mem}
use Rattle.finite.specs.Update.{replaced}
use Rattle.plan.specs.Limits.{max_passes, max_accesses}
use Rattle.plan.specs.Sizes.{max_items, max_edges}
use Rattle.plan.specs.Code.{code_fewer, code_kind, code_subject}
use Rattle.graph.specs.Answers.{refusal_of, plan_body}
use Rattle.steps.specs.State.{first_finished, first_unmet, first_held, state_of, done_by, unmet_by}
use Rattle.steps.specs.Answers.{Left, count_ok, tests_by, finish_tests, long_slices, unless}
use Rattle.prepared.specs.Tables.{prepared_words, first_read, first_write, items_in, code_in, sources_in, start_in, target_count, target_in, place_count, place_in, places_in}

-- one off the number of each of the items f 0, .., f (k - 1), one after another, a 0 staying 0
unfoldable pub lowered_by : (ℕ → ℕ) → ℕ → List ℕ → List ℕ
lowered_by f zero counts = counts
lowered_by f (suc k) counts = let c = lowered_by f k counts in set c (first_unmet + f k) (unmet_by c (f k) - 1)

-- those of them whose number so becomes 0
unfoldable pub freed_by : (ℕ → ℕ) → ℕ → List ℕ → List ℕ
freed_by f zero counts = []
freed_by f (suc k) counts = freed_by f k counts ++ cond (eqb (unmet_by (lowered_by f k counts) (f k)) 1) (f k ∷ []) []

module _ (plan tables counts values : List ℕ) where
  -- the passes that item a has
  abbrev pub own_in : ℕ → ℕ
  own_in a = (plan_body plan).passes - code_fewer (code_in tables a)

  -- the words that a step of item a uses lie in their ranges: the plan's passes within their limit,
  -- the item's counts in form, and its number of unmet waits at most the number of items
  abbrev pub item_ok : ℕ → Bool
  item_ok a = leb (plan_body plan).passes max_passes && (count_ok (own_in a) (state_of counts values) a && leb (unmet_by counts a) (items_in tables))

  -- its row has at most eight places, and they lie before the held words
  abbrev pub places_ok : ℕ → ℕ → Bool
  places_ok first a = leb (place_count tables first a) max_accesses && all_below (place_count tables first a) (λ k. ltb (place_in tables first a k) first_held)

  -- the items with an edge to it are fewer than all, and so are its targets, which stand within the
  -- part and are items
  abbrev pub targets_ok : ℕ → Bool
  targets_ok a =
      ltb (sources_in tables a) (items_in tables)
      && (leb (start_in tables (a + 1)) max_edges
      && (ltb (target_count tables a) (items_in tables)
      && all_below (target_count tables a) (λ k. ltb (target_in tables a k) (items_in tables))))

  unfoldable pub start_ok : ℕ → Bool
  start_ok a = item_ok a && places_ok first_read a

  unfoldable pub finish_ok : ℕ → Bool
  finish_ok a = item_ok a && (places_ok first_write a && targets_ok a)

  -- 11, 12 and 13 of a step of item a; `ok`: its words lie in their ranges. Of an item that the
  -- tables do not have 12 is for their number of items alone
  abbrev pub step_refusal : ℕ → Bool → ℕ
  step_refusal a ok =
      refusal_of (long_slices plan counts values && leb prepared_words (length tables))
      (leb (items_in tables) max_items && (not (ltb a (items_in tables)) || ok))
      (ltb a (items_in tables))

  -- the word that item a computes from the places that it reads; of a send or receive the one that
  -- it reads
  unfoldable pub word_in : ℕ → ℕ
  word_in a =
      let words = map (state_of counts values).places (places_in tables first_read a) in
      cond (eqb (code_kind (code_in tables a)) 0) ((plan_body plan).compute (code_subject (code_in tables a)) words) (get_or words 0 0)

  unfoldable pub started_in : ℕ → Left
  started_in a =
      record {
        refusal = 0;
        word = word_in a;
        counts = set counts a (suc ((state_of counts values).started a));
        values = set values (first_held + a) (word_in a);
      }

  unfoldable pub start_prepared : ℕ → Left
  start_prepared a =
      unless plan counts values (step_refusal a (start_ok a))
      (unless plan counts values (tests_by (own_in a) (state_of counts values) (unmet_by counts a) a) (started_in a))

  -- item a has another pass after the one that it finishes
  abbrev pub again : ℕ → Bool
  again a = ltb (suc (done_by counts a)) (own_in a)

  -- the counts after a finish of item a: one is taken off the number of each of its targets, a 0
  -- staying 0; its own is how many items have an edge to it if it has another pass, else 0; the
  -- finish is counted
  unfoldable pub counts_in : ℕ → List ℕ
  counts_in a =
      set
      (set (lowered_by (target_in tables a) (target_count tables a) counts) (first_unmet + a) (cond (again a) (sources_in tables a) 0))
      (first_finished + a) (suc (done_by counts a))

  unfoldable pub finished_in : ℕ → Left
  finished_in a =
      record {
        refusal = 0;
        word = (state_of counts values).held a;
        counts = counts_in a;
        values = replaced (λ x. mem x (places_in tables first_write a)) (λ x. (state_of counts values).held a) values;
      }

  unfoldable pub finish_prepared : ℕ → Left
  finish_prepared a =
      unless plan counts values (step_refusal a (finish_ok a))
      (unless plan counts values (finish_tests (state_of counts values) a) (finished_in a))

  -- the targets whose number became 0, and the item itself if it has another pass and no other item
  -- has an edge to it: from an opening on the items that the finish makes ready
  unfoldable pub freed_in : ℕ → List ℕ
  freed_in a = freed_by (target_in tables a) (target_count tables a) counts ++ cond (again a && eqb (sources_in tables a) 0) (a ∷ []) []

  -- a finish that lists them in the lent slice `freed`: what it answers and leaves. The list is
  -- their number, and they; what lies behind stays. 11 too where that slice is short; refused, it
  -- is left as it is
  pub record FreeingAnswer (freed : List ℕ) (a : ℕ) (r : Left) (freed' : List ℕ) : Type 0 where
    pub finished : r ≡ unless plan counts values (cond (ltb max_items (length freed)) 0 11) (finish_prepared a)
    pub listed : r.refusal ≡ 0 → freed' ≡ (length (freed_in a) ∷ freed_in a) ++ drop (1 + length (freed_in a)) freed
    pub refused : (r.refusal ≡ 0 → ⊥) → freed' ≡ freed
