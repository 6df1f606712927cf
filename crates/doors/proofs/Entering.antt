-- What the doors answer, by the tests on the way: P and C are the lent plan and counts.
use Prim.Native.Nat.{ℕ, ◌≤◌}
use mathlib.Core.Path.{◌≡◌, refl, sym, ◌∙◌, ap}
use mathlib.Core.Bool.{Bool, true, false, cond, not, ◌&&◌, ◌||◌, and-false}
use mathlib.Core.Logic.{⊎_elim}
use mathlib.Core.List.{List, [], ◌++◌}
use native.Mathlib.Omega.{arith}
use borrow.Author.Tests.{ltb-true, ltb-false, leb-true, lt-leb, le-leb, not-true, not-false}
use lib.Dec.{ltb, leb}
use lib.ListN.{length, take, drop}
use lib.Seq.{length-take-le}
use Rattle.std.specs.Prelude.{Option, Some, None, Ok, Err}
use Rattle.std.specs.Option.{ok_or}
use Rattle.finite.specs.Below.{all_below}
use Rattle.finite.proofs.Below.{all_at}
use Rattle.finite.proofs.Tests.{or_cases, or_parts, and-true}
use Rattle.body.specs.Items.{item_count, item_passes}
use Rattle.plan.specs.Sizes.{count_words}
use Rattle.plan.specs.declared.refusal.Refusal.{Refusal}
use Rattle.plan.specs.declared.refusal.Refusal.TheVariants.{TooShort, OutOfForm}
use Rattle.plan.proofs.Refusals.{number_above}
use Rattle.plan.specs.Layout.{plan_words, body_of}
use Rattle.plan.specs.Form.{in_form}
use Rattle.graph.specs.Table.{table_of, Graph}
use Rattle.graph.specs.Answers.{refusal_of, long_plan, formed_plan, plan_body}
use Rattle.steps.specs.State.{state_of, unmet_by}
use Rattle.steps.specs.Answers.{count_ok, formed_counts, formed_numbers}
use Rattle.items.proofs.Coding.{table_graph}
use Rattle.doors.specs.Doors.{ByPlan, ByState}

-- a refusal is no other where more is tested, once there is one
same_refused : (l f g : Bool) → (refusal_of l f true ≡ 0 → ⊥) → refusal_of l f true ≡ refusal_of l (f && g) true
same_refused true true g n = absurd (n refl)
same_refused true false g n = refl
same_refused false f g n = refl

some_refused : (l f : Bool) → (refusal_of l f true ≡ 0 → ⊥) → (l && f) ≡ false
some_refused true true n = absurd (n refl)
some_refused true false n = refl
some_refused false f n = refl

none_refused : (l f : Bool) → refusal_of l f true ≡ 0 → (l ≡ true) × (f ≡ true)
none_refused true true e = (refl, refl)
none_refused true false e = absurd (let z : ◌≡◌ {A = ℕ} 12 0 = e in omega arith)
none_refused false f e = absurd (let z : ◌≡◌ {A = ℕ} 11 0 = e in omega arith)

module _ (P table : List ℕ) (long : Bool) where
  -- a slice is too short
  pub plan_short : (ltb (length P) plan_words || not long) ≡ true → ByPlan P long table (Err TooShort) table
  plan_short h =
      record {
        refusal = ⊎_elim
            (λ k. rw (lt-leb plan_words (length P) (ltb-true (length P) plan_words k)))
            (λ k. rw (not-true long k, and-false (long_plan P)))
            (or_cases (ltb (length P) plan_words) (not long) h);
        clear = tt;
        listed = tt;
        refused = refl;
      }

  module _ (h : (ltb (length P) plan_words || not long) ≡ false) where
    pub plan_room : plan_words ≤ length P
    plan_room = ltb-false (length P) plan_words (or_parts (ltb (length P) plan_words) (not long) h).0

    pub cut_long : length (take plan_words P) ≡ plan_words
    cut_long = length-take-le plan_words P plan_room

    all_long_lem : (long_plan P && long) ≡ true
    all_long_lem = rw (le-leb plan_words (length P) plan_room, not-false long (or_parts (ltb (length P) plan_words) (not long) h).1)

    -- the table is made where the plan is in form
    pub plan_made : (w : List ℕ) → w ≡ take plan_words P → (made : Option ℕ) (table' : List ℕ) →
        made ≡ cond (in_form w) (Some (item_count (body_of w))) None →
        table' ≡ cond (in_form w) (table_of (body_of w) ++ drop (item_count (body_of w)) table) table →
        ByPlan P long table (ok_or made OutOfForm) table'
    plan_made w p made table' m' t' = go (formed_plan P) refl
      where
        m : made ≡ cond (formed_plan P) (Some (item_count (plan_body P))) None
        m = m' ∙ rw p

        t : table' ≡ cond (formed_plan P) (table_of (plan_body P) ++ drop (item_count (plan_body P)) table) table
        t = t' ∙ rw p

        go : (f : Bool) → formed_plan P ≡ f → ByPlan P long table (ok_or made OutOfForm) table'
        go true f =
            let g : made ≡ Some (item_count (plan_body P)) = m ∙ rw f in
            let u : table' ≡ table_of (plan_body P) ++ drop (item_count (plan_body P)) table = t ∙ rw f in
            rw g
            record {
              refusal = rw (all_long_lem, f);
              clear = rw u (table_graph (take plan_words P) (drop (item_count (plan_body P)) table) cut_long f);
              listed = u;
              refused = tt;
            }
        go false f =
            let g : made ≡ None = m ∙ rw f in
            rw g record { refusal = rw (all_long_lem, f); clear = tt; listed = tt; refused = t ∙ rw f }

-- the door by the plan was passed, or not
module _ (P C table : List ℕ) (long : Bool) where
  abbrev all_slices : Bool
  all_slices = long_plan P && (leb count_words (length C) && long)

  pub state_refused : (e : Refusal) (table' : List ℕ) → ByPlan P (leb count_words (length C) && long) table (Err e) table' → ByState P C long table (Err e) table'
  state_refused e table' B =
      let k : refusal_of all_slices (formed_plan P) true ≡ 0 → ⊥ = λ z. number_above e (B.refusal ∙ z) in
      record {
        refusal = B.refusal ∙ same_refused all_slices (formed_plan P) (formed_counts P C [] && formed_numbers P C []) k;
        clear = tt;
        listed = B.refused ∙ rw (some_refused all_slices (formed_plan P) k);
      }

  module _ (n : ℕ) (table' : List ℕ) (B : ByPlan P (leb count_words (length C) && long) table (Ok n) table') where
    passed : (all_slices ≡ true) × (formed_plan P ≡ true)
    passed = none_refused all_slices (formed_plan P) (sym B.refusal)

    slices : (long_plan P ≡ true) × (leb count_words (length C) ≡ true)
    slices = let p = and-true (long_plan P) (leb count_words (length C) && long) passed.0 in (p.0, (and-true (leb count_words (length C)) long p.1).0)

    pub lent_plan : plan_words ≤ length P
    lent_plan = leb-true plan_words (length P) slices.0

    pub lent_counts : count_words ≤ length C
    lent_counts = leb-true count_words (length C) slices.1

    pub lent_graph : Graph (take plan_words P) table' n
    lent_graph = B.clear

    filled : table' ≡ cond (all_slices && formed_plan P) (table_of (plan_body P) ++ drop (item_count (plan_body P)) table) table
    filled = B.listed ∙ rw (passed.0, passed.1, lent_graph.count)

    module _ (w codes : List ℕ) (p : w ≡ take plan_words P) (t : codes ≡ take n table') (room : n ≤ length table') (ok : Bool)
        (o : ok ≡ (all_below (length codes) (λ a. count_ok (item_passes (body_of w) a) (state_of C []) a) && all_below (length codes) (λ a. leb (unmet_by C a) (length codes)))) where
      abbrev numbers : Bool
      numbers = all_below n (λ a. leb (unmet_by C a) n)

      by_own : ok ≡ (all_below n (λ a. count_ok (item_passes (plan_body P) a) (state_of C []) a) && numbers)
      by_own =
          let e : length codes ≡ n = ap length t ∙ length-take-le n table' room in
          o ∙ rw (e, p)

      counted : ok ≡ (formed_counts P C [] && formed_numbers P C [])
      counted = by_own ∙ rw lent_graph.count

      pub state_unformed : not ok ≡ true → ByState P C long table (Err OutOfForm) table'
      state_unformed u =
          record {
            refusal = rw (passed.0, passed.1, ← counted, not-true ok u);
            clear = tt;
            listed = filled;
          }

      pub state_clear : not ok ≡ false → ByState P C long table (Ok n) table'
      state_clear u =
          let k = and-true (all_below n (λ a. count_ok (item_passes (plan_body P) a) (state_of C []) a)) numbers (sym by_own ∙ not-false ok u) in
          record {
            refusal = rw (passed.0, passed.1, ← counted, not-false ok u);
            clear = (
              lent_graph,
              record {
                room = lent_counts;
                counts_ok_lem = λ a l. all_at (λ a. count_ok (item_passes (plan_body P) a) (state_of C []) a) n a k.0 l;
                numbers_ok = λ a l. all_at (λ a. leb (unmet_by C a) n) n a k.1 l;
              },
            );
            listed = filled;
          }
