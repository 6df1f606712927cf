-- The answers of the exported functions, from what their door and the function behind it answer. P
-- is the lent plan, C and W the counts and values.
use Prim.Native.Nat.{ℕ, ◌*◌, ◌≤◌, ◌<◌}
use mathlib.Core.Path.{◌≡◌, refl, sym, ◌∙◌, ap}
use mathlib.Core.Bool.{Bool, true, false, cond, ◌&&◌, ◌||◌, and-false, and-true as true-behind}
use mathlib.Core.Logic.{◌⊎◌, inl, inr}
use mathlib.Core.List.{List, [], ◌++◌, append_assoc, flat_map}
use native.Mathlib.Decide.{dec_lt}
use native.Mathlib.Omega.{arith}
use borrow.Author.Tests.{ne_eqb, le-leb, lt-leb, leb-true, ltb-true, ltb-false}
use lib.Dec.{eqb, ltb, leb}
use lib.ListN.{length, take, drop, take-append-drop}
use lib.Seq.{take_all, length-take-le, drop-append-le}
use Rattle.std.specs.Prelude.{Result, Ok, Err}
use Rattle.finite.specs.Lists.{gather}
use Rattle.finite.specs.Put.{Put}
use Rattle.finite.proofs.Lists.{gather_ext}
use Rattle.finite.proofs.Tests.{and-true, or_cases}
use Rattle.body.specs.Items.{item_count, total_steps}
use Rattle.plan.specs.Sizes.{max_items, edge_words, count_words, value_words}
use Rattle.plan.specs.declared.refusal.Refusal.{Refusal}
use Rattle.plan.specs.declared.refusal.Refusal.TheVariants.{TooShort}
use Rattle.plan.specs.Refusals.{number_of, refusal_number}
use Rattle.plan.specs.Layout.{plan_words, body_of}
use Rattle.graph.specs.Table.{table_of, Graph}
use Rattle.graph.specs.Answers.{refusal_of, long_plan, formed_plan, plan_body, is_item, three, ItemsAnswer, EdgesAnswer, TotalAnswer}
use Rattle.steps.specs.Answers.{Left, long_slices, call_refusal, refused, open_of, start_of, finish_of, result_of}
use Rattle.steps.specs.Calls.{lent, start, finish, result, is_accepted}
use Rattle.steps.specs.Ready.{ready_items, ReadyAnswer}
use Rattle.steps.proofs.Accepting.{formed_state, refusal_none}
use Rattle.steps.proofs.Answering.{short_test, short_slices}
use Rattle.steps.proofs.Running.{cut_again, call_cut}
use Rattle.doors.specs.Doors.{Clear, ByPlan, ByState}
use Rattle.plan.proofs.Refusals.{number_above}
use Rattle.calls.specs.Drawn.{Drawn}
use Rattle.taskiter.specs.Told.{number_told}

-- a plan that is cut to its size is long enough
pub cut_room : (P : List ℕ) → length (take plan_words P) ≡ plan_words → plan_words ≤ length P
cut_room P e =
    elim (dec_lt (length P) plan_words) [
      | yes l ↦ let h : length P ≤ plan_words = omega arith in absurd (omega (arith, e, ap length (take_all plan_words P h)))
      | no l ↦ omega arith
    ]

pub graph_room : (P table : List ℕ) (n : ℕ) → Graph (take plan_words P) table n → plan_words ≤ length P
graph_room P table n G = cut_room P G.long

-- once the slices or the plan are refused, the number asked for is no matter
number_apart : (l f t : Bool) → (refusal_of l f true ≡ 0 → ⊥) → refusal_of l f t ≡ refusal_of l f true
number_apart true true t n = absurd (n refl)
number_apart true false t n = refl
number_apart false f t n = refl

-- items: the first of the lent table are those that the door fills

pub items_short : (P T : List ℕ) → length T < max_items → ItemsAnswer P T (number_told (Err TooShort)) T
items_short P T h =
    record {
      refusal = rw (lt-leb max_items (length T) h) (go (long_plan P));
      listed = λ z. absurd (number_above TooShort z);
      refused = λ z. (refl, refl);
    }
  where
    go : (l : Bool) → 11 ≡ refusal_of (l && false) (formed_plan P) true
    go true = refl
    go false = refl

module _ (P T : List ℕ) (long : max_items ≤ length T) (t : Bool) (T1 : List ℕ) where
  module _ (n : ℕ) (B : ByPlan P t (take max_items T) (Ok n) T1) where
    pub items_whole : T1 ++ drop max_items T ≡ table_of (plan_body P) ++ drop (item_count (plan_body P)) T
    items_whole =
        ap (λ (l : List ℕ). l ++ drop max_items T) B.listed
        ∙ (append_assoc (table_of (plan_body P)) (drop n (take max_items T)) (drop max_items T)
        ∙ ap (λ (l : List ℕ). table_of (plan_body P) ++ l)
        (sym (drop-append-le n (take max_items T) (drop max_items T) (omega (arith, B.clear.most, length-take-le max_items T long)))
        ∙ (ap (drop n) (take-append-drop max_items T) ∙ ap (λ (k : ℕ). drop k T) B.clear.count)))

    pub items_found : t ≡ true → ItemsAnswer P T (number_told (Ok n)) (T1 ++ drop max_items T)
    items_found e =
        record {
          refusal = B.refusal ∙ rw (e, le-leb max_items (length T) long);
          listed = λ z. (B.clear.count, items_whole);
          refused = λ z. absurd (z refl);
        }

  module _ (e : Refusal) (B : ByPlan P t (take max_items T) (Err e) T1) where
    pub items_kept : T1 ++ drop max_items T ≡ T
    items_kept = ap (λ (l : List ℕ). l ++ drop max_items T) B.refused ∙ take-append-drop max_items T

    pub items_refused : t ≡ true → ItemsAnswer P T (number_told (Err e)) (T1 ++ drop max_items T)
    items_refused k =
        record {
          refusal = B.refusal ∙ rw (k, le-leb max_items (length T) long);
          listed = λ z. absurd (number_above e z);
          refused = λ z. (refl, items_kept);
        }

-- edges

module _ (P L : List ℕ) where
  pub edges_refused : (table table' : List ℕ) (e : Refusal) → ByPlan P (leb edge_words (length L)) table (Err e) table' → EdgesAnswer P L (number_told (Err e)) L
  edges_refused table table' e B = record { refusal = B.refusal; listed = λ z. absurd (number_above e z); refused = λ z. (refl, refl) }

  pub edges_listed : (formed : formed_plan P ≡ true) → plan_words ≤ length P → edge_words ≤ length L → (m k : ℕ) (L' : List ℕ) → Drawn (take plan_words P) L m L' → k ≡ m →
      EdgesAnswer P L (record { refusal = 0; number = k }) L'
  edges_listed f p l m k L' D e =
      record {
        refusal = rw (le-leb plan_words (length P) p, le-leb edge_words (length L) l, f);
        listed = λ z. (D.edges, D.all, e ∙ D.count, D.put ∙ ap (λ (x : ℕ). flat_map three D.edges ++ drop (3 * x) L) D.count);
        refused = λ z. absurd (z refl);
      }

-- the total

module _ (P table table' : List ℕ) where
  plan_refusal : (r : Result ℕ Refusal) → ByPlan P true table r table' → refusal_number r ≡ refusal_of (long_plan P) (formed_plan P) true
  plan_refusal r B = B.refusal ∙ ap (λ (l : Bool). refusal_of l (formed_plan P) true) (true-behind (long_plan P))

  pub total_refused : (e : Refusal) → ByPlan P true table (Err e) table' → TotalAnswer P (number_told (Err e))
  total_refused e B = record { refusal = plan_refusal (Err e) B; total = λ z. absurd (number_above e z); refused = λ z. refl }

  pub total_made : (n : ℕ) → ByPlan P true table (Ok n) table' → (steps : ℕ) → steps ≡ total_steps (plan_body P) → TotalAnswer P (record { refusal = 0; number = steps })
  total_made n B steps e = record { refusal = plan_refusal (Ok n) B; total = λ h. e; refused = λ n. absurd (n refl) }

-- counts in form for the items that a door puts at the front of a table
pub clear_taken : (table : List ℕ) (n : ℕ) {w P codes C : List ℕ} → w ≡ P → codes ≡ take n table → n ≤ length table → Clear P C n → Clear w C (length codes)
clear_taken table n {codes = codes} p t l K =
    let e : length codes ≡ n = ap length t ∙ length-take-le n table l in
    rw (p, e) K

-- what a door that was passed tells of its slices
pub door_long : (P : List ℕ) (long : Bool) (table table' : List ℕ) (n : ℕ) → ByPlan P long table (Ok n) table' → long ≡ true
door_long P long table table' n B = (and-true (long_plan P) long (refusal_none (long_plan P && long) (formed_plan P) true (sym B.refusal)).0).1

-- an opening
module _ (P C W : List ℕ) where
  pub open_refused : (table table' : List ℕ) (e : Refusal) → ByPlan P (leb count_words (length C) && leb value_words (length W)) table (Err e) table' →
      refused P C W (number_of e) ≡ open_of P C W
  unfolding open_of
  open_refused table table' e B = sym (rw (sym B.refusal, ne_eqb (number_of e) 0 (number_above e)))

  pub open_cut : plan_words ≤ length P → open_of (take plan_words P) C W ≡ open_of P C W
  unfolding open_of
  open_cut l = rw (cut_again P l, le-leb plan_words (length (take plan_words P)) (omega (arith, length-take-le plan_words P l)), le-leb plan_words (length P) l)

  pub open_passed : plan_words ≤ length P → (x : Left) → x ≡ open_of (take plan_words P) C W → x ≡ open_of P C W
  open_passed l x e = e ∙ open_cut l

  -- a step or result that the door refuses
  module _ {table : List ℕ} (table' : List ℕ) where
    module _ (e : Refusal) (B : ByState P C (leb value_words (length W)) table (Err e) table') where
      call_refused : (t : Bool) (x : Left) → refused P C W (number_of e) ≡ cond (eqb (call_refusal P C W t) 0) x (refused P C W (call_refusal P C W t))
      call_refused t x =
          sym (rw (number_apart (long_slices P C W) (formed_plan P && formed_state P C W) t (λ z. number_above e (B.refusal ∙ z)), ← B.refusal, ne_eqb (number_of e) 0 (number_above e)))

      pub start_refused : (a : ℕ) → refused P C W (number_of e) ≡ start_of P C W a
      unfolding start_of
      start_refused a = call_refused (is_item P a) _

      pub finish_refused : (a : ℕ) → refused P C W (number_of e) ≡ finish_of P C W a
      unfolding finish_of
      finish_refused a = call_refused (is_item P a) _

      pub result_refused : (g : ℕ) → refused P C W (number_of e) ≡ result_of P C W g
      unfolding result_of
      result_refused g = call_refused (ltb g (plan_body P).regions) _

    -- one that it lets pass
    module _ (n : ℕ) (B : ByState P C (leb value_words (length W)) table (Ok n) table') where
      pub state_room : plan_words ≤ length P
      state_room = graph_room P table' n B.clear.0

      pub values_long : value_words ≤ length W
      values_long =
          let s = (refusal_none (long_slices P C W) (formed_plan P && formed_state P C []) true (sym B.refusal)).0 in
          leb-true value_words (length W) (and-true (leb count_words (length C)) (leb value_words (length W)) (and-true (long_plan P) (leb count_words (length C) && leb value_words (length W)) s).1).1

      pub start_passed : (a : ℕ) (x : Left) → x ≡ start_of (take plan_words P) C W a → x ≡ start_of P C W a
      start_passed a x e = e ∙ call_cut P state_room (lent C W) (start a)

      pub finish_passed : (a : ℕ) (x : Left) → x ≡ finish_of (take plan_words P) C W a → x ≡ finish_of P C W a
      finish_passed a x e = e ∙ call_cut P state_room (lent C W) (finish a)

      pub result_passed : (g : ℕ) (x : Left) → x ≡ result_of (take plan_words P) C W g → x ≡ result_of P C W g
      result_passed g x e = e ∙ call_cut P state_room (lent C W) (result g)

-- the items that are ready
module _ (P C W I : List ℕ) where
  pub ready_short : (short_test P C W || ltb (length I) max_items) ≡ true → ReadyAnswer P C W I (number_told (Err TooShort)) I
  ready_short h =
      record {
        refusal = rw (too_short (or_cases (short_test P C W) (ltb (length I) max_items) h));
        listed = λ z. absurd (number_above TooShort z);
        refused = λ z. (refl, refl);
      }
    where
      too_short : (short_test P C W ≡ true) ⊎ (ltb (length I) max_items ≡ true) → (long_slices P C W && leb max_items (length I)) ≡ false
      too_short (inl t) = rw (short_slices P C W t)
      too_short (inr t) = rw (lt-leb max_items (length I) (ltb-true (length I) max_items t)) (and-false (long_slices P C W))

  -- a list of calls that are answered alike
  ready_cut : plan_words ≤ length P → ready_items (take plan_words P) C W ≡ ready_items P C W
  unfolding ready_items
  ready_cut l =
      ap (λ (w : List ℕ). gather (item_count (body_of w)) (λ a. is_accepted (take plan_words P) (lent C W) (start a)) (λ a. a)) (cut_again P l)
      ∙ gather_ext (item_count (plan_body P)) (λ a. is_accepted (take plan_words P) (lent C W) (start a)) (λ a. is_accepted P (lent C W) (start a)) (λ a. a)
      (λ a la. ap (λ (x : Left). eqb x.refusal 0) (call_cut P l (lent C W) (start a)))

  module _ {table : List ℕ} (table' : List ℕ) (room : ltb (length I) max_items ≡ false) where
    ready_refusal : (r : Result ℕ Refusal) → ByState P C (leb value_words (length W)) table r table' →
        refusal_number r ≡ refusal_of (long_slices P C W && leb max_items (length I)) (formed_plan P && formed_state P C W) true
    ready_refusal r B = B.refusal ∙ sym (rw (le-leb max_items (length I) (ltb-false (length I) max_items room), true-behind (long_slices P C W)))

    pub ready_refused : (e : Refusal) → ByState P C (leb value_words (length W)) table (Err e) table' → ReadyAnswer P C W I (number_told (Err e)) I
    ready_refused e B = record { refusal = ready_refusal (Err e) B; listed = λ z. absurd (number_above e z); refused = λ z. (refl, refl) }

    pub ready_listed : (n : ℕ) → ByState P C (leb value_words (length W)) table (Ok n) table' → (m : ℕ) (I' : List ℕ) →
        ((X : List ℕ) → value_words ≤ length X → Put (ready_items (take plan_words P) C X) I m I') → ReadyAnswer P C W I (record { refusal = 0; number = m }) I'
    ready_listed n B m I' put =
        let p = put W (values_long P C W table' n B) in
        let c = ready_cut (state_room P C W table' n B) in
        record {
          refusal = ready_refusal (Ok n) B;
          listed = λ h. (p.count ∙ ap length c, p.begins ∙ ap (λ (x : List ℕ). x ++ drop (length x) I) c);
          refused = λ n. absurd (n refl);
        }
