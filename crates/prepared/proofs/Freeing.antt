-- The items that an accepted finish lists are those whose start it makes accepted.
use Prim.Native.Nat.{ℕ, suc, ◌+◌, ◌-◌, ◌≤◌, ◌<◌}
use mathlib.Core.Path.{◌≡◌, refl, sym, ◌∙◌, ap, subst}
use mathlib.Core.Bool.{Bool, true, false, cond, not, ◌&&◌}
use mathlib.Core.Logic.{inl, ⊎_elim, ◌↔◌}
use mathlib.Core.List.{List, [], ◌∷◌, ◌++◌, append-nil, Memᴰ as In}
use native.Mathlib.Decide.{dec_lt, ℕ_discrete}
use native.Mathlib.Omega.{arith}
use borrow.Author.Tests.{eqb-true, eq-eqb, ltb-true, lt-ltb}
use lib.Dec.{eqb, ltb}
use lib.ListN.{length, get_or, set}
use lib.Seq.{get_or-set_same, get_or-set_other}
use Rattle.finite.specs.Lists.{mem, distinct}
use Rattle.finite.proofs.Tests.{and-true, and_intro, or_cases, false_of, not_both}
use Rattle.finite.proofs.Members.{mem_head, mem_one, mem_nil, mem_append, mem_append_left, mem_append_right, in_mem, mem_in, distinct_snoc, distinct_gather}
use Rattle.finite.proofs.Update.{update_same, update_other}
use Rattle.body.specs.Items.{item_count, item_passes}
use Rattle.body.specs.Places.{system}
use Rattle.edges.specs.Tests.{edge_test}
use Rattle.waits.proofs.Unmet.{count_done}
use Rattle.plan.specs.Layout.{plan_words}
use Rattle.graph.specs.Answers.{formed_plan, plan_body}
use Rattle.steps.specs.State.{count_words, first_finished, first_unmet, state_of, done_by, unmet_by}
use Rattle.steps.specs.Answers.{Left, open_of, finished_counts}
use Rattle.steps.specs.Calls.{Call, start, finish, Lent, lent_by, call, play}
use Rattle.steps.proofs.Accepting.{Clear, InTurn, long_slices_lem, formed_counts_lem, start_turn, finish_finished, finish_can}
use Rattle.steps.proofs.Numbered.{finished_stay, finished_done}
use Rattle.plan.specs.Sizes.{max_items}
use Rattle.prepared.specs.Tables.{leads, sources_in, target_count, target_in}
use Rattle.prepared.specs.Steps.{lowered_by, freed_by, again, counts_in, freed_in}
use Rattle.prepared.specs.Laws.{Prepared}
use Rattle.prepared.proofs.Lowering.{among, lowered_length, lowered_at, freed_is, mem_freed, freed_length}
use Rattle.prepared.proofs.Usable.{targets_small, targets_apart, apart, targets_among, again_is}
use Rattle.prepared.proofs.Finishing.{counts_same}
use Rattle.prepared.proofs.Reached.{Shown, shown_step, shown_play, shown_clear, shown_none, shown_in_step, open_long, open_formed, shown_opening}

-- a list of one item or none
mem_if : (t : Bool) (x y : ℕ) → mem x (cond t (y ∷ []) []) ≡ true → (t ≡ true) × (x ≡ y)
mem_if true x y h = (refl, mem_one x y h)
mem_if false x y h = absurd (mem_nil x h)

if_mem : (t : Bool) (x : ℕ) → t ≡ true → mem x (cond t (x ∷ []) []) ≡ true
if_mem true x h = mem_head x []
if_mem false x h = absurd (not_both h refl)

-- a number that is lowered to 0, or was 0
lowered_zero : (t : Bool) (x : ℕ) → (x ≡ 0 → ⊥) → cond t (x - 1) x ≡ 0 → (t ≡ true) × (x ≡ 1)
lowered_zero true x n z = (refl, omega arith)
lowered_zero false x n z = absurd (n z)

module _ (plan : List ℕ) (long : plan_words ≤ length plan) (formed : formed_plan plan ≡ true) (tables : List ℕ) (P : Prepared plan tables)
    (s : Lent) (h : Shown plan long formed s) (a : ℕ) (z : (call plan s (finish a)).refusal ≡ 0) where
  abbrev n : ℕ
  n = item_count (plan_body plan)

  abbrev C : List ℕ
  C = s.counts

  -- what the finish leaves
  abbrev after : Left
  after = call plan s (finish a)

  abbrev is_target : ℕ → Bool
  is_target = among (target_in tables a) (target_count tables a)

  clear : Clear plan C s.values
  clear = shown_clear plan long formed s h

  clear_after : Clear plan after.counts after.values
  clear_after = shown_clear plan long formed (lent_by after) (shown_step plan long formed s h (finish a))

  long_counts : count_words ≤ length C
  long_counts = ((long_slices_lem plan C s.values).0 clear.long).1

  la : a < n
  la = ((finish_can plan C s.values clear a).0 z).in_range

  running : get_or C a 0 ≡ suc (done_by C a)
  running = ((finish_can plan C s.values clear a).0 z).running

  counts_after : after.counts ≡ finished_counts plan C s.values a
  counts_after = ap (λ (r : Left). r.counts) (finish_finished plan C s.values a z)

  -- the passes
  module _ (b : ℕ) (lb : b < n) where
    started_after : get_or after.counts b 0 ≡ get_or C b 0
    started_after =
        ap (λ (l : List ℕ). get_or l b 0) counts_after
        ∙ finished_stay plan C s.values P.most long_counts a la b (λ e. omega (arith, P.most)) (inl (omega (arith, P.most)))

    done_other : (b ≡ a → ⊥) → done_by after.counts b ≡ done_by C b
    done_other ne =
        ap (λ (l : List ℕ). done_by l b) counts_after
        ∙ (finished_done plan C s.values P.most long_counts a la b lb ∙ update_other (done_by C) a (suc (done_by C a)) b ne)

  done_own : done_by after.counts a ≡ suc (done_by C a)
  done_own =
      ap (λ (l : List ℕ). done_by l a) counts_after
      ∙ (finished_done plan C s.values P.most long_counts a la a la ∙ update_same (done_by C) a (suc (done_by C a)))

  -- the numbers
  abbrev lowered : List ℕ
  lowered = lowered_by (target_in tables a) (target_count tables a) C

  abbrev own : ℕ
  own = cond (again plan tables C s.values a) (sources_in tables a) 0

  numbers_after : (b : ℕ) → b < n → unmet_by after.counts b ≡ unmet_by (set lowered (first_unmet + a) own) b
  unfolding counts_in
  numbers_after b lb =
      ap (λ (l : List ℕ). unmet_by l b)
      (counts_after ∙ sym (counts_same plan tables C s.values long formed P long_counts a la (shown_in_step plan long formed s h a la running)))
      ∙ get_or-set_other (set lowered (first_unmet + a) own) (first_finished + a) (first_unmet + b) (suc (done_by C a)) 0 (λ e. omega (arith, P.most, la))

  number_own : unmet_by after.counts a ≡ own
  number_own =
      numbers_after a la
      ∙ get_or-set_same lowered (first_unmet + a) own 0 (omega (arith, P.most, la, long_counts, lowered_length (target_in tables a) (target_count tables a) C))

  number_other : (b : ℕ) → b < n → (b ≡ a → ⊥) →
      unmet_by after.counts b ≡ cond (is_target b) (unmet_by C b - 1) (unmet_by C b)
  number_other b lb ne =
      numbers_after b lb
      ∙ (get_or-set_other lowered (first_unmet + a) (first_unmet + b) own 0 (λ e. ne (omega arith))
      ∙ lowered_at (target_in tables a) (target_count tables a) C b (apart plan tables P a la C long_counts) (omega (arith, P.most, long_counts)))

  -- an item that waits has a pass left and does not run
  waits_left : (b : ℕ) → b < n → (unmet_by C b ≡ 0 → ⊥) → done_by C b < item_passes (plan_body plan) b
  waits_left b lb w =
      elim (dec_lt (done_by C b) (item_passes (plan_body plan) b)) [
        | yes l ↦ l
        | no l ↦ absurd (w (h.tied.fresh b lb ∙ count_done (system (plan_body plan)) (edge_test (plan_body plan)) (done_by C) b (omega arith)))
      ]

  waits_idle : (b : ℕ) → b < n → (unmet_by C b ≡ 0 → ⊥) → get_or C b 0 ≡ done_by C b
  waits_idle b lb w =
      ⊎_elim (λ e. e) (λ r. absurd (w (shown_none plan long formed s h b lb r.0))) ((formed_counts_lem plan C s.values).0 clear.formed_counts_lem b lb).1

  -- the targets with number 1
  abbrev targets : List ℕ
  targets = freed_by (target_in tables a) (target_count tables a) C

  abbrev self : Bool
  self = again plan tables C s.values a && eqb (sources_in tables a) 0

  target_freed : (b : ℕ) → mem b targets ≡ (is_target b && eqb (unmet_by C b) 1)
  target_freed = mem_freed (target_in tables a) (target_count tables a) C (apart plan tables P a la C long_counts)

  -- a target is another item
  target_other : (b : ℕ) → is_target b ≡ true → (b < n) × (b ≡ a → ⊥)
  unfolding leads
  target_other b t =
      let u = and-true (ltb b n) (leads (plan_body plan) a b) (sym (targets_among plan tables P a la b) ∙ t) in
      let v = and-true (edge_test (plan_body plan) a b) (not (eqb a b)) u.1 in
      (ltb-true b n u.0, λ e. not_both v.1 (ap not (eq-eqb a b (sym e))))

  -- listed, then accepted after and not before
  abbrev Freed : ℕ → Type 0
  Freed b = ((call plan (lent_by after) (start b)).refusal ≡ 0) × ((call plan s (start b)).refusal ≡ 0 → ⊥)

  targets_freed : (b : ℕ) → mem b targets ≡ true → Freed b
  targets_freed b m =
      let u = and-true (is_target b) (eqb (unmet_by C b) 1) (sym (target_freed b) ∙ m) in
      let one : unmet_by C b ≡ 1 = eqb-true (unmet_by C b) 1 u.1 in
      let lb = (target_other b u.0).0 in
      let ne = (target_other b u.0).1 in
      let w : unmet_by C b ≡ 0 → ⊥ = λ q. omega arith in
      let zero : unmet_by after.counts b ≡ 0 = number_other b lb ne ∙ rw (u.0, one) in (
        (start_turn plan after.counts after.values clear_after b).1
            (lb, (omega (arith, waits_left b lb w, done_other b lb ne), omega (arith, waits_idle b lb w, started_after b lb, done_other b lb ne), zero)),
        λ q. w ((start_turn plan C s.values clear b).0 q).1.2,
      )

  self_freed : self ≡ true → Freed a
  self_freed t =
      let u = and-true (again plan tables C s.values a) (eqb (sources_in tables a) 0) t in
      let left : suc (done_by C a) < item_passes (plan_body plan) a = ltb-true _ _ (sym (again_is plan tables P a la long formed C s.values) ∙ u.0) in
      let none : sources_in tables a ≡ 0 = eqb-true (sources_in tables a) 0 u.1 in
      let zero : unmet_by after.counts a ≡ 0 = number_own ∙ rw (u.0, none) in (
        (start_turn plan after.counts after.values clear_after a).1
            (la, (omega (arith, done_own), omega (arith, done_own, started_after a la, running), zero)),
        λ q. omega (arith, ((start_turn plan C s.values clear a).0 q).1.1, running),
      )

  listed_freed : (b : ℕ) → mem b (freed_in plan tables C s.values a) ≡ true → Freed b
  unfolding freed_in
  listed_freed b m =
      ⊎_elim (targets_freed b)
      (λ t. let u = mem_if self b a t in subst Freed (sym u.1) (self_freed u.0))
      (or_cases (mem b targets) (mem b (cond self (a ∷ []) [])) (sym (mem_append b targets (cond self (a ∷ []) [])) ∙ m))

  -- and the other way about
  freed_listed : (b : ℕ) → Freed b → mem b (freed_in plan tables C s.values a) ≡ true
  unfolding freed_in
  freed_listed b F =
      let t = (start_turn plan after.counts after.values clear_after b).0 F.0 in
      elim (ℕ_discrete b a) [
        | yes e ↦ mem_append_right b targets (cond self (a ∷ []) []) (subst (λ (x : ℕ). mem x (cond self (a ∷ []) []) ≡ true) (sym e) (if_mem self a (own_ready e t)))
        | no ne ↦ mem_append_left b targets (cond self (a ∷ []) []) (target_ready ne t)
      ]
    where
      Turn : Type 0
      Turn = (b < n) × InTurn (plan_body plan) (state_of after.counts after.values) (unmet_by after.counts b) b

      own_ready : b ≡ a → Turn → self ≡ true
      own_ready e t =
          let left : done_by after.counts a < item_passes (plan_body plan) a = subst (λ (x : ℕ). done_by after.counts x < item_passes (plan_body plan) x) e t.1.0 in
          let next : again plan tables C s.values a ≡ true =
          again_is plan tables P a la long formed C s.values ∙ lt-ltb (suc (done_by C a)) (item_passes (plan_body plan) a) (omega (arith, done_own)) in
          let number : own ≡ 0 = sym number_own ∙ (ap (unmet_by after.counts) (sym e) ∙ t.1.2) in
          and_intro (again plan tables C s.values a) (eqb (sources_in tables a) 0) next
          (eq-eqb (sources_in tables a) 0 (sym (ap (λ (v : Bool). cond v (sources_in tables a) 0) next) ∙ number))

      target_ready : (b ≡ a → ⊥) → Turn → mem b targets ≡ true
      target_ready ne t =
          let lb = t.0 in
          let w : unmet_by C b ≡ 0 → ⊥ = λ q. F.1 ((start_turn plan C s.values clear b).1
          (lb, (omega (arith, t.1.0, done_other b lb ne), omega (arith, t.1.1, started_after b lb, done_other b lb ne), q))) in
          let u = lowered_zero (is_target b) (unmet_by C b) w (sym (number_other b lb ne) ∙ t.1.2) in
          target_freed b ∙ and_intro (is_target b) (eqb (unmet_by C b) 1) u.0 (eq-eqb (unmet_by C b) 1 u.1)

  pub shown_freed : (b : ℕ) → In b (freed_in plan tables C s.values a) ↔ Freed b
  shown_freed b = (
    λ i. listed_freed b (in_mem b (freed_in plan tables C s.values a) i),
    λ f. mem_in b (freed_in plan tables C s.values a) (freed_listed b f),
  )

  pub shown_freed_once : distinct (freed_in plan tables C s.values a) ≡ true
  unfolding freed_in
  shown_freed_once = go self
    where
      once : distinct targets ≡ true
      once =
          ap distinct (freed_is (target_in tables a) (target_count tables a) C (apart plan tables P a la C long_counts))
          ∙ distinct_gather (target_count tables a) (λ j. eqb (unmet_by C (target_in tables a j)) 1) (target_in tables a) (targets_apart plan tables P a la)

      new : mem a targets ≡ false
      new = false_of (mem a targets) (λ t. (target_other a (and-true (is_target a) (eqb (unmet_by C a) 1) (sym (target_freed a) ∙ t)).0).1 refl)

      go : (t : Bool) → distinct (targets ++ cond t (a ∷ []) []) ≡ true
      go true = distinct_snoc targets a once new
      go false = ap distinct (append-nil targets) ∙ once

  -- no more items than a plan can have
  pub shown_freed_few : length (freed_in plan tables C s.values a) ≤ max_items
  shown_freed_few = omega (arith, freed_length plan tables C s.values a, targets_small plan tables P a la)

  -- a finish takes no item off those that are ready
  pub shown_kept : (b : ℕ) → (call plan s (start b)).refusal ≡ 0 → (call plan (lent_by after) (start b)).refusal ≡ 0
  shown_kept b q =
      let t = (start_turn plan C s.values clear b).0 q in
      let lb = t.0 in
      let ne : b ≡ a → ⊥ = λ e. (let i : get_or C a 0 ≡ done_by C a = subst (λ (x : ℕ). get_or C x 0 ≡ done_by C x) e t.1.1 in omega (arith, running)) in
      let zero : unmet_by after.counts b ≡ 0 = number_other b lb ne ∙ rw t.1.2 (none (is_target b)) in
      (start_turn plan after.counts after.values clear_after b).1
      (lb, (omega (arith, t.1.0, done_other b lb ne), omega (arith, t.1.1, started_after b lb, done_other b lb ne), zero))
    where
      none : (t : Bool) → ◌≡◌ {A = ℕ} (cond t (0 - 1) 0) 0
      none true = refl
      none false = refl

-- from an opening
module _ (plan tables counts values : List ℕ) (P : Prepared plan tables) (z : (open_of plan counts values).refusal ≡ 0) (l : List Call) (a : ℕ) where
  abbrev s : Lent
  s = play plan (lent_by (open_of plan counts values)) l

  shown : Shown plan (open_long plan counts values z) (open_formed plan counts values z) s
  shown = shown_play plan (open_long plan counts values z) (open_formed plan counts values z) l (lent_by (open_of plan counts values)) (shown_opening plan counts values z)

  pub freed : (call plan s (finish a)).refusal ≡ 0 → (b : ℕ) →
      In b (freed_in plan tables s.counts s.values a)
      ↔ (((call plan (lent_by (call plan s (finish a))) (start b)).refusal ≡ 0) × ((call plan s (start b)).refusal ≡ 0 → ⊥))
  freed f = shown_freed plan (open_long plan counts values z) (open_formed plan counts values z) tables P s shown a f

  pub freed_once : (call plan s (finish a)).refusal ≡ 0 → distinct (freed_in plan tables s.counts s.values a) ≡ true
  freed_once f = shown_freed_once plan (open_long plan counts values z) (open_formed plan counts values z) tables P s shown a f

  pub freed_few : (call plan s (finish a)).refusal ≡ 0 → length (freed_in plan tables s.counts s.values a) ≤ max_items
  freed_few f = shown_freed_few plan (open_long plan counts values z) (open_formed plan counts values z) tables P s shown a f

  pub ready_kept : (call plan s (finish a)).refusal ≡ 0 → (b : ℕ) → (call plan s (start b)).refusal ≡ 0 →
      (call plan (lent_by (call plan s (finish a))) (start b)).refusal ≡ 0
  ready_kept f = shown_kept plan (open_long plan counts values z) (open_formed plan counts values z) tables P s shown a f
