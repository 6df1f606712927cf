-- Closing the regions: the body's last writer of each serves the reads ahead. _none, _more and
-- _done are the loop's: before its first turn, over a turn, and after its last.
use Prim.Native.Nat.{ℕ, ◌+◌, ◌*◌, ◌/◌, ◌%◌, ◌≤◌, ◌<◌}
use mathlib.Core.Path.{◌≡◌, refl, sym, ◌∙◌, ap, ap₂, subst}
use mathlib.Core.Bool.{Bool, true, false, cond, not, ◌&&◌, ◌||◌, or-false, and-false}
use mathlib.Core.List.{List}
use mathlib.Core.Option.{Option, none, some, some-injective, none-ne-some}
use native.Mathlib.Decide.{ℕ_discrete}
use native.Mathlib.Omega.{arith}
use borrow.Author.Tests.{eqb-true, lt-ltb, le-ltb}
use lib.Bits.{bit_or, or_zero_r}
use lib.Count.{ones}
use lib.Dec.{eqb, ltb}
use lib.ListN.{length, get_or, set}
use lib.Seq.{set-get_or}
use Rattle.finite.specs.Below.{count_below}
use Rattle.finite.proofs.Tests.{and_parts, false_of, ltb_next}
use Rattle.finite.proofs.Below.{count_ext, sum_const}
use Rattle.finite.proofs.Sums.{count_or_apart}
use Rattle.finite.proofs.Bits.{bits_ext}
use Rattle.finite.proofs.Bitwise.{bits_or, ones_bits}
use Rattle.body.specs.Transfers.{last_before}
use Rattle.plan.specs.Limits.{max_regions}
use Rattle.plan.specs.Layout.{regions_of, tasks_of, rank_of, accesses_of, region_at, body_of}
use Rattle.plan.specs.Form.{words_ok}
use Rattle.plan.proofs.Facts.{Formed, formed}
use Rattle.transfers.specs.Wanted.{plan_masks, mask_of, mask_by, wrapped_at, ahead_at, ahead_masks, has_rank}
use Rattle.transfers.specs.Search.{no_writers, noted_tasks, late_of, forward_mask, late, serves, closed_masks, closed_wrapped, closed_total, forward_at, late_at, closed_at, Closed, per_flag, access_flags}
use Rattle.transfers.proofs.Foreign.{wrapped_not, wrapped_foreign, wrapped_last, late_is}
use Rattle.transfers.proofs.Flags.{source_bit}
use Rattle.transfers.proofs.Last.{Writer, Names, last_at, last_named}
use Rattle.transfers.proofs.Masks.{mask_has, masks_size, mask_at, ahead_at_lem, masks_ext, masks_put}
use Rattle.transfers.proofs.Tally.{count_more_at}

-- where the source names an access, which may have no rank left to serve
module _ (s h : ℕ) (m : List ℕ) (at : s / 65536 < plan_masks) where
  closed_masks_lem : closed_masks s h m ≡ set m (s / 65536) (bit_or (forward_mask s h m) (late s h m))
  unfolding closed_masks
  closed_masks_lem = rw (lt-ltb (s / 65536) plan_masks at) (go (eqb (late s h m) 0) refl)
    where
      go : (b : Bool) → eqb (late s h m) 0 ≡ b → cond (not b) (set m (s / 65536) (bit_or (forward_mask s h m) (late s h m))) m ≡ set m (s / 65536) (bit_or (forward_mask s h m) (late s h m))
      go true e =
          let z : late s h m ≡ 0 = eqb-true (late s h m) 0 e in
          sym (set-get_or m (s / 65536) 0) ∙ ap (λ (x : ℕ). set m (s / 65536) x) (sym (ap (bit_or (forward_mask s h m)) z ∙ or_zero_r (forward_mask s h m)))
      go false e = refl

  closed_wrapped_lem : (v : List ℕ) → get_or v (s / 65536) 0 ≡ 0 → closed_wrapped s h m v ≡ set v (s / 65536) (late s h m)
  unfolding closed_wrapped
  closed_wrapped_lem v free = rw (lt-ltb (s / 65536) plan_masks at) (go (eqb (late s h m) 0) refl)
    where
      go : (b : Bool) → eqb (late s h m) 0 ≡ b → cond (not b) (set v (s / 65536) (late s h m)) v ≡ set v (s / 65536) (late s h m)
      go true e = sym (set-get_or v (s / 65536) 0) ∙ ap (λ (x : ℕ). set v (s / 65536) x) (free ∙ sym (eqb-true (late s h m) 0 e))
      go false e = refl

  closed_total_lem : (c : ℕ) → closed_total s h m c ≡ c + ones (late s h m)
  unfolding closed_total ones
  closed_total_lem c = rw (lt-ltb (s / 65536) plan_masks at) (go (eqb (late s h m) 0) refl)
    where
      go : (b : Bool) → eqb (late s h m) 0 ≡ b → cond (not b) (c + ones (late s h m)) c ≡ c + ones (late s h m)
      go true e = let z : ones (late s h m) ≡ 0 = ap ones (eqb-true (late s h m) 0 e) in omega arith
      go false e = refl

module _ (w : List ℕ) (F : Formed w) (g : ℕ) where
  -- a transfer that closing region g does not add
  late_kept : (i a q : ℕ) → (region_at w i a ≡ g → wrapped_at w i a q ≡ false) → late_at w (g + 1) i a q ≡ late_at w g i a q
  late_kept i a q h =
      elim (ℕ_discrete (region_at w i a) g) [
        | yes e ↦ rw (h e) (and-false (ltb (region_at w i a) (g + 1)) ∙ sym (and-false (ltb (region_at w i a) g)))
        | no e ↦ ap (λ (b : Bool). b && wrapped_at w i a q) (ltb_next (region_at w i a) g e)
      ]

  -- of access a of task i, which writes region g
  late_before : (i a q : ℕ) → region_at w i a ≡ g → late_at w g i a q ≡ false
  late_before i a q e = ap (λ (b : Bool). b && wrapped_at w i a q) (le-ltb (region_at w i a) g (omega arith))

  late_after : (i a q : ℕ) → region_at w i a ≡ g → late_at w (g + 1) i a q ≡ wrapped_at w i a q
  late_after i a q e = ap (λ (b : Bool). b && wrapped_at w i a q) (lt-ltb (region_at w i a) (g + 1) (omega arith))

  closed_before : (i a q : ℕ) → region_at w i a ≡ g → closed_at w g i a q ≡ forward_at w i a q
  closed_before i a q e = ap (λ (b : Bool). forward_at w i a q || b) (late_before i a q e) ∙ or-false (forward_at w i a q)

  closed_after : (i a q : ℕ) → region_at w i a ≡ g → closed_at w (g + 1) i a q ≡ (forward_at w i a q || wrapped_at w i a q)
  closed_after i a q e = ap (λ (b : Bool). forward_at w i a q || b) (late_after i a q e)

  -- s is the region's source, and h the mask of the ranks that read it ahead
  module _ (m v : List ℕ) (c : ℕ) (C : Closed w g m v c) (s h : ℕ) (is : h ≡ get_or (ahead_masks w) g 0) where
    -- no task writes it
    module _ (unwritten : last_before (body_of w) (tasks_of w) g ≡ none) where
      kept : (i a q : ℕ) → late_at w (g + 1) i a q ≡ late_at w g i a q
      kept i a q =
          late_kept i a q (λ e. false_of (wrapped_at w i a q) (λ h.
          none-ne-some i (sym unwritten ∙ subst (λ (x : ℕ). last_before (body_of w) (tasks_of w) x ≡ some i) e (wrapped_last w i a q h))))

      closed_none_served : Closed w (g + 1) m v c
      closed_none_served =
          record {
            masks_are = C.masks_are ∙ masks_ext (closed_at w g) (closed_at w (g + 1)) (λ i a q l. ap (λ (b : Bool). forward_at w i a q || b) (sym (kept i a q)));
            wrapped_are = C.wrapped_are ∙ masks_ext (late_at w g) (late_at w (g + 1)) (λ i a q l. sym (kept i a q));
            count =
                C.count
                ∙ count_ext access_flags (per_flag (closed_at w g)) (per_flag (closed_at w (g + 1)))
                (λ k l. ap (λ (b : Bool). forward_at w (k / 128) (k / 16 % 8) (k % 16) || b) (sym (kept (k / 128) (k / 16 % 8) (k % 16))));
          }

    -- task i writes it last
    module _ (i : ℕ) (last : last_before (body_of w) (tasks_of w) g ≡ some i) (writer : Writer w g i s) (lg : g < max_regions) where
      abbrev a : ℕ
      a = writer.access

      few : a < 8
      few = omega (arith, writer.below, (F.used i writer.task).accesses_most)

      tasks : i < 128
      tasks = omega (arith, writer.task, F.tasks_most)

      place : s / 65536 ≡ 8 * i + a
      place = omega (arith, writer.same)

      at : s / 65536 < plan_masks
      at = omega (arith, place, few, tasks)

      own_last : last_before (body_of w) (tasks_of w) (region_at w i a) ≡ some i
      own_last = ap (last_before (body_of w) (tasks_of w)) writer.region ∙ last

      others : (j b q : ℕ) → (j ≡ i → b ≡ a → ⊥) → late_at w (g + 1) j b q ≡ late_at w g j b q
      others j b q n =
          late_kept j b q (λ e. false_of (wrapped_at w j b q) (λ h.
          let z : j ≡ i = some-injective j i (sym (subst (λ (x : ℕ). last_before (body_of w) (tasks_of w) x ≡ some j) e (wrapped_last w j b q h)) ∙ last) in
          n z ((F.used i writer.task).apart b a (subst (λ (x : ℕ). b < accesses_of w x) z (wrapped_foreign w j b q h).below) writer.below
          (ap (λ (x : ℕ). region_at w x b) (sym z) ∙ (e ∙ sym writer.region)))))

      ahead_mask : h ≡ mask_of (ahead_at w g)
      ahead_mask = is ∙ ahead_at_lem w g lg

      forward_mask_lem : forward_mask s h m ≡ mask_of (forward_at w i a)
      forward_mask_lem =
          ap₂ (λ (xs : List ℕ) (k : ℕ). get_or xs k 0) C.masks_are place
          ∙ (mask_at (closed_at w g) i a tasks few ∙ bits_ext 16 (closed_at w g i a) (forward_at w i a) (λ q l. closed_before i a q writer.region))

      late_mask : late s h m ≡ mask_of (wrapped_at w i a)
      late_mask =
          bits_ext 16 (λ q. (has_rank (h) q && has_rank s q) && not (has_rank (forward_mask s h m) q)) (wrapped_at w i a)
          (λ q l. and_parts
          (and_parts (mask_has (h) (ahead_at w g) ahead_mask q l) (source_has q l))
          (ap not (mask_has (forward_mask s h m) (forward_at w i a) forward_mask_lem q l))
          ∙ (ap (λ (x : ℕ). (ahead_at w x q && not (eqb q (rank_of w i))) && not (forward_at w i a q)) (sym writer.region)
          ∙ late_is w F i a q writer.task writer.below writer.writes own_last))
        where
          source_has : (q : ℕ) → q < 16 → has_rank s q ≡ not (eqb q (rank_of w i))
          source_has q l =
              ap (λ (y : ℕ). has_rank y q) writer.same
              ∙ (ap (λ (b : ℕ). eqb b 1) (source_bit i a (rank_of w i) q (F.used i writer.task).rank_most l) ∙ other (eqb q (rank_of w i)))
            where
              other : (b : Bool) → eqb (cond b 0 1) 1 ≡ not b
              other true = refl
              other false = refl

      served_mask : bit_or (forward_mask s h m) (late s h m) ≡ mask_by (closed_at w (g + 1)) i a
      served_mask =
          ap₂ bit_or forward_mask_lem late_mask
          ∙ (bits_or 16 (forward_at w i a) (wrapped_at w i a)
          ∙ bits_ext 16 (λ q. forward_at w i a q || wrapped_at w i a q) (closed_at w (g + 1) i a) (λ q l. sym (closed_after i a q writer.region)))

      -- the ranks served had no flag there
      served_count : count_below 16 (closed_at w (g + 1) i a) ≡ count_below 16 (closed_at w g i a) + ones (late s h m)
      served_count =
          count_ext 16 (closed_at w (g + 1) i a) (λ q. forward_at w i a q || wrapped_at w i a q) (λ q l. closed_after i a q writer.region)
          ∙ (count_or_apart 16 (forward_at w i a) (wrapped_at w i a) (λ q h. wrapped_not w i a q h)
          ∙ ap₂ (λ (x y : ℕ). x + y) (sym (count_ext 16 (closed_at w g i a) (forward_at w i a) (λ q l. closed_before i a q writer.region)))
          (sym (ap ones late_mask ∙ ones_bits 16 (wrapped_at w i a))))

      free : get_or v (s / 65536) 0 ≡ 0
      free =
          ap₂ (λ (xs : List ℕ) (k : ℕ). get_or xs k 0) C.wrapped_are place
          ∙ (mask_at (late_at w g) i a tasks few ∙ (bits_ext 16 (late_at w g i a) (λ _. false) (λ q l. late_before i a q writer.region) ∙ sum_const 16 0))

      closed_served : Closed w (g + 1) (closed_masks s h m) (closed_wrapped s h m v) (closed_total s h m c)
      closed_served =
          record {
            masks_are =
                closed_masks_lem s h m at
                ∙ (ap₂ (λ (xs : List ℕ) (k : ℕ). set xs k (bit_or (forward_mask s h m) (late s h m))) C.masks_are place
                ∙ masks_put (closed_at w g) (closed_at w (g + 1)) i a (bit_or (forward_mask s h m) (late s h m)) tasks few served_mask
                (λ j b q l n. ap (λ (x : Bool). forward_at w j b q || x) (others j b q n)));
            wrapped_are =
                closed_wrapped_lem s h m at v free
                ∙ (ap₂ (λ (xs : List ℕ) (k : ℕ). set xs k (late s h m)) C.wrapped_are place
                ∙ masks_put (late_at w g) (late_at w (g + 1)) i a (late s h m) tasks few
                (late_mask ∙ bits_ext 16 (wrapped_at w i a) (late_at w (g + 1) i a) (λ q l. sym (late_after i a q writer.region)))
                (λ j b q l n. others j b q n));
            count =
                closed_total_lem s h m at c
                ∙ (ap (λ (x : ℕ). x + ones (late s h m)) C.count
                ∙ sym (count_more_at (closed_at w g) (closed_at w (g + 1)) i a (ones (late s h m)) tasks few served_count
                (λ j b q _ l n. ap (λ (x : Bool). forward_at w j b q || x) (others j b q n))));
          }

    closed_region : g < regions_of w → s ≡ get_or (last_at w (tasks_of w)) g 0 → Closed w (g + 1) (closed_masks s h m) (closed_wrapped s h m v) (closed_total s h m c)
    unfolding closed_masks closed_wrapped closed_total
    closed_region l e =
        let lg : g < max_regions = omega (arith, F.regions_most) in
        go lg (last_before (body_of w) (tasks_of w) g) refl (rw e (last_named w F g l (tasks_of w) (omega arith)))
      where
        go : g < max_regions → (o : Option ℕ) → last_before (body_of w) (tasks_of w) g ≡ o → Names w g o s → Closed w (g + 1) (closed_masks s h m) (closed_wrapped s h m v) (closed_total s h m c)
        go lg none z u = rw (le-ltb (s / 65536) plan_masks (omega arith)) (closed_none_served z)
        go lg (some i) z u = closed_served i z u lg

-- the answers of a turn, by what is found on the way: n is the access that the source names

module _ (s y : ℕ) (m : List ℕ) (n : ℕ) (e : n ≡ s / 65536) where
  -- none
  module _ (l : plan_masks ≤ n) where
    pub masks_none : m ≡ closed_masks s y m
    unfolding closed_masks
    masks_none = rw (le-ltb (s / 65536) plan_masks (omega arith))

    pub wrapped_none : (v : List ℕ) → v ≡ closed_wrapped s y m v
    unfolding closed_wrapped
    wrapped_none v = rw (le-ltb (s / 65536) plan_masks (omega arith))

    pub total_none : (c : ℕ) → c ≡ closed_total s y m c
    unfolding closed_total
    total_none c = rw (le-ltb (s / 65536) plan_masks (omega arith))

  -- one, and x are the ranks that it serves
  module _ (l : n < plan_masks) (a f x : ℕ) (h : a ≡ y) (k : f ≡ get_or m n 0) (z : x ≡ late_of a s f) where
    served : (b : Bool) → not (eqb x 0) ≡ b → serves s y m ≡ b
    served b u = rw (lt-ltb (s / 65536) plan_masks (omega arith)) (rw (z, h, k, e) at u)

    pub masks_served : (m' : List ℕ) → not (eqb x 0) ≡ true → m' ≡ set m n (bit_or (get_or m n 0) x) → m' ≡ closed_masks s y m
    unfolding closed_masks
    masks_served m' u i = rw (served true u) (i ∙ rw (z, h, k, e))

    pub wrapped_served : (v v' : List ℕ) → not (eqb x 0) ≡ true → v' ≡ set v n x → v' ≡ closed_wrapped s y m v
    unfolding closed_wrapped
    wrapped_served v v' u i = rw (served true u) (i ∙ rw (z, h, k, e))

    pub total_served : (c c' : ℕ) → not (eqb x 0) ≡ true → c' ≡ c + ones x → c' ≡ closed_total s y m c
    unfolding closed_total
    total_served c c' u i = rw (served true u) (i ∙ rw (z, h, k, e))

    pub masks_kept : not (eqb x 0) ≡ false → m ≡ closed_masks s y m
    unfolding closed_masks
    masks_kept u = rw (served false u)

    pub wrapped_kept : (v : List ℕ) → not (eqb x 0) ≡ false → v ≡ closed_wrapped s y m v
    unfolding closed_wrapped
    wrapped_kept v u = rw (served false u)

    pub total_kept : (c : ℕ) → not (eqb x 0) ≡ false → c ≡ closed_total s y m c
    unfolding closed_total
    total_kept c u = rw (served false u)

-- what a region that is closed asks for

module _ (w : List ℕ) (g : ℕ) (m v : List ℕ) (c : ℕ) (C : Closed w g m v c) where
  pub closed_size : length v ≡ plan_masks
  closed_size = ap length C.wrapped_are ∙ masks_size (late_at w g)

pub regions_few : (w : List ℕ) (n : ℕ) → words_ok w ≡ true → n ≡ regions_of w → n ≤ max_regions
regions_few w n h e = omega (arith, (formed w h).regions_most)

pub region_few : (w : List ℕ) (n g : ℕ) → words_ok w ≡ true → n ≡ regions_of w → g < n → g < max_regions
region_few w n g h e l = omega (arith, (formed w h).regions_most)

-- the loop

pub closed_more : (w last ahead : List ℕ) (n g : ℕ) (m v : List ℕ) (c : ℕ) (m' v' : List ℕ) (c' : ℕ) → words_ok w ≡ true
    → last ≡ noted_tasks w (tasks_of w) (no_writers (regions_of w)) → ahead ≡ ahead_masks w → n ≡ regions_of w → g < n → Closed w g m v c
    → m' ≡ closed_masks (get_or last g 0) (get_or ahead g 0) m → v' ≡ closed_wrapped (get_or last g 0) (get_or ahead g 0) m v
    → c' ≡ closed_total (get_or last g 0) (get_or ahead g 0) m c → Closed w (g + 1) m' v' c'
closed_more w last ahead n g m v c m' v' c' h e d f l C i j k =
    rw (i, j, k)
    (closed_region w (formed w h) g m v c C (get_or last g 0) (get_or ahead g 0) (ap (λ (xs : List ℕ). get_or xs g 0) d) (omega arith) (ap (λ (xs : List ℕ). get_or xs g 0) e))
