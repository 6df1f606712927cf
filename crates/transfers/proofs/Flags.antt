-- What the flags hold after the reads of all tasks: those of the transfers that are not wrapped,
-- and of the reads ahead of a region's first writer.
use Prim.Native.Nat.{ℕ, zero, suc, ◌+◌, ◌-◌, ◌*◌, ◌/◌, ◌%◌, ◌^◌, ◌≤◌, ◌<◌}
use mathlib.Core.Path.{◌≡◌, refl, sym, ◌∙◌, ap, subst}
use mathlib.Core.Bool.{Bool, true, false, cond, not, ◌&&◌, ◌||◌, or-true, or-false, or_assoc, and-eq-true_iff}
use mathlib.Core.List.{List}
use mathlib.Core.Option.{Option, none, some}
use native.Mathlib.Omega.{arith}
use borrow.Author.Tests.{eqb-true, eqb-false, eq-eqb, ne_eqb}
use lib.Dec.{eqb}
use lib.ListN.{length, get_or, set, replicate, length-set, length-replicate, get_or-replicate}
use lib.Seq.{get_or-set_same, get_or-set_other}
use Rattle.finite.specs.Below.{any_below}
use Rattle.finite.specs.Lists.{mem}
use Rattle.finite.proofs.Tests.{test_ext, and_parts}
use Rattle.finite.proofs.Below.{any_at, any_from}
use Rattle.finite.proofs.Bits.{bits_below, bit_low, bits_at, bits_all, bits_without}
use Rattle.finite.proofs.Members.{mem_gather}
use Rattle.body.specs.Transfers.{equals, last_before, forward}
use Rattle.body.proofs.Writers.{equals_some}
use Rattle.plan.specs.Layout.{regions_of, tasks_of, rank_of, accesses_of, access_at, region_at, is_read, reads_of, body_of, access_region, reads}
use Rattle.transfers.specs.Wanted.{plan_masks, absent, ahead_at}
use Rattle.transfers.specs.Search.{row_of, base_of, unwritten, no_writers, claims, flag_of, claimed, marked, marked_tasks, plan_flags, forward_at}
use Rattle.plan.proofs.Facts.{Formed}
use Rattle.transfers.proofs.Rows.{row_at}
use Rattle.transfers.proofs.Last.{Writer, Names, last_at, last_named}
use Rattle.transfers.proofs.Foreign.{Foreign, absent_none, forward_from, forward_of}

-- the flags are those of which p holds
pub record Flags (p : ℕ → Bool) (flags : List ℕ) : Type 0 where
  pub size : length flags ≡ plan_flags
  pub each : (k : ℕ) → k < plan_flags → get_or flags k 0 ≡ cond (p k) 1 0

flags_ext : (p q : ℕ → Bool) (flags : List ℕ) → ((k : ℕ) → k < plan_flags → p k ≡ q k) → Flags p flags → Flags q flags
flags_ext p q flags h f = record { size = f.size; each = λ k l. f.each k l ∙ ap (λ (b : Bool). cond b 1 0) (h k l) }

flags_claimed : (p : ℕ → Bool) (flags : List ℕ) (reads : Bool) (s q : ℕ) → Flags p flags → Flags (λ k. p k || (claims reads s q && eqb k (flag_of s q))) (claimed reads s q flags)
unfolding claimed
flags_claimed p flags reads s q f = turn (claims reads s q)
  where
    at : (k : ℕ) → k < plan_flags → (b : Bool) → eqb k (flag_of s q) ≡ b → get_or (set flags (flag_of s q) 1) k 0 ≡ cond (p k || b) 1 0
    at k l true e =
        let z : k ≡ flag_of s q = eqb-true k (flag_of s q) e in
        subst (λ (m : ℕ). get_or (set flags m 1) k 0 ≡ cond (p k || true) 1 0) z (get_or-set_same flags k 1 0 (omega (arith, f.size)) ∙ rw (or-true (p k)))
    at k l false e = get_or-set_other flags (flag_of s q) k 1 0 (eqb-false k (flag_of s q) e) ∙ (f.each k l ∙ rw (or-false (p k)))

    turn : (b : Bool) → Flags (λ k. p k || (b && eqb k (flag_of s q))) (cond b (set flags (flag_of s q) 1) flags)
    turn true = record { size = length-set flags (flag_of s q) 1 ∙ f.size; each = λ k l. at k l (eqb k (flag_of s q)) refl }
    turn false = flags_ext p (λ k. p k || false) flags (λ k l. sym (or-false (p k))) f

-- bit q of the number of access a of task i on rank r
pub source_bit : (i a r q : ℕ) → r < 16 → q < 16 → (524288 * i + (65535 - 2 ^ r) + 65536 * a) / 2 ^ q % 2 ≡ cond (eqb q r) 0 1
source_bit i a r q l m =
    let e : 524288 * i + (65535 - 2 ^ r) + 65536 * a ≡ (8 * i + a) * 2 ^ 16 + bits_below 16 (λ j. not (eqb j r)) = omega (arith, bits_without 16 r l) in
    ap (λ (x : ℕ). x / 2 ^ q % 2) e
    ∙ (bit_low (8 * i + a) (bits_below 16 (λ j. not (eqb j r))) 16 q m
    ∙ (bits_at 16 (λ j. not (eqb j r)) q m ∙ turn (eqb q r)))
  where
    turn : (b : Bool) → ◌≡◌ {A = ℕ} (cond (not b) 1 0) (cond b 0 1)
    turn true = refl
    turn false = refl

-- and of that of a region
unwritten_bit : (g q : ℕ) → q < 16 → unwritten g / 2 ^ q % 2 ≡ 1
unwritten_bit g q m =
    let e : unwritten g ≡ (plan_masks + g) * 2 ^ 16 + bits_below 16 (λ _. true) = omega (arith, bits_all 16) in
    ap (λ (x : ℕ). x / 2 ^ q % 2) e ∙ (bit_low (plan_masks + g) (bits_below 16 (λ _. true)) 16 q m ∙ bits_at 16 (λ _. true) q m)

module _ (w : List ℕ) where
  -- the source that access n of task t finds
  abbrev found : ℕ → ℕ → ℕ
  found t n = get_or (last_at w t) (region_at w t n) 0

  -- its read sets flag k
  abbrev sets : ℕ → ℕ → ℕ → Bool
  sets t n k = claims (is_read w t n) (found t n) (rank_of w t) && eqb k (flag_of (found t n) (rank_of w t))

  -- some read of the tasks before t sets flag k
  abbrev pub set_before : ℕ → ℕ → Bool
  set_before t k = any_below t (λ j. any_below (accesses_of w j) (λ n. sets j n k))

  record Claim (t n k : ℕ) : Type 0 where
    read : is_read w t n ≡ true
    bit : found t n / 2 ^ rank_of w t % 2 ≡ 1
    flag : k ≡ flag_of (found t n) (rank_of w t)

  claim_from : (t n k : ℕ) → sets t n k ≡ true → Claim t n k
  claim_from t n k h =
      let c = (and-eq-true_iff (claims (is_read w t n) (found t n) (rank_of w t)) (eqb k (flag_of (found t n) (rank_of w t)))).0 h in
      let r = (and-eq-true_iff (is_read w t n) (eqb (found t n / 2 ^ rank_of w t % 2) 1)).0 c.0 in
      record {
        read = r.0;
        bit = eqb-true (found t n / 2 ^ rank_of w t % 2) 1 r.1;
        flag = eqb-true k (flag_of (found t n) (rank_of w t)) c.1;
      }

  claim_of : (t n k : ℕ) → t < tasks_of w → n < accesses_of w t → Claim t n k → set_before (tasks_of w) k ≡ true
  claim_of t n k lt ln c =
      any_at (λ j. any_below (accesses_of w j) (λ n. sets j n k)) (tasks_of w) t lt
      (any_at (λ n. sets t n k) (accesses_of w t) n ln
      (and_parts (and_parts c.read (eq-eqb (found t n / 2 ^ rank_of w t % 2) 1 c.bit)) (eq-eqb k (flag_of (found t n) (rank_of w t)) c.flag)))

  -- the reads of a task
  read_in : (t n : ℕ) → n < accesses_of w t → is_read w t n ≡ true → mem (region_at w t n) (reads_of w t) ≡ true
  read_in t n l e =
      mem_gather (accesses_of w t) (is_read w t) (region_at w t) (region_at w t n)
      ∙ any_at (λ k. is_read w t k && eqb (region_at w t n) (region_at w t k)) (accesses_of w t) n l (and_parts e (eq-eqb (region_at w t n) (region_at w t n) refl))

  read_from_lem : (t g : ℕ) → mem g (reads_of w t) ≡ true → (n : ℕ) × (n < accesses_of w t) × (is_read w t n ≡ true) × (g ≡ region_at w t n)
  read_from_lem t g h =
      let r = any_from (λ k. is_read w t k && eqb g (region_at w t k)) (accesses_of w t) (sym (mem_gather (accesses_of w t) (is_read w t) (region_at w t) g) ∙ h) in
      let b = (and-eq-true_iff (is_read w t r.0) (eqb g (region_at w t r.0))).0 r.2 in
      (r.0, r.1, b.0, eqb-true g (region_at w t r.0) b.1)

module _ (w : List ℕ) (F : Formed w) where
  -- marked

  flags_marked : (t : ℕ) (p : ℕ → Bool) (flags : List ℕ) → t < tasks_of w → Flags p flags → (n : ℕ) → n ≤ accesses_of w t
      → Flags (λ k. p k || any_below n (λ m. sets w t m k)) (marked (row_of w t) (last_at w t) (rank_of w t) n flags)
  unfolding marked any_below
  flags_marked t p flags l f zero m = flags_ext p (λ k. p k || false) flags (λ k u. sym (or-false (p k))) f
  flags_marked t p flags l f (suc n) m =
      let word : get_or (row_of w t) n 0 ≡ access_at w t n = row_at w t n (omega (arith, (F.used t l).accesses_most)) in
      let marks : List ℕ = marked (row_of w t) (last_at w t) (rank_of w t) n flags in
      subst (λ (x : ℕ). Flags (λ k. p k || (any_below n (λ m. sets w t m k) || sets w t n k)) (claimed (reads x) (get_or (last_at w t) (access_region x) 0) (rank_of w t) marks)) (sym word)
      (flags_ext (λ k. (p k || any_below n (λ m. sets w t m k)) || sets w t n k) (λ k. p k || (any_below n (λ m. sets w t m k) || sets w t n k))
      (claimed (is_read w t n) (found w t n) (rank_of w t) marks)
      (λ k u. or_assoc (p k) (any_below n (λ m. sets w t m k)) (sets w t n k))
      (flags_claimed (λ k. p k || any_below n (λ m. sets w t m k)) marks (is_read w t n) (found w t n) (rank_of w t) (flags_marked t p flags l f n (omega arith))))

  -- marked_tasks

  pub flags_tasks : (t : ℕ) → t ≤ tasks_of w → Flags (set_before w t) (marked_tasks w (no_writers (regions_of w)) t (replicate plan_flags 0))
  unfolding marked_tasks any_below
  flags_tasks zero l = record { size = length-replicate {A = ℕ} plan_flags 0; each = λ k u. get_or-replicate {A = ℕ} plan_flags k 0 0 u }
  flags_tasks (suc t) l =
      flags_marked t (set_before w t) (marked_tasks w (no_writers (regions_of w)) t (replicate plan_flags 0)) l (flags_tasks t (omega arith)) (accesses_of w t) (omega arith)

  -- what a source names

  source_named : (t n : ℕ) → t < tasks_of w → n < accesses_of w t → Names w (region_at w t n) (last_before (body_of w) t (region_at w t n)) (found w t n)
  source_named t n lt ln = last_named w F (region_at w t n) ((F.used t lt).region_below n ln) t (omega arith)

  -- the bit of a writer's number that task t asks for
  writer_bit : (g i s t : ℕ) (v : Writer w g i s) → t < tasks_of w → s / 2 ^ rank_of w t % 2 ≡ cond (eqb (rank_of w t) (rank_of w i)) 0 1
  writer_bit g i s t v l =
      ap (λ (x : ℕ). x / 2 ^ rank_of w t % 2) v.same ∙ source_bit i v.access (rank_of w i) (rank_of w t) (F.used i v.task).rank_most (F.used t l).rank_most

  -- the flags of accesses

  module _ (i a q : ℕ) (li : i < 128) (la : a < 8) (lq : q < 16) where
    set_forward : (t n : ℕ) → t < tasks_of w → n < accesses_of w t → sets w t n (128 * i + 16 * a + q) ≡ true → forward_at w i a q ≡ true
    unfolding forward
    set_forward t n lt ln h = go (claim_from w t n (128 * i + 16 * a + q) h) (last_before (body_of w) t (region_at w t n)) refl (source_named t n lt ln)
      where
        go : Claim w t n (128 * i + 16 * a + q) → (o : Option ℕ) → last_before (body_of w) t (region_at w t n) ≡ o → Names w (region_at w t n) o (found w t n) → forward_at w i a q ≡ true
        go c none z v = absurd (omega (arith, v, c.flag, (F.used t lt).rank_most))
        go c (some j) z v =
            let u = F.used j v.task in
            let m = F.used t lt in
            let x = v.same in
            let f = c.flag in
            let ei : i ≡ j = omega (arith, v.below, u.accesses_most, u.rank_most, m.rank_most) in
            let ea : a ≡ v.access = omega (arith, v.below, u.accesses_most, u.rank_most, m.rank_most) in
            let eq : q ≡ rank_of w t = omega (arith, v.below, u.accesses_most, u.rank_most, m.rank_most) in
            let apart : rank_of w t ≡ rank_of w j → ⊥ =
            λ y. let d : ◌≡◌ {A = ℕ} 0 1 = sym (writer_bit (region_at w t n) j (found w t n) t v lt ∙ rw (eq-eqb (rank_of w t) (rank_of w j) y)) ∙ c.bit in omega arith in
            rw (ei, ea, eq)
            (forward_of w j v.access (rank_of w t)
            (record { task = v.task; below = v.below; writes = v.writes; rank = m.rank_below; other = apart })
            (any_at (λ t'. eqb (rank_of w t') (rank_of w t) && (mem (region_at w j v.access) (reads_of w t') && equals (last_before (body_of w) t' (region_at w j v.access)) j)) (tasks_of w) t lt
            (and_parts (eq-eqb (rank_of w t) (rank_of w t) refl)
            (subst (λ (g : ℕ). (mem g (reads_of w t) && equals (last_before (body_of w) t g) j) ≡ true) (sym v.region)
            (and_parts (read_in w t n ln c.read) (ap (λ (o : Option ℕ). equals o j) z ∙ eq-eqb j j refl))))))

    forward_set : forward_at w i a q ≡ true → set_before w (tasks_of w) (128 * i + 16 * a + q) ≡ true
    unfolding forward
    forward_set h =
        let o = forward_from w i a q h in
        let r = any_from (λ t. eqb (rank_of w t) q && (mem (region_at w i a) (reads_of w t) && equals (last_before (body_of w) t (region_at w i a)) i)) (tasks_of w) o.1 in
        let p = (and-eq-true_iff (eqb (rank_of w r.0) q) _).0 r.2 in
        let x = (and-eq-true_iff (mem (region_at w i a) (reads_of w r.0)) (equals (last_before (body_of w) r.0 (region_at w i a)) i)).0 p.1 in
        let n = read_from_lem w r.0 (region_at w i a) x.0 in
        go o.0 r.0 r.1 (eqb-true (rank_of w r.0) q p.0) n.0 n.1 n.2 n.3 (equals_some (last_before (body_of w) r.0 (region_at w i a)) i x.1)
      where
        go : Foreign w i a q → (t : ℕ) → t < tasks_of w → rank_of w t ≡ q → (n : ℕ) → n < accesses_of w t → is_read w t n ≡ true → region_at w i a ≡ region_at w t n
            → last_before (body_of w) t (region_at w i a) ≡ some i → set_before w (tasks_of w) (128 * i + 16 * a + q) ≡ true
        go o t lt p n ln r z e =
            let v : Writer w (region_at w t n) i (found w t n) =
            subst (λ (o : Option ℕ). Names w (region_at w t n) o (found w t n)) (ap (last_before (body_of w) t) (sym z) ∙ e) (source_named t n lt ln) in
            let u = F.used i o.task in
            let same : v.access ≡ a = u.apart v.access a v.below o.below (v.region ∙ sym z) in
            let m : found w t n ≡ base_of w i + 65536 * a = v.same ∙ ap (λ (x : ℕ). base_of w i + 65536 * x) same in
            claim_of w t n (128 * i + 16 * a + q) lt ln
            (record {
              read = r;
              bit = writer_bit (region_at w t n) i (found w t n) t v lt ∙ rw (ne_eqb (rank_of w t) (rank_of w i) (λ y. o.other (sym p ∙ y)));
              flag = omega arith;
            })

    pub access_flag : set_before w (tasks_of w) (128 * i + 16 * a + q) ≡ forward_at w i a q
    access_flag = test_ext (set_before w (tasks_of w) (128 * i + 16 * a + q)) (forward_at w i a q) from forward_set
      where
        from : set_before w (tasks_of w) (128 * i + 16 * a + q) ≡ true → forward_at w i a q ≡ true
        from h =
            let t = any_from (λ j. any_below (accesses_of w j) (λ n. sets w j n (128 * i + 16 * a + q))) (tasks_of w) h in
            let n = any_from (λ n. sets w t.0 n (128 * i + 16 * a + q)) (accesses_of w t.0) t.2 in
            set_forward t.0 n.0 t.1 n.1 n.2

  -- and of regions

  module _ (g q : ℕ) (lq : q < 16) where
    set_ahead : (t n : ℕ) → t < tasks_of w → n < accesses_of w t → sets w t n (16 * (plan_masks + g) + q) ≡ true → ahead_at w g q ≡ true
    unfolding ahead_at
    set_ahead t n lt ln h = go (claim_from w t n (16 * (plan_masks + g) + q) h) (last_before (body_of w) t (region_at w t n)) refl (source_named t n lt ln)
      where
        go : Claim w t n (16 * (plan_masks + g) + q) → (o : Option ℕ) → last_before (body_of w) t (region_at w t n) ≡ o → Names w (region_at w t n) o (found w t n) → ahead_at w g q ≡ true
        go c none z v =
            let eg : g ≡ region_at w t n = omega (arith, v, c.flag, (F.used t lt).rank_most) in
            let eq : q ≡ rank_of w t = omega (arith, v, c.flag, (F.used t lt).rank_most) in
            any_at (λ t. eqb (rank_of w t) q && (mem g (reads_of w t) && absent (last_before (body_of w) t g))) (tasks_of w) t lt
            (and_parts (eq-eqb (rank_of w t) q (sym eq))
            (subst (λ (g : ℕ). (mem g (reads_of w t) && absent (last_before (body_of w) t g)) ≡ true) (sym eg)
            (and_parts (read_in w t n ln c.read) (ap absent z))))
        go c (some j) z v = absurd (omega (arith, v.same, v.below, v.task, F.tasks_most, (F.used j v.task).accesses_most, c.flag, (F.used t lt).rank_most))

    ahead_set : ahead_at w g q ≡ true → set_before w (tasks_of w) (16 * (plan_masks + g) + q) ≡ true
    unfolding ahead_at
    ahead_set h =
        let r = any_from (λ t. eqb (rank_of w t) q && (mem g (reads_of w t) && absent (last_before (body_of w) t g))) (tasks_of w) h in
        let p = (and-eq-true_iff (eqb (rank_of w r.0) q) _).0 r.2 in
        let x = (and-eq-true_iff (mem g (reads_of w r.0)) (absent (last_before (body_of w) r.0 g))).0 p.1 in
        let n = read_from_lem w r.0 g x.0 in
        go r.0 r.1 (eqb-true (rank_of w r.0) q p.0) n.0 n.1 n.2 n.3 (absent_none (last_before (body_of w) r.0 g) x.1)
      where
        go : (t : ℕ) → t < tasks_of w → rank_of w t ≡ q → (n : ℕ) → n < accesses_of w t → is_read w t n ≡ true → g ≡ region_at w t n
            → last_before (body_of w) t g ≡ none → set_before w (tasks_of w) (16 * (plan_masks + g) + q) ≡ true
        go t lt p n ln r z e =
            let s : found w t n ≡ unwritten (region_at w t n) =
            subst (λ (o : Option ℕ). Names w (region_at w t n) o (found w t n)) (ap (last_before (body_of w) t) (sym z) ∙ e) (source_named t n lt ln) in
            claim_of w t n (16 * (plan_masks + g) + q) lt ln
            (record {
              read = r;
              bit = ap (λ (x : ℕ). x / 2 ^ rank_of w t % 2) s ∙ unwritten_bit (region_at w t n) (rank_of w t) (F.used t lt).rank_most;
              flag = omega arith;
            })

    pub region_flag : set_before w (tasks_of w) (16 * (plan_masks + g) + q) ≡ ahead_at w g q
    region_flag = test_ext (set_before w (tasks_of w) (16 * (plan_masks + g) + q)) (ahead_at w g q) from ahead_set
      where
        from : set_before w (tasks_of w) (16 * (plan_masks + g) + q) ≡ true → ahead_at w g q ≡ true
        from h =
            let t = any_from (λ j. any_below (accesses_of w j) (λ n. sets w j n (16 * (plan_masks + g) + q))) (tasks_of w) h in
            let n = any_from (λ n. sets w t.0 n (16 * (plan_masks + g) + q)) (accesses_of w t.0) t.2 in
            set_ahead t.0 n.0 t.1 n.1 n.2
