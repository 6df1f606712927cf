-- A run of items that are passed one after another, onwards or back: a part of it that is done is
-- itself a run.
use Prim.Native.Nat.{ℕ, zero, suc, ◌+◌, ◌-◌, ◌≤◌, ◌<◌}
use mathlib.Core.Path.{◌≡◌, refl, sym, ◌∙◌, ap}
use mathlib.Core.Bool.{Bool, true, false, cond, not, ◌&&◌, ◌||◌, and-true, and-false, or-false, or_assoc, or_comm}
use mathlib.Core.List.{List}
use native.Mathlib.Decide.{dec_lt, ℕ_discrete}
use native.Mathlib.Numerals.{add-one}
use native.Mathlib.Omega.{arith}
use borrow.Author.Tests.{eq-eqb, ne_eqb, lt-leb}
use lib.Dec.{eqb, leb}
use lib.ListN.{length, get_or, set}
use Rattle.finite.specs.Below.{any_below}
use Rattle.finite.proofs.Tests.{false_of, not_both, or_parts}
use Rattle.finite.proofs.Below.{any_none, any_next, any_ext, any_at, any_from, any_never}
use Rattle.finite.proofs.Update.{set_at, length_set_if}
use Rattle.edges.specs.Tests.{written}
use Rattle.plan.specs.Limits.{max_regions}
use Rattle.walk.specs.Rows.{Places, any_open, Shut, clash, clash_left, Meets, passed, hit_at, Passes, item_passed}

-- the first number, or one above it
any_first : (p : ℕ → Bool) (n : ℕ) → any_below (suc n) p ≡ (p 0 || any_below n (λ i. p (suc i)))
unfolding any_below
any_first p zero = sym (or-false (p 0))
any_first p (suc n) = rw (any_first p n) (or_assoc (p 0) (any_below n (λ i. p (suc i))) (p (suc n)))

-- a mark that is put where `hit` holds
mark_at : (hit : Bool) (m : List ℕ) (b x : ℕ) → b < length m → get_or (cond hit (set m b 1) m) x 0 ≡ cond (hit && eqb x b) 1 (get_or m x 0)
mark_at true m b x h = set_at m b x 1 0 h
mark_at false m b x h = refl

-- a place that is closed twice
pub closed : (e w : Bool) (x : ℕ) → ◌≡◌ {A = ℕ} (cond e 0 (cond w 0 x)) (cond (e || w) 0 x)
closed true w x = refl
closed false w x = refl

-- `count` items from lo on are passed: the first of those k that are
abbrev pub first_of : ℕ → ℕ → Bool → ℕ → ℕ
first_of lo count back k = cond back (lo + (count - k)) lo

pub passed_below : (lo count k n b : ℕ) (back : Bool) → k < count → lo + count ≤ n → b ≡ item_passed lo count k back → b < n
passed_below lo count k n b true h r e = omega arith
passed_below lo count k n b false h r e = omega arith

module _ (n : ℕ) (T : ℕ → ℕ → ℕ) where
  written_none : (lo g : ℕ) → written n T lo 0 g ≡ false
  unfolding written
  written_none lo g = sym (any_none (λ j. eqb (T (lo + j) g) 2))

  written_last : (lo k g : ℕ) → written n T lo (k + 1) g ≡ (written n T lo k g || eqb (T (lo + k) g) 2)
  unfolding written
  written_last lo k g = any_next (λ j. eqb (T (lo + j) g) 2) k

  written_first : (lo k g : ℕ) → written n T lo (k + 1) g ≡ (eqb (T lo g) 2 || written n T (lo + 1) k g)
  unfolding written
  written_first lo k g =
      let z : lo + 0 ≡ lo = omega arith in
      rw (add-one k)
      (any_first (λ j. eqb (T (lo + j) g) 2) k
      ∙ rw (z, any_ext k (λ j. eqb (T (lo + suc j) g) 2) (λ j. eqb (T (lo + 1 + j) g) 2) (λ j l. same j)))
    where
      same : (j : ℕ) → eqb (T (lo + suc j) g) 2 ≡ eqb (T (lo + 1 + j) g) 2
      same j = let e : lo + suc j ≡ lo + 1 + j = omega arith in rw e

  module _ (back : Bool) where
    -- the k items from lo on, and item b after them, are the k + 1 items from lo' on
    record Next (lo k lo' b : ℕ) : Type 0 where
      writes : (g : ℕ) → written n T lo' (k + 1) g ≡ (eqb (T b g) 2 || written n T lo k g)
      before : (x g : ℕ) → lo ≤ x → x < lo + k → passed n T lo' (k + 1) back x g ≡ passed n T lo k back x g
      all : (g : ℕ) → passed n T lo' (k + 1) back b g ≡ written n T lo k g
      fresh : lo ≤ b → b < lo + k → ⊥
      from : lo' ≤ b
      to : b < lo' + (k + 1)
      rest : (x : ℕ) → lo' ≤ x → x < lo' + (k + 1) → (x ≡ b → ⊥) → (lo ≤ x) × (x < lo + k)
      part : (x : ℕ) → lo ≤ x → x < lo + k → (lo' ≤ x) × (x < lo' + (k + 1))

    module _ (lo k lo' b : ℕ) (N : Next lo k lo' b) (l l' l'' m m' m'' : List ℕ) (hit : Bool)
        (P : Passes n T lo k back l l' m m') (M : Meets (T b) l' l'' hit) (below : b < length m) (e : m'' ≡ cond hit (set m' b 1) m') where
      hit_same : (x : ℕ) → lo ≤ x → x < lo + k → hit_at n T lo k back l x ≡ hit_at n T lo' (k + 1) back l x
      unfolding hit_at
      hit_same x u v =
          any_ext max_regions (clash_left (passed n T lo k back x) l (T x)) (clash_left (passed n T lo' (k + 1) back x) l (T x))
          (λ g h. rw (N.before x g u v))

      hit_new : hit ≡ hit_at n T lo' (k + 1) back l b
      unfolding hit_at
      hit_new =
          M.hits
          ∙ any_ext max_regions (clash l' (T b)) (clash_left (passed n T lo' (k + 1) back b) l (T b))
          (λ g h. rw (P.left g h, N.all g))

      mark : (x : ℕ) → get_or m'' x 0 ≡ cond (hit && eqb x b) 1 (get_or m' x 0)
      mark x = rw e (mark_at hit m' b x (omega (arith, P.room)))

      mark_other : (x : ℕ) → (x ≡ b → ⊥) → get_or m'' x 0 ≡ get_or m' x 0
      mark_other x q = mark x ∙ rw (ne_eqb x b q, and-false hit)

      mark_new : get_or m'' b 0 ≡ cond (hit_at n T lo' (k + 1) back l b) 1 (get_or m b 0)
      mark_new = mark b ∙ rw (eq-eqb b b refl, and-true hit, P.others b N.fresh, ← hit_new)

      pass_more : Passes n T lo' (k + 1) back l l'' m m''
      pass_more =
          record {
            size = M.size;
            left = λ g h. M.left g h ∙ rw (P.left g h, N.writes g) (closed (eqb (T b g) 2) (written n T lo k g) (get_or l g 0));
            room = ap length e ∙ (length_set_if hit m' b 1 ∙ P.room);
            marked = marked;
            others = λ x f. mark_other x (λ q. f (omega (arith, N.from)) (omega (arith, N.to))) ∙ P.others x (λ u v. f (N.part x u v).0 (N.part x u v).1);
          }
        where
          marked : (x : ℕ) → lo' ≤ x → x < lo' + (k + 1) → get_or m'' x 0 ≡ cond (hit_at n T lo' (k + 1) back l x) 1 (get_or m x 0)
          marked x u v =
              elim (ℕ_discrete x b) [
                | yes q ↦ rw q mark_new
                | no q ↦ (let r = N.rest x u v q in mark_other x q ∙ (P.marked x r.0 r.1 ∙ rw (hit_same x r.0 r.1)))
              ]

  next_onwards : (lo k : ℕ) → Next false lo k lo (lo + k)
  next_onwards lo k =
      record {
        writes = λ g. written_last lo k g ∙ or_comm (written n T lo k g) (eqb (T (lo + k) g) 2);
        before = λ x g u v. refl;
        all = λ g. let e : lo + k - lo ≡ k = omega arith in rw e;
        fresh = λ u v. omega arith;
        from = omega arith;
        to = omega arith;
        rest = λ x u v q. omega arith;
        part = λ x u v. omega arith;
      }

  next_back : (b k : ℕ) → Next true (b + 1) k b b
  next_back b k =
      record {
        writes = λ g. written_first b k g;
        before = λ x g u v. let e : b + (k + 1) - (x + 1) ≡ b + 1 + k - (x + 1) = omega arith in rw e;
        all = λ g. let e : b + (k + 1) - (b + 1) ≡ k = omega arith in rw e;
        fresh = λ u v. omega arith;
        from = omega arith;
        to = omega arith;
        rest = λ x u v q. omega arith;
        part = λ x u v. omega arith;
      }

  -- an item of a wider run writes
  written_wider : (lo k lo' k' g : ℕ) → lo' ≤ lo → lo + k ≤ lo' + k' → written n T lo k g ≡ true → written n T lo' k' g ≡ true
  unfolding written
  written_wider lo k lo' k' g a b h = go (any_from (λ j. eqb (T (lo + j) g) 2) k h)
    where
      go : (j : ℕ) × (j < k) × (eqb (T (lo + j) g) 2 ≡ true) → any_below k' (λ j. eqb (T (lo' + j) g) 2) ≡ true
      go (j, l, e) =
          let z : lo' + (lo + j - lo') ≡ lo + j = omega arith in
          any_at (λ j. eqb (T (lo' + j) g) 2) k' (lo + j - lo') (omega arith) (ap (λ (x : ℕ). eqb (T x g) 2) z ∙ e)

  module _ (back : Bool) where
    -- the k items from lo' on are the first that are passed of the `count` items from lo on
    record Part (lo count lo' k : ℕ) : Type 0 where
      from : lo ≤ lo'
      to : lo' + k ≤ lo + count
      same : (x g : ℕ) → lo' ≤ x → x < lo' + k → passed n T lo' k back x g ≡ passed n T lo count back x g
      later : (x g : ℕ) → lo ≤ x → x < lo + count → (lo' ≤ x → x < lo' + k → ⊥) → written n T lo' k g ≡ true → passed n T lo count back x g ≡ true

    module _ (lo count lo' k : ℕ) (R : Part lo count lo' k) (l l' m m' : List ℕ) (P : Passes n T lo' k back l l' m m') (Z : Shut l') (few : (b g : ℕ) → T b g ≤ 2) where
      -- a place that none of them has written was not open
      not_open : (g : ℕ) → g < max_regions → written n T lo' k g ≡ false → get_or l g 0 ≡ 0
      not_open g h e = sym (P.left g h ∙ rw e) ∙ Z g h

      no_hit : (x : ℕ) → lo ≤ x → x < lo + count → (lo' ≤ x → x < lo' + k → ⊥) → hit_at n T lo count back l x ≡ false
      unfolding hit_at
      no_hit x u v f = any_never (clash_left (passed n T lo count back x) l (T x)) max_regions (λ g h. go g h (written n T lo' k g) refl)
        where
          least : (g y : ℕ) → y ≡ 0 → leb 3 (y + T x g) ≡ false
          least g y e = lt-leb 3 (y + T x g) (omega (arith, few x g))

          kept : (g : ℕ) (b : Bool) → get_or l g 0 ≡ 0 → cond b 0 (get_or l g 0) ≡ 0
          kept g true e = refl
          kept g false e = e

          go : (g : ℕ) → g < max_regions → (b : Bool) → written n T lo' k g ≡ b → leb 3 (cond (passed n T lo count back x g) 0 (get_or l g 0) + T x g) ≡ false
          go g h true e = least g (cond (passed n T lo count back x g) 0 (get_or l g 0)) (rw (R.later x g u v f e))
          go g h false e = least g (cond (passed n T lo count back x g) 0 (get_or l g 0)) (kept g (passed n T lo count back x g) (not_open g h e))

      hit_part : (x : ℕ) → lo' ≤ x → x < lo' + k → hit_at n T lo' k back l x ≡ hit_at n T lo count back l x
      unfolding hit_at
      hit_part x u v =
          any_ext max_regions (clash_left (passed n T lo' k back x) l (T x)) (clash_left (passed n T lo count back x) l (T x))
          (λ g h. rw (R.same x g u v))

      -- once no place is open the other items change nothing
      pass_shut : Passes n T lo count back l l' m m'
      pass_shut =
          record {
            size = P.size;
            left = λ g h. Z g h ∙ sym (none g h (written n T lo count g) refl);
            room = P.room;
            marked = marked;
            others = λ x f. P.others x (λ u v. f (omega (arith, R.from)) (omega (arith, R.to)));
          }
        where
          none : (g : ℕ) → g < max_regions → (b : Bool) → written n T lo count g ≡ b → cond b 0 (get_or l g 0) ≡ 0
          none g h true e = refl
          none g h false e = not_open g h (false_of (written n T lo' k g) (λ w. not_both (written_wider lo' k lo count g R.from R.to w) e))

          outside : (x : ℕ) → lo ≤ x → x < lo + count → (lo' ≤ x → x < lo' + k → ⊥) → get_or m' x 0 ≡ cond (hit_at n T lo count back l x) 1 (get_or m x 0)
          outside x u v f = P.others x f ∙ rw (no_hit x u v f)

          marked : (x : ℕ) → lo ≤ x → x < lo + count → get_or m' x 0 ≡ cond (hit_at n T lo count back l x) 1 (get_or m x 0)
          marked x u v =
              elim (dec_lt x lo') [
                | yes a ↦ outside x u v (λ c d. omega arith)
                | no a ↦ elim (dec_lt x (lo' + k)) [
                  | yes b ↦ P.marked x (omega arith) b ∙ rw (hit_part x (omega arith) b)
                  | no b ↦ outside x u v (λ c d. omega arith)
                ]
              ]

  part_onwards : (lo count k : ℕ) → k ≤ count → Part false lo count lo k
  part_onwards lo count k h =
      record {
        from = omega arith;
        to = omega arith;
        same = λ x g u v. refl;
        later = λ x g u v f w.
            elim (dec_lt x (lo + k)) [
              | yes a ↦ absurd (f u a)
              | no a ↦ written_wider lo k lo (x - lo) g (omega arith) (omega arith) w
            ];
      }

  part_back : (lo count k : ℕ) → k ≤ count → Part true lo count (lo + (count - k)) k
  part_back lo count k h =
      record {
        from = omega arith;
        to = omega arith;
        same = λ x g u v. let e : lo + (count - k) + k - (x + 1) ≡ lo + count - (x + 1) = omega arith in rw e;
        later = λ x g u v f w.
            elim (dec_lt x (lo + (count - k))) [
              | yes a ↦ written_wider (lo + (count - k)) k (x + 1) (lo + count - (x + 1)) g (omega arith) (omega arith) w
              | no a ↦ absurd (f (omega arith) (omega arith))
            ];
      }

  -- the loop
  module _ (lo count : ℕ) where
    pub run_none : (back : Bool) (l m : List ℕ) → Places l → Passes n T (first_of lo count back 0) 0 back l l m m
    run_none back l m P =
        record {
          size = P.size;
          left = λ g h. rw (written_none (first_of lo count back 0) g);
          room = refl;
          marked = λ b u v. absurd (omega arith);
          others = λ b f. refl;
        }

    pub run_more : (back : Bool) (k b : ℕ) (l l' l'' m m' m'' : List ℕ) (hit : Bool) → k < count → lo + count ≤ length m → Passes n T (first_of lo count back k) k back l l' m m'
        → b ≡ item_passed lo count k back → Meets (T b) l' l'' hit → m'' ≡ cond hit (set m' b 1) m' → Passes n T (first_of lo count back (k + 1)) (k + 1) back l l'' m m''
    run_more true k b l l' l'' m m' m'' hit h r P s M e =
        let u : lo + (count - k) ≡ b + 1 = omega arith in
        let v : lo + (count - (k + 1)) ≡ b = omega arith in
        rw v (pass_more true (b + 1) k b b (next_back b k) l l' l'' m m' m'' hit (rw u at P) M (omega arith) e)
    run_more false k b l l' l'' m m' m'' hit h r P s M e = pass_more false lo k lo (lo + k) (next_onwards lo k) l l' l'' m m' m'' hit P (rw s at M) (omega arith) (rw s at e)

    pub run_done : (back : Bool) (k : ℕ) (l l' m m' : List ℕ) → count ≤ k → k ≤ count → Passes n T (first_of lo count back k) k back l l' m m' → Passes n T lo count back l l' m m'
    run_done true k l l' m m' a b P =
        let e : k ≡ count = omega arith in
        let u : lo + (count - count) ≡ lo = omega arith in
        rw (e, u) at P
    run_done false k l l' m m' a b P = let e : k ≡ count = omega arith in rw e at P

    -- no place is open, so that no item behind would be marked
    pub run_shut : ((b g : ℕ) → T b g ≤ 2) → (back : Bool) (k : ℕ) (l l' m m' : List ℕ) → k ≤ count → Shut l'
        → Passes n T (first_of lo count back k) k back l l' m m' → Passes n T lo count back l l' m m'
    run_shut few true k l l' m m' a z P = pass_shut true lo count (lo + (count - k)) k (part_back lo count k a) l l' m m' P z few
    run_shut few false k l l' m m' a z P = pass_shut false lo count lo k (part_onwards lo count k a) l l' m m' P z few

-- no place of the list is open
pub shut_all : (l : List ℕ) → any_open l ≡ false → Shut l
unfolding any_open
shut_all l e g h =
    elim (ℕ_discrete (get_or l g 0) 0) [
      | yes z ↦ z
      | no z ↦ absurd (not_both (any_at (λ g. not (eqb (get_or l g 0) 0)) max_regions g h (rw (ne_eqb (get_or l g 0) 0 z))) e)
    ]

-- after an item is passed, where no place may be open
pub shut_after : (l : List ℕ) (hit left : Bool) → left ≡ (not hit || any_open l) → left ≡ false → Shut l
shut_after l hit left h e = shut_all l (or_parts (not hit) (any_open l) (sym h ∙ e)).1
