-- The marks of a walk round the loop from item a are its edges: those by copies, and with them its
-- own and that of its transfer.
use Prim.Native.Nat.{ℕ, suc, ◌+◌, ◌-◌, ◌≤◌, ◌<◌}
use mathlib.Core.Path.{◌≡◌, refl, sym, ◌∙◌, ap, subst}
use mathlib.Core.Bool.{Bool, true, false, cond, not, ◌&&◌, ◌||◌, and-true, and-false, or-false, or-true, or_comm}
use mathlib.Core.Logic.{⊎_elim}
use mathlib.Core.List.{List}
use native.Mathlib.Decide.{dec_lt, ℕ_discrete}
use native.Mathlib.Nat.{add_comm}
use native.Mathlib.Omega.{arith}
use borrow.Author.Tests.{eqb-true, eq-eqb, ne_eqb, lt-ltb, le-ltb, lt-leb}
use lib.Dec.{eqb, leb}
use lib.ListN.{length, get_or, set, replicate, length-set, length-replicate, get_or-replicate}
use Rattle.finite.specs.Below.{any_below}
use Rattle.finite.proofs.Below.{any_never, any_ext}
use Rattle.finite.proofs.Tests.{and-true as both_true, or_cases, test_ext}
use Rattle.finite.proofs.Update.{set_at}
use Rattle.body.specs.Body.{Body, Fits}
use Rattle.body.specs.Items.{item_count, item_at}
use Rattle.body.proofs.Accessed.{send_kind, receive_kind}
use Rattle.edges.specs.Touch.{touch, touch_on}
use Rattle.edges.specs.Tests.{written, written_between, crossed, kind_at, rank_at, paired, copy_edge, edge_test}
use Rattle.edges.proofs.Touches.{touch_most}
use Rattle.plan.specs.Limits.{max_regions}
use Rattle.plan.specs.Sizes.{max_items}
use Rattle.plan.specs.Layout.{body_of}
use Rattle.plan.specs.Code.{code_kind}
use Rattle.graph.specs.Table.{Graph}
use Rattle.graph.proofs.Lookup.{body_fits, code_kind_lem}
use Rattle.walk.specs.Rows.{Places, Touches, clash_left, passed, hit_at, Passes, CopyMarks, Marks, partner_of}
use Rattle.walk.proofs.Meeting.{places_of, most_left}
use Rattle.walk.proofs.Runs.{closed}

-- of two that touch a place as t and u say, one writes it, and it is open
cross : (W : Bool) (t u : ℕ) → u ≤ 2 → leb 3 (cond W 0 t + u) ≡ (leb 3 (t + u) && not W)
cross true t u h = lt-leb 3 (0 + u) (omega arith) ∙ sym (and-false (leb 3 (t + u)))
cross false t u h = sym (and-true (leb 3 (t + u)))

module _ (n : ℕ) (T : ℕ → ℕ → ℕ) where
  between_later : (a b g : ℕ) → a < b → written_between n T a b g ≡ written n T (a + 1) (b - (a + 1)) g
  unfolding written_between
  between_later a b g h = rw (lt-ltb a b h)

  between_round : (a b g : ℕ) → b ≤ a → written_between n T a b g ≡ (written n T (a + 1) (n - (a + 1)) g || written n T 0 b g)
  unfolding written_between
  between_round a b g h = rw (le-ltb a b h)

  -- what is passed stays a list of places
  pub passes_places : (lo count : ℕ) (back : Bool) (l l' m m' : List ℕ) → Places l → Passes n T lo count back l l' m m' → Places l'
  passes_places lo count back l l' m m' Q P = places_of l' P.size (λ g h. rw (P.left g h) (most_left l g (written n T lo count g) Q))

-- two runs of a walk, one after the other: the mark of an item of the first, and of an item of the
-- second
module _ (n : ℕ) (T : ℕ → ℕ → ℕ) (lo count lo' count' : ℕ) (back : Bool) (l l' l'' m m' m'' : List ℕ)
    (P : Passes n T lo count back l l' m m') (Q : Passes n T lo' count' back l' l'' m' m'') (b : ℕ) (edge : Bool) where
  marks_first : lo ≤ b → b < lo + count → (lo' ≤ b → b < lo' + count' → ⊥) → any_below max_regions (clash_left (passed n T lo count back b) l (T b)) ≡ edge
      → get_or m'' b 0 ≡ cond edge 1 (get_or m b 0)
  unfolding hit_at
  marks_first u v f e = Q.others b f ∙ (P.marked b u v ∙ rw e)

  marks_second : lo' ≤ b → b < lo' + count' → (lo ≤ b → b < lo + count → ⊥)
      → any_below max_regions (clash_left (λ g. passed n T lo' count' back b g || written n T lo count g) l (T b)) ≡ edge → get_or m'' b 0 ≡ cond edge 1 (get_or m b 0)
  unfolding hit_at
  marks_second u v f e =
      let hit = any_ext max_regions (clash_left (passed n T lo' count' back b) l' (T b))
      (clash_left (λ g. passed n T lo' count' back b g || written n T lo count g) l (T b))
      (λ g h. rw (P.left g h, closed (passed n T lo' count' back b g) (written n T lo count g) (get_or l g 0))) in
      Q.marked b u v ∙ rw (P.others b f, hit, e)

-- how item b touches the copies of the rank of item a
abbrev touch_from : Body → ℕ → ℕ → ℕ → ℕ
touch_from B a b = touch_on B (rank_at B a) b

module _ (B : Body) where
  pub own_touch : (a g : ℕ) → touch_from B a a g ≡ touch B (item_at B a) g
  unfolding touch_on
  own_touch a g = rw (eq-eqb (rank_at B a) (rank_at B a) refl)

  pub other_touch : (q a g : ℕ) → (rank_at B a ≡ q → ⊥) → touch_on B q a g ≡ 0
  unfolding touch_on
  other_touch q a g h = rw (ne_eqb (rank_at B a) q h)

  module _ (a : ℕ) (l : List ℕ) (t : Touches (touch B (item_at B a)) l) where
    open_touch : (g : ℕ) → g < max_regions → get_or l g 0 ≡ touch_from B a a g
    open_touch g h = t.each g h ∙ sym (own_touch a g)

    pub touches_places : Places l
    touches_places = places_of l t.size (λ g h. rw (open_touch g h) (touch_most B (rank_at B a) a g))

    -- the items between a and b have closed the places for which S holds
    module _ (b : ℕ) (S : ℕ → Bool) where
      copy_onwards : ((g : ℕ) → S g ≡ written_between (item_count B) (touch_from B a) a b g) → any_below max_regions (clash_left S l (touch_from B a b)) ≡ copy_edge B a b
      unfolding copy_edge crossed
      copy_onwards f =
          any_ext max_regions (clash_left S l (touch_from B a b)) (crossed (item_count B) (touch_from B a) a b)
          (λ g h. cross (S g) (get_or l g 0) (touch_from B a b g) (touch_most B (rank_at B a) b g) ∙ rw (open_touch g h, f g))

      copy_back : ((g : ℕ) → S g ≡ written_between (item_count B) (touch_from B a) b a g) → any_below max_regions (clash_left S l (touch_from B a b)) ≡ copy_edge B b a
      unfolding copy_edge crossed
      copy_back f =
          elim (ℕ_discrete (rank_at B b) (rank_at B a)) [
            | yes e ↦ rw e
                (any_ext max_regions (clash_left S l (touch_from B a b)) (crossed (item_count B) (touch_from B a) b a)
                (λ g h. cross (S g) (get_or l g 0) (touch_from B a b g) (touch_most B (rank_at B a) b g)
                ∙ rw (open_touch g h, f g, add_comm (touch_from B a a g) (touch_from B a b g))))
            | no e ↦
                any_never (clash_left S l (touch_from B a b)) max_regions
                (λ g h. cross (S g) (get_or l g 0) (touch_from B a b g) (touch_most B (rank_at B a) b g) ∙ rw (alone g e))
                ∙ sym (any_never (crossed (item_count B) (touch_from B b) b a) max_regions (λ g h. rw (apart g e)))
          ]
        where
          alone : (g : ℕ) → (rank_at B b ≡ rank_at B a → ⊥) → leb 3 (get_or l g 0 + touch_from B a b g) ≡ false
          alone g e = lt-leb 3 (get_or l g 0 + touch_from B a b g) (omega (arith, touches_places.most g, other_touch (rank_at B a) b g e))

          apart : (g : ℕ) → (rank_at B b ≡ rank_at B a → ⊥) → leb 3 (touch_from B b b g + touch_from B b a g) ≡ false
          apart g e =
              lt-leb 3 (touch_from B b b g + touch_from B b a g)
              (omega (arith, touch_most B (rank_at B b) b g, other_touch (rank_at B b) a g (λ z. e (sym z))))

    -- the two runs of a walk, seen at item b
    module _ (l' l'' m m' m'' : List ℕ) (b : ℕ) (below : b < item_count B) (ne : b ≡ a → ⊥) where
      marks_onwards : Passes (item_count B) (touch_from B a) (a + 1) (item_count B - (a + 1)) false l l' m m' → Passes (item_count B) (touch_from B a) 0 a false l' l'' m' m''
          → get_or m'' b 0 ≡ cond (copy_edge B a b) 1 (get_or m b 0)
      marks_onwards P Q =
          elim (dec_lt a b) [
            | yes k ↦
                marks_first n T (a + 1) (n - (a + 1)) 0 a false l l' l'' m m' m'' P Q b (copy_edge B a b) (omega arith) (omega arith) (λ u v. omega arith)
                (copy_onwards b (passed n T (a + 1) (n - (a + 1)) false b) (λ g. sym (between_later n T a b g k)))
            | no k ↦
                marks_second n T (a + 1) (n - (a + 1)) 0 a false l l' l'' m m' m'' P Q b (copy_edge B a b) (omega arith) (omega arith) (λ u v. omega arith)
                (copy_onwards b (λ g. passed n T 0 a false b g || written n T (a + 1) (n - (a + 1)) g) (λ g. round g (omega arith)))
          ]
        where
          n : ℕ
          n = item_count B

          T : ℕ → ℕ → ℕ
          T = touch_from B a

          round : (g : ℕ) → b < a → (written n T 0 (b - 0) g || written n T (a + 1) (n - (a + 1)) g) ≡ written_between n T a b g
          round g u =
              let z : b - 0 ≡ b = omega arith in
              rw z (or_comm (written n T 0 b g) (written n T (a + 1) (n - (a + 1)) g) ∙ sym (between_round n T a b g (omega arith)))

      marks_back : Passes (item_count B) (touch_from B a) 0 a true l l' m m' → Passes (item_count B) (touch_from B a) (a + 1) (item_count B - (a + 1)) true l' l'' m' m''
          → get_or m'' b 0 ≡ cond (copy_edge B b a) 1 (get_or m b 0)
      marks_back P Q =
          elim (dec_lt a b) [
            | yes k ↦
                marks_second n T 0 a (a + 1) (n - (a + 1)) true l l' l'' m m' m'' P Q b (copy_edge B b a) (omega arith) (omega arith) (λ u v. omega arith)
                (copy_back b (λ g. passed n T (a + 1) (n - (a + 1)) true b g || written n T 0 a g) (λ g. round g k))
            | no k ↦
                marks_first n T 0 a (a + 1) (n - (a + 1)) true l l' l'' m m' m'' P Q b (copy_edge B b a) (omega arith) (omega arith) (λ u v. omega arith)
                (copy_back b (passed n T 0 a true b) (λ g. between g (omega arith)))
          ]
        where
          n : ℕ
          n = item_count B

          T : ℕ → ℕ → ℕ
          T = touch_from B a

          between : (g : ℕ) → b < a → written n T (b + 1) (0 + a - (b + 1)) g ≡ written_between n T b a g
          between g u = let z : 0 + a - (b + 1) ≡ a - (b + 1) = omega arith in rw z (sym (between_later n T b a g u))

          round : (g : ℕ) → a < b → (written n T (b + 1) (a + 1 + (n - (a + 1)) - (b + 1)) g || written n T 0 a g) ≡ written_between n T b a g
          round g u =
              let z : a + 1 + (n - (a + 1)) - (b + 1) ≡ n - (b + 1) = omega arith in
              rw z (sym (between_round n T b a g (omega arith)))

-- the walk from item a of n, whose rank is q
module _ (B : Body) (n a q : ℕ) (count : n ≡ item_count B) (rank : q ≡ rank_at B a) (l l' l'' m m' m'' : List ℕ) (t : Touches (touch B (item_at B a)) l) (back : Bool) where
  pub copies_onwards : a < n → back ≡ false → Passes n (touch_on B q) (a + 1) (n - (a + 1)) false l l' m m' → Passes n (touch_on B q) 0 a false l' l'' m' m'' → CopyMarks B n a back m m''
  copies_onwards la e P Q =
      record {
        room = Q.room ∙ P.room;
        each = λ b h ne. rw e (marks_onwards B a l t l' l'' m m' m'' b (omega arith) ne (rw (count, rank) at P) (rw (count, rank) at Q));
        own = Q.others a (λ u v. omega arith) ∙ P.others a (λ u v. omega arith);
        behind = λ b h. Q.others b (λ u v. omega arith) ∙ P.others b (λ u v. omega arith);
      }

  pub copies_back : a < n → back ≡ true → Passes n (touch_on B q) 0 a true l l' m m' → Passes n (touch_on B q) (a + 1) (n - (a + 1)) true l' l'' m' m'' → CopyMarks B n a back m m''
  copies_back la e P Q =
      record {
        room = Q.room ∙ P.room;
        each = λ b h ne. rw e (marks_back B a l t l' l'' m m' m'' b (omega arith) ne (rw (count, rank) at P) (rw (count, rank) at Q));
        own = Q.others a (λ u v. omega arith) ∙ P.others a (λ u v. omega arith);
        behind = λ b h. Q.others b (λ u v. omega arith) ∙ P.others b (λ u v. omega arith);
      }

-- an item of kind k at a has its partner at b
pair_partner : (k a b : ℕ) → (k ≡ 2 → 1 ≤ a) → (b ≡ a → ⊥) → ((eqb k 1 && eqb b (a + 1)) || (eqb k 2 && eqb a (b + 1))) ≡ eqb b (partner_of k a)
pair_partner k a b h ne =
    elim (ℕ_discrete k 1) [
      | yes e ↦ rw e (or-false (eqb b (a + 1)))
      | no e ↦
          elim (ℕ_discrete k 2) [
            | yes f ↦ rw f (test_ext (eqb a (b + 1)) (eqb b (a - 1)) (λ t. eq-eqb b (a - 1) (omega (arith, eqb-true a (b + 1) t))) (λ t. eq-eqb a (b + 1) (omega (arith, h f, eqb-true b (a - 1) t))))
            | no f ↦ rw (ne_eqb k 1 e, ne_eqb k 2 f) (sym (ne_eqb b a ne))
          ]
    ]

module _ (B : Body) (F : Fits B) where
  -- what pairs a with b pairs b with a
  pair_other : (a b : ℕ) → a < item_count B → paired B a b ≡ true → paired B b a ≡ true
  unfolding paired
  pair_other a b la h =
      ⊎_elim
      (λ t. let r = both_true (eqb (kind_at B a) 1) (eqb b (a + 1)) t in to_receive (eqb-true (kind_at B a) 1 r.0) (eqb-true b (a + 1) r.1))
      (λ t. let r = both_true (eqb (kind_at B a) 2) (eqb a (b + 1)) t in to_send (eqb-true (kind_at B a) 2 r.0) (eqb-true a (b + 1) r.1))
      (or_cases (eqb (kind_at B a) 1 && eqb b (a + 1)) (eqb (kind_at B a) 2 && eqb a (b + 1)) h)
    where
      to_receive : kind_at B a ≡ 1 → b ≡ a + 1 → paired B b a ≡ true
      to_receive k e =
          let s : suc a ≡ b = omega arith in
          let m : kind_at B b ≡ 2 = subst (λ (z : ℕ). kind_at B z ≡ 2) s (send_kind B F a la k).1 in
          rw (eq-eqb (kind_at B b) 2 m, eq-eqb b (a + 1) e) (or-true (eqb (kind_at B b) 1 && eqb a (b + 1)))

      to_send : kind_at B a ≡ 2 → a ≡ b + 1 → paired B b a ≡ true
      to_send k e =
          let r = receive_kind B F a la k in
          let j : r.0 ≡ b = omega (arith, r.1) in
          let m : kind_at B b ≡ 1 = subst (λ (z : ℕ). kind_at B z ≡ 1) j r.2 in
          rw (eq-eqb (kind_at B b) 1 m, eq-eqb a (b + 1) e)

  pair_swap : (a b : ℕ) → a < item_count B → b < item_count B → paired B b a ≡ paired B a b
  pair_swap a b la lb = test_ext (paired B b a) (paired B a b) (pair_other b a lb) (pair_other a b la)

  module _ (a : ℕ) (la : a < item_count B) where
    receive_above : kind_at B a ≡ 2 → 1 ≤ a
    receive_above k = omega (arith, (receive_kind B F a la k).1)

    partner_within : partner_of (kind_at B a) a < item_count B
    partner_within =
        elim (ℕ_discrete (kind_at B a) 1) [
          | yes e ↦ (let u = (send_kind B F a la e).0 in rw e (omega arith))
          | no e ↦
              elim (ℕ_discrete (kind_at B a) 2) [
                | yes f ↦ rw f (omega arith)
                | no f ↦ rw (ne_eqb (kind_at B a) 1 e, ne_eqb (kind_at B a) 2 f) la
              ]
        ]

    paired_partner : (b : ℕ) → (b ≡ a → ⊥) → paired B a b ≡ eqb b (partner_of (kind_at B a) a)
    unfolding paired
    paired_partner b ne = pair_partner (kind_at B a) a b receive_above ne

    -- the test of another item than a, by the mark of the partner and that of copies
    pub test_other : (back : Bool) (b : ℕ) → b < item_count B → (b ≡ a → ⊥) →
        cond back (edge_test B b a) (edge_test B a b) ≡ (eqb b (partner_of (kind_at B a) a) || cond back (copy_edge B b a) (copy_edge B a b))
    unfolding edge_test
    test_other true b lb ne = rw (ne_eqb b a ne, pair_swap a b la lb, paired_partner b ne)
    test_other false b lb ne = rw (ne_eqb a b (λ e. ne (sym e)), paired_partner b ne)

    test_own : (back : Bool) → cond back (edge_test B a a) (edge_test B a a) ≡ true
    unfolding edge_test
    test_own true = rw (eq-eqb a a refl)
    test_own false = rw (eq-eqb a a refl)

pub zeros_length : (n : ℕ) (l : List ℕ) → l ≡ replicate n 0 → length l ≡ n
zeros_length n l e = ap length e ∙ length-replicate {A = ℕ} n 0

-- the row of item a, by its number in the table
module _ (w items : List ℕ) (n : ℕ) (G : Graph w items n) (a : ℕ) (below : a < n) (code kind : ℕ) (e : code ≡ get_or items a 0) (f : kind ≡ code_kind code) where
  within : a < item_count (body_of w)
  within = omega (arith, G.count)

  known : kind ≡ kind_at (body_of w) a
  known = f ∙ code_kind_lem w items n G a below code e

  pub row_receive : kind ≡ 2 → 1 ≤ a
  row_receive k = receive_above (body_of w) (body_fits w items n G) a within (sym known ∙ k)

  pub row_partner : (p : ℕ) → p ≡ partner_of kind a → p < n
  row_partner p s = omega (arith, s, ap (λ (z : ℕ). partner_of z a) known, G.count, partner_within (body_of w) (body_fits w items n G) a within)

  pub row_marks : (back : Bool) (m m' : List ℕ) (p : ℕ) → m ≡ replicate max_items 0 → CopyMarks (body_of w) n a back m m' → p ≡ partner_of kind a
      → Marks (body_of w) n a back (set (set m' a 1) p 1)
  row_marks back m m' p z M s =
      record {
        room = length-set (set m' a 1) p 1 ∙ (length-set m' a 1 ∙ long);
        each = λ b h. seen b ∙ elim (ℕ_discrete b a) [ yes q ↦ own b q | no q ↦ other b h q ];
        behind = λ b h r.
            seen b
            ∙ rw (ne_eqb b p (λ q. omega (arith, row_partner p s)), ne_eqb b a (λ q. omega arith), M.behind b h, z) (get_or-replicate {A = ℕ} max_items b 0 0 r);
      }
    where
      B : Body
      B = body_of w

      long : length m' ≡ max_items
      long = M.room ∙ zeros_length max_items m z

      k : p ≡ partner_of (kind_at B a) a
      k = s ∙ ap (λ (z : ℕ). partner_of z a) known

      seen : (b : ℕ) → get_or (set (set m' a 1) p 1) b 0 ≡ cond (eqb b p) 1 (cond (eqb b a) 1 (get_or m' b 0))
      seen b =
          set_at (set m' a 1) p b 1 0 (omega (arith, length-set m' a 1, long, row_partner p s, G.most))
          ∙ ap (λ (x : ℕ). cond (eqb b p) 1 x) (set_at m' a b 1 0 (omega (arith, long, G.most)))

      twice : (t : Bool) → ◌≡◌ {A = ℕ} (cond t 1 1) 1
      twice true = refl
      twice false = refl

      own : (b : ℕ) → b ≡ a → ◌≡◌ {A = ℕ} (cond (eqb b p) 1 (cond (eqb b a) 1 (get_or m' b 0))) (cond (cond back (edge_test B b a) (edge_test B a b)) 1 0)
      own b q = rw (q, eq-eqb a a refl, test_own B (body_fits w items n G) a within back) (twice (eqb a p))

      joined : (t u : Bool) → ◌≡◌ {A = ℕ} (cond t 1 (cond u 1 0)) (cond (t || u) 1 0)
      joined true u = refl
      joined false u = refl

      other : (b : ℕ) → b < n → (b ≡ a → ⊥) → ◌≡◌ {A = ℕ} (cond (eqb b p) 1 (cond (eqb b a) 1 (get_or m' b 0))) (cond (cond back (edge_test B b a) (edge_test B a b)) 1 0)
      other b h q =
          rw (
            ne_eqb b a q,
            M.each b h q,
            z,
            get_or-replicate {A = ℕ} max_items b 0 0 (omega (arith, G.most)),
            k,
            test_other B (body_fits w items n G) a within back b (omega (arith, G.count)) q,
          )
          (joined (eqb b (partner_of (kind_at B a) a)) (cond back (copy_edge B b a) (copy_edge B a b)))
