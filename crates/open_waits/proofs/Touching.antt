-- What the chains keep: the items that have touched each place since it was last written. An item
-- touches its places one after another.
use Prim.Native.Nat.{ℕ, ◌+◌, ◌-◌, ◌*◌, ◌/◌, ◌%◌, ◌≤◌, ◌<◌}
use mathlib.Core.Path.{◌≡◌, refl, sym, ◌∙◌, ap}
use mathlib.Core.Bool.{Bool, true, false, cond, not, ◌&&◌, ◌||◌, and-true, and-false, or-false, or_assoc}
use mathlib.Core.List.{List}
use native.Mathlib.Decide.{dec_lt, ℕ_discrete}
use native.Mathlib.Numerals.{add-one}
use native.Mathlib.Omega.{arith}
use borrow.Author.Tests.{eqb-true, eq-eqb, ne_eqb, lt-ltb, le-ltb, le-leb, lt-leb}
use lib.Dec.{eqb, ltb, leb}
use lib.ListN.{length, get_or, set, length-set}
use lib.Seq.{get_or-set_same, get_or-set_other}
use Rattle.finite.specs.Below.{any_below}
use Rattle.finite.specs.Update.{update}
use Rattle.finite.proofs.Below.{any_next, any_never, any_ext, any_or, any_only}
use Rattle.finite.proofs.Update.{set_ind}
use Rattle.body.specs.Body.{Body}
use Rattle.body.specs.Items.{item_count}
use Rattle.edges.specs.Touch.{touch_on}
use Rattle.edges.specs.Tests.{written}
use Rattle.edges.proofs.Touches.{touch_most}
use Rattle.plan.specs.Limits.{max_ranks, max_regions}
use Rattle.open_waits.specs.Sources.{max_places, max_events, on_chain, is_since, since_with, hits, Links, Kept, marked, Counted, Placed, Touched}
use Rattle.open_waits.proofs.Chains.{chain_none, chain_first, chain_set}

module _ (B : Body) where
  -- since the last write

  module _ (q g c a b : ℕ) where
    abbrev T : ℕ → ℕ
    T k = touch_on B q k g

    between_none : written (item_count B) (touch_on B q) (a + 1) (a + 1 - (a + 1)) g ≡ false
    unfolding written any_below
    between_none = let z : a + 1 - (a + 1) ≡ 0 = omega arith in rw z

    between_next : b < a → written (item_count B) (touch_on B q) (b + 1) (a + 1 - (b + 1)) g ≡ (written (item_count B) (touch_on B q) (b + 1) (a - (b + 1)) g || eqb (T a) 2)
    unfolding written
    between_next l =
        let k : a + 1 - (b + 1) ≡ a - (b + 1) + 1 = omega arith in
        let e : b + 1 + (a - (b + 1)) ≡ a = omega arith in
        rw k (any_next (λ j. eqb (T (b + 1 + j)) 2) (a - (b + 1)) ∙ ap (λ (x : ℕ). any_below (a - (b + 1)) (λ j. eqb (T (b + 1 + j)) 2) || eqb (T x) 2) e)

    -- an item more
    pub since_next : is_since B q g c (a + 1) b ≡ since_with B q g c a (T a) b
    unfolding is_since since_with
    since_next =
        elim (ℕ_discrete b a) [
          | yes e ↦ rw (e, lt-ltb a (a + 1) (omega arith), eq-eqb a a refl, le-ltb a a (omega arith), between_none) (one (leb c (T a)) (not (eqb (T a) 2)))
          | no e ↦
              elim (dec_lt b a) [
                | yes l ↦ rw (lt-ltb b (a + 1) (omega arith), ne_eqb b a e, lt-ltb b a l, between_next l)
                    (turn (leb c (T b)) (written (item_count B) (touch_on B q) (b + 1) (a - (b + 1)) g) (eqb (T a) 2))
                | no l ↦ rw (le-ltb b (a + 1) (omega (arith, e)), ne_eqb b a e, le-ltb b a (omega arith)) (sym (and-false (not (eqb (T a) 2))))
              ]
        ]
      where
        one : (x y : Bool) → (x && not false) ≡ (x || (y && false))
        one true y = refl
        one false true = refl
        one false false = refl

        turn : (x w t : Bool) → (x && not (w || t)) ≡ (not t && (x && not w))
        turn true true t = sym (and-false (not t))
        turn true false true = refl
        turn true false false = refl
        turn false w t = sym (and-false (not t))

    -- item a does not touch the region, writes it, or reads it
    pub since_none : 1 ≤ c → since_with B q g c a 0 b ≡ is_since B q g c a b
    unfolding since_with
    since_none l = rw (lt-leb c 0 (omega arith), and-false (eqb b a))

    since_written : c ≤ 2 → since_with B q g c a 2 b ≡ eqb b a
    unfolding since_with
    since_written l = rw (le-leb c 2 l, and-true (eqb b a)) (or-false (eqb b a))

    since_read : since_with B q g c a 1 b ≡ ((eqb b a && leb c 1) || is_since B q g c a b)
    unfolding since_with
    since_read = refl

    -- more than any touch
    since_never : 3 ≤ c → is_since B q g c a b ≡ false
    unfolding is_since
    since_never l = rw (lt-leb c (T b) (omega (arith, touch_most B q b g))) (and-false (ltb b a))

  pub since_start : (q g c b : ℕ) → is_since B q g c 0 b ≡ false
  unfolding is_since
  since_start q g c b = rw (le-ltb b 0 (omega arith))

  -- the chains

  pub kept_ext : (a m m' : ℕ) (t u : ℕ → ℕ) (heads writers nexts : List ℕ) → ((x : ℕ) → x < max_places → t x ≡ u x) → m ≤ m' → Kept B a t m heads writers nexts → Kept B a u m' heads writers nexts
  kept_ext a m m' t u heads writers nexts f h K =
      record {
        links =
            record {
              heads_size = L.heads_size;
              writers_size = L.writers_size;
              nexts_size = L.nexts_size;
              head_most = λ x. omega (arith, L.head_most x);
              writer_most = λ x. omega (arith, L.writer_most x);
              next_most = L.next_most;
            };
        head = λ x b l. K.head x b l ∙ ap (λ (k : ℕ). since_with B (x / 128) (x % 128) 1 a k b) (f x l);
        writer = λ x b l. K.writer x b l ∙ ap (λ (k : ℕ). since_with B (x / 128) (x % 128) 2 a k b) (f x l);
      }
    where
      L : Links m heads writers nexts
      L = K.links

  -- event e, of item a, touches place x
  module _ (x e a : ℕ) (t : ℕ → ℕ) (heads writers nexts : List ℕ) (K : Kept B a t e heads writers nexts) (lx : x < max_places) (le : e < max_events) (own : e / 8 ≡ a) (new : t x ≡ 0) where
    -- `v` is put behind it
    module _ (v : ℕ) (lv : v ≤ e) where
      old : (link b : ℕ) → link ≤ e → on_chain (set nexts e v) link b ≡ on_chain nexts link b
      old link b h = chain_set nexts link b e v h

      first : (b : ℕ) → on_chain (set nexts e v) (e + 1) b ≡ (eqb b a || on_chain nexts v b)
      first b =
          let s : get_or (set nexts e v) e 0 ≡ v = get_or-set_same nexts e v 0 (omega (arith, K.links.nexts_size)) in
          rw (add-one e) (chain_first (set nexts e v) e b (omega (arith, s)) ∙ rw (own, s, old v b lv))

      -- the links at all places
      module _ (c : ℕ) (links : List ℕ) (size : length links ≡ max_places) (most : (y : ℕ) → get_or links y 0 ≤ e)
          (is : (y b : ℕ) → y < max_places → on_chain nexts (get_or links y 0) b ≡ since_with B (y / 128) (y % 128) c a (t y) b) where
        -- with the new one
        links_set : (k : ℕ) → ((b : ℕ) → (eqb b a || on_chain nexts v b) ≡ since_with B (x / 128) (x % 128) c a k b) →
            (y b : ℕ) → y < max_places → on_chain (set nexts e v) (get_or (set links x (e + 1)) y 0) b ≡ since_with B (y / 128) (y % 128) c a (update t x k y) b
        unfolding update
        links_set k h y b ly =
            elim (ℕ_discrete y x) [
              | yes z ↦ rw (z, eq-eqb x x refl, get_or-set_same links x (e + 1) 0 (omega (arith, size))) (first b ∙ h b)
              | no z ↦ rw (ne_eqb y x z, get_or-set_other links x y (e + 1) 0 z) (old (get_or links y 0) b (most y) ∙ is y b ly)
            ]

        -- as they were
        links_same : (k : ℕ) → ((b : ℕ) → since_with B (x / 128) (x % 128) c a 0 b ≡ since_with B (x / 128) (x % 128) c a k b) →
            (y b : ℕ) → y < max_places → on_chain (set nexts e v) (get_or links y 0) b ≡ since_with B (y / 128) (y % 128) c a (update t x k y) b
        unfolding update
        links_same k h y b ly =
            old (get_or links y 0) b (most y)
            ∙ (is y b ly
            ∙ elim (ℕ_discrete y x) [
              | yes z ↦ rw (z, eq-eqb x x refl, new) (h b)
              | no z ↦ rw (ne_eqb y x z)
            ])

      links_put : (writers' : List ℕ) → length writers' ≡ max_places → ((y : ℕ) → get_or writers' y 0 ≤ e + 1) → Links (e + 1) (set heads x (e + 1)) writers' (set nexts e v)
      links_put writers' size most =
          record {
            heads_size = length-set heads x (e + 1) ∙ K.links.heads_size;
            writers_size = size;
            nexts_size = length-set nexts e v ∙ K.links.nexts_size;
            head_most = λ y. set_ind (λ (k : ℕ). k ≤ e + 1) heads x y (e + 1) 0 (omega arith) (omega (arith, K.links.head_most y));
            writer_most = most;
            next_most = next;
          }
        where
          next : (d : ℕ) → get_or (set nexts e v) d 0 ≤ d
          next d =
              elim (ℕ_discrete d e) [
                | yes z ↦ rw (z, get_or-set_same nexts e v 0 (omega (arith, K.links.nexts_size))) lv
                | no z ↦ rw (get_or-set_other nexts e d v 0 z) (K.links.next_most d)
              ]

    kept_write : Kept B a (update t x 2) (e + 1) (set heads x (e + 1)) (set writers x (e + 1)) (set nexts e 0)
    kept_write =
        record {
          links = links_put 0 (omega arith) (set writers x (e + 1)) (length-set writers x (e + 1) ∙ L.writers_size)
              (λ y. set_ind (λ (k : ℕ). k ≤ e + 1) writers x y (e + 1) 0 (omega arith) (omega (arith, L.writer_most y)));
          head = links_set 0 (omega arith) 1 heads L.heads_size L.head_most K.head 2 (alone 1 (omega arith));
          writer = links_set 0 (omega arith) 2 writers L.writers_size L.writer_most K.writer 2 (alone 2 (omega arith));
        }
      where
        L : Links e heads writers nexts
        L = K.links

        alone : (c : ℕ) → c ≤ 2 → (b : ℕ) → (eqb b a || on_chain nexts 0 b) ≡ since_with B (x / 128) (x % 128) c a 2 b
        alone c l b = rw (chain_none nexts b) (or-false (eqb b a) ∙ sym (since_written (x / 128) (x % 128) c a b l))

    kept_read : Kept B a (update t x 1) (e + 1) (set heads x (e + 1)) writers (set nexts e (get_or heads x 0))
    kept_read =
        record {
          links = links_put (get_or heads x 0) (L.head_most x) writers L.writers_size (λ y. omega (arith, L.writer_most y));
          head = links_set (get_or heads x 0) (L.head_most x) 1 heads L.heads_size L.head_most K.head 1 joins;
          writer = links_same (get_or heads x 0) (L.head_most x) 2 writers L.writers_size L.writer_most K.writer 1 stays;
        }
      where
        L : Links e heads writers nexts
        L = K.links

        joins : (b : ℕ) → (eqb b a || on_chain nexts (get_or heads x 0) b) ≡ since_with B (x / 128) (x % 128) 1 a 1 b
        joins b =
            rw (K.head x b lx, new, since_none (x / 128) (x % 128) 1 a b (omega arith))
            (sym (since_read (x / 128) (x % 128) 1 a b ∙ rw (and-true (eqb b a))))

        stays : (b : ℕ) → since_with B (x / 128) (x % 128) 2 a 0 b ≡ since_with B (x / 128) (x % 128) 2 a 1 b
        stays b = since_none (x / 128) (x % 128) 2 a b (omega arith) ∙ sym (since_read (x / 128) (x % 128) 2 a b ∙ rw (and-false (eqb b a)))

  -- the items that one waits for by its places

  hits_none : (q a b : ℕ) → hits B q a (λ g. 0) b ≡ false
  unfolding hits
  hits_none q a b = any_never (λ g. is_since B q g 3 a b) 128 (λ g l. since_never q g 3 a b (omega arith))

  pub hits_ext : (q a b : ℕ) (t u : ℕ → ℕ) → ((g : ℕ) → g < max_regions → t g ≡ u g) → hits B q a t b ≡ hits B q a u b
  unfolding hits
  hits_ext q a b t u f = any_ext 128 (λ g. is_since B q g (3 - t g) a b) (λ g. is_since B q g (3 - u g) a b) (λ g l. ap (λ (k : ℕ). is_since B q g (3 - k) a b) (f g l))

  hits_more : (q a b g k : ℕ) (t : ℕ → ℕ) → g < max_regions → t g ≡ 0 → hits B q a (λ h. cond (eqb h g) k (t h)) b ≡ (hits B q a t b || is_since B q g (3 - k) a b)
  unfolding hits
  hits_more q a b g k t l z =
      any_ext 128 (λ h. is_since B q h (3 - cond (eqb h g) k (t h)) a b) (λ h. is_since B q h (3 - t h) a b || only h) (λ h m. each h (eqb h g) refl)
      ∙ (any_or 128 (λ h. is_since B q h (3 - t h) a b) only
      ∙ ap (λ (x : Bool). hits B q a t b || x) (any_only only 128 g l (λ h m n. rw (ne_eqb h g n)) ∙ rw (eq-eqb g g refl)))
    where
      only : ℕ → Bool
      only h = eqb h g && is_since B q g (3 - k) a b

      each : (h : ℕ) (s : Bool) → eqb h g ≡ s → is_since B q h (3 - cond s k (t h)) a b ≡ (is_since B q h (3 - t h) a b || (s && is_since B q g (3 - k) a b))
      each h true e = let y : h ≡ g = eqb-true h g e in rw (y, z, since_never q g 3 a b (omega arith))
      each h false e = sym (or-false (is_since B q h (3 - t h) a b))

  -- an item touches its regions

  module _ (a q mark : ℕ) (seen : List ℕ) where
    pub touched_none : (m number : ℕ) (heads writers nexts : List ℕ) → Kept B a (λ x. 0) m heads writers nexts → Counted mark seen number
        → Touched B a q (λ g. 0) m mark heads writers nexts seen seen number
    touched_none m number heads writers nexts K C =
        record {
          kept = kept_ext a m m (λ x. 0) (λ x. cond (eqb q (x / 128)) 0 0) heads writers nexts (λ x l. zero (eqb q (x / 128))) (omega arith) K;
          joined = λ b l. rw (hits_none q a b) (sym (or-false (marked mark seen b)));
          counted = C;
        }
      where
        zero : (s : Bool) → ◌≡◌ {A = ℕ} 0 (cond s 0 0)
        zero true = refl
        zero false = refl

    pub touched_ext : (t u : ℕ → ℕ) (m m' number : ℕ) (heads writers nexts seen' : List ℕ) → ((g : ℕ) → g < max_regions → t g ≡ u g) → m ≤ m'
        → Touched B a q t m mark heads writers nexts seen seen' number → Touched B a q u m' mark heads writers nexts seen seen' number
    touched_ext t u m m' number heads writers nexts seen' f h D =
        record {
          kept =
              kept_ext a m m' (λ x. cond (eqb q (x / 128)) (t (x % 128)) 0) (λ x. cond (eqb q (x / 128)) (u (x % 128)) 0) heads writers nexts
              (λ x l. ap (λ (k : ℕ). cond (eqb q (x / 128)) k 0) (f (x % 128) (omega arith))) h D.kept;
          joined = λ b l. D.joined b l ∙ ap (λ (s : Bool). marked mark seen b || s) (hits_ext q a b t u f);
          counted = D.counted;
        }

    -- region g more, by event e
    module _ (g e x : ℕ) (t : ℕ → ℕ) (writes : Bool) (heads heads' writers writers' nexts nexts' seen' seen'' : List ℕ) (number number' : ℕ)
        (lg : g < max_regions) (lq : q < max_ranks) (le : e < max_events) (own : e / 8 ≡ a) (new : t g ≡ 0) (at : x ≡ 128 * q + g)
        (D : Touched B a q t e mark heads writers nexts seen seen' number) (P : Placed x e mark writes heads heads' writers writers' nexts nexts' seen' seen'' number') where
      -- how each place is touched
      abbrev placed : ℕ → ℕ
      placed y = cond (eqb q (y / 128)) (t (y % 128)) 0

      rank_at_lem : x / 128 ≡ q
      rank_at_lem = omega arith

      region_at_lem : x % 128 ≡ g
      region_at_lem = omega arith

      fresh : placed x ≡ 0
      fresh = rw (rank_at_lem, region_at_lem, eq-eqb q q refl) new

      more : (k y : ℕ) → update placed x k y ≡ cond (eqb q (y / 128)) (cond (eqb (y % 128) g) k (t (y % 128))) 0
      unfolding update
      more k y =
          elim (ℕ_discrete y x) [
            | yes z ↦ rw (z, eq-eqb x x refl, rank_at_lem, region_at_lem, eq-eqb q q refl, eq-eqb g g refl)
            | no z ↦ rw (ne_eqb y x z) (apart z (eqb q (y / 128)) refl)
          ]
        where
          apart : (y ≡ x → ⊥) → (s : Bool) → eqb q (y / 128) ≡ s → cond s (t (y % 128)) 0 ≡ cond s (cond (eqb (y % 128) g) k (t (y % 128))) 0
          apart n true f = rw (ne_eqb (y % 128) g (λ o. n (omega (arith, eqb-true q (y / 128) f))))
          apart n false f = refl

      since_at : (c b : ℕ) → 1 ≤ c → since_with B (x / 128) (x % 128) c a (placed x) b ≡ is_since B q g c a b
      since_at c b l = rw (fresh, rank_at_lem, region_at_lem) (since_none q g c a b l)

      kept_more : (s : Bool) → Kept B a (update placed x (cond s 2 1)) (e + 1) (set heads x (e + 1)) (cond s (set writers x (e + 1)) writers) (set nexts e (cond s 0 (get_or heads x 0)))
      kept_more true = kept_write x e a placed heads writers nexts D.kept (omega arith) le own fresh
      kept_more false = kept_read x e a placed heads writers nexts D.kept (omega arith) le own fresh

      since_first : (s : Bool) (b : ℕ) → on_chain nexts (cond s (get_or heads x 0) (get_or writers x 0)) b ≡ is_since B q g (3 - cond s 2 1) a b
      since_first true b = D.kept.head x b (omega arith) ∙ since_at 1 b (omega arith)
      since_first false b = D.kept.writer x b (omega arith) ∙ since_at 2 b (omega arith)

      pub touched_more : Touched B a q (λ h. cond (eqb h g) (cond writes 2 1) (t h)) (e + 1) mark heads' writers' nexts' seen seen'' number'
      touched_more =
          record {
            kept =
                kept_ext a (e + 1) (e + 1) (update placed x (cond writes 2 1)) (λ y. cond (eqb q (y / 128)) (cond (eqb (y % 128) g) (cond writes 2 1) (t (y % 128))) 0) heads' writers' nexts'
                (λ y l. more (cond writes 2 1) y) (omega arith) (rw (P.head, P.writer, P.next) (kept_more writes));
            joined = λ b l.
                P.joined b l
                ∙ (rw (D.joined b l, since_first writes b) (or_assoc (marked mark seen b) (hits B q a t b) (is_since B q g (3 - cond writes 2 1) a b))
                ∙ ap (λ (s : Bool). marked mark seen b || s) (sym (hits_more q a b g (cond writes 2 1) t lg new)));
            counted = P.counted;
          }
