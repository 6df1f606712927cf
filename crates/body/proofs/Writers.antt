-- Last writers, sources and transfers: what their definitions mean.
use Prim.Native.Nat.{ℕ, zero, suc, ◌<◌}
use mathlib.Core.Path.{◌≡◌, refl, sym, ◌∙◌, ap, subst}
use mathlib.Core.Bool.{true, false, not, ◌&&◌, and-eq-true_iff}
use mathlib.Core.Logic.{inl, inr, ⊎_elim, ◌↔◌}
use mathlib.Core.List.{Memᴰ as In}
use mathlib.Core.Option.{Option, none, some, some-injective, none-ne-some}
use mathlib.Mathlib.Data.Option.Basic.{or_else-eq-some}
use native.Mathlib.Decide.{dec_lt}
use native.Mathlib.Omega.{arith}
use borrow.Author.Tests.{eqb-true, eqb-false, eq-eqb, ne_eqb, not-true}
use lib.Dec.{eqb}
use Rattle.finite.specs.Lists.{mem, gather}
use Rattle.finite.proofs.Tests.{true_or_false, not_both}
use Rattle.finite.proofs.Below.{below_suc, any_at, any_from}
use Rattle.finite.proofs.Members.{mem_in, in_mem, in_flat_map, in_flat_map_from}
use Rattle.finite.proofs.Lists.{in_gather, in_gather_from}
use Rattle.unroll.specs.Instances.{earlier, within}
use Rattle.unroll.proofs.Instances.{before_pass, before_item, between_same, between_next}
use Rattle.body.specs.Body.{Body}
use Rattle.body.specs.Transfers.{Transfer, transfer, equals, last_before, source, served, wanted, transferred, transfers_of}
use Rattle.body.specs.Meaning.{LastWriter, Source, Reader, IsTransfer}

pub equals_some : (o : Option ℕ) (i : ℕ) → equals o i ≡ true → o ≡ some i
equals_some none i h = absurd (not_both h refl)
equals_some (some j) i h = ap some (eqb-true j i h)

module _ (B : Body) where
  -- last_before

  pub last_wrote : (t g : ℕ) → mem g (B.writes t) ≡ true → last_before B (suc t) g ≡ some t
  unfolding last_before
  last_wrote t g h = rw h

  pub last_kept : (t g : ℕ) → mem g (B.writes t) ≡ false → last_before B (suc t) g ≡ last_before B t g
  unfolding last_before
  last_kept t g h = rw h

  pub last_some : (t g j : ℕ) → last_before B t g ≡ some j → LastWriter B t g j
  unfolding last_before
  last_some zero g j e = absurd (none-ne-some j e)
  last_some (suc t) g j e =
      ⊎_elim
      (λ m. here m (some-injective t j (sym (last_wrote t g m) ∙ e)))
      (λ m. there m (last_some t g j (sym (last_kept t g m) ∙ e)))
      (true_or_false (mem g (B.writes t)))
    where
      here : mem g (B.writes t) ≡ true → t ≡ j → LastWriter B (suc t) g j
      here m z = record { below = omega arith; writes = subst (λ (k : ℕ). mem g (B.writes k) ≡ true) z m; last = λ k u v. absurd (omega arith) }

      there : mem g (B.writes t) ≡ false → LastWriter B t g j → LastWriter B (suc t) g j
      there m h =
          record {
            below = omega (arith, h.below);
            writes = h.writes;
            last = λ k u v. below_suc (λ k. j < k → mem g (B.writes k) ≡ false) t (λ k v u. h.last k u v) (λ u. m) k v u;
          }

  some_last : (t g j : ℕ) → LastWriter B t g j → last_before B t g ≡ some j
  some_last zero g j h = absurd (omega (arith, h.below))
  some_last (suc t) g j h =
      elim (dec_lt j t) [
        | yes m ↦ last_kept t g (h.last t m (omega arith)) ∙ some_last t g j (record { below = m; writes = h.writes; last = λ k u v. h.last k u (omega arith) })
        | no m ↦ (let z : j ≡ t = omega (arith, h.below) in last_wrote t g (subst (λ (k : ℕ). mem g (B.writes k) ≡ true) z h.writes) ∙ ap some (sym z))
      ]

  pub last_writer : (t g j : ℕ) → (last_before B t g ≡ some j) ↔ LastWriter B t g j
  last_writer t g j = (last_some t g j, some_last t g j)

  pub last_none : (t g : ℕ) → last_before B t g ≡ none → (k : ℕ) → k < t → mem g (B.writes k) ≡ false
  last_none zero g e k l = absurd (omega arith)
  last_none (suc t) g e k l =
      ⊎_elim
      (λ m. absurd (none-ne-some t (sym e ∙ last_wrote t g m)))
      (λ m. below_suc (λ k. mem g (B.writes k) ≡ false) t (last_none t g (sym (last_kept t g m) ∙ e)) m k l)
      (true_or_false (mem g (B.writes t)))

  none_last : (t g : ℕ) → ((k : ℕ) → k < t → mem g (B.writes k) ≡ false) → last_before B t g ≡ none
  unfolding last_before
  none_last zero g h = refl
  none_last (suc t) g h = last_kept t g (h t (omega arith)) ∙ none_last t g (λ k l. h k (omega arith))

  pub no_writer : (t g : ℕ) → (last_before B t g ≡ none) ↔ ((k : ℕ) → k < t → mem g (B.writes k) ≡ false)
  no_writer t g = (last_none t g, none_last t g)

  -- source

  source_some : (t g j : ℕ) → t < B.tasks → source B t g ≡ some j → (p : ℕ) × Source B t g p j
  unfolding source
  source_some t g j lt e =
      ⊎_elim
      (λ h. same (last_some t g j h))
      (λ (h : (last_before B t g ≡ none) × (last_before B B.tasks g ≡ some j)). previous (last_none t g h.0) (last_some B.tasks g j h.1))
      ((or_else-eq-some (last_before B t g) (last_before B B.tasks g) j).0 e)
    where
      same : LastWriter B t g j → (p : ℕ) × Source B t g p j
      same h = (
        1,
        record {
          below = omega (arith, h.below);
          writes = h.writes;
          before = within refl h.below;
          last = λ r k lk u v. let b : (j < k) × (k < t) = between_same 1 j 1 t r k refl u v in h.last k b.0 b.1;
        },
      )

      previous : ((k : ℕ) → k < t → mem g (B.writes k) ≡ false) → LastWriter B B.tasks g j → (p : ℕ) × Source B t g p j
      previous f h = (
        0,
        record {
          below = h.below;
          writes = h.writes;
          before = earlier (omega arith);
          last = λ r k lk u v. ⊎_elim (λ (z : (0 ≡ r) × (j < k)). h.last k z.1 lk) (λ (z : (1 ≡ r) × (k < t)). f k z.1) (between_next 0 j 1 t r k (omega arith) u v);
        },
      )

  some_source : (t g j p : ℕ) → t < B.tasks → Source B t g p j → source B t g ≡ some j
  unfolding source
  some_source t g j zero lt h =
      (or_else-eq-some (last_before B t g) (last_before B B.tasks g) j).1
      (inr (
        none_last t g (λ k l. h.last 1 k (omega arith) (earlier (omega arith)) (within refl l)),
        some_last B.tasks g j (record { below = h.below; writes = h.writes; last = λ k u v. h.last 0 k v (within refl u) (earlier (omega arith)) }),
      ))
  some_source t g j (suc p) lt h =
      let e : suc p ≡ 1 = omega (arith, before_pass (suc p) j 1 t h.before) in
      (or_else-eq-some (last_before B t g) (last_before B B.tasks g) j).1
      (inl (some_last t g j (record {
        below = before_item (suc p) j 1 t h.before (omega arith);
        writes = h.writes;
        last = λ k u v. h.last (suc p) k (omega arith) (within refl u) (within e v);
      })))

  pub sources : (t g j : ℕ) → t < B.tasks → (source B t g ≡ some j) ↔ ((p : ℕ) × Source B t g p j)
  sources t g j lt = (source_some t g j lt, λ h. some_source t g j h.0 lt h.1)

  -- wanted, transferred

  pub served_reader : (i g q t : ℕ) → t < B.tasks → served B i g q t ≡ true → Reader B i g q t
  served_reader i g q t l e =
      let u = (and-eq-true_iff (eqb (B.rank t) q) (mem g (B.reads t) && equals (source B t g) i)).0 e in
      let v = (and-eq-true_iff (mem g (B.reads t)) (equals (source B t g) i)).0 u.1 in
      record { below = l; placed = eqb-true (B.rank t) q u.0; reads = v.0; sourced = equals_some (source B t g) i v.1 }

  pub reader_served : (i g q t : ℕ) → Reader B i g q t → served B i g q t ≡ true
  reader_served i g q t r = rw (r.placed, eq-eqb q q refl, r.reads, r.sourced) (eq-eqb i i refl)

  wanted_reader : (i g q : ℕ) → wanted B i g q ≡ true → (t : ℕ) × Reader B i g q t
  unfolding wanted
  wanted_reader i g q h = go (any_from (λ t. served B i g q t) B.tasks h)
    where
      go : (t : ℕ) × (t < B.tasks) × (served B i g q t ≡ true) → (t : ℕ) × Reader B i g q t
      go (t, l, e) = (t, served_reader i g q t l e)

  pub reader_wanted : (i g q t : ℕ) → Reader B i g q t → wanted B i g q ≡ true
  unfolding wanted
  reader_wanted i g q t r = any_at (λ t. served B i g q t) B.tasks t r.below (reader_served i g q t r)

  pub wanted_transferred : (i g q : ℕ) → (q ≡ B.rank i → ⊥) → wanted B i g q ≡ true → transferred B i g q ≡ true
  unfolding transferred
  wanted_transferred i g q f w = rw (ne_eqb q (B.rank i) f, w)

  transferred_from : (i g q : ℕ) → transferred B i g q ≡ true → (q ≡ B.rank i → ⊥) × (wanted B i g q ≡ true)
  unfolding transferred
  transferred_from i g q h =
      let u = (and-eq-true_iff (not (eqb q (B.rank i))) (wanted B i g q)).0 h in
      (eqb-false q (B.rank i) (not-true (eqb q (B.rank i)) u.0), u.1)

  -- transfers_of

  pub transfer_in : (i g q : ℕ) → mem g (B.writes i) ≡ true → q < B.ranks → transferred B i g q ≡ true → In (transfer i g q) (transfers_of B i)
  unfolding transfers_of
  transfer_in i g q m l h =
      in_flat_map (λ g. gather B.ranks (transferred B i g) (transfer i g)) (transfer i g q) g (B.writes i) (mem_in g (B.writes i) m)
      (in_gather B.ranks (transferred B i g) (transfer i g) q l h)

  -- what is known of a transfer of task i
  pub record Transferred (i : ℕ) (x : Transfer) : Type 0 where
    pub region : ℕ
    pub target : ℕ
    pub same : x ≡ transfer i region target
    pub written : mem region (B.writes i) ≡ true
    pub in_range : target < B.ranks
    pub holds : transferred B i region target ≡ true

  pub transfer_from : (i : ℕ) (x : Transfer) → In x (transfers_of B i) → Transferred i x
  unfolding transfers_of
  transfer_from i x h = outer (in_flat_map_from (λ g. gather B.ranks (transferred B i g) (transfer i g)) x (B.writes i) h)
    where
      inner : (g : ℕ) → In g (B.writes i) → (q : ℕ) × (q < B.ranks) × (transferred B i g q ≡ true) × (x ≡ transfer i g q) → Transferred i x
      inner g m (q, l, t, e) = record { region = g; target = q; same = e; written = in_mem g (B.writes i) m; in_range = l; holds = t }

      outer : (g : ℕ) × In g (B.writes i) × In x (gather B.ranks (transferred B i g) (transfer i g)) → Transferred i x
      outer (g, m, k) = inner g m (in_gather_from B.ranks (transferred B i g) (transfer i g) x k)

  pub is_transfer : (j i g q : ℕ) → j < B.tasks → In (transfer i g q) (transfers_of B j) → IsTransfer B i g q
  is_transfer j i g q l h = go (transfer_from j (transfer i g q) h)
    where
      go : Transferred j (transfer i g q) → IsTransfer B i g q
      go r =
          let s = r.same in
          let d : i ≡ j = cc in
          let e : g ≡ r.region = cc in
          let f : q ≡ r.target = cc in
          let t = transferred_from j r.region r.target r.holds in
          rw (d, e, f)
          (record {
            below = l;
            writes = r.written;
            in_range = r.in_range;
            other = t.0;
            reader = wanted_reader j r.region r.target t.1;
          })

  pub transfer_is : (i g q : ℕ) → IsTransfer B i g q → In (transfer i g q) (transfers_of B i)
  transfer_is i g q t = transfer_in i g q t.writes t.in_range (wanted_transferred i g q t.other (reader_wanted i g q t.reader.0 t.reader.1))
