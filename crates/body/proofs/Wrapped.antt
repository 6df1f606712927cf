-- Wrapped transfers, and the passes of items.
use Prim.Native.Nat.{ℕ, ◌-◌, ◌≤◌, ◌<◌}
use mathlib.Core.Path.{◌≡◌, refl, sym, ◌∙◌, ap}
use mathlib.Core.Bool.{Bool, true, false, not, ◌&&◌, ◌||◌, and_assoc}
use mathlib.Core.Logic.{◌⊎◌, inl, inr, ⊎_elim, ◌↔◌}
use mathlib.Core.Option.{some, some-injective}
use mathlib.Mathlib.Data.Option.Basic.{or_else-eq-some}
use native.Mathlib.Decide.{dec_lt}
use native.Mathlib.Omega.{arith}
use borrow.Author.Tests.{eq-eqb, leb-true, le-leb, lt-leb, ltb-true, lt-ltb, le-ltb}
use lib.Dec.{eqb, ltb, leb}
use Rattle.finite.specs.Lists.{mem}
use Rattle.finite.proofs.Tests.{not_both, false_of, and-true, or_right, test_ext}
use Rattle.finite.proofs.Below.{all_at, all_of, all_ext, all_not, any_from, one_at_most}
use Rattle.body.specs.Body.{Body}
use Rattle.body.specs.Transfers.{equals, last_before, source, served, wanted, wrapped, forward}
use Rattle.body.specs.Items.{Item, task, send, receive, fewer, own_passes}
use Rattle.body.specs.Meaning.{LastWriter, Reader, IsTransfer, Wrapped}
use Rattle.body.proofs.Writers.{equals_some, last_writer, last_some, last_none, reader_served, served_reader, reader_wanted}

module _ (B : Body) where
  wrapped_from : (i g q : ℕ) → wrapped B i g q ≡ true → Wrapped B i g q
  unfolding wrapped
  wrapped_from i g q w t r =
      leb-true t i (or_right (not (served B i g q t)) (leb t i) (all_at (λ t. not (served B i g q t) || leb t i) B.tasks t w r.below) (ap not (reader_served B i g q t r)))

  wrapped_of : (i g q : ℕ) → Wrapped B i g q → wrapped B i g q ≡ true
  unfolding wrapped
  wrapped_of i g q f = all_of (λ t. not (served B i g q t) || leb t i) B.tasks (λ t l. one t l (served B i g q t) refl)
    where
      one : (t : ℕ) → t < B.tasks → (b : Bool) → served B i g q t ≡ b → (not b || leb t i) ≡ true
      one t l true e = le-leb t i (f t (served_reader B i g q t l e))
      one t l false e = refl

  pub wraps : (i g q : ℕ) → (wrapped B i g q ≡ true) ↔ Wrapped B i g q
  wraps i g q = (wrapped_from i g q, wrapped_of i g q)

  -- a read finds its source in its own pass exactly if it stands behind it
  own_pass : (i g t : ℕ) → equals (last_before B t g) i ≡ (equals (source B t g) i && ltb i t)
  unfolding source
  own_pass i g t =
      test_ext (equals (last_before B t g) i) (equals (source B t g) i && ltb i t)
      (λ e. to (equals_some (last_before B t g) i e))
      (λ e. let u = and-true (equals (source B t g) i) (ltb i t) e in from (equals_some (source B t g) i u.0) (ltb-true i t u.1))
    where
      to : last_before B t g ≡ some i → (equals (source B t g) i && ltb i t) ≡ true
      to e = rw ((or_else-eq-some (last_before B t g) (last_before B B.tasks g) i).1 (inl e), eq-eqb i i refl) (lt-ltb i t (last_some B t g i e).below)

      from : source B t g ≡ some i → i < t → equals (last_before B t g) i ≡ true
      from e l =
          ⊎_elim
          (λ (h : last_before B t g ≡ some i). rw h (eq-eqb i i refl))
          (λ h. absurd (not_both (last_some B B.tasks g i h.1).writes (last_none B t g h.0 i l)))
          ((or_else-eq-some (last_before B t g) (last_before B B.tasks g) i).0 e)

  -- a read that a transfer serves in the pass of its writer
  abbrev ahead : ℕ → ℕ → ℕ → ℕ → Bool
  ahead i g q t = eqb (B.rank t) q && (mem g (B.reads t) && equals (last_before B t g) i)

  ahead_served : (i g q t : ℕ) → ahead i g q t ≡ (served B i g q t && ltb i t)
  ahead_served i g q t =
      rw (own_pass i g t, and_assoc (eqb (B.rank t) q) (mem g (B.reads t) && equals (source B t g) i) (ltb i t))
      (rw (and_assoc (mem g (B.reads t)) (equals (source B t g) i) (ltb i t)))

  -- a transfer is wrapped exactly if no read finds its writer in its own pass
  pub wrapped_forward : (i g q : ℕ) → wrapped B i g q ≡ not (forward B i g q)
  unfolding wrapped forward
  wrapped_forward i g q =
      all_ext B.tasks (λ t. not (served B i g q t) || leb t i) (λ t. not (ahead i g q t)) (λ t l. rw (ahead_served i g q t) (one t (served B i g q t)))
      ∙ all_not B.tasks (ahead i g q)
    where
      one : (t : ℕ) (b : Bool) → (not b || leb t i) ≡ not (b && ltb i t)
      one t false = refl
      one t true =
          elim (dec_lt i t) [
            | yes l ↦ rw (lt-leb t i l, lt-ltb i t l)
            | no l ↦ (let m : t ≤ i = omega arith in rw (le-leb t i m, le-ltb i t m))
          ]

  pub forward_wanted : (i g q : ℕ) → forward B i g q ≡ true → wanted B i g q ≡ true
  unfolding forward
  forward_wanted i g q e =
      let r = any_from (ahead i g q) B.tasks e in
      let u = and-true (served B i g q r.0) (ltb i r.0) (sym (ahead_served i g q r.0) ∙ r.2) in
      reader_wanted B i g q r.0 (served_reader B i g q r.0 r.1 u.0)

  -- the passes of items

  pub passes_wrapped : (i g q : ℕ) (x : Item) → (x ≡ send i g q) ⊎ (x ≡ receive i g q) → wrapped B i g q ≡ true → own_passes B x ≡ B.passes - 1
  unfolding fewer
  passes_wrapped i g q x (inl e) w = rw (e, w)
  passes_wrapped i g q x (inr e) w = rw (e, w)

  pub passes_other : (i g q : ℕ) (x : Item) → (x ≡ send i g q) ⊎ (x ≡ receive i g q) → wrapped B i g q ≡ false → own_passes B x ≡ B.passes
  unfolding fewer
  passes_other i g q x (inl e) w = rw (e, w) (omega arith)
  passes_other i g q x (inr e) w = rw (e, w) (omega arith)

  pub passes_task : (i : ℕ) (x : Item) → x ≡ task i → own_passes B x ≡ B.passes
  unfolding fewer
  passes_task i x e = rw e (omega arith)

  pub fewer_most : (x : Item) → fewer B x ≤ 1
  unfolding fewer
  fewer_most (task i) = omega arith
  fewer_most (send i g q) = one_at_most (wrapped B i g q)
  fewer_most (receive i g q) = one_at_most (wrapped B i g q)

  -- the plan's, or one fewer
  pub passes_most : (x : Item) → (own_passes B x ≤ B.passes) × (B.passes - 1 ≤ own_passes B x)
  passes_most x = (omega arith, omega (arith, fewer_most x))

  -- behind the writer of a wrapped transfer

  -- it is the last writer of its region in the body
  pub wrapped_writer : (i g q : ℕ) → IsTransfer B i g q → Wrapped B i g q → LastWriter B B.tasks g i
  unfolding source
  wrapped_writer i g q T w = go T.reader
    where
      go : (t : ℕ) × Reader B i g q t → LastWriter B B.tasks g i
      go (t, r) =
          ⊎_elim
          (λ (e : last_before B t g ≡ some i). absurd (omega (arith, (last_some B t g i e).below, w t r)))
          (λ e. last_some B B.tasks g i e.1)
          ((or_else-eq-some (last_before B t g) (last_before B B.tasks g) i).0 r.sourced)

  pub last_alike : (t g j k : ℕ) → LastWriter B t g j → LastWriter B t g k → j ≡ k
  last_alike t g j k L M = some-injective j k (sym ((last_writer B t g j).1 L) ∙ (last_writer B t g k).1 M)

  wrapped_source : (i g t : ℕ) → LastWriter B B.tasks g i → i < t → t < B.tasks → source B t g ≡ some i
  unfolding source
  wrapped_source i g t L l m =
      (or_else-eq-some (last_before B t g) (last_before B B.tasks g) i).1
      (inl ((last_writer B t g i).1 (record { below = l; writes = L.writes; last = λ k u v. L.last k u (omega arith) })))

  pub wrapped_last : (i g q t : ℕ) → IsTransfer B i g q → Wrapped B i g q → i < t → t < B.tasks →
      (mem g (B.writes t) ≡ false) × (B.rank t ≡ q → mem g (B.reads t) ≡ false)
  wrapped_last i g q t T w l m =
      let L = wrapped_writer i g q T w in (
        L.last t l m,
        λ e. false_of (mem g (B.reads t)) (λ r. late (w t (record { below = m; placed = e; reads = r; sourced = wrapped_source i g t L l m }))),
      )
    where
      late : t ≤ i → ⊥
      late h = omega arith
