-- The tests of a transfer, wrapped or not: what they say of an access that writes and a rank that
-- wants its word, and how they hang together.
use Prim.Native.Nat.{ℕ, ◌<◌}
use mathlib.Core.Path.{◌≡◌, refl, sym, ◌∙◌, ap}
use mathlib.Core.Bool.{Bool, true, false, not, ◌&&◌, ◌||◌, and-eq-true_iff}
use mathlib.Core.List.{List}
use mathlib.Core.Option.{Option, none, some}
use mathlib.Core.Logic.{inr, ⊎_elim}
use mathlib.Mathlib.Data.Option.Basic.{or_else-eq-some}
use borrow.Author.Tests.{ltb-true, eqb-true, eqb-false, not-true, lt-ltb, eq-eqb, ne_eqb}
use lib.Dec.{eqb, ltb}
use Rattle.finite.specs.Lists.{mem}
use Rattle.finite.proofs.Tests.{and_parts, not_both, test_ext, false_of}
use Rattle.finite.proofs.Below.{any_at, any_from}
use Rattle.body.specs.Transfers.{equals, last_before, source, served, wanted, transferred, wrapped, forward}
use Rattle.body.proofs.Writers.{equals_some}
use Rattle.body.proofs.Wrapped.{wrapped_forward, forward_wanted}
use Rattle.plan.specs.Layout.{ranks_of, tasks_of, rank_of, accesses_of, region_at, is_written, reads_of, body_of}
use Rattle.plan.proofs.Facts.{Formed}
use Rattle.transfers.specs.Wanted.{absent, wanted_at, wrapped_at, ahead_at}
use Rattle.transfers.specs.Search.{forward_at}

and_regroup : (a b c d e f : Bool) → ((a && (b && (c && (d && e)))) && f) ≡ (a && (b && (c && (d && (e && f)))))
and_regroup false b c d e f = refl
and_regroup true false c d e f = refl
and_regroup true true false d e f = refl
and_regroup true true true false e f = refl
and_regroup true true true true e f = refl

pub absent_none : (o : Option ℕ) → absent o ≡ true → o ≡ none
absent_none none e = refl
absent_none (some i) e = absurd (not_both e refl)

module _ (w : List ℕ) where
  -- access a of task i writes, and q is a rank other than the task's
  pub record Foreign (i a q : ℕ) : Type 0 where
    pub task : i < tasks_of w
    pub below : a < accesses_of w i
    pub writes : is_written w i a ≡ true
    pub rank : q < ranks_of w
    pub other : q ≡ rank_of w i → ⊥

  abbrev foreign : ℕ → ℕ → ℕ → Bool
  foreign i a q = ltb i (tasks_of w) && (ltb a (accesses_of w i) && (is_written w i a && (ltb q (ranks_of w) && not (eqb q (rank_of w i)))))

  foreign_from : (i a q : ℕ) → foreign i a q ≡ true → Foreign i a q
  foreign_from i a q h =
      let t = (and-eq-true_iff (ltb i (tasks_of w)) _).0 h in
      let b = (and-eq-true_iff (ltb a (accesses_of w i)) _).0 t.1 in
      let v = (and-eq-true_iff (is_written w i a) _).0 b.1 in
      let r = (and-eq-true_iff (ltb q (ranks_of w)) (not (eqb q (rank_of w i)))).0 v.1 in
      record {
        task = ltb-true i (tasks_of w) t.0;
        below = ltb-true a (accesses_of w i) b.0;
        writes = v.0;
        rank = ltb-true q (ranks_of w) r.0;
        other = eqb-false q (rank_of w i) (not-true (eqb q (rank_of w i)) r.1);
      }

  foreign_of : (i a q : ℕ) → Foreign i a q → foreign i a q ≡ true
  foreign_of i a q o = rw (lt-ltb i (tasks_of w) o.task, lt-ltb a (accesses_of w i) o.below, o.writes, lt-ltb q (ranks_of w) o.rank, ne_eqb q (rank_of w i) o.other)

  -- forward_at, wanted_at

  forward_parts : (i a q : ℕ) → (foreign i a q && forward (body_of w) i (region_at w i a) q) ≡ forward_at w i a q
  unfolding forward_at
  forward_parts i a q = and_regroup (ltb i (tasks_of w)) (ltb a (accesses_of w i)) (is_written w i a) (ltb q (ranks_of w)) (not (eqb q (rank_of w i))) (forward (body_of w) i (region_at w i a) q)

  pub forward_from : (i a q : ℕ) → forward_at w i a q ≡ true → Foreign i a q × (forward (body_of w) i (region_at w i a) q ≡ true)
  forward_from i a q h =
      let p = (and-eq-true_iff (foreign i a q) (forward (body_of w) i (region_at w i a) q)).0 (forward_parts i a q ∙ h) in
      (foreign_from i a q p.0, p.1)

  pub forward_of : (i a q : ℕ) → Foreign i a q → forward (body_of w) i (region_at w i a) q ≡ true → forward_at w i a q ≡ true
  forward_of i a q o f = sym (forward_parts i a q) ∙ and_parts (foreign_of i a q o) f

  wanted_parts : (i a q : ℕ) → (foreign i a q && wanted (body_of w) i (region_at w i a) q) ≡ wanted_at w i a q
  unfolding wanted_at transferred
  wanted_parts i a q = and_regroup (ltb i (tasks_of w)) (ltb a (accesses_of w i)) (is_written w i a) (ltb q (ranks_of w)) (not (eqb q (rank_of w i))) (wanted (body_of w) i (region_at w i a) q)

  -- a transfer is wrapped, or it is not

  pub wanted_either : (i a q : ℕ) → wanted_at w i a q ≡ (forward_at w i a q || wrapped_at w i a q)
  unfolding wrapped_at
  wanted_either i a q =
      let B = body_of w in
      let g = region_at w i a in
      sym (wanted_parts i a q)
      ∙ (split (foreign i a q) (forward B i g q) (wanted B i g q) (wrapped B i g q) (wrapped_forward B i g q) (forward_wanted B i g q)
      ∙ rw (forward_parts i a q, wanted_parts i a q))
    where
      split : (o f v x : Bool) → x ≡ not f → (f ≡ true → v ≡ true) → (o && v) ≡ ((o && f) || ((o && v) && x))
      split false f v x e h = refl
      split true true v x e h = rw (h refl)
      split true false true x e h = rw e
      split true false false x e h = refl

  pub wrapped_not : (i a q : ℕ) → wrapped_at w i a q ≡ true → forward_at w i a q ≡ false
  unfolding wrapped_at
  wrapped_not i a q h =
      let p = (and-eq-true_iff (wanted_at w i a q) (wrapped (body_of w) i (region_at w i a) q)).0 h in
      false_of (forward_at w i a q) (λ e. not_both (forward_from i a q e).1 (not-true (forward (body_of w) i (region_at w i a) q) (sym (wrapped_forward (body_of w) i (region_at w i a) q) ∙ p.1)))

  -- a rank that a wrapped transfer serves reads ahead, and the writer is the body's last
  record Late (i a q : ℕ) : Type 0 where
    foreigner : Foreign i a q
    last : last_before (body_of w) (tasks_of w) (region_at w i a) ≡ some i
    ahead : ahead_at w (region_at w i a) q ≡ true

  wrapped_late : (i a q : ℕ) → wrapped_at w i a q ≡ true → Late i a q
  unfolding wrapped_at wanted forward source ahead_at
  wrapped_late i a q h =
      let p = (and-eq-true_iff (wanted_at w i a q) (wrapped (body_of w) i (region_at w i a) q)).0 h in
      let v = (and-eq-true_iff (foreign i a q) (wanted (body_of w) i (region_at w i a) q)).0 (wanted_parts i a q ∙ p.0) in
      let r = any_from (λ t. served (body_of w) i (region_at w i a) q t) (tasks_of w) v.1 in
      let u = (and-eq-true_iff (eqb (rank_of w r.0) q) _).0 r.2 in
      let m = (and-eq-true_iff (mem (region_at w i a) (reads_of w r.0)) (equals (source (body_of w) r.0 (region_at w i a)) i)).0 u.1 in
      go (foreign_from i a q v.0) (not-true (forward (body_of w) i (region_at w i a) q) (sym (wrapped_forward (body_of w) i (region_at w i a) q) ∙ p.1))
      r.0 r.1 u.0 m.0 (equals_some (source (body_of w) r.0 (region_at w i a)) i m.1)
    where
      go : Foreign i a q → forward (body_of w) i (region_at w i a) q ≡ false → (t : ℕ) → t < tasks_of w → eqb (rank_of w t) q ≡ true → mem (region_at w i a) (reads_of w t) ≡ true
          → source (body_of w) t (region_at w i a) ≡ some i → Late i a q
      go o f t lt p m e =
          ⊎_elim
          (λ (z : last_before (body_of w) t (region_at w i a) ≡ some i).
          absurd (not_both (any_at (λ t. eqb (rank_of w t) q && (mem (region_at w i a) (reads_of w t) && equals (last_before (body_of w) t (region_at w i a)) i)) (tasks_of w) t lt
          (and_parts p (and_parts m (rw z (eq-eqb i i refl))))) f))
          (λ z. record {
            foreigner = o;
            last = z.1;
            ahead =
                any_at (λ t. eqb (rank_of w t) q && (mem (region_at w i a) (reads_of w t) && absent (last_before (body_of w) t (region_at w i a)))) (tasks_of w) t lt
                (and_parts p (and_parts m (ap absent z.0)));
          })
          ((or_else-eq-some (last_before (body_of w) t (region_at w i a)) (last_before (body_of w) (tasks_of w) (region_at w i a)) i).0 e)

  pub wrapped_foreign : (i a q : ℕ) → wrapped_at w i a q ≡ true → Foreign i a q
  wrapped_foreign i a q h = (wrapped_late i a q h).foreigner

  pub wrapped_last : (i a q : ℕ) → wrapped_at w i a q ≡ true → last_before (body_of w) (tasks_of w) (region_at w i a) ≡ some i
  wrapped_last i a q h = (wrapped_late i a q h).last

  -- the body's last writer serves the ranks that read ahead, but its own and those that have a
  -- transfer that is not wrapped
  module _ (F : Formed w) (i a q : ℕ) (task : i < tasks_of w) (below : a < accesses_of w i) (writes : is_written w i a ≡ true)
      (last : last_before (body_of w) (tasks_of w) (region_at w i a) ≡ some i) where
    late_wrapped : ((ahead_at w (region_at w i a) q && not (eqb q (rank_of w i))) && not (forward_at w i a q)) ≡ true → wrapped_at w i a q ≡ true
    unfolding wrapped_at wanted source ahead_at
    late_wrapped h =
        let u = (and-eq-true_iff (ahead_at w (region_at w i a) q && not (eqb q (rank_of w i))) (not (forward_at w i a q))).0 h in
        let v = (and-eq-true_iff (ahead_at w (region_at w i a) q) (not (eqb q (rank_of w i)))).0 u.0 in
        let r = any_from (λ t. eqb (rank_of w t) q && (mem (region_at w i a) (reads_of w t) && absent (last_before (body_of w) t (region_at w i a)))) (tasks_of w) v.0 in
        let p = (and-eq-true_iff (eqb (rank_of w r.0) q) _).0 r.2 in
        let m = (and-eq-true_iff (mem (region_at w i a) (reads_of w r.0)) (absent (last_before (body_of w) r.0 (region_at w i a)))).0 p.1 in
        let e = eqb-true (rank_of w r.0) q p.0 in
        go (not-true (forward_at w i a q) u.1) r.0 r.1 p.0 m.0 m.1
        (record { task = task; below = below; writes = writes; rank = rw (sym e) (F.used r.0 r.1).rank_below; other = eqb-false q (rank_of w i) (not-true (eqb q (rank_of w i)) v.1) })
      where
        go : forward_at w i a q ≡ false → (t : ℕ) → t < tasks_of w → eqb (rank_of w t) q ≡ true → mem (region_at w i a) (reads_of w t) ≡ true
            → absent (last_before (body_of w) t (region_at w i a)) ≡ true → Foreign i a q → wrapped_at w i a q ≡ true
        go f t lt p m z o =
            let none_before = absent_none (last_before (body_of w) t (region_at w i a)) z in
            let s : source (body_of w) t (region_at w i a) ≡ some i =
            (or_else-eq-some (last_before (body_of w) t (region_at w i a)) (last_before (body_of w) (tasks_of w) (region_at w i a)) i).1 (inr (none_before, last)) in
            and_parts
            (sym (wanted_parts i a q)
            ∙ and_parts (foreign_of i a q o)
            (any_at (λ t. served (body_of w) i (region_at w i a) q t) (tasks_of w) t lt (and_parts p (and_parts m (rw s (eq-eqb i i refl))))))
            (wrapped_forward (body_of w) i (region_at w i a) q ∙ ap not (false_of (forward (body_of w) i (region_at w i a) q) (λ e. not_both (forward_of i a q o e) f)))

    wrapped_ahead : wrapped_at w i a q ≡ true → ((ahead_at w (region_at w i a) q && not (eqb q (rank_of w i))) && not (forward_at w i a q)) ≡ true
    wrapped_ahead h =
        let l = wrapped_late i a q h in
        and_parts (and_parts l.ahead (ap not (ne_eqb q (rank_of w i) l.foreigner.other))) (ap not (wrapped_not i a q h))

    pub late_is : ((ahead_at w (region_at w i a) q && not (eqb q (rank_of w i))) && not (forward_at w i a q)) ≡ wrapped_at w i a q
    late_is = test_ext ((ahead_at w (region_at w i a) q && not (eqb q (rank_of w i))) && not (forward_at w i a q)) (wrapped_at w i a q) late_wrapped wrapped_ahead
