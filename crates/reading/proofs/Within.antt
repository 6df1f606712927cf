-- Reading with two limits on passes, one no higher than the other: only the passes of the `loop`
-- line tell them apart.
use Rattle.text.specs.declared.Number.{Number}
use Rattle.text.specs.declared.Number.TheVariants.{Value, TooLarge, Malformed}
use Rattle.text.specs.declared.Record.{Record}
use Rattle.text.specs.declared.Record.TheVariants.{Loop, Begin, End, Unreadable}
use mathlib.Core.Path.{◌≡◌, refl, sym, ◌∙◌, ap, subst}
use mathlib.Core.Bool.{Bool, true, false, cond, not}
use mathlib.Core.Logic.{◌⊎◌, inl, inr, ⊎_elim}
use mathlib.Core.List.{List, [], ◌∷◌}
use native.Mathlib.Omega.{arith}
use borrow.Author.Tests.{leb-true, leb-false, le-leb}
use lib.Dec.{ltb, leb, leb-zero}
use lib.ListN.{length}
use Prim.Native.Nat.{ℕ, ◌+◌, ◌≤◌, ◌<◌}
use Rattle.finite.specs.Lists.{mem}
use Rattle.kernels.specs.Kernels.{suits}
use Rattle.text.specs.Records.{record_of, split}
use Rattle.body.specs.Transfers.{transfer_count}
use Rattle.plan.specs.Layout.{body_of, passes_of}
use Rattle.plan.specs.Limits.{max_accesses, max_bytes, max_kernel, max_passes, max_ranks, max_regions, max_tasks, max_transfers}
use Rattle.reading.specs.Laws.{TextsKept}
use Rattle.reading.specs.Plan.{named, read_count, started, words_of}
use Rattle.reading.specs.Reading.{Reading, State, Step, accepted, at_end, below, closed, first, is_empty, is_word, lies}
use Rattle.reading.specs.Reading.{need, next, no_task_yet, on_step, opened, read_of, refuse, refused, value_of, step_within, read_from_within, read_within}
use Rattle.reading.proofs.Back.{word_at_lem}
use Rattle.reading.proofs.Says.{not_accepted}

-- the passes that were read, once a record was
abbrev passes_read : State → ℕ
passes_read first = 0
passes_read (closed P) = P.passes
passes_read (opened P t) = P.passes

abbrev Later : State → Type 0
Later first = ⊥
Later (closed P) = Unit
Later (opened P t) = Unit

-- Q holds of the passes, where a step goes on and where a reading is accepted
module _ (Q : ℕ → Type 0) where
  abbrev Goes : Step → Type 0
  Goes (next s) = Later s × Q (passes_read s)
  Goes (refuse n) = Unit

  abbrev Ends : Reading → Type 0
  Ends (accepted w) = Q (passes_of w)
  Ends (refused n l) = Unit

  goes_need : (t : Bool) (n : ℕ) (x : Step) → Goes x → Goes (need t n x)
  goes_need true n x h = h
  goes_need false n x h = tt

  -- no record changes the passes
  goes_step : (most : ℕ) (s : State) (r : Record) → Later s → Q (passes_read s) → Goes (step_within most s r)
  goes_step most first r l h = absurd l
  goes_step most (closed P) (Loop p q n) l h = tt
  goes_step most (closed P) (Record.Start g v) l h =
      goes_need (no_task_yet P) 2 _
      (goes_need (below P.regions g) 3 _
      (goes_need (is_word v) 3 _
      (goes_need (not (mem (value_of g) (started P.starts))) 6 _ (tt, h))))
  goes_step most (closed P) (Begin q k c) l h =
      goes_need (below P.ranks q) 3 _
      (goes_need (lies 0 max_kernel k) 3 _
      (goes_need (is_word c) 3 _
      (goes_need (ltb (length P.tasks) max_tasks) 10 _ (tt, h))))
  goes_step most (closed P) (Record.Access m g) l h = tt
  goes_step most (closed P) End l h = tt
  goes_step most (closed P) Unreadable l h = tt
  goes_step most (opened P t) (Loop p q n) l h = tt
  goes_step most (opened P t) (Record.Start g v) l h = tt
  goes_step most (opened P t) (Begin q k c) l h = tt
  goes_step most (opened P t) (Record.Access m g) l h =
      goes_need (below P.regions g) 3 _
      (goes_need (ltb (length t.accesses) max_accesses) 10 _
      (goes_need (not (mem (value_of g) (named t.accesses))) 6 _ (tt, h)))
  goes_step most (opened P t) End l h = goes_need (suits t.kernel (read_count t.accesses)) 9 _ (tt, h)
  goes_step most (opened P t) Unreadable l h = tt

  ends_cond : (b : Bool) (x y : Reading) → Ends x → Ends y → Ends (cond b x y)
  ends_cond true x y h k = h
  ends_cond false x y h k = k

  ends_at : (n : ℕ) (s : State) → Q (passes_read s) → Ends (at_end n s)
  ends_at n first h = tt
  ends_at n (opened P t) h = tt
  ends_at n (closed P) h =
      ends_cond (no_task_yet P) _ _ tt
      (ends_cond (leb (transfer_count (body_of (words_of P))) max_transfers) _ _ (subst Q (sym (word_at_lem P 0 (omega arith))) h) tt)

  ends_step : (n : ℕ) (k : State → Reading) → ((s : State) → Later s → Q (passes_read s) → Ends (k s)) → (x : Step) → Goes x → Ends (on_step n k x)
  ends_step n k on (next s) (l, h) = on s l h
  ends_step n k on (refuse m) h = tt

  ends_lines : (most n : ℕ) (s : State) (ls : List (List ℕ)) → Later s → Q (passes_read s) → Ends (read_from_within most n s ls)
  ends_lines most n s [] l h = tt
  ends_lines most n s (c ∷ []) l h = ends_cond (is_empty c) _ _ (ends_at n s h) tt
  ends_lines most n s (c ∷ d ∷ ls) l h = ends_step n _ (λ t. ends_lines most (n + 1) t (d ∷ ls)) (step_within most s (record_of c)) (goes_step most s (record_of c) l h)

-- the limits lo and hi
module _ (lo hi : ℕ) (h : lo ≤ hi) where
  -- after the first record both do the same
  step_same : (s : State) (r : Record) → Later s → step_within lo s r ≡ step_within hi s r
  step_same first r l = absurd l
  step_same (closed P) (Loop p q n) l = refl
  step_same (closed P) (Record.Start g v) l = refl
  step_same (closed P) (Begin q k c) l = refl
  step_same (closed P) (Record.Access m g) l = refl
  step_same (closed P) End l = refl
  step_same (closed P) Unreadable l = refl
  step_same (opened P t) (Loop p q n) l = refl
  step_same (opened P t) (Record.Start g v) l = refl
  step_same (opened P t) (Begin q k c) l = refl
  step_same (opened P t) (Record.Access m g) l = refl
  step_same (opened P t) End l = refl
  step_same (opened P t) Unreadable l = refl

  on_same : (Q : ℕ → Type 0) (n : ℕ) (k m : State → Reading) → ((s : State) → Later s → k s ≡ m s) → (x : Step) → Goes Q x → on_step n k x ≡ on_step n m x
  on_same Q n k m e (next s) (l, h) = e s l
  on_same Q n k m e (refuse why) h = refl

  lines_same : (n : ℕ) (s : State) (ls : List (List ℕ)) → Later s → read_from_within lo n s ls ≡ read_from_within hi n s ls
  lines_same n s [] l = refl
  lines_same n s (c ∷ []) l = refl
  lines_same n s (c ∷ d ∷ ls) l =
      on_same (λ p. Unit) n _ _ (λ t. lines_same (n + 1) t (d ∷ ls)) (step_within lo s (record_of c)) (goes_step (λ p. Unit) lo s (record_of c) l tt)
      ∙ ap (on_step n (λ t. read_from_within hi (n + 1) t (d ∷ ls))) (step_same s (record_of c) l)

  -- the first record: both go on alike, with at most lo passes; or lo refuses it, and where hi goes on there are more
  record Alike (x y : Step) : Type 0 where
    same : x ≡ y
    few : Goes (λ p. p ≤ lo) x

  record Parted (r : Record) (x y : Step) : Type 0 where
    passes : ℕ
    ranks : Number
    regions : Number
    says : r ≡ Loop (Value passes) ranks regions
    above : lo < passes
    out : x ≡ refuse 3
    more : Goes (λ p. lo < p) y

  first_step : (r : Record) → Alike (step_within lo first r) (step_within hi first r) ⊎ Parted r (step_within lo first r) (step_within hi first r)
  first_step (Loop (Value p) q n) = go (leb p lo) refl
    where
      go : (b : Bool) → leb p lo ≡ b →
          Alike (step_within lo first (Loop (Value p) q n)) (step_within hi first (Loop (Value p) q n))
          ⊎ Parted (Loop (Value p) q n) (step_within lo first (Loop (Value p) q n)) (step_within hi first (Loop (Value p) q n))
      go true e =
          inl
          (record {
            same = rw (e, le-leb p hi (omega (arith, leb-true p lo e)));
            few = goes_need (λ p. p ≤ lo) (lies 0 lo (Value p)) 3 _ (goes_need (λ p. p ≤ lo) (lies 1 max_ranks q) 3 _ (goes_need (λ p. p ≤ lo) (lies 1 max_regions n) 3 _ (tt, leb-true p lo e)));
          })
      go false e =
          inr
          (record {
            passes = p;
            ranks = q;
            regions = n;
            says = refl;
            above = leb-false p lo e;
            out = rw (leb-zero p, e);
            more = goes_need (λ p. lo < p) (lies 0 hi (Value p)) 3 _ (goes_need (λ p. lo < p) (lies 1 max_ranks q) 3 _ (goes_need (λ p. lo < p) (lies 1 max_regions n) 3 _ (tt, leb-false p lo e)));
          })
  first_step (Loop TooLarge q n) = inl (record { same = refl; few = tt })
  first_step (Loop Malformed q n) = inl (record { same = refl; few = tt })
  first_step (Record.Start g v) = inl (record { same = refl; few = tt })
  first_step (Begin q k c) = inl (record { same = refl; few = tt })
  first_step (Record.Access m g) = inl (record { same = refl; few = tt })
  first_step End = inl (record { same = refl; few = tt })
  first_step Unreadable = inl (record { same = refl; few = tt })

  -- the same of a reading
  record AlikeRead (x y : Reading) : Type 0 where
    same : x ≡ y
    few : Ends (λ p. p ≤ lo) x

  record PartedRead (ls : List (List ℕ)) (x y : Reading) : Type 0 where
    line : List ℕ
    others : List (List ℕ)
    lines : ls ≡ line ∷ others
    parts : Parted (record_of line) (step_within lo first (record_of line)) (step_within hi first (record_of line))
    out : x ≡ refused 3 1
    more : Ends (λ p. lo < p) y

  abbrev Both : List (List ℕ) → Reading → Reading → Type 0
  Both ls x y = AlikeRead x y ⊎ PartedRead ls x y

  first_lines : (ls : List (List ℕ)) → Both ls (read_from_within lo 1 first ls) (read_from_within hi 1 first ls)
  first_lines [] = inl (record { same = refl; few = tt })
  first_lines (c ∷ []) = inl (record { same = refl; few = ends_cond (λ p. p ≤ lo) (is_empty c) _ _ tt tt })
  first_lines (c ∷ d ∷ ls) = ⊎_elim (λ a. inl (on a)) (λ a. inr (out a)) (first_step (record_of c))
    where
      on : Alike (step_within lo first (record_of c)) (step_within hi first (record_of c)) → AlikeRead (read_from_within lo 1 first (c ∷ d ∷ ls)) (read_from_within hi 1 first (c ∷ d ∷ ls))
      on a =
          record {
            same =
                on_same (λ p. p ≤ lo) 1 _ _ (λ t. lines_same 2 t (d ∷ ls)) (step_within lo first (record_of c)) a.few
                ∙ ap (on_step 1 (λ t. read_from_within hi 2 t (d ∷ ls))) a.same;
            few = ends_step (λ p. p ≤ lo) 1 _ (λ t. ends_lines (λ p. p ≤ lo) lo 2 t (d ∷ ls)) (step_within lo first (record_of c)) a.few;
          }

      out : Parted (record_of c) (step_within lo first (record_of c)) (step_within hi first (record_of c)) →
          PartedRead (c ∷ d ∷ ls) (read_from_within lo 1 first (c ∷ d ∷ ls)) (read_from_within hi 1 first (c ∷ d ∷ ls))
      out a =
          record {
            line = c;
            others = d ∷ ls;
            lines = refl;
            parts = a;
            out = ap (on_step 1 (λ t. read_from_within lo 2 t (d ∷ ls))) a.out;
            more = ends_step (λ p. lo < p) 1 _ (λ t. ends_lines (λ p. lo < p) hi 2 t (d ∷ ls)) (step_within hi first (record_of c)) a.more;
          }

  read_both : (text : List ℕ) → Both (split 10 text) (read_within lo text) (read_within hi text)
  read_both text = go (ltb max_bytes (length text))
    where
      go : (b : Bool) → Both (split 10 text) (cond b (refused 10 0) (read_from_within lo 1 first (split 10 text))) (cond b (refused 10 0) (read_from_within hi 1 first (split 10 text)))
      go true = inl (record { same = refl; few = tt })
      go false = first_lines (split 10 text)

pub texts_kept : (most : ℕ) → most ≤ max_passes → TextsKept most
unfolding read_of
texts_kept most h =
    record {
      same = λ text. ⊎_elim
          (λ a. inl a.same)
          (λ a. inr (
            a.out,
            record { line = a.line; others = a.others; passes = a.parts.passes; ranks = a.parts.ranks; regions = a.parts.regions; lines = a.lines; says = a.parts.says; more = a.parts.above },
          ))
          (read_both most max_passes h text);
      accepts = λ text w. (
        λ e. ⊎_elim
            (λ a. (sym a.same ∙ e, subst (Ends (λ p. p ≤ most)) e a.few))
            (λ a. not_accepted 3 1 w (sym a.out ∙ e))
            (read_both most max_passes h text),
        λ k. ⊎_elim
            (λ a. a.same ∙ k.0)
            (λ a. absurd (let l : most < passes_of w = subst (Ends (λ p. most < p)) k.0 a.more in let m = k.1 in omega arith))
            (read_both most max_passes h text),
      );
    }
