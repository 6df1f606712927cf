-- Laws of the result of a region.
use Prim.Native.Nat.{ℕ, suc, ◌+◌, ◌-◌, ◌*◌, ◌≤◌, ◌<◌}
use mathlib.Core.Path.{◌≡◌, refl, sym, ◌∙◌, ap}
use mathlib.Core.Bool.{Bool, true, false, ◌&&◌}
use mathlib.Core.List.{List}
use mathlib.Core.Option.{Option, none, some}
use native.Mathlib.Omega.{arith}
use borrow.Author.Tests.{ne_eqb}
use lib.Dec.{eqb}
use Rattle.finite.specs.Below.{any_below}
use Rattle.finite.specs.Lists.{mem}
use Rattle.finite.proofs.Below.{any_at}
use Rattle.finite.proofs.Members.{mem_gather}
use Rattle.unroll.specs.Machine.{State}
use Rattle.body.specs.Body.{Body}
use Rattle.body.specs.Transfers.{last_before}
use Rattle.body.specs.Places.{copy, result_from, result_of}
use Rattle.body.proofs.Writers.{last_wrote, last_kept}
use Rattle.plan.specs.Layout.{accesses_of, region_at, is_written, writes_of}

-- task i writes region g where one of its accesses does
module _ (w : List ℕ) (i g : ℕ) where
  -- access k writes region g
  abbrev pub writes_here : ℕ → Bool
  writes_here k = is_written w i k && eqb g (region_at w i k)

  pub written_here : (k : ℕ) → k < accesses_of w i → writes_here k ≡ true → true ≡ mem g (writes_of w i)
  written_here k l e = sym (mem_gather (accesses_of w i) (is_written w i) (region_at w i) g ∙ any_at writes_here (accesses_of w i) k l e)

  pub written_nowhere : (k : ℕ) → k ≡ accesses_of w i → any_below k writes_here ≡ false → false ≡ mem g (writes_of w i)
  written_nowhere k d h =
      sym (mem_gather (accesses_of w i) (is_written w i) (region_at w i) g ∙ (ap (λ (m : ℕ). any_below m writes_here) (sym d) ∙ h))

module _ (B : Body) (g : ℕ) where
  -- among n tasks, where those from t on do not write the region
  module _ (n t : ℕ) (same : last_before B n g ≡ last_before B t g) where
    pub last_here : 0 < t → mem g (B.writes (t - 1)) ≡ true → last_before B n g ≡ some (t - 1)
    last_here l m = let e : t ≡ suc (t - 1) = omega arith in same ∙ (ap (λ (k : ℕ). last_before B k g) e ∙ last_wrote B (t - 1) g m)

    pub last_there : 0 < t → mem g (B.writes (t - 1)) ≡ false → last_before B n g ≡ last_before B (t - 1) g
    last_there l m = let e : t ≡ suc (t - 1) = omega arith in same ∙ (ap (λ (k : ℕ). last_before B k g) e ∙ last_kept B (t - 1) g m)

    pub last_nowhere : t ≤ 0 → last_before B n g ≡ none
    unfolding last_before
    last_nowhere l = let e : t ≡ 0 = omega arith in same ∙ ap (λ (k : ℕ). last_before B k g) e

  module _ (s : State) where
    pub result_unwritten : last_before B B.tasks g ≡ none → B.starting g ≡ result_of B s g
    unfolding result_of
    result_unwritten e = rw e

    pub result_unpassed : B.passes ≡ 0 → B.starting g ≡ result_of B s g
    unfolding result_of
    result_unpassed z = go (last_before B B.tasks g)
      where
        go : (o : Option ℕ) → B.starting g ≡ result_from B s g o
        go none = refl
        go (some j) = rw z

    pub result_copied : (i : ℕ) → last_before B B.tasks g ≡ some i → 0 < B.passes → s.places (B.rank i * B.regions + g) ≡ result_of B s g
    unfolding result_of copy
    result_copied i e l = rw (e, ne_eqb B.passes 0 (λ z. omega arith))
