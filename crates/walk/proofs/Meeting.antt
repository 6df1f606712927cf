-- Open places that are met by an item: nowhere, at one region, and at one region more.
use Prim.Native.Nat.{ℕ, ◌+◌, ◌≤◌, ◌<◌}
use mathlib.Core.Path.{◌≡◌, refl, sym, ◌∙◌, ap}
use mathlib.Core.Bool.{Bool, true, false, cond, ◌||◌, or-false}
use mathlib.Core.List.{List}
use native.Mathlib.Decide.{dec_lt}
use native.Mathlib.Omega.{arith}
use borrow.Author.Tests.{eqb-true, eq-eqb, ne_eqb, lt-leb}
use lib.Dec.{eqb, leb}
use lib.ListN.{length, get_or, set, length-set, get_or-eq_default}
use Rattle.finite.specs.Below.{any_below}
use Rattle.finite.proofs.Below.{any_never, any_ext, any_or, any_only}
use Rattle.finite.proofs.Update.{set_at}
use Rattle.plan.specs.Limits.{max_regions}
use Rattle.walk.specs.Rows.{Places, clash, Meets}

-- a place that is touched by nobody else is no conflict
alone : (l : List ℕ) (g : ℕ) → Places l → leb 3 (get_or l g 0 + 0) ≡ false
alone l g P = lt-leb 3 (get_or l g 0 + 0) (omega (arith, P.most g))

-- an item that touches none of them
pub meets_none : (t : ℕ → ℕ) (l : List ℕ) → Places l → ((g : ℕ) → g < max_regions → t g ≡ 0) → Meets t l l false
meets_none t l P f =
    record {
      size = P.size;
      left = λ g h. rw (f g h);
      hits = sym (any_never (clash l t) max_regions (λ g h. rw (f g h) (alone l g P)));
    }

-- one that touches them as another does
pub meets_ext : (t u : ℕ → ℕ) (l l' : List ℕ) (hit : Bool) → ((g : ℕ) → g < max_regions → t g ≡ u g) → Meets t l l' hit → Meets u l l' hit
meets_ext t u l l' hit f m =
    record {
      size = m.size;
      left = λ g h. m.left g h ∙ ap (λ (x : ℕ). cond (eqb x 2) 0 (get_or l g 0)) (f g h);
      hits = m.hits ∙ any_ext max_regions (clash l t) (clash l u) (λ g h. ap (λ (x : ℕ). leb 3 (get_or l g 0 + x)) (f g h));
    }

-- at one region
abbrev pub only : ℕ → ℕ → ℕ → ℕ
only g touch h = cond (eqb h g) touch 0

module _ (l : List ℕ) (g touch : ℕ) (P : Places l) (below : g < max_regions) where
  hits_only : leb 3 (get_or l g 0 + touch) ≡ any_below max_regions (clash l (only g touch))
  hits_only =
      let e : only g touch g ≡ touch = rw (eq-eqb g g refl) in
      sym (any_only (clash l (only g touch)) max_regions g below (λ h k n. rw (ne_eqb h g n) (alone l h P)) ∙ ap (λ (x : ℕ). leb 3 (get_or l g 0 + x)) e)

  pub meets_place : (own : ℕ) (l' : List ℕ) → own ≡ get_or l g 0 → l' ≡ cond (eqb touch 2) (set l g 0) l → Meets (only g touch) l l' (leb 3 (own + touch))
  meets_place own l' e p = rw p (turn (eqb touch 2) refl)
    where
      seen : (h : ℕ) (b : Bool) → eqb touch 2 ≡ true → ◌≡◌ {A = ℕ} (cond b 0 (get_or l h 0)) (cond (eqb (cond b touch 0) 2) 0 (get_or l h 0))
      seen h true f = rw f
      seen h false f = refl

      kept : (h : ℕ) (b : Bool) → eqb touch 2 ≡ false → ◌≡◌ {A = ℕ} (get_or l h 0) (cond (eqb (cond b touch 0) 2) 0 (get_or l h 0))
      kept h true f = rw f
      kept h false f = refl

      turn : (b : Bool) → eqb touch 2 ≡ b → Meets (only g touch) l (cond b (set l g 0) l) (leb 3 (own + touch))
      turn true f =
          record {
            size = length-set l g 0 ∙ P.size;
            left = λ h k. set_at l g h 0 0 (omega (arith, P.size)) ∙ seen h (eqb h g) f;
            hits = rw e hits_only;
          }
      turn false f = record { size = P.size; left = λ h k. kept h (eqb h g) f; hits = rw e hits_only }

-- numbers of which only those of the regions have to be seen
pub places_of : (l : List ℕ) → length l ≡ max_regions → ((g : ℕ) → g < max_regions → get_or l g 0 ≤ 2) → Places l
places_of l size f = record { size = size; most = most }
  where
    most : (g : ℕ) → get_or l g 0 ≤ 2
    most g =
        elim (dec_lt g max_regions) [
          | yes h ↦ f g h
          | no h ↦ rw (get_or-eq_default l 0 {n = g} (omega arith)) (omega arith)
        ]

-- a place that may have been closed
pub most_left : (l : List ℕ) (g : ℕ) (b : Bool) → Places l → cond b 0 (get_or l g 0) ≤ 2
most_left l g true P = omega arith
most_left l g false P = P.most g

-- what is met stays a list of places
pub meets_places : (t : ℕ → ℕ) (l l' : List ℕ) (hit : Bool) → Places l → Meets t l l' hit → Places l'
meets_places t l l' hit P m = places_of l' m.size (λ g h. rw (m.left g h) (most_left l g (eqb (t g) 2) P))

-- an item that touches them at one region more, which it has not touched
pub meets_more : (t : ℕ → ℕ) (g touch : ℕ) (l l' l'' : List ℕ) (hit met : Bool) → Places l → t g ≡ 0 → Meets t l l' hit → Meets (only g touch) l' l'' met
    → Meets (λ h. cond (eqb h g) touch (t h)) l l'' (hit || met)
meets_more t g touch l l' l'' hit met P z m k =
    record {
      size = k.size;
      left = λ h b. k.left h b ∙ (ap (λ (x : ℕ). cond (eqb (only g touch h) 2) 0 x) (m.left h b) ∙ seen h (eqb h g) refl);
      hits =
          rw (m.hits, k.hits)
          (sym (any_or max_regions (clash l t) (clash l' (only g touch)))
          ∙ any_ext max_regions (λ h. clash l t h || clash l' (only g touch) h) (clash l (λ h. cond (eqb h g) touch (t h))) (λ h b. found h b (eqb h g) refl));
    }
  where
    Q : Places l'
    Q = meets_places t l l' hit P m

    seen : (h : ℕ) (b : Bool) → eqb h g ≡ b → ◌≡◌ {A = ℕ} (cond (eqb (cond b touch 0) 2) 0 (cond (eqb (t h) 2) 0 (get_or l h 0))) (cond (eqb (cond b touch (t h)) 2) 0 (get_or l h 0))
    seen h true e = let y : t h ≡ 0 = ap t (eqb-true h g e) ∙ z in rw y
    seen h false e = refl

    found : (h : ℕ) → h < max_regions → (b : Bool) → eqb h g ≡ b → (leb 3 (get_or l h 0 + t h) || leb 3 (get_or l' h 0 + cond b touch 0)) ≡ leb 3 (get_or l h 0 + cond b touch (t h))
    found h k true e =
        let y : t h ≡ 0 = ap t (eqb-true h g e) ∙ z in
        let s : get_or l' h 0 ≡ get_or l h 0 = m.left h k ∙ rw y in
        rw (y, s, alone l h P)
    found h k false e = rw (alone l' h Q) (or-false (leb 3 (get_or l h 0 + t h)))
