-- Laws of `split`: the first piece, and the rest after the byte that parts them.
use Rattle.std.proofs.Common.{◌≡◌, ℕ, suc, ◌+◌, ◌-◌, ◌<◌, ◌≤◌, Bool, true, false, eqb, List, [], ◌∷◌, ◌++◌, length, take, drop, refl, ap, le_of_eq, le_of_suc-le-suc, not-suc-le-zero, add-one, arith, length-drop, length-take-le, take_all, eqb-true}
use Rattle.text.specs.Text.{before}
use Rattle.text.proofs.Laws.{before_most}
use Rattle.text.specs.Records.{is, first_field, split, one_of, end_of}
use Rattle.text.specs.declared.Record.TheVariants.{Unreadable}
use Rattle.text.specs.declared.Number.TheVariants.{Malformed}

module _ (b : ℕ) where
  pub before_le : (l : List ℕ) → before (is b) l ≤ length l
  before_le l = before_most (is b) l

  -- no b: one piece
  pub split_last : (l : List ℕ) → length l ≤ before (is b) l → split b l ≡ l ∷ []
  split_last [] h = refl
  split_last (c ∷ l) h = go (eqb c b) refl h (split_last l)
    where
      go : (t : Bool) → eqb c b ≡ t → length (c ∷ l) ≤ before (is b) (c ∷ l) → (length l ≤ before (is b) l → split b l ≡ l ∷ []) → split b (c ∷ l) ≡ (c ∷ l) ∷ []
      go true e k ih = absurd (not-suc-le-zero (rw e at k))
      go false e k ih = rw (e, ih (le_of_suc-le-suc (rw e at k)))

  pub split_more : (l : List ℕ) → before (is b) l < length l → split b l ≡ take (before (is b) l) l ∷ split b (drop (before (is b) l + 1) l)
  split_more l h = rw add-one (more l h)
    where
      more : (l : List ℕ) → before (is b) l < length l → split b l ≡ take (before (is b) l) l ∷ split b (drop (suc (before (is b) l)) l)
      more [] h = absurd (not-suc-le-zero h)
      more (c ∷ l) h = go (eqb c b) refl h (more l)
        where
          go : (t : Bool) → eqb c b ≡ t → before (is b) (c ∷ l) < length (c ∷ l) →
              (before (is b) l < length l → split b l ≡ take (before (is b) l) l ∷ split b (drop (suc (before (is b) l)) l)) →
              split b (c ∷ l) ≡ take (before (is b) (c ∷ l)) (c ∷ l) ∷ split b (drop (suc (before (is b) (c ∷ l))) (c ∷ l))
          go true e k ih = rw e
          go false e k ih = rw (e, ih (le_of_suc-le-suc (rw e at k)))

  -- the first piece with the b that ends it
  pub take_before : (l : List ℕ) → before (is b) l < length l → take (suc (before (is b) l)) l ≡ take (before (is b) l) l ++ (b ∷ [])
  take_before [] h = absurd (not-suc-le-zero h)
  take_before (c ∷ l) h = go (eqb c b) refl h (take_before l)
    where
      go : (t : Bool) → eqb c b ≡ t → before (is b) (c ∷ l) < length (c ∷ l) →
          (before (is b) l < length l → take (suc (before (is b) l)) l ≡ take (before (is b) l) l ++ (b ∷ [])) →
          take (suc (before (is b) (c ∷ l))) (c ∷ l) ≡ take (before (is b) (c ∷ l)) (c ∷ l) ++ (b ∷ [])
      go true e k ih = rw e (ap (λ (x : ℕ). x ∷ []) (eqb-true c b e))
      go false e k ih = rw e (ap (λ (r : List ℕ). c ∷ r) (ih (le_of_suc-le-suc (rw e at k))))

  -- as a function asks it that found the first b at n
  pub cut_last : (l : List ℕ) (n : ℕ) → n ≡ before (is b) l → length l ≤ n → split b l ≡ l ∷ []
  cut_last l n e h = split_last l (omega arith)

  pub cut_more : (l : List ℕ) (n : ℕ) → n ≡ before (is b) l → n < length l → split b l ≡ take n l ∷ split b (drop (n + 1) l)
  cut_more l n e h = rw e (split_more l (omega arith))

  -- there is always a piece
  pub split_cons : (l : List ℕ) → (f : List ℕ) × (fs : List (List ℕ)) × (split b l ≡ f ∷ fs)
  split_cons [] = ([], [], refl)
  split_cons (c ∷ l) = go (eqb c b) refl (split_cons l)
    where
      go : (t : Bool) → eqb c b ≡ t → (f : List ℕ) × (fs : List (List ℕ)) × (split b l ≡ f ∷ fs) → (f : List ℕ) × (fs : List (List ℕ)) × (split b (c ∷ l) ≡ f ∷ fs)
      go true e ih = ([], split b l, rw e)
      go false e ih = (c ∷ ih.0, ih.1, rw (e, ih.2))

  pub one_more : (a l : List ℕ) → one_of (a ∷ split b l) ≡ Malformed
  one_more a l = let s = split_cons l in rw s.2

-- the first field, and the fields behind its tab
field_length : (l : List ℕ) → length (first_field l) ≡ before (is 9) l
field_length l = length-take-le (before (is 9) l) l (before_le 9 l)

pub field_last : (l f : List ℕ) → f ≡ first_field l → length l ≤ length f → split 9 l ≡ f ∷ []
field_last l f e h =
    let k : length l ≤ before (is 9) l = omega (arith, ap length e, field_length l) in
    rw (e, take_all (before (is 9) l) l k) (split_last 9 l k)

pub field_more : (l f : List ℕ) → f ≡ first_field l → length f < length l → split 9 l ≡ f ∷ split 9 (drop (length f + 1) l)
field_more l f e h =
    let k : before (is 9) l < length l = omega (arith, ap length e, field_length l) in
    rw (e, field_length l) (split_more 9 l k)

-- a part of a list that goes to its end
pub rest : (l : List ℕ) (k : ℕ) → take (length l - k) (drop k l) ≡ drop k l
rest l k = take_all (length l - k) (drop k l) (le_of_eq (length-drop k l))

pub end_more : (b : ℕ) (l : List ℕ) → end_of (split b l) ≡ Unreadable
end_more b l = let s = split_cons b l in rw s.2
