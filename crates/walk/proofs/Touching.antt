-- How an item of the table touches the copies of its rank.
use Prim.Native.Nat.{ℕ, ◌<◌}
use mathlib.Core.Path.{◌≡◌, refl, sym, ◌∙◌, ap}
use mathlib.Core.Bool.{Bool, false}
use mathlib.Core.List.{List}
use native.Mathlib.Omega.{arith}
use borrow.Author.Tests.{eq-eqb, ne_eqb}
use lib.ListN.{length, get_or, set, replicate, length-set, length-replicate, get_or-replicate}
use Rattle.finite.proofs.Update.{set_at}
use Rattle.body.specs.Body.{Body}
use Rattle.body.specs.Items.{Item, task, send, receive, kind_of, item_at}
use Rattle.edges.specs.Touch.{touch, touch_on}
use Rattle.edges.specs.Tests.{rank_at}
use Rattle.plan.specs.Limits.{max_regions}
use Rattle.plan.specs.Layout.{body_of}
use Rattle.plan.specs.Code.{code_rank, code_kind, code_subject}
use Rattle.graph.specs.Table.{subject_of, Graph}
use Rattle.graph.proofs.Lookup.{subject_below, code_rank_lem, code_kind_lem, code_subject_lem, code_task}
use Rattle.walk.specs.Rows.{Places, Touches, Meets}
use Rattle.walk.proofs.Meeting.{only, meets_none, meets_ext}

-- a send or receive touches one region, as its kind says
touch_one : (B : Body) (x : Item) (g : ℕ) → (kind_of x ≡ 0 → ⊥) → touch B x g ≡ only (subject_of x) (kind_of x) g
unfolding touch
touch_one B (task i) g n = absurd (n refl)
touch_one B (send i h q) g n = refl
touch_one B (receive i h q) g n = refl

-- item a, whose number in the table is `code`
module _ (w items : List ℕ) (n : ℕ) (G : Graph w items n) (a : ℕ) (below : a < n) (code : ℕ) (e : code ≡ get_or items a 0) where
  pub meets_elsewhere : (q rank : ℕ) (l : List ℕ) → rank ≡ code_rank code → (rank ≡ q → ⊥) → Places l → Meets (touch_on (body_of w) q a) l l false
  unfolding touch_on
  meets_elsewhere q rank l r h P =
      meets_none (touch_on (body_of w) q a) l P
      (λ g k. rw (ne_eqb (rank_at (body_of w) a) q (λ o. h (r ∙ (code_rank_lem w items n G a below code e ∙ o)))))

  module _ (kind s : ℕ) (k : kind ≡ code_kind code) (f : s ≡ code_subject code) where
    pub touch_task : kind ≡ 0 → (g : ℕ) → touch (body_of w) (task s) g ≡ touch (body_of w) (item_at (body_of w) a) g
    touch_task z g = ap (λ (x : Item). touch (body_of w) x g) (ap task f ∙ sym (code_task w items n G a below code e (sym k ∙ z)))

    pub touch_region : (kind ≡ 0 → ⊥) → (g : ℕ) → only s kind g ≡ touch (body_of w) (item_at (body_of w) a) g
    touch_region z g =
        rw (k, f, code_kind_lem w items n G a below code e, code_subject_lem w items n G a below code e)
        (sym (touch_one (body_of w) (item_at (body_of w) a) g (λ o. z (k ∙ (code_kind_lem w items n G a below code e ∙ o)))))

    -- the places of rank q, which is the item's, are met
    module _ (q rank : ℕ) (l l' : List ℕ) (hit : Bool) (r : rank ≡ code_rank code) (own : rank ≡ q) where
      meets_own : (t : ℕ → ℕ) → ((g : ℕ) → t g ≡ touch (body_of w) (item_at (body_of w) a) g) → Meets t l l' hit → Meets (touch_on (body_of w) q a) l l' hit
      unfolding touch_on
      meets_own t h m =
          meets_ext t (touch_on (body_of w) q a) l l' hit
          (λ g b. h g ∙ rw (eq-eqb (rank_at (body_of w) a) q (sym (code_rank_lem w items n G a below code e) ∙ (sym r ∙ own)))) m

      pub meets_task : kind ≡ 0 → Meets (touch (body_of w) (task s)) l l' hit → Meets (touch_on (body_of w) q a) l l' hit
      meets_task z m = meets_own (touch (body_of w) (task s)) (touch_task z) m

      pub meets_region : (kind ≡ 0 → ⊥) → Meets (only s kind) l l' hit → Meets (touch_on (body_of w) q a) l l' hit
      meets_region z m = meets_own (only s kind) (touch_region z) m

    -- the places that the item touches are noted
    pub notes_task : (l : List ℕ) → kind ≡ 0 → Touches (touch (body_of w) (task s)) l → Touches (touch (body_of w) (item_at (body_of w) a)) l
    notes_task l z t = record { size = t.size; each = λ g h. t.each g h ∙ touch_task z g }

    pub notes_region : (l : List ℕ) (t : ℕ) → (kind ≡ 0 → ⊥) → t ≡ kind → l ≡ replicate max_regions 0 → Touches (touch (body_of w) (item_at (body_of w) a)) (set l s t)
    notes_region l t z h p =
        let size : length l ≡ max_regions = ap length p ∙ length-replicate {A = ℕ} max_regions 0 in
        record {
          size = length-set l s t ∙ size;
          each = λ g b.
              set_at l s g t 0 (omega (arith, size, subject_below w items n G a below, code_subject_lem w items n G a below code e))
              ∙ (rw (p, get_or-replicate {A = ℕ} max_regions g 0 0 b, h) (touch_region z g));
        }

-- a list of zeros has room for every region
pub zeros_room : (l : List ℕ) (g : ℕ) → l ≡ replicate max_regions 0 → g < max_regions → g < length l
zeros_room l g e h = omega (arith, ap length e ∙ length-replicate {A = ℕ} max_regions 0)
