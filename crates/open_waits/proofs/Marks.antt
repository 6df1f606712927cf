-- Items are marked and counted: one, and those on a chain.
use Prim.Native.Nat.{ℕ, suc, ◌+◌, ◌-◌, ◌/◌, ◌≤◌, ◌<◌}
use mathlib.Core.Path.{◌≡◌, refl, sym, ◌∙◌, ap}
use mathlib.Core.Bool.{Bool, true, false, cond, ◌||◌, or-true, or-false, or_assoc}
use mathlib.Core.List.{List}
use native.Mathlib.Decide.{ℕ_discrete}
use native.Mathlib.Numerals.{add-one}
use native.Mathlib.Omega.{arith}
use borrow.Author.Tests.{eq-eqb, ne_eqb}
use lib.Dec.{eqb}
use lib.ListN.{get_or, set, length-set}
use Rattle.finite.specs.Below.{count_below}
use Rattle.finite.proofs.Below.{count_le, count_suc}
use Rattle.finite.proofs.Update.{set_at, set_ind}
use Rattle.plan.specs.Sizes.{max_items}
use Rattle.open_waits.specs.Sources.{on_chain, marked, Counted, Joined, Placed}
use Rattle.open_waits.proofs.Chains.{chain_none, chain_first}

module _ (mark : ℕ) (seen : List ℕ) (number : ℕ) (C : Counted mark seen number) where
  pub mark_most : number ≤ max_items
  mark_most = rw C.count (count_le (marked mark seen) max_items)

  module _ (b : ℕ) (below : b < max_items) where
    pub mark_again : get_or seen b 0 ≡ mark → Joined mark (λ c. eqb c b) seen seen
    mark_again e c l =
        elim (ℕ_discrete c b) [
          | yes z ↦ rw (z, eq-eqb (get_or seen b 0) mark e)
          | no z ↦ rw (ne_eqb c b z) (sym (or-false (marked mark seen c)))
        ]

    at : (c : ℕ) → get_or (set seen b mark) c 0 ≡ cond (eqb c b) mark (get_or seen c 0)
    at c = set_at seen b c mark 0 (omega (arith, C.size))

    other : (c : ℕ) → (c ≡ b → ⊥) → marked mark (set seen b mark) c ≡ marked mark seen c
    other c z = rw (at c, ne_eqb c b z)

    here : marked mark (set seen b mark) b ≡ true
    here = rw (at b, eq-eqb b b refl) (eq-eqb mark mark refl)

    pub mark_new : (get_or seen b 0 ≡ mark → ⊥) → Counted mark (set seen b mark) (number + 1) × Joined mark (λ c. eqb c b) seen (set seen b mark)
    mark_new n = (
      record {
        size = length-set seen b mark ∙ C.size;
        most = λ c. set_ind (λ (x : ℕ). x ≤ mark) seen b c mark 0 (omega arith) (C.most c);
        count =
            ap (λ (k : ℕ). k + 1) C.count
            ∙ (add-one (count_below max_items (marked mark seen))
            ∙ sym (count_suc max_items (marked mark seen) (marked mark (set seen b mark)) b below (ne_eqb (get_or seen b 0) mark n) here other));
      },
      joined,
    )
      where
        joined : Joined mark (λ c. eqb c b) seen (set seen b mark)
        joined c l =
            elim (ℕ_discrete c b) [
              | yes z ↦ rw (z, here, eq-eqb b b refl) (sym (or-true (marked mark seen b)))
              | no z ↦ rw (other c z, ne_eqb c b z) (sym (or-false (marked mark seen c)))
            ]

-- the items on the chain from `link` on; those from `left` on are left
module _ (nexts : List ℕ) (mark : ℕ) (before : List ℕ) (link : ℕ) where
  abbrev pub Left : List ℕ → ℕ → Type 0
  Left seen left = (b : ℕ) → b < max_items → (marked mark seen b || on_chain nexts left b) ≡ (marked mark before b || on_chain nexts link b)

  pub left_more : (seen seen' : List ℕ) (left e next b : ℕ) → Left seen left → 0 < left → e ≡ left - 1 → get_or nexts e 0 ≤ e → b ≡ e / 8 → Joined mark (λ c. eqb c b) seen seen'
      → next ≡ get_or nexts e 0 → Left seen' next
  left_more seen seen' left e next b L h le m be J n c lc =
      let s : left ≡ suc e = omega arith in
      rw (J c lc, n, be) (or_assoc (marked mark seen c) (eqb c (e / 8)) (on_chain nexts (get_or nexts e 0) c))
      ∙ (ap (λ (t : Bool). marked mark seen c || t) (sym (chain_first nexts e c m) ∙ ap (λ (k : ℕ). on_chain nexts k c) (sym s)) ∙ L c lc)

  pub left_none : (seen : List ℕ) (left : ℕ) → Left seen left → left ≤ 0 → Joined mark (on_chain nexts link) before seen
  left_none seen left L h b lb =
      let z : left ≡ 0 = omega arith in
      sym (or-false (marked mark seen b)) ∙ (ap (λ (t : Bool). marked mark seen b || t) (sym (chain_none nexts b) ∙ ap (λ (k : ℕ). on_chain nexts k b) (sym z)) ∙ L b lb)

-- event e, whose link is `link`, touches place x, and the items on the chain from `first` on have
-- been marked
module _ (x e mark link first : ℕ) (writes : Bool) (heads writers nexts seen seen' : List ℕ) (number : ℕ) (l : link ≡ e + 1)
    (M : Counted mark seen' number × Joined mark (on_chain nexts first) seen seen') where
  pub placed_write : writes ≡ true → first ≡ get_or heads x 0 → Placed x e mark writes heads (set heads x link) writers (set writers x link) nexts (set nexts e 0) seen seen' number
  placed_write t f =
      record {
        head = rw l;
        writer = rw (l, t);
        next = rw t;
        joined = λ b h. M.1 b h ∙ rw (f, t);
        counted = M.0;
      }

  pub placed_read : writes ≡ false → first ≡ get_or writers x 0 → Placed x e mark writes heads (set heads x link) writers writers nexts (set nexts e (get_or heads x 0)) seen seen' number
  placed_read t f =
      record {
        head = rw l;
        writer = rw t;
        next = rw t;
        joined = λ b h. M.1 b h ∙ rw (f, t);
        counted = M.0;
      }
