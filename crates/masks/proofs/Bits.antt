-- What a set of items has after one was put into it or taken out.
use Prim.Native.Nat.{ℕ, ◌+◌, ◌-◌, ◌*◌, ◌/◌, ◌%◌, ◌^◌, ◌<◌}
use mathlib.Core.Path.{◌≡◌, refl, sym, ◌∙◌, ap}
use mathlib.Core.Bool.{Bool, true, false, cond, not, ◌&&◌, ◌||◌, or-false, and-true as and-always}
use mathlib.Core.List.{List}
use native.Mathlib.Decide.{dec_lt, ℕ_discrete}
use native.Mathlib.Nat.{zero-div}
use native.Mathlib.Omega.{arith}
use borrow.Author.Tests.{eqb-false, eq-eqb, ne_eqb}
use lib.Bits.{bit_and}
use lib.Count.{count_trailing_zeros}
use lib.Dec.{eqb}
use lib.ListN.{length, get_or, set, replicate, length-set, get_or-replicate}
use Rattle.finite.proofs.Bits.{bit_more, bit_more_below, lowest_set, lowest_below, lowest_under, cleared_bit}
use Rattle.finite.proofs.Update.{set_at}
use Rattle.plan.specs.Sizes.{max_items}
use Rattle.masks.specs.Masks.{mask_words, in_mask, Entered, Empty, Lowest}

-- by word and bit
in_at : (words : List ℕ) (k j a x : ℕ) → a / 64 ≡ k → a % 64 ≡ j → get_or words k 0 ≡ x → in_mask words a ≡ eqb (x / 2 ^ j % 2) 1
unfolding in_mask
in_at words k j a x e f g = rw (e, f, g)

in_zero : (words : List ℕ) (a : ℕ) → get_or words (a / 64) 0 ≡ 0 → in_mask words a ≡ false
in_zero words a z = in_at words (a / 64) (a % 64) a 0 refl refl z ∙ ap (λ (y : ℕ). eqb (y % 2) 1) (zero-div (2 ^ (a % 64)))

-- an empty set
pub none_in : (a : ℕ) → a < max_items → in_mask (replicate mask_words 0) a ≡ false
none_in a l = in_zero (replicate mask_words 0) a (get_or-replicate {A = ℕ} mask_words (a / 64) 0 0 (omega arith))

-- what is set at one word, in another and in its own
module _ (words : List ℕ) (k v : ℕ) (l : k < length words) where
  set_other : (b : ℕ) → (b / 64 ≡ k → ⊥) → in_mask (set words k v) b ≡ in_mask words b
  unfolding in_mask
  set_other b ne = ap (λ (y : ℕ). eqb (y / 2 ^ (b % 64) % 2) 1) (set_at words k (b / 64) v 0 l ∙ rw (ne_eqb (b / 64) k ne))

  set_own : (b : ℕ) → b / 64 ≡ k → in_mask (set words k v) b ≡ eqb (v / 2 ^ (b % 64) % 2) 1
  set_own b e = in_at (set words k v) (b / 64) (b % 64) b v refl refl (set_at words k (b / 64) v 0 l ∙ rw (eq-eqb (b / 64) k e))

-- two items of one word
same_word : (a b : ℕ) → a / 64 ≡ b / 64 → eqb (b % 64) (a % 64) ≡ eqb b a
same_word a b e =
    elim (ℕ_discrete b a) [
      | yes h ↦ rw (eq-eqb b a h, eq-eqb (b % 64) (a % 64) (ap (λ (x : ℕ). x % 64) h))
      | no h ↦ rw (ne_eqb b a h, ne_eqb (b % 64) (a % 64) (λ z. h (omega arith)))
    ]

-- a bit that is not set
unset : (y : ℕ) → y < 2 → eqb y 1 ≡ false → y ≡ 0
unset y l e = let n = eqb-false y 1 e in omega arith

-- putting item a, which does not stand there, into a set
module _ (words : List ℕ) (a p : ℕ) (size : length words ≡ mask_words) (la : a < max_items) (new : in_mask words a ≡ false) (below : get_or words (a / 64) 0 < 18446744073709551616)
    (power : p ≡ 2 ^ (a % 64)) where
  abbrev here : ℕ
  here = get_or words (a / 64) 0

  bit_new : here / 2 ^ (a % 64) % 2 ≡ 0
  bit_new = unset (here / 2 ^ (a % 64) % 2) (omega arith) (sym (in_at words (a / 64) (a % 64) a here refl refl refl) ∙ new)

  bit_small : a % 64 < 64
  bit_small = omega arith

  pub insert_fits : here + p < 18446744073709551616
  insert_fits = rw power (bit_more_below 64 here (a % 64) below bit_small bit_new)

  pub inserted : Entered words (λ b. eqb b a) (set words (a / 64) (here + p))
  inserted = record { size = length-set words (a / 64) (here + p) ∙ size; each = each }
    where
      word_small : a / 64 < length words
      word_small = omega arith

      with_bit : (t : Bool) (y : ℕ) → eqb (cond t 1 y) 1 ≡ (eqb y 1 || t)
      with_bit true y = sym (or_always (eqb y 1))
        where
          or_always : (t : Bool) → (t || true) ≡ true
          or_always true = refl
          or_always false = refl
      with_bit false y = sym (or-false (eqb y 1))

      own : (b : ℕ) → b / 64 ≡ a / 64 → eqb ((here + p) / 2 ^ (b % 64) % 2) 1 ≡ (eqb (here / 2 ^ (b % 64) % 2) 1 || eqb b a)
      own b e =
          rw power
          (ap (λ (y : ℕ). eqb y 1) (bit_more 64 here (a % 64) below bit_small bit_new (b % 64) (omega arith))
          ∙ (with_bit (eqb (b % 64) (a % 64)) (here / 2 ^ (b % 64) % 2) ∙ ap (λ (t : Bool). eqb (here / 2 ^ (b % 64) % 2) 1 || t) (same_word a b (sym e))))

      each : (b : ℕ) → b < max_items → in_mask (set words (a / 64) (here + p)) b ≡ (in_mask words b || eqb b a)
      each b l =
          elim (ℕ_discrete (b / 64) (a / 64)) [
            | yes e ↦
                set_own words (a / 64) (here + p) word_small b e
                ∙ (own b e ∙ ap (λ (t : Bool). t || eqb b a) (sym (in_at words (a / 64) (b % 64) b here e refl refl)))
            | no e ↦
                set_other words (a / 64) (here + p) word_small b e
                ∙ (sym (or-false (in_mask words b)) ∙ ap (λ (t : Bool). in_mask words b || t) (sym (ne_eqb b a (λ z. e (ap (λ (x : ℕ). x / 64) z)))))
          ]

-- looking for the lowest item: the first k words are 0
abbrev pub NoneIn : List ℕ → ℕ → Type 0
NoneIn words k = (i : ℕ) → i < k → get_or words i 0 ≡ 0

pub none_left : (words : List ℕ) → NoneIn words mask_words → Empty words
none_left words h b m = in_zero words b (h (b / 64) (omega arith))

-- word k is not
module _ (words : List ℕ) (k q : ℕ) (size : length words ≡ mask_words) (h : NoneIn words k) (l : k < mask_words) (some : get_or words k 0 ≡ 0 → ⊥)
    (below : get_or words k 0 < 18446744073709551616) (low : q ≡ count_trailing_zeros 64 (get_or words k 0)) where
  abbrev first : ℕ
  first = get_or words k 0

  first_some : 0 < first
  first_some = omega arith

  pub bit_below : q < 64
  bit_below = rw low (lowest_below 64 first first_some below 64 below)

  module _ (a : ℕ) (e : a ≡ 64 * k + q) where
    of_word : a / 64 ≡ k
    of_word = omega (arith, bit_below)

    of_bit : a % 64 ≡ q
    of_bit = omega (arith, bit_below)

    pub lowest_taken : Lowest words a (set words k (bit_and first (first - 1)))
    lowest_taken =
        record {
          size = length-set words k (bit_and first (first - 1)) ∙ size;
          below = omega (arith, bit_below);
          stands = in_at words k q a first of_word of_bit refl ∙ ap (λ (y : ℕ). eqb y 1) bit_set;
          none_before = none_before;
          each = each;
        }
      where
        bit_set : first / 2 ^ q % 2 ≡ 1
        bit_set = rw low (lowest_set 64 first first_some below)

        none_before : (b : ℕ) → b < a → in_mask words b ≡ false
        none_before b m =
            elim (dec_lt (b / 64) k) [
              | yes i ↦ in_zero words b (h (b / 64) i)
              | no i ↦ (
                  let j : b / 64 ≡ k = omega (arith, bit_below) in
                  in_at words k (b % 64) b first j refl refl
                  ∙ ap (λ (y : ℕ). eqb y 1) (lowest_under 64 first first_some below (b % 64) (omega (arith, bit_below, low))))
            ]

        without_bit : (t : Bool) (y : ℕ) → eqb (cond t 0 y) 1 ≡ (eqb y 1 && not t)
        without_bit true y = sym (and_never (eqb y 1))
          where
            and_never : (t : Bool) → (t && false) ≡ false
            and_never true = refl
            and_never false = refl
        without_bit false y = sym (and-always (eqb y 1))

        own : (b : ℕ) → b / 64 ≡ k → eqb (bit_and first (first - 1) / 2 ^ (b % 64) % 2) 1 ≡ (eqb (first / 2 ^ (b % 64) % 2) 1 && not (eqb b a))
        own b i =
            ap (λ (y : ℕ). eqb y 1) (cleared_bit 64 first first_some below (b % 64) (omega arith))
            ∙ (without_bit (eqb (b % 64) (count_trailing_zeros 64 first)) (first / 2 ^ (b % 64) % 2)
            ∙ ap (λ (t : Bool). eqb (first / 2 ^ (b % 64) % 2) 1 && not t)
            (ap (eqb (b % 64)) (sym low ∙ sym of_bit) ∙ same_word a b (of_word ∙ sym i)))

        each : (b : ℕ) → b < max_items → in_mask (set words k (bit_and first (first - 1))) b ≡ (in_mask words b && not (eqb b a))
        each b m =
            elim (ℕ_discrete (b / 64) k) [
              | yes i ↦
                  set_own words k (bit_and first (first - 1)) (omega arith) b i
                  ∙ (own b i ∙ ap (λ (t : Bool). t && not (eqb b a)) (sym (in_at words k (b % 64) b first i refl refl)))
              | no i ↦
                  set_other words k (bit_and first (first - 1)) (omega arith) b i
                  ∙ (sym (and-always (in_mask words b)) ∙ ap (λ (t : Bool). in_mask words b && not t) (sym (ne_eqb b a (λ z. i (ap (λ (x : ℕ). x / 64) z ∙ of_word)))))
            ]
