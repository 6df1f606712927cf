-- The decimal digits of a 64-bit number: its last digit behind those of a tenth of it, and how many they are.
use Prim.Native.Nat.{ℕ, zero, suc, ◌+◌, ◌-◌, ◌/◌, ◌%◌, ◌^◌, ◌≤◌, ◌<◌}
use mathlib.Core.Path.{◌≡◌, refl, sym, ◌∙◌, ap}
use mathlib.Core.Bool.{Bool, true, false}
use mathlib.Core.List.{List, [], ◌∷◌, ◌++◌, append_assoc}
use native.Mathlib.Nat.{pow-suc}
use native.Mathlib.Decide.{dec_lt}
use native.Mathlib.Omega.{arith}
use borrow.Author.Tests.{lt-ltb, le-ltb}
use lib.Dec.{ltb}
use lib.ListN.{length, set, length-append}
use lib.Seq.{sets, length-sets}
use Rattle.finite.specs.Put.{Added, RoomAt}
use Rattle.finite.proofs.Puts.{added, sets_last}
use Rattle.text.specs.declared.Number.TheVariants.{Value}
use Rattle.text.specs.Digits.{decimal, digits}
use Rattle.text.proofs.DecimalLaws.{below, digits_most}

-- one step more changes nothing where the steps are enough
decimal_enough : (k n : ℕ) → n < 10 ^ suc k → decimal (suc k) n ≡ decimal k n
decimal_enough zero n h = rw (lt-ltb n 10 h)
decimal_enough (suc k) n h = go (ltb n 10) refl (decimal_enough k (n / 10))
  where
    go : (t : Bool) → ltb n 10 ≡ t → (n / 10 < 10 ^ suc k → decimal (suc k) (n / 10) ≡ decimal k (n / 10)) → decimal (suc (suc k)) n ≡ decimal (suc k) n
    go true e ih = rw e
    go false e ih = let s = pow-suc 10 (suc k) in rw e (ap (λ l. l ++ ((48 + n % 10) ∷ [])) (ih (omega arith)))

digits_one : (n : ℕ) → n < 10 → digits (Value n) ≡ (48 + n) ∷ []
unfolding digits
digits_one n h = rw (lt-ltb n 10 h)

digits_more : (n : ℕ) → 10 ≤ n → n < 18446744073709551616 → digits (Value n) ≡ digits (Value (n / 10)) ++ ((48 + n % 10) ∷ [])
unfolding digits
digits_more n h l = rw (le-ltb n 10 h) (ap (λ l. l ++ ((48 + n % 10) ∷ [])) (sym (decimal_enough 18 (n / 10) (omega arith))))

-- its last two digits
digits_two : (n : ℕ) → 10 ≤ n → n < 100 → digits (Value n) ≡ (48 + n / 10) ∷ (48 + n % 10) ∷ []
digits_two n h l = digits_more n h (omega arith) ∙ ap (λ (s : List ℕ). s ++ ((48 + n % 10) ∷ [])) (digits_one (n / 10) (omega arith))

digits_pair : (n : ℕ) → 100 ≤ n → n < 18446744073709551616 →
    digits (Value n) ≡ digits (Value (n / 100)) ++ ((48 + n % 100 / 10) ∷ (48 + n % 100 % 10) ∷ [])
digits_pair n h l =
    let t : n / 10 / 10 ≡ n / 100 = omega arith in
    let x : n / 10 % 10 ≡ n % 100 / 10 = omega arith in
    let y : n % 10 ≡ n % 100 % 10 = omega arith in
    digits_more n (omega arith) l
    ∙ ap (λ (s : List ℕ). s ++ ((48 + n % 10) ∷ [])) (digits_more (n / 10) (omega arith) (omega arith))
    ∙ append_assoc (digits (Value (n / 10 / 10))) ((48 + n / 10 % 10) ∷ []) ((48 + n % 10) ∷ [])
    ∙ rw (t, x, y)

-- how many they are

length_more : (n : ℕ) → 10 ≤ n → n < 18446744073709551616 → length (digits (Value n)) ≡ length (digits (Value (n / 10))) + 1
length_more n h l = ap length (digits_more n h l) ∙ length-append (digits (Value (n / 10))) ((48 + n % 10) ∷ [])

pub length_one_lem : (n : ℕ) → n < 10 → length (digits (Value n)) ≡ 1
length_one_lem n h = ap length (digits_one n h)

pub length_two : (n : ℕ) → 10 ≤ n → n < 100 → length (digits (Value n)) ≡ 2
length_two n h l = ap length (digits_two n h l)

pub length_three : (n : ℕ) → 100 ≤ n → n < 1000 → length (digits (Value n)) ≡ 3
length_three n h l = omega (arith, length_more n (omega arith) (omega arith), length_two (n / 10) (omega arith) (omega arith))

pub length_four : (n : ℕ) → 1000 ≤ n → n < 10000 → length (digits (Value n)) ≡ 4
length_four n h l = omega (arith, length_more n (omega arith) (omega arith), length_three (n / 10) (omega arith) (omega arith))

-- four fewer for a ten-thousandth
length_myriad : (n : ℕ) → 10000 ≤ n → n < 18446744073709551616 → length (digits (Value n)) ≡ length (digits (Value (n / 10000))) + 4
length_myriad n h l =
    let e : n / 10 / 10 / 10 / 10 ≡ n / 10000 = omega arith in
    omega (
      arith,
      length_more n (omega arith) l,
      length_more (n / 10) (omega arith) (omega arith),
      length_more (n / 10 / 10) (omega arith) (omega arith),
      length_more (n / 10 / 10 / 10) (omega arith) (omega arith),
      ap (λ (x : ℕ). length (digits (Value x))) e,
    )

length_some : (n : ℕ) → n < 18446744073709551616 → 1 ≤ length (digits (Value n))
length_some n l =
    elim (dec_lt n 10) [
      | yes h ↦ omega (arith, length_one_lem n h)
      | no h ↦ omega (arith, length_more n (omega arith) l)
    ]

length_most : (n : ℕ) → n < 18446744073709551616 → length (digits (Value n)) ≤ 20
length_most n l = digits_most 19 n (below n (omega arith))

-- A loop that counts the digits of n: those of rest are left, and so many stand behind them.
pub record Counted (n rest behind : ℕ) : Type 0 where
  pub word : rest < 18446744073709551616
  pub all : behind + length (digits (Value rest)) ≡ length (digits (Value n))
  pub most : behind + length (digits (Value rest)) ≤ 20

pub counted_none : (n : ℕ) → n < 18446744073709551616 → Counted n n 0
counted_none n l = record { word = l; all = omega arith; most = omega (arith, length_most n l) }

pub counted_more_lem : (n rest behind : ℕ) → Counted n rest behind → 10000 ≤ rest → Counted n (rest / 10000) (behind + 4)
counted_more_lem n rest behind a h =
    let m = length_myriad rest h a.word in
    record { word = omega (arith, a.word); all = omega (arith, a.all); most = omega (arith, a.most) }

-- A loop that stores the digits of n from the last to the first: those of rest are left, and end before i. What is left to store makes what is to be.
pub record Left (n at : ℕ) (out : List ℕ) (i rest : ℕ) (mid : List ℕ) : Type 0 where
  pub word : rest < 18446744073709551616
  pub ends : i ≡ at + length (digits (Value rest))
  pub some : at < i
  pub room : i ≤ length mid
  pub size : length mid ≡ length out
  pub makes : sets mid at (digits (Value rest)) ≡ sets out at (digits (Value n))

pub left_all_lem : (n at : ℕ) (out : List ℕ) (k : ℕ) → n < 18446744073709551616 → RoomAt (digits (Value n)) at out → k ≡ length (digits (Value n)) → Left n at out (at + k) n out
left_all_lem n at out k l h e = record { word = l; ends = omega arith; some = omega (arith, length_some n l); room = omega (arith, h.fits); size = refl; makes = refl }

-- two digits fewer
module _ (n at : ℕ) (out : List ℕ) (i rest : ℕ) (mid : List ℕ) (a : Left n at out i rest mid) where
  before : 100 ≤ rest → i ≡ at + length (digits (Value (rest / 100))) + 2
  before h = omega (arith, a.ends, ap length (digits_pair rest h a.word), length-append (digits (Value (rest / 100))) ((48 + rest % 100 / 10) ∷ (48 + rest % 100 % 10) ∷ []))

  pub left_two : 100 ≤ rest → (2 ≤ i) × (i - 2 + 1 < length mid)
  left_two h = (omega (arith, before h), omega (arith, before h, a.room))

  pub left_less : 100 ≤ rest → (mid' : List ℕ) → mid' ≡ sets mid (i - 2) ((48 + rest % 100 / 10) ∷ (48 + rest % 100 % 10) ∷ []) →
      Left n at out (i - 2) (rest / 100) mid'
  left_less h mid' s =
      let pair = (48 + rest % 100 / 10) ∷ (48 + rest % 100 % 10) ∷ [] in
      let w : rest / 100 < 18446744073709551616 = omega (arith, a.word) in
      let e : i - 2 ≡ at + length (digits (Value (rest / 100))) = omega (arith, before h) in
      let k : length mid' ≡ length mid = ap length s ∙ length-sets mid (i - 2) pair in
      record {
        word = w;
        ends = e;
        some = omega (arith, length_some (rest / 100) w);
        room = omega (arith, a.room);
        size = k ∙ a.size;
        makes =
            rw (s, e)
            (sym (sets_last (digits (Value (rest / 100))) ((48 + rest % 100 / 10) ∷ (48 + rest % 100 % 10) ∷ []) mid at)
            ∙ (rw (digits_pair rest h a.word) at a.makes));
      }

  -- one digit or two left
  pub left_last : 10 ≤ rest → rest < 100 → at + 1 < length mid
  left_last h l = omega (arith, a.ends, a.room, length_two rest h l)

  pub left_one : (end : ℕ) → rest < 10 → end ≡ at + length (digits (Value n)) → Added (digits (Value n)) at out end (set mid at (48 + rest))
  left_one end h e = added e (rw (digits_one rest h) at a.makes)

  pub left_pair : (end : ℕ) (mid' : List ℕ) → 10 ≤ rest → rest < 100 → end ≡ at + length (digits (Value n)) →
      mid' ≡ sets mid at ((48 + rest / 10) ∷ (48 + rest % 10) ∷ []) → Added (digits (Value n)) at out end mid'
  left_pair end mid' h l e s = added e (s ∙ (rw (digits_two rest h l) at a.makes))
