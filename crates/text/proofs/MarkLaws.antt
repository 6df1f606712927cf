-- The marks of a word, byte by byte from the low end. x is the word xor the byte on all places, y
-- is x less 1 on all places, z is what x lacks of 255 on all places. Where the lowest byte of x is
-- 0, those of y and z are 255 and the mark stands there, whatever the higher places hold. Elsewhere
-- nothing is borrowed from the higher places: the lowest bytes of y and z are 254 together, so one
-- of them is below 128, and there is no mark.
use Rattle.std.proofs.Common.{◌≡◌, ℕ, zero, suc, ◌+◌, ◌-◌, ◌*◌, ◌/◌, ◌%◌, ◌^◌, ◌<◌, Bool, true, false, eqb, List, take, drop, sym, refl, ap, ◌∙◌, ⊎_elim, mul_assoc, eq-zero-or-pos, pow-suc, mul-one, arith, eq-eqb, ne_eqb, eqb-true}
use borrow.Author.Tests.{eqb-false}
use lib.Bits.{bit_and, bit_xor, and_comm, and_le_l, and_le_r, and_shifted, and_mod, and_shr, xor_mod, xor_shr, xor_self, xor_add_and}
use lib.Count.{count_trailing_zeros, trailing_of_zero}
use Rattle.text.specs.Text.{before, bytes}
use Rattle.text.specs.Records.{is}
use Rattle.text.proofs.Laws.{before_behind}

-- the byte c on n places
abbrev spread : ℕ → ℕ → ℕ
spread zero c = 0
spread (suc n) c = c + 256 * spread n c

-- q above n places
abbrev above : ℕ → ℕ → ℕ
above zero q = q
above (suc n) q = 256 * above n q

-- m marks the first b among the n lowest bytes of w
abbrev Marked : ℕ → ℕ → ℕ → ℕ → Type 0
Marked n b w m = count_trailing_zeros (8 * n) m / 8 ≡ before (is b) (bytes n w)

xor_pos : (a b : ℕ) → (a ≡ b → ⊥) → 0 < bit_xor a b
xor_pos a b ne = ⊎_elim (λ e. absurd (ne (omega (arith, xor_add_and a b, and_le_l a b, and_le_r a b)))) (λ h. h) (eq-zero-or-pos (bit_xor a b))

-- two bytes that make 254 have no digit 128 in common
and_below : (y z : ℕ) → y + z ≡ 254 → bit_and (bit_and y z) 128 ≡ 0
and_below y z e = and_comm (bit_and y z) 128 ∙ and_shifted 1 7 (bit_and y z) (omega (arith, and_le_l y z, and_le_r y z))

-- trailing zeros: an even number has one more than its half, an odd one has none
zeros_even : (k m : ℕ) → m % 2 ≡ 0 → count_trailing_zeros (suc k) m ≡ suc (count_trailing_zeros k (m / 2))
unfolding count_trailing_zeros
zeros_even k m e = rw e

zeros_odd : (k m : ℕ) → m % 2 ≡ 1 → count_trailing_zeros (suc k) m ≡ 0
unfolding count_trailing_zeros
zeros_odd k m e = rw e

-- j digits 0 add j zeros
zeros_shift : (j k q : ℕ) → count_trailing_zeros (j + k) (q * 2 ^ j) ≡ j + count_trailing_zeros k q
zeros_shift zero k q =
    let e : 0 + k ≡ k = omega arith in
    rw (e, mul-one q) (omega arith)
zeros_shift (suc j) k q =
    let twice : q * 2 ^ suc j ≡ q * 2 ^ j * 2 = ap (λ (x : ℕ). q * x) (pow-suc 2 j) ∙ sym (mul_assoc q (2 ^ j) 2) in
    let more : suc j + k ≡ suc (j + k) = omega arith in
    let half : q * 2 ^ j * 2 / 2 ≡ q * 2 ^ j = omega arith in
    rw (twice, more, zeros_even (j + k) (q * 2 ^ j * 2) (omega arith), half, zeros_shift j k q) (omega arith)

-- below eight digits 0, and below the highest of eight
module _ (n m : ℕ) where
  zeros_more : m % 256 ≡ 0 → count_trailing_zeros (8 * suc n) m ≡ 8 + count_trailing_zeros (8 * n) (m / 256)
  zeros_more e =
      let width : 8 * suc n ≡ 8 + 8 * n = omega arith in
      let shifted : m ≡ m / 256 * 256 = omega arith in
      ap (λ (k : ℕ). count_trailing_zeros k m) width ∙ ap (count_trailing_zeros (8 + 8 * n)) shifted ∙ zeros_shift 8 (8 * n) (m / 256)

  zeros_here : m % 256 ≡ 128 → count_trailing_zeros (8 * suc n) m ≡ 7
  zeros_here e =
      let q = 2 * (m / 256) + 1 in
      let width : 8 * suc n ≡ 7 + suc (8 * n) = omega arith in
      let shifted : m ≡ q * 128 = omega arith in
      ap (λ (k : ℕ). count_trailing_zeros k m) width ∙ ap (count_trailing_zeros (7 + suc (8 * n))) shifted ∙ zeros_shift 7 (suc (8 * n)) q
      ∙ ap (λ (t : ℕ). 7 + t) (zeros_odd (8 * n) q (omega arith))

-- the lowest byte of a word and the bytes above it are worked on apart
module _ (w c p : ℕ) (byte : c < 256) where
  low : (c + 256 * p) % 256 ≡ c
  low = omega arith

  high : (c + 256 * p) / 256 ≡ p
  high = omega arith

  xor_low : bit_xor w (c + 256 * p) % 256 ≡ bit_xor (w % 256) c
  xor_low = rw (xor_mod w (c + 256 * p) 8, low)

  xor_high : bit_xor w (c + 256 * p) / 256 ≡ bit_xor (w / 256) p
  xor_high = rw (xor_shr w (c + 256 * p) 8, high)

  and_low : bit_and w (c + 256 * p) % 256 ≡ bit_and (w % 256) c
  and_low = rw (and_mod w (c + 256 * p) 8, low)

  and_high : bit_and w (c + 256 * p) / 256 ≡ bit_and (w / 256) p
  and_high = rw (and_shr w (c + 256 * p) 8, high)

marks_low : (y z p : ℕ) → bit_and (bit_and y z) (128 + 256 * p) % 256 ≡ bit_and (bit_and (y % 256) (z % 256)) 128
marks_low y z p = and_low (bit_and y z) 128 p (omega arith) ∙ rw (and_mod y z 8)

marks_high : (y z p : ℕ) → bit_and (bit_and y z) (128 + 256 * p) / 256 ≡ bit_and (bit_and (y / 256) (z / 256)) p
marks_high y z p = and_high (bit_and y z) 128 p (omega arith) ∙ rw (and_shr y z 8)

-- the first byte is b, and its mark is the lowest
marked_here : (n b w m : ℕ) → w % 256 ≡ b → m % 256 ≡ 128 → Marked (suc n) b w m
marked_here n b w m e k = rw (zeros_here n m k, eq-eqb (w % 256) b e)

-- it is not, and has no mark
marked_more : (n b w m : ℕ) → (w % 256 ≡ b → ⊥) → m % 256 ≡ 0 → Marked n b (w / 256) (m / 256) → Marked (suc n) b w m
marked_more n b w m ne k r = rw (zeros_more n m k, ne_eqb (w % 256) b ne) (omega arith)

module _ (b : ℕ) (byte : b < 256) where
  -- one byte of a word
  marked_step : (n w x y z m o p r : ℕ) → x % 256 ≡ bit_xor (w % 256) b → y + (1 + 256 * o) ≡ x + 256 * p → z + x ≡ 255 + 256 * r
      → m % 256 ≡ bit_and (bit_and (y % 256) (z % 256)) 128 → (y / 256 + o ≡ x / 256 + p → z / 256 + x / 256 ≡ r → Marked n b (w / 256) (m / 256)) → Marked (suc n) b w m
  marked_step n w x y z m o p r hx hy hz hm ih = go (eqb (w % 256) b) refl
    where
      go : (t : Bool) → eqb (w % 256) b ≡ t → Marked (suc n) b w m
      go true e =
          let same = eqb-true (w % 256) b e in
          let x0 : x % 256 ≡ 0 = hx ∙ rw same (xor_self b) in
          let y0 : y % 256 ≡ 255 = omega arith in
          let z0 : z % 256 ≡ 255 = omega arith in
          marked_here n b w m same (hm ∙ rw (y0, z0))
      go false e =
          let ne = eqb-false (w % 256) b e in
          let pos = xor_pos (w % 256) b ne in
          let sum : y % 256 + z % 256 ≡ 254 = omega arith in
          marked_more n b w m ne (hm ∙ and_below (y % 256) (z % 256) sum) (ih (omega arith) (omega arith))

  marked : (n w y z q : ℕ) → y + spread n 1 ≡ bit_xor w (spread n b) + above n q → z + bit_xor w (spread n b) ≡ spread n 255
      → Marked n b w (bit_and (bit_and y z) (spread n 128))
  unfolding count_trailing_zeros
  marked zero w y z q f g = refl
  marked (suc n) w y z q f g =
      marked_step
      n
      w
      (bit_xor w (spread (suc n) b))
      y
      z
      (bit_and (bit_and y z) (spread (suc n) 128))
      (spread n 1)
      (above n q)
      (spread n 255)
      (xor_low w b (spread n b) byte)
      f
      g
      (marks_low y z (spread n 128))
      (λ u v. rw (marks_high y z (spread n 128)) (marked n (w / 256) (y / 256) (z / 256) q (rw (xor_high w b (spread n b) byte) at u) (rw (xor_high w b (spread n b) byte) at v)))

-- as the code has it at a word of eight bytes: x is w xor b on all places, y is x less 1 on all
-- places, modulo 2 ^ 64
pub word_marked : (w b y : ℕ) → b < 256 → (y + 0x0101_0101_0101_0101) % 2 ^ 64 ≡ bit_xor w (b * 0x0101_0101_0101_0101)
    → Marked 8 b w (bit_and (bit_and y ((2 ^ 64 - 1) - bit_xor w (b * 0x0101_0101_0101_0101))) 0x8080_8080_8080_8080)
word_marked w b y h e =
    let x = bit_xor w (b * 0x0101_0101_0101_0101) in
    let p : b * 0x0101_0101_0101_0101 ≡ spread 8 b = omega arith in
    marked b h 8 w y ((2 ^ 64 - 1) - x) ((y + 0x0101_0101_0101_0101) / 2 ^ 64)
    (omega (arith, ap (bit_xor w) p))
    (omega (arith, ap (bit_xor w) p))

-- what a search learns from the marks of the word that the first eight bytes of l are
module _ (b w m : ℕ) (l : List ℕ) (r : Marked 8 b w m) (e : bytes 8 w ≡ take 8 l) where
  first_eight : count_trailing_zeros 64 m / 8 ≡ before (is b) (take 8 l)
  first_eight = r ∙ ap (before (is b)) e

  pub mark_none : m ≡ 0 → before (is b) l ≡ 8 + before (is b) (drop 8 l)
  mark_none z =
      let all : count_trailing_zeros 64 m / 8 ≡ 8 = rw (z, trailing_of_zero 64) in
      before_behind (is b) 8 l (omega (arith, first_eight))
