-- Where a byte stands among others (paper 01, "The plan text": lines ended by a line feed, fields
-- parted by one tab), and the bytes of a word.
use Rattle.std.specs.Prelude.{ℕ, zero, suc, ◌/◌, ◌%◌, Bool, cond, List, [], ◌∷◌}

-- how many bytes stand before the first that p holds of: all of them where it holds of none
abbrev pub before : (ℕ → Bool) → List ℕ → ℕ
before p [] = 0
before p (c ∷ s) = cond (p c) 0 (suc (before p s))

-- the n lowest bytes of a word, the lowest first
abbrev pub bytes : ℕ → ℕ → List ℕ
bytes zero w = []
bytes (suc n) w = (w % 256) ∷ bytes n (w / 256)
