-- The line at an offset, and what it says of the rest of the text: the laws that a loop over the
-- lines asks.
use Rattle.std.proofs.Common.{◌≡◌, ℕ, ◌+◌, ◌-◌, ◌<◌, ◌≤◌, Bool, true, false, ltb, List, [], ◌∷◌, ◌++◌, length, take, drop, refl, sym, ap, ◌∙◌, add-one, arith, length-append, length-drop, length-take-le, drop-drop, take_at, ltb-false, ltb-true, Option, Some, None}
use Rattle.text.specs.Text.{before}
use Rattle.text.specs.Records.{is, split, ended, line_at, next_of, record_at, record_of, saying}
use Rattle.text.specs.declared.Line.{Line}
use Rattle.text.specs.declared.Record.{Record}
use Rattle.text.specs.declared.Record.TheVariants.{Unreadable}
use Rattle.text.proofs.SplitLaws.{cut_last, cut_more, split_cons, take_before}

-- the first line, where the first line feed stands at n
module _ (t : List ℕ) (n : ℕ) (e : n ≡ before (is 10) t) where
  pub ended_last : length t ≤ n → ended (split 10 t) ≡ []
  ended_last h = rw (cut_last 10 t n e h)

  pub ended_more : n < length t → ended (split 10 t) ≡ take n t ++ (10 ∷ [])
  ended_more h = let r = split_cons 10 (drop (n + 1) t) in rw (cut_more 10 t n e h, r.2)

  pub ended_take : n < length t → take (n + 1) t ≡ ended (split 10 t)
  ended_take h = rw (ended_more h, add-one n, e) (take_before 10 t (omega arith))

-- the line l at `at`
module _ (s : List ℕ) (at : ℕ) (l : List ℕ) (e : l ≡ line_at s at) where
  abbrev rest_of : List ℕ
  rest_of = drop at s

  abbrev size : ℕ
  size = before (is 10) rest_of

  pub line_found : 1 ≤ length l → (split 10 (drop at s) ≡ take (length l - 1) l ∷ split 10 (drop (at + length l) s)) × (at + length l ≤ length s)
  line_found h = go (ltb size (length rest_of)) refl
    where
      go : (t : Bool) → ltb size (length rest_of) ≡ t → (split 10 rest_of ≡ take (length l - 1) l ∷ split 10 (drop (at + length l) s)) × (at + length l ≤ length s)
      go true p =
          let k : size < length rest_of = ltb-true _ _ p in
          let q : l ≡ take size rest_of ++ (10 ∷ []) = e ∙ ended_more rest_of size refl k in
          let n : length (take size rest_of) ≡ length l - 1 = omega (arith, ap length q, length-append (take size rest_of) (10 ∷ [])) in
          let m : length l ≡ size + 1 = omega (arith, length-take-le size rest_of (omega arith)) in
          let f : take (length l - 1) l ≡ take size rest_of = ap (take (length l - 1)) q ∙ take_at (take size rest_of) (10 ∷ []) (length l - 1) n in
          (rw (f, m, ← drop-drop (size + 1) at s) (cut_more 10 rest_of size refl k), omega (arith, length-drop at s))
      go false p = absurd (omega (arith, ap length (e ∙ ended_last rest_of size refl (ltb-false _ _ p))))

  pub line_none : length l ≡ 0 → split 10 (drop at s) ≡ drop at s ∷ []
  line_none h = go (ltb size (length rest_of)) refl
    where
      go : (t : Bool) → ltb size (length rest_of) ≡ t → split 10 rest_of ≡ rest_of ∷ []
      go true p =
          absurd (omega (arith, ap length (e ∙ ended_more rest_of size refl (ltb-true _ _ p)), length-append (take size rest_of) (10 ∷ [])))
      go false p = cut_last 10 rest_of size refl (ltb-false _ _ p)

  pub record_found : 1 ≤ length l → record_at s at ≡ Some (saying (record_of (take (length l - 1) l)) (at + length l))
  record_found h =
      let r = split_cons 10 (drop (at + length l) s) in
      let n : at + length (take (length l - 1) l) + 1 ≡ at + length l = omega (arith, length-take-le (length l - 1) l (omega arith)) in
      rw ((line_found h).0, r.2) (ap (λ (k : ℕ). Some (saying (record_of (take (length l - 1) l)) k)) n)

  pub record_none : length l ≡ 0 → record_at s at ≡ None
  record_none h = rw (line_none h)

-- what is said where a line was found
abbrev record_in : Option Line → Record
record_in (Some l) = l.says
record_in None = Unreadable

-- the line at `at` says r, and the next one starts at next
pub record LineAt (s : List ℕ) (at : ℕ) (r : Record) (next : ℕ) : Type 0 where
  pub line : List ℕ
  pub says : r ≡ record_of line
  pub parts : split 10 (drop at s) ≡ line ∷ split 10 (drop next s)
  pub on : at < next
  pub within : next ≤ length s

module _ (s : List ℕ) (at : ℕ) where
  abbrev the_line : List ℕ
  the_line = line_at s at

  pub line_at_lem : (r : Record) (next : ℕ) → record_at s at ≡ Some (saying r next) → LineAt s at r next
  line_at_lem r next e = go (ltb 0 (length the_line)) refl
    where
      go : (t : Bool) → ltb 0 (length the_line) ≡ t → LineAt s at r next
      go true p =
          let h : 1 ≤ length the_line = ltb-true _ _ p in
          let f = line_found s at the_line refl h in
          let q = record_found s at the_line refl h in
          let n : next ≡ at + length the_line = ap (next_of 0) (sym e ∙ q) in
          record {
            line = take (length the_line - 1) the_line;
            says = ap record_in (sym e ∙ q);
            parts = rw n f.0;
            on = omega arith;
            within = omega (arith, f.1);
          }
      go false p =
          let q = record_none s at the_line refl (omega (arith, ltb-false 0 (length the_line) p)) in
          let z : ◌≡◌ {A = ℕ} 0 1 = cc in
          absurd (omega arith)

  pub line_end : record_at s at ≡ None → split 10 (drop at s) ≡ drop at s ∷ []
  line_end e = go (ltb 0 (length the_line)) refl
    where
      go : (t : Bool) → ltb 0 (length the_line) ≡ t → split 10 (drop at s) ≡ drop at s ∷ []
      go true p =
          let q = record_found s at the_line refl (ltb-true _ _ p) in
          let z : ◌≡◌ {A = ℕ} 0 1 = cc in
          absurd (omega arith)
      go false p = line_none s at the_line refl (omega (arith, ltb-false 0 (length the_line) p))
