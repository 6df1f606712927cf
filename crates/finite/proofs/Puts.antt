-- Numbers stored from an offset on, part behind part.
use Prim.Native.Nat.{ℕ, suc, ◌+◌, ◌-◌, ◌≤◌, ◌<◌}
use mathlib.Core.Path.{◌≡◌, refl, sym, ◌∙◌, ap}
use mathlib.Core.List.{List, [], ◌∷◌, ◌++◌, append-nil, append_assoc}
use native.Mathlib.Numerals.{add-one}
use native.Mathlib.Omega.{arith}
use lib.ListN.{length, get_or, take, drop, set, length-append, length-drop, drop_of_length-le}
use lib.Seq.{sets, length-sets, sets-eq, set_comm, drop-cons, take_all, drop-drop, take-append_seam, drop-append_seam}
use Rattle.finite.specs.Lists.{collect}
use Rattle.finite.specs.Put.{Put, Room, Added, RoomAt}
use Rattle.finite.proofs.Collect.{collect_next, collect_room}

-- sets

sets_append : (xs ys l : List ℕ) (i : ℕ) → sets l i (xs ++ ys) ≡ sets (sets l i xs) (i + length xs) ys
sets_append [] ys l i = let e : i + 0 ≡ i = omega arith in rw e
sets_append (x ∷ xs) ys l i = let e : i + suc (length xs) ≡ suc i + length xs = omega arith in rw e (sets_append xs ys (set l i x) (suc i))

-- a store behind them may come first
sets_set : (xs l : List ℕ) (i j v : ℕ) → i + length xs ≤ j → set (sets l i xs) j v ≡ sets (set l j v) i xs
sets_set [] l i j v h = refl
sets_set (x ∷ xs) l i j v h =
    sets_set xs (set l i x) (suc i) j v (omega arith)
    ∙ ap (λ (m : List ℕ). sets m (suc i) xs) (set_comm l i j x v (λ (e : i ≡ j). omega arith))

sets_swap : (ys xs l : List ℕ) (i j : ℕ) → i + length xs ≤ j → sets (sets l i xs) j ys ≡ sets (sets l j ys) i xs
sets_swap [] xs l i j h = refl
sets_swap (y ∷ ys) xs l i j h = ap (λ (m : List ℕ). sets m (suc j) ys) (sets_set xs l i j y h) ∙ sets_swap ys xs (set l j y) i (suc j) (omega arith)

-- the last ones stored first
pub sets_last : (xs ys l : List ℕ) (i : ℕ) → sets l i (xs ++ ys) ≡ sets (sets l (i + length xs) ys) i xs
sets_last xs ys l i = sets_append xs ys l i ∙ sets_swap ys xs l i (i + length xs) (omega arith)

-- Added

pub added : {X : List ℕ} {at : ℕ} {out : List ℕ} {r : ℕ} {out' : List ℕ} → r ≡ at + length X → out' ≡ sets out at X → Added X at out r out'
added {X} {at} {out} e s = record { end = e; size = ap length s ∙ length-sets out at X; stored = s }

pub added_none : {at : ℕ} {out : List ℕ} → Added [] at out at out
added_none = added (omega arith) refl

pub added_append : {xs ys : List ℕ} {at : ℕ} {out : List ℕ} {r : ℕ} {mid : List ℕ} {s : ℕ} {out' : List ℕ} →
    Added xs at out r mid → Added ys r mid s out' → Added (xs ++ ys) at out s out'
added_append {xs} {ys} {at} {out} a b =
    added (omega (arith, a.end, b.end, length-append xs ys)) (b.stored ∙ (rw (a.stored, a.end) (sym (sets_append xs ys out at))))

-- stored as v
pub added_one : {v x at : ℕ} {out : List ℕ} → v ≡ x → Added (x ∷ []) at out (at + 1) (set out at v)
added_one e = added refl (rw e)

pub added_pair : {x y a b at : ℕ} {out : List ℕ} {r : ℕ} {mid : List ℕ} {s : ℕ} {out' : List ℕ} → x ≡ a → y ≡ b →
    Added (x ∷ []) at out r mid → Added (y ∷ []) r mid s out' → Added (a ∷ b ∷ []) at out s out'
added_pair e f p q = rw (← e, ← f) (added_append p q)

pub added_three : {x y z a b d at : ℕ} {out : List ℕ} → x ≡ a → y ≡ b → z ≡ d →
    Added (a ∷ b ∷ d ∷ []) at out (at + 3) (set (set (set out at x) (at + 1) y) (at + 2) z)
added_three {at = at} e f g =
    let i : at + 1 ≡ suc at = omega arith in
    let j : at + 2 ≡ suc (suc at) = omega arith in
    added refl (rw (e, f, g, i, j))

pub added_same : {xs ys : List ℕ} {at : ℕ} {out : List ℕ} {r : ℕ} {out' : List ℕ} → xs ≡ ys → Added xs at out r out' → Added ys at out r out'
added_same e a = rw (sym e) a

-- all from the start on
pub added_put : {X out : List ℕ} {r : ℕ} {out' : List ℕ} → Room X out → Added X 0 out r out' → Put X out r out'
added_put {X} {out} h a =
    let e : 0 + length X ≡ length X = omega arith in
    record { count = omega (arith, a.end); begins = a.stored ∙ (sets-eq X out 0 (omega arith) ∙ rw e) }

-- a loop that stores X from the first to the last: what is left to store makes what is to be
module _ (X : List ℕ) (at : ℕ) (out : List ℕ) where
  pub copy_none : sets out (at + 0) (drop 0 X) ≡ sets out at X
  copy_none = let e : at + 0 ≡ at = omega arith in rw e

  pub copy_more : (i : ℕ) (mid : List ℕ) → i < length X → sets mid (at + i) (drop i X) ≡ sets out at X →
      sets (set mid (at + i) (get_or X i 0)) (at + (i + 1)) (drop (i + 1) X) ≡ sets out at X
  copy_more i mid l h = let e : at + (i + 1) ≡ suc (at + i) = omega arith in rw (e, add-one i) (rw (drop-cons X i 0 l) at h)

  pub copy_done : (i : ℕ) (out' : List ℕ) → length X ≤ i → i ≤ length X → sets out' (at + i) (drop i X) ≡ sets out at X → Added X at out (at + i) out'
  copy_done i out' l m h = added (omega arith) (rw (drop_of_length-le X l) at h)

-- RoomAt

pub room_start : {X out : List ℕ} → Room X out → RoomAt X 0 out
room_start h = record { fits = omega arith }

pub room_same : {xs ys : List ℕ} {at : ℕ} {out : List ℕ} → xs ≡ ys → RoomAt xs at out → RoomAt ys at out
room_same e h = rw (sym e) h

-- for a first part, and for the rest behind it
pub room_first : (xs ys : List ℕ) {at : ℕ} {out : List ℕ} → RoomAt (xs ++ ys) at out → RoomAt xs at out
room_first xs ys h = record { fits = omega (arith, h.fits, length-append xs ys) }

pub room_rest : {xs ys : List ℕ} {at : ℕ} {out : List ℕ} {r : ℕ} {mid : List ℕ} → Added xs at out r mid → RoomAt (xs ++ ys) at out → RoomAt ys r mid
room_rest {xs} {ys} a h = record { fits = omega (arith, h.fits, length-append xs ys, a.end, a.size) }

-- a loop that puts f 0, f 1, .., one a turn, from an offset on: before its first turn, over a turn,
-- and after its last
module _ (f : ℕ → List ℕ) (from : ℕ) where
  pub collect_none : (out : List ℕ) → Added (collect 0 f) from out from out
  unfolding collect
  collect_none out = added_none

  pub collect_fits : (n i : ℕ) (out : List ℕ) (at : ℕ) (mid : List ℕ) →
      RoomAt (collect n f) from out → Added (collect i f) from out at mid → i < n → RoomAt (f i) at mid
  collect_fits n i out at mid h a l = record { fits = omega (arith, collect_room n i f l, a.end, a.size, h.fits) }

  pub collect_more : (i : ℕ) (out : List ℕ) (at : ℕ) (mid : List ℕ) (r : ℕ) (out' : List ℕ) →
      Added (collect i f) from out at mid → Added (f i) at mid r out' → Added (collect (i + 1) f) from out r out'
  collect_more i out at mid r out' a b = rw (collect_next f i) (added_append a b)

  pub collect_done : (n i : ℕ) (out : List ℕ) (r : ℕ) (out' : List ℕ) → Added (collect i f) from out r out' → n ≤ i → i ≤ n → Added (collect n f) from out r out'
  collect_done n i out r out' a l m = let e : i ≡ n = omega arith in rw e at a

-- a loop that puts X from an offset on, part by part: Y is left, to be put at `at`
pub record Left (X : List ℕ) (from : ℕ) (out Y : List ℕ) (at : ℕ) (mid : List ℕ) : Type 0 where
  pub size : length mid ≡ length out
  pub room : RoomAt Y at mid
  pub rest : (r : ℕ) (out' : List ℕ) → Added Y at mid r out' → Added X from out r out'

module _ {X : List ℕ} {from : ℕ} {out : List ℕ} where
  pub left_all : RoomAt X from out → Left X from out X from out
  left_all h = record { size = refl; room = h; rest = λ r out' a. a }

  module _ {Y : List ℕ} {at : ℕ} {mid : List ℕ} where
    pub left_none : Y ≡ [] → Left X from out Y at mid → Added X from out at mid
    left_none e l = l.rest at mid (added_same (sym e) added_none)

    -- part P comes first
    module _ (P Z : List ℕ) (e : Y ≡ P ++ Z) (l : Left X from out Y at mid) where
      pub left_fits : RoomAt P at mid
      left_fits = room_first P Z (room_same e l.room)

      pub left_more : {r : ℕ} {mid' : List ℕ} → Added P at mid r mid' → Left X from out Z r mid'
      left_more p =
          record {
            size = p.size ∙ l.size;
            room = room_rest p (room_same e l.room);
            rest = λ s out' a. l.rest s out' (added_same (sym e) (added_append p a));
          }

-- For callers: the slice behind what was put is lent, and more is put at its start.
module _ (xs ys out : List ℕ) (r : ℕ) (mid : List ℕ) (p : Put xs out r mid) where
  behind : drop r mid ≡ drop (length xs) out
  behind = rw (p.begins, p.count) (drop-append_seam xs (drop (length xs) out))

  front : take r mid ≡ xs
  front = rw (p.begins, p.count) (take-append_seam xs (drop (length xs) out))

  whole : length (drop r mid) ≤ length mid - r
  whole = omega (arith, length-drop r mid)

  lent : take (length mid - r) (drop r mid) ≡ drop (length xs) out
  lent = take_all _ _ whole ∙ behind

  pub room_behind : Room (xs ++ ys) out → Room ys (take (length mid - r) (drop r mid))
  room_behind h = rw lent (omega (arith, length-drop (length xs) out, length-append xs ys))

  pub put_behind : (s : ℕ) (part : List ℕ) → Put ys (take (length mid - r) (drop r mid)) s part →
      Put (xs ++ ys) out (r + s) (take r mid ++ (part ++ drop (length mid - r) (drop r mid)))
  put_behind s part q =
      record {
        count = omega (arith, p.count, q.count, length-append xs ys);
        begins =
            rw (front, drop_of_length-le _ whole, append-nil, q.begins, lent, drop-drop, length-append xs ys, append_assoc xs ys);
      }
