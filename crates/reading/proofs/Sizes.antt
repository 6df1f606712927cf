-- The records of a plan can be written, and the written text is short.
use Prim.Native.Nat.{ℕ, zero, suc, ◌+◌, ◌*◌, ◌≤◌, ◌<◌}
use mathlib.Core.Path.{◌≡◌, refl, ap}
use mathlib.Core.Bool.{true, ◌&&◌}
use mathlib.Core.List.{List, [], ◌∷◌, ◌++◌}
use native.Mathlib.Omega.{arith}
use native.Mathlib.Decide.{ℕ_discrete}
use borrow.Author.Tests.{leb-true, ltb-true, le-leb}
use lib.Dec.{leb, ltb, leb-zero}
use lib.ListN.{length, length-append}
use Rattle.text.specs.declared.Number.{Number}
use Rattle.text.specs.declared.Number.TheVariants.{Value}
use Rattle.text.specs.declared.Mode.{Mode}
use Rattle.text.specs.declared.Record.{Record}
use Rattle.text.specs.declared.Record.TheVariants.{Loop, Begin, End}
use Rattle.finite.proofs.Tests.{and_intro, and-true}
use Rattle.plan.specs.Limits.{max_kernel, max_passes, max_ranks, max_regions, max_tasks, max_word}
use Rattle.plan.specs.Sizes.{text_bytes}
use Rattle.reading.specs.Plan.{Access, Plan, Start, Task}
use Rattle.reading.specs.Reading.{is_word}
use Rattle.reading.specs.Valid.{access_fits, every, in_word, open_fits, start_fits, task_fits}
use Rattle.text.specs.Digits.{digits}
use Rattle.text.proofs.DecimalLaws.{below, digits_most, limit}
use Rattle.reading.specs.Written.{Rising, access_records, line, records, start_records, task_records, text_from}
use Rattle.reading.proofs.Limits.{Limits, opens}
use Rattle.reading.proofs.Lines.{plain}

word_of_lem : (v : ℕ) → v ≤ max_word → is_word (Value v) ≡ true
word_of_lem v h = and_intro (leb 0 v) (leb v max_word) (leb-zero v) (le-leb v max_word h)

-- two and three numbers in a line
pair_length : (x y : Number) → length (digits x ++ (9 ∷ digits y)) ≡ length (digits x) + length (digits y) + 1
pair_length x y = omega (arith, length-append (digits x) (9 ∷ digits y))

triple_length : (x y z : Number) → length (digits x ++ (9 ∷ (digits y ++ (9 ∷ digits z)))) ≡ length (digits x) + length (digits y) + length (digits z) + 2
triple_length x y z = omega (arith, length-append (digits x) (9 ∷ (digits y ++ (9 ∷ digits z))), pair_length y z)

text_length : (r : Record) (l : List Record) → length (text_from (r ∷ l)) ≡ length (line r) + length (text_from l) + 1
text_length r l = omega (arith, length-append (line r) (10 ∷ text_from l))

start_length : (g v : ℕ) → v ≤ max_word → length (line (Record.Start (Value g) (Value v))) ≤ 27 + length (digits (Value g))
start_length g v h = omega (arith, pair_length (Value g) (Value v), digits_most 19 v (below v h))

loop_length : (p q n : ℕ) → p ≤ max_passes → q ≤ max_ranks → n ≤ max_regions → length (line (Loop (Value p) (Value q) (Value n))) ≤ 25
unfolding limit
loop_length p q n a b c =
    omega (arith, triple_length (Value p) (Value q) (Value n), digits_most 12 p (omega arith), digits_most 1 q (omega arith), digits_most 2 n (omega arith))

begin_length : (q k c : ℕ) → q < max_ranks → k ≤ max_kernel → c ≤ max_word → length (line (Begin (Value q) (Value k) (Value c))) ≤ 31
unfolding limit
begin_length q k c a b d =
    omega (arith, triple_length (Value q) (Value k) (Value c), digits_most 1 q (omega arith), digits_most 0 k (omega arith), digits_most 19 c (below c d))

access_length : (m : Mode) (g : ℕ) → g < max_regions → length (line (Record.Access m (Value g))) ≤ 9
unfolding limit
access_length Mode.In g h = omega (arith, digits_most 2 g (omega arith))
access_length Mode.Out g h = omega (arith, digits_most 2 g (omega arith))
access_length Mode.Inout g h = omega (arith, digits_most 2 g (omega arith))

starts_plain : (n : ℕ) (l : List Start) (b : List Record) → n ≤ max_regions → every (start_fits n) l ≡ true → every plain b ≡ true → every plain (start_records l ++ b) ≡ true
starts_plain n [] b h k s = s
starts_plain n (x ∷ l) b h k s =
    let a = and-true (start_fits n x) (every (start_fits n) l) k in
    let e = and-true (ltb x.region n) (in_word x.value) a.0 in
    let c : x.region < n = ltb-true _ _ e.0 in
    let v : x.value ≤ max_word = leb-true _ _ e.1 in
    and_intro (is_word (Value x.region) && is_word (Value x.value)) _ (and_intro (is_word (Value x.region)) _ (word_of_lem x.region (omega arith)) (word_of_lem x.value v))
    (starts_plain n l b h a.1 s)

-- room for a `start` of each of the n regions from g on
room : ℕ → ℕ → ℕ
room zero g = 0
room (suc n) g = 28 + length (digits (Value g)) + room n (suc g)

starts_size : (m n g : ℕ) (l : List Start) (b : List Record) → m ≤ g + n → every (start_fits m) l ≡ true → Rising g l →
    length (text_from (start_records l ++ b)) ≤ room n g + length (text_from b)
unfolding room
starts_size m n g [] b h k r = omega arith
starts_size m zero g (x ∷ l) b h k r =
    let c : x.region < m = ltb-true _ _ (and-true (ltb x.region m) _ (and-true (start_fits m x) (every (start_fits m) l) k).0).0 in
    absurd (omega (arith, r.0))
starts_size m (suc n) g (x ∷ l) b h k r =
    let a = and-true (start_fits m x) (every (start_fits m) l) k in
    let v : x.value ≤ max_word = leb-true _ _ (and-true (ltb x.region m) (in_word x.value) a.0).1 in
    elim (ℕ_discrete g x.region) [
      | yes e ↦
          let i = starts_size m n (suc g) l b (omega arith) a.1 (rw e r.2) in
          omega (
            arith,
            text_length (Record.Start (Value x.region) (Value x.value)) (start_records l ++ b),
            start_length x.region x.value v,
            ap (λ (y : ℕ). length (digits (Value y))) e,
            i,
          )
      | no e ↦ omega (arith, starts_size m n (suc g) (x ∷ l) b (omega arith) k (omega (arith, r.0), r.1, r.2))
    ]

-- records that can be written, of a bounded length
record Short (most : ℕ) (l : List Record) : Type 0 where
  plains : every plain l ≡ true
  size : length (text_from l) ≤ most

accesses_short : (n : ℕ) (l : List Access) (b : List Record) (m : ℕ) → n ≤ max_regions → every (access_fits n) l ≡ true → Short m b → Short (10 * length l + m) (access_records l ++ b)
accesses_short n [] b m h k s = record { plains = s.plains; size = omega (arith, s.size) }
accesses_short n (x ∷ l) b m h k s =
    let a = and-true (access_fits n x) (every (access_fits n) l) k in
    let c : x.region < n = ltb-true _ _ a.0 in
    let i = accesses_short n l b m h a.1 s in
    let z = access_length x.mode x.region (omega arith) in
    record {
      plains = and_intro (is_word (Value x.region)) _ (word_of_lem x.region (omega arith)) i.plains;
      size = omega (arith, text_length (Record.Access x.mode (Value x.region)) (access_records l ++ b), z, i.size);
    }

end_short : (l : List Record) (m : ℕ) → Short m l → Short (4 + m) (End ∷ l)
end_short l m s = record { plains = s.plains; size = omega (arith, text_length End l, s.size) }

tasks_short : (q n : ℕ) (l : List Task) → q ≤ max_ranks → n ≤ max_regions → every (task_fits q n) l ≡ true → Short (116 * length l) (task_records l)
tasks_short q n [] h g k = record { plains = refl; size = omega arith }
tasks_short q n (t ∷ l) h g k =
    let a = and-true (task_fits q n t) (every (task_fits q n) l) k in
    let o = opens q n t (and-true (open_fits q n t) _ a.0).0 in
    let r : t.rank < q = ltb-true _ _ o.rank in
    let f : t.kernel ≤ max_kernel = leb-true _ _ o.kernel in
    let c : t.constant ≤ max_word = leb-true _ _ o.constant in
    let m : length t.accesses ≤ 8 = leb-true _ _ o.count in
    let i = accesses_short n t.accesses (End ∷ task_records l) (4 + 116 * length l) g o.accesses (end_short (task_records l) (116 * length l) (tasks_short q n l h g a.1)) in
    let z = begin_length t.rank t.kernel t.constant (omega arith) f c in
    record {
      plains =
          and_intro (plain (Begin (Value t.rank) (Value t.kernel) (Value t.constant))) _
          (and_intro (is_word (Value t.rank)) _ (word_of_lem t.rank (omega arith))
          (and_intro (is_word (Value t.kernel)) _ (word_of_lem t.kernel (omega arith)) (word_of_lem t.constant c)))
          i.plains;
      size = omega (arith, text_length (Begin (Value t.rank) (Value t.kernel) (Value t.constant)) (access_records t.accesses ++ (End ∷ task_records l)), z, i.size);
    }

starts_room : room max_regions 0 ≡ 3858
unfolding room digits
starts_room = refl

module _ (P : Plan) (L : Limits P) where
  passes_most : P.passes ≤ max_passes
  passes_most = leb-true _ _ L.passes

  ranks_most : P.ranks ≤ max_ranks
  ranks_most = leb-true _ _ L.ranks

  regions_most : P.regions ≤ max_regions
  regions_most = leb-true _ _ L.regions

  tasks_whole : Short (116 * length P.tasks) (task_records P.tasks)
  tasks_whole = tasks_short P.ranks P.regions P.tasks ranks_most regions_most L.tasks

  pub records_plain : every plain (records P) ≡ true
  records_plain =
      let p = passes_most in
      let q = ranks_most in
      let n = regions_most in
      and_intro (plain (Loop (Value P.passes) (Value P.ranks) (Value P.regions))) _
      (and_intro (is_word (Value P.passes)) _ (word_of_lem P.passes (omega arith))
      (and_intro (is_word (Value P.ranks)) _ (word_of_lem P.ranks (omega arith)) (word_of_lem P.regions (omega arith))))
      (starts_plain P.regions P.starts (task_records P.tasks) n L.starts tasks_whole.plains)

  pub records_size : Rising 0 P.starts → length (text_from (records P)) ≤ text_bytes
  records_size r =
      let c : length P.tasks ≤ max_tasks = leb-true _ _ L.count in
      omega (
        arith,
        text_length (Loop (Value P.passes) (Value P.ranks) (Value P.regions)) (start_records P.starts ++ task_records P.tasks),
        loop_length P.passes P.ranks P.regions passes_most ranks_most regions_most,
        starts_size P.regions max_regions 0 P.starts (task_records P.tasks) regions_most L.starts r,
        starts_room,
        tasks_whole.size,
      )
