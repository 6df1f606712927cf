-- A reader that holds the words reads as the definition does.
use Prim.Native.Nat.{ℕ, ◌+◌, ◌*◌, ◌≤◌, ◌<◌}
use mathlib.Core.Path.{◌≡◌, refl, sym, ap, ap₂, ◌∙◌}
use mathlib.Core.Bool.{or-false, Bool, true, false, cond, not, ◌||◌, or-true}
use mathlib.Core.List.{List, [], ◌∷◌, ◌++◌}
use native.Mathlib.Omega.{arith}
use native.Mathlib.Decide.{ℕ_discrete}
use borrow.Author.Tests.{leb-true, ltb-true, eq-eqb, ne_eqb, not-true}
use lib.Dec.{eqb, ltb}
use lib.ListN.{length, set, replicate, length-set, length-replicate}
use Rattle.text.specs.declared.Number.{Number}
use Rattle.text.specs.declared.Record.{Record}
use Rattle.text.specs.declared.Record.TheVariants.{Loop, Begin, End, Unreadable}
use Rattle.finite.specs.Below.{any_below, count_below}
use Rattle.finite.specs.Lists.{mem}
use Rattle.finite.proofs.Members.{mem_append}
use Rattle.finite.proofs.Tabulate.{map_append}
use Rattle.kernels.specs.Kernels.{suits}
use Rattle.text.specs.Records.{record_of, split}
use Rattle.plan.specs.Layout.{accesses_of, at, is_read, region_at, kernel_of}
use Rattle.reading.specs.Plan.{Plan, Start, Task, mode_word, named, read_count, started}
use Rattle.reading.specs.Reading.{Reading, State, Step, at_end, below, closed, first, is_empty, is_word, lies, need, next, no_task_yet, on_step, opened, read_from, read_of, refuse, refused, step, value_of}
use Rattle.reading.proofs.Accepted.{below_value, good, good_step, step_good}
use Rattle.reading.proofs.Limits.{Limits}
use Rattle.reading.proofs.Theorems.{zero_at}
use Rattle.plan.specs.Limits.{max_passes, max_bytes, max_ranks, max_regions, max_tasks}
use Rattle.reader.specs.Machine.{Move, end_of, go, machine_from, machine_of, move, on_move, open_count, open_task, put_access, put_begin, stop, unless}
use Rattle.reader.proofs.Finds.{Open, closed_reads, open_reads}
use Rattle.reader.proofs.Held.{held}
use Rattle.reader.proofs.Writes.{access_writes, begin_writes, hit, loop_writes, miss, start_writes}

abbrev pub phase : State → ℕ
phase first = 0
phase (closed P) = 1
phase (opened P t) = 2

-- the regions that `start` records have named
abbrev pub named_starts : State → List ℕ
named_starts first = []
named_starts (closed P) = started P.starts
named_starts (opened P t) = started P.starts

pub record Flags (l f : List ℕ) : Type 0 where
  pub size : length f ≡ max_regions
  pub each : (g : ℕ) → g < max_regions → eqb (at f g) 1 ≡ mem g l

-- what a reader has in hand is what the definition's state says
pub record Hand (s : State) (p : ℕ) (f w : List ℕ) : Type 0 where
  pub phases : p ≡ phase s
  pub flags : Flags (named_starts s) f
  pub words : w ≡ held s

abbrev pub Agree : Step → Move → Type 0
Agree (next s) (go p f w) = Hand s p f w
Agree (next s) (stop n) = ⊥
Agree (refuse m) (go p f w) = ⊥
Agree (refuse m) (stop n) = m ≡ n

agree_need : (t u : Bool) (n : ℕ) (x : Step) (y : Move) → t ≡ u → (t ≡ true → Agree x y) → Agree (need t n x) (unless u n y)
agree_need true true n x y e h = h refl
agree_need true false n x y e h = let z : ◌≡◌ {A = ℕ} 0 1 = cc in absurd (omega arith)
agree_need false true n x y e h = let z : ◌≡◌ {A = ℕ} 0 1 = cc in absurd (omega arith)
agree_need false false n x y e h = refl

flags_start : (l : List Start) (f : List ℕ) (g v : ℕ) → g < max_regions → Flags (started l) f → Flags (started (l ++ (record { region = g; value = v } ∷ []))) (set f g 1)
unfolding mem
flags_start l f g v h F = record { size = length-set f g 1 ∙ F.size; each = each }
  where
    also : (x : ℕ) → mem x (started (l ++ (record { region = g; value = v } ∷ []))) ≡ (mem x (started l) || (eqb x g || false))
    also x = ap (mem x) (map_append (λ s. s.region) l (record { region = g; value = v } ∷ [])) ∙ mem_append x (started l) (g ∷ [])

    each : (x : ℕ) → x < max_regions → eqb (at (set f g 1) x) 1 ≡ mem x (started (l ++ (record { region = g; value = v } ∷ [])))
    each x k =
        elim (ℕ_discrete x g) [
          | yes e ↦ ap (λ (y : ℕ). eqb y 1) (hit f g 1 x (omega (arith, F.size)) e) ∙ sym (also x ∙ rw (eq-eqb x g e) (or-true (mem x (started l))))
          | no e ↦ ap (λ (y : ℕ). eqb y 1) (miss f g 1 x e) ∙ F.each x k ∙ sym (also x ∙ rw (ne_eqb x g e) (or-false (mem x (started l))))
        ]

module _ (P : Plan) (f : List ℕ) (L : Limits P) (F : Flags (started P.starts) f) where
  abbrev w : List ℕ
  w = held (closed P)

  low : P.regions ≤ max_regions
  low = leb-true _ _ L.regions

  start_agrees : (g v : Number) → Agree (step (closed P) (Record.Start g v)) (move 1 f w (Record.Start g v))
  start_agrees g v =
      let c = closed_reads P in
      agree_need (no_task_yet P) (eqb (at w 3) 0) 2 _ _ (ap (λ (k : ℕ). eqb k 0) (sym c.tasks)) λ o.
      agree_need (below P.regions g) (below (at w 2) g) 3 _ _ (ap (λ (k : ℕ). below k g) (sym c.regions)) λ a.
      agree_need (is_word v) (is_word v) 3 _ _ refl λ b.
      let r : value_of g < P.regions = ltb-true _ _ (below_value P.regions g a) in
      let k = low in
      agree_need (not (mem (value_of g) (started P.starts))) (not (eqb (at f (value_of g)) 1)) 6 _ _ (ap not (sym (F.each (value_of g) (omega arith)))) λ d.
      record {
        phases = refl;
        flags = flags_start P.starts f (value_of g) (value_of v) (omega arith) F;
        words = sym (start_writes P (value_of g) (value_of v) (omega arith) (not-true _ d));
      }

  begin_agrees : (q k c : Number) → Agree (step (closed P) (Begin q k c)) (move 1 f w (Begin q k c))
  begin_agrees q k c =
      let r = closed_reads P in
      agree_need (below P.ranks q) (below (at w 1) q) 3 _ _ (ap (λ (n : ℕ). below n q) (sym r.ranks)) λ a.
      agree_need (lies 0 4 k) (lies 0 4 k) 3 _ _ refl λ b.
      agree_need (is_word c) (is_word c) 3 _ _ refl λ d.
      agree_need (ltb (length P.tasks) max_tasks) (ltb (at w 3) max_tasks) 10 _ _ (ap (λ (n : ℕ). ltb n max_tasks) (sym r.tasks)) λ e.
      record {
        phases = refl;
        flags = F;
        words = ap (λ (n : ℕ). put_begin w n (value_of q) (value_of k) (value_of c)) r.tasks ∙ sym (begin_writes P (value_of q) (value_of k) (value_of c) (ltb-true _ _ e));
      }

module _ (P : Plan) (t : Task) (f : List ℕ) (G : good (opened P t)) (F : Flags (started P.starts) f) where
  abbrev w2 : List ℕ
  w2 = held (opened P t)

  pub finds : Open P t w2
  finds = open_reads P t G.1 (leb-true _ _ G.0.regions) G.2

  pub open_is : open_task w2 ≡ length P.tasks
  open_is = let e = finds.tasks in omega arith

  pub count_is : open_count w2 ≡ length t.accesses
  count_is = ap (accesses_of w2) open_is ∙ finds.count

  named_is : (g : ℕ) → mem g (named t.accesses) ≡ any_below (open_count w2) (λ a. eqb g (region_at w2 (open_task w2) a))
  named_is g = rw (count_is, open_is) (finds.names g)

  access_agrees : (m : _) (g : Number) → Agree (step (opened P t) (Record.Access m g)) (move 2 f w2 (Record.Access m g))
  access_agrees m g =
      agree_need (below P.regions g) (below (at w2 2) g) 3 _ _ (ap (λ (k : ℕ). below k g) (sym finds.regions_of_lem)) λ a.
      agree_need (ltb (length t.accesses) 8) (ltb (open_count w2) 8) 10 _ _ (ap (λ (k : ℕ). ltb k 8) (sym count_is)) λ b.
      agree_need (not (mem (value_of g) (named t.accesses))) (not (any_below (open_count w2) (λ a. eqb (value_of g) (region_at w2 (open_task w2) a)))) 6 _ _ (ap not (named_is (value_of g))) λ d.
      record {
        phases = refl;
        flags = F;
        words = ap₂ (λ (i j : ℕ). put_access w2 i j (value_of g + 128 * mode_word m)) open_is count_is ∙ sym (access_writes P t m (value_of g) G.1 (ltb-true _ _ b));
      }

  suits_is : suits t.kernel (read_count t.accesses) ≡ suits (kernel_of w2 (open_task w2)) (count_below (open_count w2) (is_read w2 (open_task w2)))
  suits_is = rw (count_is, open_is, finds.kernel, finds.reading)

  end_agrees : Agree (step (opened P t) End) (move 2 f w2 End)
  end_agrees =
      agree_need (suits t.kernel (read_count t.accesses)) (suits (kernel_of w2 (open_task w2)) (count_below (open_count w2) (is_read w2 (open_task w2)))) 9 _ _ suits_is λ a.
      record { phases = refl; flags = F; words = refl }

pub agrees : (s : State) (f : List ℕ) (r : Record) → good s → Flags (named_starts s) f → Agree (step s r) (move (phase s) f (held s) r)
agrees first f (Loop p q n) G F =
    agree_need (lies 0 max_passes p) (lies 0 max_passes p) 3 _ _ refl λ a.
    agree_need (lies 1 max_ranks q) (lies 1 max_ranks q) 3 _ _ refl λ b.
    agree_need (lies 1 max_regions n) (lies 1 max_regions n) 3 _ _ refl λ c.
    record { phases = refl; flags = F; words = sym (loop_writes (value_of p) (value_of q) (value_of n)) }
agrees first f (Record.Start g v) G F = refl
agrees first f (Begin q k c) G F = refl
agrees first f (Record.Access m g) G F = refl
agrees first f End G F = refl
agrees first f Unreadable G F = refl
agrees (closed P) f (Loop p q n) G F = refl
agrees (closed P) f (Record.Start g v) G F = start_agrees P f G F g v
agrees (closed P) f (Begin q k c) G F = begin_agrees P f G F q k c
agrees (closed P) f (Record.Access m g) G F = refl
agrees (closed P) f End G F = refl
agrees (closed P) f Unreadable G F = refl
agrees (opened P t) f (Loop p q n) G F = refl
agrees (opened P t) f (Record.Start g v) G F = refl
agrees (opened P t) f (Begin q k c) G F = refl
agrees (opened P t) f (Record.Access m g) G F = access_agrees P t f G F m g
agrees (opened P t) f End G F = end_agrees P t f G F
agrees (opened P t) f Unreadable G F = refl

end_same : (n : ℕ) (s : State) → good s → end_of n (phase s) (held s) ≡ at_end n s
end_same n first G = refl
end_same n (closed P) G =
    let c = closed_reads P in
    rw c.tasks
end_same n (opened P t) G = refl

on_same : (n : ℕ) (k : ℕ → List ℕ → List ℕ → Reading) (j : State → Reading) (x : Step) (y : Move) → Agree x y → good_step x →
    ((s : State) (p : ℕ) (f w : List ℕ) → good s → Hand s p f w → k p f w ≡ j s) → on_move n k y ≡ on_step n j x
on_same n k j (next s) (go p f w) A G h = h s p f w G A
on_same n k j (next s) (stop m) A G h = absurd A
on_same n k j (refuse m) (go p f w) A G h = absurd A
on_same n k j (refuse m) (stop l) A G h = ap (λ (i : ℕ). refused i n) (sym A)

same_from : (ls : List (List ℕ)) (n : ℕ) (s : State) (f : List ℕ) → good s → Flags (named_starts s) f → machine_from n (phase s) f (held s) ls ≡ read_from n s ls
same_from [] n s f G F = refl
same_from (l ∷ []) n s f G F = ap (λ r. cond (is_empty l) r (refused 1 n)) (end_same n s G)
same_from (l ∷ m ∷ ls) n s f G F =
    on_same n (λ p' f' w'. machine_from (n + 1) p' f' w' (m ∷ ls)) (λ s'. read_from (n + 1) s' (m ∷ ls)) (step s (record_of l)) (move (phase s) f (held s) (record_of l))
    (agrees s f (record_of l) G F) (step_good s (record_of l) G)
    (λ t p f' w' H A. rw (A.phases, A.words) (same_from (m ∷ ls) (n + 1) t f' H A.flags))

pub no_flags : Flags [] (replicate max_regions 0)
unfolding mem
no_flags = record { size = length-replicate {A = ℕ} max_regions 0; each = λ g h. ap (λ (y : ℕ). eqb y 1) (zero_at max_regions g) }

pub machine_same : (text : List ℕ) → machine_of text ≡ read_of text
unfolding machine_of read_of
machine_same text = ap (λ r. cond (ltb max_bytes (length text)) (refused 10 0) r) (same_from (split 10 text) 1 first (replicate max_regions 0) tt no_flags)
