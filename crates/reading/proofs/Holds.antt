-- The words of a plan within its limits hold it.
use Rattle.text.specs.declared.Mode.{Mode}
use mathlib.Core.Path.{refl, sym, ap, ◌≡◌, ◌∙◌}
use borrow.Author.Tests.{ltb-true, leb-true}
use lib.ListN.{length, get_or, get_or-map}
use lib.Dec.{eqb}
use mathlib.Core.Bool.{Bool, true, false, cond, not}
use mathlib.Core.List.{List, [], ◌∷◌, ◌++◌}
use native.Mathlib.Omega.{arith}
use Prim.Native.Nat.{ℕ, zero, suc, ◌/◌, ◌≤◌, ◌<◌}
use Rattle.finite.specs.Lists.{gather, tabulate}
use Rattle.plan.specs.Layout.{access_at, accesses_of, is_read, is_written, region_at, rank_index, kernel_index, constant_index, accesses_index, access_index}
use Rattle.reading.specs.Laws.{Holds}
use Rattle.reading.specs.Plan.{Access, Plan, access_of, access_word, mode_of, read_mode, regions_where, task_at, words_of, write_mode}
use Rattle.reading.specs.Valid.{access_fits}
use Rattle.reading.proofs.Back.{few, list_back, low, no_access, opens_at, start_value, task_at_lem, word_at_lem}
use Rattle.reading.proofs.Forms.{mode_few, read_mode_lem}
use Rattle.reading.proofs.Limits.{Limits}
use Rattle.reading.proofs.Lists.{every_at}

-- the regions of chosen accesses, as a list built at its end
where_append : (p : Mode → Bool) (l k : List Access) → regions_where p (l ++ k) ≡ regions_where p l ++ regions_where p k
where_append p [] k = refl
where_append p (a ∷ l) k = go (p a.mode) (where_append p l k)
  where
    go : (b : Bool) → regions_where p (l ++ k) ≡ regions_where p l ++ regions_where p k →
        cond b (a.region ∷ regions_where p (l ++ k)) (regions_where p (l ++ k)) ≡ cond b (a.region ∷ regions_where p l) (regions_where p l) ++ regions_where p k
    go true e = ap (λ (r : List ℕ). a.region ∷ r) e
    go false e = e

where_tabulate : (p : Mode → Bool) (n : ℕ) (f : ℕ → Access) → regions_where p (tabulate n f) ≡ gather n (λ a. p (f a).mode) (λ a. (f a).region)
unfolding tabulate gather
where_tabulate p zero f = refl
where_tabulate p (suc n) f = where_append p (tabulate n f) (f n ∷ []) ∙ ap (λ (l : List ℕ). l ++ cond (p (f n).mode) ((f n).region ∷ []) []) (where_tabulate p n f)

gather_ext : (n : ℕ) (p q : ℕ → Bool) (f : ℕ → ℕ) → ((k : ℕ) → k < n → p k ≡ q k) → gather n p f ≡ gather n q f
unfolding gather
gather_ext zero p q f h = refl
gather_ext (suc n) p q f h = rw (gather_ext n p q f (λ k l. h k (omega arith)), h n (omega arith))

write_mode_lem : (m : ℕ) → m < 3 → write_mode (mode_of m) ≡ not (eqb m 0)
write_mode_lem zero h = refl
write_mode_lem (suc zero) h = refl
write_mode_lem (suc (suc zero)) h = refl
write_mode_lem (suc (suc (suc m))) h = absurd (omega arith)

module _ (P : Plan) (L : Limits P) where
  abbrev w : List ℕ
  w = words_of P

  -- the regions of the accesses of task i, chosen by mode
  chosen : (p : Mode → Bool) (q : ℕ → Bool) (i : ℕ) → i < length P.tasks → ((a : ℕ) → a < accesses_of w i → p (access_of (access_at w i a)).mode ≡ q a) →
      gather (accesses_of w i) q (region_at w i) ≡ regions_where p (task_at P.tasks i).accesses
  chosen p q i h e =
      sym (gather_ext (accesses_of w i) (λ a. p (access_of (access_at w i a)).mode) q (region_at w i) e)
      ∙ sym (where_tabulate p (accesses_of w i) (λ a. access_of (access_at w i a)))
      ∙ ap (regions_where p) (list_back P L i h)

  count_few : (i : ℕ) → i < length P.tasks → accesses_of w i ≤ 8
  count_few i h =
      let m : length (task_at P.tasks i).accesses ≤ 8 = leb-true _ _ (opens_at P L i h).count in
      let k = few P L in
      let c : accesses_of w i ≡ length (task_at P.tasks i).accesses = task_at_lem P L i 3 (accesses_index i) (omega arith) (omega arith) (omega arith) in
      omega arith

  code_low : (i a : ℕ) → i < length P.tasks → a < accesses_of w i → access_at w i a / 128 < 3
  code_low i a h k =
      let f = few P L in
      let m = count_few i h in
      let l = low P L in
      let c : accesses_of w i ≡ length (task_at P.tasks i).accesses = task_at_lem P L i 3 (accesses_index i) (omega arith) (omega arith) (omega arith) in
      let x = get_or (task_at P.tasks i).accesses a no_access in
      let e : access_at w i a ≡ access_word (get_or (task_at P.tasks i).accesses a no_access) =
      task_at_lem P L i (suc (suc (suc (suc a)))) (access_index i a) (omega arith) (omega arith) (omega arith) ∙ get_or-map access_word (task_at P.tasks i).accesses a no_access in
      let r : (get_or (task_at P.tasks i).accesses a no_access).region < P.regions =
      ltb-true _ _ (every_at (access_fits P.regions) (task_at P.tasks i).accesses a no_access (opens_at P L i h).accesses (omega arith)) in
      omega (arith, mode_few (get_or (task_at P.tasks i).accesses a no_access).mode)

  pub held : Holds (words_of P) P
  held =
      let f = few P L in
      let l = low P L in
      record {
        passes = word_at_lem P 0 (omega arith);
        ranks = word_at_lem P 1 (omega arith);
        regions = word_at_lem P 2 (omega arith);
        starting = λ g h. start_value P L g (omega arith);
        tasks = word_at_lem P 3 (omega arith);
        rank = λ i h. task_at_lem P L i 0 (rank_index i) (omega arith) (omega arith) (omega arith);
        kernel = λ i h. task_at_lem P L i 1 (kernel_index i) (omega arith) (omega arith) (omega arith);
        constant = λ i h. task_at_lem P L i 2 (constant_index i) (omega arith) (omega arith) (omega arith);
        accesses = λ i h. list_back P L i h;
        reads = λ i h. chosen read_mode (is_read (words_of P) i) i h (λ a k. read_mode_lem (access_at (words_of P) i a / 128));
        writes = λ i h. chosen write_mode (is_written (words_of P) i) i h (λ a k. write_mode_lem (access_at (words_of P) i a / 128) (code_low i a h k));
      }
