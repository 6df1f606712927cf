-- The laws of reading.
use Prim.Native.Nat.{ℕ, zero, suc, ◌-◌, ◌/◌, ◌%◌, ◌≤◌, ◌<◌}
use mathlib.Core.Path.{◌≡◌, refl, sym, ap, ◌∙◌}
use mathlib.Core.Bool.{Bool, true, false, cond}
use mathlib.Core.List.{List, [], ◌∷◌}
use native.Mathlib.Omega.{arith}
use borrow.Author.Tests.{leb-true, le-leb, ltb-true, ltb-false, lt-ltb}
use lib.Dec.{ltb, leb}
use lib.ListN.{length, get_or, replicate, get_or-map, get_or-eq_default}
use Rattle.reading.proofs.Round as Round
use Rattle.finite.specs.Lists.{distinct}
use Rattle.finite.proofs.Lists.{length_tabulate}
use Rattle.finite.proofs.Tests.{and_intro, and-true}
use Rattle.body.specs.Transfers.{transfer_count}
use Rattle.plan.specs.Form.{Words, in_form, words_ok}
use Rattle.plan.specs.Layout.{body_of, plan_words, task_words}
use Rattle.plan.specs.Limits.{max_transfers, max_passes, max_ranks, max_regions, max_tasks, max_word}
use Rattle.plan.proofs.Facts.{fits}
use Rattle.plan.proofs.Zeros.{zeros}
use Rattle.reading.specs.Laws.{TextLaws, Laws}
use Rattle.reading.specs.Plan.{Plan, Task, access_word, no_task, start_at, task_at, task_word, word_at, words_of}
use Rattle.reading.specs.Reading.{accepted, read_of}
use Rattle.reading.specs.Valid.{access_fits, every, open_fits, task_fits}
use Rattle.reading.specs.Written.{text_of}
use Rattle.reading.proofs.Back.{is_canonical, no_access, word_at_lem}
use Rattle.reading.proofs.FirstFit.{read_answers, too_long}
use Rattle.reading.proofs.Forms.{canonical_ok, mode_few, ok_canonical}
use Rattle.reading.proofs.Holds.{held}
use Rattle.reading.proofs.Limits.{Limits, Opens, is_open, limits, opens}
use Rattle.reading.proofs.Longest.{long_reached, long_says, long_plan}
use Rattle.reading.proofs.Numbers.{refusal_known}
use Rattle.reading.proofs.Says.{accepted_same, accepted_says, says_accepted}
use Rattle.reading.proofs.Starts.{start_fits_lem}
use Rattle.reading.proofs.Traces.{no_trace, written}

-- a test that passes for each, and for what stands beyond
every_any : {X : Type 0} (p : X → Bool) (l : List X) (i : ℕ) (d : X) → every p l ≡ true → p d ≡ true → p (get_or l i d) ≡ true
every_any p [] i d h k = k
every_any p (x ∷ l) zero d h k = (and-true (p x) (every p l) h).0
every_any p (x ∷ l) (suc i) d h k = every_any p l i d (and-true (p x) (every p l) h).1 k

every_open : (q n : ℕ) (l : List Task) → every (task_fits q n) l ≡ true → every (open_fits q n) l ≡ true
every_open q n [] h = refl
every_open q n (t ∷ l) h =
    let a = and-true (task_fits q n t) (every (task_fits q n) l) h in
    rw (and-true (open_fits q n t) _ a.0).0 (every_open q n l a.1)

task_fits_lem : (q n : ℕ) (t : Task) → q ≤ max_ranks → 1 ≤ n → n ≤ max_regions → Opens q n t → (j : ℕ) → task_word t j ≤ max_word
task_fits_lem q n t h k m o zero = let r : t.rank < q = ltb-true _ _ o.rank in omega arith
task_fits_lem q n t h k m o (suc zero) = let r : t.kernel ≤ 4 = leb-true _ _ o.kernel in omega arith
task_fits_lem q n t h k m o (suc (suc zero)) = leb-true _ _ o.constant
task_fits_lem q n t h k m o (suc (suc (suc zero))) = let r : length t.accesses ≤ 8 = leb-true _ _ o.count in omega arith
task_fits_lem q n t h k m o (suc (suc (suc (suc a)))) =
    let e = get_or-map access_word t.accesses a no_access in
    let r : (get_or t.accesses a no_access).region < n = ltb-true _ _ (every_any (access_fits n) t.accesses a no_access o.accesses (lt-ltb 0 n k)) in
    omega (arith, e, r, mode_few (get_or t.accesses a no_access).mode)

pub words_size : (P : Plan) → length (words_of P) ≡ plan_words
unfolding words_of
words_size P = length_tabulate (word_at P) plan_words

module _ (P : Plan) (L : Limits P) where
  word_fits : (i : ℕ) → word_at P i ≤ max_word
  unfolding distinct
  word_fits zero = let r : P.passes ≤ max_passes = leb-true _ _ L.passes in omega arith
  word_fits (suc zero) = let r : P.ranks ≤ max_ranks = leb-true _ _ L.ranks in omega arith
  word_fits (suc (suc zero)) = let r : P.regions ≤ max_regions = leb-true _ _ L.regions in omega arith
  word_fits (suc (suc (suc zero))) = let r : length P.tasks ≤ max_tasks = leb-true _ _ L.count in omega arith
  word_fits (suc (suc (suc (suc i)))) = go (ltb i max_regions)
    where
      some : 1 ≤ P.ranks
      some = leb-true _ _ L.some_rank

      none : Opens P.ranks P.regions no_task
      none = record { rank = lt-ltb 0 P.ranks some; kernel = refl; constant = refl; count = refl; accesses = refl; once = refl }

      open_at : (t : ℕ) → Opens P.ranks P.regions (task_at P.tasks t)
      open_at t = opens P.ranks P.regions (task_at P.tasks t)
          (every_any (open_fits P.ranks P.regions) P.tasks t no_task (every_open P.ranks P.regions P.tasks L.tasks) (is_open P.ranks P.regions no_task none))

      go : (x : Bool) → cond x (start_at P.starts i) (task_word (task_at P.tasks ((i - max_regions) / task_words)) ((i - max_regions) % task_words)) ≤ max_word
      go true = leb-true _ _ (start_fits_lem P.regions i P.starts L.starts)
      go false =
          task_fits_lem P.ranks P.regions (task_at P.tasks ((i - max_regions) / task_words)) (leb-true _ _ L.ranks) (leb-true _ _ L.some_region) (leb-true _ _ L.regions)
          (open_at ((i - max_regions) / task_words)) ((i - max_regions) % task_words)

  words_fit : (i : ℕ) → get_or (words_of P) i 0 ≤ max_word
  words_fit i = go (ltb i plan_words) refl
    where
      go : (x : Bool) → ltb i plan_words ≡ x → get_or (words_of P) i 0 ≤ max_word
      go true e = omega (arith, word_at_lem P i (ltb-true _ _ e), word_fits i)
      go false e =
          let l : plan_words ≤ i = ltb-false _ _ e in
          let z : get_or (words_of P) i 0 ≡ 0 = get_or-eq_default (words_of P) 0 (let m : length (words_of P) ≤ i = omega (arith, words_size P) in m) in
          omega arith

  plan_words_lem : Words (words_of P)
  plan_words_lem = record { size = words_size P; fits = words_fit }

words : (text w : List ℕ) → read_of text ≡ accepted w → Words w
words text w e = let (P, S, k) = accepted_says text w e in rw k (plan_words_lem P (limits P S.within))

pub form_parts : (w : List ℕ) → in_form w ≡ true → (words_ok w ≡ true) × (leb (transfer_count (body_of w)) max_transfers ≡ true)
unfolding in_form
form_parts w h = and-true (words_ok w) _ h

form_of : (w : List ℕ) → words_ok w ≡ true → leb (transfer_count (body_of w)) max_transfers ≡ true → in_form w ≡ true
unfolding in_form
form_of w h t = and_intro (words_ok w) _ h t

-- the words of a plan that keeps the limits
pub plan_ok : (P : Plan) → Limits P → 1 ≤ length P.tasks → words_ok (words_of P) ≡ true
plan_ok P L s = canonical_ok (words_of P) (is_canonical P L s)

in_form_lem : (text w : List ℕ) → read_of text ≡ accepted w → in_form w ≡ true
in_form_lem text w e =
    let (P, S, k) = accepted_says text w e in
    rw k (form_of (words_of P) (plan_ok P (limits P S.within) S.some) (le-leb _ max_transfers S.transfers))

reads_back : (w : List ℕ) → Words w → in_form w ≡ true → read_of (text_of w) ≡ accepted w
reads_back w W h = let f = form_parts w h in Round.reads_back w (ok_canonical w W f.0) f.1

pub zero_at : (n i : ℕ) → ◌≡◌ {A = ℕ} (get_or (replicate n 0) i 0) 0
zero_at zero i = refl
zero_at (suc n) zero = refl
zero_at (suc n) (suc i) = zero_at n i

pub laws : Laws
laws =
    record {
      accepts = λ text w. (accepted_says text w, λ p. rw p.2 (says_accepted text p.0 p.1));
      holds = λ P h. held P (limits P h);
      words = words;
      in_form_lem = in_form_lem;
      exactly = λ w W. (λ h. (text_of w, reads_back w W h), λ r. in_form_lem r.0 w r.1);
      zeros = zeros;
      too_long = too_long;
      first_fits = read_answers;
      numbers = refusal_known;
      fits = λ w h. fits w (form_parts w h).0;
    }

pub text_laws : TextLaws
text_laws =
    record {
      longest = λ w W h. Round.longest w (ok_canonical w W (form_parts w h).0);
      reached = let e = says_accepted _ long_plan long_says in (words_of long_plan, words _ (words_of long_plan) e, in_form_lem _ (words_of long_plan) e, long_reached);
      reads_back = reads_back;
      one_text = λ w v W X h k. (λ e. accepted_same v w (sym (reads_back w W h) ∙ ap read_of e ∙ reads_back v X k), ap text_of);
      no_trace = no_trace;
      written = written;
    }
