-- The items run one after another, each in every pass of the plan, against the unrolled loop.
use Prim.Native.Nat.{ℕ, zero, suc, ◌+◌, ◌-◌, ◌≤◌, ◌<◌}
use mathlib.Core.Path.{◌≡◌, refl, sym, ◌∙◌, ap, subst}
use mathlib.Core.Bool.{true, false}
use mathlib.Core.Logic.{◌⊎◌, inl, inr, ⊎_elim}
use mathlib.Core.List.{List, [], ◌∷◌, ◌++◌, map, flat_map, head-eq_of_cons-eq, tail-eq_of_cons-eq}
use mathlib.Core.List.Memᴰ.{cases_cons as in-cases}
use mathlib.Core.List.Memᴰ.{head as here}
use mathlib.Core.List.Memᴰ.{not-nil as in-nil}
use mathlib.Core.List.Memᴰ.{tail as there}
use mathlib.Core.List.{Memᴰ as In}
use native.Mathlib.Decide.{ℕ_discrete}
use native.Mathlib.Omega.{arith}
use lib.ListN.{length, drop}
use lib.Seq.{drop-cons}
use Rattle.finite.specs.Lists.{mem, range}
use Rattle.finite.proofs.Tests.{true_or_false, not_both}
use Rattle.finite.proofs.Below.{below_suc}
use Rattle.finite.proofs.Members.{mem_head, mem_tail, mem_cases, mem_one, mem_map, mem_map_from, map_ext, map_map}
use Rattle.finite.proofs.Update.{put_in, put_out}
use Rattle.unroll.specs.System.{System}
use Rattle.unroll.specs.Sequential.{word_on, store_at, word}
use Rattle.unroll.proofs.Sequential.{store_written, store_kept, store_pass, store_open}
use Rattle.body.specs.Body.{Body, Fits}
use Rattle.body.specs.Loop.{task_word, tasks_run, cells_of, cells_at, loop_word}
use Rattle.body.specs.Transfers.{Transfer, transfer, transfers_of}
use Rattle.body.specs.Items.{Item, task, send, receive, writer, pair_of, block, item_list, item_count, item_at}
use Rattle.body.specs.Places.{slot, copy, reads_of, writes_of, compute_of, initial}
use Rattle.body.proofs.Writers.{Transferred, transfer_in, transfer_from}
use Rattle.body.proofs.Places.{copies_apart, copy_no_slot, copy_opening}
use Rattle.body.proofs.Holders.{holder, up_to_date, holder_wrote, holder_kept, holder_pass, read_up_to_date, up_to_date_some}

module _ (B : Body) where
  -- the items as if no transfer were wrapped
  abbrev pub full_system : System
  full_system =
      record {
        items = item_count B;
        passes = λ a. B.passes;
        reads = λ a. reads_of B a (item_at B a);
        writes = λ a. writes_of B a (item_at B a);
        compute = λ a l. compute_of B (item_at B a) l;
        initial = initial B;
      }

  -- the items from k on are those of s
  pub record At (k : ℕ) (s : List Item) : Type 0 where
    pub rest : drop k (item_list B) ≡ s
    pub size : k + length s ≡ item_count B

  at_cons : (k : ℕ) (x : Item) (s : List Item) → At k (x ∷ s) → item_at B k ∷ drop (suc k) (item_list B) ≡ x ∷ s
  unfolding item_at
  at_cons k x s h = sym (drop-cons (item_list B) k (task 0) (omega (arith, h.size))) ∙ h.rest

  at_item : (k : ℕ) (x : Item) (s : List Item) → At k (x ∷ s) → item_at B k ≡ x
  at_item k x s h = head-eq_of_cons-eq (at_cons k x s h)

  at_next : (k : ℕ) (x : Item) (s : List Item) → At k (x ∷ s) → At (suc k) s
  at_next k x s h = record { rest = tail-eq_of_cons-eq (at_cons k x s h); size = omega (arith, h.size) }

  -- one item
  word_at_lem : (p k : ℕ) (x : Item) → item_at B k ≡ x → word full_system p k ≡ compute_of B x (map (store_at full_system p k) (reads_of B k x))
  unfolding word word_on
  word_at_lem p k x e = ap (λ (y : Item). compute_of B y (map (store_at full_system p k) (reads_of B k y))) e

  store_in : (p k : ℕ) (y : Item) (x : ℕ) → item_at B k ≡ y → p < B.passes → mem x (writes_of B k y) ≡ true → store_at full_system p (suc k) x ≡ word full_system p k
  store_in p k y x e h m = store_written full_system p k x h (subst (λ (z : Item). mem x (writes_of B k z) ≡ true) (sym e) m)

  store_out : (p k : ℕ) (y : Item) (x : ℕ) → item_at B k ≡ y → (mem x (writes_of B k y) ≡ true → ⊥) → store_at full_system p (suc k) x ≡ store_at full_system p k x
  store_out p k y x e f = store_kept full_system p k x (λ h m. f (subst (λ (z : Item). mem x (writes_of B k z) ≡ true) e m))

  -- what the loop's word is computed from
  pub loop_word_reads : (p t : ℕ) → loop_word B p t ≡ B.compute t (map (cells_at B p t) (B.reads t))
  unfolding loop_word task_word
  loop_word_reads p t = refl

  -- the loop, one task on
  cells_wrote : (p t g : ℕ) → mem g (B.writes t) ≡ true → cells_at B p (suc t) g ≡ loop_word B p t
  unfolding cells_at tasks_run loop_word
  cells_wrote p t g h = put_in (B.writes t) _ _ g h

  cells_kept : (p t g : ℕ) → mem g (B.writes t) ≡ false → cells_at B p (suc t) g ≡ cells_at B p t g
  unfolding cells_at tasks_run
  cells_kept p t g h = put_out (B.writes t) _ _ g h

  -- the words of the items before k are the loop's
  abbrev pub Words : ℕ → ℕ → Type 0
  Words p k = (a : ℕ) → a < k → word full_system p a ≡ loop_word B p (writer (item_at B a))

  words_next : (p k : ℕ) (x : Item) → item_at B k ≡ x → word full_system p k ≡ loop_word B p (writer x) → Words p k → Words p (suc k)
  words_next p k x e w h = below_suc (λ a. word full_system p a ≡ loop_word B p (writer (item_at B a))) k h (w ∙ ap (λ (y : Item). loop_word B p (writer y)) (sym e))

  -- before task t in pass p, at item k: copies that are up to date hold the loop's cells
  pub record BeforeTask (p t k : ℕ) : Type 0 where
    pub copies : (q g : ℕ) → q < B.ranks → g < B.regions → up_to_date B (holder B p t g) q g ≡ true → store_at full_system p k (copy B q g) ≡ cells_at B p t g
    pub words : Words p k

  -- behind task t in pass p, at item k, with the transfers l left: so do those that no transfer left will bring up to date
  pub record BehindTask (p t : ℕ) (l : List Transfer) (k : ℕ) : Type 0 where
    pub own : (g : ℕ) → mem g (B.writes t) ≡ true → store_at full_system p k (copy B (B.rank t) g) ≡ loop_word B p t
    pub copies : (q g : ℕ) → q < B.ranks → g < B.regions → up_to_date B (holder B p (suc t) g) q g ≡ true →
        (store_at full_system p k (copy B q g) ≡ cells_at B p (suc t) g) ⊎ In (transfer t g q) l
    pub words : Words p k

module _ (B : Body) (F : Fits B) (p : ℕ) (lp : p < B.passes) (t : ℕ) (lt : t < B.tasks) where
  task_word_lem : (k : ℕ) → item_at B k ≡ task t → BeforeTask B p t k → word (full_system B) p k ≡ loop_word B p t
  unfolding reads_of compute_of
  task_word_lem k e r =
      word_at_lem B p k (task t) e
      ∙ ap (B.compute t) (map_map (store_at (full_system B) p k) (copy B (B.rank t)) (B.reads t)
      ∙ map_ext (λ g. store_at (full_system B) p k (copy B (B.rank t) g)) (cells_at B p t) (B.reads t)
      (λ g m. r.copies (B.rank t) g (F.rank_below t lt) (F.reads_below t g lt m) (read_up_to_date B p t g lt m)))
      ∙ sym (loop_word_reads B p t)

  task_own : (k : ℕ) → item_at B k ≡ task t → BeforeTask B p t k → (g : ℕ) → mem g (B.writes t) ≡ true → store_at (full_system B) p (suc k) (copy B (B.rank t) g) ≡ loop_word B p t
  unfolding writes_of
  task_own k e r g m = store_in B p k (task t) (copy B (B.rank t) g) e lp (mem_map (copy B (B.rank t)) g (B.writes t) m) ∙ task_word_lem k e r

  -- a region that the task does not write
  task_other : (k : ℕ) → item_at B k ≡ task t → (q g : ℕ) → g < B.regions → mem g (B.writes t) ≡ false → store_at (full_system B) p (suc k) (copy B q g) ≡ store_at (full_system B) p k (copy B q g)
  unfolding writes_of
  task_other k e q g l m = store_out B p k (task t) (copy B q g) e (λ w. clash (mem_map_from (copy B (B.rank t)) (copy B q g) (B.writes t) w))
    where
      clash : (h : ℕ) × (mem h (B.writes t) ≡ true) × (copy B q g ≡ copy B (B.rank t) h) → ⊥
      clash (h, w, i) = not_both (subst (λ (z : ℕ). mem z (B.writes t) ≡ true) (sym (copies_apart B q g (B.rank t) h l (F.writes_below t h lt w) i).1) w) m

  after_task : (k : ℕ) → item_at B k ≡ task t → BeforeTask B p t k → BehindTask B p t (transfers_of B t) (suc k)
  after_task k e r =
      record {
        own = task_own k e r;
        copies = λ q g lq lg v. ⊎_elim (wrote q g lq lg v) (λ m. inl (kept q g lq lg v m)) (true_or_false (mem g (B.writes t)));
        words = words_next B p k (task t) e (task_word_lem k e r) r.words;
      }
    where
      wrote : (q g : ℕ) → q < B.ranks → g < B.regions → up_to_date B (holder B p (suc t) g) q g ≡ true → mem g (B.writes t) ≡ true →
          (store_at (full_system B) p (suc k) (copy B q g) ≡ cells_at B p (suc t) g) ⊎ In (transfer t g q) (transfers_of B t)
      wrote q g lq lg v m =
          ⊎_elim
          (λ (z : q ≡ B.rank t). inl (ap (λ (x : ℕ). store_at (full_system B) p (suc k) (copy B x g)) z ∙ (task_own k e r g m ∙ sym (cells_wrote B p t g m))))
          (λ w. inr (transfer_in B t g q m lq w))
          (up_to_date_some B t q g (rw (holder_wrote B p t g m) at v))

      kept : (q g : ℕ) → q < B.ranks → g < B.regions → up_to_date B (holder B p (suc t) g) q g ≡ true → mem g (B.writes t) ≡ false →
          store_at (full_system B) p (suc k) (copy B q g) ≡ cells_at B p (suc t) g
      kept q g lq lg v m = task_other k e q g lg m ∙ (r.copies q g lq lg (rw (holder_kept B p t g m) at v) ∙ sym (cells_kept B p t g m))

  -- a send, and then its receive
  module _ (k g q : ℕ) (l : List Transfer) (m : mem g (B.writes t) ≡ true) (M : BehindTask B p t (transfer t g q ∷ l) k) (es : item_at B k ≡ send t g q) (er : item_at B (suc k) ≡ receive t g q) where
    send_word : word (full_system B) p k ≡ loop_word B p t
    unfolding reads_of compute_of
    send_word = word_at_lem B p k (send t g q) es ∙ M.own g m

    send_slot : store_at (full_system B) p (suc k) (slot k) ≡ loop_word B p t
    unfolding writes_of
    send_slot = store_in B p k (send t g q) (slot k) es lp (mem_head (slot k) []) ∙ send_word

    send_other : (r h : ℕ) → r < B.ranks → h < B.regions → store_at (full_system B) p (suc k) (copy B r h) ≡ store_at (full_system B) p k (copy B r h)
    unfolding writes_of
    send_other r h lr lh = store_out B p k (send t g q) (copy B r h) es (λ w. copy_no_slot B F r h k lr lh (mem_one (copy B r h) (slot k) w))

    receive_word : word (full_system B) p (suc k) ≡ loop_word B p t
    unfolding reads_of compute_of
    receive_word = word_at_lem B p (suc k) (receive t g q) er ∙ (ap (λ (a : ℕ). store_at (full_system B) p (suc k) (slot a)) (omega arith) ∙ send_slot)

    receive_copy : store_at (full_system B) p (suc (suc k)) (copy B q g) ≡ loop_word B p t
    unfolding writes_of
    receive_copy =
        store_in B p (suc k) (receive t g q) (copy B q g) er lp (mem_tail (copy B q g) (slot (suc k - 1)) (copy B q g ∷ []) (mem_head (copy B q g) []))
        ∙ receive_word

    receive_other : (r h : ℕ) → r < B.ranks → h < B.regions → (copy B r h ≡ copy B q g → ⊥) → store_at (full_system B) p (suc (suc k)) (copy B r h) ≡ store_at (full_system B) p k (copy B r h)
    unfolding writes_of
    receive_other r h lr lh ne =
        store_out B p (suc k) (receive t g q) (copy B r h) er (λ w. ⊎_elim (copy_no_slot B F r h (suc k - 1) lr lh)
        (λ z. ne (mem_one (copy B r h) (copy B q g) z))
        (mem_cases (copy B r h) (slot (suc k - 1)) (copy B q g ∷ []) w))
        ∙ send_other r h lr lh

    after_transfer : BehindTask B p t l (suc (suc k))
    after_transfer =
        record {
          own = λ h w. elim (ℕ_discrete (copy B (B.rank t) h) (copy B q g)) [
            | yes z ↦ ap (store_at (full_system B) p (suc (suc k))) z ∙ receive_copy
            | no z ↦ receive_other (B.rank t) h (F.rank_below t lt) (F.writes_below t h lt w) z ∙ M.own h w
          ];
          copies = λ r h lr lh v. elim (ℕ_discrete (copy B r h) (copy B q g)) [
            | yes z ↦ inl (ap (store_at (full_system B) p (suc (suc k))) z ∙ (receive_copy ∙ (sym (cells_wrote B p t g m) ∙ ap (cells_at B p (suc t)) (sym (copies_apart B r h q g lh (F.writes_below t g lt m) z).1))))
            | no z ↦ ⊎_elim (λ w. inl (receive_other r h lr lh z ∙ w)) (λ w. inr (left r h z (in-cases w))) (M.copies r h lr lh v)
          ];
          words = words_next B p (suc k) (receive t g q) er receive_word (words_next B p k (send t g q) es send_word M.words);
        }
      where
        left : (r h : ℕ) → (copy B r h ≡ copy B q g → ⊥) → (transfer t h r ≡ transfer t g q) ⊎ In (transfer t h r) l → In (transfer t h r) l
        left r h ne (inl e) = let u : r ≡ q = cc in let v : h ≡ g = cc in absurd (ne (cc))
        left r h ne (inr w) = w

  -- the transfers of the task, one after another
  after_first : (x : Transfer) (l : List Transfer) (s : List Item) (k : ℕ) → Transferred B t x → At B k (pair_of x ++ flat_map pair_of l ++ s) → BehindTask B p t (x ∷ l) k →
      At B (suc (suc k)) (flat_map pair_of l ++ s) × BehindTask B p t l (suc (suc k))
  after_first x l s k r h M =
      let g = r.region in
      let q = r.target in
      let rest = flat_map pair_of l ++ s in
      let h₀ : At B k (send t g q ∷ receive t g q ∷ rest) = subst (λ (z : Transfer). At B k (pair_of z ++ flat_map pair_of l ++ s)) r.same h in
      let h₁ : At B (suc k) (receive t g q ∷ rest) = at_next B k (send t g q) (receive t g q ∷ rest) h₀ in (
        at_next B (suc k) (receive t g q) rest h₁,
        after_transfer k g q l r.written (subst (λ (z : Transfer). BehindTask B p t (z ∷ l) k) r.same M)
            (at_item B k (send t g q) (receive t g q ∷ rest) h₀) (at_item B (suc k) (receive t g q) rest h₁),
      )

  after_transfers : (l : List Transfer) (s : List Item) (k : ℕ) → ((x : Transfer) → In x l → Transferred B t x) → At B k (flat_map pair_of l ++ s) → BehindTask B p t l k →
      (j : ℕ) × At B j s × BehindTask B p t [] j
  unfolding flat_map
  after_transfers [] s k f h M = (k, h, M)
  after_transfers (x ∷ l) s k f h M =
      let o = after_first x l s k (f x (here refl)) h M in
      after_transfers l s (suc (suc k)) (λ y m. f y (there m)) o.0 o.1

  none_left : (j : ℕ) → BehindTask B p t [] j → BeforeTask B p (suc t) j
  none_left j M = record { copies = λ q g lq lg v. ⊎_elim (λ e. e) (λ m. absurd (in-nil m)) (M.copies q g lq lg v); words = M.words }

  after_block : (s : List Item) (k : ℕ) → At B k (block B t ++ s) → BeforeTask B p t k → (j : ℕ) × At B j s × BeforeTask B p (suc t) j
  after_block s k h r =
      let rest = flat_map pair_of (transfers_of B t) ++ s in
      let m : (j : ℕ) × At B j s × BehindTask B p t [] j =
      after_transfers (transfers_of B t) s (suc k) (transfer_from B t) (at_next B k (task t) rest h) (after_task k (at_item B k (task t) rest h) r) in
      (m.0, m.1, none_left m.0 m.2)

module _ (B : Body) (F : Fits B) where
  after_blocks : (p : ℕ) → p < B.passes → (n t k : ℕ) → t + n ≡ B.tasks → At B k (flat_map (block B) (range t n)) → BeforeTask B p t k →
      (j : ℕ) × At B j [] × BeforeTask B p B.tasks j
  unfolding flat_map range
  after_blocks p lp zero t k e h r = (k, h, subst (λ (z : ℕ). BeforeTask B p z k) (omega arith) r)
  after_blocks p lp (suc n) t k e h r =
      let m : (j : ℕ) × At B j (flat_map (block B) (range (suc t) n)) × BeforeTask B p (suc t) j = after_block B F p lp t (omega arith) (flat_map (block B) (range (suc t) n)) k h r in
      after_blocks p lp n (suc t) m.0 (omega arith) m.1 m.2

  after_pass : (p : ℕ) → p < B.passes → BeforeTask B p 0 0 → BeforeTask B p B.tasks (item_count B)
  unfolding item_list
  after_pass p lp r =
      let m : (j : ℕ) × At B j [] × BeforeTask B p B.tasks j = after_blocks p lp B.tasks 0 0 (omega arith) (record { rest = refl; size = omega arith }) r in
      subst (λ (z : ℕ). BeforeTask B p B.tasks z) (omega (arith, m.1.size)) m.2

  first_pass : BeforeTask B 0 0 0
  unfolding cells_at tasks_run cells_of
  first_pass =
      record {
        copies = λ q g lq lg v. store_open (full_system B) (copy B q g) ∙ copy_opening B q g lq lg;
        words = λ a l. absurd (omega arith);
      }

  next_pass : (p : ℕ) → BeforeTask B p B.tasks (item_count B) → BeforeTask B (suc p) 0 0
  unfolding cells_at tasks_run cells_of
  next_pass p r =
      record {
        copies = λ q g lq lg v. store_pass (full_system B) p (copy B q g) ∙ r.copies q g lq lg (rw (holder_pass B p g) at v);
        words = λ a l. absurd (omega arith);
      }

  pub before_pass : (p : ℕ) → p ≤ B.passes → BeforeTask B p 0 0
  before_pass zero l = first_pass
  before_pass (suc p) l = next_pass p (after_pass p l (before_pass p (omega arith)))

  pub words : (p a : ℕ) → p < B.passes → a < item_count B → word (full_system B) p a ≡ loop_word B p (writer (item_at B a))
  words p a lp la = (after_pass p lp (before_pass p (omega arith))).words a la
