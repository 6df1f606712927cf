-- What the loop over the lines asks: how reading goes on at an offset, and what bounds the words in
-- hand.
use Rattle.std.specs.Prelude.{Option, Some, None, Ok}
use Prim.Native.Nat.{ℕ, ◌+◌, ◌≤◌, ◌<◌}
use mathlib.Core.Path.{◌≡◌, refl, sym, ◌∙◌, ap, subst}
use mathlib.Core.Bool.{true, false}
use mathlib.Core.List.{List, [], ◌∷◌}
use native.Mathlib.Omega.{arith}
use borrow.Author.Tests.{le-ltb, leb-true, ltb-false}
use lib.Dec.{ltb}
use lib.ListN.{length, drop, replicate, length-replicate, drop_of_length-le}
use lib.Seq.{drop-cons}
use Rattle.text.specs.declared.Record.{Record}
use Rattle.text.specs.declared.Line.{Line}
use Rattle.text.specs.Records.{next_at, next_of, record_at, split}
use Rattle.text.proofs.LineLaws.{LineAt, line_at_lem, line_end}
use Rattle.text.proofs.SplitLaws.{split_cons}
use Rattle.plan.specs.Form.{words_ok}
use Rattle.plan.specs.Layout.{at, plan_words}
use Rattle.reading.specs.Reading.{State, Step, closed, first, next, opened, read_of, refuse, refused, step, with_task}
use Rattle.reading.proofs.Accepted.{good, good_step, step_good}
use Rattle.reading.proofs.Theorems.{plan_ok, words_size, zero_at}
use Rattle.plan.specs.Limits.{max_bytes, max_regions, max_tasks}
use Rattle.reader.specs.Machine.{Move, end_of, go, machine_from, machine_of, move, on_move, stop}
use Rattle.reader.specs.Steps.{Bounds, Walked, move_line, phase_number}
use Rattle.reader.specs.declared.Phase.{Phase}
use Rattle.reader.proofs.Finds.{closed_reads}
use Rattle.reader.proofs.Held.{held}
use Rattle.reader.proofs.Same.{Agree, Flags, Hand, agrees, count_is, finds, machine_same, named_starts, no_flags, phase}

module _ (s : List ℕ) (off n p : ℕ) (f w : List ℕ) where
  line_next : (r : Record) (after : ℕ) → LineAt s off r after →
      machine_from n p f w (split 10 (drop off s)) ≡ on_move n (λ p' f' w'. machine_from (n + 1) p' f' w' (split 10 (drop after s))) (move p f w r)
  line_next r after l = let c = split_cons 10 (drop after s) in rw (l.parts, l.says, c.2)

  line_stop : (r : Record) (after why : ℕ) → LineAt s off r after → move p f w r ≡ stop why → machine_from n p f w (split 10 (drop off s)) ≡ refused why n
  line_stop r after why l e = line_next r after l ∙ rw e

  line_go : (r : Record) (after p' : ℕ) (f' w' : List ℕ) → LineAt s off r after → move p f w r ≡ go p' f' w' →
      machine_from n p f w (split 10 (drop off s)) ≡ machine_from (n + 1) p' f' w' (split 10 (drop after s))
  line_go r after p' f' w' l e = line_next r after l ∙ rw e

  line_unended : split 10 (drop off s) ≡ drop off s ∷ [] → off < length s → machine_from n p f w (split 10 (drop off s)) ≡ refused 1 n
  line_unended e h = rw (e, drop-cons s off 0)

  line_done : length s ≤ off → machine_from n p f w (split 10 (drop off s)) ≡ end_of n p w
  line_done h = rw drop_of_length-le

-- the reader's state is one that reading reaches
pub record Reached (p : ℕ) (f w : List ℕ) : Type 0 where
  pub state : State
  pub keeps : good state
  pub hand : Hand state p f w

reached_first : Reached 0 (replicate max_regions 0) (replicate plan_words 0)
reached_first = record { state = first; keeps = tt; hand = record { phases = refl; flags = no_flags; words = refl } }

abbrev reached_move : Move → Type 0
reached_move (go p f w) = Reached p f w
reached_move (stop n) = Unit

after : (x : Step) (y : Move) → Agree x y → good_step x → reached_move y
after (next s) (go p f w) A G = record { state = s; keeps = G; hand = A }
after (next s) (stop n) A G = tt
after (refuse m) (go p f w) A G = absurd A
after (refuse m) (stop n) A G = tt

reached_next : (p : ℕ) (f w : List ℕ) (r : Record) (p' : ℕ) (f' w' : List ℕ) → Reached p f w → move p f w r ≡ go p' f' w' → Reached p' f' w'
reached_next p f w r p' f' w' R e = subst reached_move e moved
  where
    moved : reached_move (move p f w r)
    moved =
        rw (R.hand.phases, R.hand.words)
        (after (step R.state r) (move (phase R.state) f (held R.state) r) (agrees R.state f r R.keeps R.hand.flags) (step_good R.state r R.keeps))

bounds_of : (s : State) (f : List ℕ) → good s → length f ≡ max_regions → (fl : Flags (named_starts s) f) → Bounds (phase s) f (held s)
bounds_of first f G e fl =
    record {
      words = length-replicate {A = ℕ} plan_words 0;
      flags = e;
      regions = omega (arith, zero_at plan_words 2);
      tasks = omega (arith, zero_at plan_words 3);
      some = λ h. absurd (omega arith);
      count = λ h. absurd (omega arith);
    }
bounds_of (closed P) f G e fl =
    let c = closed_reads P in
    record {
      words = words_size P;
      flags = e;
      regions = (let k : P.regions ≤ max_regions = leb-true _ _ G.regions in omega (arith, c.regions));
      tasks = (let k : length P.tasks ≤ max_tasks = leb-true _ _ G.count in omega (arith, c.tasks));
      some = λ h. absurd (omega arith);
      count = λ h. absurd (omega arith);
    }
bounds_of (opened P t) f G e fl =
    let c = finds P t f G fl in
    record {
      words = words_size (with_task P t);
      flags = e;
      regions = (let k : P.regions ≤ max_regions = leb-true _ _ G.0.regions in omega (arith, c.regions_of_lem));
      tasks = omega (arith, c.tasks, G.1);
      some = λ h. omega (arith, c.tasks);
      count = λ h. (let k : length t.accesses ≤ 8 = leb-true _ _ G.2.count in omega (arith, count_is P t f G fl));
    }

bounds : (p : ℕ) (f w : List ℕ) → Reached p f w → Bounds p f w
bounds p f w R = rw (R.hand.phases, R.hand.words) (bounds_of R.state f R.keeps R.hand.flags.size R.hand.flags)

formed_of : (s : State) → good s → phase s ≡ 1 → 1 ≤ at (held s) 3 → words_ok (held s) ≡ true
formed_of first G e h = absurd (omega arith)
formed_of (closed P) G e h = plan_ok P G (omega (arith, (closed_reads P).tasks))
formed_of (opened P t) G e h = absurd (omega arith)

-- with no task open, the words of a plan with a task are in form but for its transfers
pub formed : (p : ℕ) (f w : List ℕ) → Reached p f w → p ≡ 1 → 1 ≤ at w 3 → words_ok w ≡ true
formed p f w R e h = rw R.hand.words (formed_of R.state R.keeps (sym R.hand.phases ∙ e) (rw R.hand.words at h))

-- before the first line of a text that is not too long
lines_first : (text f w : List ℕ) → length text ≤ max_bytes → f ≡ replicate max_regions 0 → w ≡ replicate plan_words 0 → machine_from 1 0 f w (split 10 text) ≡ read_of text
unfolding machine_of
lines_first text f w h e k = let s = machine_same text in rw (e, k) (rw (le-ltb max_bytes (length text) h) at s)

-- what holds between two lines, where the next one starts at an offset
pub record Stands (text : List ℕ) (off p n : ℕ) (f w : List ℕ) : Type 0 where
  pub within : off ≤ length text
  pub line : n ≤ off + 1
  pub reached : Reached p f w
  pub reads : machine_from n p f w (split 10 (drop off text)) ≡ read_of text

pub stands_first : (text f w : List ℕ) → length text ≤ max_bytes → f ≡ replicate max_regions 0 → w ≡ replicate plan_words 0 → Stands text 0 0 1 f w
stands_first text f w h e k = record { within = omega arith; line = omega arith; reached = rw (e, k) reached_first; reads = lines_first text f w h e k }

pub stands_bounds : (text : List ℕ) (off p n : ℕ) (f w : List ℕ) → Stands text off p n f w → Bounds p f w
stands_bounds text off p n f w S = bounds p f w S.reached

-- after the last line
pub stands_done : (text : List ℕ) (off n : ℕ) (f w : List ℕ) (phase : Phase) → Stands text off (phase_number phase) n f w → ltb off (length text) ≡ false → Walked text (Ok (phase, n)) w
stands_done text off n f w phase S e =
    let p = phase_number phase in
    record {
      size = (bounds p f w S.reached).words;
      reads = sym (sym S.reads ∙ line_done text off n p f w (ltb-false _ _ e));
      formed = λ q h. formed p f w S.reached q h;
    }

-- the refusal, and whether it goes on
abbrev why_of : Move → ℕ
why_of (go p f w) = 0
why_of (stop n) = n

abbrev going : Move → ℕ
going (go p f w) = 1
going (stop n) = 0

-- one line more
module _ (text : List ℕ) (off n : ℕ) (f w f' w' : List ℕ) (p : ℕ) (S : Stands text off p n f w) (lt : off < length text) where
  stops : (x : Option Line) (why : ℕ) → record_at text off ≡ x → stop why ≡ move_line p x f w → refused why n ≡ read_of text
  stops (Some l) why h e =
      let k = line_at_lem text off l.says l.next h in
      sym (line_stop text off n p f w l.says l.next why k (sym e)) ∙ S.reads
  stops None why h e = let q : why ≡ 1 = ap why_of e in rw q (sym (line_unended text off n p f w (line_end text off h) lt) ∙ S.reads)

  pub stands_stopped : (why : ℕ) → stop why ≡ move_line p (record_at text off) f w → refused why n ≡ read_of text
  stands_stopped why e = stops (record_at text off) why refl e

  goes : (x : Option Line) (p' : ℕ) → record_at text off ≡ x → go p' f' w' ≡ move_line p x f w → Stands text (next_of off x) p' (n + 1) f' w' × (off < next_of off x)
  goes (Some l) p' h e =
      let k = line_at_lem text off l.says l.next h in (
        record {
          within = k.within;
          line = omega (arith, k.on, S.line);
          reached = reached_next p f w l.says p' f' w' S.reached (sym e);
          reads = sym (line_go text off n p f w l.says l.next p' f' w' k (sym e)) ∙ S.reads;
        },
        k.on,
      )
  goes None p' h e = let z : ◌≡◌ {A = ℕ} 1 0 = ap going e in absurd (omega arith)

  pub stands_next : (p' : ℕ) → go p' f' w' ≡ move_line p (record_at text off) f w → Stands text (next_at text off) p' (n + 1) f' w' × (off < next_at text off)
  stands_next p' e = goes (record_at text off) p' refl e
