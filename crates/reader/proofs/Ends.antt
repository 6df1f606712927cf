-- What follows the last line, and what reading tells of it.
use Rattle.std.specs.Prelude.{Result, Ok, Err, cond}
use Prim.Native.Nat.{ℕ, ◌≤◌, ◌<◌}
use mathlib.Core.Path.{◌≡◌, refl, sym, ap, ◌∙◌}
use mathlib.Core.Bool.{Bool, true, false}
use mathlib.Core.List.{List, ◌++◌}
use native.Mathlib.Omega.{arith}
use borrow.Author.Tests.{lt-ltb, ne_eqb}
use lib.Dec.{leb, leb-zero}
use lib.ListN.{length, drop, replicate}
use Rattle.body.specs.Transfers.{transfer_count}
use Rattle.plan.specs.Form.{in_form, words_ok}
use Rattle.plan.specs.Layout.{at, body_of, plan_words}
use Rattle.reading.specs.Reading.{Reading, accepted, lies, read_of, refused}
use Rattle.plan.specs.Limits.{max_bytes, max_kernel}
use Rattle.reader.specs.Answer.{Reads, left_in}
use Rattle.reader.specs.Machine.{end_of}
use Rattle.reader.specs.Steps.{Tells, checked, value, words_left}
use Rattle.reader.specs.declared.TextRefusal.{TextRefusal}
use Rattle.reader.specs.declared.TextRefusal.TheVariants.{Exceeds}
use Rattle.text.specs.declared.Number.{Number}
use Rattle.text.specs.declared.Number.TheVariants.{Value, TooLarge, Malformed}
use Rattle.reader.specs.declared.Answer.{Answer}

-- where the words are in form but for the transfers, the test of the form is that of the transfers
form_transfers : (w : List ℕ) (b : Bool) → b ≡ in_form w → words_ok w ≡ true → leb (transfer_count (body_of w)) 256 ≡ b
unfolding in_form
form_transfers w b e h = sym (e ∙ rw h)

abbrev number_in : Result ℕ TextRefusal → ℕ
number_in (Ok v) = v
number_in (Err why) = 0

abbrev is_ok : Result ℕ TextRefusal → ℕ
is_ok (Ok v) = 1
is_ok (Err why) = 0

-- after the last line, with no task open
module _ (n : ℕ) (w : List ℕ) (b : Bool) (f : b ≡ in_form w) (h : 1 ≤ at w 3 → words_ok w ≡ true) where
  pub end_many : (at w 3 ≡ 0 → ⊥) → b ≡ false → refused 10 n ≡ end_of n 1 w
  end_many z u = rw (ne_eqb (at w 3) 0 z, form_transfers w b f (h (omega arith)), u)

  pub end_accepted : (at w 3 ≡ 0 → ⊥) → b ≡ true → accepted w ≡ end_of n 1 w
  end_accepted z u = rw (ne_eqb (at w 3) 0 z, form_transfers w b f (h (omega arith)), u)

-- a text that is too long
pub read_long : (text : List ℕ) → max_bytes < length text → refused 10 0 ≡ read_of text
unfolding read_of
read_long text l = rw (lt-ltb max_bytes (length text) l)

-- a refused text leaves zeros
pub tells_refused : (text : List ℕ) (why line r : ℕ) (left : List ℕ) → refused why line ≡ read_of text → r ≡ why → left ≡ replicate plan_words 0 →
    Tells (read_of text) (record { refusal = r; line = line }) left
tells_refused text why line r left e q h = rw (← e, q) (record { answer = refl; words = h })

-- a kernel's number
pub kernel_number : (x : Number) (r : Result ℕ TextRefusal) (v : ℕ) (b : Bool) → r ≡ value x → r ≡ Ok v → b ≡ leb v max_kernel → cond b (Ok v) (Err Exceeds) ≡ checked (lies 0 max_kernel x) x
kernel_number x r v b h k e = go x (sym h ∙ k)
  where
    go : (x : Number) → value x ≡ Ok v → cond b (Ok v) (Err Exceeds) ≡ checked (lies 0 max_kernel x) x
    go (Value n) q = let s : n ≡ v = ap number_in q in rw (s, leb-zero v, e)
    go TooLarge q = let z : ◌≡◌ {A = ℕ} 0 1 = ap is_ok q in absurd (omega arith)
    go Malformed q = let z : ◌≡◌ {A = ℕ} 0 1 = ap is_ok q in absurd (omega arith)

-- the plan slice
left_whole : (plan : List ℕ) (R : Reading) → left_in plan R ≡ words_left R ++ drop plan_words plan
left_whole plan (accepted w) = refl
left_whole plan (refused n line) = refl

pub reads_whole : (text plan words left : List ℕ) (r : Answer) → plan_words ≤ length plan → Tells (read_of text) r words → left ≡ words ++ drop plan_words plan → Reads text plan r left
reads_whole text plan words left r h t e =
    record { short = λ l. absurd (omega arith); answer = λ l. t.answer; leaves = λ l. e ∙ rw t.words (sym (left_whole plan (read_of text))) }
