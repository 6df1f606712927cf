-- The paper's example of two tasks on two ranks (paper 01, "The run program"), and what is computed of it.
use Rattle.std.specs.Prelude.{ℕ, ◌+◌, ◌%◌, ◌^◌, ◌≡◌, ◌↔◌, get_or}
use mathlib.Core.List.{List, [], ◌∷◌, map, Memᴰ as In}
use Rattle.std.proofs.Math.Option.{Option, none, some}
use Rattle.unroll.specs.Sequential.{word}
use Rattle.unroll.specs.Edges.{Edge}
use Rattle.unroll.specs.Machine.{Call, start, finish, opening, Decides, replies}
use Rattle.unroll.specs.AnyOrder.{all_steps, reached}
use Rattle.body.specs.Body.{Body, Fits}
use Rattle.body.specs.Loop.{loop_word, loop_final}
use Rattle.body.specs.Items.{task, send, receive, item_list}
use Rattle.body.specs.Places.{system, result_of}

abbrev pub sum : List ℕ → ℕ
sum [] = 0
sum (x ∷ l) = x + sum l

-- loop 2 2 2; start 0 5; begin 0 1 1, inout 0, end; begin 1 1 0, in 0, inout 1, end
abbrev pub two_ranks : Body
two_ranks =
    record {
      passes = 2;
      ranks = 2;
      regions = 2;
      tasks = 2;
      rank = λ i. get_or (0 ∷ 1 ∷ []) i 0;
      reads = λ i. get_or ((0 ∷ []) ∷ (0 ∷ 1 ∷ []) ∷ []) i [];
      writes = λ i. get_or ((0 ∷ []) ∷ (1 ∷ []) ∷ []) i [];
      compute = λ i l. (get_or (1 ∷ 0 ∷ []) i 0 + sum l) % (2 ^ 64);
      starting = λ g. get_or (5 ∷ 0 ∷ []) g 0;
    }

-- from, to, distance, as the paper prints them
abbrev pub ten_edges : List (ℕ × ℕ × ℕ)
ten_edges =
    (0, 0, 1) ∷ (0, 1, 0) ∷ (1, 0, 1) ∷ (1, 1, 1) ∷ (1, 2, 0)
    ∷ (2, 1, 1) ∷ (2, 2, 1) ∷ (2, 3, 0) ∷ (3, 2, 1) ∷ (3, 3, 1) ∷ []

-- calls and what they are answered: both passes with rank 0 ahead, and refused calls among them
abbrev pub trace : List (Call × Option ℕ)
trace =
    -- item 3 waits for item 2; item 0 does not run, and then does
    (start 3, none)
    ∷ (finish 0, none)
    ∷ (start 0, some 6)
    ∷ (start 0, none)
    ∷ (finish 0, some 6)
    -- item 1 has still to read the word of pass 0
    ∷ (start 0, none)
    ∷ (start 1, some 6)
    ∷ (finish 1, some 6)
    ∷ (start 0, some 7)
    ∷ (finish 0, some 7)
    -- item 2 has still to read the slot
    ∷ (start 1, none)
    ∷ (start 2, some 6)
    ∷ (finish 2, some 6)
    ∷ (start 3, some 6)
    ∷ (start 1, some 7)
    ∷ (finish 1, some 7)
    -- item 2 would overwrite the copy that item 3 of pass 0 still reads
    ∷ (start 2, none)
    ∷ (finish 3, some 6)
    ∷ (start 2, some 7)
    ∷ (finish 2, some 7)
    ∷ (start 3, some 13)
    ∷ (finish 3, some 13)
    -- no pass left; no such item
    ∷ (start 3, none)
    ∷ (start 4, none)
    ∷ []

abbrev pub calls : List Call
calls = map (λ (r : Call × Option ℕ). r.0) trace

pub record TwoRanks : Type 0 where
  pub fits : Fits two_ranks
  pub items : item_list two_ranks ≡ task 0 ∷ send 0 0 1 ∷ receive 0 0 1 ∷ task 1 ∷ []
  pub edges : (a b d : ℕ) → Edge (system two_ranks) a b d ↔ In (a, b, d) ten_edges
  pub all_steps_lem : all_steps (system two_ranks) ≡ 16
  -- the words of the items in passes 0 and 1, and the loop's
  pub words : map (λ p. map (word (system two_ranks) p) (0 ∷ 1 ∷ 2 ∷ 3 ∷ [])) (0 ∷ 1 ∷ [])
      ≡ (6 ∷ 6 ∷ 6 ∷ 6 ∷ []) ∷ (7 ∷ 7 ∷ 7 ∷ 13 ∷ []) ∷ []
  pub loop_words : map (λ p. map (loop_word two_ranks p) (0 ∷ 1 ∷ [])) (0 ∷ 1 ∷ []) ≡ (6 ∷ 6 ∷ []) ∷ (7 ∷ 13 ∷ []) ∷ []
  pub finals : map (loop_final two_ranks) (0 ∷ 1 ∷ []) ≡ 7 ∷ 13 ∷ []
  -- the machine, run on the calls
  pub answered : (can : Decides (system two_ranks)) →
      replies (system two_ranks) can (opening (system two_ranks)) calls ≡ map (λ (r : Call × Option ℕ). r.1) trace
  pub results : (can : Decides (system two_ranks)) → map (result_of two_ranks (reached (system two_ranks) can calls)) (0 ∷ 1 ∷ []) ≡ 7 ∷ 13 ∷ []
