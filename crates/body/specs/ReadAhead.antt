-- A read ahead of its writer on another rank (paper 02, card 2): its transfer is wrapped, and not
-- made in the last pass.
use Rattle.std.specs.Prelude.{ℕ, ◌+◌, ◌%◌, ◌^◌, ◌≡◌, List, [], ◌∷◌, map, get_or}
use Rattle.std.proofs.Math.Option.{Option, none, some}
use Rattle.unroll.specs.Machine.{Call, start, finish, opening, Decides, replies}
use Rattle.unroll.specs.AnyOrder.{all_steps, reached}
use Rattle.body.specs.Body.{Body, Fits}
use Rattle.body.specs.Loop.{loop_final}
use Rattle.body.specs.Transfers.{wrapped_count}
use Rattle.body.specs.Items.{task, send, receive, item_list, item_passes, total_steps}
use Rattle.body.specs.Places.{system, result_of}
use Rattle.body.specs.TwoRanks.{sum}

-- loop 2 2 2; start 0 5; begin 0 1 0, in 0, inout 1, end; begin 1 1 1, inout 0, end
abbrev pub read_ahead : Body
read_ahead =
    record {
      passes = 2;
      ranks = 2;
      regions = 2;
      tasks = 2;
      rank = λ i. get_or (0 ∷ 1 ∷ []) i 0;
      reads = λ i. get_or ((0 ∷ 1 ∷ []) ∷ (0 ∷ []) ∷ []) i [];
      writes = λ i. get_or ((1 ∷ []) ∷ (0 ∷ []) ∷ []) i [];
      compute = λ i l. (get_or (0 ∷ 1 ∷ []) i 0 + sum l) % (2 ^ 64);
      starting = λ g. get_or (5 ∷ 0 ∷ []) g 0;
    }

-- calls and what they are answered
abbrev pub trace : List (Call × Option ℕ)
trace =
    (start 0, some 5)
    ∷ (start 1, some 6)
    ∷ (finish 1, some 6)
    ∷ (start 2, some 6)
    ∷ (finish 2, some 6)
    -- item 3 would overwrite the copy that item 0 of pass 0 still reads
    ∷ (start 3, none)
    ∷ (finish 0, some 5)
    -- the last pass of item 1, and items 2 and 3 have none left behind it
    ∷ (start 1, some 7)
    ∷ (finish 1, some 7)
    ∷ (start 2, none)
    ∷ (start 0, none)
    ∷ (start 3, some 6)
    ∷ (finish 3, some 6)
    ∷ (start 3, none)
    ∷ (start 0, some 11)
    ∷ (finish 0, some 11)
    ∷ []

abbrev pub calls : List Call
calls = map (λ (r : Call × Option ℕ). r.0) trace

pub record ReadAhead : Type 0 where
  pub fits : Fits read_ahead
  pub items : item_list read_ahead ≡ task 0 ∷ task 1 ∷ send 1 0 0 ∷ receive 1 0 0 ∷ []
  pub one_wrapped : wrapped_count read_ahead ≡ 1
  pub passes : map (item_passes read_ahead) (0 ∷ 1 ∷ 2 ∷ 3 ∷ []) ≡ 2 ∷ 2 ∷ 1 ∷ 1 ∷ []
  -- 2 × (2 × 4 − 2 × 1)
  pub total : total_steps read_ahead ≡ 12
  pub all_steps_lem : all_steps (system read_ahead) ≡ 12
  pub finals : map (loop_final read_ahead) (0 ∷ 1 ∷ []) ≡ 7 ∷ 11 ∷ []
  -- the machine, run on the calls
  pub answered : (can : Decides (system read_ahead)) →
      replies (system read_ahead) can (opening (system read_ahead)) calls ≡ map (λ (r : Call × Option ℕ). r.1) trace
  pub results : (can : Decides (system read_ahead)) → map (result_of read_ahead (reached (system read_ahead) can calls)) (0 ∷ 1 ∷ []) ≡ 7 ∷ 11 ∷ []
