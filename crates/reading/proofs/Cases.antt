-- The paper's cases of reading, computed on whole texts (paper 01, "Tried by hand").
use mathlib.Core.Option.{or_else}
use mathlib.Core.Path.{refl, ◌≡◌}
use lib.ListN.{replicate}
use mathlib.Core.List.{List, [], ◌∷◌, ◌++◌, flat_map}
use Prim.Native.Nat.{ℕ, ◌+◌, ◌*◌}
use Rattle.finite.specs.Below.{any_below}
use Rattle.finite.specs.Lists.{gather, mem, range, tabulate}
use Rattle.body.specs.Transfers.{last_before, source, transfer_count, transferred, transfers_of, wanted}
use Rattle.kernels.specs.Kernels.{suits}
use Rattle.text.specs.Ascii.{ascii}
use Rattle.text.specs.Numbers.{number_of, well_formed}
use Rattle.text.specs.Words.{keyword_of}
use Rattle.reading.specs.Plan.{words_of}
use Rattle.reading.specs.Reading.{accepted, read_of, refused}

-- the plan on two ranks that the paper gives
abbrev pub two_ranks : List ℕ
two_ranks = 108 ∷ 111 ∷ 111 ∷ 112 ∷ 9 ∷ 50 ∷ 9 ∷ 50 ∷ 9 ∷ 50 ∷ 10 ∷ 115 ∷ 116 ∷ 97 ∷ 114 ∷ 116 ∷ 9 ∷ 48 ∷ 9 ∷ 53 ∷ 10 ∷ 98 ∷ 101 ∷ 103 ∷ 105 ∷ 110 ∷ 9 ∷
    48 ∷ 9 ∷ 49 ∷ 9 ∷ 49 ∷ 10 ∷ 105 ∷ 110 ∷ 111 ∷ 117 ∷ 116 ∷ 9 ∷ 48 ∷ 10 ∷ 101 ∷ 110 ∷ 100 ∷ 10 ∷ 98 ∷ 101 ∷ 103 ∷ 105 ∷ 110 ∷ 9 ∷ 49 ∷ 9 ∷ 49 ∷ 9 ∷
    48 ∷ 10 ∷ 105 ∷ 110 ∷ 9 ∷ 48 ∷ 10 ∷ 105 ∷ 110 ∷ 111 ∷ 117 ∷ 116 ∷ 9 ∷ 49 ∷ 10 ∷ 101 ∷ 110 ∷ 100 ∷ 10 ∷ []

abbrev pub two_rank_words : List ℕ
two_rank_words =
    2 ∷ 2 ∷ 2 ∷ 2 ∷ 5 ∷ (replicate 127 0
    ++ (0 ∷ 1 ∷ 1 ∷ 1 ∷ 256 ∷ (replicate 7 0
    ++ (1 ∷ 1 ∷ 0 ∷ 2 ∷ 0 ∷ 257 ∷ replicate (6 + 12 * 126) 0))))

two_ranks_lem : read_of two_ranks ≡ accepted two_rank_words
unfolding read_of words_of tabulate number_of well_formed keyword_of mem suits transfer_count transfers_of transferred wanted source last_before or_else any_below gather range flat_map
two_ranks_lem = refl

-- K: a second `begin` before `end`
second_begin : read_of (108 ∷ 111 ∷ 111 ∷ 112 ∷ 9 ∷ 50 ∷ 9 ∷ 50 ∷ 9 ∷ 50 ∷ 10 ∷ 98 ∷ 101 ∷ 103 ∷ 105 ∷ 110 ∷ 9 ∷ 48 ∷ 9 ∷ 49 ∷ 9 ∷ 49 ∷ 10 ∷ 98 ∷ 101 ∷
    103 ∷ 105 ∷ 110 ∷ 9 ∷ 49 ∷ 9 ∷ 49 ∷ 9 ∷ 48 ∷ 10 ∷ 101 ∷ 110 ∷ 100 ∷ 10 ∷ []) ≡ refused 4 3
unfolding read_of number_of well_formed keyword_of mem
second_begin = refl

-- L: `in` 0 then `out` 0
named_twice_lem : read_of (108 ∷ 111 ∷ 111 ∷ 112 ∷ 9 ∷ 50 ∷ 9 ∷ 50 ∷ 9 ∷ 50 ∷ 10 ∷ 98 ∷ 101 ∷ 103 ∷ 105 ∷ 110 ∷ 9 ∷ 48 ∷ 9 ∷ 48 ∷ 9 ∷ 49 ∷ 10 ∷ 105 ∷ 110 ∷
    9 ∷ 48 ∷ 10 ∷ 111 ∷ 117 ∷ 116 ∷ 9 ∷ 48 ∷ 10 ∷ 101 ∷ 110 ∷ 100 ∷ 10 ∷ []) ≡ refused 6 4
unfolding read_of number_of well_formed keyword_of mem
named_twice_lem = refl

-- one pass more than the limit
passes_beyond : read_of (ascii "loop\t1000000000001\t1\t1\n") ≡ refused 3 1
unfolding read_of number_of well_formed keyword_of mem
passes_beyond = refl

-- an empty text
empty : read_of [] ≡ refused 2 1
unfolding read_of
empty = refl

-- an open last task
task_open : read_of (108 ∷ 111 ∷ 111 ∷ 112 ∷ 9 ∷ 49 ∷ 9 ∷ 49 ∷ 9 ∷ 49 ∷ 10 ∷ 98 ∷ 101 ∷ 103 ∷ 105 ∷ 110 ∷ 9 ∷ 48 ∷ 9 ∷ 48 ∷ 9 ∷ 48 ∷ 10 ∷ []) ≡ refused 7 3
unfolding read_of number_of well_formed keyword_of mem
task_open = refl
