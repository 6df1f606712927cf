-- The texts of the table are read to their words, refused or written: computed.
use Prim.Native.Nat.{◌^◌}
use mathlib.Core.Path.{◌≡◌, refl}
use mathlib.Core.List.{flat_map}
use mathlib.Core.Option.{or_else}
use Rattle.finite.specs.Below.{any_below}
use Rattle.finite.specs.Lists.{mem, gather, range, tabulate}
use Rattle.kernels.specs.Kernels.{suits}
use Rattle.body.specs.Transfers.{last_before, source, wanted, transferred, transfers_of, transfer_count}
use Rattle.text.specs.Numbers.{number_of, well_formed}
use Rattle.text.specs.Words.{keyword_of}
use Rattle.reading.specs.Plan.{plan_of, words_of}
use Rattle.reading.specs.Reading.{read_of, read_within, accepted, refused}
use Rattle.text.specs.Digits.{digits}
use Rattle.reading.specs.Written.{text_of}
use Rattle.text.specs.Ascii.{ascii}
use Rattle.tried.specs.Table.{example_of, example, example_words, no_pass, unordered, readers, readers_words, ahead, ahead_words}

pub example_read : read_of example ≡ accepted (example_words 2)
unfolding read_of words_of tabulate number_of well_formed keyword_of mem suits transfer_count transfers_of transferred wanted source last_before or_else any_below gather range flat_map
example_read = refl

pub no_pass_read : read_of no_pass ≡ accepted (example_words 0)
unfolding read_of words_of tabulate number_of well_formed keyword_of mem suits transfer_count transfers_of transferred wanted source last_before or_else any_below gather range flat_map
no_pass_read = refl

pub more_passes_read : read_of (example_of "1000001") ≡ accepted (example_words 1000001)
unfolding read_of words_of tabulate number_of well_formed keyword_of mem suits transfer_count transfers_of transferred wanted source last_before or_else any_below gather range flat_map
more_passes_read = refl

pub most_passes_read : read_of (example_of "1000000000000") ≡ accepted (example_words (10 ^ 12))
unfolding read_of words_of tabulate number_of well_formed keyword_of mem suits transfer_count transfers_of transferred wanted source last_before or_else any_below gather range flat_map
most_passes_read = refl

pub readers_read : read_of readers ≡ accepted readers_words
unfolding read_of words_of tabulate number_of well_formed keyword_of mem suits transfer_count transfers_of transferred wanted source last_before or_else any_below gather range flat_map
readers_read = refl

pub unordered_read : read_of unordered ≡ accepted (example_words 2)
unfolding read_of words_of tabulate number_of well_formed keyword_of mem suits transfer_count transfers_of transferred wanted source last_before or_else any_below gather range flat_map
unordered_read = refl

pub ahead_read : read_of ahead ≡ accepted ahead_words
unfolding read_of words_of tabulate number_of well_formed keyword_of mem suits transfer_count transfers_of transferred wanted source last_before or_else any_below gather range flat_map
ahead_read = refl

pub example_written : text_of (example_words 2) ≡ example
unfolding text_of plan_of tabulate digits
example_written = refl

pub more_passes_before : read_within 1000000 (example_of "1000001") ≡ refused 3 1
unfolding number_of well_formed keyword_of mem
more_passes_before = refl

pub too_many_passes : read_of (example_of "1000000000001") ≡ refused 3 1
unfolding read_of number_of well_formed keyword_of mem
too_many_passes = refl

-- K
pub second_begin : read_of (ascii "loop\t2\t2\t2\nbegin\t0\t1\t1\nbegin\t1\t1\t0\nend\n") ≡ refused 4 3
unfolding read_of number_of well_formed keyword_of mem
second_begin = refl

-- L
pub named_twice_lem : read_of (ascii "loop\t2\t2\t2\nbegin\t0\t0\t1\nin\t0\nout\t0\nend\n") ≡ refused 6 4
unfolding read_of number_of well_formed keyword_of mem
named_twice_lem = refl
