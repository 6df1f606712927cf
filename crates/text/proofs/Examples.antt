-- Worked examples of the definitions, by computation: what a reader that is slightly wrong would
-- get wrong. In bytes: a tab is 9, a line feed 10, a carriage return 13, a digit d is 48 + d.
use Rattle.std.proofs.Common.{◌≡◌, [], ◌∷◌, refl, Some, None}
use Rattle.text.specs.Text.{bytes}
use Rattle.text.specs.Numbers.{well_formed, number_of}
use Rattle.text.specs.Ascii.{ascii}
use Rattle.text.specs.Words.{keyword_of}
use Rattle.text.specs.Records.{first_field, line_at, record_at, record_of, saying}
use Rattle.text.specs.declared.Number.TheVariants.{Value, TooLarge, Malformed}
use Rattle.text.specs.declared.Mode.{Mode}
use Rattle.text.specs.declared.Record.TheVariants.{Loop, Start, Begin, Access, End, Unreadable}

-- numbers

number_zero : number_of (ascii "0") ≡ Value 0
unfolding number_of well_formed
number_zero = refl

-- 00
number_two_zeros : number_of (ascii "00") ≡ Malformed
unfolding number_of well_formed
number_two_zeros = refl

-- 007
number_leading_zeros : number_of (ascii "007") ≡ Malformed
unfolding number_of well_formed
number_leading_zeros = refl

number_empty : number_of ([]) ≡ Malformed
unfolding number_of well_formed
number_empty = refl

-- 1a
number_letter : number_of (ascii "1a") ≡ Malformed
unfolding number_of well_formed
number_letter = refl

-- the bytes below and above the digits: / and :
number_slash : number_of (ascii "1/") ≡ Malformed
unfolding number_of well_formed
number_slash = refl

number_colon : number_of (ascii "1:") ≡ Malformed
unfolding number_of well_formed
number_colon = refl

-- 1 with the highest bit set: 49 + 128
number_above_127 : number_of (177 ∷ []) ≡ Malformed
unfolding number_of well_formed
number_above_127 = refl

-- 18446744073709551615, 18446744073709551616 and 18446744073709551620
number_largest : number_of (ascii "18446744073709551615") ≡ Value 18446744073709551615
unfolding number_of well_formed
number_largest = refl

number_one_above : number_of (ascii "18446744073709551616") ≡ TooLarge
unfolding number_of well_formed
number_one_above = refl

number_ten_above : number_of (ascii "18446744073709551620") ≡ TooLarge
unfolding number_of well_formed
number_ten_above = refl

-- 20 nines, and a 20-digit number in form up to its last byte
number_nines : number_of (ascii "99999999999999999999") ≡ TooLarge
unfolding number_of well_formed
number_nines = refl

number_nines_letter : number_of (ascii "9999999999999999999a") ≡ Malformed
unfolding number_of well_formed
number_nines_letter = refl

-- 21 digits: 1 and 20 zeros, and a number that a word would hold but for the zeros before it
number_long : number_of (ascii "100000000000000000000") ≡ Malformed
unfolding number_of well_formed
number_long = refl

number_long_zeros : number_of (ascii "000000000000000000001") ≡ Malformed
unfolding number_of well_formed
number_long_zeros = refl

-- fields

field_before_tab : first_field (ascii "in\t3\t") ≡ ascii "in"
field_before_tab = refl

field_whole : first_field (ascii "end") ≡ ascii "end"
field_whole = refl

field_empty : first_field (ascii "\tend") ≡ []
field_empty = refl

-- lines

-- loop 2 3 4
line_loop : record_of (ascii "loop\t2\t3\t4") ≡ Loop (Value 2) (Value 3) (Value 4)
unfolding number_of well_formed keyword_of
line_loop = refl

-- begin 0 1 18446744073709551616: in form, and the number too large
line_begin : record_of (ascii "begin\t0\t1\t18446744073709551616") ≡ Begin (Value 0) (Value 1) TooLarge
unfolding number_of well_formed keyword_of
line_begin = refl

line_start : record_of (ascii "start\t1\t5") ≡ Start (Value 1) (Value 5)
unfolding number_of well_formed keyword_of
line_start = refl

-- in 3, out 3 and inout 3: one word begins or ends as another
line_in : record_of (ascii "in\t3") ≡ Access Mode.In (Value 3)
unfolding number_of well_formed keyword_of
line_in = refl

line_out : record_of (ascii "out\t3") ≡ Access Mode.Out (Value 3)
unfolding number_of well_formed keyword_of
line_out = refl

line_inout : record_of (ascii "inout\t3") ≡ Access Mode.Inout (Value 3)
unfolding number_of well_formed keyword_of
line_inout = refl

line_end : record_of (ascii "end") ≡ End
unfolding keyword_of
line_end = refl

line_empty : record_of [] ≡ Unreadable
unfolding keyword_of
line_empty = refl

line_tab : record_of (ascii "\t") ≡ Unreadable
unfolding keyword_of
line_tab = refl

-- a tab before the word, and one behind it
line_leading_tab : record_of (ascii "\tend") ≡ Unreadable
unfolding keyword_of
line_leading_tab = refl

line_trailing_tab : record_of (ascii "end\t") ≡ Unreadable
unfolding keyword_of
line_trailing_tab = refl

-- in 3 with a tab more
line_number_trailing_tab : record_of (ascii "in\t3\t") ≡ Unreadable
unfolding number_of well_formed keyword_of
line_number_trailing_tab = refl

-- start 1 5 with two tabs between its numbers
line_empty_field : record_of (ascii "start\t1\t\t5") ≡ Unreadable
unfolding number_of well_formed keyword_of
line_empty_field = refl

-- in with its tab and no number, and with neither
line_no_number : record_of (ascii "in\t") ≡ Unreadable
unfolding number_of well_formed keyword_of
line_no_number = refl

line_no_field : record_of (ascii "in") ≡ Unreadable
unfolding keyword_of
line_no_field = refl

-- loop 2 3 and loop 2 3 4 5
line_field_less : record_of (ascii "loop\t2\t3") ≡ Unreadable
unfolding number_of well_formed keyword_of
line_field_less = refl

line_field_more : record_of (ascii "loop\t2\t3\t4\t5") ≡ Unreadable
unfolding number_of well_formed keyword_of
line_field_more = refl

-- a space in place of the tab: `in 3`
line_space : record_of (ascii "in 3") ≡ Unreadable
unfolding keyword_of
line_space = refl

-- a carriage return at the end, behind a word and behind a number
line_return : record_of (ascii "end\r") ≡ Unreadable
unfolding keyword_of
line_return = refl

line_number_return : record_of (ascii "in\t3\r") ≡ Unreadable
unfolding number_of well_formed keyword_of
line_number_return = refl

-- `end` with the highest bit of its d set: 100 + 128
line_above_127 : record_of (101 ∷ 110 ∷ 228 ∷ []) ≡ Unreadable
unfolding keyword_of
line_above_127 = refl

-- `End`
line_capital : record_of (ascii "End") ≡ Unreadable
unfolding keyword_of
line_capital = refl

-- lines in a text

text_second_line : record_at (ascii "\nend\nx") 1 ≡ Some (saying End 5)
unfolding keyword_of
text_second_line = refl

text_empty_line : record_at (ascii "\nend") 0 ≡ Some (saying Unreadable 1)
unfolding keyword_of
text_empty_line = refl

text_return_line : record_at (ascii "end\r\n") 0 ≡ Some (saying Unreadable 5)
unfolding keyword_of
text_return_line = refl

text_unended : record_at (ascii "end") 0 ≡ None
text_unended = refl

text_empty : record_at [] 0 ≡ None
text_empty = refl

text_at_end : record_at (ascii "end\n") 4 ≡ None
text_at_end = refl

text_beyond : record_at (ascii "end\n") 9 ≡ None
text_beyond = refl

-- with its line feed; nothing where none follows, and at the end
text_line_feed : line_at (ascii "\nend\nx") 1 ≡ ascii "end\n"
text_line_feed = refl

text_line_empty : line_at (ascii "\nend") 0 ≡ ascii "\n"
text_line_empty = refl

text_line_unended : line_at (ascii "\nend") 1 ≡ []
text_line_unended = refl

text_line_at_end : line_at (ascii "end\n") 4 ≡ []
text_line_at_end = refl

-- words

-- the first of eight bytes is the lowest
word_first_lowest : bytes 8 0x3231_0974_756f_6e69 ≡ ascii "inout\t12"
word_first_lowest = refl
