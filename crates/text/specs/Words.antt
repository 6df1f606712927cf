-- The words that begin a line (paper 01, "The plan text", the table of records).
use Rattle.std.specs.Prelude.{ℕ, Bool, true, false, cond, ◌&&◌, List, [], ◌∷◌, ◌==◌}
use Rattle.text.specs.Ascii.{ascii}
use Rattle.text.specs.declared.Keyword.{Keyword}
use Rattle.text.specs.declared.Keyword.TheVariants.{Loop, Start, Begin, In, Out, Inout, End, Unknown}

-- the same bytes
abbrev pub alike : List ℕ → List ℕ → Bool
alike [] [] = true
alike [] (y ∷ t) = false
alike (x ∷ s) [] = false
alike (x ∷ s) (y ∷ t) = x == y && alike s t

-- which word a field is
unfoldable pub keyword_of : List ℕ → Keyword
keyword_of f =
    cond (alike f (ascii "loop")) Loop
    (cond (alike f (ascii "start")) Start
    (cond (alike f (ascii "begin")) Begin
    (cond (alike f (ascii "in")) In
    (cond (alike f (ascii "out")) Out
    (cond (alike f (ascii "inout")) Inout
    (cond (alike f (ascii "end")) End
    Unknown))))))
