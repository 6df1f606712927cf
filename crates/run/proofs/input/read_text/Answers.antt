use Rattle.std.proofs.Common.{◌≡◌, ℕ, ◌+◌, ◌≤◌, List, ◌++◌, rules, length, take, drop, ap, sym, subst, ◌∙◌, take_at, drop_at, length-take-le}
use Rattle.std.proofs.KnownBytes.{Consumes-trans}
use Rattle.std.specs.Io.KnownBytes.{Consumes}
use lib.Seq.{take-add, take-append-le}
use Rattle.run.proofs.input.read_text.Goals as goal

-- what stands at the front after n bytes were read behind the first f
read_behind : (f n : ℕ) (xs ys rest : List ℕ) → f ≤ length xs → n ≤ length ys → take (f + n) (take f xs ++ (ys ++ rest)) ≡ take f xs ++ take n ys
read_behind f n xs ys rest within fits =
    let front = take f xs in
    let long = length-take-le f xs within in
    take-add f n (front ++ (ys ++ rest)) ∙ ap (λ l. l ++ take n (drop f (front ++ (ys ++ rest)))) (take_at front (ys ++ rest) f long)
    ∙ ap (λ l. front ++ l) (ap (take n) (drop_at front (ys ++ rest) f long) ∙ take-append-le n ys rest fits)

pub loop-done-preserved : goal.loop-done-preserved
loop-done-preserved g c =
    let read = c.in-Ok.ensures in (
      search rules,
      search rules,
      subst (Consumes _ _) (sym (read_behind c.loop-done.done c.in-Ok.bytes c.loop-done.text c.read.new.buf _ (search rules) read.bound.0))
          (Consumes-trans _ _ _ _ _ c.loop-done.invariant.2 read.bytes.0),
    )
