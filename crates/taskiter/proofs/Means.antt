-- In the loop of an accepted plan a task of kernel 3 has the mean of its reads to the nearest.
use Prim.Native.Nat.{ℕ, ◌<◌}
use mathlib.Core.Path.{◌≡◌, sym, ◌∙◌, ap, subst}
use mathlib.Core.Bool.{true}
use mathlib.Core.List.{List, map}
use lib.ListN.{length, length-map}
use Rattle.finite.specs.Below.{count_below}
use Rattle.finite.proofs.Lists.{length_gather}
use Rattle.kernels.specs.Kernels.{total, kernel_word, suits, Nearest}
use Rattle.kernels.proofs.Laws.{suits_mean}
use Rattle.kernels.proofs.Mean.{mean_laws}
use Rattle.body.specs.Loop.{cells_at, loop_word}
use Rattle.body.proofs.Simulation.{loop_word_reads}
use Rattle.plan.specs.Form.{words_ok}
use Rattle.plan.specs.Layout.{tasks_of, kernel_of, constant_of, accesses_of, region_at, is_read, reads_of, body_of}
use Rattle.plan.proofs.Facts.{formed}

module _ (w : List ℕ) (ok : words_ok w ≡ true) (t : ℕ) (l : t < tasks_of w) (mean : kernel_of w t ≡ 3) where
  four_reads : length (reads_of w t) ≡ 4
  four_reads =
      length_gather (accesses_of w t) (is_read w t) (region_at w t)
      ∙ suits_mean _ (subst (λ k. suits k (count_below (accesses_of w t) (is_read w t)) ≡ true) mean ((formed w ok).used t l).suited)

  pub mean_words : (p : ℕ) → Nearest (total (map (cells_at (body_of w) p t) (reads_of w t))) (loop_word (body_of w) p t)
  mean_words p =
      let reads = map (cells_at (body_of w) p t) (reads_of w t) in
      let word : loop_word (body_of w) p t ≡ kernel_word 3 (constant_of w t) reads
      = loop_word_reads (body_of w) p t ∙ ap (λ k. kernel_word k (constant_of w t) reads) mean in
      subst (Nearest (total reads)) (sym word)
      (mean_laws.nearest (constant_of w t) reads (length-map (reads_of w t) (cells_at (body_of w) p t) ∙ four_reads))
