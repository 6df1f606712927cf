-- A system that the assumption on passes shuts out: item 1 writes place 0 between items 0 and 2 and has no pass, so that item 2
-- waits for nobody and misses the word of item 0.
use Rattle.std.specs.Prelude.{suc, ◌≡◌, [], ◌∷◌, get_or}
use Rattle.std.proofs.Math.Option.{some}
use Rattle.unroll.specs.System.{System}
use Rattle.unroll.specs.Sequential.{word}
use Rattle.unroll.specs.Machine.{start, Decides}
use Rattle.unroll.specs.AnyOrder.{reply_after, AnyOrder}

abbrev pub gap : System
gap =
    record {
      items = 3;
      passes = λ a. get_or (1 ∷ 0 ∷ 1 ∷ []) a 0;
      reads = λ a. get_or ([] ∷ [] ∷ (0 ∷ []) ∷ []) a [];
      writes = λ a. get_or ((0 ∷ []) ∷ (0 ∷ []) ∷ (1 ∷ []) ∷ []) a [];
      compute = λ a l. suc (get_or l 0 0);
      initial = λ x. 0;
    }

-- the assumption is needed: a first start of item 2 is answered 1, and its word in order is 2
pub record Needed (can : Decides gap) : Type 0 where
  pub answered : reply_after gap can [] (start 2) ≡ some 1
  pub in_order : word gap 0 2 ≡ 2
  pub fails : AnyOrder gap can → ⊥
