-- The answers of calls on slices of which one is too short, by the test that code makes: P, C and W
-- are the lent plan, counts and values.
use Prim.Native.Nat.{ℕ}
use mathlib.Core.Path.{◌≡◌, refl}
use mathlib.Core.Bool.{Bool, true, false, ◌&&◌, ◌||◌}
use mathlib.Core.List.{List}
use borrow.Author.Tests.{leb-true, le-ltb}
use lib.Dec.{ltb, leb}
use lib.ListN.{length}
use Rattle.finite.proofs.Tests.{not_both}
use Rattle.plan.specs.Layout.{plan_words}
use Rattle.steps.specs.State.{count_words, value_words}
use Rattle.steps.specs.Answers.{long_slices, refused, open_of, start_of, finish_of, result_of}

module _ (P C W : List ℕ) where
  abbrev pub short_test : Bool
  short_test = ltb (length P) plan_words || (ltb (length C) count_words || ltb (length W) value_words)

  pub short_slices : short_test ≡ true → long_slices P C W ≡ false
  short_slices h = go (leb plan_words (length P)) (leb count_words (length C)) (leb value_words (length W)) refl refl refl
    where
      go : (x y z : Bool) → leb plan_words (length P) ≡ x → leb count_words (length C) ≡ y → leb value_words (length W) ≡ z → (x && (y && z)) ≡ false
      go false y z a b c = refl
      go true false z a b c = refl
      go true true false a b c = refl
      go true true true a b c =
          absurd (not_both h
          (rw (le-ltb (length P) plan_words (leb-true _ _ a), le-ltb (length C) count_words (leb-true _ _ b), le-ltb (length W) value_words (leb-true _ _ c))))

  pub open_short : short_test ≡ true → refused P C W 11 ≡ open_of P C W
  unfolding open_of
  open_short h = rw (short_slices h)

  pub start_short : (a : ℕ) → short_test ≡ true → refused P C W 11 ≡ start_of P C W a
  unfolding start_of
  start_short a h = rw (short_slices h)

  pub finish_short : (a : ℕ) → short_test ≡ true → refused P C W 11 ≡ finish_of P C W a
  unfolding finish_of
  finish_short a h = rw (short_slices h)

  pub result_short : (g : ℕ) → short_test ≡ true → refused P C W 11 ≡ result_of P C W g
  unfolding result_of
  result_short g h = rw (short_slices h)
