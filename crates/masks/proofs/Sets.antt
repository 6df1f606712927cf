-- Items put into a set: none, the same ones tested otherwise, and more after some.
use Prim.Native.Nat.{ℕ, ◌<◌}
use mathlib.Core.Path.{◌≡◌, refl, sym, ◌∙◌, ap}
use mathlib.Core.Bool.{Bool, true, false, ◌||◌, or-false}
use mathlib.Core.List.{List}
use lib.ListN.{length}
use Rattle.plan.specs.Sizes.{max_items}
use Rattle.masks.specs.Masks.{mask_words, in_mask, Entered}

pub entered_none : (words : List ℕ) (p : ℕ → Bool) → length words ≡ mask_words → ((b : ℕ) → b < max_items → p b ≡ false) → Entered words p words
entered_none words p e h = record { size = e; each = λ b l. sym (ap (λ (t : Bool). in_mask words b || t) (h b l) ∙ or-false (in_mask words b)) }

pub entered_ext : (words words' : List ℕ) (p q : ℕ → Bool) → Entered words p words' → ((b : ℕ) → b < max_items → p b ≡ q b) → Entered words q words'
entered_ext words words' p q E h = record { size = E.size; each = λ b l. E.each b l ∙ ap (λ (t : Bool). in_mask words b || t) (h b l) }

pub entered_more : (words mid words' : List ℕ) (p q r : ℕ → Bool) → Entered words p mid → Entered mid q words' → ((b : ℕ) → b < max_items → (p b || q b) ≡ r b) → Entered words r words'
entered_more words mid words' p q r E F h =
    record {
      size = F.size;
      each = λ b l. F.each b l ∙ (ap (λ (t : Bool). t || q b) (E.each b l) ∙ (or_assoc (in_mask words b) (p b) (q b) ∙ ap (λ (t : Bool). in_mask words b || t) (h b l)));
    }
  where
    or_assoc : (a b c : Bool) → ((a || b) || c) ≡ (a || (b || c))
    or_assoc true b c = refl
    or_assoc false b c = refl
