-- The pieces that line feeds part a text into.
use Prim.Native.Nat.{ℕ, ◌+◌}
use mathlib.Core.Path.{◌≡◌, refl, ◌∙◌, ap}
use mathlib.Core.Bool.{Bool, true, false, cond, not}
use mathlib.Core.Logic.{inl, inr}
use mathlib.Core.List.{List, [], ◌∷◌, ◌++◌, append_assoc}
use native.Mathlib.Omega.{arith}
use borrow.Author.Tests.{eqb-true, eq-eqb, not-true}
use lib.Dec.{eqb}
use Rattle.finite.proofs.Tests.{and-true}
use Rattle.text.specs.Records.{onto, split}
use Rattle.text.proofs.SplitLaws.{split_cons}
use Rattle.text.proofs.Fields.{lacks}
use Rattle.journal.specs.Laws.{feeds, Ended}

-- the first of several pieces: the byte b stands behind it, and it is the first piece before any
-- other rest
pub record First (b : ℕ) (text piece : List ℕ) (pieces : List (List ℕ)) : Type 0 where
  pub rest : List ℕ
  pub parts : text ≡ piece ++ (b ∷ rest)
  pub behind : split b rest ≡ pieces
  pub again : (t : List ℕ) → split b (piece ++ (b ∷ t)) ≡ piece ∷ split b t

pub first_piece : (b : ℕ) (text l m : List ℕ) (ls : List (List ℕ)) → split b text ≡ l ∷ m ∷ ls → First b text l (m ∷ ls)
first_piece b [] l m ls e = let z : ◌≡◌ {A = ℕ} 0 1 = cc in absurd (omega arith)
first_piece b (c ∷ s) l m ls e = go (eqb c b) refl e (first_piece b s)
  where
    here : (l : List ℕ) → l ≡ [] → c ≡ b → split b s ≡ m ∷ ls → First b (c ∷ s) l (m ∷ ls)
    here l p q r =
        record {
          rest = s;
          parts = rw (p, q);
          behind = r;
          again = λ t. rw (p, eq-eqb b b refl);
        }

    there : (f l : List ℕ) → l ≡ c ∷ f → eqb c b ≡ false → First b s f (m ∷ ls) → First b (c ∷ s) l (m ∷ ls)
    there f l p q r =
        record {
          rest = r.rest;
          parts = rw p (ap (λ t. c ∷ t) r.parts);
          behind = r.behind;
          again = λ t. rw (p, q, r.again t);
        }

    go : (t : Bool) → eqb c b ≡ t → cond t ([] ∷ split b s) (onto c (split b s)) ≡ l ∷ m ∷ ls →
        ((l m : List ℕ) (ls : List (List ℕ)) → split b s ≡ l ∷ m ∷ ls → First b s l (m ∷ ls)) → First b (c ∷ s) l (m ∷ ls)
    go true p q ih = here l (cc) (eqb-true c b p) (cc)
    go false p q ih =
        let (f, fs, v) = split_cons b s in
        let u : (c ∷ f) ∷ fs ≡ l ∷ m ∷ ls = rw v at q in
        let w : fs ≡ m ∷ ls = cc in
        let x : l ≡ c ∷ f = cc in
        there f l x p (ih f m ls (v ∙ ap (λ r. f ∷ r) w))

-- a text that a line feed ends has two pieces at least
pub ended_pieces : (f : List ℕ) → (l m : List ℕ) × (ls : List (List ℕ)) × (split 10 (f ++ (10 ∷ [])) ≡ l ∷ m ∷ ls)
ended_pieces [] = ([], [], [], refl)
ended_pieces (c ∷ f) = let (l, m, ls, e) = ended_pieces f in go l m ls e (eqb c 10) refl
  where
    go : (l m : List ℕ) (ls : List (List ℕ)) → split 10 (f ++ (10 ∷ [])) ≡ l ∷ m ∷ ls → (t : Bool) → eqb c 10 ≡ t →
        (l m : List ℕ) × (ls : List (List ℕ)) × (split 10 (c ∷ (f ++ (10 ∷ []))) ≡ l ∷ m ∷ ls)
    go l m ls e true p = ([], l, m ∷ ls, rw (p, e))
    go l m ls e false p = (c ∷ l, m, ls, rw (p, e))

-- what is left of a text that a line feed ends, behind some of it, is nothing or ends so too
pub ended_rest : (front rest : List ℕ) → Ended (front ++ rest) → Ended rest
ended_rest [] rest h = h
ended_rest (c ∷ front) rest (inl e) = let z : ◌≡◌ {A = ℕ} 0 1 = cc in absurd (omega arith)
ended_rest (c ∷ front) rest (inr (f, e)) = ended_rest front rest (tail f e)
  where
    tail : (f : List ℕ) → c ∷ (front ++ rest) ≡ f ++ (10 ∷ []) → Ended (front ++ rest)
    tail [] e = inl (cc)
    tail (d ∷ f) e = inr (f, cc)

-- line feeds are counted piece by piece
pub feeds_append : (s t : List ℕ) → feeds (s ++ t) ≡ feeds s + feeds t
unfolding feeds
feeds_append [] t = omega arith
feeds_append (c ∷ s) t = omega (arith, feeds_append s t)

pub feeds_none : (s : List ℕ) → lacks 10 s ≡ true → feeds s ≡ 0
unfolding feeds
feeds_none [] h = refl
feeds_none (c ∷ s) h = let a = and-true (not (eqb c 10)) (lacks 10 s) h in rw (not-true (eqb c 10) a.0) (omega (arith, feeds_none s a.1))

-- the first piece stays the first with more behind the text
pub pieces_longer : (text second l m : List ℕ) (ls : List (List ℕ)) → split 10 text ≡ l ∷ m ∷ ls → (m : List ℕ) × (ls : List (List ℕ)) × (split 10 (text ++ second) ≡ l ∷ m ∷ ls)
pieces_longer text second l m ls e =
    let f = first_piece 10 text l m ls e in
    let (n, ns, g) = split_cons 10 (f.rest ++ second) in
    (n, ns, ap (λ t. split 10 (t ++ second)) f.parts ∙ (ap (split 10) (append_assoc l (10 ∷ f.rest) second) ∙ (f.again (f.rest ++ second) ∙ ap (λ r. l ∷ r) g)))
