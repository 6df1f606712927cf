-- The numbers of the edges, put row by row, are those of the edge list, and have room.
use Prim.Native.Nat.{ℕ, ◌+◌, ◌*◌, ◌≤◌, ◌<◌}
use mathlib.Core.Path.{◌≡◌, refl, sym, ◌∙◌, ap}
use mathlib.Core.Bool.{Bool, false, cond}
use mathlib.Core.List.{List, [], ◌∷◌, flat_map}
use native.Mathlib.Omega.{arith}
use borrow.Author.Tests.{eq-eqb, ne_eqb}
use lib.ListN.{length, get_or}
use Rattle.finite.specs.Lists.{collect}
use Rattle.finite.specs.Put.{Room, Added, RoomAt}
use Rattle.finite.proofs.Collect.{collect_range, collect_ext, flat_map_collect, flat_map_gather}
use Rattle.finite.proofs.Puts.{added_none, added_same, room_same, room_start, collect_fits, collect_more, collect_done}
use Rattle.body.specs.Body.{Body}
use Rattle.body.specs.Items.{item_count}
use Rattle.edges.specs.Rule.{Triple}
use Rattle.edges.specs.Tests.{distance, edge_test}
use Rattle.edges.specs.EdgeList.{edges_from, edge_list}
use Rattle.edges.proofs.Bound.{edges_bounded}
use Rattle.plan.specs.Sizes.{edge_words}
use Rattle.plan.specs.Layout.{body_of}
use Rattle.graph.specs.Answers.{three}
use Rattle.graph.specs.Table.{Graph}
use Rattle.walk.specs.Rows.{Marks}
use Rattle.walk.specs.Listing.{entry_of, row_of, numbers_from}
use Rattle.walk.proofs.Marked.{edge_marked}
use Rattle.graph.proofs.Small.{plan_fits, plan_small}

module _ (marks : List ℕ) (a b : ℕ) where
  entry_in : get_or marks b 0 ≡ 1 → entry_of marks a b ≡ three (a, b, distance a b)
  unfolding entry_of
  entry_in h = rw (eq-eqb (get_or marks b 0) 1 h)

  entry_out : (get_or marks b 0 ≡ 1 → ⊥) → entry_of marks a b ≡ []
  unfolding entry_of
  entry_out h = rw (ne_eqb (get_or marks b 0) 1 h)

-- the loop of `put_row`
module _ (marks : List ℕ) (a at : ℕ) (out : List ℕ) (b end : ℕ) (mid : List ℕ) (p : Added (collect b (entry_of marks a)) at out end mid) where
  pub row_fits : (n : ℕ) → b < n → get_or marks b 0 ≡ 1 → RoomAt (row_of marks n a) at out → RoomAt (three (a, b, distance a b)) end mid
  unfolding row_of
  row_fits n l o h = room_same (entry_in marks a b o) (collect_fits (entry_of marks a) at n b out end mid h p l)

  pub row_more : (r : ℕ) (out' : List ℕ) → get_or marks b 0 ≡ 1 → Added (three (a, b, distance a b)) end mid r out' → Added (collect (b + 1) (entry_of marks a)) at out r out'
  row_more r out' o k = collect_more (entry_of marks a) at b out end mid r out' p (rw (entry_in marks a b o) k)

  pub row_other : (get_or marks b 0 ≡ 1 → ⊥) → Added (collect (b + 1) (entry_of marks a)) at out end mid
  row_other o = collect_more (entry_of marks a) at b out end mid end mid p (rw (entry_out marks a b o) added_none)

  pub row_done : (n : ℕ) → n ≤ b → b ≤ n → Added (row_of marks n a) at out end mid
  unfolding row_of
  row_done n = collect_done (entry_of marks a) at n b out end mid p

pub row_numbers : (B : Body) (n a : ℕ) (marks : List ℕ) → Marks B n a false marks → n ≡ item_count B → row_of marks n a ≡ numbers_from B a
unfolding row_of entry_of numbers_from edges_from
row_numbers B n a marks M e =
    collect_ext n (entry_of marks a) (λ b. cond (edge_test B a b) (three (a, b, distance a b)) [])
    (λ b l. ap (λ (t : Bool). cond t (three (a, b, distance a b)) []) (edge_marked B n a false marks M b l))
    ∙ (ap (λ (k : ℕ). collect k (λ b. cond (edge_test B a b) (three (a, b, distance a b)) [])) e
    ∙ sym (flat_map_gather three (item_count B) (edge_test B a) (λ b. (a, b, distance a b))))

-- `put_from`
module _ (w items : List ℕ) (n a : ℕ) (marks : List ℕ) (G : Graph w items n) (M : Marks (body_of w) n a false marks) where
  pub from_fits : (at : ℕ) (out : List ℕ) → RoomAt (numbers_from (body_of w) a) at out → RoomAt (row_of marks n a) at out
  from_fits at out h = room_same (sym (row_numbers (body_of w) n a marks M G.count)) h

  pub from_added : (at : ℕ) (out : List ℕ) (r : ℕ) (out' : List ℕ) → Added (row_of marks n a) at out r out' → Added (numbers_from (body_of w) a) at out r out'
  from_added at out r out' p = added_same (row_numbers (body_of w) n a marks M G.count) p

pub numbers_all : (B : Body) (n : ℕ) → n ≡ item_count B → collect n (numbers_from B) ≡ flat_map three (edge_list B)
unfolding numbers_from edge_list
numbers_all B n e =
    sym (flat_map_collect three n (edges_from B))
    ∙ ap (flat_map three) (ap (λ (k : ℕ). collect k (edges_from B)) e ∙ collect_range (item_count B) (edges_from B))

pub length_three : (l : List Triple) → length (flat_map three l) ≡ 3 * length l
unfolding flat_map
length_three [] = refl
length_three ((a, b, d) ∷ l) = omega (arith, length_three l)

-- all numbers have room, and so have those of the next row
module _ (w items : List ℕ) (n : ℕ) (out : List ℕ) (G : Graph w items n) (h : edge_words ≤ length out) where
  pub numbers_room : Room (collect n (numbers_from (body_of w))) out
  numbers_room =
      omega (
        arith,
        ap length (numbers_all (body_of w) n G.count),
        length_three (edge_list (body_of w)),
        edges_bounded (body_of w) (plan_fits w G.formed) (plan_small w G.formed),
      )

  pub numbers_fit : (a at : ℕ) (mid : List ℕ) → Added (collect a (numbers_from (body_of w))) 0 out at mid → a < n → RoomAt (numbers_from (body_of w) a) at mid
  numbers_fit a at mid = collect_fits (numbers_from (body_of w)) 0 n a out at mid (room_start numbers_room)
