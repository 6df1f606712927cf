-- The places that items read and write, in rows. It serves the contracts of inner functions.
use Rattle.std.specs.Prelude.{ℕ, Bool, cond, List, [], ◌∷◌}
use Rattle.finite.specs.Lists.{collect}
use Rattle.body.specs.Body.{Body}
use Rattle.body.specs.Places.{system}
use Rattle.plan.specs.Layout.{reads_of, writes_of}
use Rattle.prepared.specs.Tables.{place_row}

-- the places that item a writes, or else those that it reads
unfoldable pub places_of : Body → Bool → ℕ → List ℕ
places_of B write a = cond write ((system B).writes a) ((system B).reads a)

-- the regions that task i writes, or else those that it reads
unfoldable pub regions_used : List ℕ → Bool → ℕ → List ℕ
regions_used w write i = cond write (writes_of w i) (reads_of w i)

-- the places that a send, or a receive, writes or else reads
unfoldable pub places_moved : Bool → Bool → ℕ → ℕ → List ℕ
places_moved receives write slot copy = cond write (slot ∷ cond receives (copy ∷ []) []) (cond receives slot copy ∷ [])

-- the rows of the first a items, of which item b has the places f b
unfoldable pub rows_before : (ℕ → List ℕ) → ℕ → List ℕ
rows_before f a = collect a (λ b. place_row (f b))
