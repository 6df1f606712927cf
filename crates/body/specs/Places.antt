-- Places, what the items do with them (paper 01, "Transfers and items"), and the items as a system of the crate unroll.
use Rattle.std.specs.Prelude.{ℕ, ◌+◌, ◌-◌, ◌*◌, ◌%◌, cond, List, [], ◌∷◌, map, eqb, ltb, get_or}
use Rattle.std.proofs.Math.Option.{Option, none, some}
use Rattle.unroll.specs.System.{System}
use Rattle.unroll.specs.Machine.{State}
use Rattle.body.specs.Body.{Body, first_slot}
use Rattle.body.specs.Transfers.{last_before}
use Rattle.body.specs.Items.{Item, task, send, receive, item_count, item_at, item_passes}

-- the slot of the transfer whose send is item a
unfoldable pub slot : ℕ → ℕ
slot a = first_slot + a

module _ (B : Body) where
  -- rank q's copy of region g
  unfoldable pub copy : ℕ → ℕ → ℕ
  copy q g = q * B.regions + g

  -- what item a reads and writes: a task copies on its rank; a send reads the copy on its rank and writes the slot; a receive reads and
  -- writes the slot, and writes the copy on the rank that it goes to. A receive stands right after its send, which so is item a - 1
  unfoldable pub reads_of : ℕ → Item → List ℕ
  reads_of a (task i) = map (copy (B.rank i)) (B.reads i)
  reads_of a (send i g q) = copy (B.rank i) g ∷ []
  reads_of a (receive i g q) = slot (a - 1) ∷ []

  unfoldable pub writes_of : ℕ → Item → List ℕ
  writes_of a (task i) = map (copy (B.rank i)) (B.writes i)
  writes_of a (send i g q) = slot a ∷ []
  writes_of a (receive i g q) = slot (a - 1) ∷ copy q g ∷ []

  -- the word of a send or receive is the one that it reads
  unfoldable pub compute_of : Item → List ℕ → ℕ
  compute_of (task i) l = B.compute i l
  compute_of (send i g q) l = get_or l 0 0
  compute_of (receive i g q) l = get_or l 0 0

  -- at the opening every copy holds its region's starting value, and every slot 0
  unfoldable pub initial : ℕ → ℕ
  initial x = cond (ltb x (B.ranks * B.regions)) (B.starting (x % B.regions)) 0

  abbrev pub system : System
  system =
      record {
        items = item_count B;
        passes = λ a. item_passes B a;
        reads = λ a. reads_of a (item_at B a);
        writes = λ a. writes_of a (item_at B a);
        compute = λ a l. compute_of (item_at B a) l;
        initial = initial;
      }

  -- a region's result (paper 01, "Steps"): the copy on the rank of its last writer; with no writer or no pass, its starting value
  abbrev pub result_from : State → ℕ → Option ℕ → ℕ
  result_from s g none = B.starting g
  result_from s g (some j) = cond (eqb B.passes 0) (B.starting g) (s.places (copy (B.rank j) g))

  unfoldable pub result_of : State → ℕ → ℕ
  result_of s g = result_from s g (last_before B B.tasks g)
