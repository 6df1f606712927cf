-- The laws of the graph.
use mathlib.Core.Path.{ap}
use native.Mathlib.Omega.{arith}
use lib.ListN.{length}
use Rattle.body.proofs.ItemCount.{items_counted}
use Rattle.edges.specs.EdgeList.{edge_list}
use Rattle.edges.proofs.AllEdges.{all_edges, edges_unique}
use Rattle.edges.proofs.Bound.{edges_bounded}
use Rattle.plan.specs.Layout.{body_of}
use Rattle.plan.proofs.Facts.{formed}
use Rattle.graph.specs.Laws.{Laws}
use Rattle.graph.proofs.Small.{form_words, form_transfers, plan_fits, plan_small}

pub laws : Laws
laws =
    record {
      unique = edges_unique;
      room = λ w h l e.
          let small = plan_small w h in
          omega (arith, edges_bounded (body_of w) (plan_fits w h) small, ap length (edges_unique (body_of w) l (edge_list (body_of w)) e (all_edges (body_of w) (plan_fits w h) small.regions)));
      items = λ w h. omega (arith, items_counted (body_of w), form_transfers w h, (formed w (form_words w h)).tasks_most);
    }
