use Rattle.calls.proofs.Listed.{drawn}
use Rattle.calls.proofs.drawing.list_edges.Goals as goal

pub returns : goal.returns
returns c = drawn _ _ _ c.args.items.now.drawn _ _ _ c.put_edges.ensures
