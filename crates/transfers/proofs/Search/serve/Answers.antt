use borrow.Author.Rules.{rules}
use Rattle.transfers.proofs.FlagsOf.{tallied_most}
use Rattle.transfers.proofs.Served.{served_total, served_fit}
use Rattle.transfers.proofs.Search.serve.Goals as goal

pub overflow_add-self : goal.overflow_add-self
overflow_add-self c = search (rules, tallied_most)

pub invariant_of-self : goal.invariant_of-self
invariant_of-self c =
    let t = c.args.self.now.tallied in
    let f = c.args.self.now.fits in record {
      sources = c.args.self.now.sources;
      tallied = served_total _ _ _ t f _ _ c.requires.1 c.requires.2 c.requires.3 _ _ c.from.ensures c.from-2.ensures;
      fits = served_fit _ _ _ t f _ _ c.requires.1 c.requires.2 c.requires.3 _ c.from.ensures;
    }
