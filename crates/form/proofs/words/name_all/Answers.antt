use Rattle.std.proofs.Common.{arith, rules}
use Rattle.form.proofs.Naming.{naming_none, naming_wide, naming_twice, naming_same, naming_other, naming_done}
use Rattle.form.proofs.words.name_all.Goals as goal
use Rattle.form.proofs.words.name_all.Goals.{then-since-own+else-since-own-2, else-since-own}

pub loop-a-init : goal.loop-a-init
loop-a-init c = search (rules, naming_none)

pub returns-then-word-ge-ACCESS_END : goal.returns-then-word-ge-ACCESS_END
returns-then-word-ge-ACCESS_END c = search (rules, naming_wide)

pub returns-then-since-own-2 : goal.returns-then-since-own-2
returns-then-since-own-2 c =
    naming_twice _ _ _ _ _ _ _ _ _ _ c.requires c.loop-a.invariant.3 c.access-word.ensures c.access_region-g.ensures.0
    c.loop-a.invariant.0 (omega arith) (search rules) (search rules) c.if-since-own-2.true

pub returns : goal.returns
returns c = naming_done _ _ _ _ _ c.loop-a.invariant.3 (search rules) (search rules)

pub loop-a-preserved : goal.loop-a-preserved
loop-a-preserved c = (
  search rules,
  search rules,
  elim c.if-since-own.branch [ then-since-own+else-since-own-2 w ↦ omega arith | else-since-own w ↦ omega arith ],
  elim c.if-since-own.branch [
    | then-since-own+else-since-own-2 w ↦
        naming_other _ _ _ _ _ _ _ _ _ _ c.requires c.loop-a.invariant.3 c.access-word.ensures c.access_region-g.ensures.0
        c.loop-a.invariant.0 (omega arith) (search rules) _ (search rules) w.if-since-own.true w.if-since-own-2.false w.changes-is
    | else-since-own w ↦
        naming_same _ _ _ _ _ _ _ _ _ _ c.requires c.loop-a.invariant.3 c.access-word.ensures c.access_region-g.ensures.0
        c.loop-a.invariant.0 (omega arith) (search rules) _ (search rules) w.if-since-own.false w.changes-is
  ],
)
