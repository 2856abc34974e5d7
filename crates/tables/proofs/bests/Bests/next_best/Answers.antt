-- `next_best` meets its contract: the loop's invariant is `Halved`, and a turn takes it two sizes on.
use native.Mathlib.Omega.{arith}
use Rattle.tables.specs.Table.{entry}
use Rattle.tables.proofs.Halved.{halved_start, halved_next, halved_end}
use Rattle.tables.proofs.bests.Bests.next_best.Goals as goal

pub loop-y-init : goal.loop-y-init
unfolding entry
loop-y-init c =
    rw c.from-most.ensures (halved_start _ _ c.args.self.known.form c.requires.positive c.requires.in_table)

pub returns-then-y-c : goal.returns-then-y-c
returns-then-y-c c =
    let last = halved_next c.loop-y.invariant c.max.result (omega arith) (omega (arith, c.max.ensures, c.parts-then-y-c.ensures)) in
    halved_end last (omega arith)

pub returns : goal.returns
returns c = halved_end c.loop-y.invariant (omega arith)
