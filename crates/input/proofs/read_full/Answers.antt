-- `read_full` meets its contract: what a turn reads stands behind what was read before.
use Rattle.std.proofs.Common.{subst, rules}
use Rattle.std.specs.Io.KnownBytes.{Consumes}
use Rattle.std.proofs.KnownBytes.{Consumes-trans}
use Rattle.input.proofs.Filling.{front_grows}
use Rattle.input.proofs.read_full.Goals as goal

pub loop-done-preserved : goal.loop-done-preserved
loop-done-preserved g c =
    let before = c.loop-done.invariant in
    let read = c.in_ok-n.ensures in (
      search rules,
      search rules,
      subst (Consumes _ _) (front_grows _ _ _ _ _ before.1 read.bound.0) (Consumes-trans _ _ _ _ _ before.2 read.bytes.0),
    )
