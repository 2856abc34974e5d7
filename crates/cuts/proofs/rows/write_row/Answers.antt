-- `write_row` meets its contract: its coefficients mapped through the steps, and what was behind them.
use mathlib.Core.Path.{sym, ap}
use mathlib.Core.List.{List, ◌++◌}
use Prim.Native.Nat.{ℕ, ◌/◌, ◌≤◌}
use native.Mathlib.Omega.{arith}
use lib.ListN.{length, drop}
use lib.Seq.{length-take-le}
use Rattle.cuts.proofs.Writing.{row_fits, row_applied, row_bytes}
use Rattle.cuts.proofs.rows.write_row.Goals.{Start}
use Rattle.cuts.proofs.rows.write_row.Goals as goal

-- a place for each coefficient
places : (c : Start) → length c.args.row.coefficients.now / 4 ≤ length c.args.images.now
places c = omega (arith, c.requires.2, row_bytes c.args.row c.requires.0)

pub slice_bounds-map_list-end-2 : goal.slice_bounds-map_list-end-2
slice_bounds-map_list-end-2 c = sym (length-take-le _ _ (places (goal.at.slice_bounds-map_list-end-2 c).Start))

pub slice_bounds-map_list-end : goal.slice_bounds-map_list-end
slice_bounds-map_list-end c = places (goal.at.slice_bounds-map_list-end c).Start

pub map_list-requires : goal.map_list-requires
map_list-requires c =
    let pre = c.requires in
    (row_fits _ _ pre.1, omega (arith, pre.0, length-take-le _ _ (places (goal.at.map_list-requires c).Start)))

pub returns : goal.returns
returns c =
    let done = row_applied _ _ c.requires.1 _ _ c.map_list.ensures in
    (done.0, done.1, rw (row_bytes c.args.row c.requires.0) (ap (λ (l : List ℕ). l ++ drop (length c.args.row.coefficients.now / 4) c.args.images.now) done.2))
