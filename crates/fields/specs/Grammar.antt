-- The grammar of a job, document 01, "Jobs", and document 02, requests 1, 4 and 6: which tag may follow the last one, where a job may end, and which lengths a tag may have.
use Rattle.std.specs.Prelude.{Bool, cond, not, ◌&&◌, ◌||◌, ℕ, ◌*◌, ◌%◌, leb, ltb, eqb}
use Rattle.tables.specs.Check.{most_entries}
use Rattle.fields.specs.Parts.{is_step, is_row}

-- the most bytes, sizes (in kind 3 coefficients of all rows), rows, blocks and steps of a job
abbrev pub most_bytes : ℕ
most_bytes = 65_535

abbrev pub most_sizes : ℕ
most_sizes = 2_048

abbrev pub most_rows : ℕ
most_rows = 64

abbrev pub most_blocks : ℕ
most_blocks = 64

abbrev pub most_steps : ℕ
most_steps = 8

-- the kind byte of a floor job, and of a job with many rows
abbrev pub floor_kind : ℕ
floor_kind = 1

abbrev pub rows_kind : ℕ
rows_kind = 3

-- a step behind fewer than eight, a row behind no step, and in a floor job counts right behind the sizes, and blocks behind sizes or counts
unfoldable pub step_follows : ℕ → ℕ → Bool
step_follows steps tag = is_step tag && ltb steps most_steps

unfoldable pub row_follows : ℕ → ℕ → Bool
row_follows last tag = not (is_step last) && is_row tag

unfoldable pub counts_follow : ℕ → ℕ → ℕ → Bool
counts_follow kind last tag = eqb kind floor_kind && (eqb last 3 && eqb tag 7)

unfoldable pub blocks_follow : ℕ → ℕ → ℕ → Bool
blocks_follow kind last tag = (eqb last 3 || eqb last 7) && (eqb kind floor_kind && eqb tag 8)

-- by the kind byte, the last tag (0 before the first field) and the number of steps so far
unfoldable pub may_follow : ℕ → ℕ → ℕ → ℕ → Bool
may_follow kind last steps tag =
    cond (eqb last 0) (eqb tag 1)
    (cond (eqb kind rows_kind) (row_follows last tag || step_follows steps tag)
    (cond (eqb last 1) (eqb tag 2)
    (cond (eqb last 2) (eqb tag 3)
    (counts_follow kind last tag || blocks_follow kind last tag || step_follows steps tag))))

-- not before tag 3, where the kind is not that of rows
unfoldable pub may_end : ℕ → ℕ → Bool
may_end kind last = eqb kind rows_kind || leb 3 last

-- kind, capacity, sizes, a family step, a row, counts behind so many sizes, blocks, a table
unfoldable pub length_right : ℕ → ℕ → ℕ → Bool
length_right sizes tag n =
    cond (eqb tag 1) (eqb n 1)
    (cond (eqb tag 2) (eqb n 4)
    (cond (eqb tag 3) (eqb (n % 4) 0 && leb n (4 * most_sizes))
    (cond (eqb tag 4) (eqb n 9)
    (cond (eqb tag 6) (eqb (n % 4) 0 && leb 4 n)
    (cond (eqb tag 7) (eqb n (2 * sizes))
    (cond (eqb tag 8) (eqb (n % 2) 0)
    (eqb (n % 4) 0 && (leb 8 n && leb n (4 * most_entries)))))))))
