-- Every starred row of document 01 holds, by computation.
use mathlib.Core.Path.{◌≡◌, refl}
use mathlib.Core.Bool.{true}
use Rattle.functions.specs.Words.{capacity_fits}
use Rattle.functions.specs.Families.{◌up◌, mirror, threshold, rounding, quotient, vanderbeck, burdett_johnson, theta, letchford_lodi, dash_gunluk_rest, dash_gunluk, is_family, family_image, family_scale, legal_pair, legal_for, legal}
use Rattle.functions.specs.Image.{family_refusal, image_refusal, image_answer}
use Rattle.functions.specs.Rows.{same_answer, image_row_holds, image_rows}
use Rattle.tables.specs.Table.{entry, table_capacity, table_scale, greatest_sum, bests, best, least_from, least_size, walk, counterexample}
use Rattle.tables.specs.Check.{within_limit, form_refusal, entries_refusal, length_refusal, table_refusal}
use Rattle.tables.specs.Rows.{table_rows, rows, same_list, table_row_holds, holds, all_hold}

pub rows_hold : all_hold rows ≡ true
unfolding capacity_fits ◌up◌ mirror threshold rounding quotient vanderbeck burdett_johnson theta letchford_lodi dash_gunluk_rest dash_gunluk is_family family_image family_scale legal_pair legal_for legal family_refusal image_refusal image_answer same_answer image_row_holds image_rows entry table_capacity table_scale greatest_sum bests best least_from least_size walk counterexample within_limit form_refusal entries_refusal length_refusal table_refusal table_rows rows same_list table_row_holds holds all_hold
rows_hold = refl
