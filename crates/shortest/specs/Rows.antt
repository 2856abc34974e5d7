-- Within the crate: rows of greatest totals. t is a table, k a number of sizes and c a capacity.
use Rattle.std.specs.Prelude.{◌≡◌, List, map, ℕ, ◌+◌, ◌-◌, ◌*◌, ◌≤◌, ◌<◌, max, length, get_or}
use Rattle.functions.specs.Words.{limit, total, EachWithin}
use Rattle.tables.specs.Table.{entry}
use Rattle.tables.specs.Check.{TableForm, most_entries}

-- the images of a list, in all
abbrev pub image_total : List ℕ → List ℕ → ℕ
image_total t xs = total (map (entry t) xs)

-- a list of at most k sizes that fits c, whose images total v
pub record Reaching (t : List ℕ) (k c v : ℕ) : Type 0 where
  pub sizes : List ℕ
  pub few : length sizes ≤ k
  pub fits : total sizes ≤ c
  pub reaches : image_total t sizes ≡ v

-- no list of at most k sizes that fits c has images that total more than v
pub record Bounding (t : List ℕ) (k c v : ℕ) : Type 0 where
  pub bounds : (xs : List ℕ) → length xs ≤ k → total xs ≤ c → image_total t xs ≤ v

-- v is the greatest total of images over lists of at most k sizes that fit c
pub record Greatest (t : List ℕ) (k c v : ℕ) : Type 0 where
  pub reached : Reaching t k c v
  pub most : Bounding t k c v

-- two rows have room for the capacities up to one that the table has
pub record Room (t fewer row : List ℕ) : Type 0 where
  pub form : TableForm t
  pub some : 1 ≤ length row
  pub in_table : length row ≤ length t
  pub same : length fewer ≡ length row

-- row k: at place c the greatest total over lists of at most k sizes that fit c
pub record Row (t : List ℕ) (k : ℕ) (row : List ℕ) : Type 0 where
  pub holds : (c : ℕ) → c < length row → Greatest t k c (get_or row c 0)

-- rows k - 1 and k
pub record Rows (t : List ℕ) (k : ℕ) (fewer row : List ℕ) : Type 0 where
  pub room : Room t fewer row
  pub fewer_is : Row t (k - 1) fewer
  pub row_is : Row t k row

-- totals are small enough to add two of them
abbrev pub Small : List ℕ → Type 0
Small row = EachWithin (limit * most_entries) row

-- what a size and its image add to a row of one size fewer, from k times the size on
pub record Offered (size image k : ℕ) (fewer row row' : List ℕ) : Type 0 where
  pub below : (c : ℕ) → c < k * size → get_or row' c 0 ≡ get_or row c 0
  pub above : (c : ℕ) → k * size ≤ c → c < length row → get_or row' c 0 ≡ max (get_or row c 0) (get_or fewer (c - size) 0 + image)

-- a size of a row such that the entries of no others are greater
pub record GreatestEntry (t : List ℕ) (places size : ℕ) : Type 0 where
  pub in_row : size < places
  pub most : (y : ℕ) → y < places → entry t y ≤ entry t size
