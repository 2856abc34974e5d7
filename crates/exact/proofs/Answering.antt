-- What the refusals leave, and the answer of the operation.
use mathlib.Core.Path.{◌≡◌, refl}
use mathlib.Core.List.{List}
use Prim.Native.Nat.{ℕ, ◌≤◌}
use native.Mathlib.Omega.{arith}
use borrow.Author.Tests.{ltb-false}
use lib.ListN.{length, take}
use Rattle.functions.specs.Words.{limit, capacity_fits, total}
use Rattle.functions.proofs.Cases.{then_zero}
use Rattle.functions.proofs.Legal.{passed, capacity_bounds}
use Rattle.chains.proofs.SizeTests.{sizes_most}
use Rattle.lists.specs.Counted.{counted_refusal, CountedList}
use Rattle.lists.proofs.Passed.{counted}
use Rattle.jobs.specs.Packing.{copies}
use Rattle.jobs.proofs.Promise.{chain_is_safe}
use Rattle.exact.specs.Exact.{most_copies, exact_refusal, FewestWritten, ExactAnswered, refused_exact}
use Rattle.exact.specs.Expand.{Searchable}
use Rattle.exact.proofs.Expanding.{copies_count, copies_within}

-- what the refusals leave
pub record ExactFine (c : ℕ) (sizes counts : List ℕ) (places : ℕ) : Type 0 where
  pub capacity_positive : 1 ≤ c
  pub capacity_within_limit : c ≤ limit
  pub list : CountedList c sizes counts
  pub few : total counts ≤ most_copies
  pub room : most_copies ≤ places

module _ (c : ℕ) (sizes counts : List ℕ) where
  pub exact_fine : (places : ℕ) → exact_refusal c sizes counts places ≡ 0 → ExactFine c sizes counts places
  unfolding exact_refusal
  exact_fine places e =
      let one = passed (capacity_fits c) 1 _ (omega arith) e in
      let both = then_zero (counted_refusal c sizes counts) _ one.1 in
      let capacity = capacity_bounds c one.0 in
      record {
        capacity_positive = capacity.0;
        capacity_within_limit = capacity.1;
        list = counted c sizes counts both.0;
        few = ltb-false most_copies (total counts) (grind (arith, both.1));
        room = ltb-false places most_copies (grind (arith, both.1));
      }

  module _ (windows : List ℕ) where
    pub exact_refused : (exact_refusal c sizes counts (length windows) ≡ 0 → ⊥) → ExactAnswered c sizes counts windows (refused_exact (exact_refusal c sizes counts (length windows))) windows
    exact_refused some = record { accepted = λ none. absurd (some none); refused = λ _. record { answer_is = refl; all_stay = refl } }

    module _ (fine : ExactFine c sizes counts (length windows)) where
      abbrev all : List ℕ
      all = copies counts sizes

      count : length all ≡ total counts
      count = copies_count counts sizes fine.list.one_each

      pub exact_searchable : Searchable c all windows
      exact_searchable =
          record {
            measurable =
                record {
                  capacity_positive = fine.capacity_positive;
                  capacity_within_limit = fine.capacity_within_limit;
                  within_sizes = copies_within c counts sizes (sizes_most 1 c sizes fine.list.within);
                  few = omega (arith, count, fine.few);
                };
            place_for_each = omega (arith, count, fine.few, fine.room);
          }

      pub exact_accepted : exact_refusal c sizes counts (length windows) ≡ 0 → (k : ℕ) (windows' : List ℕ) → FewestWritten c all windows k windows' → ExactAnswered c sizes counts windows (record { number = 0; fewest = k }) windows'
      exact_accepted none k windows' written =
          record {
            accepted =
                λ _. record {
                  number_is = refl;
                  written = written;
                  floors_below = λ steps accepted. rw written.fewest_is.uses at ((chain_is_safe c steps fine.capacity_positive fine.capacity_within_limit accepted).floor_is_safe counts sizes (take (length all) windows') written.fewest_is.fits);
                };
            refused = λ some. absurd (some none);
          }
