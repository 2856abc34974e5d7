-- `next_numbers`: the places before this one hold the numbers before the text that is left.
use Rattle.std.proofs.Common.{◌≡◌, ℕ, ◌<◌, ◌≤◌, length, get_or}
use Rattle.decimal.specs.Reading.{number, behind_all}
use Rattle.decimal.proofs.Numbers.next_numbers.Given as goal

abbrev pub invariant-loop-number : goal.invariant-loop-number
invariant-loop-number g l = record {
  size : length l.number-items ≡ g.row.N;
  values : (k : ℕ) → k < l.number-index → get_or l.number-items k 0 ≡ number (behind_all k l.initial.self);
  rest : l.self ≡ behind_all l.number-index l.initial.self;
  forward : length l.self ≤ length l.initial.self;
  onward : 0 < l.number-index → 0 < length l.initial.self → length l.self < length l.initial.self;
}
