use Rattle.std.proofs.Common.{◌≡◌, ◌+◌, length, map, string_bytes}
use Rattle.pile.specs.Arguments.{NumbersAfter}
use Rattle.pile.proofs.arguments.Reader.read_numbers.Given as goal

-- the numbers so far are those that stand before the place
abbrev pub invariant-loop-number : goal.invariant-loop-number
invariant-loop-number g l = record {
  same : l.self.args.now ≡ l.fn.self.args.now;
  place : l.self.place ≡ l.fn.self.place + 1 + l.number-index;
  count : length l.number-items ≡ g.row.N;
  numbers : NumbersAfter (map string_bytes l.fn.self.args.now) l.fn.self.place l.number-index l.number-items;
}
