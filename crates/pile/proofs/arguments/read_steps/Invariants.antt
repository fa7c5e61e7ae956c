use Rattle.std.proofs.Common.{◌≡◌, ◌-◌, map, length, vec_items, string_bytes}
use Rattle.pile.specs.Arguments.{Asks}
use Rattle.pile.proofs.arguments.read_steps.Given as goal

-- the steps so far are those that stand before the place
abbrev pub invariant-loop-steps : goal.invariant-loop-steps
invariant-loop-steps l = record {
  same : l.reader.args.now ≡ l.args;
  asked : Asks (map string_bytes l.args) 0 (vec_items l.steps) l.reader.place;
}

abbrev pub decreases-loop-steps : goal.decreases-loop-steps
decreases-loop-steps l = length l.args - l.reader.place
