use Rattle.std.proofs.Common.{map, string_bytes, arith, ◌∙◌}
use Rattle.std.proofs.lemmas.List.{length-map, length-set}
use Rattle.std.proofs.lemmas.Result.{err_from_is_err_and}
use Rattle.pile.proofs.Asked.{first_wrong, numbers_more}
use Rattle.pile.proofs.arguments.Reader.read_numbers.Goals as goal

pub returns-in_err-number-clause-fault : goal.returns-in_err-number-clause-fault
returns-in_err-number-clause-fault g c =
    let p = err_from_is_err_and c.from_residual.result c.from_residual.ensures.1 in
    let missed = rw c.loop-number.invariant.same at c.in_err-number.ensures.fault in
    rw (p.1, p.2, missed.0) (
      simp length-map (omega arith),
      omega arith,
      first_wrong (map string_bytes c.args.self.now.args.now) c.args.self.now.place
          c.loop-number.number-index c.loop-number.self.place c.loop-number.number-items c.loop-number.invariant.numbers c.loop-number.invariant.place missed.1,
    )

pub loop-number-preserved : goal.loop-number-preserved
loop-number-preserved g c = record {
  same = c.in_ok-number.ensures.args ∙ c.loop-number.invariant.same;
  place = omega (arith, c.in_ok-number.ensures.place);
  count = simp length-set c.loop-number.invariant.count;
  numbers = numbers_more (map string_bytes c.args.self.now.args.now) c.args.self.now.place c.loop-number.number-index c.loop-number.self.place
      c.loop-number.number-items c.in_ok-number.field-0 c.loop-number.invariant.numbers c.loop-number.invariant.place (omega arith) (rw c.loop-number.invariant.same at c.in_ok-number.ensures.number);
}
