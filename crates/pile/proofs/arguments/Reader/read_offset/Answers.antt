use Rattle.std.proofs.Common.{map, string_bytes}
use Rattle.std.proofs.lemmas.List.{length-map}
use Rattle.pile.proofs.Asked.{offset_step}
use Rattle.pile.proofs.arguments.Reader.read_offset.Goals as goal

pub returns-clause-step : goal.returns-clause-step
returns-clause-step c = offset_step (map string_bytes c.args.self.now.args.now) c.args.self.now.place c.in_ok-by.field-0 c.read_numbers.new.self.place
    c.requires c.in_ok-by.ensures.numbers c.in_ok-by.ensures.place (simp length-map (rw (← c.in_ok-by.ensures.args) c.read_numbers.new.self.within))
