use Rattle.std.proofs.Common.{false, Decides}
use Rattle.std.proofs.lemmas.Bool.{false≢true}
use Rattle.std.proofs.lemmas.Bool.Decides.{same_from_decides}
use Rattle.atoms.specs.Member.{has}
use Rattle.atoms.specs.Sets.{Precedes}
use Rattle.atoms.proofs.Ordered.{first_differs, less_tells, none_differs}
use Rattle.atoms.proofs.SetOrder.{order_laws}
use Rattle.atoms.proofs.AtomSet.precedes.Goals as goal

pub returns-in-Some : goal.returns-in-Some
returns-in-Some c =
    let X = has c.args.self.now in
    let Y = has c.args.other.now in
    let value = first_differs X Y (has c.difference.result) c.difference.ensures c.in-Some.i c.in-Some.ensures c.contains.result c.contains.ensures in
    record {
      value = value;
      test = same_from_decides _ _ value (less_tells c.args.self.now c.args.other.now);
      laws = order_laws;
    }

pub returns-in-None : goal.returns-in-None
returns-in-None c =
    let X = has c.args.self.now in
    let Y = has c.args.other.now in
    let value : Decides false (Precedes X Y) = (λ e. absurd (false≢true e), λ p. absurd (none_differs X Y (has c.difference.result) c.difference.ensures c.in-None.ensures p)) in
    record {
      value = value;
      test = same_from_decides _ _ value (less_tells c.args.self.now c.args.other.now);
      laws = order_laws;
    }
