use Rattle.std.proofs.Common.{Equal}
use Rattle.std.proofs.lemmas.Bool.Decides.{not_from_Decides}
use Rattle.atoms.proofs.Ordered.{cmp_is, neither, ranked}
use Rattle.atoms.proofs.order.AtomSetOrd.cmp.Goals as goal

pub returns-then-precedes-clause-law : goal.returns-then-precedes-clause-law
returns-then-precedes-clause-law c = ranked

pub returns-then-precedes-2-clause-law : goal.returns-then-precedes-2-clause-law
returns-then-precedes-2-clause-law c = ranked

pub returns-else-precedes-2 : goal.returns-else-precedes-2
returns-else-precedes-2 c =
    let e =
    neither c.args.self.now c.args.other.now (not_from_Decides c.precedes.result c.precedes.ensures.value c.if-precedes.false)
    (not_from_Decides c.precedes-else-precedes.result c.precedes-else-precedes.ensures.value c.if-precedes-2.false)
    in
    record { value = cmp_is c.args.self.now c.args.other.now Equal e; law = ranked; ranked = e }
