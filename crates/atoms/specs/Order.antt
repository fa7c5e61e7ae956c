-- That the order of sets is total, for the members of `Eq` and `Ord`.
use Rattle.std.specs.Prelude.{ℕ, zero, suc, refl}
use Rattle.std.specs.Cmp.{IsTotalOrder, then_total, on_total, bool_cmp_total}
use Rattle.atoms.specs.Sets.{Atoms}
use Rattle.atoms.specs.Member.{has, cmp_from, set_cmp}

cmp_from_total : (m i : ℕ) → IsTotalOrder {K = Atoms} (cmp_from m i)
unfolding cmp_from
cmp_from_total zero i = record { antisymm = λ x y. refl; trans = λ x y z p q. p; congr = λ x y z p. refl }
cmp_from_total (suc m) i = then_total (on_total (λ X. X i) bool_cmp_total) (cmp_from_total m (suc i))

pub set_cmp_total : IsTotalOrder set_cmp
set_cmp_total = on_total has (cmp_from_total 256 0)
