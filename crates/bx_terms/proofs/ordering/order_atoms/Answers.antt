use Rattle.bx_terms.proofs.Words.{◌≡◌, ap, sym, ◌∙◌, arith, nat_tests, atom_order}
use Rattle.bx_terms.proofs.Total.{atom_order_itself}
use Rattle.bx_terms.proofs.ordering.order_atoms.Goals as goal

pub returns-then-eq : goal.returns-then-eq
returns-then-eq c =
    let same : c.args.a.0 ≡ c.args.b.0 = grind (arith, nat_tests, c.if-eq.ensures) in
    sym (ap (atom_order c.args.atoms.now c.args.a.0) (sym same) ∙ atom_order_itself c.args.atoms.now c.args.a.0)
