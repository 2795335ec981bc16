use Rattle.bx_bifs.proofs.Words.{◌≡◌, not, refl, ap, arith, is_lt, is_gt, ordering_reverse, false_from_ne_true, order_of, order_of_total, boolean, guard_two}
use Rattle.std.specs.declared.cmp.Ordering.{Ordering, TheVariants.Less, TheVariants.Equal, TheVariants.Greater}
use Rattle.bx_terms.specs.Same.{same_tree}
use Rattle.bx_terms.specs.Sameness.{same_decides, same_to_equal}
use Rattle.bx_terms.proofs.Ties.{only_equal_tied}
use Rattle.bx_bifs.proofs.TermLaws.{told, told_not}
use Rattle.bx_bifs.proofs.laws.terms.comparisons.Goals as goal

pub returns-clause-equal : goal.returns-clause-equal
unfolding guard_two
returns-clause-equal c texts t u = (λ e. same_to_equal t u (told (same_tree t u) e), λ e. ap boolean ((same_decides t u).1 e))

pub returns-clause-unequal : goal.returns-clause-unequal
unfolding guard_two
returns-clause-unequal c texts t u = (
  (
    λ e same. cc (told_not (same_tree t u) e, (same_decides t u).1 same),
    λ apart. ap (λ b. boolean (not b)) (false_from_ne_true (same_tree t u) (λ e. apart (same_to_equal t u e))),
  ),
  refl,
)

reversed : (o : Ordering) → (is_gt (ordering_reverse o) ≡ is_lt o) × (is_lt (ordering_reverse o) ≡ is_gt o)
reversed Less = (refl, refl)
reversed _ = (refl, refl)

pub returns-clause-turned : goal.returns-clause-turned
unfolding guard_two
returns-clause-turned c texts t u =
    let both = reversed (order_of texts u t) in rw ((order_of_total texts).antisymm t u) (ap boolean both.0, ap (λ b. boolean (not b)) both.1)

pub returns-clause-one_of_three : goal.returns-clause-one_of_three
unfolding guard_two
returns-clause-one_of_three c texts table t u = grind (arith, only_equal_tied texts table t u, same_decides t u)
