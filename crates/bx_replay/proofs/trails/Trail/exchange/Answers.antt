use Rattle.std.proofs.Common.{◌≡◌, ◌∷◌, List, drop, refl, sym, ap, subst, ◌∙◌, arith}
use Rattle.std.specs.Prelude.{◌↔◌}
use Rattle.std.proofs.lemmas.Bool.{both_ways}
use Rattle.bx_world.specs.declared.choices.Choice.{Choice}
use Rattle.bx_replay.specs.Courses.{Course, reached}
use Rattle.bx_replay.specs.Exchanges.{with_exchange, MayExchange}
use Rattle.bx_replay.specs.Moving.{IndependentAt}
use Rattle.bx_replay.proofs.Prefixes.{course}
use Rattle.bx_replay.proofs.Keeps.{few_left}
use Rattle.bx_replay.proofs.Turning.{pair_of, turns}
use Rattle.bx_replay.proofs.trails.Trail.exchange.Goals.{In_ok-here}
use Rattle.bx_replay.proofs.trails.Trail.exchange.Goals as goal

pub are_independent-requires-clause-few : goal.are_independent-requires-clause-few
are_independent-requires-clause-few c =
    omega (arith, c.in-Some.ensures.within refl, few_left _ c.args.self.now _ c.args.position c.in_ok-here.here c.self.invariant c.self.view_is c.in_ok-here.ensures)

pub follow_one-requires : goal.follow_one-requires
follow_one-requires c = omega (arith, c.in-Some.ensures.within refl, few_left _ c.args.self.now _ c.args.position c.in_ok-here.here c.self.invariant c.self.view_is c.in_ok-here.ensures)

abbrev old : In_ok-here → Course
old c = course c.self.inside.image.now c.self.inside.start.end c.self.inside.choices

-- what was found, and where
found : (c : In_ok-here) → ((more : List Choice) × (drop c.args.position c.self.inside.choices ≡ c.in-Some.first ∷ c.in-Some.second ∷ more)) × (c.in_ok-here.here ≡ reached c.args.position (old c))
found c = (pair_of c.in-Some.first c.in-Some.second (drop c.args.position c.self.inside.choices) (sym c.apart_at.ensures.next ∙ c.in-Some.is), c.in_ok-here.ensures ∙ sym (ap (reached c.args.position) c.self.view_is))

may : (c : In_ok-here) → MayExchange c.args.position c.args.self.now ↔ IndependentAt c.self.inside.image.now c.in_ok-here.here c.in-Some.first c.in-Some.second
may c =
    subst (λ (s : Course). MayExchange c.args.position s ↔ IndependentAt c.self.inside.image.now c.in_ok-here.here c.in-Some.first c.in-Some.second) c.self.view_is
    (λ h. rw (found c).1 (rw (found c).0.1 at h), λ h. rw (found c).0.1 (rw (found c).1 at h))

pub returns-then-not-branch-clause-done : goal.returns-then-not-branch-clause-done
returns-then-not-branch-clause-done c =
    (λ h. both_ways _ c.if-not-branch.true (c.in_ok-are_independent.ensures.1 ((may (goal.at.returns-then-not-branch-clause-done c).In_ok-here).0 h)), refl)

pub invariant_of-self-2 : goal.invariant_of-self-2
invariant_of-self-2 c =
    let here = found (goal.at.invariant_of-self-2 c).In_ok-here in
    let s : Course = course c.self.inside.image.now c.self.inside.start.end c.self.inside.choices in
    rw c.in_ok-swap.ensures.ok (c.replace.ensures.kept s (with_exchange c.args.position s) c.self.invariant
    (turns c.args.position s c.in_ok-between.between c.in-Some.first c.in-Some.second here.0.0 here.0.1 (rw here.1 at (c.in_ok-are_independent.ensures.0 c.if-not-branch.false)) (rw here.1 at c.in_ok-between.ensures)))

pub returns-clause-done : goal.returns-clause-done
returns-clause-done c = (
  (may (goal.at.returns-clause-done c).In_ok-here).1 (c.in_ok-are_independent.ensures.0 c.if-not-branch.false),
  ap (course c.self.inside.image.now c.self.inside.start.end) c.in_ok-swap.ensures.ok ∙ ap (with_exchange c.args.position) c.self.view_is,
)
