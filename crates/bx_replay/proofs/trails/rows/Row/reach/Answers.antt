use Rattle.std.proofs.Common.{◌≡◌, ◌-◌, sym, ap, ◌∙◌, arith}
use Rattle.std.specs.Prelude.{◌↔◌, slice_index_or}
use Rattle.std.proofs.lemmas.Bool.{both_ways}
use Rattle.bx_world.specs.declared.choices.Choice.{Choice}
use Rattle.bx_replay.specs.Courses.{Course}
use Rattle.bx_replay.specs.Moving.{IndependentAt}
use Rattle.bx_replay.specs.Reaching.{FreeAt}
use Rattle.bx_replay.proofs.Carrying.{reads}
use Rattle.bx_replay.proofs.Keeps.{few_left}
use Rattle.bx_replay.proofs.trails.rows.Row.reach.Goals.{After-are_free}
use Rattle.bx_replay.proofs.trails.rows.Row.reach.Goals as goal

pub are_free-requires : goal.are_free-requires
are_free-requires c = omega (arith, few_left _ c.args.self.now _ (c.args.past - 1) c.in_ok-rest.here c.self.invariant c.self.view_is c.in_ok-rest.ensures.1)

pub follow_one-requires : goal.follow_one-requires
follow_one-requires c = omega (arith, few_left _ c.args.self.now _ (c.args.past - 1) c.in_ok-rest.here c.self.invariant c.self.view_is c.in_ok-rest.ensures.1)

-- what was asked of the choice that stands there
seen : (c : After-are_free) (x : Choice) → x ≡ slice_index_or c.args.self.now.choices c.args.past x
    → (c.index-choice.result.now ≡ x) × (IndependentAt c.self.inside.image.now c.in_ok-rest.here c.index-other.result.now c.index-choice.result.now ↔ FreeAt x c.args.self.now (c.args.past - 1))
seen c x is =
    let code = ap (λ (t : Course). t.image) c.self.view_is in
    let same = reads _ c.args.self.now x c.index-choice.result.now c.args.past c.self.view_is c.requires.within c.index-choice.ensures ∙ sym is in
    let other = reads _ c.args.self.now x c.index-other.result.now (c.args.past - 1) c.self.view_is (omega arith) c.index-other.ensures in
    (same, (λ h. rw (code, c.in_ok-rest.ensures.1, other, same) at h, λ h. rw (code, c.in_ok-rest.ensures.1, other, same) h))

pub returns-then-not-branch : goal.returns-then-not-branch
returns-then-not-branch c = λ x is h. both_ways _ c.if-not-branch.true (c.in_ok-are_free.ensures.1 ((seen (goal.at.returns-then-not-branch c).After-are_free x is).1.1 h))

pub returns : goal.returns
returns c = λ x is.
    let here = seen (goal.at.returns c).After-are_free x is in
    record {
      free = rw here.0 at c.in_ok-rest.ensures.0;
      last = here.1.0 (c.in_ok-are_free.ensures.0 c.if-not-branch.false);
      between = cc (c.in_ok-between.ensures, here.0, ap (λ (t : Course). t.image) c.self.view_is, c.in_ok-rest.ensures.1);
    }
