use Rattle.std.proofs.Common.{◌≡◌, ◌≤◌, ◌<◌, ◌+◌, ◌++◌, length, take, drop, refl, ap, subst, ◌∙◌, arith}
use Rattle.std.specs.Prelude.{Some, nat_eq}
use Rattle.bx_world.specs.declared.choices.Choice.TheVariants.{Run}
use Rattle.bx_replay.specs.Courses.{Course}
use Rattle.bx_replay.specs.Keeping.{AreKept}
use Rattle.bx_replay.specs.Moving.{brought}
use Rattle.bx_replay.specs.Reaching.{BringsPast, Reaches}
use Rattle.bx_replay.proofs.Bringing.{long_brought}
use Rattle.bx_replay.proofs.Carrying.{kept_past, passes_none, passes_some, rest_within, written_whole}
use Rattle.bx_replay.proofs.Prefixes.{course}
use Rattle.bx_replay.proofs.trails.rows.Row.pass.Goals.{After-carry}
use Rattle.bx_replay.proofs.trails.rows.Row.pass.Goals as goal

pub returns-in_default-clause-ok : goal.returns-in_default-clause-ok
returns-in_default-clause-ok c = passes_none c.args.self.now c.args.from c.args.to c.requires.order c.requires.within (rw c.in_default.is at c.in_ok-rest.ensures)

pub carry-requires-clause-order : goal.carry-requires-clause-order
carry-requires-clause-order c = omega (arith, rest_within c.args.self.now c.max-first.result c.args.from c.in-Some.field-0 c.requires.within (rw c.in-Some.is at c.in_ok-rest.ensures))

abbrev now : After-carry → Course
now c =
    course c.self.inside.image.now c.self.inside.start.end (take c.self.inside.choices.len (c.carry.new.choices ++ drop (length c.carry.new.choices) c.self.inside.choices.items))

-- where the choice stands, and what is kept
passed : (c : After-carry) → AreKept (now c) c.replace.new.kept.items × BringsPast c.args.from c.args.to c.args.self.now (now c) c.in-Some.field-0.rest (nat_eq c.in-Some.field-0.rest c.max-first.result)
passed c =
    let items = c.self.inside.choices.items in
    let old : Course = course c.self.inside.image.now c.self.inside.start.end items in
    let from = c.args.from in
    let reach = c.in-Some.field-0 in
    let first = c.max-first.result in
    let long = ap (λ (s : Course). length s.choices) c.self.view_is in
    let is : Reaches first from old (Some reach) = rw (c.in-Some.is, ← c.self.view_is) at c.in_ok-rest.ensures in
    let near = rw c.deref.ensures.value at (c.nearest.ensures old refl (rw c.deref.ensures.value c.self.invariant)) in
    let low : c.nearest.result.now.end.applied ≤ old.start.applied + first = omega (arith, near.is.ahead, c.max-first.ensures, c.count.ensures, c.count-2.ensures) in
    let le : c.args.to ≤ first = omega (arith, c.max-first.ensures) in
    let order : first < from = omega (arith, near.is.ahead, near.before, c.max-first.ensures, c.count.ensures, c.count-2.ensures) in
    let within : from < length items = omega arith in
    let rest = rest_within old first from reach within is in
    let carried : c.carry.new.choices ≡ brought from reach.rest items = c.carry.ensures ∙ ap (brought from reach.rest) c.deref_mut.ensures.value in
    let put = ap length carried ∙ long_brought items from reach.rest (Run 0) within (omega arith) in
    let whole = ap (course c.self.inside.image.now c.self.inside.start.end) (written_whole c.self.inside.choices.len c.carry.new.choices items (omega (arith, c.deref_mut.ensures.len, ap length c.deref_mut.ensures.value)) put ∙ carried) in (
      rw whole (kept_past old from c.args.to first reach within le is order c.self.inside.kept.items c.replace.new.kept.items c.nearest.result.now.end c.self.invariant near low c.replace.ensures.kept c.replace.ensures.counts),
      rw whole (subst (λ (s : Course). BringsPast from c.args.to s (record old { choices = brought from reach.rest items }) reach.rest (nat_eq reach.rest first)) c.self.view_is (passes_some old from c.args.to first reach within le is order)),
    )

pub invariant_of-self : goal.invariant_of-self
invariant_of-self c = (passed (goal.at.invariant_of-self c).After-carry).0

pub returns-clause-ok : goal.returns-clause-ok
returns-clause-ok c = (passed (goal.at.returns-clause-ok c).After-carry).1
