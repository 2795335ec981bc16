use Rattle.bx_swaps.proofs.Words.{◌∙◌, ◌<◌, length, eq-eqb, sym, arith, ◌==◌, slice_index_or, Run, actor}
use Rattle.std.proofs.lemmas.Bool.{eqb-true, false_from_ne_true}
use Rattle.std.proofs.lemmas.List.{get_or_default}
use Rattle.bx_swaps.proofs.Gathering.{alike_found, alike_on}
use Rattle.bx_swaps.proofs.tidying.next_alike.Goals as goal

pub returns-then-actor-clause-is : goal.returns-then-actor-clause-is
returns-then-actor-clause-is c =
    let choices = c.args.choices.now in
    let next = c.loop-next.next in
    let p = c.actor-actor.result in
    let x = slice_index_or choices next (Run 0) in
    let within : next < length choices = omega arith in
    alike_found choices c.args.at next c.args.count p x (omega arith) (omega arith) within (get_or_default choices next (Run 0) x within) (eq-eqb (actor x) p (sym c.actor.ensures ∙ c.if-actor.true))
    c.loop-next.invariant

pub loop-next-preserved : goal.loop-next-preserved
loop-next-preserved c =
    let choices = c.args.choices.now in
    let next = c.loop-next.next in
    let p = c.actor-actor.result in
    let x = slice_index_or choices next (Run 0) in
    let within : next < length choices = omega arith in
    alike_on choices c.args.at next c.args.count p x (omega arith) (omega arith) within (get_or_default choices next (Run 0) x within)
    (false_from_ne_true (actor x == p) (λ e. c.if-actor.false (c.actor.ensures ∙ eqb-true (actor x) p e)))
    ∙ c.loop-next.invariant
