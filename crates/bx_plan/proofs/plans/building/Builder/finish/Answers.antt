use Rattle.bx_plan.proofs.Words.{◌≡◌, ◌<◌, ◌≤◌, ◌+◌, ℕ, List, Option, Err, length, take, sym, ap, subst, ◌∙◌, arith, get_or_default, length-map, Fault, TooLong, Line, parts_of, so_far, node_count, Gives}
use Rattle.bx_plan.proofs.Words.{Planned, schedules, answer_of, Named, choices_of, plan_of, TakesMemory, line_view, lines_view}
use Rattle.bx_terms.specs.declared.faults.Fault.{TheVariants.Memory}
use Rattle.bx_plan.proofs.Accepting.{fault_law}
use Rattle.bx_plan.proofs.Adding.{few_all, stands_few, stands_full}
use Rattle.bx_plan.proofs.plans.building.Builder.finish.Goals as goal

pub returns-then-is_full : goal.returns-then-is_full
returns-then-is_full c text is =
    let self = c.args.self in
    let k = c.last_fitting-last.result in
    let there : k < length (so_far self) = omega (arith, c.last_fitting-last.ensures.there, ap length c.deref-then-is_full.ensures.value, length-map self.lines.items line_view) in
    let fits : node_count (take k (choices_of (so_far self))) ≤ 1000000 = subst (λ (ls : List Line). node_count (take k (choices_of (lines_view ls))) ≤ 1000000) c.deref-then-is_full.ensures.value c.last_fitting-last.ensures.fits in
    let full : 1000000 < node_count (take (k + 1) (choices_of (so_far self))) = subst (λ (ls : List Line). 1000000 < node_count (take (k + 1) (choices_of (lines_view ls)))) c.deref-then-is_full.ensures.value c.last_fitting-last.ensures.full in
    stands_full (so_far self) self.numbers.items (answer_of c.args.refusal (so_far self)) (plan_of text) k fits full there is.stands
    ∙ ap (λ m. Err (TooLong m)) (get_or_default self.numbers.items k 0 c.index.result.now (omega (arith, there, c.requires)) ∙ sym c.index.ensures)

pub returns-in-None : goal.returns-in-None
returns-in-None c text is =
    let self = c.args.self in
    let few = few_all c.deref-2.result.now self.lines.items c.len.result c.is_full.result c.deref-2.ensures.value (omega arith) c.is_full.ensures.1 c.if-is_full.false in
    sym (stands_few (so_far self) self.numbers.items (answer_of c.args.refusal (so_far self)) (plan_of text) few is.stands) ∙ ap (λ (o : Option Fault). answer_of o (so_far self)) c.in-None.is

-- no text has a fault of memory
given : (text : List ℕ) (fault : Fault) → Err fault ≡ plan_of text → Gives {X = Planned} {A = List Named} (TakesMemory (parts_of 10 text)) (λ plan. schedules plan) (Err fault) (plan_of text)
given text Memory e = absurd ((fault_law text Memory).0 (sym e)).6
given text fault e = sym e

pub returns : goal.returns
returns c text is =
    let self = c.args.self in
    let few = few_all c.deref-2.result.now self.lines.items c.len.result c.is_full.result c.deref-2.ensures.value (omega arith) c.is_full.ensures.1 c.if-is_full.false in
    given text c.in-Some.fault
    (sym (ap (λ (o : Option Fault). answer_of o (so_far self)) c.in-Some.is) ∙ stands_few (so_far self) self.numbers.items (answer_of c.args.refusal (so_far self)) (plan_of text) few is.stands)
