use Rattle.std.proofs.Common.{◌≡◌, ◌+◌, ◌-◌, [], ◌∷◌, replicate, true, sym, ◌∙◌}
use Rattle.std.proofs.lemmas.Result.{err_from_is_err_and}
use Rattle.bx_events.specs.Answers.{telling}
use Rattle.bx_events.specs.Telling.{all_told, is_over, one_told}
use Rattle.bx_events.proofs.Going.{next_told, one_left, over_stays, tells_first}
use Rattle.bx_events.proofs.tellers.Teller.tell_run.Goals as goal

pub returns-then-is_over : goal.returns-then-is_over
returns-then-is_over c =
    let at = c.loop-turn in
    let over : is_over at.self.end ≡ true = sym c.is_over.ensures ∙ c.if-is_over.true in
    (sym (over_stays c.args.image.now (replicate (c.args.run.times - at._turn) c.args.run.choice) (telling at.self) over) ∙ at.invariant.told, at.invariant.keeps)

pub returns-in_err-tell : goal.returns-in_err-tell
returns-in_err-tell c =
    let p = err_from_is_err_and c.from_residual.result c.from_residual.ensures.1 in
    let at = c.loop-turn in
    let image = c.args.image.now in
    let choice = c.args.run.choice in
    let times = c.args.run.times in
    let rest = replicate (times - (at._turn + 1)) choice in
    let all = all_told image (replicate times choice) (telling c.args.self.now) in
    let mid = one_told image choice (telling at.self) in
    let is : all_told image rest mid ≡ all =
    next_told image (choice ∷ []) rest (replicate (times - at._turn) choice) (telling at.self) all (one_left choice times at._turn c.loop-turn-test.true) at.invariant.told in
    rw (p.1, p.2) (tells_first image rest mid all c.in_err-tell.field-0.0 c.tell.new.self c.tell.new.self c.in_err-tell.ensures is)
