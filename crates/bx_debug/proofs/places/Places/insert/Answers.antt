use Rattle.bx_debug.proofs.Words.{sym, ap, ◌∙◌, numbers}
use Rattle.std.specs.FinSet as set
use Rattle.bx_world.proofs.Changing.{on_err}
use Rattle.bx_debug.proofs.Sets.{held, held_more}
use Rattle.bx_debug.proofs.places.Places.insert.Goals as goal

pub returns-in_err-insert-clause-absent : goal.returns-in_err-insert-clause-absent
returns-in_err-insert-clause-absent c =
    on_err c.from_residual.result _
    (ap (λ s. set.contains s (numbers c.args.place)) (sym c.self.view_is) ∙ held c.self.inside.numbers.keys (numbers c.args.place) ∙ c.in_err-insert.ensures.absent)

pub returns-clause-ok : goal.returns-clause-ok
returns-clause-ok c =
    held_more c.self.inside.numbers.keys c.insert.new.self.keys (numbers c.args.place) c.in_ok-insert.ensures.updates.0
    ∙ ap (λ s. set.insert s (numbers c.args.place)) c.self.view_is
