use Rattle.std.proofs.Common.{ap, cond, ◌∙◌}
use Rattle.std.specs.Prelude.{Some}
use Rattle.bx_load.specs.Exports.{found}
use Rattle.bx_load.proofs.NameTests.{same_name}
use Rattle.bx_load.proofs.by_name.ByName.set.Goals as goal

pub returns : goal.returns
returns c = λ f a.
    c.in_ok-insert.ensures.updates.0 (f.0, a)
    ∙ ap (λ b. cond b (Some c.args.number) (found c.args.self.now f a)) (same_name f c.args.function a c.args.arity)
