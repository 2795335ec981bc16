use Rattle.bx_debug.proofs.Words.{List, [], ◌∷◌, ◌++◌, sym, ap, subst, ◌∙◌, Choice, gone, GoTakes}
use Rattle.bx_debug.proofs.Moving.{step_takes, stepped_is}
use Rattle.bx_debug.proofs.sessions.Session.step.Goals as goal

pub make-requires : goal.make-requires
make-requires c =
    let one = c.in_ok-push.ensures.ok ∙ ap (λ (cs : List Choice). cs ++ c.args.choice ∷ []) c.new-choices.ensures in
    subst (λ (cs : List Choice). GoTakes cs c.args.self.now) (sym one) (step_takes c.args.self.now c.args.choice (sym c.refusal.ensures ∙ c.in_default.is))

pub returns : goal.returns
returns c =
    let one = c.in_ok-push.ensures.ok ∙ ap (λ (cs : List Choice). cs ++ c.args.choice ∷ []) c.new-choices.ensures in
    stepped_is c.args.self.now c.args.choice (sym c.refusal.ensures ∙ c.in_default.is) (ap (λ (cs : List Choice). gone cs c.args.self.now) (sym one) ∙ c.in_ok-make.ensures.ok)
