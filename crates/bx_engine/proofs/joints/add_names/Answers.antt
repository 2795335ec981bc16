use Rattle.std.proofs.Common.{◌∙◌, ℕ, List, ap, arith, subst, sym, Bor}
use Rattle.std.specs.Prelude.{option_map}
use Rattle.std.proofs.lemmas.Bool.{not-true}
use Rattle.std.proofs.lemmas.List.{take_all}
use Rattle.bx_engine.proofs.JointRows.{AreAdded, one_added}
use Rattle.bx_engine.proofs.joints.add_names.Goals as goal

pub loop-number-preserved : goal.loop-number-preserved
loop-number-preserved c =
    one_added c.args.names.now c.loop-number.names c.insert.new.self c.in-Some.name c.args.plan.now c.loop-number.number
    (sym (ap (option_map (λ (n : Bor (List ℕ)). n.now)) c.in-Some.is) ∙ c.label.ensures) c.in-Ok.ensures.updates (not-true _ (sym c.in-Ok.ensures.added ∙ c.if-not-is_new.false)) c.loop-number.invariant

pub returns : goal.returns
returns c = subst (AreAdded c.args.names.now c.loop-number.names) (take_all c.loop-number.number c.args.plan.now (omega arith)) c.loop-number.invariant
