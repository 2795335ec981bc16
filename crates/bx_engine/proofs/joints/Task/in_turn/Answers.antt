use Rattle.std.proofs.Common.{rules, ◌≡◌, [], ◌∷◌, ◌++◌, subst, sym}
use Rattle.std.specs.List.{All}
use Rattle.std.proofs.lemmas.List.Elements.{All-push}
use Rattle.bx_engine.specs.Joints.{IsPart}
use Rattle.bx_engine.proofs.joints.Task.in_turn.Goals as goal

pub loop-preserved : goal.loop-preserved
loop-preserved g c =
    let items : c.push.new.self.items ≡ c.loop.made.items ++ c.in-Some-part.part ∷ [] = search rules in
    subst (All (IsPart c.args.self.now)) (sym items) (All-push (IsPart c.args.self.now) c.loop.made.items c.in-Some-part.part c.loop.invariant c.in-Some-part.ensures)
