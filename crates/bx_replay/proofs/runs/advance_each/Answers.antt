use Rattle.std.proofs.Common.{◌≡◌, ◌∙◌, [], ◌∷◌, ap, sym, arith, take}
use Rattle.std.specs.Prelude.{slice_index_or, List}
use Rattle.std.proofs.lemmas.List.{take_more}
use Rattle.bx_world.proofs.Many.{few_made}
use Rattle.bx_world.specs.declared.choices.Choice.{Choice, TheVariants.Run}
use Rattle.bx_world.specs.Running.{ran}
use Rattle.bx_world.proofs.Lawful.{ran_on}
use Rattle.bx_replay.proofs.runs.advance_each.Goals as goal

pub loop-choice-preserved : goal.loop-choice-preserved
loop-choice-preserved c =
    let image = c.args.image.now in
    let choices = c.args.choices.now in
    let i = c.loop-choice.choice-index in
    let choice = slice_index_or choices i (Run 0) in
    let made : c.advance_run.new.end ≡ ran image (choice ∷ []) c.loop-choice.end = c.in_ok-advance_run.ensures.ok in
    let most = few_made image choice 1 c.loop-choice.end c.advance_run.new.end made in
    record {
      made =
          made ∙ ap (ran image (choice ∷ [])) c.loop-choice.invariant.made ∙ sym (ran_on image (take i choices) (choice ∷ []) c.args.end.now)
          ∙ ap (λ (cs : List Choice). ran image cs c.args.end.now) (sym (take_more choices i (Run 0) (omega arith)));
      few = omega arith;
    }
