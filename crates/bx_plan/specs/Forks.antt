-- Where two schedules part.
use Rattle.std.specs.Prelude.{◌≡◌, ℕ, List, [], ◌∷◌, Option, None, Some, drop}
use Rattle.bx_world.specs.declared.choices.Choice.{Choice}
use Rattle.bx_plan.specs.declared.schedules.parting.Fork.{Fork}
use Rattle.bx_plan.specs.declared.schedules.stretches.Stretch.{Stretch}
use Rattle.bx_plan.specs.Gathered.{choices_cmp, common, next_cmp}
use Rattle.bx_plan.specs.Stretches.{choices_from, AreStretches}

-- the choice by which stretches go on
abbrev pub choice_first : List Stretch → Option Choice
choice_first [] = None
choice_first (stretch ∷ stretches) = Some stretch.choice

-- what is left of choices from a position on
pub record IsLeft (choices : List Choice) (position : ℕ) (left : List Stretch) : Type 0 where
  pub rising : AreStretches position left
  pub rest : choices_from position left ≡ drop position choices

-- so many choices are alike, and the next ones tell which stands first
pub record IsFork (xs ys : List Choice) (fork : Fork) : Type 0 where
  pub common : fork.past ≡ common xs ys
  pub order : next_cmp (choice_first fork.left.now) (choice_first fork.right.now) ≡ choices_cmp xs ys
