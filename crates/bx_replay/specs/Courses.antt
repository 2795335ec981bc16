-- Choices in a row, from where a run has come, and where each prefix of them leads.
use Rattle.std.specs.Prelude.{ℕ, List, take, refl}
use Rattle.std.specs.Coded.{Coded, code_by, coded×, coded_list}
use Rattle.bx_load.specs.Image.{Loaded}
use Rattle.bx_world.specs.declared.choices.Choice.{Choice}
use Rattle.bx_world.specs.World.{State}
use Rattle.bx_world.specs.Running.{Ended, ran, ended_code}

pub record Course : Type 0 where
  pub image : Loaded
  -- where they begin
  pub start : Ended
  pub choices : List Choice

-- where the first n of them lead
abbrev pub reached : ℕ → Course → Ended
reached n course = ran course.image (take n course.choices) course.start

-- what a proof tells two of them apart by
abbrev pub course_code : Coded Loaded → Coded State → Coded Choice → Coded Course
course_code image state choice =
    code_by (Loaded × (Ended × List Choice)) (coded× image (coded× (ended_code state choice) (coded_list choice)))
    (λ c. (c.image, (c.start, c.choices)))
    (λ t. record { image = t.0; start = t.1.0; choices = t.1.1 })
    (λ _. refl)
