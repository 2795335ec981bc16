-- Stretches: a choice that is made in a row, and how many choices have been made where it is over.
use Rattle.std.specs.Prelude.{◌≡◌, ℕ, ◌+◌, ◌-◌, ◌<◌, ◌≤◌, List, [], ◌∷◌, ◌++◌, length, nat_le, if◌then◌else◌, replicate, take}
use Rattle.bx_world.specs.declared.choices.Choice.{Choice}
use Rattle.bx_plan.specs.declared.schedules.stretches.Stretch.{Stretch}

-- the choices that they make, where so many have been made before them
abbrev pub choices_from : ℕ → List Stretch → List Choice
choices_from made [] = []
choices_from made (stretch ∷ stretches) = replicate (stretch.past - made) stretch.choice ++ choices_from stretch.past stretches

-- how many choices have been made before the stretch at i
abbrev pub made_before : ℕ → List Stretch → ℕ
made_before i stretches = length (choices_from 0 (take i stretches))

-- each makes a choice
abbrev pub AreStretches : ℕ → List Stretch → Type 0
AreStretches made [] = Unit {0}
AreStretches made (stretch ∷ stretches) = (made < stretch.past) × AreStretches stretch.past stretches

-- those that are not over at a position on the first of them
abbrev pub behind : ℕ → List Stretch → List Stretch
behind position [] = []
behind position (stretch ∷ stretches) = if nat_le stretch.past position then stretches else stretch ∷ stretches

-- both go on by the same choice
abbrev pub BeginAlike : List Stretch → List Stretch → Type 0
BeginAlike [] ys = ⊥
BeginAlike (x ∷ xs) [] = ⊥
BeginAlike (x ∷ xs) (y ∷ ys) = x.choice ≡ y.choice

-- the choices from one position up to another are theirs
pub record IsPart (stretches : List Stretch) (first past : ℕ) : Type 0 where
  pub rising : AreStretches first stretches
  pub order : first ≤ past
  pub within : past ≤ first + length (choices_from first stretches)

-- so many of them are over at a position, and the next one is not
pub record IsOverBy (stretches : List Stretch) (position n : ℕ) : Type 0 where
  pub bound : n ≤ length stretches
  pub begin : made_before n stretches ≤ position
  pub next : n < length stretches → position < made_before (n + 1) stretches
