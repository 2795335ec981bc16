-- A plan's text in parts, and the reports of the parts one behind another.
use Rattle.std.specs.Prelude.{◌≡◌, ◌≤◌, ℕ, List, [], ◌∷◌, ◌++◌, Result, Ok, IsOk, length}
use Rattle.bx_plan.specs.Plans.{plan_of}
use Rattle.bx_engine.specs.Inputs.{input_limit}
use Rattle.bx_engine.specs.Joints.{AreWhole}
use Rattle.bx_engine.specs.Units.{◌>>=◌}
use Rattle.bx_engine.specs.declared.failures.Failure.{Failure}

-- a text that is read as a plan
abbrev pub IsReadable : List ℕ → Type 0
IsReadable text = (length text ≤ input_limit) × IsOk (plan_of text)

-- the text is cut between lines into these, one part at least: the last of them may lack its line feed
abbrev pub IsCutInto : List ℕ → List (List ℕ) → Type 0
IsCutInto text [] = ⊥
IsCutInto text (last ∷ []) = text ≡ last
IsCutInto text (part ∷ next ∷ parts) = AreWhole part × (rest : List ℕ) × IsCutInto rest (next ∷ parts) × (text ≡ part ++ rest)

-- the reports one behind another, or the failure of the first that has none
abbrev pub joined : List (Result (List ℕ) Failure) → Result (List ℕ) Failure
joined [] = Ok []
joined (report ∷ reports) = do
  text ← report
  more ← joined reports
  Ok (text ++ more)
