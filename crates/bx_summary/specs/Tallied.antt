-- What a tally has at hand: the outcomes so far, and the number of each by its lines.
use Rattle.std.specs.Prelude.{◌≡◌, ◌≤◌, ℕ, suc, if◌then◌else◌, List, [], ◌∷◌, ◌++◌, map, Option, None, Some, option_map}
use Rattle.std.specs.List.{AllByRecursion}
use Rattle.std.specs.BTreeMap.{get_by_text}
use Rattle.bx_summary.specs.declared.tallies.Shared.{Shared}
use Rattle.bx_summary.specs.declared.tallies.Tally.{Tally}
use Rattle.bx_summary.specs.Counted.{Counted, ends_so}
use Rattle.bx_summary.specs.Texts.{outcome_text}

abbrev pub shared_view : Shared → Counted
shared_view shared = (shared.first.now, shared.count)

abbrev pub outcomes_of : Tally → List Counted
outcomes_of tally = map shared_view tally.outcomes.items

-- their texts
abbrev pub shared_texts : List (List ℕ) → List Shared → List ℕ
shared_texts texts [] = []
shared_texts texts (shared ∷ more) = outcome_text texts (shared_view shared) ++ shared_texts texts more

-- the number of the outcome with these lines
abbrev pub number_of : List (List ℕ) → List ℕ → List Counted → Option ℕ
number_of texts ending [] = None
number_of texts ending (outcome ∷ more) =
    if ends_so texts ending outcome.0 then Some 0 else option_map suc (number_of texts ending more)

pub record IsTally (texts : List (List ℕ)) (tally : Tally) : Type 0 where
  -- outcomes are found by their lines
  pub numbered : (ending : List ℕ) → get_by_text tally.numbers ending ≡ number_of texts ending (outcomes_of tally)
  -- none has more schedules than there are
  pub few : AllByRecursion (λ outcome. outcome.1 ≤ tally.schedules) (outcomes_of tally)
