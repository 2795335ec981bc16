-- Which texts are plans, and the first line at fault in the others.
use Rattle.std.specs.Prelude.{◌≡◌, ◌≢◌, ◌⊎◌, ℕ, ◌+◌, ◌<◌, List, [], ◌∷◌, ◌++◌, length}
use Rattle.std.specs.List.{AllByRecursion, join_with_byte}
use Rattle.bx_terms.specs.declared.faults.Fault.{Fault, TheVariants.BadLine, TheVariants.NameTwice, TheVariants.TooLong}
use Rattle.bx_plan.specs.Entry.{Entry}
use Rattle.bx_plan.specs.Nodes.{node_count}
use Rattle.bx_plan.specs.Plans.{Named, named, choices_of}
use Rattle.bx_plan.specs.Grammar.{IsNothing, IsSchedule}

-- A text's lines are what stands between its line feeds. Behind the last one stands a last line, which is
-- empty where the text ends by a line feed.
abbrev pub AreLines : List ℕ → List (List ℕ) → Type 0
AreLines text lines = (0 < length lines) × AllByRecursion (λ line. AllByRecursion (λ b. b ≢ 10) line) lines × (text ≡ join_with_byte 10 lines)

abbrev pub HasName : List Named → List ℕ → Type 0
HasName [] name = ⊥
HasName (schedule ∷ plan) name = (name ≡ schedule.0) ⊎ HasName plan name

-- it makes over 100,000 choices, or the plan has over 1,000,000 nodes below the root with it
abbrev pub IsTooLong : List Named → Named → Type 0
IsTooLong plan schedule = (100000 < length schedule.1) ⊎ (1000000 < node_count (choices_of (plan ++ schedule ∷ [])))

-- the lines, read after one plan, make the other of it
abbrev pub Leads : List Named → List (List ℕ) → List Named → Type 0
Leads before [] after = after ≡ before
Leads before (line ∷ lines) after =
    (IsNothing line × Leads before lines after)
    ⊎ ((read : List ℕ × List Entry) × IsSchedule line read × (HasName before read.0 → ⊥) × (IsTooLong before (named read) → ⊥) × Leads (before ++ named read ∷ []) lines after)

-- the text is this plan's
abbrev pub IsPlan : List ℕ → List Named → Type 0
IsPlan text plan = (lines : List (List ℕ)) × AreLines text lines × Leads [] lines plan

-- line n is at fault after this plan: it is no line of a plan; or it names a schedule again; or its schedule is too long
abbrev pub IsFault : List Named → ℕ → List ℕ → Fault → Type 0
IsFault plan n line (BadLine m) = (m ≡ n) × (IsNothing line → ⊥) × ((read : List ℕ × List Entry) → IsSchedule line read → ⊥)
IsFault plan n line (NameTwice m) = (m ≡ n) × (read : List ℕ × List Entry) × IsSchedule line read × HasName plan read.0
IsFault plan n line (TooLong m) = (m ≡ n) × (read : List ℕ × List Entry) × IsSchedule line read × (HasName plan read.0 → ⊥) × IsTooLong plan (named read)
IsFault plan n line fault = ⊥

-- the lines before it make a plan, and it is at fault after that
abbrev pub IsFirstFault : List ℕ → Fault → Type 0
IsFirstFault text fault =
    (before : List (List ℕ)) × (line : List ℕ) × (after : List (List ℕ)) × (plan : List Named)
    × AreLines text (before ++ line ∷ after) × Leads [] before plan × IsFault plan (length before + 1) line fault
