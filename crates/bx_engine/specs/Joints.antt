-- The report of a plan whose text is cut into parts, each read and run as a plan of its own.
use Rattle.std.specs.Prelude.{◌≡◌, ◌⊎◌, ℕ, zero, suc, ◌+◌, ◌-◌, ◌≤◌, false, List, [], ◌++◌, Result, Ok, codes, drop, length, string_bytes, take}
use Rattle.std.specs.Borrow.{Bor}
use Rattle.std.specs.BTreeSet.{BTreeSet, contains}
use Rattle.std.specs.Cmp.Lexicographic.{slice_cmp}
use Rattle.std.specs.List.{list_any}
use Rattle.std.specs.Ordering.{nat_cmp}
use Rattle.std.specs.declared.cmp.Ordering.{Ordering}
use Rattle.bx_terms.specs.Outcomes.{◌>>=◌}
use Rattle.bx_terms.specs.declared.faults.Fault.{Fault}
use Rattle.bx_load.specs.Image.{Loaded}
use Rattle.bx_plan.specs.Chains.{Chained, chain_length}
use Rattle.bx_plan.specs.Nodes.{nodes_of}
use Rattle.bx_plan.specs.Plans.{Named, choices_of, has_name, plan_of}
use Rattle.bx_board.specs.Jobs.{Entry}
use Rattle.bx_board.specs.Reported.{report_from, reported_alone}
use Rattle.bx_board.specs.Texts.{report_lines}
use Rattle.bx_engine.specs.declared.joints.Joint.{Joint}
use Rattle.bx_engine.specs.declared.joints.Part.{Part}
use Rattle.bx_engine.specs.declared.joints.Task.{Task}

-- lines that are each ended by a line feed, or no lines
abbrev pub AreWhole : List ℕ → Type 0
AreWhole text = (text ≡ []) ⊎ ((front : List ℕ) × (text ≡ front ++ codes "\n"))

-- no schedule of the second plan has the name of one of the first
abbrev pub AreApart : List Named → List Named → Type 0
AreApart before plan = list_any (λ schedule. has_name schedule.0 before) plan ≡ false

abbrev pub text_cmp : Bor (List ℕ) → Bor (List ℕ) → Ordering
text_cmp a b = slice_cmp nat_cmp a.now b.now

-- the set has the names of these schedules, and no others
abbrev pub Knows : BTreeSet (Bor (List ℕ)) → List Named → Type 0
Knows names plan = (name : Bor (List ℕ)) → contains text_cmp names name ≡ has_name name.now plan

-- how many distinct prefixes the schedules have, with the empty one
abbrev pub prefix_count : List Named → ℕ
prefix_count plan = length (nodes_of (choices_of plan))

-- how many places are on the first so many chains, with the one at the root
abbrev pub place_count : Chained → ℕ → ℕ
place_count all zero = 1
place_count all (suc c) = place_count all c + chain_length all c

-- the report's text of schedules from a start, which has to be exported
abbrev pub lines_from : Loaded → Entry → List Named → Result (List ℕ) Fault
lines_from image start plan = report_from image start plan >>= λ rows. Ok (report_lines image.atoms rows)

-- the bytes from one place up to the one before another
abbrev pub between : ℕ → ℕ → List ℕ → List ℕ
between first past text = take (past - first) (drop first text)

pub record IsPart (task : Task) (part : Part) : Type 0 where
  pub order : part.first ≤ part.past
  pub within : part.past ≤ length task.text.now
  pub read : plan_of (between part.first part.past task.text.now) ≡ Ok part.plan
  pub few : prefix_count part.plan ≤ part.prefixes
  pub report : lines_from task.image.now task.start part.plan ≡ Ok (string_bytes part.report)

-- the first so many bytes are a plan's, and its report is made
pub record IsJoint (task : Task) (joint : Joint) : Type 0 where
  pub plan : List Named
  pub within : joint.past ≤ length task.text.now
  pub read : plan_of (take joint.past task.text.now) ≡ Ok plan
  pub names : Knows joint.names plan
  pub few : prefix_count plan ≤ joint.prefixes
  pub report : string_bytes joint.report ≡ report_lines task.image.now.atoms (reported_alone task.image.now task.start plan)

-- the text is a plan's, and this is its report's
pub record IsReportOf (task : Task) (report : List ℕ) : Type 0 where
  pub plan : List Named
  pub read : plan_of task.text.now ≡ Ok plan
  pub lines : lines_from task.image.now task.start plan ≡ Ok report
