-- The command lines of the program, and what each orders, by the meaning that `clap` gives to the
-- words of simple commands.
use Rattle.std.specs.Prelude.{◌≡◌, ◌≢◌, ◌⊎◌, ◌<◌, ◌^◌, ℕ, pos, true, false, List, [], ◌∷◌, ◌++◌, Option, Some, None, IsSomeAnd, bytes_eq, codes, if◌then◌else◌, map, option_map, option_to_list}
use Rattle.std.specs.Str.Parse.{IsNumeral, signed_digits_value, without_leading_sign}
use Rattle.clap.specs.Kinds.{HasKind, IsAmong}
use Rattle.clap.specs.Faults.{fault_of}
use Rattle.clap.specs.Values.{kind_of}
use Rattle.clap.specs.Simple.{App, new_app, new_rule, on_top, subcommand_of, with_rule, with_subcommand}
use Rattle.clap.specs.Walk.{Row, Rule, Text, all_of, first_of}
use Rattle.clap.specs.declared.builder.action.ArgAction.TheVariants.{Set, SetTrue, Append}
use Rattle.clap.specs.declared.builder.value_parser.ValueParser.TheVariants.{Signed}
use Rattle.clap.specs.declared.error.Error.{Error}
use Rattle.clap.specs.declared.error.kind.ErrorKind.TheVariants.{DisplayHelp, DisplayVersion, MissingSubcommand, OutOfMemory}
use Rattle.bx_engine.specs.declared.forms.Form.{Form, TheVariants.Report, TheVariants.Summary}
use Rattle.bxemu.specs.declared.commands.Order.{Order}
use Rattle.bxemu.specs.declared.commands.Order.TheVariants.{Campaign, Chart, Debug, Dis, Run, Tidy}

-- `--NAME VALUE`, which stands once
abbrev pub option_rule : Text → Rule
option_rule name = record (new_rule name) {
  long = Some name;
  action = Some Set;
  value_names = 1;
  required = true;
}

-- one file or more
abbrev pub files_rule : Rule
files_rule = record (new_rule (codes "FILES")) { action = Some Append; required = true }

-- one file
abbrev pub file_rule : Rule
file_rule = record (new_rule (codes "FILE")) { action = Some Set; required = true }

-- `--workers N`, a number of 32 bits, which may be left out and is 4 then
abbrev pub workers_rule : Rule
workers_rule = record (option_rule (codes "workers")) {
  required = false;
  defaults = codes "4" ∷ [];
  parser = Some (Signed (pos 0) (pos 4294967295));
}

-- `--summary`, which may be left out
abbrev pub summary_rule : Rule
summary_rule = record (new_rule (codes "summary")) { long = Some (codes "summary"); action = Some SetTrue }

-- `--schedule NAME`, which may be left out
abbrev pub schedule_rule : Rule
schedule_rule = record (option_rule (codes "schedule")) { required = false }

-- `NAME --start M:F --plan FILE`
abbrev pub over_plan : Text → App
over_plan name = with_rule (with_rule (new_app name) (option_rule (codes "start"))) (option_rule (codes "plan"))

-- `run --start M:F --plan FILE --summary FILES..`
abbrev pub run_command : App
run_command = with_rule (with_rule (over_plan (codes "run")) summary_rule) files_rule

-- `campaign --start M:F --plan FILE --workers N --summary FILES..`
abbrev pub campaign_command : App
campaign_command = with_rule (with_rule (with_rule (over_plan (codes "campaign")) workers_rule) summary_rule) files_rule

-- `tidy --start M:F --plan FILE FILES..`
abbrev pub tidy_command : App
tidy_command = with_rule (over_plan (codes "tidy")) files_rule

-- `chart --start M:F --plan FILE --schedule NAME FILES..`
abbrev pub chart_command : App
chart_command = with_rule (with_rule (over_plan (codes "chart")) schedule_rule) files_rule

-- `debug --start M:F FILES..`
abbrev pub debug_command : App
debug_command = with_rule (with_rule (new_app (codes "debug")) (option_rule (codes "start"))) files_rule

-- `dis FILE`
abbrev pub dis_command : App
dis_command = with_rule (new_app (codes "dis")) file_rule

-- the program, of which a subcommand is wanted, or its version
abbrev pub bare_program : App
bare_program = on_top (λ top. record top { subcommand_required = true; has_version = true }) (new_app (codes "bxemu"))

-- with the subcommands that run the schedules of a plan
abbrev pub running_program : App
running_program = with_subcommand (with_subcommand bare_program run_command.top) campaign_command.top

-- with the subcommands that take a plan
abbrev pub plan_program : App
plan_program = with_subcommand (with_subcommand running_program tidy_command.top) chart_command.top

-- with all its subcommands
abbrev pub program : App
program = with_subcommand (with_subcommand plan_program debug_command.top) dis_command.top

-- a text spells a number of 32 bits, behind a sign or none
abbrev pub Spells : Text → ℕ → Type 0
Spells text n = IsNumeral 10 (without_leading_sign text) × (signed_digits_value 10 text ≡ pos n) × (n < 2 ^ 32)

-- the form that the value of the flag asks for
abbrev pub form_by : Option Text → Form
form_by None = Report
form_by (Some value) = if bytes_eq value (codes "true") then Summary else Report

-- a run with these parts is what the subcommand's values say
abbrev pub IsRun : Text → Text → Form → List Text → Text × List Row → Type 0
IsRun start plan form files p = (p.0 ≡ codes "run")
    × (first_of (codes "start") p.1 ≡ Some start)
    × (first_of (codes "plan") p.1 ≡ Some plan)
    × (form_by (first_of (codes "summary") p.1) ≡ form)
    × (all_of (codes "FILES") p.1 ≡ Some files)

-- a campaign with these parts is what the subcommand's values say
abbrev pub IsCampaign : Text → Text → ℕ → Form → List Text → Text × List Row → Type 0
IsCampaign start plan workers form files p = (p.0 ≡ codes "campaign")
    × (first_of (codes "start") p.1 ≡ Some start)
    × (first_of (codes "plan") p.1 ≡ Some plan)
    × ((text : Text) × (first_of (codes "workers") p.1 ≡ Some text) × Spells text workers)
    × (form_by (first_of (codes "summary") p.1) ≡ form)
    × (all_of (codes "FILES") p.1 ≡ Some files)

-- a tidying with these parts is what the subcommand's values say
abbrev pub IsTidy : Text → Text → List Text → Text × List Row → Type 0
IsTidy start plan files p = (p.0 ≡ codes "tidy")
    × (first_of (codes "start") p.1 ≡ Some start)
    × (first_of (codes "plan") p.1 ≡ Some plan)
    × (all_of (codes "FILES") p.1 ≡ Some files)

-- a drawing with these parts is what the subcommand's values say
abbrev pub IsChart : Text → Text → Option Text → List Text → Text × List Row → Type 0
IsChart start plan schedule files p = (p.0 ≡ codes "chart")
    × (first_of (codes "start") p.1 ≡ Some start)
    × (first_of (codes "plan") p.1 ≡ Some plan)
    × (first_of (codes "schedule") p.1 ≡ schedule)
    × (all_of (codes "FILES") p.1 ≡ Some files)

-- a session with these parts is what the subcommand's values say
abbrev pub IsDebug : Text → List Text → Text × List Row → Type 0
IsDebug start files p = (p.0 ≡ codes "debug")
    × (first_of (codes "start") p.1 ≡ Some start)
    × (all_of (codes "FILES") p.1 ≡ Some files)

-- a code form of this file is what the subcommand's values say
abbrev pub IsDis : Text → Text × List Row → Type 0
IsDis file p = (p.0 ≡ codes "dis") × (first_of (codes "FILE") p.1 ≡ Some file)

-- the order is the one that the subcommand's values say
abbrev pub Orders : Option (Text × List Row) → Order → Type 0
Orders named (Run start plan form files) = IsSomeAnd named (IsRun start.now plan.now form (map (λ file. file.now) files.items))
Orders named (Campaign start plan workers form files) =
    IsSomeAnd named (IsCampaign start.now plan.now workers form (map (λ file. file.now) files.items))
Orders named (Tidy start plan files) = IsSomeAnd named (IsTidy start.now plan.now (map (λ file. file.now) files.items))
Orders named (Chart start plan schedule files) =
    IsSomeAnd named (IsChart start.now plan.now (option_map (λ name. name.now) schedule) (map (λ file. file.now) files.items))
Orders named (Debug start files) = IsSomeAnd named (IsDebug start.now (map (λ file. file.now) files.items))
Orders named (Dis file) = IsSomeAnd named (IsDis file.now)

-- what it names, in the order by which a failure numbers it: the listings, then the plan, then the schedule, where one is named; or
-- the only file; the lines of a session stand behind its listings
abbrev pub names_in : Order → List Text
names_in (Run start plan form files) = map (λ file. file.now) files.items ++ plan.now ∷ []
names_in (Campaign start plan workers form files) = map (λ file. file.now) files.items ++ plan.now ∷ []
names_in (Tidy start plan files) = map (λ file. file.now) files.items ++ plan.now ∷ []
names_in (Chart start plan schedule files) =
    (map (λ file. file.now) files.items ++ plan.now ∷ []) ++ option_to_list (option_map (λ name. name.now) schedule)
names_in (Debug start files) = map (λ file. file.now) files.items ++ codes "-" ∷ []
names_in (Dis file) = file.now ∷ []

-- an order whose text goes out line by line, so that some of it may be out where it fails
abbrev pub TellsByLine : Order → Type 0
TellsByLine (Debug start files) = Unit {0}
TellsByLine order = ⊥

-- no order has these values
abbrev pub IsUnordered : Option (Text × List Row) → Type 0
IsUnordered named = (order : Order) → Orders named order → ⊥

-- the error tells that a part is missing, of values that no order has, or that memory ran out
abbrev pub Lacks : Option (Text × List Row) → Error → Type 0
Lacks named e = (kind_of e ≡ OutOfMemory) ⊎ ((kind_of e ≡ MissingSubcommand) × IsUnordered named)

-- the words order nothing: by the rules of `clap`, or since no order has their values
abbrev pub OrdersNothing : List Text → Error → Type 0
OrdersNothing words e =
    HasKind (fault_of program words) e ⊎ Lacks (subcommand_of program words) e

-- a help may be what the words ask for
abbrev pub MayAskHelp : List Text → Type 0
MayAskHelp words =
    IsAmong DisplayHelp (fault_of program words) ⊎ IsAmong DisplayVersion (fault_of program words)

-- the words are at fault, or no order has their values
abbrev pub IsMistaken : List Text → Type 0
IsMistaken words = (fault_of program words ≢ []) ⊎ IsUnordered (subcommand_of program words)

-- the status of such words: 2 or 3, and 0 or 4 only where they may ask for a help
abbrev pub RefusesWords : List Text → ℕ → Type 0
RefusesWords words status = (status ≡ 2) ⊎ (status ≡ 3)
    ⊎ (MayAskHelp words × ((status ≡ 0) ⊎ (status ≡ 4)))

-- the words have no fault, and the values of their subcommand say that
abbrev pub WithoutFault : List Text → (Text × List Row → Type 0) → Type 0
WithoutFault words Says = (fault_of program words ≡ []) × IsSomeAnd (subcommand_of program words) Says
