-- Orders, by the values that a parse gave.
use Rattle.std.proofs.Common.{◌≡◌, ◌≢◌, ◌<◌, ◌^◌, ℕ, arith, List, [], Option, Some, None, Result, Ok, Err, IfOk, ◌⊎◌, inl, inr, codes, refl, subst, true, false}
use Rattle.std.specs.Str.{bytes_eq}
use Rattle.std.proofs.lemmas.Slice.Eq.{bytes_eq-Decides}
use Rattle.clap.proofs.OnLiterals.{clap_on_literals}
use Rattle.clap.specs.Faults.{fault_of, is_simple_and_free}
use Rattle.clap.specs.Simple.{HasMatchesOf, app_of, is_simple, subcommand_of, subcommand_rows_of}
use Rattle.clap.specs.Values.{kind_of}
use Rattle.clap.specs.Walk.{Row, Text, all_of, first_of}
use Rattle.clap.specs.declared.builder.command.Command.{Command}
use Rattle.clap.specs.declared.parser.matches.ArgMatches.{ArgMatches}
use Rattle.clap.specs.declared.error.Error.{Error}
use Rattle.clap.specs.declared.error.kind.ErrorKind.TheVariants.{MissingSubcommand, OutOfMemory}
use Rattle.bxemu.specs.CommandLines.{IsMistaken, IsUnordered, Lacks, Orders, RefusesWords, Spells, program}
use Rattle.bxemu.specs.declared.commands.Order.{Order}
use Rattle.bxemu.specs.declared.commands.Order.TheVariants.{Campaign, Chart, Debug, Dis, Run, Tidy}

-- texts that are compared as different differ
pub differs : (one other : Text) → bytes_eq one other ≡ false → one ≢ other
differs one other unlike same = let alike : bytes_eq one other ≡ true = (bytes_eq-Decides one other).1 same in cc

-- an error that tells of a missing part, or of memory, where no order has these values
pub lacking : (named : Option (Text × List Row)) (e : Error) → (kind_of e ≡ MissingSubcommand) ⊎ (kind_of e ≡ OutOfMemory) → IsUnordered named → Lacks named e
lacking named e (inl missing) none = inr (missing, none)
lacking named e (inr memory) none = inl memory

module _ (rows : List Row) (name : Text) where
  -- each order but `dis` names a start and files
  pub lacks_start : first_of (codes "start") rows ≡ None → name ≢ codes "dis" → IsUnordered (Some (name, rows))
  lacks_start none other (Run start plan form files) h = let there = h.1 in cc
  lacks_start none other (Campaign start plan workers form files) h = let there = h.1 in cc
  lacks_start none other (Tidy start plan files) h = let there = h.1 in cc
  lacks_start none other (Chart start plan schedule files) h = let there = h.1 in cc
  lacks_start none other (Debug start files) h = let there = h.1 in cc
  lacks_start none other (Dis file) h = other h.0

  pub lacks_files : all_of (codes "FILES") rows ≡ None → name ≢ codes "dis" → IsUnordered (Some (name, rows))
  lacks_files none other (Run start plan form files) h = let there = h.4 in cc
  lacks_files none other (Campaign start plan workers form files) h = let there = h.5 in cc
  lacks_files none other (Tidy start plan files) h = let there = h.3 in cc
  lacks_files none other (Chart start plan schedule files) h = let there = h.4 in cc
  lacks_files none other (Debug start files) h = let there = h.2 in cc
  lacks_files none other (Dis file) h = other h.0

  -- each order but these two names a plan
  pub lacks_plan : first_of (codes "plan") rows ≡ None → name ≢ codes "dis" → name ≢ codes "debug" → IsUnordered (Some (name, rows))
  lacks_plan none other more (Run start plan form files) h = let there = h.2 in cc
  lacks_plan none other more (Campaign start plan workers form files) h = let there = h.2 in cc
  lacks_plan none other more (Tidy start plan files) h = let there = h.2 in cc
  lacks_plan none other more (Chart start plan schedule files) h = let there = h.2 in cc
  lacks_plan none other more (Debug start files) h = more h.0
  lacks_plan none other more (Dis file) h = other h.0

module _ (rows : List Row) where
  -- a campaign names a number of workers
  pub lacks_workers : ((text : Text) (n : ℕ) → first_of (codes "workers") rows ≡ Some text → Spells text n → ⊥) → IsUnordered (Some (codes "campaign", rows))
  lacks_workers none (Campaign start plan workers form files) h = none h.3.0 workers h.3.1 h.3.2
  lacks_workers none (Run start plan form files) h = differs (codes "campaign") (codes "run") refl h.0
  lacks_workers none (Tidy start plan files) h = differs (codes "campaign") (codes "tidy") refl h.0
  lacks_workers none (Chart start plan schedule files) h = differs (codes "campaign") (codes "chart") refl h.0
  lacks_workers none (Debug start files) h = differs (codes "campaign") (codes "debug") refl h.0
  lacks_workers none (Dis file) h = differs (codes "campaign") (codes "dis") refl h.0

  pub lacks_file : first_of (codes "FILE") rows ≡ None → IsUnordered (Some (codes "dis", rows))
  lacks_file none (Dis file) h = let there = h.1 in cc
  lacks_file none (Run start plan form files) h = differs (codes "dis") (codes "run") refl h.0
  lacks_file none (Campaign start plan workers form files) h = differs (codes "dis") (codes "campaign") refl h.0
  lacks_file none (Tidy start plan files) h = differs (codes "dis") (codes "tidy") refl h.0
  lacks_file none (Chart start plan schedule files) h = differs (codes "dis") (codes "chart") refl h.0
  lacks_file none (Debug start files) h = differs (codes "dis") (codes "debug") refl h.0

-- what some texts spell
pub spells_four : Spells (codes "4") 4
spells_four =
    let some : 0 < 1 = omega arith in let digit : 4 < 10 = omega arith in let within : 4 < 2 ^ 32 = omega arith in
    ((some, (digit, tt)), refl, within)

pub spells_two : Spells (codes "+2") 2
spells_two =
    let some : 0 < 1 = omega arith in let digit : 2 < 10 = omega arith in let within : 2 < 2 ^ 32 = omega arith in
    ((some, (digit, tt)), refl, within)

pub spells_most : Spells (codes "64") 64
spells_most =
    let some : 0 < 2 = omega arith in let first : 6 < 10 = omega arith in let last : 4 < 10 = omega arith in
    let within : 64 < 2 ^ 32 = omega arith in
    ((some, (first, (last, tt))), refl, within)

-- what holds in any case holds of each value
pub if_ok_always : {T E P : Type 0} (r : Result T E) → P → IfOk r (λ _. P)
if_ok_always (Ok x) p = p
if_ok_always (Err e) p = tt

pub program_is_simple : is_simple program ≡ true
unfolding clap_on_literals
program_is_simple = refl

pub program_is_free : is_simple_and_free program ≡ true
unfolding clap_on_literals
program_is_free = refl

module _ (c : Command) (is : app_of c ≡ program) (words : List Text) where
  -- a parse that succeeds has no fault
  pub faultless : (is_simple_and_free (app_of c) ≡ true → fault_of (app_of c) words ≡ []) → fault_of program words ≡ []
  faultless h = subst (λ a. is_simple_and_free a ≡ true → fault_of a words ≡ []) is h program_is_free

  -- the subcommand that a parse met is the one that the words name
  pub subcommand_is : (m : ArgMatches) → HasMatchesOf (app_of c) words m → subcommand_rows_of m ≡ subcommand_of program words
  subcommand_is m h = (subst (λ a. HasMatchesOf a words m) is h program_is_simple).1

-- words that have an order and no fault are not mistaken
pub not_mistaken : (words : List Text) (order : Order) (status : ℕ) → fault_of program words ≡ [] → Orders (subcommand_of program words) order → IsMistaken words → RefusesWords words status
not_mistaken words order status faultless ordered (inl at_fault) = absurd (at_fault faultless)
not_mistaken words order status faultless ordered (inr unordered) = absurd (unordered order ordered)
