-- The commands of a debugger: a word, and behind one space what it is about.
use Rattle.std.specs.Prelude.{ℕ, ◌+◌, ◌==◌, Bool, false, List, [], ◌∷◌, ◌++◌, Option, Some, None, Result, Ok, Err, bytes_eq, option_map, if◌then◌else◌, codes, drop, slice_get}
use Rattle.std.specs.Option.{option_map_or, option_or}
use Rattle.bx_terms.specs.AtomTable as atoms
use Rattle.bx_terms.specs.Options.{◌>>=◌}
use Rattle.bx_terms.specs.declared.places.Place.{Place}
use Rattle.bx_asm.specs.declared.unit.Head.{Head}
use Rattle.bx_load.specs.Functions.{function_of}
use Rattle.bx_load.specs.Image.{Loaded, item_at, place_of, target, there}
use Rattle.bx_plan.specs.Reading.{cut, choice_of, entries_of, is_name, number_of, spread}
use Rattle.bx_engine.specs.Starts.{has_colon, token_in}
use Rattle.bx_debugger.specs.declared.commands.Command.{Command}
use Rattle.bx_debugger.specs.declared.commands.Command.TheVariants.{Step, Back, Forward, Go, Until, Run, Swap, Tidy, Undo, Break, Clear, Show, Where, Look, Signals, Open, Items, Trace, Plan, Help}

-- how far a move, and which item, a line may name
abbrev pub most_number : ℕ
most_number = 4294967295

-- the greatest pid that a line may name
abbrev pub most_pid : ℕ
most_pid = 1023

abbrev pub has_slash : Option ℕ → Bool
has_slash code = option_map_or (λ c. c == 47) code false

-- `M:I`: a module's name, one atom's token, bare or quoted; and the number of an instruction of it, from 0
abbrev pub place_in : Loaded → List ℕ → Option Place
place_in image text = do
  token ← token_in text 0
  item ← if has_colon (slice_get text token.1) then number_of most_number (drop (token.1 + 1) text) else None
  m ← atoms.number_of image.atoms token.0
  place_of image (record { 0 = m }) item

-- the function of those names, which the loaded code may not hold, and of that arity
abbrev pub function_there : Loaded → List ℕ → List ℕ → ℕ → Option (Place × Head)
function_there image owner name arity = do
  m ← atoms.number_of image.atoms owner
  f ← atoms.number_of image.atoms name
  function_of image (record { 0 = m }) (record { 0 = f }) arity

-- `M:F/A`: a module's and a function's names, each one atom's token, and a number; the first function of that name and arity
abbrev pub function_in : Loaded → List ℕ → Option (Place × Head)
function_in image text = do
  token ← token_in text 0
  name ← if has_colon (slice_get text token.1) then token_in text (token.1 + 1) else None
  arity ← if has_slash (slice_get text name.1) then number_of most_number (drop (name.1 + 1) text) else None
  function_there image token.0 name.0 arity

-- where a call of a function begins: at its entry, where an instruction stands there
abbrev pub beginning : Loaded → Option (Place × Head) → Option Place
beginning image function = do
  f ← function
  place ← target image f.0.«module» f.1.entry
  there place (item_at image place)

-- an address by the number of its item, or by the function whose calls begin there
abbrev pub place_named : Loaded → List ℕ → Option Place
place_named image text = option_or (place_in image text) (beginning image (function_in image text))

-- a command that is a word alone; `go` alone makes no choice
abbrev pub alone : List ℕ → Option Command
alone word =
    if bytes_eq word (codes "go") then Some (Go [])
    else if bytes_eq word (codes "show") then Some Show
    else if bytes_eq word (codes "where") then Some Where
    else if bytes_eq word (codes "signals") then Some Signals
    else if bytes_eq word (codes "open") then Some Open
    else if bytes_eq word (codes "tidy") then Some Tidy
    else if bytes_eq word (codes "help") then Some Help
    else None

-- a command's word, and what stands behind the space
abbrev pub about : Loaded → List ℕ × List ℕ → Option Command
about image parts =
    if bytes_eq parts.0 (codes "step") then option_map Step (choice_of parts.1)
    else if bytes_eq parts.0 (codes "back") then option_map Back (number_of most_number parts.1)
    else if bytes_eq parts.0 (codes "forward") then option_map Forward (number_of most_number parts.1)
    else if bytes_eq parts.0 (codes "go") then option_map (λ entries. Go (spread entries)) (entries_of parts.1)
    else if bytes_eq parts.0 (codes "until") then option_map Until (number_of most_pid parts.1)
    else if bytes_eq parts.0 (codes "run") then option_map Run (number_of most_pid parts.1)
    else if bytes_eq parts.0 (codes "swap") then option_map Swap (number_of most_number parts.1)
    else if bytes_eq parts.0 (codes "undo") then option_map Undo (number_of most_number parts.1)
    else if bytes_eq parts.0 (codes "break") then option_map Break (place_named image parts.1)
    else if bytes_eq parts.0 (codes "clear") then option_map Clear (place_named image parts.1)
    else if bytes_eq parts.0 (codes "look") then option_map Look (number_of most_pid parts.1)
    else if bytes_eq parts.0 (codes "list") then option_map (λ f. Items f.0 (f.0.item + f.1.count)) (function_in image parts.1)
    else if bytes_eq parts.0 (codes "trace") then option_map Trace (number_of most_number parts.1)
    else if bytes_eq parts.0 (codes "plan") then (if is_name parts.1 then Some (Plan parts.1) else None)
    else None

-- what a line orders, over that loaded code
abbrev pub ordered_by : Loaded → List ℕ → Option Command
ordered_by image line = option_map_or (about image) (cut 32 line) (alone line)
