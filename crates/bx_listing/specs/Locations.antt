-- Where the items of a listing stand in its sources: `{line,[{location,STRING,N},..]}` says it of itself and of the items behind
-- it in its function.
use Rattle.std.specs.Prelude.{ℕ, Bool, true, false, if◌then◌else◌, List, [], ◌∷◌, ◌++◌, Option, Some, None, codes, nat_eq, bytes_eq, Result, Ok, Err, refl}
use Rattle.std.specs.Char.{encode_utf8}
use Rattle.std.specs.Coded.{Coded, code_by, coded×, coded_ℕ, coded_list, coded_option}
use Rattle.bx_terms.specs.Options.{◌>>=◌}
use Rattle.bx_terms.specs.declared.faults.Fault.{Fault}
use Rattle.bx_text.specs.Escapes.{is_scalar}
use Rattle.bx_text.specs.Tree.{Tree}
use Rattle.bx_listing.specs.declared.words.FormWord.{FormWord}
use Rattle.bx_listing.specs.declared.words.FormWord.TheVariants as words
use Rattle.bx_listing.specs.Shape.{Shape, tagged, shape, number, list_elements}
use Rattle.bx_listing.specs.Words.{form_word}
use Rattle.bx_listing.specs.Forms.{Forms, form}
use Rattle.bx_listing.specs.Listing.{behind_head}

-- the name of a file, and the number of a line in it
abbrev pub Location : Type 0
Location = List ℕ × ℕ

-- the code of a character
abbrev pub if_scalar : ℕ → Option ℕ
if_scalar c = if is_scalar c then Some c else None

abbrev pub character : Tree → Option ℕ
character t = number t >>= if_scalar

abbrev pub with_character : Option ℕ → Option (List ℕ) → Option (List ℕ)
with_character (Some c) (Some text) = Some (encode_utf8 c ++ text)
with_character _ _ = None

-- the text of a string, which is a list of characters
abbrev pub spelled : List Tree → Option (List ℕ)
spelled [] = Some []
spelled (t ∷ ts) = with_character (character t) (spelled ts)

abbrev pub string : Tree → Option (List ℕ)
string t = list_elements t >>= spelled

-- a line's number, from 1
abbrev pub from_one : ℕ → Option ℕ
from_one n = if nat_eq n 0 then None else Some n

abbrev pub line_number : Tree → Option ℕ
line_number t = number t >>= from_one

-- `{location,STRING,N}`
abbrev pub both : Option (List ℕ) → Option ℕ → Option Location
both (Some name) (Some line) = Some (name, line)
both _ _ = None

abbrev pub location_of : List ℕ → List Tree → Option Location
location_of text (name ∷ line ∷ []) = if bytes_eq text (codes "location") then both (string name) (line_number line) else None
location_of text _ = None

abbrev pub location_in : Shape → Option Location
location_in (tagged text parts) = location_of text parts
location_in _ = None

abbrev pub location : Tree → Option Location
location t = location_in (shape t)

abbrev pub or_first : Option Location → Option Location → Option Location
or_first (Some l) rest = Some l
or_first None rest = rest

-- the first of a list that is one
abbrev pub first_location : List Tree → Option Location
first_location [] = None
first_location (t ∷ ts) = or_first (location t) (first_location ts)

-- what a `line` says, by what stands behind the word
abbrev pub said_by : List Tree → Option Location
said_by (operand ∷ []) = list_elements operand >>= first_location
said_by _ = None

-- where an item stands, and those behind it, by where the items before it do: a function begins where nothing is said
abbrev pub moved_by : Option Location → List ℕ → List Tree → FormWord → Option Location
moved_by here text parts words.Function = None
moved_by here text parts words.Named = if bytes_eq text (codes "line") then said_by parts else here
moved_by here text parts _ = here

abbrev pub moved : Option Location → Shape → Option Location
moved here (tagged text parts) = moved_by here text parts (form_word text)
moved here _ = here

-- the beginning of a function and an annotation are no items
abbrev pub is_item_word : FormWord → Bool
is_item_word words.Function = false
is_item_word words.Annotation = false
is_item_word _ = true

abbrev pub is_item : Shape → Bool
is_item (tagged text parts) = is_item_word (form_word text)
is_item _ = true

abbrev pub own : Option Location → Shape → List (Option Location)
own here s = if is_item s then moved here s ∷ [] else []

-- where each item of these forms stands
abbrev pub located : Option Location → Forms → List (Option Location)
located here (form line t rest) = own here (shape t) ++ located (moved here (shape t)) rest
located here _ = []

abbrev pub located_behind : Result Forms Fault → List (Option Location)
located_behind (Ok rest) = located None rest
located_behind (Err fault) = []

-- where each item of a listing stands: behind its first form come the exports, the rest of the head, and then the functions
abbrev pub located_exports : ℕ → Forms → List (Option Location)
located_exports last (form line exports rest) = located_behind (behind_head last rest)
located_exports last _ = []

abbrev pub locations : ℕ → Forms → List (Option Location)
locations last (form line named rest) = located_exports last rest
locations last _ = []

-- where each of the items so far stands, and what is known of those that follow
pub record Located : Type 0 where
  pub items : List (Option Location)
  pub here : Option Location

-- one form more
abbrev pub passed : Located → Shape → Located
passed l s = record { items = l.items ++ own l.here s; here = moved l.here s }

-- both are stored as the tuples of their fields: what a proof tells two of them apart by
abbrev pub location_code : Coded (Option Location)
location_code = coded_option (coded× (coded_list coded_ℕ) coded_ℕ)

abbrev pub located_code : Coded Located
located_code =
    code_by (List (Option Location) × Option Location) (coded× (coded_list location_code) location_code)
    (λ l. (l.items, l.here))
    (λ t. record { items = t.0; here = t.1 })
    (λ _. refl)
