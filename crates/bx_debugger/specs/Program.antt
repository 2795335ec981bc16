-- A program: loaded code, and where the items of it stand in their sources.
use Rattle.std.specs.Prelude.{ℕ, List, [], ◌++◌, Option, Some, None, chars, codes, decimal, if◌then◌else◌, refl}
use Rattle.std.specs.Char.{encode_utf8}
use Rattle.std.specs.Coded.{Coded, code_by, coded×, coded_list}
use Rattle.std.specs.List.{flat_map}
use Rattle.bx_terms.specs.declared.places.Place.{Place}
use Rattle.bx_listing.specs.Locations.{Location, location_code}
use Rattle.bx_load.specs.Image.{Loaded}
use Rattle.bx_load.specs.Names.{place_text}
use Rattle.bx_debug.specs.Sessions.{History}
use Rattle.bx_engine.specs.FaultLines.{is_plain, spelled}
use Rattle.bx_engine.specs.Sources.{Sources, location_at}

pub record Program : Type 0 where
  pub image : Loaded
  pub sources : Sources

-- that of a session
abbrev pub program_of : Sources → History → Program
program_of sources s = record { image = s.image; sources = sources }

-- a character of a file's name as it is, and a control code as a fault's line spells it, so that one line stays one line
abbrev pub name_character : ℕ → List ℕ
name_character c = if is_plain c then encode_utf8 c else spelled c

abbrev pub file_text : List ℕ → List ℕ
file_text name = flat_map name_character (chars name)

-- ` race.erl:11`, where there is one
abbrev pub location_words : Option Location → List ℕ
location_words None = []
location_words (Some location) = codes " " ++ file_text location.0 ++ codes ":" ++ decimal location.1

-- an address as `break` names it, and where in its source it stands
abbrev pub located_text : Program → Place → List ℕ
located_text program place = place_text program.image place ++ location_words (location_at program.sources place)

-- what a proof tells two tables of locations apart by
abbrev pub sources_code : Coded Sources
sources_code = coded_list (coded_list location_code)

abbrev pub program_code : Coded Loaded → Coded Program
program_code image =
    code_by (Loaded × Sources) (coded× image sources_code) (λ p. (p.image, p.sources)) (λ t. record { image = t.0; sources = t.1 }) (λ _. refl)
