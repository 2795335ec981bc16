-- The forms of a listing that hold no item. One that is misshapen is refused before any atom in it is numbered.
use Rattle.std.specs.Prelude.{ℕ, List, [], ◌∷◌, Bool, ◌&&◌, false, true, Option, Some, None, option_map, is_some, if◌then◌else◌}
use Rattle.bx_terms.specs.declared.faults.Fault.TheVariants as faults
use Rattle.bx_terms.specs.declared.atom_table.AtomId.{AtomId}
use Rattle.bx_text.specs.Tree.{Tree}
use Rattle.bx_listing.specs.declared.code_form.Export.{Export}
use Rattle.bx_listing.specs.declared.words.FormWord.{FormWord}
use Rattle.bx_listing.specs.declared.words.FormWord.TheVariants as words
use Rattle.bx_listing.specs.Reading.{Reading, ◌>>=◌, each, give, refuse, wanted, named, no_line}
use Rattle.bx_listing.specs.Shape.{Shape, tagged, shape, number, word, list_elements}
use Rattle.bx_listing.specs.Words.{form_word}
use Rattle.bx_listing.specs.ListedCode.{ListedFunction}

abbrev pub bad_form : {A : Type 0} → Reading A
bad_form = refuse (faults.BadForm no_line)

-- what must have this shape
abbrev pub head : {A : Type 0} → Option A → Reading A
head = wanted (faults.BadForm no_line)

-- M of `{module,M}`
abbrev pub module_of : FormWord → List Tree → Option (List ℕ)
module_of words.Module (name ∷ []) = word name
module_of _ _ = None

abbrev pub module_name : Shape → Option (List ℕ)
module_name (tagged text parts) = module_of (form_word text) parts
module_name _ = None

-- the atom that M is
abbrev pub module_form : Shape → Reading AtomId
module_form s = head (module_name s) >>= named

-- `{F,A}`
abbrev pub offer_of : List ℕ → List Tree → Option (List ℕ × ℕ)
offer_of name (arity ∷ []) = option_map (λ n. (name, n)) (number arity)
offer_of name _ = None

abbrev pub offer_in : Shape → Option (List ℕ × ℕ)
offer_in (tagged name parts) = offer_of name parts
offer_in _ = None

abbrev pub offer : Tree → Option (List ℕ × ℕ)
offer t = offer_in (shape t)

abbrev pub are_offers : List Tree → Bool
are_offers [] = true
are_offers (t ∷ ts) = is_some (offer t) && are_offers ts

abbrev pub named_offer_of : Option (List ℕ × ℕ) → Reading Export
named_offer_of (Some o) = named o.0 >>= λ function. give (record { function = function; arity = o.1 })
named_offer_of None = bad_form

abbrev pub named_offer : Tree → Reading Export
named_offer t = named_offer_of (offer t)

abbrev pub named_offers : List Tree → Reading (List Export)
named_offers ts = each named_offer ts

abbrev pub offers : List Tree → Reading (List Export)
offers ts = if are_offers ts then named_offers ts else bad_form

-- `{exports,[{F,A},..]}`
abbrev pub exports_of : FormWord → List Tree → Reading (List Export)
exports_of words.Exports (es ∷ []) = head (list_elements es) >>= offers
exports_of _ _ = bad_form

abbrev pub exports_form : Shape → Reading (List Export)
exports_form (tagged text parts) = exports_of (form_word text) parts
exports_form _ = bad_form

-- `{attributes,T}`
abbrev pub is_attributes_of : FormWord → List Tree → Bool
is_attributes_of words.Attributes (t ∷ []) = true
is_attributes_of _ _ = false

abbrev pub is_attributes : Shape → Bool
is_attributes (tagged text parts) = is_attributes_of (form_word text) parts
is_attributes _ = false

-- `{labels,N}`
abbrev pub is_labels_of : FormWord → List Tree → Bool
is_labels_of words.Labels (n ∷ []) = is_some (number n)
is_labels_of _ _ = false

abbrev pub is_labels : Shape → Bool
is_labels (tagged text parts) = is_labels_of (form_word text) parts
is_labels _ = false

-- `{function,F,A,Entry}`, what stands behind the word
abbrev pub begun : Option (List ℕ) → Option ℕ → Option ℕ → Reading ListedFunction
begun (Some name) (Some arity) (Some entry) = named name >>= λ name. give (record { name = name; arity = arity; entry = entry; items = [] })
begun _ _ _ = bad_form

abbrev pub function_form : List Tree → Reading ListedFunction
function_form (name ∷ arity ∷ entry ∷ []) = begun (word name) (number arity) (number entry)
function_form _ = bad_form
