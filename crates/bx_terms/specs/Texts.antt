-- How texts are looked up: by a map from each text to its number.
use Rattle.std.specs.Prelude.{◌≡◌, ℕ, List, String}
use Rattle.std.specs.BTreeMap.{BTreeMap, get_by_text}
use Rattle.bx_terms.specs.AtomTable.{number_of}

abbrev pub AreNumbers : {Z : Type 0} → List (List ℕ) → BTreeMap (String Z) ℕ → Type 0
AreNumbers texts numbers = (text : List ℕ) → get_by_text numbers text ≡ number_of texts text
