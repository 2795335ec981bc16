-- Which forms are a listing: `{module,M}`, `{exports,[{F,A},..]}`, `{attributes,T}`, which may be missing, `{labels,N}`, and
-- then for each function `{function,F,A,Entry}` and its items, in this order.
use Rattle.std.specs.Prelude.{ℕ, List, [], ◌∷◌, ◌++◌, Option, Some, None, IsSome, is_some, Result, Ok, Err, if◌then◌else◌}
use Rattle.bx_terms.specs.declared.faults.Fault.{Fault}
use Rattle.bx_terms.specs.declared.faults.Fault.TheVariants as faults
use Rattle.bx_terms.specs.declared.atom_table.AtomId.{AtomId}
use Rattle.bx_text.specs.Tree.{Tree, span_of}
use Rattle.bx_text.specs.Place.{Place}
use Rattle.bx_listing.specs.declared.code_form.Export.{Export}
use Rattle.bx_listing.specs.Items.{Item}
use Rattle.bx_listing.specs.declared.words.FormWord.{FormWord}
use Rattle.bx_listing.specs.declared.words.FormWord.TheVariants as words
use Rattle.bx_listing.specs.Reading.{Reading, ◌>>=◌, from_result, give, refuse, stored, stored_if, on_line}
use Rattle.bx_listing.specs.Shape.{Shape, bare, tagged, other, shape}
use Rattle.bx_listing.specs.Words.{form_word}
use Rattle.bx_listing.specs.HeadForms.{bad_form, module_name, module_form, exports_form, is_attributes, is_labels, function_form}
use Rattle.bx_listing.specs.ItemForms.{item}
use Rattle.bx_listing.specs.Forms.{Forms, ends, broken, form, forms}
use Rattle.bx_listing.specs.ListedCode.{ListedFunction, ListedModule}

-- a form, and those that follow it
pub record Taken : Type 0 where
  pub line : ℕ
  pub tree : Tree
  pub rest : Forms

-- a form that must be there; where it is missing, the fault is that of the line in which the text ends
abbrev pub taken : ℕ → Forms → Result Taken Fault
taken last ends = Err (faults.BadForm last)
taken last (broken fault) = Err fault
taken last (form line t rest) = Ok (record { line = line; tree = t; rest = rest })

-- a form, and those from a place on
abbrev pub taken_at : Tree → Place → Taken
taken_at t q = record { line = (span_of t).line; tree = t; rest = forms q }

-- an item goes to the last function
abbrev pub with_item : ℕ → Item → List ListedFunction → List ListedFunction
with_item line item [] = []
with_item line item (f ∷ []) = record f { items = f.items ++ record { line = line; item = item } ∷ [] } ∷ []
with_item line item (f ∷ g ∷ rest) = f ∷ with_item line item (g ∷ rest)

abbrev pub with_optional : ℕ → Option Item → List ListedFunction → List ListedFunction
with_optional line (Some item) done = with_item line item done
with_optional line None done = done

abbrev pub begun_function : List ListedFunction → List Tree → Reading (List ListedFunction)
begun_function done parts = stored (function_form parts) >>= λ f. give (done ++ f ∷ [])

abbrev pub with_form_item : ℕ → List ListedFunction → Shape → Reading (List ListedFunction)
with_form_item line done t = stored_if is_some (item t) >>= λ i. give (with_optional line i done)

-- there are no items before the first function
abbrev pub with_form : ℕ → List ListedFunction → Shape → Reading (List ListedFunction)
with_form line [] t = bad_form
with_form line done t = with_form_item line done t

abbrev pub part_of : ℕ → List ListedFunction → List ℕ → List Tree → FormWord → Reading (List ListedFunction)
part_of line done text parts words.Function = begun_function done parts
part_of line done text parts _ = with_form line done (tagged text parts)

abbrev pub form_part : ℕ → List ListedFunction → Shape → Reading (List ListedFunction)
form_part line done (tagged text parts) = part_of line done text parts (form_word text)
form_part line done (bare text) = with_form line done (bare text)
form_part line done other = with_form line done other

-- what a form adds to the functions before it
abbrev pub part : ℕ → List ListedFunction → Shape → Reading (List ListedFunction)
part line done t = on_line line (form_part line done t)

-- what the forms add to them
abbrev pub functions : List ListedFunction → Forms → Reading (List ListedFunction)
functions done ends = give done
functions done (broken fault) = refuse fault
functions done (form line t rest) = part line done (shape t) >>= λ done. functions done rest

abbrev pub and_so : {A B : Type 0} → Result A Fault → (A → Result B Fault) → Result B Fault
and_so (Ok x) next = next x
and_so (Err fault) next = Err fault

-- what stands behind `{labels,N}`
abbrev pub behind_labels : Taken → Result Forms Fault
behind_labels f = if is_labels (shape f.tree) then Ok f.rest else Err (faults.BadForm f.line)

-- the same where `{attributes,T}` may stand before it
abbrev pub behind_attributes : ℕ → Taken → Result Forms Fault
behind_attributes last f = if is_attributes (shape f.tree) then and_so (taken last f.rest) behind_labels else behind_labels f

-- what stands behind the head, of which the first two forms are taken
abbrev pub behind_head : ℕ → Forms → Result Forms Fault
behind_head last rest = and_so (taken last rest) (behind_attributes last)

abbrev pub functions_behind : ℕ → Forms → Reading (List ListedFunction)
functions_behind last rest = from_result (behind_head last rest) >>= functions []

abbrev pub listed : AtomId → List Export → Forms → Reading ListedModule
listed name exports rest = functions [] rest >>= λ fs. give (record { name = name; exports = exports; functions = fs })

abbrev pub behind_exports : ℕ → AtomId → Forms → List Export → Reading ListedModule
behind_exports last name rest exports = from_result (behind_head last rest) >>= listed name exports

abbrev pub exported : ℕ → AtomId → Taken → Reading ListedModule
exported last name f = on_line f.line (exports_form (shape f.tree)) >>= behind_exports last name f.rest

abbrev pub behind_name : ℕ → Forms → AtomId → Reading ListedModule
behind_name last rest name = from_result (taken last rest) >>= exported last name

abbrev pub listing_from : ℕ → Taken → Reading ListedModule
listing_from last f = on_line f.line (module_form (shape f.tree)) >>= behind_name last f.rest

-- the listing that these forms are, in a text that ends in that line
abbrev pub listing : ℕ → Forms → Reading ListedModule
listing last all = from_result (taken last all) >>= listing_from last

-- the first form is `{module,M}`
abbrev pub IsNamed : Forms → Type 0
IsNamed (form line t rest) = IsSome (module_name (shape t))
IsNamed all = ⊥
