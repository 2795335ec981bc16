-- What is written of a code form is read as the same code form.
use Rattle.std.proofs.Common.{◌≡◌, ℕ, List, [], ◌∷◌, ◌++◌, map, sym, ap, ◌∙◌, subst, codes, decimal, append_assoc}
use Rattle.std.specs.List.{flat_map}
use Rattle.bx_terms.specs.AtomTable.{IsAtomTable}
use Rattle.bx_text.specs.Place.{place_in}
use Rattle.bx_text.specs.Tree.{Tree}
use Rattle.bx_text_laws.proofs.Frame.{on}
use Rattle.bx_listing.specs.Reading.{Table}
use Rattle.bx_listing.specs.Forms.{Forms, forms}
use Rattle.bx_listing.specs.FormsOf.{AreForms}
use Rattle.bx_listing.specs.Listed.{IsModule, IsExports, IsAttributes, IsListing, with_attributes}
use Rattle.bx_listing.specs.ListedCode.{ListedModule}
use Rattle.bx_listing.specs.Code.{Code, code}
use Rattle.bx_listing.specs.Writing.{name_text, function_text, offer_text, offers_text, greatest_label, label_count, code_text}
use Rattle.bx_listing.proofs.FormsOf.{forms_are_those}
use Rattle.bx_listing.proofs.Listed.{listings_are}
use Rattle.bx_listing_laws.specs.Writable.{IsWritable}
use Rattle.bx_listing_laws.specs.ReadBack.{IsReadBack}
use Rattle.bx_listing_laws.proofs.Trees.{between}
use Rattle.bx_listing_laws.proofs.WrittenForms.{Below, form_ahead, Wants, wanted_ahead, wanted_first, functions_below, module_printed, exports_printed, offers_are, attributes_printed, labels_printed, count_low}

-- forms that are a listing with this code form
abbrev IsCode : Table → Code → Forms → Type 0
IsCode names c fs = (m : ListedModule) × IsListing names fs m names × (code m ≡ c)

text_joined : (m e l fs : List ℕ)
    → (m ++ codes "}") ++ 46 ∷ 10 ∷ (((e ++ 93 ∷ []) ++ codes "}") ++ 46 ∷ 10 ∷ (codes "{attributes,[]}" ++ 46 ∷ 10 ∷ ((l ++ codes "}") ++ 46 ∷ 10 ∷ fs)))
    ≡ ((((m ++ codes "}.\n") ++ (e ++ codes "]}.\n")) ++ codes "{attributes,[]}.\n") ++ (l ++ codes "}.\n")) ++ fs
text_joined m e l fs = simp append_assoc

module _ (names : Table) (c : Code) (table : IsAtomTable names) (h : IsWritable names c) where
  abbrev Module : Tree → Type 0
  Module m = IsModule names m c.name names

  abbrev Exports : Tree → Type 0
  Exports e = IsExports names e c.exports names

  m_text : List ℕ
  m_text = codes "{module," ++ name_text names c.name ++ codes "}"

  l_text : List ℕ
  l_text = codes "{labels," ++ decimal (label_count (greatest_label c.functions)) ++ codes "}"

  f_text : List ℕ
  f_text = flat_map (function_text names) c.functions

  text_is : m_text ++ 46 ∷ 10 ∷ ((codes "{exports," ++ (91 ∷ between (map (offer_text names) c.exports) (93 ∷ []) ++ codes "}")) ++ 46 ∷ 10 ∷ (codes "{attributes,[]}" ++ 46 ∷ 10 ∷ (l_text ++ 46 ∷ 10 ∷ f_text)))
      ≡ code_text names c
  unfolding m_text l_text f_text
  text_is =
      ap (λ w. m_text ++ 46 ∷ 10 ∷ ((codes "{exports,[" ++ (w ++ codes "}")) ++ 46 ∷ 10 ∷ (codes "{attributes,[]}" ++ 46 ∷ 10 ∷ (l_text ++ 46 ∷ 10 ∷ f_text)))) (offers_are names c.exports (93 ∷ []))
      ∙ text_joined (codes "{module," ++ name_text names c.name) (codes "{exports,[" ++ offers_text names c.exports) (codes "{labels," ++ decimal (label_count (greatest_label c.functions))) f_text

  labels_below : Below (Wants IsAttributes (Wants Exports (Wants Module (IsCode names c)))) (l_text ++ 46 ∷ 10 ∷ f_text)
  unfolding l_text f_text
  labels_below =
      form_ahead (labels_printed (label_count (greatest_label c.functions)) (count_low names c.functions h.2)) (functions_below names c.functions table h.2) (λ k l fs labels x.
      λ n a attributes j e exports i m is.
      (record { name = c.name; exports = c.exports; functions = x.0 }, with_attributes is exports attributes labels x.1, ap (λ fs. record { name = c.name; exports = c.exports; functions = fs }) x.2))

  written_forms : (fs : Forms) × AreForms (on (code_text names c) 0 1) fs × IsCode names c fs
  unfolding m_text
  written_forms =
      subst (λ text. (fs : Forms) × AreForms (on text 0 1) fs × IsCode names c fs) text_is
      (wanted_first {Is = Module} {Are = IsCode names c} (module_printed names c.name table h.0)
      (wanted_ahead {Is = Exports} {Are = Wants Module (IsCode names c)} (exports_printed names c.exports table h.1)
      (wanted_ahead {Is = IsAttributes} {Are = Wants Exports (Wants Module (IsCode names c))} attributes_printed labels_below)))

  written_code : IsReadBack names c
  written_code =
      let (fs, are, (m, is, same)) = written_forms in
      let here : forms (place_in (code_text names c) 0) ≡ fs = (forms_are_those (place_in (code_text names c) 0) fs).1 are in
      (m, (listings_are (code_text names c) m names names).1 (subst (λ fs. IsListing names fs m names) (sym here) is), same)

pub written_is_read_back : (names : Table) (c : Code) → IsAtomTable names → IsWritable names c → IsReadBack names c
written_is_read_back names c table h = written_code names c table h
