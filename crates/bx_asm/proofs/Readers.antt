-- What operands stand for, told by their numbered forms.
use Rattle.std.proofs.Common.{◌≡◌, ℕ, List, [], ◌∷◌, refl, ap, ◌∙◌}
use Rattle.std.specs.Prelude.{Option, Some, None, option_map, slice_get, unwrap_or}
use Rattle.bx_terms.specs.Tree.{Tree}
use Rattle.bx_listing.specs.declared.items.Import.{Import}
use Rattle.bx_listing.specs.declared.items.Operand.{Operand as Spelt}
use Rattle.bx_listing.specs.declared.items.Operand.TheVariants as spelt
use Rattle.bx_asm.specs.declared.operands.Operand.{Operand}
use Rattle.bx_asm.specs.declared.operands.Operand.TheVariants as numbers
use Rattle.bx_asm.specs.Meaning.{as_source, as_register, as_y, as_label, as_fail, as_place, as_number, as_atom, as_import, as_bif, as_key, list_behind, as_sources, as_registers, as_pairs, y_or_zero, label_or_zero}
use Rattle.bx_asm.specs.Source as source
use Rattle.bx_asm.specs.Members.{literal_or_nil, source_in, sources_in, y_of, registers_in, key_of, label_in, with_pair, pairs_in}
use Rattle.bx_asm.specs.Operands.{Tables, operand_of, row_of}

-- what a table has, or does not have, under a number
named : {A B : Type 0} (f : Spelt → B) (c : A → Spelt) (o : Option A) → ((a : A) → f (c a) ≡ f spelt.Nil) → f (unwrap_or (option_map c o) spelt.Nil) ≡ f spelt.Nil
named f c (Some a) given = given a
named f c None given = refl

-- an operand as it is spelled, where it is in no table
abbrev pub plain : Operand → Spelt
plain (numbers.Literal k) = spelt.Nil
plain (numbers.Import k) = spelt.Nil
plain o = operand_of (record { literals = []; imports = [] }) o

by_table : {B : Type 0} (f : Spelt → B) → ((x : Tree) → f (spelt.Literal x) ≡ f spelt.Nil) → ((i : Import) → f (spelt.Import i) ≡ f spelt.Nil) → (t : Tables) (o : Operand) → f (operand_of t o) ≡ f (plain o)
by_table f literal import t (numbers.Literal k) = named f spelt.Literal (slice_get t.literals k) literal
by_table f literal import t (numbers.Import k) = named f spelt.Import (slice_get t.imports k) import
by_table f literal import t _ = refl

pub register_is : (t : Tables) (o : Operand) → as_register (operand_of t o) ≡ as_register (plain o)
register_is t o = by_table as_register (λ x. refl) (λ i. refl) t o

pub y_is : (t : Tables) (o : Operand) → as_y (operand_of t o) ≡ as_y (plain o)
y_is t o = by_table as_y (λ x. refl) (λ i. refl) t o

pub label_is : (t : Tables) (o : Operand) → as_label (operand_of t o) ≡ as_label (plain o)
label_is t o = by_table as_label (λ x. refl) (λ i. refl) t o

pub fail_is : (t : Tables) (o : Operand) → as_fail (operand_of t o) ≡ as_fail (plain o)
fail_is t o = by_table as_fail (λ x. refl) (λ i. refl) t o

pub place_is : (t : Tables) (o : Operand) → as_place (operand_of t o) ≡ as_place (plain o)
place_is t o = by_table as_place (λ x. refl) (λ i. refl) t o

pub number_is : (t : Tables) (o : Operand) → as_number (operand_of t o) ≡ as_number (plain o)
number_is t o = by_table as_number (λ x. refl) (λ i. refl) t o

pub atom_is : (t : Tables) (o : Operand) → as_atom (operand_of t o) ≡ as_atom (plain o)
atom_is t o = by_table as_atom (λ x. refl) (λ i. refl) t o

pub bif_is : (t : Tables) (o : Operand) → as_bif (operand_of t o) ≡ as_bif (plain o)
bif_is t o = by_table as_bif (λ x. refl) (λ i. refl) t o

abbrev pub import_of : Tables → Operand → Option Import
import_of t (numbers.Import k) = slice_get t.imports k
import_of t _ = None

import_named : (o : Option Import) → as_import (unwrap_or (option_map spelt.Import o) spelt.Nil) ≡ o
import_named (Some i) = refl
import_named None = refl

pub import_is : (t : Tables) (o : Operand) → as_import (operand_of t o) ≡ import_of t o
import_is t (numbers.Literal k) = named as_import spelt.Literal (slice_get t.literals k) (λ x. refl)
import_is t (numbers.Import k) = import_named (slice_get t.imports k)
import_is t _ = refl

-- sources
literal_named : (o : Option Tree) → as_source (unwrap_or (option_map spelt.Literal o) spelt.Nil) ≡ literal_or_nil o
literal_named (Some t) = refl
literal_named None = refl

no_source : (o : Option Import) → as_source (unwrap_or (option_map spelt.Import o) spelt.Nil) ≡ source.nil
no_source (Some i) = refl
no_source None = refl

pub source_is : (t : Tables) (o : Operand) → as_source (operand_of t o) ≡ source_in t.literals o
source_is t (numbers.Literal k) = literal_named (slice_get t.literals k)
source_is t (numbers.Import k) = no_source (slice_get t.imports k)
source_is t _ = refl

-- the members of lists
pub list_is : (t : Tables) (o : Operand) (rest : List Spelt) → list_behind (operand_of t o) rest ≡ list_behind (plain o) rest
list_is t o rest = by_table (λ p. list_behind p rest) (λ x. refl) (λ i. refl) t o

pub sources_are : (t : Tables) (os : List Operand) → as_sources (row_of t os) ≡ sources_in t.literals os
sources_are t [] = refl
sources_are t (o ∷ os) = let here = source_is t o in let rest = sources_are t os in λ k. here k ∷ rest k

y_same : (o : Operand) → y_or_zero (as_y (plain o)) ≡ y_of o
y_same (numbers.Y n) = refl
y_same _ = refl

pub registers_are : (t : Tables) (os : List Operand) → as_registers (row_of t os) ≡ registers_in os
registers_are t [] = refl
registers_are t (o ∷ os) = let here = ap y_or_zero (y_is t o) ∙ y_same o in let rest = registers_are t os in λ k. here k ∷ rest k

key_is : (t : Tables) (o : Operand) → as_key (operand_of t o) ≡ key_of o
key_is t (numbers.Literal k) = named as_key spelt.Literal (slice_get t.literals k) (λ x. refl)
key_is t (numbers.Import k) = named as_key spelt.Import (slice_get t.imports k) (λ x. refl)
key_is t _ = refl

label_same : (o : Operand) → label_or_zero (as_label (plain o)) ≡ label_in o
label_same (numbers.Label n) = refl
label_same _ = refl

pub pairs_are : (t : Tables) (os : List Operand) → as_pairs (row_of t os) ≡ pairs_in os
pairs_are t [] = refl
pairs_are t (o ∷ []) = refl
pairs_are t (value ∷ target ∷ os) =
    let key = key_is t value in
    let label = ap label_or_zero (label_is t target) ∙ label_same target in
    let rest = pairs_are t os in
    λ k. with_pair (key k) (label k) (rest k)

-- what an operand spells
pub literal_within : (t : Tables) (k : ℕ) (x : Tree) → slice_get t.literals k ≡ Some x → operand_of t (numbers.Literal k) ≡ spelt.Literal x
literal_within t k x e = ap (λ (o : Option Tree). unwrap_or (option_map spelt.Literal o) spelt.Nil) e

pub literal_past : (t : Tables) (k : ℕ) → slice_get t.literals k ≡ None → operand_of t (numbers.Literal k) ≡ spelt.Nil
literal_past t k e = ap (λ (o : Option Tree). unwrap_or (option_map spelt.Literal o) spelt.Nil) e

pub callee_is : (t : Tables) (k : ℕ) (o : Option Import) → slice_get t.imports k ≡ o → operand_of t (numbers.Import k) ≡ unwrap_or (option_map spelt.Import o) spelt.Nil
callee_is t k o e = ap (λ (o : Option Import). unwrap_or (option_map spelt.Import o) spelt.Nil) e
