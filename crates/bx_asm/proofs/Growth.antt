-- Tables that grow while operands are numbered.
use Rattle.std.proofs.Common.{◌≡◌, ℕ, zero, suc, ◌+◌, ◌<◌, List, [], ◌∷◌, ◌++◌, Bool, true, false, length, map, take, drop, get_or, refl, ap, sym, subst, ◌∙◌, arith}
use Rattle.std.specs.Prelude.{Option, Some, None, slice_get, option_map, if◌then◌else◌, nat_eq, ◌&&◌, unwrap_or}
use Rattle.std.specs.List.{list_all}
use Rattle.std.proofs.lemmas.List.{map-append, take_more, drop_more}
use Rattle.std.proofs.lemmas.Bool.Decides.{nat_tests}
use Rattle.std.proofs.lemmas.Bool.{and_parts}
use Rattle.bx_listing.specs.contracts.items.ImportPartialEq.TheImpl as imports
use Rattle.bx_listing.specs.declared.items.Import.{Import}
use Rattle.bx_listing.specs.declared.items.Operand.{Operand as Spelt}
use Rattle.bx_listing.specs.declared.items.Operand.TheVariants as spelt
use Rattle.bx_asm.specs.declared.operands.Operand.{Operand}
use Rattle.bx_asm.specs.declared.operands.Operand.TheVariants as numbers
use Rattle.bx_asm.specs.Drafts.{Extends, ExtendsTables, SpellsRow}
use Rattle.bx_asm.specs.Limits.{same_import}
use Rattle.bx_asm.specs.Operands.{Tables, spelled, row_of}

pub extends_same : {A : Type 0} (xs : List A) → Extends xs xs
extends_same xs k x e = e

pub extends_push : {A : Type 0} (xs : List A) (y : A) → Extends xs (xs ++ y ∷ [])
extends_push [] y k x e = absurd (cc)
extends_push (z ∷ xs) y zero x e = e
extends_push (z ∷ xs) y (suc k) x e = extends_push xs y k x e

pub pushed_last : {A : Type 0} (xs : List A) (y : A) → slice_get (xs ++ y ∷ []) (length xs) ≡ Some y
pushed_last [] y = refl
pushed_last (x ∷ xs) y = pushed_last xs y

pub extends_insert : {A : Type 0} (xs ys : List A) (b : Bool) (y : A) → ys ≡ (if b then xs else xs ++ y ∷ []) → Extends xs ys
extends_insert xs ys true y is = subst (Extends xs) (sym is) (extends_same xs)
extends_insert xs ys false y is = subst (Extends xs) (sym is) (extends_push xs y)

same_number : (m n : ℕ) → nat_eq m n ≡ true → m ≡ n
same_number m n e = grind (arith, nat_tests)

import_is : (i k : Import) → same_import i k ≡ true → i ≡ k
import_is i k e =
    let one = and_parts _ _ e in
    let two = and_parts _ _ one.1 in
    let m = same_number _ _ one.0 in
    let f = same_number _ _ two.0 in
    let a = same_number _ _ two.1 in
    λ t. record { «module» = record { 0 = m t }; function = record { 0 = f t }; arity = a t }

-- imports that the set does not tell apart are one
pub stored_import : (keys : List Import) (n : ℕ) (i : Import) → ((k : Import) × ((slice_get keys n ≡ Some k) × ((imports.eq-value).it i k ≡ true))) → slice_get keys n ≡ Some i
stored_import keys n i stored = stored.1.0 ∙ ap Some (sym (import_is i stored.0 stored.1.1))

pub tables_then : (t u v : Tables) → ExtendsTables t u → ExtendsTables u v → ExtendsTables t v
tables_then t u v one two = record {
  literals = λ k x e. two.literals k x (one.literals k x e);
  imports = λ k x e. two.imports k x (one.imports k x e);
}

map_some : {A B : Type 0} (f : A → B) (o p : Option A) (b : B) → ((x : A) → o ≡ Some x → p ≡ Some x) → option_map f o ≡ Some b → option_map f p ≡ Some b
map_some f (Some x) p b more e = ap (option_map f) (more x refl) ∙ e
map_some f None p b more e = absurd (cc)

-- what an operand spells by smaller tables it spells by larger ones
pub operand_more : (t u : Tables) → ExtendsTables t u → (n : Operand) (o : Spelt) → spelled t n ≡ Some o → spelled u n ≡ Some o
operand_more t u more (numbers.Literal k) o e = map_some spelt.Literal _ _ o (more.literals k) e
operand_more t u more (numbers.Import k) o e = map_some spelt.Import _ _ o (more.imports k) e
operand_more t u more _ o e = e

pub row_more : (t u : Tables) → ExtendsTables t u → (ns : List Operand) (os : List Spelt) → SpellsRow t ns os → SpellsRow u ns os
row_more t u more [] [] e = refl
row_more t u more [] (o ∷ os) e = absurd (cc)
row_more t u more (n ∷ ns) [] e = absurd (cc)
row_more t u more (n ∷ ns) (o ∷ os) e =
    let here : spelled t n ≡ Some o = cc in
    let rest : SpellsRow t ns os = cc in
    let head = operand_more t u more n o here in
    let tail = row_more t u more ns os rest in
    λ k. head k ∷ tail k

-- one operand more
pub row_next : (t u : Tables) (ns : List Operand) (row : List Spelt) (i : ℕ) (o : Spelt) (n : Operand) → i < length row → o ≡ get_or row i o → ExtendsTables t u
    → spelled u n ≡ Some o → SpellsRow t ns (take i row) → SpellsRow u (ns ++ n ∷ []) (take (i + 1) row)
row_next t u ns row i o n h at more here so_far =
    let kept = row_more t u more ns (take i row) so_far in
    map-append (spelled u) ns (n ∷ [])
    ∙ (λ k. kept k ++ here k ∷ [])
    ∙ sym (map-append Some (take i row) (o ∷ []))
    ∙ ap (λ x. map Some (take i row ++ x ∷ [])) at
    ∙ ap (map Some) (sym (take_more row i o h))

-- all of what is left, here and behind
pub all_next : {A : Type 0} (p : A → Bool) (xs : List A) (i : ℕ) (x : A) → i < length xs → x ≡ get_or xs i x → list_all p (drop i xs) ≡ true → (p x ≡ true) × (list_all p (drop (i + 1) xs) ≡ true)
all_next p xs i x h at e =
    by (p x) (sym (ap (list_all p) (drop_more xs i x h) ∙ ap (λ y. p y && list_all p (drop (i + 1) xs)) (sym at)) ∙ e)
  where
    by : (b : Bool) → (b && list_all p (drop (i + 1) xs)) ≡ true → (b ≡ true) × (list_all p (drop (i + 1) xs) ≡ true)
    by true e = (refl, e)
    by false e = absurd (cc)

-- a row whose operands are all in the tables
pub row_spelled : (t : Tables) (ns : List Operand) (os : List Spelt) → SpellsRow t ns os → row_of t ns ≡ os
row_spelled t [] [] e = refl
row_spelled t [] (o ∷ os) e = absurd (cc)
row_spelled t (n ∷ ns) [] e = absurd (cc)
row_spelled t (n ∷ ns) (o ∷ os) e =
    let here : spelled t n ≡ Some o = cc in
    let rest : SpellsRow t ns os = cc in
    let head = ap (λ (p : Option Spelt). unwrap_or p spelt.Nil) here in
    let tail = row_spelled t ns os rest in
    λ k. head k ∷ tail k
