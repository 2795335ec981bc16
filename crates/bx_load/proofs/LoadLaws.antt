-- Which modules are loaded.
use Rattle.std.proofs.Common.{◌≡◌, ℕ, zero, suc, ◌<◌, List, [], ◌∷◌, Bool, true, false, cond, not, ◌||◌, length, refl, ap, sym, ◌∙◌, arith}
use Rattle.std.specs.Prelude.{Some, None, IsSome, slice_get, nat_eq, nat_lt}
use Rattle.std.specs.List.{list_any}
use Rattle.std.proofs.lemmas.Bool.Decides.{nat_tests}
use Rattle.bx_terms.specs.declared.faults.Fault.TheVariants.{TooManyModules, ModuleTwice, ExportMissing}
use Rattle.bx_listing.specs.declared.code_form.Export.{Export}
use Rattle.bx_listing.specs.Code.{Code}
use Rattle.bx_load.specs.Image.{is_atom, is_function, entry_of}
use Rattle.bx_load.specs.Loading.{has_twice, is_missing, lacks_export, load_fault}
use Rattle.bx_load.specs.Standing.{AreLoaded}
use Rattle.bx_load.proofs.ExportSteps.{some_entry}

none_either : (a b : Bool) → (a || b) ≡ false → (a ≡ false) × (b ≡ false)
none_either true b e = absurd (cc)
none_either false b e = (refl, e)

none_passes : {A : Type 0} (p : A → Bool) (xs : List A) (k : ℕ) (x : A) → list_any p xs ≡ false → slice_get xs k ≡ Some x → p x ≡ false
none_passes p [] k x none here = absurd (cc)
none_passes p (y ∷ ys) zero x none here =
    let same : y ≡ x = cc in
    ap p (sym same) ∙ (none_either (p y) (list_any p ys) none).0
none_passes p (y ∷ ys) (suc k) x none here = none_passes p ys k x (none_either (p y) (list_any p ys) none).1 here

distinct : (ms : List Code) → has_twice ms ≡ false → (i j : ℕ) (c d : Code) → i < j → slice_get ms i ≡ Some c → slice_get ms j ≡ Some d → is_atom c.name d.name ≡ false
distinct [] none i j c d lt at_i at_j = absurd (cc)
distinct (m ∷ ms) none i zero c d lt at_i at_j = absurd (omega arith)
distinct (m ∷ ms) none zero (suc j) c d lt at_i at_j =
    let same : m ≡ c = cc in
    ap (λ (b : Code). is_atom b.name d.name) (sym same) ∙ none_passes (λ b. is_atom m.name b.name) ms j d (none_either (list_any (λ b. is_atom m.name b.name) ms) (has_twice ms) none).0 at_j
distinct (m ∷ ms) none (suc i) (suc j) c d lt at_i at_j =
    distinct ms (none_either (list_any (λ b. is_atom m.name b.name) ms) (has_twice ms) none).1 i j c d (omega arith) at_i at_j

is_there : (b : Bool) → not b ≡ false → b ≡ true
is_there true e = refl
is_there false e = absurd (cc)

exported : (ms : List Code) → list_any lacks_export ms ≡ false → (i k : ℕ) (c : Code) (e : Export) → slice_get ms i ≡ Some c → slice_get c.exports k ≡ Some e → IsSome (entry_of e.function e.arity c.functions)
exported ms none i k c e code export =
    some_entry e.function e.arity c.functions
    ∙ is_there (list_any (is_function e.function e.arity) c.functions) (none_passes (is_missing c.functions) c.exports k e (none_passes lacks_export ms i c none code) export)

no_fault : (a b c : Bool) → cond a (Some TooManyModules) (cond b (Some ModuleTwice) (cond c (Some ExportMissing) None)) ≡ None → (a ≡ false) × ((b ≡ false) × (c ≡ false))
no_fault true b c e = absurd (cc)
no_fault false true c e = absurd (cc)
no_fault false false true e = absurd (cc)
no_fault false false false e = (refl, (refl, refl))

pub are_loaded : (ms : List Code) → load_fault ms ≡ None → AreLoaded ms
are_loaded ms e =
    let none = no_fault (nat_lt 64 (length ms)) (has_twice ms) (list_any lacks_export ms) e in
    let within : nat_lt 64 (length ms) ≡ false = none.0 in
    record {
      few = grind (arith, nat_tests);
      distinct = λ i j c d lt at_i at_j same.
          let apart : nat_eq d.name.0 c.name.0 ≡ false = distinct ms none.1.0 i j c d lt at_i at_j in
          grind (arith, nat_tests);
      exported = exported ms none.1.1;
    }
