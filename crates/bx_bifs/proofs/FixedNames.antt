-- The tables by the numbers of the fixed atoms are the tables by texts.
use Rattle.bx_bifs.proofs.Words.{◌≡◌, ◌≢◌, ℕ, Bool, true, false, ◌==◌, ◌&&◌, cond, List, [], ◌∷◌, Option, None, Some, slice_get, bytes_eq, codes, refl, sym, ap}
use Rattle.bx_bifs.proofs.Words.{◌∙◌, option_map, option_and_then, if◌then◌else◌, find, option_map_or, and_right, ne_eqb, Decides-eqb, same_from_decides}
use Rattle.bx_bifs.proofs.Words.{bytes_eq-Decides, AtomId, Bif, guard_bif, every_guard_bif, guard_bif_with, NativeRow, native_rows, native_named, native_of}
use Rattle.bx_bifs.proofs.Words.{native_numbered, bif_atom, guard_of, guard_numbered}
use Rattle.bx_terms.specs.declared.fixed.TheConstants.{ERLANG}
use Rattle.bx_terms.specs.AtomTable.{IsAtomTable}
use Rattle.bx_terms.specs.FixedAtoms.{Spells, fixed_atoms}
use Rattle.bx_terms.proofs.AtomLaws.{fixed_in, distinct}
use Rattle.bx_ops.specs.declared.guard_bif.Bif.TheVariants.{SelfPid}
use Rattle.bx_bifs.specs.Names.{has_text}

-- each row's atom spells its name
abbrev pub AllSpelled : {Y : Type 0} → (Y → AtomId) → (Y → List ℕ) → List Y → Type 0
AllSpelled atom name [] = Unit {0}
AllSpelled atom name (y ∷ ys) = Spells (atom y) (name y) × AllSpelled atom name ys

module _ (texts : List (List ℕ)) (table : IsAtomTable texts) where
  there : (atom : AtomId) (name : List ℕ) → Spells atom name → slice_get texts atom.0 ≡ Some name
  there atom name spells = (fixed_in texts atom name table spells).0

  -- a fixed atom is the one looked at exactly where its name is the text of that one
  pub same_test : (atom : AtomId) (name : List ℕ) → Spells atom name → (a : ℕ) (text : List ℕ) → slice_get texts a ≡ Some text → (atom.0 == a) ≡ bytes_eq name text
  same_test atom name spells a text at = same_from_decides (atom.0 == a) (bytes_eq name text) (Decides-eqb atom.0 a) (
    λ same. distinct texts table.distinct name atom.0 a (there atom name spells) (at ∙ ap Some (sym ((bytes_eq-Decides name text).0 same))),
    λ same. (bytes_eq-Decides name text).1 (let first = there atom name spells in cc),
  )

  pub no_test : (atom : AtomId) (name : List ℕ) → Spells atom name → (a : ℕ) → slice_get texts a ≡ None → (atom.0 == a) ≡ false
  no_test atom name spells a at = ne_eqb atom.0 a (λ same. let first = there atom name spells in cc)

  -- an atom has a fixed atom's text exactly where it is that atom
  pub named : (atom : AtomId) (name : List ℕ) → Spells atom name → (home : AtomId) → has_text texts home name ≡ (atom.0 == home.0)
  named atom name spells home = by (slice_get texts home.0) refl
    where
      by : (o : Option (List ℕ)) → slice_get texts home.0 ≡ o → option_map_or (bytes_eq name) o false ≡ (atom.0 == home.0)
      by (Some text) at = sym (same_test atom name spells home.0 text at)
      by None at = sym (no_test atom name spells home.0 at)

  module _ {Y : Type 0} (atom : Y → AtomId) (name : Y → List ℕ) (arity : Y → ℕ) where
    find_same : (n a : ℕ) (text : List ℕ) → slice_get texts a ≡ Some text → (ys : List Y) → AllSpelled atom name ys
        → find (λ y. (arity y == n) && ((atom y).0 == a)) ys ≡ find (λ y. (arity y == n) && bytes_eq (name y) text) ys
    find_same n a text at [] spelled = refl
    find_same n a text at (y ∷ ys) spelled =
        rw (same_test (atom y) (name y) spelled.0 a text at, find_same n a text at ys spelled.1)

    find_none : (n a : ℕ) → slice_get texts a ≡ None → (ys : List Y) → AllSpelled atom name ys → find (λ y. (arity y == n) && ((atom y).0 == a)) ys ≡ None
    find_none n a at [] spelled = refl
    find_none n a at (y ∷ ys) spelled =
        rw (no_test (atom y) (name y) spelled.0 a at, and_right (arity y == n) false refl, find_none n a at ys spelled.1)

    pub find_by_text : (n a : ℕ) (ys : List Y) → AllSpelled atom name ys
        → find (λ y. (arity y == n) && ((atom y).0 == a)) ys ≡ option_and_then (λ text. find (λ y. (arity y == n) && bytes_eq (name y) text) ys) (slice_get texts a)
    find_by_text n a ys spelled = by (slice_get texts a) refl
      where
        by : (o : Option (List ℕ)) → slice_get texts a ≡ o
            → find (λ y. (arity y == n) && ((atom y).0 == a)) ys ≡ option_and_then (λ text. find (λ y. (arity y == n) && bytes_eq (name y) text) ys) o
        by (Some text) at = find_same n a text at ys spelled
        by None at = find_none n a at ys spelled

-- each guard BIF's atom spells its name
pub bif_spelled : (bif : Bif) → Spells (bif_atom bif) (guard_bif bif).name
unfolding fixed_atoms
bif_spelled SelfPid = refl
bif_spelled _ = refl

all_bifs_spelled : (bifs : List Bif) → AllSpelled bif_atom (λ bif. (guard_bif bif).name) bifs
all_bifs_spelled [] = tt
all_bifs_spelled (bif ∷ bifs) = (bif_spelled bif, all_bifs_spelled bifs)

pub guard_by_number : (texts : List (List ℕ)) (name : AtomId) (arity : ℕ) → IsAtomTable texts → guard_numbered name arity ≡ guard_of texts name arity
unfolding guard_numbered guard_of guard_bif_with
guard_by_number texts name arity table =
    find_by_text texts table bif_atom (λ bif. (guard_bif bif).name) (λ bif. (guard_bif bif).arity) arity name.0 every_guard_bif (all_bifs_spelled every_guard_bif)

-- each native's atom spells its name
natives_spelled : AllSpelled (λ (r : NativeRow). r.atom) (λ r. r.name) native_rows
unfolding fixed_atoms
natives_spelled = (refl, (refl, (refl, (refl, (refl, (refl, (refl, (refl, (refl, (refl, (refl, (refl, (refl, (refl, (refl, (refl, tt))))))))))))))))

map_then : {A B C : Type 0} (f : B → C) (g : A → Option B) (o : Option A) → option_map f (option_and_then g o) ≡ option_and_then (λ x. option_map f (g x)) o
map_then f g None = refl
map_then f g (Some x) = refl

pub native_by_number : (texts : List (List ℕ)) (home function : AtomId) (arity : ℕ) → IsAtomTable texts → home.0 ≡ ERLANG.0 → native_numbered function arity ≡ native_of texts home function arity
unfolding native_numbered native_of native_named fixed_atoms
native_by_number texts home function arity table is =
    let here : has_text texts home (codes "erlang") ≡ true = named texts table ERLANG (codes "erlang") refl home ∙ (Decides-eqb ERLANG.0 home.0).1 (sym is) in
    let found = find_by_text texts table (λ (r : NativeRow). r.atom) (λ r. r.name) (λ r. r.arity) arity function.0 native_rows natives_spelled in
    rw here (ap (option_map (λ (r : NativeRow). r.native)) found ∙ map_then (λ (r : NativeRow). r.native) _ (slice_get texts function.0))

pub native_elsewhere : (texts : List (List ℕ)) (home function : AtomId) (arity : ℕ) → IsAtomTable texts → home.0 ≢ ERLANG.0 → None ≡ native_of texts home function arity
unfolding native_of fixed_atoms
native_elsewhere texts home function arity table is =
    rw (named texts table ERLANG (codes "erlang") refl home, ne_eqb ERLANG.0 home.0 (λ same. is (sym same)))
