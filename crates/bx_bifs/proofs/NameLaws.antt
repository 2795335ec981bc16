-- The laws of the look-ups by name.
use Rattle.bx_bifs.proofs.Words.{◌≡◌, ◌↔◌, ℕ, suc, Bool, true, false, ◌==◌, ◌&&◌, inl, inr, List, [], ◌∷◌, Option, Some, None, option_map, option_and_then}
use Rattle.bx_bifs.proofs.Words.{slice_get, bytes_eq, codes, refl, sym, ap, ◌∙◌, arith, if◌then◌else◌, find, Contains, option_map_or, and_parts, cases_Bool}
use Rattle.bx_bifs.proofs.Words.{Decides-eqb, bytes_eq-Decides, AtomId, Bif, guard_bif, guard_bif_with, NativeRow, native_rows, native_named, native_of}
use Rattle.bx_bifs.proofs.Words.{guard_of}
use Rattle.bx_ops.proofs.GuardBifLemmas.{guard_bif_finds}
use Rattle.bx_bifs.specs.declared.natives.Native.{Native}

pub guards_found : (texts : List (List ℕ)) (name : AtomId) (arity : ℕ) (bif : Bif) → (guard_of texts name arity ≡ Some bif)
    ↔ ((slice_get texts name.0 ≡ Some (guard_bif bif).name) × ((guard_bif bif).arity ≡ arity))
unfolding guard_of
guards_found texts name arity bif = by (slice_get texts name.0)
  where
    by : (o : Option (List ℕ)) → (option_and_then (λ text. guard_bif_with text arity) o ≡ Some bif) ↔ ((o ≡ Some (guard_bif bif).name) × ((guard_bif bif).arity ≡ arity))
    by (Some text) =
        let found = guard_bif_finds text arity bif in
        ((λ e. (ap Some (sym (found.0 e).0), (found.0 e).1)), (λ h. let same : (guard_bif bif).name ≡ text = cc (h.0) in found.1 (same, h.1)))
    by None = ((λ e. cc), (λ h. let no = h.0 in cc))

-- what is found is in the list and passes the test
find_finds : {X : Type 0} (test : X → Bool) (xs : List X) (x : X) → find test xs ≡ Some x → Contains xs x × (test x ≡ true)
find_finds test [] x e = cc
find_finds test (y ∷ ys) x e = elim (cases_Bool (test y)) [
  | inl passes ↦ let same : y ≡ x = cc (rw passes at e) in ((0, omega arith, same), rw same at passes)
  | inr fails ↦ let later = find_finds test ys x (rw fails at e) in ((suc later.0.0, omega (arith, later.0.1), later.0.2), later.1)
]

pub rows_alone : (name : List ℕ) (arity : ℕ) (native : Native) → native_named name arity ≡ Some native
    → (r : NativeRow) × Contains native_rows r × (r.name ≡ name) × (r.arity ≡ arity) × (r.native ≡ native)
unfolding native_named
rows_alone name arity native = by (find test native_rows) refl
  where
    test : NativeRow → Bool
    test r = (r.arity == arity) && bytes_eq r.name name

    by : (o : Option NativeRow) → find test native_rows ≡ o → option_map (λ (r : NativeRow). r.native) o ≡ Some native
        → (r : NativeRow) × Contains native_rows r × (r.name ≡ name) × (r.arity ≡ arity) × (r.native ≡ native)
    by (Some r) found is =
        let finds = find_finds test native_rows r found in
        let passes = and_parts (r.arity == arity) (bytes_eq r.name name) finds.1 in
        let same : r.native ≡ native = cc in
        (r, finds.0, (bytes_eq-Decides r.name name).0 passes.1, (Decides-eqb r.arity arity).0 passes.0, same)
    by None found is = cc

pub natives_by_text : (texts : List (List ℕ)) (home function : AtomId) (arity : ℕ) (native : Native) → (native_of texts home function arity ≡ Some native)
    ↔ ((slice_get texts home.0 ≡ Some (codes "erlang")) × ((name : List ℕ) × (slice_get texts function.0 ≡ Some name) × (native_named name arity ≡ Some native)))
unfolding native_of
natives_by_text texts home function arity native = by (slice_get texts home.0) (slice_get texts function.0)
  where
    by : (o p : Option (List ℕ)) → ((if option_map_or (bytes_eq (codes "erlang")) o false then option_and_then (λ name. native_named name arity) p else None) ≡ Some native)
        ↔ ((o ≡ Some (codes "erlang")) × ((name : List ℕ) × (p ≡ Some name) × (native_named name arity ≡ Some native)))
    by None p = ((λ e. cc), (λ h. let no = h.0 in cc))
    by (Some text) p = at (bytes_eq (codes "erlang") text) refl p
      where
        at : (b : Bool) → bytes_eq (codes "erlang") text ≡ b → (q : Option (List ℕ)) → ((if b then option_and_then (λ name. native_named name arity) q else None) ≡ Some native)
            ↔ ((Some text ≡ Some (codes "erlang")) × ((name : List ℕ) × (q ≡ Some name) × (native_named name arity ≡ Some native)))
        at true same (Some name) = ((λ e. (ap Some (sym ((bytes_eq-Decides (codes "erlang") text).0 same)), (name, refl, e))), (λ h. let is : name ≡ h.1.0 = cc (h.1.1) in ap (λ t. native_named t arity) is ∙ h.1.2))
        at true same None = ((λ e. cc), (λ h. let no = h.1.1 in cc))
        at false other q = (
          (λ e. cc),
          (λ h.
              let is : codes "erlang" ≡ text = cc (h.0) in
              let yes = (bytes_eq-Decides (codes "erlang") text).1 is in
              cc),
        )
