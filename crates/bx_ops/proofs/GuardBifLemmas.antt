-- The look-up of guard BIFs is the table read backwards.
use Rattle.std.proofs.Common.{◌≡◌, ◌↔◌, ℕ, List, Bool, ◌==◌, ◌&&◌, Some, bytes_eq, refl}
use Rattle.std.proofs.lemmas.Bool.{and_parts}
use Rattle.std.proofs.lemmas.Bool.Decides.{Decides-eqb}
use Rattle.std.proofs.lemmas.Slice.Eq.{bytes_eq-Decides}
use Rattle.bx_ops.specs.declared.guard_bif.Bif.{Bif, TheVariants.SelfPid}
use Rattle.bx_ops.specs.GuardBifs.{guard_bif, every_guard_bif, guard_bif_with}
use Rattle.bx_ops.proofs.Found.{find_passes}

-- a guard BIF has a name and an arity
abbrev pub Has : List ℕ → ℕ → Bif → Type 0
Has name arity bif = ((guard_bif bif).name ≡ name) × ((guard_bif bif).arity ≡ arity)

pub guard_bif_with-both : (bif : Bif) → guard_bif_with (guard_bif bif).name (guard_bif bif).arity ≡ Some bif
unfolding guard_bif_with
guard_bif_with-both SelfPid = refl
guard_bif_with-both _ = refl

pub guard_bif_finds : (name : List ℕ) (arity : ℕ) (bif : Bif) → (guard_bif_with name arity ≡ Some bif) ↔ Has name arity bif
unfolding guard_bif_with
guard_bif_finds name arity bif =
    let test : Bif → Bool = λ b. ((guard_bif b).arity == arity) && bytes_eq (guard_bif b).name name in (
      λ e.
          let passes = and_parts ((guard_bif bif).arity == arity) (bytes_eq (guard_bif bif).name name) (find_passes test every_guard_bif bif e) in
          ((bytes_eq-Decides (guard_bif bif).name name).0 passes.1, (Decides-eqb (guard_bif bif).arity arity).0 passes.0),
      λ e. rw (← e.0, ← e.1) (guard_bif_with-both bif),
    )

pub guard_bifs_distinct : (a b : Bif) → (guard_bif a).name ≡ (guard_bif b).name → (guard_bif a).arity ≡ (guard_bif b).arity → a ≡ b
guard_bifs_distinct a b names arities =
    let found : guard_bif_with (guard_bif b).name (guard_bif b).arity ≡ Some a = (guard_bif_finds (guard_bif b).name (guard_bif b).arity a).1 (names, arities) in
    cc (guard_bif_with-both b)
