-- Registers from arguments, and a written y register.
use Rattle.std.proofs.Common.{◌≡◌, ℕ, zero, suc, ◌≢◌, List, [], ◌∷◌, refl, ap, ◌∙◌}
use Rattle.std.proofs.lemmas.Option.{slice_get_within}
use Rattle.bx_share.proofs.Places.{get_set_same, get_set_other}
use Rattle.std.specs.Prelude.{Option, Some, None, Ok, slice_get, slice_set, option_map}
use Rattle.std.specs.FinMap as map
use Rattle.bx_terms.specs.Tree.{Tree}
use Rattle.bx_cells.specs.declared.values.Value.{Value, TheVariants.Term}
use Rattle.bx_cells.specs.StackFrame.{StackFrame}
use Rattle.bx_cells.specs.Indexed.{cell_at}
use Rattle.bx_cells.specs.Held.{all_held, holding}
use Rattle.bx_cells.specs.TopFrame.{y_cell, with_y, with_cell, there, on_top}
use Rattle.bx_cells.proofs.Cells.{get_indexed}

held_at : (terms : List Tree) (n : ℕ) → cell_at (all_held terms) n ≡ option_map Term (slice_get terms n)
held_at [] n = refl
held_at (t ∷ terms) zero = refl
held_at (t ∷ terms) (suc n) = held_at terms n

pub held_terms : (terms : List Tree) (n : ℕ) → map.get (holding terms) n ≡ option_map Term (slice_get terms n)
held_terms terms n = get_indexed (all_held terms) n ∙ held_at terms n

written : (n : ℕ) (v : Value) (f : StackFrame) (frames after : List StackFrame) (o : Option (Option Value)) → on_top frames (with_cell n v f o) ≡ Ok after → (c : Option Value) × (o ≡ Some c) × (after ≡ record f { cells = slice_set f.cells n (Some v) } ∷ frames)
written n v f frames after None e = cc
written n v f frames after (Some c) e = (c, refl, cc)

pub written_y : (n : ℕ) (v : Value) (frames after : List StackFrame) → with_y n v frames ≡ Ok after → y_cell n after ≡ Ok (Some v)
written_y n v [] after e = cc
written_y n v (f ∷ frames) after e =
    let w = written n v f frames after (slice_get f.cells n) e in rw w.2 (ap there (get_set_same f.cells n (Some v) (slice_get_within f.cells n w.0 w.1)))

pub other_y : (n k : ℕ) (v : Value) (frames after : List StackFrame) → with_y n v frames ≡ Ok after → k ≢ n → y_cell k after ≡ y_cell k frames
other_y n k v [] after e ne = cc
other_y n k v (f ∷ frames) after e ne = let w = written n v f frames after (slice_get f.cells n) e in rw w.2 (ap there (get_set_other f.cells n k (Some v) ne))
