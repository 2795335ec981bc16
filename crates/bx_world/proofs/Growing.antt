-- A child that was put last is taken away again where nothing came of it.
use Rattle.bx_world.proofs.Words.{◌≡◌, List, length, map, Bool, true, false, Result, Ok, Err, sym, ap, ◌∙◌, refl, Does, Fault, Memory, Lanes, Turn, Life, Among, childless_at_trap}
use Rattle.std.proofs.lemmas.List.{length-map}
use Rattle.bx_terms.proofs.Outcomes.{ok_pair}
use Rattle.bx_world.specs.declared.turns.Turn.TheVariants as turns
use Rattle.bx_world.specs.Asking.{is_undone}
use Rattle.bx_world.proofs.Applying.{KeptIf, is_trap}
use Rattle.bx_world.proofs.Undoing.{same_end}

-- as many lives are seen as there are
pub as_many : {S : Type 0} (f : S → Life) (slots : List S) → length (map f slots) ≡ length slots
as_many f slots = length-map slots f

module _ (lives : List Life) (l : Lanes) (mid after : List Life × Lanes) where
  pub child_stood : (said : Result Among Fault) (r : Result Turn Fault) (b : Bool) → b ≡ is_undone r → b ≡ false → Does (Unit {0}) mid after r said → Does (Unit {0}) (lives, l) after r (childless_at_trap lives l said)
  child_stood (Ok (w, turns.Trapped kind)) (Ok turn) b is at h = let end = same_end (turns.Trapped kind) turn (ok_pair _ _ _ _ h).1 in absurd (cc)
  child_stood said (Ok other) b is at h = h
  child_stood said (Err fault) b is at h = absurd (cc)

  pub child_undone : (new : List Life × Lanes) (said : Result Among Fault) (r : Result Turn Fault) (b : Bool) → b ≡ is_undone r → b ≡ true → KeptIf is_trap mid said → (after ≡ mid → new ≡ (lives, l))
      → Does (Unit {0}) mid after r said → Does (Unit {0}) (lives, l) new r (childless_at_trap lives l said)
  child_undone new (Ok (w, turns.Trapped kind)) (Ok turn) b is at kept back h =
      let e = ok_pair _ _ _ _ h in let same = back (sym e.0 ∙ kept refl) in λ i. Ok ((sym same i, e.1 i))
  child_undone new (Ok (w, turn)) (Ok other) b is at kept back h = let end = same_end turn other (ok_pair _ _ _ _ h).1 in absurd (cc)
  child_undone new (Err fault) (Ok other) b is at kept back h = absurd (cc)
  child_undone new said (Err Memory) b is at kept back h = (tt, back h.1)
  child_undone new said (Err fault) b is at kept back h = (ap (childless_at_trap lives l) h.0, back h.1)
