-- What was put is taken back where nothing came of it, and then nothing has changed.
use Rattle.bx_world.proofs.Words.{◌≡◌, ℕ, ◌-◌, ◌∷◌, ◌++◌, [], List, Bool, true, false, arith, length, take, Some, Result, Ok, Err, refl, sym, ap, ◌∙◌, Tree, Does, Fault, Memory, front, Channels, put}
use Rattle.bx_world.proofs.Words.{Signal, Process, Effect, Run, Lanes, Turn, all_posted, closes, Done, whole, done, closing}
use Rattle.std.proofs.lemmas.List.{length-append}
use Rattle.std.proofs.Math.Seq.{take-append_seam}
use Rattle.bx_terms.proofs.Outcomes.{ok_pair}
use Rattle.bx_signals.specs.Channels.{put_to_all}
use Rattle.bx_signals.specs.declared.signal.Signal.TheVariants as signals
use Rattle.bx_proc.specs.declared.parts.Effect.TheVariants as effects
use Rattle.bx_world.specs.declared.turns.Turn.TheVariants as turns
use Rattle.bx_world.specs.Asking.{is_undone}
use Rattle.bx_world.specs.Sharing.{showing}
use Rattle.bx_world.specs.Deeds.{exits}

-- the exit signals of a process that ends
pub all_told : (p : ℕ) (qs : List ℕ) (reason : Tree) (m : Channels Signal) → put_to_all p qs (signals.LinkExit reason) m ≡ all_posted p (exits qs reason) m
all_told p [] reason m = refl
all_told p (q ∷ qs) reason m = all_told p qs reason (put (p, q) (signals.LinkExit reason) m)

-- all of it was done, or nothing
abbrev DoesAll : Process × Lanes → Process × Lanes → Result Turn Fault → Done → Type 0
DoesAll old new r d = Does (Unit {0}) old new r (Ok (whole old d))

pub same_end : (t u : Turn) → t ≡ u → is_undone (Ok t) ≡ is_undone (Ok u)
same_end t u is = ap (λ (v : Turn). is_undone (Ok v)) is

module _ (old mid after : Process × Lanes) where
  -- what was done is done whatever there was before
  pub stood : (d : Done) (r : Result Turn Fault) (b : Bool) → b ≡ is_undone r → b ≡ false → DoesAll mid after r d → DoesAll old after r d
  stood (w, turns.Trapped kind) (Ok turn) b is at h = let end = same_end (turns.Trapped kind) turn (ok_pair _ _ _ _ h).1 in absurd (cc)
  stood (w, turn) (Ok other) b is at h = h
  stood d (Err fault) b is at h = absurd (cc)

  -- where nothing was, and what was done before it is undone, nothing has changed
  pub undone : (new : Process × Lanes) (d : Done) (r : Result Turn Fault) (b : Bool) → b ≡ is_undone r → b ≡ true → (after ≡ mid → new ≡ old) → DoesAll mid after r d → DoesAll old new r d
  undone new (w, turns.Trapped kind) (Ok turn) b is at back h = let e = ok_pair _ _ _ _ h in let same = back (sym e.0) in λ i. Ok ((sym same i, e.1 i))
  undone new (w, turn) (Ok other) b is at back h = let end = same_end turn other (ok_pair _ _ _ _ h).1 in absurd (cc)
  undone new d (Err Memory) b is at back h = (tt, back h.1)
  undone new d (Err fault) b is at back h = let never = h.0 in absurd (cc)

pub front_last : {A : Type 0} (xs : List A) (x : A) → front (xs ++ x ∷ []) ≡ xs
front_last xs x = let one : length (xs ++ x ∷ []) - 1 ≡ length xs = omega (arith, length-append xs (x ∷ [])) in ap (λ n. take n (xs ++ x ∷ [])) one ∙ take-append_seam xs (x ∷ [])

-- a term that is displayed before the rest
pub shown_first : (p : ℕ) (t : Tree) (l : Lanes) (said : Process × Effect) → done (Run p) l (record (closes said) { shows = Some t }) ≡ closing p (showing p t l) said
shown_first p t l (x, effects.Ran) = refl
shown_first p t l (x, effects.Ended reason) = refl
shown_first p t l (x, effects.Trap kind) = refl
shown_first p t l (x, effects.Send to message) = refl
shown_first p t l (x, effects.Ask native ts) = refl
