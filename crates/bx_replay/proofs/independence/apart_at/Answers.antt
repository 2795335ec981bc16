use Rattle.std.proofs.Common.{◌≡◌, ◌+◌, ℕ, zero, suc, List, [], ◌∷◌, Option, Some, None, refl, sym, ◌∙◌, arith, add-one, rules}
use Rattle.std.specs.Prelude.{◌==◌, if◌then◌else◌, drop, slice_get}
use Rattle.std.proofs.lemmas.Option.{slice_get_within}
use Rattle.bx_world.specs.declared.choices.Choice.{Choice}
use Rattle.bx_world.specs.Enabled.{actor}
use Rattle.bx_replay.specs.Exchanges.{next_apart}
use Rattle.bx_replay.proofs.independence.apart_at.Goals as goal

abbrev both : Option Choice → Option Choice → Option (Choice × Choice)
both (Some a) (Some b) = if actor a == actor b then None else Some (a, b)
both _ _ = None

-- two choices that stand next to each other begin what stands from the first of them on
both_there : (choices : List Choice) (p : ℕ) → next_apart (drop p choices) ≡ both (slice_get choices p) (slice_get choices (suc p))
both_there [] zero = refl
both_there [] (suc p) = refl
both_there (x ∷ []) zero = refl
both_there (x ∷ y ∷ xs) zero = refl
both_there (x ∷ xs) (suc p) = both_there xs p

next_there : (choices : List Choice) (p : ℕ) (a : Choice) (o : Option Choice) → slice_get choices p ≡ Some a → slice_get choices (p + 1) ≡ o → next_apart (drop p choices) ≡ both (Some a) o
next_there choices p a o one two = cc (both_there choices p, add-one p)

pub returns-in_err-second-clause-next : goal.returns-in_err-second-clause-next
returns-in_err-second-clause-next c =
    let here : slice_get c.args.schedule.now c.args.position ≡ Some c.in_ok-first.first = search rules in
    let behind : slice_get c.args.schedule.now (c.args.position + 1) ≡ None = search rules in
    let none : c.from_residual-in_err-second.result ≡ None = search rules in
    none ∙ sym (next_there c.args.schedule.now c.args.position c.in_ok-first.first None here behind)

pub returns-clause-next : goal.returns-clause-next
returns-clause-next c =
    let here : slice_get c.args.schedule.now c.args.position ≡ Some c.in_ok-first.first = search rules in
    let behind : slice_get c.args.schedule.now (c.args.position + 1) ≡ Some c.in_ok-second.second = search rules in
    c.apart.ensures ∙ sym (next_there c.args.schedule.now c.args.position c.in_ok-first.first (Some c.in_ok-second.second) here behind)

pub returns-clause-within : goal.returns-clause-within
returns-clause-within c =
    let behind : slice_get c.args.schedule.now (c.args.position + 1) ≡ Some c.in_ok-second.second = search rules in
    λ some. omega (arith, slice_get_within c.args.schedule.now (c.args.position + 1) c.in_ok-second.second behind)
