-- The laws of comparisons, truth values and parts of terms.
use Rattle.bx_bifs.proofs.Words.{◌≡◌, ◌≢◌, ℕ, ◌+◌, Bool, true, false, not, List, [], ◌∷◌, length, Option, Some, None, option_map, refl, ap, ◌∙◌, arith, ne_eqb}
use Rattle.bx_bifs.proofs.Words.{Tree, atom, nil, cons, listed, boolean, truth_atom, badarg, length_of, guard_one, guard_two, on_truths}
use Rattle.bx_ops.specs.declared.guard_bif.Bif.TheVariants as bif
use Rattle.bx_bifs.specs.Kinds.{truth}

-- a truth value tells a test's answer
pub told : (b : Bool) → boolean b ≡ boolean true → b ≡ true
told true e = refl
told false e = cc

pub told_not : (b : Bool) → boolean (not b) ≡ boolean true → b ≡ false
told_not true e = cc
told_not false e = refl

-- what is no truth value is no operand of a boolean operator
no_truth : (t : Tree) → ((b : Bool) → t ≢ truth_atom b) → truth t ≡ None
no_truth (atom a) apart =
    let one : a ≢ 1 = λ e. apart false (ap atom e) in let zero : a ≢ 0 = λ e. apart true (ap atom e) in rw (ne_eqb a 0 zero, ne_eqb a 1 one)
no_truth _ apart = refl

second_missing : (operator : Bool → Bool → Bool) (o : Option Bool) → on_truths operator o None ≡ badarg
second_missing operator (Some a) = refl
second_missing operator None = refl

pub no_operand : (texts : List (List ℕ)) (t u : Tree) → ((b : Bool) → t ≢ truth_atom b) → (guard_one bif.Not t ≡ badarg) × (guard_two texts bif.And t u ≡ badarg) × (guard_two texts bif.And u t ≡ badarg) × (guard_two texts bif.Or t u ≡ badarg) × (guard_two texts bif.Or u t ≡ badarg) × (guard_two texts bif.Xor t u ≡ badarg) × (guard_two texts bif.Xor u t ≡ badarg)
unfolding guard_one guard_two
no_operand texts t u apart =
    rw (no_truth t apart) (refl, refl, second_missing _ (truth u), refl, second_missing _ (truth u), refl, second_missing _ (truth u))

pub length_listed : (ts : List Tree) → length_of (listed ts) ≡ Some (length ts)
length_listed [] = refl
length_listed (t ∷ ts) = ap (option_map (λ n. 1 + n)) (length_listed ts) ∙ ap Some (omega arith)

pub no_length : (t : Tree) → ((ts : List Tree) → t ≢ listed ts) → length_of t ≡ None
no_length nil apart = absurd (apart [] refl)
no_length (cons t u) apart = ap (option_map (λ n. 1 + n)) (no_length u (λ ts e. apart (t ∷ ts) (ap (cons t) e)))
no_length _ apart = refl
