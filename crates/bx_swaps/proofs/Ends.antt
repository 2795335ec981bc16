-- Exchanges leave where a schedule ends as it was.
use Rattle.bx_swaps.proofs.Words.{◌≡◌, ℕ, List, [], ◌∷◌, Result, Ok, Err, None, refl, sym, ap, subst, ◌∙◌, Fault, Memory, Loaded, Choice, State, ran, Course, with_exchange, IsExchanged, AtFaultAtOnce}
use Rattle.bx_replay.proofs.Turning.{around, whole}
use Rattle.bx_replay.specs.Moving.{exchanged, AllMay}
use Rattle.bx_swaps.specs.Exchanges.{IsAnswer, IsAnswerFrom, Takes}

-- each exchange in turn
pub same_ends : (positions : List ℕ) (course : Course) → AllMay positions course
    → ran course.image (exchanged positions course.choices) course.start ≡ ran course.image course.choices course.start
same_ends [] course h = refl
same_ends (i ∷ more) course h = same_ends more (with_exchange i course) h.1 ∙ whole i course (around i course h.0)

-- memory is wanting where there is a start, and the list alone does not tell of a fault
takes : (positions : List ℕ) (choices : List Choice) → AtFaultAtOnce positions choices None → Takes positions choices
takes [] choices at = tt
takes (i ∷ more) choices at = at

pub wanting : (image : Loaded) (found : Result State Fault) (start : State) (positions : List ℕ) (choices : List Choice) (answer : Result (List Choice) Fault) → found ≡ Ok start → AtFaultAtOnce positions choices None
    → answer ≡ Err Memory → IsAnswer image found positions choices answer
wanting image found start positions choices answer is at err =
    subst (λ (r : Result State Fault). IsAnswer image r positions choices answer) (sym is)
    (subst (λ (a : Result (List Choice) Fault). IsAnswerFrom image start positions choices a) (sym err) (takes positions choices at))

-- exchanges leave where all of them lead as it was
pub exchanged_end : (count : ℕ) (old new : Course) → IsExchanged count old new → ran old.image new.choices old.start ≡ ran old.image old.choices old.start
exchanged_end count old new e = ap (λ (c : Course). ran old.image c.choices old.start) e.is ∙ same_ends e.positions old e.may

-- and all but the choices
pub exchanged_is : (count : ℕ) (old new : Course) → IsExchanged count old new → new ≡ record old { choices = new.choices }
exchanged_is count old new e = e.is ∙ ap (λ (c : Course). record old { choices = c.choices }) (sym e.is)
