use Rattle.std.proofs.Common.{◌≡◌, ◌+◌, ◌-◌, false, true, length, List, Option, Ok, Some, sym, ap, ◌∙◌, arith}
use Rattle.bx_text.specs.Place.{Place, place}
use Rattle.bx_text.specs.Token.{Lexeme, lexeme_of}
use Rattle.bx_text.specs.Tree.{Tree}
use Rattle.bx_text.specs.Terms.{texts, text_next}
use Rattle.bx_text.specs.Rows.{prefixed}
use Rattle.bx_text.proofs.Rows.{texts_step, texts_fail, texts_none, text_none, text_found, goes_on}
use Rattle.bx_text.proofs.strings.strings.Goals as goal

pub returns-in-Err : goal.returns-in-Err
returns-in-Err c =
    texts_fail {X = Option Lexeme} {Y = List Tree × Place} _ (λ o. o) (λ y. y) c.in-Err.fault (length c.args.l.now.after.rest.now + 1) c.loop-turn._turn c.loop-turn.found (place c.loop-turn.l.after) _
    (omega arith) c.loop-turn.invariant.reads c.in-Err.ensures.reads

pub returns-in-Ok-false : goal.returns-in-Ok-false
returns-in-Ok-false c =
    let last : c.in-Ok-false.field-0 ≡ false = cc in
    let none = text_none c.in-Ok-false.field-0 _ _ last c.in-Ok-false.ensures.reads in
    sym c.loop-turn.invariant.reads
    ∙ texts_none (length c.args.l.now.after.rest.now + 1) c.loop-turn._turn c.loop-turn.found (place c.loop-turn.l.after) (place c.text_next.new.l.after)
    (omega arith) none (c.in-Ok-false.ensures.stays (ap Ok last))

pub loop-turn-preserved : goal.loop-turn-preserved
loop-turn-preserved c =
    let more : c.in-Ok-true.field-0 ≡ true = cc in
    let next : text_next (place c.loop-turn.l.after) ≡ Ok (Some (lexeme_of c.text_next.new.l)) = text_found c.in-Ok-true.field-0 _ _ more c.in-Ok-true.ensures.reads in
    record {
      reads =
          ap (λ xs. prefixed xs (texts ((length c.args.l.now.after.rest.now + 1) - (c.loop-turn._turn + 1)) (place c.text_next.new.l.after))) c.in_ok-letters_of-in-Ok-true.ensures
          ∙ texts_step (length c.args.l.now.after.rest.now + 1) c.loop-turn._turn c.loop-turn.found (place c.loop-turn.l.after) (lexeme_of c.text_next.new.l) (omega arith) next
          ∙ c.loop-turn.invariant.reads;
      starts = λ z. absurd (omega arith);
      goes = λ _. goes_on c.loop-turn._turn (place c.loop-turn.l.after) (place c.args.l.now.after) (lexeme_of c.text_next.new.l) c.loop-turn.invariant.starts c.loop-turn.invariant.goes next;
    }
