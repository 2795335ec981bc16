use Rattle.std.proofs.Common.{◌≡◌, ◌+◌, ◌-◌, true, false, length, Option, ap, sym, ◌∙◌, Ok, arith}
use Rattle.bx_text.specs.Place.{Place, place}
use Rattle.bx_text.specs.Token.{Lexeme, lexeme_of}
use Rattle.bx_text.specs.Terms.{passed, texts, strings_at}
use Rattle.bx_text.proofs.Rows.{text_none, text_found}
use Rattle.bx_text.proofs.Passed.{strings_begun, strings_step, strings_end, strings_fail}
use Rattle.bx_text.proofs.strings.pass_strings.Goals as goal

pub loop-turn-init : goal.loop-turn-init
loop-turn-init c =
    let whole : (length c.args.l.now.after.rest.now + 1) - 0 ≡ length c.args.l.now.after.rest.now + 1 = omega arith in
    ap (λ k. passed (texts k (place c.args.l.now.after))) whole ∙ strings_begun (lexeme_of c.args.l.now)

pub returns-in-Err : goal.returns-in-Err
returns-in-Err c =
    strings_fail {X = Option Lexeme} {Y = Place} (λ o. o) (λ q. q) c.in-Err.fault (length c.args.l.now.after.rest.now + 1) c.loop-turn._turn (place c.loop-turn.l.after)
    (passed (strings_at (lexeme_of c.args.l.now))) (omega arith) c.loop-turn.invariant c.in-Err.ensures.reads

pub returns-in-Ok-false : goal.returns-in-Ok-false
returns-in-Ok-false c =
    let last : c.in-Ok-false.field-0 ≡ false = cc in
    let none = text_none c.in-Ok-false.field-0 _ _ last c.in-Ok-false.ensures.reads in
    sym c.loop-turn.invariant
    ∙ strings_end (length c.args.l.now.after.rest.now + 1) c.loop-turn._turn (place c.loop-turn.l.after) (omega arith) none
    ∙ ap Ok (sym (c.in-Ok-false.ensures.stays (ap Ok last)))

pub loop-turn-preserved : goal.loop-turn-preserved
loop-turn-preserved c =
    let more : c.in-Ok-true.field-0 ≡ true = cc in
    strings_step (length c.args.l.now.after.rest.now + 1) c.loop-turn._turn (place c.loop-turn.l.after) (lexeme_of c.text_next.new.l)
    (omega arith) (text_found c.in-Ok-true.field-0 _ _ more c.in-Ok-true.ensures.reads)
    ∙ c.loop-turn.invariant
