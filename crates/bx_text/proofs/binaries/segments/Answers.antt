use Rattle.std.proofs.Common.{◌≡◌, ◌+◌, true, false, length, sym, ◌∙◌, arith}
use Rattle.bx_text.specs.Token.{Lexeme, lexeme_of}
use Rattle.bx_text.specs.Terms.{Follow, segment_at}
use Rattle.bx_text.proofs.Rows.{part_last, part_next}
use Rattle.bx_text.proofs.Parts.{parts_step, parts_end, parts_fail}
use Rattle.bx_text.proofs.binaries.segments.Goals as goal

pub returns-in-Err : goal.returns-in-Err
returns-in-Err c =
    parts_fail {X = Follow} {Y = Lexeme} ⊥ ⊥ (λ f. f) (λ m. m) c.in-Err.fault (length c.args.l.now.after.rest.now + 1) c.loop-turn._turn (segment_at c.args.depth) (lexeme_of c.loop-turn.l) _
    (omega arith) (λ k. k) c.loop-turn.invariant c.in-Err.ensures

pub returns-in-Ok-false : goal.returns-in-Ok-false
returns-in-Ok-false c =
    let last : c.in-Ok-false.field-0 ≡ false = cc in
    sym c.loop-turn.invariant
    ∙ parts_end (length c.args.l.now.after.rest.now + 1) c.loop-turn._turn (segment_at c.args.depth) (lexeme_of c.loop-turn.l) (lexeme_of c.segment.new.l)
    (omega arith) (part_last c.in-Ok-false.field-0 _ _ last c.in-Ok-false.ensures)

pub loop-turn-preserved : goal.loop-turn-preserved
loop-turn-preserved c =
    let more : c.in-Ok-true.field-0 ≡ true = cc in
    parts_step (length c.args.l.now.after.rest.now + 1) c.loop-turn._turn (segment_at c.args.depth) (lexeme_of c.loop-turn.l) (lexeme_of c.segment.new.l)
    (omega arith) (part_next c.in-Ok-true.field-0 _ _ more c.in-Ok-true.ensures)
    ∙ c.loop-turn.invariant
