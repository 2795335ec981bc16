use Rattle.std.proofs.Common.{◌≡◌, suc, ◌+◌, ◌-◌, true, false, inr, List, length, Ok, IsOkAnd, sym, ap, ◌∙◌, subst, arith}
use Rattle.bx_text.specs.Place.{Place, place}
use Rattle.bx_text.specs.Token.{Lexeme, lexeme_of}
use Rattle.bx_text.specs.Tree.{Tree}
use Rattle.bx_text.specs.Form.{tail_tree}
use Rattle.bx_text.specs.Lexing.{lexeme_at}
use Rattle.bx_text.specs.Terms.{Follow, next, end, follow_by, element_at, elements_at, term_at, group_at, keeps_group, kept, rest_at, end_at, tail_at}
use Rattle.bx_text.specs.Rows.{prefixed, chained, joined, closing, splicing}
use Rattle.bx_text.proofs.Outcomes.{gives_same}
use Rattle.bx_text.proofs.Rows.{row_last, row_next, list_fails, list_gives}
use Rattle.bx_text.proofs.Members.{deeper, many_step, many_end, many_fail, many_unended, element_begun, kept_first}
use Rattle.bx_text.proofs.Tails.{rest_from, closing_is, improper_gives, splicing_is}
use Rattle.bx_text.proofs.Keeping.{token_next}
use Rattle.bx_text.proofs.terms.+term.Goals as goal

pub group-returns : goal.group-returns
group-returns t c =
    let e = deeper c.args.depth c.if-depth-eq0.false in
    let l = lexeme_of c.args.l.now in
    gives_same (keeps_group (suc (c.args.depth - 1)) l) (keeps_group c.args.depth l) _ c.bracket.result (group_at (suc (c.args.depth - 1)) l) (group_at c.args.depth l)
    (λ k. subst (λ d. keeps_group d l) e k) (ap (λ d. group_at d l) e) c.bracket.ensures

pub list-returns-in-Ok : goal.list-returns-in-Ok
list-returns-in-Ok t c =
    list_gives c.new-elements.result.items (term_at c.args.depth) (lexeme_of c.args.l.now) _ _ _ c.new-elements.ensures.items c.in-Ok.ensures (cc)

pub list-returns : goal.list-returns
list-returns t c =
    let Taken : Type 0 = IsOkAnd (lexeme_at (place c.args.l.now.after)) (kept c.args.depth) in
    list_fails {X = Tree × Place} {Y = Tree × Place} Taken (λ x. x) (λ x. x) c.in-Err.fault c.new-elements.result.items (term_at c.args.depth) (lexeme_of c.args.l.now)
    c.new-elements.ensures.items c.in-Err.ensures

pub rest-returns : goal.rest-returns
rest-returns t c =
    let term = term_at c.args.depth in
    let first = lexeme_of c.advance.new.l in
    let m = lexeme_of c.elements.new.l in
    let xs = c.args.found.now.items in
    let ys = c.elements.new.found.items in
    let starts : lexeme_at (place c.args.l.now.after) ≡ Ok first = c.in_ok-advance.ensures in
    let Taken : Type 0 = IsOkAnd (lexeme_at (place c.args.l.now.after)) (kept c.args.depth) in
    let taken : Taken = subst (λ r. IsOkAnd r (kept c.args.depth)) (sym starts) (inr c.in_ok-elements.ensures.begins) in
    gives_same (Unit {0}) Taken _ c.end.result (chained ys (end_at term m)) (chained xs (rest_at term (place c.args.l.now.after))) (λ _. taken)
    (rest_from xs ys term (place c.args.l.now.after) first m starts (sym c.closes_list.ensures ∙ c.if-closes_list.false) c.in_ok-elements.ensures.reads) c.end.ensures

pub end-returns-then-is_bar : goal.end-returns-then-is_bar
end-returns-then-is_bar t c =
    let xs = c.args.found.now.items in
    let term = term_at c.args.depth in
    let m = lexeme_of c.args.l.now in
    gives_same (Unit {0}) (Unit {0}) _ c.closed_tail.result (closing xs term m) (chained xs (end_at term m)) (λ k. k)
    (closing_is xs term m (sym c.is_bar.ensures ∙ c.if-is_bar.true)) c.closed_tail.ensures

pub tail-returns-else-spells_list : goal.tail-returns-else-spells_list
tail-returns-else-spells_list t c =
    improper_gives (Unit {0}) tail_tree c.args.found.now.items (place c.improper.new.l.after) c.improper.result c.args.depth (lexeme_of c.args.l.now)
    (sym c.spells_list.ensures ∙ c.if-spells_list.false) c.improper.ensures

pub proper-returns : goal.proper-returns
proper-returns t c =
    let xs = c.args.found.now.items in
    let l = lexeme_of c.args.l.now in
    let e = deeper c.args.depth c.if-depth-eq0.false in
    gives_same (Unit {0}) (Unit {0}) _ c.spliced.result (splicing xs (term_at (c.args.depth - 1)) l l.token) (chained xs (tail_at (term_at c.args.depth) l)) (λ k. k)
    (splicing_is xs (c.args.depth - 1) l c.requires ∙ ap (λ d. chained xs (tail_at (term_at d) l)) e) c.spliced.ensures

pub elements-loop-turn-preserved : goal.elements-loop-turn-preserved
elements-loop-turn-preserved t c =
    let term = term_at c.args.depth in
    let here = lexeme_of c.loop-turn.l in
    let xs = c.loop-turn.found.items in
    let ys = c.element.new.found.items in
    let n = lexeme_of c.element.new.l in
    let more : c.in-Ok-true.field-0 ≡ true = cc in
    let read : joined xs (element_at term here) ≡ Ok (ys, next n) = row_next c.in-Ok-true.field-0 ys n _ more c.in-Ok-true.ensures in
    record {
      reads = many_step (length c.args.l.now.after.rest.now + 1) c.loop-turn._turn xs ys term here n (omega arith) read ∙ c.loop-turn.invariant.reads;
      starts = λ z. absurd (omega arith);
      stands = token_next c.args.depth xs ys here n read;
      goes = λ _. element_begun c.args.depth c.loop-turn._turn xs here (lexeme_of c.args.l.now) (ys, next n) c.loop-turn.invariant.starts c.loop-turn.invariant.goes read;
    }

pub elements-returns-in-Err-clause-reads : goal.elements-returns-in-Err-clause-reads
elements-returns-in-Err-clause-reads t c =
    let here = lexeme_of c.loop-turn.l in
    let first = lexeme_of c.args.l.now in
    let kept_it : kept c.args.depth here → kept c.args.depth first =
    λ k. kept_first c.args.depth c.loop-turn._turn here first c.loop-turn.invariant.starts c.loop-turn.invariant.goes k in
    many_fail {X = List Tree × Follow} {Y = List Tree × Lexeme} (kept c.args.depth here) (kept c.args.depth first) (λ x. x) (λ y. y) c.in-Err.fault (length c.args.l.now.after.rest.now + 1) c.loop-turn._turn
    c.loop-turn.found.items (term_at c.args.depth) here (prefixed c.args.found.now.items (elements_at (term_at c.args.depth) first)) (omega arith) kept_it c.loop-turn.invariant.reads c.in-Err.ensures

pub elements-returns-in-Ok-false-clause-reads : goal.elements-returns-in-Ok-false-clause-reads
elements-returns-in-Ok-false-clause-reads t c =
    let here = lexeme_of c.loop-turn.l in
    let m = lexeme_of c.element.new.l in
    let last : c.in-Ok-false.field-0 ≡ false = cc in
    let read : joined c.loop-turn.found.items (element_at (term_at c.args.depth) here) ≡ Ok (c.element.new.found.items, end m) =
    row_last c.in-Ok-false.field-0 c.element.new.found.items m _ last c.in-Ok-false.ensures in
    sym c.loop-turn.invariant.reads
    ∙ many_end (length c.args.l.now.after.rest.now + 1) c.loop-turn._turn c.loop-turn.found.items c.element.new.found.items (term_at c.args.depth) here m (omega arith) read

pub elements-returns-in-Ok-false-clause-begins : goal.elements-returns-in-Ok-false-clause-begins
elements-returns-in-Ok-false-clause-begins t c =
    element_begun c.args.depth c.loop-turn._turn c.loop-turn.found.items (lexeme_of c.loop-turn.l) (lexeme_of c.args.l.now)
    (c.element.new.found.items, follow_by c.in-Ok-false.field-0 (lexeme_of c.element.new.l)) c.loop-turn.invariant.starts c.loop-turn.invariant.goes c.in-Ok-false.ensures

pub elements-returns-clause-reads : goal.elements-returns-clause-reads
elements-returns-clause-reads t c =
    let first = lexeme_of c.args.l.now in
    many_unended {X = List Tree × Lexeme} (kept c.args.depth first) (λ y. y) c.unended.result (length c.args.l.now.after.rest.now + 1) c.loop-turn._turn c.loop-turn.found.items (term_at c.args.depth)
    (lexeme_of c.loop-turn.l) (prefixed c.args.found.now.items (elements_at (term_at c.args.depth) first)) (omega arith) c.unended.ensures c.loop-turn.invariant.reads
