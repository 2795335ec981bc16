use Rattle.std.proofs.Common.{◌≡◌, suc, ◌+◌, ◌-◌, true, false, length, sym, ap, ◌∙◌, subst, arith}
use Rattle.bx_text.specs.declared.lexemes.Lexeme.{Lexeme as Held}
use Rattle.bx_text.specs.declared.node.Sort.TheVariants as sort
use Rattle.bx_text.specs.Place.{place}
use Rattle.bx_text.specs.Token.{Lexeme, lexeme_of, token_of}
use Rattle.bx_text.specs.Grammar.{IsKept}
use Rattle.bx_text.specs.Terms.{Follow, closes_tuple, passed, pair_at, parts_at, strings_at, term_at, group_at}
use Rattle.bx_text.specs.Passing.{element_passed, tuple_passed, list_passed}
use Rattle.bx_text.proofs.Outcomes.{gives_same}
use Rattle.bx_text.proofs.Rows.{part_last, part_next}
use Rattle.bx_text.proofs.Members.{deeper}
use Rattle.bx_text.proofs.Parts.{parts_step, parts_end, parts_fail}
use Rattle.bx_text.proofs.Passed.{text_group, tuple_group, list_group, element_next}
use Rattle.bx_text.proofs.Keeping.{pair_next, empty_map_kept, map_kept}
use Rattle.bx_text.proofs.passing.+pass.Goals as goal
use Rattle.bx_text.proofs.passing.+pass.Goals.{map-then-not-closes_tuple+in_ok-pass_pairs+in_ok-tuple_end, map-else-not-closes_tuple}

pub pass_group-returns : goal.pass_group-returns
pass_group-returns t c =
    let e = deeper c.args.depth c.if-depth-eq0.false in
    let l = lexeme_of c.args.l.now in
    gives_same ⊥ ⊥ _ c.pass_bracket.result (passed (group_at (suc (c.args.depth - 1)) l)) (passed (group_at c.args.depth l)) (λ k. k) (ap (λ d. passed (group_at d l)) e) c.pass_bracket.ensures

pub pass_bracket-returns-in-Text : goal.pass_bracket-returns-in-Text
pass_bracket-returns-in-Text t c =
    let l = lexeme_of c.args.l.now in
    gives_same ⊥ ⊥ _ c.pass_strings.result (passed (strings_at l)) (passed (group_at (suc c.args.depth) l)) (λ k. k) (text_group c.args.depth l _ (ap token_of c.in-Text.is)) c.pass_strings.ensures

pub pass_bracket-returns-in-OpenTuple : goal.pass_bracket-returns-in-OpenTuple
pass_bracket-returns-in-OpenTuple t c =
    let l = lexeme_of c.args.l.now in
    gives_same ⊥ ⊥ _ c.pass_tuple.result (tuple_passed (term_at c.args.depth) l) (passed (group_at (suc c.args.depth) l)) (λ k. k) (tuple_group c.args.depth l (ap token_of c.in-OpenTuple.is)) c.pass_tuple.ensures

pub pass_bracket-returns-in-OpenList : goal.pass_bracket-returns-in-OpenList
pass_bracket-returns-in-OpenList t c =
    let l = lexeme_of c.args.l.now in
    gives_same ⊥ ⊥ _ c.pass_list.result (list_passed (term_at c.args.depth) l) (passed (group_at (suc c.args.depth) l)) (λ k. k) (list_group c.args.depth l (ap token_of c.in-OpenList.is)) c.pass_list.ensures

pub pass_elements-returns-in-Err : goal.pass_elements-returns-in-Err
pass_elements-returns-in-Err t c =
    let part = element_passed (term_at c.args.depth) in
    parts_fail {X = Follow} {Y = Lexeme} ⊥ ⊥ (λ f. f) (λ m. m) c.in-Err.fault (length c.args.l.now.after.rest.now + 1) c.loop-turn._turn part (lexeme_of c.loop-turn.l)
    (parts_at part (lexeme_of c.args.l.now)) (omega arith) (λ k. k) c.loop-turn.invariant.reads c.in-Err.ensures

pub pass_elements-returns-in-Ok-false : goal.pass_elements-returns-in-Ok-false
pass_elements-returns-in-Ok-false t c =
    let last : c.in-Ok-false.field-0 ≡ false = cc in
    sym c.loop-turn.invariant.reads
    ∙ parts_end (length c.args.l.now.after.rest.now + 1) c.loop-turn._turn (element_passed (term_at c.args.depth)) (lexeme_of c.loop-turn.l) (lexeme_of c.pass_element.new.l)
    (omega arith) (part_last c.in-Ok-false.field-0 _ _ last c.in-Ok-false.ensures)

pub pass_elements-loop-turn-preserved : goal.pass_elements-loop-turn-preserved
pass_elements-loop-turn-preserved t c =
    let here = lexeme_of c.loop-turn.l in
    let n = lexeme_of c.pass_element.new.l in
    let part = element_passed (term_at c.args.depth) in
    let more : c.in-Ok-true.field-0 ≡ true = cc in
    let read = part_next c.in-Ok-true.field-0 n (part here) more c.in-Ok-true.ensures in
    record {
      reads = parts_step (length c.args.l.now.after.rest.now + 1) c.loop-turn._turn part here n (omega arith) read ∙ c.loop-turn.invariant.reads;
      stands = element_next c.args.depth here n read;
    }

pub pass_pairs-returns-in-Err : goal.pass_pairs-returns-in-Err
pass_pairs-returns-in-Err t c =
    let part = pair_at (term_at c.args.depth) in
    parts_fail {X = Follow} {Y = Lexeme} ⊥ ⊥ (λ f. f) (λ m. m) c.in-Err.fault (length c.args.l.now.after.rest.now + 1) c.loop-turn._turn part (lexeme_of c.loop-turn.l)
    (parts_at part (lexeme_of c.args.l.now)) (omega arith) (λ k. k) c.loop-turn.invariant.reads c.in-Err.ensures

pub pass_pairs-returns-in-Ok-false : goal.pass_pairs-returns-in-Ok-false
pass_pairs-returns-in-Ok-false t c =
    let last : c.in-Ok-false.field-0 ≡ false = cc in
    sym c.loop-turn.invariant.reads
    ∙ parts_end (length c.args.l.now.after.rest.now + 1) c.loop-turn._turn (pair_at (term_at c.args.depth)) (lexeme_of c.loop-turn.l) (lexeme_of c.pass_pair.new.l)
    (omega arith) (part_last c.in-Ok-false.field-0 _ _ last c.in-Ok-false.ensures)

pub pass_pairs-loop-turn-preserved : goal.pass_pairs-loop-turn-preserved
pass_pairs-loop-turn-preserved t c =
    let here = lexeme_of c.loop-turn.l in
    let n = lexeme_of c.pass_pair.new.l in
    let part = pair_at (term_at c.args.depth) in
    let more : c.in-Ok-true.field-0 ≡ true = cc in
    let read = part_next c.in-Ok-true.field-0 n (part here) more c.in-Ok-true.ensures in
    record {
      reads = parts_step (length c.args.l.now.after.rest.now + 1) c.loop-turn._turn part here n (omega arith) read ∙ c.loop-turn.invariant.reads;
      stands = pair_next c.args.depth here n read;
    }

pub map-kept-requires : goal.map-kept-requires
map-kept-requires t c =
    let l : Lexeme = lexeme_of c.args.l.now in
    let m : Lexeme = lexeme_of c.advance.new.l in
    elim c.if-not-closes_tuple.branch [
      | map-then-not-closes_tuple+in_ok-pass_pairs+in_ok-tuple_end w ↦
          let some : closes_tuple m.token ≡ false = sym c.closes_tuple.ensures ∙ w.if-not-closes_tuple.true in
          subst (λ (h : Held). IsKept sort.Map l (place h.after)) (sym w.l-is)
          (map_kept c.args.depth l m (lexeme_of w.pass_pairs.new.l) (place w.pass_pairs.new.l.after) c.requires.stands c.requires.opens c.in_ok-advance.ensures some w.in_ok-pass_pairs.ensures w.in_ok-tuple_end.ensures)
      | map-else-not-closes_tuple w ↦
          let none : closes_tuple m.token ≡ true = sym c.closes_tuple.ensures ∙ w.if-not-closes_tuple.false in
          subst (λ (h : Held). IsKept sort.Map l (place h.after)) (sym w.l-is)
          (empty_map_kept c.args.depth l m c.requires.stands c.requires.opens c.in_ok-advance.ensures none)
    ]
