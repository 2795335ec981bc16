use Rattle.std.proofs.Common.{◌≡◌, ◌∙◌, true, false, sym, subst}
use Rattle.bx_text.specs.declared.lexemes.Lexeme.{Lexeme as Held}
use Rattle.bx_text.specs.declared.node.Sort.TheVariants as sort
use Rattle.bx_text.specs.Place.{place}
use Rattle.bx_text.specs.Token.{Lexeme, lexeme_of}
use Rattle.bx_text.specs.Terms.{closes_binary}
use Rattle.bx_text.specs.Grammar.{IsKept}
use Rattle.bx_text.proofs.Keeping.{empty_binary_kept, binary_kept}
use Rattle.bx_text.proofs.binaries.binary.Goals as goal
use Rattle.bx_text.proofs.binaries.binary.Goals.{then-not-closes_binary+in_ok-segments+else-not-closes_binary-2, else-not-closes_binary}

pub kept-requires : goal.kept-requires
kept-requires c =
    let l : Lexeme = lexeme_of c.args.l.now in
    let m : Lexeme = lexeme_of c.advance.new.l in
    elim c.if-not-closes_binary.branch [
      | then-not-closes_binary+in_ok-segments+else-not-closes_binary-2 w ↦
          let some : closes_binary m.token ≡ false = sym c.closes_binary.ensures ∙ w.if-not-closes_binary.true in
          let last : closes_binary (lexeme_of w.segments.new.l).token ≡ true = sym w.closes_binary-then-not-closes_binary.ensures ∙ w.if-not-closes_binary-2.false in
          subst (λ (h : Held). IsKept sort.Binary l (place h.after)) (sym w.l-is)
          (binary_kept c.args.depth l m (lexeme_of w.segments.new.l) c.requires.stands c.requires.opens c.in_ok-advance.ensures some w.in_ok-segments.ensures last)
      | else-not-closes_binary w ↦
          let none : closes_binary m.token ≡ true = sym c.closes_binary.ensures ∙ w.if-not-closes_binary.false in
          subst (λ (h : Held). IsKept sort.Binary l (place h.after)) (sym w.l-is)
          (empty_binary_kept c.args.depth l m c.requires.stands c.requires.opens c.in_ok-advance.ensures none)
    ]
