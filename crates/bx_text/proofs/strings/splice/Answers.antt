use Rattle.std.proofs.lemmas.Result.{err_from_is_err_and}
use Rattle.bx_text.specs.Token.{lexeme_of}
use Rattle.bx_text.proofs.Rows.{some_spelled}
use Rattle.bx_text.proofs.strings.splice.Goals as goal

pub returns-in_err-append : goal.returns-in_err-append
returns-in_err-append c =
    let p = err_from_is_err_and c.from_residual-in_err-append.result c.from_residual-in_err-append.ensures.1 in
    rw (p.1, p.2) (some_spelled (lexeme_of c.args.l.now) c.in_ok-letters.letters _ c.in_ok-letters.ensures c.in_err-append.ensures)
