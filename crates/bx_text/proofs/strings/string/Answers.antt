use Rattle.std.proofs.Common.{◌<◌, length, arith}
use Rattle.std.proofs.lemmas.Bool.Decides.{nat_tests}
use Rattle.std.proofs.lemmas.Result.{err_from_is_err_and}
use Rattle.bx_text.specs.Token.{lexeme_of}
use Rattle.bx_text.proofs.Rows.{some_spelled}
use Rattle.bx_text.proofs.strings.string.Goals as goal

pub returns-in_err-new : goal.returns-in_err-new
returns-in_err-new c =
    let p = err_from_is_err_and c.from_residual-in_err-new.result c.from_residual-in_err-new.ensures.1 in
    let some : 0 < length c.in_ok-letters.letters = grind (arith, nat_tests) in
    rw (p.1, p.2) (some_spelled (lexeme_of c.args.l.now) c.in_ok-letters.letters _ c.in_ok-letters.ensures some)
