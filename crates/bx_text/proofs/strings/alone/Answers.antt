use Rattle.bx_text.specs.Token.{lexeme_of}
use Rattle.bx_text.specs.Terms.{strings_at}
use Rattle.bx_text.proofs.Rows.{row_gives}
use Rattle.bx_text.proofs.strings.alone.Goals as goal

pub returns-in-Ok : goal.returns-in-Ok
returns-in-Ok c = row_gives c.new-letters.result (strings_at (lexeme_of c.args.l.now)) _ c.new-letters.ensures c.in-Ok.ensures
