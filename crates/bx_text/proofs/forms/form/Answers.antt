use Rattle.bx_text.specs.Place.{place}
use Rattle.bx_text.specs.Token.{lexeme_of}
use Rattle.bx_text.proofs.Keeping.{token_behind}
use Rattle.bx_text.proofs.forms.form.Goals as goal

pub form_by-requires : goal.form_by-requires
form_by-requires c = token_behind (place c.args.r) (place c.in_ok-here.here) (lexeme_of c.take.new.l) c.in_ok-here.ensures c.in_ok-take.ensures
