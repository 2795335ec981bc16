use Rattle.std.proofs.Common.{◌≡◌, ◌∙◌, length, sym, subst}
use Rattle.std.specs.Str.Lossy.{utf8_valid_len}
use Rattle.bx_text.specs.Place.{Place, place}
use Rattle.bx_text.specs.Token.{Lexeme, lexeme_of}
use Rattle.bx_text.specs.Terms as terms
use Rattle.bx_text.specs.Grammar.{SpelledAs}
use Rattle.bx_text.proofs.Keeping.{kept_spelled}
use Rattle.bx_text.proofs.kept.kept.Goals as goal

pub other-requires : goal.other-requires
other-requires c =
    let first : Lexeme = lexeme_of c.args.first in
    let end : Place = place c.args.end in
    let same : c.in-Ok.text.now ≡ terms.taken first end = c.in-Ok.ensures.0 ∙ c.taken.ensures in
    let valid : utf8_valid_len (terms.taken first end) ≡ length (terms.taken first end) = subst (λ ws. utf8_valid_len ws ≡ length ws) c.taken.ensures c.in-Ok.ensures.1 in
    subst (λ w. SpelledAs c.args.sort w) (sym same) (kept_spelled c.args.sort first end c.requires valid)
