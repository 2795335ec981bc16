use Rattle.std.proofs.Common.{subst, sym}
use Rattle.std.specs.Str.{IsUtf8}
use Rattle.bx_text.proofs.Slices.{tail_is}
use Rattle.bx_text.proofs.Shown.{shown_utf8}
use Rattle.bx_text.proofs.spellings.shown.Goals as goal

pub as_text-requires : goal.as_text-requires
as_text-requires c = subst IsUtf8 (sym (tail_is c.zeros.result c.args.digits.now)) (shown_utf8 c.zeros.result c.args.digits.now c.requires)
