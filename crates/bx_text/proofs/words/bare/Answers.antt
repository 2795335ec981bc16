use Rattle.std.proofs.Common.{sym, subst, take}
use Rattle.std.specs.Str.{IsUtf8}
use Rattle.bx_text.proofs.Names.{name_utf8}
use Rattle.bx_text.proofs.words.bare.Goals as goal

pub as_text-requires : goal.as_text-requires
as_text-requires c = subst (λ n. IsUtf8 (take n c.args.r.rest.now)) (sym c.name_len-end.ensures.exact) (name_utf8 c.args.r.rest.now)
