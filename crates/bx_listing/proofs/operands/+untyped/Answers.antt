use Rattle.bx_listing.proofs.{Known.sym, Known.◌∙◌, Known.arith, Lemmas.typed_falls, Lemmas.typed_inner}
use Rattle.bx_listing.proofs.operands.+untyped.Goals as goal

pub untyped-requires : goal.untyped-requires
untyped-requires t c = let h = c.decreases in let f = typed_falls _ _ _ _ (sym c.in-Tagged-default-len2.ensures) c.in-Tagged-default-len2.len_at_least c.register-item.is in (omega (arith, f, h), tt)

pub returns-in-Typed : goal.returns-in-Typed
returns-in-Typed t c = c.untyped.ensures ∙ sym (typed_inner _ _ _ _ (sym c.in-Tagged-default-len2.ensures) c.in-Tagged-default-len2.len_at_least c.in-Tagged-default-len2.len_below c.register-item.is (sym c.in-Typed.ensures))
