use Rattle.std.proofs.Common.{◌≡◌, ◌++◌, ap, sym, ◌∙◌, string_bytes}
use Rattle.std.specs.List.{fold}
use Rattle.std.specs.Str.{chars, encode_utf8_all}
use Rattle.std.proofs.lemmas.Iterator.{YieldsList-from_chars}
use Rattle.std.proofs.lemmas.Iterator.Consumers.{YieldsList-end}
use Rattle.bx_text.specs.declared.escapes.Escape.TheVariants.{Plain}
use Rattle.bx_text.specs.Escapes.{step, known_in, known_last}
use Rattle.bx_text.proofs.Escaping.{fold_push, decode_step, decode_end, same_map}
use Rattle.bx_text.proofs.escapes.decode.Goals as goal

pub loop-c-preserved : goal.loop-c-preserved
loop-c-preserved c =
    let l = c.loop-c in (
      decode_step Plain l.escape (string_bytes l.out) (string_bytes c.put_known.new.out) l.yielded c.in-Some.c l.invariant.0 l.invariant.1 (c.in_ok-put_known.ensures ∙ ap (λ ks. string_bytes l.out ++ encode_utf8_all ks) c.known.ensures),
      c.step-escape.ensures ∙ ap (λ s. step s c.in-Some.c) l.invariant.1 ∙ sym (fold_push Plain l.yielded c.in-Some.c),
    )

pub returns : goal.returns
returns c =
    let l = c.loop-c in
    let t = YieldsList-end (YieldsList-from_chars c.args.raw.now c.utf8.raw cc) l.yielded _ l.yielded_by _ _ c.in-None.is c.next.ensures.steps in
    let all : l.yielded ≡ chars c.args.raw.now = sym (same_map l.yielded) ∙ t.0 in
    decode_end Plain l.escape (string_bytes l.out) (string_bytes c.put.new.out) l.yielded l.invariant.0 l.invariant.1 (c.in_ok-put.ensures ∙ ap (λ ks. string_bytes l.out ++ encode_utf8_all ks) c.known_last.ensures)
    ∙ ap (λ cs. encode_utf8_all (known_in Plain cs ++ known_last (fold step Plain cs))) all
