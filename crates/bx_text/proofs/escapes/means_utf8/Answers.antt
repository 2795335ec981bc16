use Rattle.std.proofs.Common.{◌≡◌, ◌++◌, codes, ap, sym, ◌∙◌, append_assoc}
use Rattle.std.specs.List.{fold}
use Rattle.std.specs.Str.{chars, bytes_eq, encode_utf8_all}
use Rattle.std.proofs.lemmas.Iterator.{YieldsList-from_chars}
use Rattle.std.proofs.lemmas.Iterator.Consumers.{YieldsList-end}
use Rattle.bx_text.specs.declared.escapes.Escape.TheVariants.{Plain}
use Rattle.bx_text.specs.Escapes.{step, known, one_of, known_in, known_last}
use Rattle.bx_text.proofs.Escaping.{fold_push, known_push, same_map}
use Rattle.bx_text.proofs.Lefts.{left_same}
use Rattle.bx_text.proofs.escapes.means_utf8.Goals as goal

pub loop-c-preserved : goal.loop-c-preserved
loop-c-preserved c =
    let l = c.loop-c in
    let word = codes "utf8" in
    let ks = known_in Plain l.yielded in
    let one = one_of c.known-one.result.0 in
    let both = c.left_behind-left.ensures word (ks ++ one) (c.left_behind-first.ensures word ks l.invariant.left) in
    record {
      left = left_same word _ _ _
          (append_assoc ks one (one_of c.known-one.result.1) ∙ ap (λ xs. ks ++ xs) (c.known-one.ensures ∙ ap (λ s. known s c.in-Some.c) l.invariant.opened) ∙ sym (known_push Plain l.yielded c.in-Some.c)) both;
      opened = c.step-escape.ensures ∙ ap (λ s. step s c.in-Some.c) l.invariant.opened ∙ sym (fold_push Plain l.yielded c.in-Some.c);
    }

pub returns : goal.returns
returns c =
    let l = c.loop-c in
    let word = codes "utf8" in
    let t = YieldsList-end (YieldsList-from_chars c.args.raw.now c.utf8.raw cc) l.yielded _ l.yielded_by _ _ c.in-None.is c.next.ensures.steps in
    let all : l.yielded ≡ chars c.args.raw.now = sym (same_map l.yielded) ∙ t.0 in
    let ks = known_in Plain l.yielded ++ one_of c.known_last-last.result in
    c.is_spent.ensures ks (c.left_behind-rest.ensures word (known_in Plain l.yielded) l.invariant.left)
    ∙ ap (λ xs. bytes_eq (encode_utf8_all (known_in Plain l.yielded ++ xs)) word) (c.known_last-last.ensures ∙ ap known_last l.invariant.opened)
    ∙ ap (λ cs. bytes_eq (encode_utf8_all (known_in Plain cs ++ known_last (fold step Plain cs))) word) all
