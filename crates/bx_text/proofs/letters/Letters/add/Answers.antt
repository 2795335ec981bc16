use Rattle.std.proofs.Common.{◌≡◌, ◌++◌, length, map, pos, sym, ap, ◌∙◌}
use Rattle.std.specs.Str.{chars}
use Rattle.std.proofs.lemmas.Iterator.{YieldsList-from_chars}
use Rattle.std.proofs.lemmas.Iterator.Consumers.{YieldsList-end}
use Rattle.bx_text.specs.Tree.{integer}
use Rattle.bx_text.proofs.Escaping.{same_map}
use Rattle.bx_text.proofs.Lettered.{letters_added, are_added}
use Rattle.bx_text.proofs.letters.Letters.add.Goals as goal

pub invariant_of-self-in-None : goal.invariant_of-self-in-None
invariant_of-self-in-None c =
    let many : length c.as_slice-string.result.now ≡ length c.self.inside.strings.items = ap length c.as_slice-string.ensures.value in
    rw (c.loop-code.invariant.strings, c.loop-code.invariant.letters, c.in_ok-push.ensures.items, many)
    (are_added c.self.inside.strings.items c.args.span c.self.inside.letters.items c.loop-code.yielded c.self.invariant)

pub invariant_of-self-in_err-push-2 : goal.invariant_of-self-in_err-push-2
invariant_of-self-in_err-push-2 c =
    let many : length c.as_slice-string.result.now ≡ length c.self.inside.strings.items = ap length c.as_slice-string.ensures.value in
    rw (c.in_err-push-2.ensures.items, c.loop-code.invariant.strings, c.loop-code.invariant.letters, c.in_ok-push.ensures.items, many)
    (are_added c.self.inside.strings.items c.args.span c.self.inside.letters.items c.loop-code.yielded c.self.invariant)

pub returns : goal.returns
returns c =
    let t = YieldsList-end (YieldsList-from_chars c.args.text.now c.utf8.text cc) c.loop-code.yielded _ c.loop-code.yielded_by _ _ c.in-None.is c.next.ensures.steps in
    let all : c.loop-code.yielded ≡ chars c.args.text.now = sym (same_map c.loop-code.yielded) ∙ t.0 in
    let many : length c.as_slice-string.result.now ≡ length c.self.inside.strings.items = ap length c.as_slice-string.ensures.value in
    rw (c.loop-code.invariant.strings, c.loop-code.invariant.letters, c.in_ok-push.ensures.items, many, all)
    (letters_added c.self.inside.strings.items c.args.span c.self.inside.letters.items (chars c.args.text.now) c.self.invariant
    ∙ ap (λ ts. ts ++ map (λ n. integer c.args.span (pos n)) (chars c.args.text.now)) c.self.view_is)
