use Rattle.bx_listing.proofs.Known.{◌≡◌, ◌<◌, ◌-◌, ◌∙◌, true, length, sym, ap, arith, string_eq}
use Rattle.bx_listing.proofs.Places.{named_there, named_last, names_more}
use Rattle.bx_listing.proofs.locations.number_of.Goals as goal

pub returns-then-eq-clause-named : goal.returns-then-eq-clause-named
returns-then-eq-clause-named c =
    let files = c.args.files.now.items in
    let within : c.len-count.result - 1 < length files = omega (arith, c.len-count.ensures, c.if-count-gt0.true) in
    let same : string_eq c.index.result.now c.args.file ≡ true = sym c.eq.ensures ∙ c.if-eq.true in
    named_there files c.args.file (c.len-count.result - 1) c.index.result.now within (ap (λ f. string_eq f c.args.file) (sym c.index.ensures) ∙ same)

pub returns-clause-named : goal.returns-clause-named
returns-clause-named c = named_last c.args.files.now.items c.push.new.self.items c.args.file c.len-count.result (omega (arith, c.len-count.ensures)) c.in_ok-push.ensures.items

pub returns-clause-kept : goal.returns-clause-kept
returns-clause-kept c = rw c.in_ok-push.ensures.items (names_more c.args.files.now.items c.args.file)
