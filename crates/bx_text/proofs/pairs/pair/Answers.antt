use Rattle.std.proofs.Common.{◌≡◌, sym, ap, ◌∙◌}
use Rattle.bx_text.specs.Place.{Place, place}
use Rattle.bx_text.specs.Pairs.{pair_end}
use Rattle.bx_text.proofs.Outcomes.{gives_err}
use Rattle.bx_text.proofs.pairs.pair.Goals as goal

pub returns-in-Ok : goal.returns-in-Ok
returns-in-Ok c =
    let same : pair_end 255 c.args.word.now (place c.before-l.result.after) ≡ pair_end 255 c.args.word.now (place c.args.reader) = ap (λ l. pair_end 255 c.args.word.now l.after) c.before-l.ensures in
    sym same ∙ c.in-Ok.ensures

pub returns-in-Err : goal.returns-in-Err
returns-in-Err c =
    let same : pair_end 255 c.args.word.now (place c.before-l.result.after) ≡ pair_end 255 c.args.word.now (place c.args.reader) = ap (λ l. pair_end 255 c.args.word.now l.after) c.before-l.ensures in
    gives_err {X = Place} {Y = Place} (λ q. q) (λ q. q) c.in-Err.fault _ _ (λ t. t) (λ g. sym same ∙ g) c.in-Err.ensures
