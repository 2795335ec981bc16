use Rattle.bx_swaps.proofs.Words.{◌≡◌, ◌+◌, ◌-◌, ◌<◌, ◌≤◌, ◌∙◌, sym, ap, subst, arith, option_map, IfSome, next_alike}
use Rattle.bx_swaps.proofs.Coming.{brings_so}
use Rattle.bx_swaps.proofs.Gathering.{comes_so, stays_so}
use Rattle.bx_swaps.proofs.tidying.settle.Goals as goal

pub returns-in_default : goal.returns-in_default
returns-in_default c =
    let row = c.args.row.now in
    let at = c.args.at in
    let left = c.args.count - at in
    let is : c.next_alike.result ≡ option_map (λ n. at + n) (next_alike at left row.choices) =
    c.next_alike.ensures.is ∙ ap (λ cs. option_map (λ n. at + n) (next_alike at left cs)) c.choices.ensures in
    stays_so at row (next_alike at left row.choices) (sym c.in_default.is ∙ is)

pub returns : goal.returns
returns c =
    let row = c.args.row.now in
    let at = c.args.at in
    let left = c.args.count - at in
    let next = c.in-Some.next in
    let bound : (at ≤ next) × (next < c.args.count) = subst (λ o. IfSome o (λ n. (at ≤ n) × (n < c.args.count))) c.in-Some.is c.next_alike.ensures.within in
    let came = c.in_ok-bring_forward.ensures.ok in
    let is : c.next_alike.result ≡ option_map (λ n. at + n) (next_alike at left row.choices) =
    c.next_alike.ensures.is ∙ ap (λ cs. option_map (λ n. at + n) (next_alike at left cs)) c.choices.ensures in
    comes_so at row c.bring_forward.new.self (next_alike at left row.choices) next c.in_ok-bring_forward.field-0 (sym c.in-Some.is ∙ is)
    (brings_so next at row c.bring_forward.new.self c.in_ok-bring_forward.field-0 (omega (arith, bound.1)) came bound.0)
