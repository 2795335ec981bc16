use Rattle.bx_debug.proofs.Words.{◌≡◌, ℕ, ◌+◌, ◌-◌, ◌++◌, length, take, drop, sym, ap, ◌∙◌, arith, Ended, come, Walks}
use Rattle.std.proofs.Math.Path.{transport}
use Rattle.bx_debug.proofs.Going.{counted, ended, goes_on}
use Rattle.bx_debug.proofs.walks.Walk.turn.Goals as goal

pub push-requires : goal.push-requires
push-requires c =
    let made = c.args.self.now.made in
    let first = c.len-first.result in
    let more = c.in_ok-more.more in
    let k = first + c.min.result - first in
    let is : c.copy.result ≡ take k (drop (length made.choices) c.args.choices.now) = c.copy.ensures ∙ c.part-part.ensures ∙ ap (λ (n : ℕ). take k (drop n c.args.choices.now)) c.len-first.ensures.count in
    let front_is : c.front.result ≡ take more c.copy.result = c.front.ensures ∙ ap (take more) (sym c.copy.ensures) in
    let on = goes_on k c.requires.way c.image-image.ensures c.in_ok-more.ensures is front_is in
    let within = on.leads.within in
    let long = counted k c.requires.way c.image-image.ensures c.in_ok-more.ensures is front_is in
    let applied = ap (λ (e : Ended). e.applied) (c.start.view_is ∙ c.start-start.ensures) in
    let count : c.start.inside.applied + (first + more) ≡ made.start.applied + length (made.choices ++ c.front.result) = omega (arith, applied, c.len-first.ensures.count, long) in
    let end = c.count_applied.ensures ∙ ap (come c.stretch_by_places.new.end.world) count in
    record {
      few = omega (arith, within, c.requires.few);
      all = ap (λ (e : Ended). e.applied) end;
      end = end ∙ ended on;
    }

pub returns-clause-way : goal.returns-clause-way
returns-clause-way c =
    let made = c.args.self.now.made in
    let first = c.len-first.result in
    let k = first + c.min.result - first in
    let is : c.copy.result ≡ take k (drop (length made.choices) c.args.choices.now) = c.copy.ensures ∙ c.part-part.ensures ∙ ap (λ (n : ℕ). take k (drop n c.args.choices.now)) c.len-first.ensures.count in
    let front_is = c.front.ensures ∙ ap (take c.in_ok-more.more) (sym c.copy.ensures) in
    transport (λ i. Walks c.args.places.now c.args.choices.now (sym c.in_ok-push.ensures.ok i) (sym (ap (λ (e : Ended). e.world) c.count_applied.ensures) i) c.in_ok-more.stop)
    (goes_on k c.requires.way c.image-image.ensures c.in_ok-more.ensures is front_is)
