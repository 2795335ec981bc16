-- Refusals by number and name.
use Rattle.std.proofs.Common.{◌≡◌, ◌∙◌, ℕ, List, Option, Some, None, ap}
use Rattle.std.specs.Prelude.{option_map}
use Rattle.std.specs.Option.{option_map_or}
use Rattle.bx_debugger.specs.Answers.{refused_text}

pub refused_so : (row : Option (ℕ × List ℕ)) (n number : ℕ) (name other : List ℕ) → Some number ≡ option_map (λ r. r.0) row → name ≡ option_map_or (λ r. r.1) row other
    → refused_text n (Some (number, name)) ≡ refused_text n row
refused_so None n number name other e f = absurd (cc)
refused_so (Some r) n number name other e f =
    let first : number ≡ r.0 = cc in
    ap (λ (k : ℕ). refused_text n (Some (k, name))) first ∙ ap (λ (t : List ℕ). refused_text n (Some (r.0, t))) f
