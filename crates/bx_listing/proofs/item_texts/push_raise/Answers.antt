use Rattle.bx_listing.proofs.Known.{◌≡◌, ℕ, List, ◌++◌, Result, Ok, Err, OnOk, codes, length, string_bytes, if◌then◌else◌, ap, ◌∙◌, append_assoc, grouped_text}
use Rattle.std.specs.Result.{is_ok}
use Rattle.bx_listing.proofs.item_texts.push_raise.Goals as goal

-- a text between two others
between : {E : Type 0} (r : Result (Unit {0}) E) (old mid new out left text right kept : List ℕ) → mid ≡ old ++ left → new ≡ mid ++ text → out ≡ (if is_ok r then new ++ right else kept)
    → OnOk r (out ≡ old ++ (left ++ text ++ right))
between (Ok x) old mid new out left text right kept h k e = e ∙ (ap (λ t. t ++ right) (k ∙ ap (λ t. t ++ text) h) ∙ (ap (λ t. t ++ right) (append_assoc old left text) ∙ append_assoc old (left ++ text) right))
between (Err x) old mid new out left text right kept h k e = tt

pub returns : goal.returns
returns c =
    between c.push_str-2.result (string_bytes c.args.out.now) _ _ _ (codes "{raise,{f,0}") (grouped_text c.args.atoms.now 0 (length c.args.operands.now) c.args.operands.now) (codes ",{x,0}}") _ c.in_ok-push_str.ensures.bytes (c.in_ok-push_grouped.ensures) c.push_str-2.ensures.bytes
