-- Lines are read as the grammar has them.
use Rattle.bx_plan.proofs.Words.{◌≡◌, inl, inr, ℕ, false, cond, List, [], ◌∷◌, ◌++◌, Some, None, refl, ap, ◌∙◌, arith, subst, Decides, nat_eq, ◌↔◌, list_all, Decides-and, cond_some, named_of, schedule_of, IsNameByte, IsName}
use Rattle.bx_plan.proofs.Words.{AllByRecursion, is_utf8, IsUtf8-from_is_utf8, is_utf8-from_IsUtf8, cond_both, eqb-true, ne_eqb, and_parts, and_from, leb-true, le-leb, nat_tests, option_and_then_some, Entry, cut, tail_of, is_name_byte}
use Rattle.bx_plan.proofs.Words.{is_name, line_of, IsSchedule, IsNothing}
use Rattle.std.specs.Option.{option_map}
use Rattle.bx_plan.proofs.Marks.{Lacks, cut_at, cut_takes, option_map_some}
use Rattle.bx_plan.proofs.Spellings.{tail_law}

name_bytes : (name : List ℕ) → Decides (list_all is_name_byte name) (AllByRecursion IsNameByte name)
name_bytes [] = (λ h. tt, λ h. refl)
name_bytes (b ∷ bs) = Decides-and (is_name_byte b) (list_all is_name_byte bs) (λ h. grind (arith, nat_tests), λ h. grind (arith, nat_tests)) (name_bytes bs)

name_decides : (name : List ℕ) → Decides (is_name name) (IsName name)
name_decides name = grind (arith, and_parts, leb-true, name_bytes, and_from, le-leb)

name_lacks : (mark : ℕ) (name : List ℕ) → (IsNameByte mark → ⊥) → AllByRecursion IsNameByte name → Lacks mark name
name_lacks mark [] h k = tt
name_lacks mark (b ∷ bs) h k = (ne_eqb b mark (λ e. h (subst IsNameByte e k.0)), name_lacks mark bs h k.1)

no_name_hash : (b : ℕ) → IsNameByte b → nat_eq b 35 ≡ false
no_name_hash b h = grind (arith, nat_tests)

schedule_spelled : (text : List ℕ) (line : List ℕ × List Entry) → schedule_of text ≡ Some line → IsSchedule text line
schedule_spelled text line h =
    option_and_then_some named_of (cut 58 text) line h (λ parts found p. cond_both (is_name parts.0) (option_map (λ entries. (parts.0, entries)) (tail_of parts.1)) None (λ r. r ≡ Some line → IsSchedule text line)
    (λ t r. option_map_some (λ entries. (parts.0, entries)) (tail_of parts.1) line r (λ entries q e.
    subst (IsSchedule text) e ((name_decides parts.0).0 t, parts.1, (tail_law parts.1 entries).0 q, (cut_takes 58 text parts found).0))) (λ f r. cc) p)

schedule_again : (text : List ℕ) (line : List ℕ × List Entry) → IsSchedule text line → schedule_of text ≡ Some line
schedule_again text line (name, tail, entries, whole) = grind (arith, cut_at, name_lacks, name_decides, tail_law)

pub nothing_spelled : (text : List ℕ) → line_of text ≡ Some None → IsNothing text
nothing_spelled [] h = inl refl
nothing_spelled (b ∷ bs) h =
    let line = option_map (λ s. Some s) (schedule_of (b ∷ bs)) in
    cond_both (nat_eq b 35) (cond (is_utf8 (b ∷ bs)) (Some None) None) line (λ r. r ≡ Some None → IsNothing (b ∷ bs))
    (λ t r. inr (bs, ap (λ c. c ∷ bs) (eqb-true b 35 t), IsUtf8-from_is_utf8 (b ∷ bs) (cond_some (is_utf8 (b ∷ bs)) None None r).0))
    (λ f r. option_map_some (λ s. Some s) (schedule_of (b ∷ bs)) None r (λ s q e. cc)) h

pub nothing_again : (text : List ℕ) → IsNothing text → line_of text ≡ Some None
nothing_again text h1 = grind (arith, is_utf8-from_IsUtf8)

pub line_spelled : (text : List ℕ) (line : List ℕ × List Entry) → line_of text ≡ Some (Some line) → IsSchedule text line
line_spelled [] line h = cc
line_spelled (b ∷ bs) line h =
    cond_both (nat_eq b 35) (cond (is_utf8 (b ∷ bs)) (Some None) None) (option_map (λ s. Some s) (schedule_of (b ∷ bs))) (λ r. r ≡ Some (Some line) → IsSchedule (b ∷ bs) line)
    (λ t r. let e = (cond_some (is_utf8 (b ∷ bs)) None (Some line) r).1 in cc)
    (λ f r. option_map_some (λ s. Some s) (schedule_of (b ∷ bs)) (Some line) r (λ s q e. schedule_spelled (b ∷ bs) line (q ∙ e))) h

pub line_again : (text : List ℕ) (line : List ℕ × List Entry) → IsSchedule text line → line_of text ≡ Some (Some line)
line_again text ([], entries) (name, tail, more, whole) = absurd (omega (arith, name.0))
line_again text (b ∷ bs, entries) (name, tail, more, whole) =
    ap line_of whole
    ∙ ap (λ t. cond t (cond (is_utf8 (b ∷ (bs ++ 58 ∷ tail))) (Some None) None) (option_map (λ s. Some s) (schedule_of (b ∷ (bs ++ 58 ∷ tail))))) (no_name_hash b name.2.0)
    ∙ ap (option_map (λ s. Some s)) (schedule_again (b ∷ (bs ++ 58 ∷ tail)) (b ∷ bs, entries) (name, tail, more, refl))

pub nothing_law : (text : List ℕ) → (line_of text ≡ Some None) ↔ IsNothing text
nothing_law text = (nothing_spelled text, nothing_again text)

pub schedule_law : (text : List ℕ) (line : List ℕ × List Entry) → (line_of text ≡ Some (Some line)) ↔ IsSchedule text line
schedule_law text line = (line_spelled text line, line_again text line)
