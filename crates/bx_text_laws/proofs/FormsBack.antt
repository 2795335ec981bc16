-- What is printed of a term, with a full stop at the end of its line, is read as a form, whatever follows the line.
use Rattle.std.proofs.Common.{◌≡◌, ℕ, ◌+◌, List, ◌∷◌, ◌++◌, refl, ◌∙◌}
use Rattle.bx_text.specs.Place.{Place}
use Rattle.bx_text.specs.Named as named
use Rattle.bx_text.specs.Token.{Lexeme}
use Rattle.bx_text.specs.Lexing.{lexeme_at}
use Rattle.bx_text.specs.Grammar.{Form, a_form}
use Rattle.bx_text.specs.Printed.{node_text}
use Rattle.bx_text.specs.Tree.{Tree}
use Rattle.bx_text_laws.specs.Shown.{Shown, unplaced}
use Rattle.bx_text_laws.proofs.Frame.{on}
use Rattle.bx_text_laws.proofs.Finding.{standing}
use Rattle.bx_text_laws.proofs.ReadBack.{Read, ended, next_of, printed_read, stop_at}

-- a form is read from p on, up to the end of a line, behind which this rest stands
pub record FormRead (p : Place) (rest : List ℕ) (t : Tree) : Type 0 where
  pub tree : Tree
  pub at : ℕ
  pub line : ℕ
  pub form : Form 256 p tree (on (10 ∷ rest) at line)
  pub same : unplaced tree ≡ unplaced t

ended_by : (rest : List ℕ) (t : Tree) (p q : Place) → lexeme_at p ≡ lexeme_at q → Read 256 q (46 ∷ 10 ∷ rest) t → FormRead p rest t
ended_by rest t p q same r =
    let stop : Place = on (46 ∷ 10 ∷ rest) r.end.at r.end.line in
    let left : Place = on (10 ∷ rest) (r.end.at + 1) r.end.line in
    let m : Lexeme = standing stop (named.full_stop, left) in
    record {
      tree = r.tree;
      at = r.end.at + 1;
      line = r.end.line;
      form = a_form (same ∙ r.next) (ended r) (next_of (46 ∷ 10 ∷ rest) r.end.at r.end.line named.full_stop left refl) refl;
      same = r.same;
    }

-- where the term begins at once
pub form_here : (t : Tree) (rest : List ℕ) (at line : ℕ) → Shown 256 t → FormRead (on (node_text t ++ 46 ∷ 10 ∷ rest) at line) rest t
form_here t rest at line h =
    let p : Place = on (node_text t ++ 46 ∷ 10 ∷ rest) at line in
    ended_by rest t p p refl (printed_read t 256 (46 ∷ 10 ∷ rest) h (stop_at rest) at line)

-- where it begins on the next line
pub form_below : (t : Tree) (rest : List ℕ) (at line : ℕ) → Shown 256 t → FormRead (on (10 ∷ (node_text t ++ 46 ∷ 10 ∷ rest)) at line) rest t
form_below t rest at line h =
    let text : List ℕ = node_text t ++ 46 ∷ 10 ∷ rest in
    ended_by rest t (on (10 ∷ text) at line) (on text (at + 1) (line + 1)) refl
    (printed_read t 256 (46 ∷ 10 ∷ rest) h (stop_at rest) (at + 1) (line + 1))
