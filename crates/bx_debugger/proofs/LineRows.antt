-- Lines of texts that are joined, and their answers.
use Rattle.std.proofs.Common.{◌≡◌, ◌∙◌, ◌+◌, ℕ, suc, Bool, true, false, ◌||◌, ◌==◌, List, [], ◌∷◌, ◌++◌, length, if◌then◌else◌, append_assoc, arith, refl, sym, ap}
use Rattle.bx_debug.specs.Sessions.{History}
use Rattle.bx_engine.specs.Sources.{Sources}
use Rattle.bx_debugger.specs.Answers.{after_lines, answered, answers, has_quit, is_quit}
use Rattle.bx_debugger.specs.Lines.{begun_line, ended_lines}

pub ended-append : (line a b : List ℕ) → ended_lines line (a ++ b) ≡ ended_lines line a ++ ended_lines (begun_line line a) b
ended-append line [] b = refl
ended-append line (x ∷ a) b = go (x == 10) (ended-append [] a b) (ended-append (line ++ x ∷ []) a b)
  where
    go : (t : Bool) → ended_lines [] (a ++ b) ≡ ended_lines [] a ++ ended_lines (begun_line [] a) b
        → ended_lines (line ++ x ∷ []) (a ++ b) ≡ ended_lines (line ++ x ∷ []) a ++ ended_lines (begun_line (line ++ x ∷ []) a) b
        → (if t then line ∷ ended_lines [] (a ++ b) else ended_lines (line ++ x ∷ []) (a ++ b))
        ≡ (if t then line ∷ ended_lines [] a else ended_lines (line ++ x ∷ []) a) ++ ended_lines (if t then begun_line [] a else begun_line (line ++ x ∷ []) a) b
    go true new more = ap (λ (ls : List (List ℕ)). line ∷ ls) new
    go false new more = more

pub begun-append : (line a b : List ℕ) → begun_line line (a ++ b) ≡ begun_line (begun_line line a) b
begun-append line [] b = refl
begun-append line (x ∷ a) b = go (x == 10) (begun-append [] a b) (begun-append (line ++ x ∷ []) a b)
  where
    go : (t : Bool) → begun_line [] (a ++ b) ≡ begun_line (begun_line [] a) b → begun_line (line ++ x ∷ []) (a ++ b) ≡ begun_line (begun_line (line ++ x ∷ []) a) b
        → (if t then begun_line [] (a ++ b) else begun_line (line ++ x ∷ []) (a ++ b)) ≡ begun_line (if t then begun_line [] a else begun_line (line ++ x ∷ []) a) b
    go true new more = new
    go false new more = more

pub quit-append : (xs ys : List (List ℕ)) → has_quit (xs ++ ys) ≡ (has_quit xs || has_quit ys)
quit-append [] ys = refl
quit-append (x ∷ xs) ys = go (is_quit x) (quit-append xs ys)
  where
    go : (b : Bool) → has_quit (xs ++ ys) ≡ (has_quit xs || has_quit ys) → (b || has_quit (xs ++ ys)) ≡ ((b || has_quit xs) || has_quit ys)
    go true h = refl
    go false h = h

pub after-append : (sources : Sources) (n : ℕ) (xs ys : List (List ℕ)) (s : History) → after_lines sources n (xs ++ ys) s ≡ after_lines sources (n + length xs) ys (after_lines sources n xs s)
after-append sources n [] ys s = let e : n + 0 ≡ n = omega arith in rw e refl
after-append sources n (x ∷ xs) ys s =
    let e : n + suc (length xs) ≡ (n + 1) + length xs = omega arith in
    rw e (after-append sources (n + 1) xs ys (answered sources n x s).1)

-- where no line quits, the answers to those behind come behind
pub answers-append : (sources : Sources) (n : ℕ) (xs ys : List (List ℕ)) (s : History) → has_quit xs ≡ false
    → answers sources n (xs ++ ys) s ≡ answers sources n xs s ++ answers sources (n + length xs) ys (after_lines sources n xs s)
answers-append sources n [] ys s none = let e : n + 0 ≡ n = omega arith in rw e refl
answers-append sources n (x ∷ xs) ys s none = go (is_quit x) none (λ on. answers-append sources (n + 1) xs ys (answered sources n x s).1 on)
  where
    go : (b : Bool) → (b || has_quit xs) ≡ false
        → (has_quit xs ≡ false → answers sources (n + 1) (xs ++ ys) (answered sources n x s).1 ≡ answers sources (n + 1) xs (answered sources n x s).1 ++ answers sources (n + 1 + length xs) ys (after_lines sources (n + 1) xs (answered sources n x s).1))
        → (if b then [] else (answered sources n x s).0 ++ answers sources (n + 1) (xs ++ ys) (answered sources n x s).1)
        ≡ (if b then [] else (answered sources n x s).0 ++ answers sources (n + 1) xs (answered sources n x s).1) ++ answers sources (n + length (x ∷ xs)) ys (after_lines sources n (x ∷ xs) s)
    go true h more = absurd (cc)
    go false h more =
        let e : n + suc (length xs) ≡ n + 1 + length xs = omega arith in
        rw e (ap (λ (t : List ℕ). (answered sources n x s).0 ++ t) (more h) ∙ sym (append_assoc (answered sources n x s).0 (answers sources (n + 1) xs (answered sources n x s).1) (answers sources (n + 1 + length xs) ys (after_lines sources (n + 1) xs (answered sources n x s).1))))

-- nothing behind a line that quits is answered
pub answers_past : (sources : Sources) (n : ℕ) (xs ys : List (List ℕ)) (s : History) → has_quit xs ≡ true → answers sources n (xs ++ ys) s ≡ answers sources n xs s
answers_past sources n [] ys s quits = absurd (cc)
answers_past sources n (x ∷ xs) ys s quits = go (is_quit x) quits (λ on. answers_past sources (n + 1) xs ys (answered sources n x s).1 on)
  where
    go : (b : Bool) → (b || has_quit xs) ≡ true → (has_quit xs ≡ true → answers sources (n + 1) (xs ++ ys) (answered sources n x s).1 ≡ answers sources (n + 1) xs (answered sources n x s).1)
        → (if b then [] else (answered sources n x s).0 ++ answers sources (n + 1) (xs ++ ys) (answered sources n x s).1) ≡ (if b then [] else (answered sources n x s).0 ++ answers sources (n + 1) xs (answered sources n x s).1)
    go true h more = refl
    go false h more = ap (λ (t : List ℕ). (answered sources n x s).0 ++ t) (more h)
