-- Frames whose y registers lie in one row.
use Rattle.std.proofs.Common.{◌≡◌, ℕ, zero, suc, ◌+◌, ◌-◌, ◌<◌, ◌≤◌, List, [], ◌∷◌, ◌++◌, length, get_or, take, drop, reverse, refl, ap, min, sym, ◌∙◌, arith, inl, inr, sum_by, length-drop, length-take-le}
use Rattle.std.proofs.lemmas.List.{reverse-append, reverse-reverse, length-reverse, get_or-reverse, take_at, drop_at, drop-drop, take-take, take_all, drop_all, drop_min, drop_more, take-append-drop, drop-set-add, take-set-le, nil_from_length}
use Rattle.std.proofs.lemmas.List.Sums.{sum_by-cons}
use Rattle.std.proofs.lemmas.Bool.Decides.{nat_tests}
use Rattle.std.proofs.lemmas.Option.{slice_get_past, slice_get-get_or}
use Rattle.std.proofs.lemmas.Bool.{cases_Bool}
use Rattle.std.specs.Prelude.{Option, Some, None, Ok, Err, nat_lt, slice_get, slice_set}
use Rattle.bx_terms.specs.declared.kinds.Trap.{Trap, TheVariants.FrameSize}
use Rattle.bx_cells.specs.declared.frames.Head.{Head}
use Rattle.bx_cells.specs.declared.values.Value.{Value}
use Rattle.bx_cells.specs.StackFrame.{StackFrame}
use Rattle.bx_cells.specs.Stack.{unwound, lowest_tag, caught}
use Rattle.bx_cells.specs.TopFrame.{with_y}
use Rattle.bx_cells.specs.StackRow.{frames_of, Fits, index_of}
use Rattle.bx_cells.specs.Weights.{frame_cells, stack_cells}

-- one frame more on top, whose registers are the row's last
pub pushed : (heads : List Head) (cells more : List (Option Value)) (h : Head) → h.first ≡ length cells → frames_of (reverse (heads ++ h ∷ [])) (cells ++ more) ≡ record { cells = more; return_to = h.return_to } ∷ frames_of (reverse heads) cells
pushed heads cells more h e = rw (reverse-append heads (h ∷ []), drop_at cells more h.first (sym e), take_at cells more h.first (sym e))

-- what a y register of the topmost frame holds, by where it lies in the row
at_row : (cells : List (Option Value)) (first n : ℕ) → slice_get (drop first cells) n ≡ slice_get cells (first + n)
at_row cells zero n = ap (λ k. slice_get cells k) {x = n} {y = 0 + n} (omega arith)
at_row [] (suc first) n = refl
at_row (c ∷ cells) (suc first) n = at_row cells first n ∙ ap (λ k. slice_get (c ∷ cells) k) {x = suc (first + n)} {y = suc first + n} (omega arith)

-- a write there is a write in the row
set_top : (h : Head) (hs : List Head) (cells : List (Option Value)) (n : ℕ) (v : Value) → h.first + n < length cells → with_y n v (frames_of (h ∷ hs) cells) ≡ Ok (frames_of (h ∷ hs) (slice_set cells (h.first + n) (Some v)))
set_top h hs cells n v le =
    rw (at_row cells h.first n, slice_get-get_or cells (h.first + n) None le, drop-set-add h.first cells n (Some v), take-set-le h.first cells (h.first + n) (Some v) (omega arith))

past_top : (h : Head) (hs : List Head) (cells : List (Option Value)) (n : ℕ) (v : Value) → length cells ≤ h.first + n → with_y n v (frames_of (h ∷ hs) cells) ≡ Err FrameSize
past_top h hs cells n v le = rw (at_row cells h.first n, slice_get_past cells (h.first + n) le)

pub set_row : (hs : List Head) (cells : List (Option Value)) (n at : ℕ) (v : Value) → index_of hs (length cells) n ≡ Ok at → with_y n v (frames_of hs cells) ≡ Ok (frames_of hs (slice_set cells at (Some v)))
set_row [] cells n at v e = cc
set_row (h ∷ hs) cells n at v e = elim (cases_Bool (nat_lt (h.first + n) (length cells))) [
  | inl t ↦ let same : h.first + n ≡ at = cc (rw t at e) in rw (← same) (set_top h hs cells n v (grind (arith, nat_tests)))
  | inr f ↦ cc (rw f at e)
]

pub set_refused : (hs : List Head) (cells : List (Option Value)) (n : ℕ) (kind : Trap) (v : Value) → index_of hs (length cells) n ≡ Err kind → with_y n v (frames_of hs cells) ≡ Err kind
set_refused [] cells n kind v e = cc
set_refused (h ∷ hs) cells n kind v e = elim (cases_Bool (nat_lt (h.first + n) (length cells))) [
  | inl t ↦ cc (rw t at e)
  | inr f ↦ let same : FrameSize ≡ kind = cc (rw f at e) in rw (← same) (past_top h hs cells n v (grind (arith, nat_tests)))
]

-- how many frames there are, and those that are left where some are gone
frames_length : (hs : List Head) (cells : List (Option Value)) → length (frames_of hs cells) ≡ length hs
frames_length [] cells = refl
frames_length (h ∷ hs) cells = ap suc (frames_length hs (take h.first cells))

-- the frames behind the topmost `above` ones, by where their registers end
pub record Behind (hs : List Head) (cells : List (Option Value)) (above end : ℕ) : Type 0 where
  pub fits : Fits (drop above hs) end
  pub within : end ≤ length cells
  pub rest : drop above (frames_of hs cells) ≡ frames_of (drop above hs) (take end cells)

pub behind_none : (hs : List Head) (cells : List (Option Value)) → Fits hs (length cells) → Behind hs cells 0 (length cells)
behind_none hs cells f = record { fits = f; within = omega arith; rest = ap (frames_of hs) (sym (take_all (length cells) cells (omega arith))) }

first_fits : (hs : List Head) (cells : List (Option Value)) (above end : ℕ) (d : Head) → above < length hs → Behind hs cells above end → ((get_or hs above d).first ≤ end) × Fits (drop (above + 1) hs) (get_or hs above d).first
first_fits hs cells above end d h b = rw (drop_more hs above d h) at b.fits

here_is : (hs : List Head) (cells : List (Option Value)) (above end : ℕ) (d : Head) → above < length hs → Behind hs cells above end → drop above (frames_of hs cells) ≡ record { cells = drop (get_or hs above d).first (take end cells); return_to = (get_or hs above d).return_to } ∷ frames_of (drop (above + 1) hs) (take (get_or hs above d).first (take end cells))
here_is hs cells above end d h b = b.rest ∙ ap (λ l. frames_of l (take end cells)) (drop_more hs above d h)

pub behind_next : (hs : List Head) (cells : List (Option Value)) (above end : ℕ) (d : Head) → above < length hs → Behind hs cells above end → Behind hs cells (above + 1) (get_or hs above d).first
behind_next hs cells above end d h b =
    let f = first_fits hs cells above end d h b in
    record {
      fits = f.1;
      within = omega (arith, f.0, b.within);
      rest = sym (drop-drop 1 above (frames_of hs cells)) ∙ ap (drop 1) (here_is hs cells above end d h b) ∙ ap (frames_of (drop (above + 1) hs)) (take-take (get_or hs above d).first end cells f.0);
    }

pub caught_at : (hs : List Head) (cells : List (Option Value)) (above end : ℕ) (d : Head) → above < length hs → Behind hs cells above end → unwound (drop above (frames_of hs cells)) ≡ caught (lowest_tag (drop (get_or hs above d).first (take end cells))) (drop above (frames_of hs cells)) (unwound (drop (above + 1) (frames_of hs cells)))
caught_at hs cells above end d h b =
    let here = here_is hs cells above end d h b in
    let next = sym (drop-drop 1 above (frames_of hs cells)) ∙ ap (drop 1) here in
    rw (next, here)

-- the stack that is left where so many frames are gone from the top, of a row turned round
pub record CutAt (heads : List Head) (cells : List (Option Value)) (above kept first : ℕ) : Type 0 where
  pub fits : Fits (reverse (take kept heads)) (length (take first cells))
  pub left : frames_of (reverse (take kept heads)) (take first cells) ≡ drop above (frames_of (reverse heads) cells)

behind_all : (hs : List Head) (cells : List (Option Value)) (n : ℕ) (d : Head) → Fits hs (length cells) → n < length hs → Behind hs cells (n + 1) (get_or hs n d).first
behind_all hs cells zero d f h = behind_next hs cells 0 (length cells) d h (behind_none hs cells f)
behind_all hs cells (suc n) d f h =
    let more : suc n ≡ n + 1 = omega arith in
    rw more (behind_next hs cells (n + 1) (get_or hs n d).first d (omega arith) (behind_all hs cells n d f (omega arith)))

drop_reverse : (heads : List Head) (above kept : ℕ) → kept + above ≡ length heads → drop above (reverse heads) ≡ reverse (take kept heads)
drop_reverse heads above kept e =
    ap (λ l. drop above (reverse l)) (sym (take-append-drop kept heads))
    ∙ ap (drop above) (reverse-append (take kept heads) (drop kept heads))
    ∙ drop_at (reverse (drop kept heads)) (reverse (take kept heads)) above (length-reverse (drop kept heads) ∙ length-drop kept heads ∙ omega arith)

pub cut_at : (heads : List Head) (cells : List (Option Value)) (above kept : ℕ) (d : Head) → Fits (reverse heads) (length cells) → kept + above ≡ length heads → 0 < above → CutAt heads cells above kept (get_or heads kept d).first
cut_at heads cells zero kept d f e h = absurd (omega arith)
cut_at heads cells (suc n) kept d f e h =
    let last : length heads - 1 - n ≡ kept = omega arith in
    let same : get_or (reverse heads) n d ≡ get_or heads kept d = get_or-reverse heads n d (omega arith) ∙ ap (λ k. get_or heads k d) last in
    let one : n + 1 ≡ suc n = omega arith in
    let there = rw (one, same) at (behind_all (reverse heads) cells n d f (omega (arith, length-reverse heads))) in
    let turned = drop_reverse heads (suc n) kept e in
    record { fits = rw (length-take-le (get_or heads kept d).first cells there.within) (rw turned at there.fits); left = sym (rw turned at there.rest) }

-- the same where there may be fewer frames than are to go
pub cut_to : (heads : List Head) (cells : List (Option Value)) (above kept : ℕ) (d : Head) → Fits (reverse heads) (length cells) → kept ≡ length heads - above → 0 < above → 0 < length heads → CutAt heads cells above kept (get_or heads kept d).first
cut_to heads cells above kept d f e h n =
    let gone = min above (length heads) in
    let here = cut_at heads cells gone kept d f (omega arith) (omega arith) in
    let long : length (frames_of (reverse heads) cells) ≡ length heads = frames_length (reverse heads) cells ∙ length-reverse heads in
    record {
      fits = here.fits;
      left = here.left ∙ ap (λ k. drop (min above k) (frames_of (reverse heads) cells)) (sym long) ∙ drop_min above (frames_of (reverse heads) cells);
    }

-- the frame so far below the top, of a row turned round
pub turned_below : (heads : List Head) (cells : List (Option Value)) (above end : ℕ) (d : Head) → above < length heads → Behind (reverse heads) cells above end → (get_or heads (length heads - 1 - above) d).first ≤ end
turned_below heads cells above end d h b = rw (get_or-reverse heads above d h) at (first_fits (reverse heads) cells above end d (omega (arith, length-reverse heads)) b).0

pub turned_next : (heads : List Head) (cells : List (Option Value)) (above end : ℕ) (d : Head) → above < length heads → Behind (reverse heads) cells above end → Behind (reverse heads) cells (above + 1) (get_or heads (length heads - 1 - above) d).first
turned_next heads cells above end d h b = rw (get_or-reverse heads above d h) at (behind_next (reverse heads) cells above end d (omega (arith, length-reverse heads)) b)

pub turned_caught : (heads : List Head) (cells : List (Option Value)) (above end : ℕ) (d : Head) → above < length heads → Behind (reverse heads) cells above end → unwound (drop above (frames_of (reverse heads) cells)) ≡ caught (lowest_tag (drop (get_or heads (length heads - 1 - above) d).first (take end cells))) (drop above (frames_of (reverse heads) cells)) (unwound (drop (above + 1) (frames_of (reverse heads) cells)))
turned_caught heads cells above end d h b = rw (get_or-reverse heads above d h) at (caught_at (reverse heads) cells above end d (omega (arith, length-reverse heads)) b)

pub turned_all : (heads : List Head) (cells : List (Option Value)) (n : ℕ) → length heads ≤ n → unwound (drop n (frames_of (reverse heads) cells)) ≡ None
turned_all heads cells n h = ap unwound (drop_all n _ (omega (arith, frames_length (reverse heads) cells, length-reverse heads)))

-- rows and heads that show the same frames are the same
pub same_stack : (hs ks : List Head) (xs ys : List (Option Value)) → Fits hs (length xs) → Fits ks (length ys) → frames_of hs xs ≡ frames_of ks ys → (hs ≡ ks) × (xs ≡ ys)
same_stack [] [] xs ys f g e = (refl, nil_from_length xs f ∙ sym (nil_from_length ys g))
same_stack (h ∷ hs) (k ∷ ks) xs ys f g e =
    let one = length-take-le h.first xs f.0 in
    let other = length-take-le k.first ys g.0 in
    let below = same_stack hs ks (take h.first xs) (take k.first ys) (rw one f.1) (rw other g.1) (ap (drop 1) e) in
    let d : StackFrame = record { cells = []; return_to = None } in
    let top = ap (λ fs. get_or fs 0 d) e in
    let first : h.first ≡ k.first = sym one ∙ ap length below.1 ∙ other in
    let tops = ap (λ (z : StackFrame). z.cells) top in
    let back = ap (λ (z : StackFrame). z.return_to) top in
    ((λ i. record { first = first i; return_to = back i } ∷ below.0 i), sym (take-append-drop h.first xs) ∙ (λ i. below.1 i ++ tops i) ∙ take-append-drop k.first ys)
same_stack _ _ xs ys f g e = cc

pub same_frames : (hs ks : List Head) (xs ys : List (Option Value)) → Fits (reverse hs) (length xs) → Fits (reverse ks) (length ys) → frames_of (reverse hs) xs ≡ frames_of (reverse ks) ys → (hs ≡ ks) × (xs ≡ ys)
same_frames hs ks xs ys f g e =
    let s = same_stack (reverse hs) (reverse ks) xs ys f g e in
    (sym (reverse-reverse hs) ∙ ap reverse s.0 ∙ reverse-reverse ks, s.1)

-- how much the frames of a row hold
stacked : (hs : List Head) (cells : List (Option Value)) → Fits hs (length cells) → sum_by frame_cells (frames_of hs cells) ≡ length hs + length cells
stacked [] cells fits = omega (arith, fits)
stacked (h ∷ hs) cells fits =
    let short = length-take-le h.first cells fits.0 in
    let rest = stacked hs (take h.first cells) (rw short fits.1) in
    let all = sum_by-cons frame_cells (record { cells = drop h.first cells; return_to = h.return_to }) (frames_of hs (take h.first cells)) in
    omega (arith, rest, short, all, length-drop h.first cells, fits.0)

pub cells_of : (heads : List Head) (cells : List (Option Value)) → Fits (reverse heads) (length cells) → stack_cells (frames_of (reverse heads) cells) ≡ length heads + length cells
cells_of heads cells fits = omega (arith, stacked (reverse heads) cells fits, length-reverse heads)
