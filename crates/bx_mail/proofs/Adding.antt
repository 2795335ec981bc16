-- How the slots are joined after a message was added.
use Rattle.std.proofs.Common.{◌≡◌, ◌≢◌, ℕ, zero, suc, ◌+◌, ◌<◌, ◌^◌, List, [], ◌∷◌, ◌++◌, length, refl, ap, sym, ◌∙◌, arith, length-append, append_assoc}
use Rattle.std.specs.Prelude.{Option, Some, None, slice_get, slice_set}
use Rattle.std.proofs.lemmas.List.{append-nil}
use Rattle.std.proofs.lemmas.Option.{slice_get_within}
use Rattle.bx_share.proofs.Places.{get_more, get_last}
use Rattle.bx_terms.specs.Tree.{Tree}
use Rattle.bx_mail.specs.declared.slots.Slot.{Slot}
use Rattle.bx_mail.specs.Mail.{Mail, added}
use Rattle.bx_mail.specs.Slots.{full, vacant, next_in, Relinked, Opened}
use Rattle.bx_mail.specs.Joined.{Ends, Frees, Joined}
use Rattle.bx_mail.proofs.Chains.{leads_append, Keeps, leads_kept, same_length, full_apart, slot_of, ends_kept, same_frees, frees_kept, written, relinked_leads}
use Rattle.bx_mail.proofs.Mails.{last_leads}

-- there is a free slot: the first of them, or a new one
pub opened_joined : (ss ss0 : List Slot) (first last saved free : Option ℕ) (passed len at : ℕ) (mail : Mail) → Joined ss first last saved free passed len mail → Opened ss ss0 free at → length ss0 < 2 ^ 32 → Joined ss0 first last saved (Some at) passed len mail
opened_joined ss ss0 first last saved None passed len at mail j o bound =
    let none = same_frees ss j.spare 0 None j.frees refl in
    let wide : List Slot = ss ++ vacant None ∷ [] in
    let all : List Tree = mail.passed ++ mail.rest in
    let keeps : (low top : ℕ) → Keeps ss wide low top = λ low top i m ns c _ _. let s = slot_of ss m ns i None c in get_more ss (vacant None ∷ []) i _ s.1 ∙ sym s.1 in
    rw (o.1, o.0) (record {
      order = leads_kept ss wide all [] first None (length all) j.order refl (omega arith) (keeps 0 (length all));
      at_saved = ends_kept ss wide mail.passed mail.rest first saved (length mail.passed + length mail.rest) j.at_saved j.order (omega arith) (keeps _ _);
      at_last = ends_kept ss wide all [] first last (length all) j.at_last (rw append-nil j.order) (omega arith) (keeps 1 (length all));
      passed_is = j.passed_is;
      len_is = j.len_is;
      spare = suc zero;
      others = omega (arith, j.others, none, length-append ss (vacant None ∷ []));
      frees = (length ss, None, refl, get_last ss (vacant None), refl);
      bounded = rw o.1 at bound;
    })
opened_joined ss ss0 first last saved (Some free) passed len at mail j o bound = rw (o.1, o.0) j

-- the first free slot, and those behind it
free_slot : (ss : List Slot) (n at : ℕ) → Frees ss n (Some at) → (k : ℕ) × (next : Option ℕ) × (n ≡ suc k) × (slice_get ss at ≡ Some (vacant next)) × Frees ss k next
free_slot ss zero at h = cc
free_slot ss (suc n) at h = let e : at ≡ h.0 = cc in (n, h.1, refl, ap (slice_get ss) e ∙ h.3, h.4)

-- only the first link is new where there was no message, and then none is saved
saved_added : (ss old ss' : List Slot) (ps rs : List Tree) (first first' last saved to : Option ℕ) → Ends ss (ps ++ rs) first last → Relinked old ss' first first' last to → Ends ss' ps first saved → Ends ss' ps first' saved
saved_added ss old ss' ps rs first first' last None to k r g = g
saved_added ss old ss' ps rs first first' None (Some s) to k r g = absurd (omega (arith, ap length k, ap length g.2, length-append ps rs, length-append g.0 (g.1 ∷ [])))
saved_added ss old ss' ps rs first first' (Some l) (Some s) to k r g = rw r.0 g

-- a free slot holds the message, and the link behind the last leads to it
add_slot : (ss ss' : List Slot) (first first' last saved : Option ℕ) (passed len at : ℕ) (mail : Mail) (message : Tree) → Joined ss first last saved (Some at) passed len mail → Relinked (slice_set ss at (full message None)) ss' first first' last (Some at) → Joined ss' first' (Some at) saved (next_in (slice_get ss at)) passed (len + 1) (added mail message)
add_slot ss ss' first first' last saved passed len at mail message j r =
    let f = free_slot ss j.spare at j.frees in
    let clear : (i : ℕ) (q : Option ℕ) → slice_get ss i ≡ Some (vacant q) → last ≢ Some i = λ i q v e. let x = last_leads j i e in full_apart ss x.0 q _ i v (slot_of ss x.0 [] i None x.1).1 in
    let w = written ss ss' first first' last (Some at) at (full message None) (slice_get_within ss at _ f.3) (clear at f.1 f.3) r in
    let keeps : (top : ℕ) → Keeps ss ss' 1 top = λ top i y ns c low high. w.kept i
    (λ e. full_apart ss y f.1 _ at f.3 (slot_of ss y ns at None (rw e at c)).1)
    (λ e. let x = last_leads j i e in omega (arith, same_length ss (x.0 ∷ []) (y ∷ ns) (Some i) x.1 c)) in
    let all : List Tree = mail.passed ++ mail.rest in
    let more = append_assoc mail.passed mail.rest (message ∷ []) in
    let to = relinked_leads ss _ ss' all [] first first' last (Some at) at (full message None) j.at_last (rw append-nil j.order) r w (keeps _) in
    record {
      order = rw (← more) (leads_append ss' all (message ∷ []) first' (Some at) None to.0 (at, None, refl, w.there, refl));
      at_saved = saved_added ss _ ss' mail.passed mail.rest first first' last saved (Some at) j.at_last r
          (ends_kept ss ss' mail.passed mail.rest first saved (length mail.passed + length mail.rest) j.at_saved j.order (omega arith) (λ i y ns c low high. keeps _ i y ns c (omega arith) high));
      at_last = (all, message, sym more, to.0);
      passed_is = j.passed_is;
      len_is = omega (arith, j.len_is, ap length more, length-append all (message ∷ []));
      spare = f.0;
      others = omega (arith, j.others, w.as_many, f.2);
      frees = rw (ap next_in f.3) (frees_kept ss ss' f.0 f.0 f.1 f.4 (omega arith) (λ i n q v g lt.
          w.kept i (λ e. omega (arith, same_frees ss (suc n) (suc f.0) (Some at) (at, q, refl, rw e at v, g) (at, f.1, refl, f.3, f.4))) (clear i q v)));
      bounded = omega (arith, j.bounded, w.as_many);
    }

pub add_joined : (ss ss0 ss1 ss2 : List Slot) (first first' last saved free free' : Option ℕ) (passed len at : ℕ) (mail : Mail) (message : Tree) → Joined ss first last saved free passed len mail → Opened ss ss0 free at → length ss0 < 2 ^ 32 → free' ≡ next_in (slice_get ss0 at) → ss1 ≡ slice_set ss0 at (full message None) → Relinked ss1 ss2 first first' last (Some at) → Joined ss2 first' (Some at) saved free' passed (len + 1) (added mail message)
add_joined ss ss0 ss1 ss2 first first' last saved free free' passed len at mail message j o bound n e r =
    rw n (add_slot ss0 ss2 first first' last saved passed len at mail message (opened_joined ss ss0 first last saved free passed len at mail j o bound) (rw e at r))
