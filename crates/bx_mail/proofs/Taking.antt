-- How the slots are joined after the current message was taken out.
use Rattle.std.proofs.Common.{◌≡◌, ◌≢◌, ℕ, suc, ◌+◌, ◌-◌, List, [], ◌∷◌, ◌++◌, length, refl, ap, ◌∙◌, arith, length-append, append_assoc}
use Rattle.std.specs.Prelude.{Option, Some, None, slice_get, slice_set}
use Rattle.std.proofs.lemmas.List.{append-nil}
use Rattle.std.proofs.lemmas.Option.{slice_get_within}
use Rattle.bx_terms.specs.Tree.{Tree}
use Rattle.bx_mail.specs.declared.slots.Slot.{Slot}
use Rattle.bx_mail.specs.Mail.{Mail, taken, take_first}
use Rattle.bx_mail.specs.Slots.{full, vacant, next_in, link_behind, last_behind, Relinked}
use Rattle.bx_mail.specs.Joined.{Leads, Ends, Frees, Joined}
use Rattle.bx_mail.proofs.Chains.{leads_append, Keeps, leads_kept, same_length, full_apart, ends_behind, ends_append, ends_kept, slot_of, frees_kept, written, relinked_leads}
use Rattle.bx_mail.proofs.Mails.{parts, saved_leads}

-- the last slot, once the message was taken
last_taken : (ss ss' : List Slot) (ps rs : List Tree) (m : Tree) (first first' last saved next : Option ℕ) → Ends ss (ps ++ m ∷ rs) first last → Leads ss (ps ++ m ∷ []) first next → Leads ss rs next None → Keeps ss ss' 0 (length rs) → Leads ss' ps first' next × Ends ss' ps first' saved → Ends ss' (ps ++ rs) first' (last_behind saved next last)
last_taken ss ss' ps [] m first first' last saved next e h k keeps cut = rw (k, append-nil ps) cut.1
last_taken ss ss' ps (r ∷ rs) m first first' last saved next e h k keeps cut =
    let old = ends_behind ss (ps ++ m ∷ []) r rs first next last h (rw (append_assoc ps (m ∷ []) (r ∷ rs)) e) in
    let new = ends_kept ss ss' (r ∷ rs) [] next last (length (r ∷ rs)) old (rw (append-nil rs) k) (omega arith) (λ j x ns c low top. keeps j x ns c (omega arith) top) in
    rw k.2 (ends_append ss' ps r rs first' next last cut.0 new)

-- the slot of the message is free, and what led to it leads on behind it
take_slot : (ss ss' : List Slot) (first first' last saved free next : Option ℕ) (passed len at : ℕ) (ps rs : List Tree) (m : Tree) → Joined ss first last saved free passed len (record { passed = ps; rest = m ∷ rs }) → slice_get ss at ≡ Some (full m next) → Leads ss ps first (Some at) → Leads ss rs next None → Relinked (slice_set ss at (vacant free)) ss' first first' saved next → Joined ss' first' (last_behind saved next last) None (Some at) 0 (len - 1) (record { passed = []; rest = ps ++ rs })
take_slot ss ss' first first' last saved free next passed len at ps rs m j here to behind r =
    let on : Leads ss (m ∷ rs) (Some at) None = (at, next, refl, here, behind) in
    let w = written ss ss' first first' saved next at (vacant free) (slice_get_within ss at _ here)
    (λ e. let f = saved_leads j at e in omega (arith, same_length ss (m ∷ rs) (f.0 ∷ m ∷ rs) (Some at) on f.1)) r in
    let away : (i : ℕ) (y : Tree) (ns : List Tree) → Leads ss (y ∷ ns) (Some i) None → length ns ≢ length rs → length ns ≢ suc (length rs) → slice_get ss' i ≡ slice_get ss i =
    λ i y ns c na nb. w.kept i (λ e. omega (arith, same_length ss (m ∷ rs) (y ∷ ns) (Some at) on (rw e at c)))
    (λ e. let f = saved_leads j i e in omega (arith, same_length ss (f.0 ∷ m ∷ rs) (y ∷ ns) (Some i) f.1 c)) in
    let keeps : Keeps ss ss' 0 (length rs) = λ i y ns c low top. away i y ns c (omega arith) (omega arith) in
    let cut = relinked_leads ss _ ss' ps (m ∷ rs) first first' saved next at (vacant free) j.at_saved j.order r w (λ i y ns c low top. away i y ns c (omega arith) (omega arith)) in
    let frees : Frees ss' j.spare free = frees_kept ss ss' j.spare j.spare free j.frees (omega arith) (λ i k q v f lt. w.kept i
    (λ e. full_apart ss m q next at (rw e at v) here) (λ e. let f = saved_leads j i e in full_apart ss f.0 q _ i v (slot_of ss f.0 (m ∷ rs) i None f.1).1)) in
    let n : len ≡ length ps + (length rs + 1) = omega (arith, j.len_is, length-append ps (m ∷ rs)) in
    record {
      order = leads_append ss' ps rs first' next None cut.0 (leads_kept ss ss' rs [] next None (length rs) behind refl (omega arith) keeps);
      at_saved = refl;
      at_last = last_taken ss ss' ps rs m first first' last saved next j.at_last (leads_append ss ps (m ∷ []) first (Some at) next to (at, next, refl, here, refl)) behind keeps cut;
      passed_is = refl;
      len_is = omega (arith, length-append ps rs);
      spare = suc j.spare;
      others = omega (arith, j.others, w.as_many);
      frees = (at, free, refl, w.there, frees);
      bounded = omega (arith, j.bounded, w.as_many);
    }

take_parts : (ss ss1 ss2 : List Slot) (first first' last saved free to : Option ℕ) (passed len at : ℕ) (ps rs : List Tree) → Joined ss first last saved free passed len (record { passed = ps; rest = rs }) → link_behind ss first saved ≡ Some at → to ≡ next_in (slice_get ss at) → ss1 ≡ slice_set ss at (vacant free) → Relinked ss1 ss2 first first' saved to → Joined ss2 first' (last_behind saved to last) None (Some at) 0 (len - 1) (take_first ps rs)
take_parts ss ss1 ss2 first first' last saved free to passed len at ps [] j e n e1 r = cc ((parts j).1)
take_parts ss ss1 ss2 first first' last saved free to passed len at ps (m ∷ rs) j e n e1 r =
    let s = slot_of ss m rs at None (rw e at (parts j).1) in
    let next : to ≡ s.0 = n ∙ ap next_in s.1 in
    take_slot ss ss2 first first' last saved free to passed len at ps rs m j (rw next s.1) (rw e at (parts j).0) (rw next s.2) (rw e1 at r)

pub take_joined : (ss ss1 ss2 : List Slot) (first first' last last' saved held left free to : Option ℕ) (passed len at : ℕ) (mail : Mail) → Joined ss first last saved free passed len mail → link_behind ss first saved ≡ Some at → held ≡ saved → left ≡ None → to ≡ next_in (slice_get ss at) → ss1 ≡ slice_set ss at (vacant free) → Relinked ss1 ss2 first first' held to → last' ≡ last_behind held to last → Joined ss2 first' last' left (Some at) 0 (len - 1) (taken mail)
take_joined ss ss1 ss2 first first' last last' saved held left free to passed len at mail j e h f n e1 r l =
    rw (f, l, h) (take_parts ss ss1 ss2 first first' last saved free to passed len at mail.passed mail.rest j e n e1 (rw h at r))
