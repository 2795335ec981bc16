-- Slots that lead through messages: joined, parted, and kept where other slots are written.
use Rattle.std.proofs.Common.{◌≡◌, ◌≢◌, ℕ, zero, suc, ◌+◌, ◌<◌, ◌≤◌, List, [], ◌∷◌, ◌++◌, length, refl, ap, sym, ◌∙◌, arith, length-append, append_assoc}
use Rattle.std.proofs.lemmas.List.{length-set}
use Rattle.std.proofs.lemmas.Option.{slice_get_within}
use Rattle.bx_share.proofs.Places.{get_set_same, get_set_other}
use Rattle.std.specs.Prelude.{Option, Some, None, slice_get, slice_set}
use Rattle.bx_terms.specs.Tree.{Tree}
use Rattle.bx_mail.specs.declared.slots.Slot.{Slot}
use Rattle.bx_mail.specs.Slots.{full, vacant, contents, message_in, next_in, Relinked}
use Rattle.bx_mail.specs.Joined.{Leads, Ends, Frees}

pub leads_append : (ss : List Slot) (ms ns : List Tree) (p q r : Option ℕ) → Leads ss ms p q → Leads ss ns q r → Leads ss (ms ++ ns) p r
leads_append ss [] ns p q r h k = rw h k
leads_append ss (m ∷ ms) ns p q r h k = (h.0, h.1, h.2, h.3, leads_append ss ms ns h.1 q r h.4 k)

pub leads_split : (ss : List Slot) (ms ns : List Tree) (p r : Option ℕ) → Leads ss (ms ++ ns) p r → (q : Option ℕ) × Leads ss ms p q × Leads ss ns q r
leads_split ss [] ns p r h = (p, refl, h)
leads_split ss (m ∷ ms) ns p r h = let s = leads_split ss ms ns h.1 r h.4 in (s.0, (h.0, h.1, h.2, h.3, s.1), s.2)

-- the slot that a link leads to, and what is behind it
pub slot_of : (ss : List Slot) (m : Tree) (ms : List Tree) (at : ℕ) (q : Option ℕ) → Leads ss (m ∷ ms) (Some at) q → (next : Option ℕ) × (slice_get ss at ≡ Some (full m next)) × Leads ss ms next q
slot_of ss m ms at q h = let e : at ≡ h.0 = cc in (h.1, ap (slice_get ss) e ∙ h.3, h.4)

-- through as many messages the slots lead to one link
pub same_end : (ss : List Slot) (ms : List Tree) (p q r : Option ℕ) → Leads ss ms p q → Leads ss ms p r → q ≡ r
same_end ss [] p q r h k = sym h ∙ k
same_end ss (m ∷ ms) p q r h k = let e : k.1 ≡ h.1 = cc (ap next_in h.3, ap next_in k.3) in same_end ss ms h.1 q r h.4 (rw e at k.4)

-- a slot is known by the number of messages from it to the end
pub same_length : (ss : List Slot) (ms ns : List Tree) (p : Option ℕ) → Leads ss ms p None → Leads ss ns p None → length ms ≡ length ns
same_length ss [] [] p h k = refl
same_length ss (m ∷ ms) (n ∷ ns) p h k =
    let e : k.1 ≡ h.1 = cc (ap next_in h.3, ap next_in k.3) in let rest = same_length ss ms ns h.1 h.4 (rw e at k.4) in cc
same_length ss _ _ p h k = cc

-- the messages are those that are read along the links
pub contents_are : (ss : List Slot) (ms : List Tree) (p q : Option ℕ) → Leads ss ms p q → contents ss (length ms) p ≡ ms
contents_are ss [] p q h = refl
contents_are ss (m ∷ ms) p q h = rw (h.2, h.3, contents_are ss ms h.1 q h.4)

-- a slot of a chain that has so many messages behind it, and less than so many, is as it was
abbrev pub Keeps : List Slot → List Slot → ℕ → ℕ → Type 0
Keeps ss ss' low top = (j : ℕ) (m : Tree) (ns : List Tree) → Leads ss (m ∷ ns) (Some j) None → low ≤ length ns → length ns < top → slice_get ss' j ≡ slice_get ss j

pub leads_kept : (ss ss' : List Slot) (ms rest : List Tree) (p q : Option ℕ) (top : ℕ) → Leads ss ms p q → Leads ss rest q None → length ms + length rest ≤ top → Keeps ss ss' (length rest) top → Leads ss' ms p q
leads_kept ss ss' [] rest p q top h k within keeps = h
leads_kept ss ss' (m ∷ ms) rest p q top h k within keeps =
    let n = length-append ms rest in
    let e = keeps h.0 m (ms ++ rest) (h.0, h.1, refl, h.3, leads_append ss ms rest h.1 q None h.4 k) (omega arith) (omega arith) in
    (h.0, h.1, h.2, e ∙ h.3, leads_kept ss ss' ms rest h.1 q top h.4 k (omega arith) keeps)

-- a full slot is no free one
pub full_apart : (ss : List Slot) (m : Tree) (q r : Option ℕ) (i : ℕ) → slice_get ss i ≡ Some (vacant q) → slice_get ss i ≡ Some (full m r) → ⊥
full_apart ss m q r i v f = cc (ap message_in v, ap message_in f)

-- behind the first messages, the last slot is the last of the others
leads_behind : (ss : List Slot) (ms : List Tree) (n : Tree) (ns front : List Tree) (x : Tree) (p q : Option ℕ) (l : ℕ) → Leads ss ms p q → ms ++ n ∷ ns ≡ front ++ x ∷ [] → Leads ss front p (Some l) → Ends ss (n ∷ ns) q (Some l)
leads_behind ss [] n ns front x p q l h e f = (front, x, e, rw h at f)
leads_behind ss (m ∷ ms) n ns [] x p q l h e f = let none : ms ++ n ∷ ns ≡ [] = cc in absurd (omega (arith, ap length none, length-append ms (n ∷ ns)))
leads_behind ss (m ∷ ms) n ns (y ∷ front) x p q l h e f =
    let same : f.1 ≡ h.1 = cc (ap next_in f.3, ap next_in h.3) in leads_behind ss ms n ns front x h.1 q l h.4 (cc) (rw same at f.4)

pub ends_behind : (ss : List Slot) (ms : List Tree) (n : Tree) (ns : List Tree) (p q e : Option ℕ) → Leads ss ms p q → Ends ss (ms ++ n ∷ ns) p e → Ends ss (n ∷ ns) q e
ends_behind ss ms n ns p q None h k = absurd (omega (arith, ap length k, length-append ms (n ∷ ns)))
ends_behind ss ms n ns p q (Some l) h k = leads_behind ss ms n ns k.0 k.1 p q l h k.2 k.3

pub ends_append : (ss : List Slot) (ms : List Tree) (n : Tree) (ns : List Tree) (p q e : Option ℕ) → Leads ss ms p q → Ends ss (n ∷ ns) q e → Ends ss (ms ++ n ∷ ns) p e
ends_append ss ms n ns p q None h k = cc
ends_append ss ms n ns p q (Some l) h k = (ms ++ k.0, k.1, ap (λ t. ms ++ t) k.2 ∙ sym (append_assoc ms k.0 (k.1 ∷ [])), leads_append ss ms k.0 p q (Some l) h k.3)

-- the last slot of the first messages, with what is behind it
pub end_leads : (ss : List Slot) (ms rest : List Tree) (p : Option ℕ) (at : ℕ) (k : Ends ss ms p (Some at)) → Leads ss (ms ++ rest) p None → Leads ss (k.1 ∷ rest) (Some at) None
end_leads ss ms rest p at k h =
    let s = leads_split ss k.0 (k.1 ∷ rest) p None (rw (k.2, append_assoc k.0 (k.1 ∷ []) rest) at h) in
    rw (same_end ss k.0 p s.0 (Some at) s.1 k.3) at s.2

pub ends_kept : (ss ss' : List Slot) (ms rest : List Tree) (p e : Option ℕ) (top : ℕ) → Ends ss ms p e → Leads ss (ms ++ rest) p None → length ms + length rest ≤ top → Keeps ss ss' (suc (length rest)) top → Ends ss' ms p e
ends_kept ss ss' ms rest p None top h k within keeps = h
ends_kept ss ss' ms rest p (Some l) top h k within keeps =
    let n : length ms ≡ length h.0 + 1 = ap length h.2 ∙ length-append h.0 (h.1 ∷ []) in
    (h.0, h.1, h.2, leads_kept ss ss' h.0 (h.1 ∷ rest) p (Some l) top h.3 (end_leads ss ms rest p l h k) (omega arith) keeps)

-- free slots are known by the number of free slots from them on
pub same_frees : (ss : List Slot) (m n : ℕ) (p : Option ℕ) → Frees ss m p → Frees ss n p → m ≡ n
same_frees ss zero zero p h k = refl
same_frees ss (suc m) (suc n) p h k =
    let e : k.1 ≡ h.1 = cc (ap next_in h.3, ap next_in k.3) in let rest = same_frees ss m n h.1 h.4 (rw e at k.4) in cc
same_frees ss _ _ p h k = cc

-- the free slots are as they were where each of them is
pub frees_kept : (ss ss' : List Slot) (n top : ℕ) (p : Option ℕ) → Frees ss n p → n ≤ top → ((j k : ℕ) (r : Option ℕ) → slice_get ss j ≡ Some (vacant r) → Frees ss k r → k < top → slice_get ss' j ≡ slice_get ss j) → Frees ss' n p
frees_kept ss ss' zero top p h within keeps = h
frees_kept ss ss' (suc n) top p h within keeps = (h.0, h.1, h.2, keeps h.0 n h.1 h.3 h.4 (omega arith) ∙ h.3, frees_kept ss ss' n top h.1 h.4 (omega arith) keeps)

-- what is left of the slots once one was written, and after it the link behind a slot, or the first link
pub record Written (ss ss' : List Slot) (behind to : Option ℕ) (at : ℕ) (slot : Slot) : Type 0 where
  pub there : slice_get ss' at ≡ Some slot
  pub linked : (s : ℕ) (m : Tree) (next : Option ℕ) → behind ≡ Some s → slice_get ss s ≡ Some (full m next) → slice_get ss' s ≡ Some (full m to)
  pub kept : (i : ℕ) → i ≢ at → behind ≢ Some i → slice_get ss' i ≡ slice_get ss i
  pub as_many : length ss' ≡ length ss

pub written : (ss ss' : List Slot) (first first' behind to : Option ℕ) (at : ℕ) (slot : Slot) → at < length ss → behind ≢ Some at → Relinked (slice_set ss at slot) ss' first first' behind to → Written ss ss' behind to at slot
written ss ss' first first' None to at slot here apart r = rw r.1 (record {
  there = get_set_same ss at slot here;
  linked = (λ s m next e got. cc);
  kept = (λ i n _. get_set_other ss at i slot n);
  as_many = length-set ss at slot;
})
written ss ss' first first' (Some s) to at slot here apart r =
    let one : List Slot = slice_set ss at slot in
    let new : Slot = record { message = message_in (slice_get one s); next = to } in
    rw r.1 (record {
      there = get_set_other one s at new (λ e. apart (ap Some (sym e))) ∙ get_set_same ss at slot here;
      linked = λ t m next e got.
          let same : t ≡ s = cc in
          let old : slice_get one s ≡ Some (full m next) = get_set_other ss at s slot (λ w. apart (ap Some w)) ∙ (rw same at got) in
          rw same (get_set_same one s new (slice_get_within one s _ old) ∙ rw old);
      kept = (λ i n b. get_set_other one s i new (λ e. b (ap Some (sym e))) ∙ get_set_other ss at i slot n);
      as_many = length-set one s new ∙ length-set ss at slot;
    })

-- the messages that end where the link was written lead to where it leads
pub relinked_leads : (ss old ss' : List Slot) (ps rest : List Tree) (first first' behind to : Option ℕ) (at : ℕ) (slot : Slot) → Ends ss ps first behind → Leads ss (ps ++ rest) first None → Relinked old ss' first first' behind to → Written ss ss' behind to at slot
    → Keeps ss ss' (suc (length rest)) (length ps + length rest) → Leads ss' ps first' to × Ends ss' ps first' behind
relinked_leads ss old ss' ps rest first first' None to at slot h k r w keeps = (rw h r.0, h)
relinked_leads ss old ss' ps rest first first' (Some s) to at slot h k r w keeps =
    let from = end_leads ss ps rest first s h k in
    let last = slot_of ss h.1 rest s None from in
    let front = leads_kept ss ss' h.0 (h.1 ∷ rest) first (Some s) _ h.3 from (omega (arith, ap length h.2, length-append h.0 (h.1 ∷ []))) keeps in
    rw r.0 (rw h.2 (leads_append ss' h.0 (h.1 ∷ []) first (Some s) to front (s, to, refl, w.linked s h.1 last.0 refl last.1, refl)), (h.0, h.1, h.2, front))
