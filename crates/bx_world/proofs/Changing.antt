-- Answers of changes, carried from a part to the whole.
use Rattle.bx_world.proofs.Words.{◌≡◌, Result, Ok, Err, OnErr, Does, Fault, Memory}

pub does_through : {S T A : Type 0} (takes taken : Type 0) (old new : S) (before after : T) (r : Result A Fault) (said : Result (S × A) Fault) (told : Result (T × A) Fault)
    → (takes → taken) → ((x : A) → said ≡ Ok (new, x) → told ≡ Ok (after, x)) → ((fault : Fault) → said ≡ Err fault → told ≡ Err fault) → (new ≡ old → after ≡ before)
    → Does takes old new r said → Does taken before after r told
does_through takes taken old new before after (Ok x) said told t good bad same h = good x h
does_through takes taken old new before after (Err Memory) said told t good bad same h = (t h.0, same h.1)
does_through takes taken old new before after (Err fault) said told t good bad same h = (bad fault h.0, same h.1)

-- the same of a refusal alone
pub err_through : {S T A B : Type 0} (takes taken : Type 0) (old new : S) (before after : T) (f : Fault) (said : Result (S × A) Fault) (told : Result (T × B) Fault)
    → (takes → taken) → ((fault : Fault) → said ≡ Err fault → told ≡ Err fault) → (new ≡ old → after ≡ before)
    → Does {S = S} {A = A} takes old new (Err f) said → Does {S = T} {A = B} taken before after (Err f) told
err_through takes taken old new before after Memory said told t bad same h = (t h.0, same h.1)
err_through takes taken old new before after fault said told t bad same h = (bad fault h.0, same h.1)

pub on_err : {X E : Type 0} (r : Result X E) (P : Type 0) → P → OnErr r P
on_err (Ok x) P h = tt
on_err (Err e) P h = h
