-- What a trail keeps beside its choices: where some prefixes of them lead, each longer than the one before.
use Rattle.std.specs.Prelude.{◌≡◌, ◌≢◌, ℕ, ◌+◌, ◌-◌, ◌^◌, ◌<◌, ◌≤◌, List, length, slice_index_or}
use Rattle.bx_world.specs.Running.{Ended}
use Rattle.bx_replay.specs.Courses.{Course, reached}
use Rattle.bx_replay.specs.declared.kept.Kept.{Kept}

-- where a prefix leads of which each choice was applied
pub record IsReached (course : Course) (end : Ended) : Type 0 where
  pub ahead : course.start.applied ≤ end.applied
  pub within : end.applied ≤ course.start.applied + length course.choices
  pub is : end ≡ reached (end.applied - course.start.applied) course

-- each is where a prefix leads, of one choice at least, and of more than the one before
pub record AreKept (course : Course) (kept : List Kept) : Type 0 where
  pub few : course.start.applied + length course.choices < 2 ^ 64
  pub ends : (k : ℕ) (d : Kept) → k < length kept → IsReached course (slice_index_or kept k d).end
  pub past : (k : ℕ) (d : Kept) → k < length kept → course.start.applied < (slice_index_or kept k d).end.applied
  pub rising : (j k : ℕ) (d : Kept) → j < k → k < length kept → (slice_index_or kept j d).end.applied < (slice_index_or kept k d).end.applied

-- the first n lie within so many choices, and the next one does not
pub record Parts (kept : List Kept) (applied n : ℕ) : Type 0 where
  pub bound : n ≤ length kept
  pub last : (d : Kept) → 0 < n → (slice_index_or kept (n - 1) d).end.applied ≤ applied
  pub next : (d : Kept) → n < length kept → applied < (slice_index_or kept n d).end.applied

-- the prefix that leads to this end is another one; all others lead where they led
pub record Turns (old new : Course) (end : Ended) : Type 0 where
  pub begins : new.start ≡ old.start
  pub count : length new.choices ≡ length old.choices
  pub there : IsReached new end
  pub elsewhere : (n : ℕ) → n ≢ end.applied - old.start.applied → reached n new ≡ reached n old

-- the last end that is kept which so many choices lead to, or fewer, or the start
pub record IsNearest (course : Course) (kept : List Kept) (count : ℕ) (end : Ended) : Type 0 where
  pub is : IsReached course end
  pub before : end.applied ≤ course.start.applied + count
  pub last : (k : ℕ) (d : Kept) → k < length kept → (slice_index_or kept k d).end.applied ≤ course.start.applied + count
      → (slice_index_or kept k d).end.applied ≤ end.applied

-- as many choices lead to each
pub record SameCounts (old new : List Kept) : Type 0 where
  pub long : length new ≡ length old
  pub same : (k : ℕ) (d : Kept) → k < length old → (slice_index_or new k d).end.applied ≡ (slice_index_or old k d).end.applied
