-- The chains of a plan. Chain 0 makes no choice. Each other chain leads on from the end of one before it to where next a schedule ends or
-- schedules part.
use Rattle.std.specs.Prelude.{◌≡◌, ◌≢◌, ◌⊎◌, ℕ, ◌-◌, ◌<◌, ◌≤◌, ◌==◌, ◌&&◌, nat_lt, Bool, if◌then◌else◌, List, [], ◌∷◌, ◌++◌, count_by, length, slice_index_or, slice_set, take}
use Rattle.bx_world.specs.declared.choices.Choice.{Choice}
use Rattle.bx_plan.specs.declared.chains.Head.{Head}
use Rattle.bx_plan.specs.Nodes.{EndsThere, IsPrefix}
use Rattle.bx_plan.specs.Planned.{Planned, choices_at}
use Rattle.bx_plan.specs.Plans.{choices_of}

pub record Chained : Type 0 where
  -- by chain, its choices and the chain that it stands on
  pub heads : List Head
  -- by chain, the chains that stand on it
  pub kids : List (List ℕ)
  -- by schedule, the chain with which it ends
  pub ends : List ℕ

abbrev pub no_head : Head
no_head = record { line = 0; first = 0; past = 0; above = 0 }

abbrev pub head : Chained → ℕ → Head
head all c = slice_index_or all.heads c no_head

abbrev pub above : Chained → ℕ → ℕ
above all c = (head all c).above

abbrev pub kids : Chained → ℕ → List ℕ
kids all c = slice_index_or all.kids c []

abbrev pub end : Chained → ℕ → ℕ
end all number = slice_index_or all.ends number 0

abbrev pub chain_count : Chained → ℕ
chain_count all = length all.heads

-- how often a number stands in a list
abbrev pub times : ℕ → List ℕ → ℕ
times n xs = count_by (λ x. x == n) xs

abbrev pub one_if : Bool → ℕ
one_if b = if b then 1 else 0

-- whether a chain stands on another
abbrev pub is_kid : Chained → ℕ → ℕ → Bool
is_kid all c d = nat_lt 0 d && nat_lt d (length all.heads) && above all d == c

-- the first choices of the schedule that a chain is of
abbrev pub path_at : Planned → Head → ℕ → List Choice
path_at plan head k = take k (choices_at plan head.line)

-- the choices that lead to a chain's end
abbrev pub chain_path : Planned → Chained → ℕ → List Choice
chain_path plan all c = path_at plan (head all c) (head all c).past

-- how many choices are a chain's own, the last ones
abbrev pub chain_length : Chained → ℕ → ℕ
chain_length all c = (head all c).past - (head all c).first

-- two schedules go on from there by different choices
abbrev pub Part : List (List Choice) → List Choice → Type 0
Part schedules path = (a : Choice) × (b : Choice) × (a ≢ b) × IsPrefix schedules (path ++ a ∷ []) × IsPrefix schedules (path ++ b ∷ [])

-- no chain goes on past it: it is where all begin, where a schedule ends, or where schedules part
abbrev pub IsCut : List (List Choice) → List Choice → Type 0
IsCut schedules path = (path ≡ []) ⊎ (EndsThere schedules path ⊎ Part schedules path)

-- a chain below the root leads from one cut to the next, and stands on a chain before it, which leads up to the first
pub record Begins (plan : Planned) (h : Head) (under : List Choice) (c : ℕ) : Type 0 where
  pub line : h.line < length plan
  pub some : h.first < h.past
  pub within : h.past ≤ length (choices_at plan h.line)
  pub begin : IsCut (choices_of plan) (path_at plan h h.first)
  pub end : IsCut (choices_of plan) (path_at plan h h.past)
  pub inside : (k : ℕ) → h.first < k → k < h.past → IsCut (choices_of plan) (path_at plan h k) → ⊥
  pub below : h.above < c
  pub stands : under ≡ path_at plan h h.first

-- the choices lead to some place on a chain
abbrev pub Owns : Planned → Chained → ℕ → List Choice → Type 0
Owns plan all c path = (0 < c) × (c < length all.heads) × (k : ℕ) × ((head all c).first < k) × (k ≤ (head all c).past) × (path ≡ path_at plan (head all c) k)

-- chains that stand on chains before them, up to the one that makes no choice
pub record AreForest (plan : Planned) (all : Chained) : Type 0 where
  pub some : 0 < length all.heads
  pub rows : length all.kids ≡ length all.heads
  pub root : head all 0 ≡ no_head
  pub begins : (c : ℕ) → 0 < c → c < length all.heads → Begins plan (head all c) (chain_path plan all (above all c)) c
  pub kids : (c d : ℕ) → times d (kids all c) ≡ one_if (is_kid all c d)
  -- a path lies on one chain at most
  pub alone : (c d : ℕ) (path : List Choice) → Owns plan all c path → Owns plan all d path → c ≡ d

-- the chains of a plan: each distinct prefix of its schedules lies on one, and each schedule ends with one
pub record AreChains (plan : Planned) (all : Chained) : Type 0 where
  pub forest : AreForest plan all
  pub owned : (path : List Choice) → path ≢ [] → IsPrefix (choices_of plan) path → (c : ℕ) × Owns plan all c path
  pub long : length all.ends ≡ length plan
  pub ends : (number : ℕ) → number < length plan → (end all number < length all.heads) × (chain_path plan all (end all number) ≡ choices_at plan number)

-- one chain more, on a chain that is there
abbrev pub begun : Head → Chained → Chained
begun head all = record {
  heads = all.heads ++ head ∷ [];
  kids = slice_set all.kids head.above (kids all head.above ++ length all.heads ∷ []) ++ [] ∷ [];
  ends = all.ends;
}

-- a schedule ends with that chain
abbrev pub noted : ℕ → ℕ → Chained → Chained
noted line chain all = record { heads = all.heads; kids = all.kids; ends = slice_set all.ends line chain }
