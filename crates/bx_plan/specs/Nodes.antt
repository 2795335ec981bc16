-- The nodes of a plan's tree: the prefixes of its schedules, each once, in the order of their first use.
use Rattle.std.specs.Prelude.{◌≡◌, ◌⊎◌, ◌↔◌, ◌<◌, slice_index_or, ℕ, ◌-◌, Bool, false, ◌&&◌, ◌==◌, if◌then◌else◌, List, [], ◌∷◌, ◌++◌, length}
use Rattle.std.specs.List.{list_any}
use Rattle.std.specs.Cmp.Lexicographic.{pointwise}
use Rattle.bx_world.specs.declared.choices.Choice.{Choice, TheVariants.Run, TheVariants.Deliver, TheVariants.Expire}

abbrev pub choice_eq : Choice → Choice → Bool
choice_eq (Run p) (Run q) = p == q
choice_eq (Deliver p q) (Deliver r s) = p == r && q == s
choice_eq (Expire p) (Expire q) = p == q
choice_eq (Run p) (Deliver r s) = false
choice_eq (Run p) (Expire r) = false
choice_eq (Deliver p q) (Run r) = false
choice_eq (Deliver p q) (Expire r) = false
choice_eq (Expire p) (Run r) = false
choice_eq (Expire p) (Deliver r s) = false

abbrev pub has_node : List (List Choice) → List Choice → Bool
has_node nodes path = list_any (λ node. pointwise choice_eq path node) nodes

-- one node more, where it is new
abbrev pub with_node : List (List Choice) → List Choice → List (List Choice)
with_node nodes path = if has_node nodes path then nodes else nodes ++ path ∷ []

abbrev pub with_nodes : List (List Choice) → List (List Choice) → List (List Choice)
with_nodes nodes [] = nodes
with_nodes nodes (path ∷ paths) = with_nodes (with_node nodes path) paths

-- what the choices make of a prefix, one choice more each time
abbrev pub prefixes : List Choice → List Choice → List (List Choice)
prefixes front [] = []
prefixes front (choice ∷ choices) = (front ++ choice ∷ []) ∷ prefixes (front ++ choice ∷ []) choices

-- the nodes with those of one schedule more
abbrev pub with_schedule_nodes : List (List Choice) → List Choice → List (List Choice)
with_schedule_nodes nodes schedule = with_nodes nodes (prefixes [] schedule)

-- the root, which is the empty prefix, and then the nodes of each schedule
abbrev pub nodes_from : List (List Choice) → List (List Choice) → List (List Choice)
nodes_from nodes [] = nodes
nodes_from nodes (schedule ∷ schedules) = nodes_from (with_schedule_nodes nodes schedule) schedules

abbrev pub nodes_of : List (List Choice) → List (List Choice)
nodes_of schedules = nodes_from ([] ∷ []) schedules

-- how many there are below the root
abbrev pub node_count : List (List Choice) → ℕ
node_count schedules = length (nodes_of schedules) - 1

-- ---- what the nodes are, said separately from how they are numbered

-- some schedule begins so
abbrev pub IsPrefix : List (List Choice) → List Choice → Type 0
IsPrefix [] path = ⊥
IsPrefix (schedule ∷ schedules) path = ((rest : List Choice) × (schedule ≡ path ++ rest)) ⊎ IsPrefix schedules path

-- a node has this path
abbrev pub HasNode : List (List Choice) → List Choice → Type 0
HasNode nodes path = (node : ℕ) × (node < length nodes) × (slice_index_or nodes node [] ≡ path)

-- node 0 is the empty prefix; each prefix of a schedule has its node, and no other node is there; no
-- two nodes are the same prefix
pub record AreNodes (schedules nodes : List (List Choice)) : Type 0 where
  pub root : slice_index_or nodes 0 [] ≡ []
  pub members : (path : List Choice) → HasNode nodes path ↔ ((path ≡ []) ⊎ IsPrefix schedules path)
  pub distinct : (i j : ℕ) → i < length nodes → j < length nodes → slice_index_or nodes i [] ≡ slice_index_or nodes j [] → i ≡ j

-- some schedule ends there
abbrev pub EndsThere : List (List Choice) → List Choice → Type 0
EndsThere [] path = ⊥
EndsThere (schedule ∷ schedules) path = (path ≡ schedule) ⊎ EndsThere schedules path
