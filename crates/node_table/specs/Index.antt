-- What an index finds: the keys of stored nodes, by their level and children.
use Rattle.std.specs.Prelude.{◌≡◌, ℕ, ◌+◌, ◌-◌, ◌*◌, ◌/◌, ◌%◌, ◌^◌, ◌<◌, ◌≤◌, ◌++◌, Bool, List, Some, nat_lt, length, set, count_by}
use Rattle.std.specs.Prelude.{slice_index_or, if◌then◌else◌}
use Rattle.std.specs.List.{fold}
use Rattle.std.specs.Hash.{u32}
use Rattle.std.specs.Hash.FoldHasher as folding
use Rattle.std.specs.Hash.BuildHasherDefault.{initial_hasher}
use Rattle.std.specs.declared.hash.BuildHasherDefault.{BuildHasherDefault}
use Rattle.std.specs.declared.hash.FoldHasher.{FoldHasher}
use Rattle.slab.specs.Slab.{Slab, get}
use Rattle.node_table.specs.declared.stored.Child.{Child}
use Rattle.node_table.specs.declared.stored.StoredNode.{StoredNode}
use Rattle.node_table.specs.declared.index.Index.{Index}

-- a stored node of this level and these children
pub record IsTriple (node : StoredNode) (depth : ℕ) (where_true where_false : Child) : Type 0 where
  pub level : node.level ≡ depth
  pub high : node.high ≡ where_true
  pub low : node.low ≡ where_false

-- where the search for a triple begins, among so many places: its hash's lower half, brought below the size
unfoldable pub home_of : BuildHasherDefault FoldHasher → ℕ → ℕ → ℕ → ℕ → ℕ
home_of hasher size level high low = folding.finish (fold folding.write (initial_hasher hasher) (u32 level ++ u32 high ++ u32 low)) % 2 ^ 32
    * size / 2 ^ 32

-- the place so many steps on from the home; behind the last place comes the first one
abbrev pub place_at : ℕ → ℕ → ℕ → ℕ
place_at size home steps = if nat_lt (home + steps) size then home + steps else home + steps - size

-- a place that is not free
abbrev pub is_taken : ℕ → Bool
is_taken place = nat_lt 0 place

-- from the home on, each place before this many steps is taken
abbrev pub AreTaken : List ℕ → ℕ → ℕ → Type 0
AreTaken places home steps = (before : ℕ) → before < steps → 0 < slice_index_or places (place_at (length places) home before) 0

-- the first free place from the home on
pub record IsFirstFree (places : List ℕ) (home place : ℕ) : Type 0 where
  pub within : place < length places
  pub free : slice_index_or places place 0 ≡ 0
  pub steps : ℕ
  pub few_steps : steps < length places
  pub there : place_at (length places) home steps ≡ place
  pub before : AreTaken places home steps

-- from the home on, the key is met before a free place
pub record IsMet (places : List ℕ) (home key : ℕ) : Type 0 where
  pub steps : ℕ
  pub few_steps : steps < length places
  pub there : slice_index_or places (place_at (length places) home steps) 0 ≡ key + 1
  pub before : AreTaken places home steps

-- the key is met from the node's home on
abbrev pub IsFound : Index → ℕ → StoredNode → Type 0
IsFound index key node = IsMet index.places.items (home_of index.hasher
    (length index.places.items) node.level node.high.word node.low.word) key

-- its taken places are counted, and it has no more places than a hash tells apart
pub record IsCounted (index : Index) : Type 0 where
  pub taken : index.taken ≡ count_by is_taken index.places.items
  pub few : length index.places.items ≤ 2 ^ 32

-- each stored node is found, and its key and one fit a place
pub record IsIndexOf (index : Index) (nodes : Slab StoredNode) : Type 0 where
  pub counted : IsCounted index
  pub keys : (key : ℕ) (node : StoredNode) → get nodes key ≡ Some node → key + 1 < 2 ^ 32
  pub found : (key : ℕ) (node : StoredNode) → get nodes key ≡ Some node → IsFound index key node

-- one place more may be taken
pub record HasRoom (index : Index) : Type 0 where
  pub counted : IsCounted index
  pub room : index.taken < length index.places.items

-- the key of a node took the first free place
pub record Enters (old new : Index) (key : ℕ) (node : StoredNode) : Type 0 where
  pub place : ℕ
  pub first : IsFirstFree old.places.items (home_of old.hasher (length old.places.items) node.level node.high.word node.low.word) place
  pub written : new.places.items ≡ set old.places.items place (key + 1)
  pub taken : new.taken ≡ old.taken + 1
  pub hasher : new.hasher ≡ old.hasher
