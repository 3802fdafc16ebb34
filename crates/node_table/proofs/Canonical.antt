-- Canonicity: nodes of equal value under every assignment are the same node. (Bryant 1986, theorem 1.)
use Rattle.std.proofs.Common.{◌≡◌, ℕ, zero, suc, ◌-◌, ◌≤◌, ◌<◌, Bool, true, false, Some, refl, sym, ap, ◌∙◌, arith, inl, inr, eq-eqb, ne_eqb}
use Rattle.std.specs.Prelude.{if◌then◌else◌, ◌==◌}
use Rattle.std.proofs.lemmas.Bool.{cases_lt}
use Rattle.node_table.specs.declared.node.Node.{Node}
use Rattle.node_table.specs.declared.node.Node.TheVariants.{False, True, Inner}
use Rattle.node_table.specs.declared.node.NodeKey.{NodeKey}
use Rattle.node_table.specs.declared.node.Branch.{Branch}
use Rattle.node_table.specs.Diagram.{Graph, IsReduced, IsBelow, branch_at, is_node, levels, level_of}
use Rattle.node_table.specs.Value.{Levels, branch_value, value_within, value_of}
use Rattle.node_table.proofs.Values.{branch_of_node, level_of-inner, value_of-inner}

-- a value depends on the levels from the node's own on alone
agree_within : (graph : Graph) → IsReduced graph → (steps : ℕ) (a b : Levels) (node : Node) → is_node graph node ≡ true
    → ((i : ℕ) → level_of graph node ≤ i → i < levels graph → a i ≡ b i)
    → value_within steps graph a node ≡ value_within steps graph b node
agree_within graph reduced steps a b False is same = refl
agree_within graph reduced steps a b True is same = refl
agree_within graph reduced zero a b (Inner key) is same = refl
agree_within graph reduced (suc steps) a b (Inner key) is same =
    let branch = branch_of_node graph key is in
    let at = branch.1 in
    let here = level_of-inner graph key branch.0 at in
    let high = reduced.high key.index branch.0 at in
    let low = reduced.low key.index branch.0 at in
    let same_high : value_within steps graph a branch.0.high ≡ value_within steps graph b branch.0.high =
    agree_within graph reduced steps a b branch.0.high high.stands (λ i above small. same i (omega (arith, above, high.below, here)) small) in
    let same_low : value_within steps graph a branch.0.low ≡ value_within steps graph b branch.0.low =
    agree_within graph reduced steps a b branch.0.low low.stands (λ i above small. same i (omega (arith, above, low.below, here)) small) in
    let same_here : a branch.0.level ≡ b branch.0.level = same branch.0.level (omega (arith, here))
    (reduced.level key.index branch.0 at) in
    ap (branch_value a (value_within steps graph a)) at
    ∙ (λ i. if same_here i then same_high i else same_low i)
    ∙ sym (ap (branch_value b (value_within steps graph b)) at)

pub value-agree : (graph : Graph) → IsReduced graph → (a b : Levels) (node : Node) → is_node graph node ≡ true
    → ((i : ℕ) → level_of graph node ≤ i → a i ≡ b i) → value_of graph a node ≡ value_of graph b node
value-agree graph reduced a b node is same = agree_within graph reduced (levels graph) a b node is (λ i above small. same i above)

-- nor on what is no level
pub value-inside : (graph : Graph) → IsReduced graph → (a b : Levels) (node : Node) → is_node graph node ≡ true
    → ((i : ℕ) → i < levels graph → a i ≡ b i) → value_of graph a node ≡ value_of graph b node
value-inside graph reduced a b node is same = agree_within graph reduced (levels graph) a b node is (λ i above. same i)

-- one level's variable set
abbrev pub with_level : Levels → ℕ → Bool → Levels
with_level a level value i = if i == level then value else a i

pub with_level-here : (a : Levels) (level : ℕ) (value : Bool) → with_level a level value level ≡ value
with_level-here a level value = ap (λ t. if t then value else a level) (eq-eqb level level refl)

pub with_level-other : (a : Levels) (level : ℕ) (value : Bool) (i : ℕ) → (i ≡ level → ⊥) → with_level a level value i ≡ a i
with_level-other a level value i differ = ap (λ t. if t then value else a i) (ne_eqb i level differ)

-- a node below a level doesn't see its variable
pub value-below : (graph : Graph) → IsReduced graph → (a : Levels) (level : ℕ) (value : Bool) (node : Node) → IsBelow graph level node
    → value_of graph (with_level a level value) node ≡ value_of graph a node
value-below graph reduced a level value node below =
    value-agree graph reduced (with_level a level value) a node below.stands
    (λ i above. with_level-other a level value i (λ same. omega (arith, above, same, below.below)))

-- with the variable true a node has the value of its high child, else that of its low one
pub value-high : (graph : Graph) → IsReduced graph → (a : Levels) (key : NodeKey) (b : Branch) → branch_at graph key.index ≡ Some b
    → value_of graph (with_level a b.level true) (Inner key) ≡ value_of graph a b.high
value-high graph reduced a key b at =
    value_of-inner graph reduced (with_level a b.level true) key b at
    ∙ ap (λ t. if t then value_of graph (with_level a b.level true) b.high else value_of graph (with_level a b.level true) b.low)
    (with_level-here a b.level true)
    ∙ value-below graph reduced a b.level true b.high (reduced.high key.index b at)

pub value-low : (graph : Graph) → IsReduced graph → (a : Levels) (key : NodeKey) (b : Branch) → branch_at graph key.index ≡ Some b
    → value_of graph (with_level a b.level false) (Inner key) ≡ value_of graph a b.low
value-low graph reduced a key b at =
    value_of-inner graph reduced (with_level a b.level false) key b at
    ∙ ap (λ t. if t then value_of graph (with_level a b.level false) b.high else value_of graph (with_level a b.level false) b.low)
    (with_level-here a b.level false)
    ∙ value-below graph reduced a b.level false b.low (reduced.low key.index b at)

abbrev pub HaveEqualValues : Graph → Node → Node → Type 0
HaveEqualValues graph u v = (a : Levels) → value_of graph a u ≡ value_of graph a v

-- an inner node with the values of a node below it would have equal children
children_equal : (graph : Graph) → IsReduced graph → (key : NodeKey) (b : Branch) → branch_at graph key.index ≡ Some b → (v : Node)
    → IsBelow graph b.level v
    → HaveEqualValues graph (Inner key) v → HaveEqualValues graph b.high b.low
children_equal graph reduced key b at v below equal a =
    sym (value-high graph reduced a key b at) ∙ equal (with_level a b.level true) ∙ value-below graph reduced a b.level true v below
    ∙ sym (value-below graph reduced a b.level false v below) ∙ sym (equal (with_level a b.level false))
    ∙ value-low graph reduced a key b at

same_node_of : (one other : NodeKey) → one.index ≡ other.index → Inner one ≡ Inner other
same_node_of one other same = λ i. Inner (record { index = same i })

nothing : Levels
nothing i = false

-- an inner node, and one that stands below it
module _ (graph : Graph) (reduced : IsReduced graph) where
  abbrev IsCanonicalTo : ℕ → Type 0
  IsCanonicalTo steps = (u v : Node) → is_node graph u ≡ true → is_node graph v ≡ true → levels graph - level_of graph u ≤ steps
      → levels graph - level_of graph v ≤ steps → HaveEqualValues graph u v → u ≡ v

  not_below : (steps : ℕ) → IsCanonicalTo steps → (key : NodeKey) (b : Branch) → branch_at graph key.index ≡ Some b → levels graph - b.level
      ≤ suc steps → (v : Node) → IsBelow graph b.level v
      → HaveEqualValues graph (Inner key) v → ⊥
  not_below steps canonical key b at near v below equal =
      let high = reduced.high key.index b at in
      let low = reduced.low key.index b at in
      reduced.differ key.index b at
      (canonical b.high b.low high.stands low.stands (omega (arith, near, high.below, reduced.level key.index b at))
      (omega (arith, near, low.below, reduced.level key.index b at))
      (children_equal graph reduced key b at v below equal))

  same_level : (steps : ℕ) → IsCanonicalTo steps → (one other : NodeKey) (a b : Branch) → branch_at graph one.index ≡ Some a
      → branch_at graph other.index ≡ Some b
      → a.level ≡ b.level → levels graph - a.level ≤ suc steps → HaveEqualValues graph (Inner one) (Inner other) → Inner one ≡ Inner other
  same_level steps canonical one other a b at_one at_other level near equal =
      let small = reduced.level one.index a at_one in
      let highs : HaveEqualValues graph a.high b.high = λ x. sym (value-high graph reduced x one a at_one)
      ∙ equal (with_level x a.level true)
      ∙ ap (λ (l : ℕ). value_of graph (with_level x l true) (Inner other)) level ∙ value-high graph reduced x other b at_other in
      let lows : HaveEqualValues graph a.low b.low = λ x. sym (value-low graph reduced x one a at_one) ∙ equal (with_level x a.level false)
      ∙ ap (λ (l : ℕ). value_of graph (with_level x l false) (Inner other)) level ∙ value-low graph reduced x other b at_other in
      let ah = reduced.high one.index a at_one in
      let al = reduced.low one.index a at_one in
      let bh = reduced.high other.index b at_other in
      let bl = reduced.low other.index b at_other in
      let high : a.high ≡ b.high = canonical a.high b.high ah.stands bh.stands (omega (arith, near, ah.below, small))
      (omega (arith, near, bh.below, small, level)) highs in
      let low : a.low ≡ b.low = canonical a.low b.low al.stands bl.stands (omega (arith, near, al.below, small))
      (omega (arith, near, bl.below, small, level)) lows in
      same_node_of one other (reduced.unique one.index other.index a b at_one at_other (record { level = level; high = high; low = low }))

  -- a constant against an inner node
  constant_inner : (steps : ℕ) → IsCanonicalTo steps → (key : NodeKey) → is_node graph (Inner key) ≡ true
      → levels graph - level_of graph (Inner key) ≤ suc steps
      → (v : Node) → is_node graph v ≡ true → level_of graph v ≡ levels graph → HaveEqualValues graph (Inner key) v → ⊥
  constant_inner steps canonical key is near v stands bottom equal =
      let branch = branch_of_node graph key is in
      let here = level_of-inner graph key branch.0 branch.1 in
      not_below steps canonical key branch.0 branch.1 (omega (arith, near, here)) v
      (record { stands = stands; below = omega (arith, bottom, reduced.level key.index branch.0 branch.1) }) equal

  canonical_to : (steps : ℕ) → IsCanonicalTo steps
  canonical_to steps False False u v one two equal = refl
  canonical_to steps True True u v one two equal = refl
  canonical_to steps False True u v one two equal = absurd (let e : false ≡ true = equal nothing in cc)
  canonical_to steps True False u v one two equal = absurd (let e : true ≡ false = equal nothing in cc)
  canonical_to zero (Inner key) v is stands one two equal =
      let branch = branch_of_node graph key is in
      absurd (omega (arith, one, level_of-inner graph key branch.0 branch.1, reduced.level key.index branch.0 branch.1))
  canonical_to zero False (Inner key) is stands one two equal =
      let branch = branch_of_node graph key stands in
      absurd (omega (arith, two, level_of-inner graph key branch.0 branch.1, reduced.level key.index branch.0 branch.1))
  canonical_to zero True (Inner key) is stands one two equal =
      let branch = branch_of_node graph key stands in
      absurd (omega (arith, two, level_of-inner graph key branch.0 branch.1, reduced.level key.index branch.0 branch.1))
  canonical_to (suc steps) (Inner key) False is stands one two equal = absurd
      (constant_inner steps (canonical_to steps) key is one False refl refl equal)
  canonical_to (suc steps) (Inner key) True is stands one two equal = absurd
      (constant_inner steps (canonical_to steps) key is one True refl refl equal)
  canonical_to (suc steps) False (Inner key) is stands one two equal = absurd
      (constant_inner steps (canonical_to steps) key stands two False refl refl (λ a. sym (equal a)))
  canonical_to (suc steps) True (Inner key) is stands one two equal = absurd
      (constant_inner steps (canonical_to steps) key stands two True refl refl (λ a. sym (equal a)))
  canonical_to (suc steps) (Inner key) (Inner other) is stands one two equal =
      let a = branch_of_node graph key is in
      let b = branch_of_node graph other stands in
      let at_a = level_of-inner graph key a.0 a.1 in
      let at_b = level_of-inner graph other b.0 b.1 in
      elim (cases_lt a.0.level b.0.level) [
        | inl above ↦ absurd (not_below steps (canonical_to steps) key a.0 a.1 (omega (arith, one, at_a)) (Inner other)
            (record { stands = stands; below = omega (arith, above, at_b) }) equal)
        | inr not_above ↦ elim (cases_lt b.0.level a.0.level) [
          | inl above ↦ absurd (not_below steps (canonical_to steps) other b.0 b.1 (omega (arith, two, at_b)) (Inner key)
              (record { stands = is; below = omega (arith, above, at_a) }) (λ x. sym (equal x)))
          | inr same ↦ same_level steps (canonical_to steps) key other a.0 b.0 a.1 b.1 (omega (arith, not_above, same))
              (omega (arith, one, at_a)) equal
        ]
      ]

  pub canonical : (u v : Node) → is_node graph u ≡ true → is_node graph v ≡ true → HaveEqualValues graph u v → u ≡ v
  canonical u v is stands equal = canonical_to (levels graph) u v is stands (omega arith) (omega arith) equal
