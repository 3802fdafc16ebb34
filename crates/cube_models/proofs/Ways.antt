-- Steps of the way down, and ways.
use Rattle.std.proofs.Common.{◌≡◌, ℕ, ◌+◌, ◌<◌, ◌≤◌, ◌++◌, Bool, true, false, not, ◌&&◌, List, [], ◌∷◌, Option, None, Some, length}
use Rattle.std.proofs.Common.{is_some, refl, sym, ap, ◌∙◌, subst, arith, inl, inr, eq-eqb}
use Rattle.std.specs.Prelude.{◌⊎◌, ◌==◌, if◌then◌else◌}
use Rattle.node_table.specs.declared.node.Node.{Node}
use Rattle.node_table.specs.declared.node.Branch.{Branch}
use Rattle.node_table.specs.Diagram.{Graph, IsReduced, IsBelow, branch_at, is_node, levels, level_of, level_in, high_at, low_at}
use Rattle.node_table.specs.Diagram.{child_in}
use Rattle.node_table.specs.Laws.{Cofactors}
use Rattle.node_table.specs.Made.{inner}
use Rattle.node_table.specs.Value.{Levels, value_of}
use Rattle.cube_models.specs.Way.{IsStep, Leads, allows, is_open, next_of}

-- a node that has a branch: its level, its children, and its value by them
pub record HasBranch (graph : Graph) (node : Node) (b : Branch) : Type 0 where
  pub here : level_of graph node ≡ b.level
  pub small : b.level < levels graph
  pub high : IsBelow graph b.level b.high
  pub low : IsBelow graph b.level b.low
  pub value : (a : Levels) → value_of graph a node ≡ (if a b.level then value_of graph a b.high else value_of graph a b.low)

at_own : (level : ℕ) (x y : Node) → (if level == level then x else y) ≡ x
at_own level x y = ap (λ t. if t then x else y) (eq-eqb level level refl)

pub has_branch : Cofactors → (graph : Graph) → IsReduced graph → (key : ℕ) (b : Branch) → branch_at graph key ≡ Some b
    → HasBranch graph (inner key) b
has_branch cofactors graph reduced key b at = record {
  here = ap (level_in (levels graph)) at;
  small = reduced.level key b at;
  high = reduced.high key b at;
  low = reduced.low key b at;
  value = λ a.
      let stands : is_node graph (inner key) ≡ true = ap is_some at in
      let high : high_at graph b.level (inner key) ≡ b.high = ap (child_in (λ x. x.high) b.level (inner key)) at
      ∙ at_own b.level b.high (inner key) in
      let low : low_at graph b.level (inner key) ≡ b.low = ap (child_in (λ x. x.low) b.level (inner key)) at
      ∙ at_own b.level b.low (inner key) in
      cofactors.value graph reduced a b.level (inner key) stands
      ∙ (λ i. if a b.level then value_of graph a (high i) else value_of graph a (low i));
}

pub chosen_low : (t : Bool) (x y : Bool) → t ≡ false → (if t then x else y) ≡ y
chosen_low t x y off = ap (λ c. if c then x else y) off

pub chosen_high : (t : Bool) (x y : Bool) → t ≡ true → (if t then x else y) ≡ x
chosen_high t x y on = ap (λ c. if c then x else y) on

-- a child is open where its value is allowed and it isn't marked
pub open_allows : (p q : Bool) → p && not q ≡ true → p ≡ true
open_allows true q is = refl
open_allows false q is = is

pub open_unmarked : (p q : Bool) → p && not q ≡ true → q ≡ false
open_unmarked true true is = sym is
open_unmarked true false is = refl
open_unmarked false q is = absurd (let no : false ≡ true = is in cc)

pub closed_marked : (p q : Bool) → p && not q ≡ false → p ≡ true → q ≡ true
closed_marked true true closed is = refl
closed_marked true false closed is = sym closed
closed_marked false q closed is = absurd (let no : false ≡ true = is in cc)

still_closed : (p q r : Bool) → p && not q ≡ false → (q ≡ true → r ≡ true) → p && not r ≡ false
still_closed true true r closed more = ap not (more refl)
still_closed true false r closed more = absurd (let no : true ≡ false = closed in cc)
still_closed false q r closed more = refl

-- which child is next
pub record IsLow (marked : Node → Bool) (sign : ℕ → Option Bool) (b : Branch) (child : Node) : Type 0 where
  pub is : b.low ≡ child
  pub allowed : is_open marked (sign b.level) false b.low ≡ true

pub record IsHigh (marked : Node → Bool) (sign : ℕ → Option Bool) (b : Branch) (child : Node) : Type 0 where
  pub is : b.high ≡ child
  pub closed : is_open marked (sign b.level) false b.low ≡ false
  pub allowed : is_open marked (sign b.level) true b.high ≡ true

some_same : (x y : Node) → Some x ≡ Some y → x ≡ y
some_same x y same = cc

pub chosen : (marked : Node → Bool) (sign : ℕ → Option Bool) (b : Branch) (child : Node) → next_of marked sign b ≡ Some child
    → IsLow marked sign b child ⊎ IsHigh marked sign b child
chosen marked sign b child goes =
    let rest : Option Node = if is_open marked (sign b.level) true b.high then Some b.high else None in
    elim (is_open marked (sign b.level) false b.low) as (λ t. is_open marked (sign b.level) false b.low ≡ t
    → (if t then Some b.low else rest) ≡ Some child → IsLow marked sign b child ⊎ IsHigh marked sign b child) [
      | true ↦ λ allowed is. inl (record { is = some_same b.low child is; allowed = allowed })
      | false ↦ λ closed is.
          elim (is_open marked (sign b.level) true b.high) as (λ t. is_open marked (sign b.level) true b.high ≡ t
          → (if t then Some b.high else None) ≡ Some child → IsLow marked sign b child ⊎ IsHigh marked sign b child) [
            | true ↦ λ allowed same. inr (record { is = some_same b.high child same; closed = closed; allowed = allowed })
            | false ↦ λ shut same. absurd (let no : None ≡ Some child = same in cc)
          ] refl is
    ] refl goes

pub record IsShut (marked : Node → Bool) (sign : ℕ → Option Bool) (b : Branch) : Type 0 where
  pub low : is_open marked (sign b.level) false b.low ≡ false
  pub high : is_open marked (sign b.level) true b.high ≡ false

pub none_chosen : (marked : Node → Bool) (sign : ℕ → Option Bool) (b : Branch) → next_of marked sign b ≡ None → IsShut marked sign b
none_chosen marked sign b none =
    let rest : Option Node = if is_open marked (sign b.level) true b.high then Some b.high else None in
    elim (is_open marked (sign b.level) false b.low) as (λ t. is_open marked (sign b.level) false b.low ≡ t
    → (if t then Some b.low else rest) ≡ None → IsShut marked sign b) [
      | true ↦ λ allowed is. absurd (let no : Some b.low ≡ None = is in cc)
      | false ↦ λ closed is.
          elim (is_open marked (sign b.level) true b.high) as (λ t. is_open marked (sign b.level) true b.high ≡ t
          → (if t then Some b.high else None) ≡ None → IsShut marked sign b) [
            | true ↦ λ allowed same. absurd (let no : Some b.high ≡ None = same in cc)
            | false ↦ λ shut same. record { low = closed; high = shut }
          ] refl is
    ] refl none

low_next : (marked : Node → Bool) (sign : ℕ → Option Bool) (b : Branch) (child : Node) → IsLow marked sign b child
    → next_of marked sign b ≡ Some child
low_next marked sign b child low =
    let rest : Option Node = if is_open marked (sign b.level) true b.high then Some b.high else None in
    ap (λ t. if t then Some b.low else rest) low.allowed ∙ ap (λ (n : Node). Some n) low.is

high_next : (marked : Node → Bool) (sign : ℕ → Option Bool) (b : Branch) (child : Node) → IsHigh marked sign b child
    → next_of marked sign b ≡ Some child
high_next marked sign b child high =
    let rest : Option Node = if is_open marked (sign b.level) true b.high then Some b.high else None in
    ap (λ t. if t then Some b.low else rest) high.closed ∙ ap (λ t. if t then Some b.high else None) high.allowed
    ∙ ap (λ (n : Node). Some n) high.is

-- the child that is next isn't marked, and stands below
pub next_unmarked : (marked : Node → Bool) (sign : ℕ → Option Bool) (b : Branch) (child : Node) → next_of marked sign b ≡ Some child
    → marked child ≡ false
next_unmarked marked sign b child goes = elim (chosen marked sign b child goes) [
  | inl low ↦ ap marked (sym low.is) ∙ open_unmarked (allows (sign b.level) false) (marked b.low) low.allowed
  | inr high ↦ ap marked (sym high.is) ∙ open_unmarked (allows (sign b.level) true) (marked b.high) high.allowed
]

pub next_below : (graph : Graph) → IsReduced graph → (marked : Node → Bool) (sign : ℕ → Option Bool) (key : ℕ) (b : Branch) (child : Node)
    → branch_at graph key ≡ Some b → next_of marked sign b ≡ Some child → IsBelow graph b.level child
next_below graph reduced marked sign key b child at goes = elim (chosen marked sign b child goes) [
  | inl low ↦ subst (IsBelow graph b.level) low.is (reduced.low key b at)
  | inr high ↦ subst (IsBelow graph b.level) high.is (reduced.high key b at)
]

-- With more marks, none of them at this child, it is next yet.
pub next_stays : (one two : Node → Bool) (sign : ℕ → Option Bool) (b : Branch) (child : Node) → two child ≡ one child
    → ((node : Node) → one node ≡ true → two node ≡ true) → next_of one sign b ≡ Some child → next_of two sign b ≡ Some child
next_stays one two sign b child same grows goes = elim (chosen one sign b child goes) [
  | inl low ↦ low_next two sign b child (record {
    is = low.is;
    allowed = ap (λ t. allows (sign b.level) false && not t) (ap two low.is ∙ same ∙ ap one (sym low.is)) ∙ low.allowed;
  })
  | inr high ↦ high_next two sign b child (record {
    is = high.is;
    closed = still_closed (allows (sign b.level) false) (one b.low) (two b.low) high.closed (grows b.low);
    allowed = ap (λ t. allows (sign b.level) true && not t) (ap two high.is ∙ same ∙ ap one (sym high.is)) ∙ high.allowed;
  })
]

-- where a way ends, and how long it is at most
pub record Arrives (graph : Graph) (first : Node) (keys : List ℕ) (end : Node) : Type 0 where
  pub stands : is_node graph end ≡ true
  pub deep : level_of graph first + length keys ≤ level_of graph end

pub arrives : Cofactors → (graph : Graph) → IsReduced graph → (marked : Node → Bool) (sign : ℕ → Option Bool) (first : Node) (keys : List ℕ)
    (end : Node) → is_node graph first ≡ true → Leads graph (next_of marked sign) first keys end → Arrives graph first keys end
arrives cofactors graph reduced marked sign first [] end stands way = record {
  stands = subst (λ (n : Node). is_node graph n ≡ true) way stands;
  deep = let same : level_of graph first ≡ level_of graph end = ap (level_of graph) way in omega (arith, same);
}
arrives cofactors graph reduced marked sign first (key ∷ keys) end stands way =
    let child = way.0 in
    let step = way.1.0 in
    let below = next_below graph reduced marked sign key step.branch child step.stands step.goes in
    let here : level_of graph first ≡ step.branch.level = ap (level_of graph) step.named
    ∙ (has_branch cofactors graph reduced key step.branch step.stands).here in
    let rest = arrives cofactors graph reduced marked sign child keys end below.stands way.1.1 in
    let deeper : step.branch.level < level_of graph child = below.below in
    let further : level_of graph child + length keys ≤ level_of graph end = rest.deep in
    record { stands = rest.stands; deep = omega (arith, here, deeper, further) }

-- a step more at the end, and one less
pub way_longer : (graph : Graph) (next : Branch → Option Node) (first : Node) (front : List ℕ) (key : ℕ) (child : Node)
    → Leads graph next first front (inner key) → IsStep graph next (inner key) key child → Leads graph next first (front ++ key ∷ []) child
way_longer graph next first [] key child way step =
    (child, (subst (λ (n : Node). IsStep graph next n key child) (sym way) step, refl))
way_longer graph next first (one ∷ front) key child way step =
    (way.0, (way.1.0, way_longer graph next way.0 front key child way.1.1 step))

pub record Ends (graph : Graph) (next : Branch → Option Node) (first : Node) (front : List ℕ) (key : ℕ) (end : Node) : Type 0 where
  pub way : Leads graph next first front (inner key)
  pub step : IsStep graph next (inner key) key end

pub way_shorter : (graph : Graph) (next : Branch → Option Node) (first : Node) (front : List ℕ) (key : ℕ) (end : Node)
    → Leads graph next first (front ++ key ∷ []) end → Ends graph next first front key end
way_shorter graph next first [] key end way =
    let step = way.1.0 in record {
      way = step.named;
      step = record { branch = step.branch; named = refl; stands = step.stands; goes = step.goes ∙ ap (λ (n : Node). Some n) way.1.1 };
    }
way_shorter graph next first (one ∷ front) key end way =
    let rest = way_shorter graph next way.0 front key end way.1.1 in
    record { way = (way.0, (way.1.0, rest.way)); step = rest.step }

-- no node on a way from one that isn't marked is marked
pub end_unmarked : (graph : Graph) (marked : Node → Bool) (sign : ℕ → Option Bool) (first : Node) (keys : List ℕ) (end : Node)
    → marked first ≡ false → Leads graph (next_of marked sign) first keys end → marked end ≡ false
end_unmarked graph marked sign first [] end none way = ap marked (sym way) ∙ none
end_unmarked graph marked sign first (key ∷ keys) end none way =
    end_unmarked graph marked sign way.0 keys end (next_unmarked marked sign way.1.0.branch way.0 way.1.0.goes) way.1.1

-- A way to a node stays one where nodes of its level and below are marked.
pub way_stays : Cofactors → (graph : Graph) → IsReduced graph → (one two : Node → Bool) (sign : ℕ → Option Bool) (level : ℕ)
    → ((node : Node) → level_of graph node < level → two node ≡ one node) → ((node : Node) → one node ≡ true → two node ≡ true)
    → (first : Node) (keys : List ℕ) (end : Node) → is_node graph first ≡ true → level_of graph end < level
    → Leads graph (next_of one sign) first keys end → Leads graph (next_of two sign) first keys end
way_stays cofactors graph reduced one two sign level same grows first [] end stands above way = way
way_stays cofactors graph reduced one two sign level same grows first (key ∷ keys) end stands above way =
    let child = way.0 in
    let step = way.1.0 in
    let below = next_below graph reduced one sign key step.branch child step.stands step.goes in
    let rest = arrives cofactors graph reduced one sign child keys end below.stands way.1.1 in
    let deep : level_of graph child + length keys ≤ level_of graph end = rest.deep in
    let further : IsStep graph (next_of two sign) first key child = record {
      branch = step.branch;
      named = step.named;
      stands = step.stands;
      goes = next_stays one two sign step.branch child (same child (omega (arith, deep, above))) grows step.goes;
    } in
    (child, (further, way_stays cofactors graph reduced one two sign level same grows child keys end below.stands above way.1.1))
