-- A search, step by step.
use Rattle.std.proofs.Common.{◌≡◌, ℕ, ◌+◌, ◌*◌, ◌-◌, ◌<◌, ◌≤◌, ◌++◌, Bool, true, false, not, List, [], ◌∷◌, Option, None, Some, length}
use Rattle.std.proofs.Common.{cond, count_by, get_or, is_some, refl, sym, ap, ◌∙◌, subst, arith, inl, inr, eq-eqb}
use Rattle.std.specs.Prelude.{◌⊎◌, ◌==◌, slice_index_or, slice_set}
use Rattle.std.proofs.lemmas.Bool.{cases_eq}
use Rattle.std.proofs.lemmas.List.{get_or-set_same, get_or-set_other, length-set, length_push, same_from_push}
use Rattle.std.proofs.lemmas.List.Sums.{sum_by-set}
use Rattle.node_table.specs.declared.node.Node.{Node}
use Rattle.node_table.specs.declared.node.Node.TheVariants.{False, True, Inner}
use Rattle.node_table.specs.declared.node.NodeKey.{NodeKey}
use Rattle.node_table.specs.declared.node.Branch.{Branch}
use Rattle.node_table.specs.Diagram.{Graph, IsReduced, IsBelow, branch_at, is_node, levels, level_of}
use Rattle.node_table.specs.Laws.{Cofactors}
use Rattle.node_table.specs.Made.{inner}
use Rattle.node_table.specs.Value.{value_of}
use Rattle.cube_models.specs.Way.{AreMarks, IsDead, IsSearch, IsStep, Leads, allows, is_marked, next_in, next_of, sign_at}
use Rattle.cube_models.proofs.Ways.{arrives, chosen_high, chosen_low, closed_marked, end_unmarked, has_branch}
use Rattle.cube_models.proofs.Ways.{next_below, none_chosen, way_longer, way_shorter, way_stays}

-- A node both of whose children are closed is dead.
no_way : Cofactors → (graph : Graph) → IsReduced graph → (signs : List (Option Bool)) (round : ℕ) (marks : List ℕ)
    → AreMarks graph signs round marks → (key : ℕ) (b : Branch) → branch_at graph key ≡ Some b
    → next_in graph signs marks round b ≡ None → IsDead graph signs (inner key)
no_way cofactors graph reduced signs round marks known key b at none a agrees =
    let has = has_branch cofactors graph reduced key b at in
    let shut = none_chosen (is_marked marks round) (sign_at graph signs) b none in
    let sign = sign_at graph signs b.level in
    elim (a b.level) as (λ t. a b.level ≡ t → value_of graph a (inner key) ≡ false) [
      | true ↦ λ on.
          let allowed : allows sign true ≡ true = ap (allows sign) (sym on) ∙ agrees b.level has.small in
          let dead = known.dead b.high has.high.stands (closed_marked (allows sign true)
          (is_marked marks round b.high) shut.high allowed) in
          has.value a ∙ chosen_high (a b.level) (value_of graph a b.high) (value_of graph a b.low) on ∙ dead a agrees
      | false ↦ λ off.
          let allowed : allows sign false ≡ true = ap (allows sign) (sym off) ∙ agrees b.level has.small in
          let dead = known.dead b.low has.low.stands (closed_marked (allows sign false) (is_marked marks round b.low) shut.low allowed) in
          has.value a ∙ chosen_low (a b.level) (value_of graph a b.high) (value_of graph a b.low) off ∙ dead a agrees
    ] refl

-- one mark more
grows : (marks : List ℕ) (round key : ℕ) → key < length marks → (node : Node) → is_marked marks round node ≡ true
    → is_marked (slice_set marks key round) round node ≡ true
grows marks round key small False is = refl
grows marks round key small True is = is
grows marks round key small (Inner other) is = elim (cases_eq other.index key) [
  | inl same ↦
      ap (λ (n : ℕ). slice_index_or (slice_set marks key round) n 0 == round) same
      ∙ eq-eqb _ _ (get_or-set_same marks key round 0 small)
  | inr differ ↦ ap (λ (n : ℕ). n == round) (get_or-set_other marks key other.index round 0 differ) ∙ is
]

others_same : (graph : Graph) (marks : List ℕ) (round key : ℕ) (node : Node) → level_of graph node < level_of graph (inner key)
    → is_marked (slice_set marks key round) round node ≡ is_marked marks round node
others_same graph marks round key False above = refl
others_same graph marks round key True above = refl
others_same graph marks round key (Inner other) above =
    ap (λ (n : ℕ). n == round) (get_or-set_other marks key other.index round 0
    (λ same. let level : level_of graph (inner other.index) ≡ level_of graph (inner key) = ap (λ n. level_of graph (inner n)) same in
    omega (arith, level, above)))

more_dead : (graph : Graph) (signs : List (Option Bool)) (round : ℕ) (marks : List ℕ) → AreMarks graph signs round marks → (key : ℕ)
    → key < length marks → IsDead graph signs (inner key) → (node : Node) → is_node graph node ≡ true
    → is_marked (slice_set marks key round) round node ≡ true → IsDead graph signs node
more_dead graph signs round marks known key small dead False stands is = known.dead False stands is
more_dead graph signs round marks known key small dead True stands is = known.dead True stands is
more_dead graph signs round marks known key small dead (Inner other) stands is = elim (cases_eq other.index key) [
  | inl same ↦ subst (λ (n : ℕ). IsDead graph signs (inner n)) (sym same) dead
  | inr differ ↦
      known.dead (Inner other) stands (ap (λ (n : ℕ). n == round) (sym (get_or-set_other marks key other.index round 0 differ)) ∙ is)
]

pub AreMarks-more : (graph : Graph) (signs : List (Option Bool)) (round : ℕ) (marks : List ℕ) → AreMarks graph signs round marks → (key : ℕ)
    → key < length marks → IsDead graph signs (inner key) → AreMarks graph signs round (slice_set marks key round)
AreMarks-more graph signs round marks known key small dead = record {
  room = λ other b at. subst (λ (n : ℕ). other < n) (sym (length-set marks key round)) (known.room other b at);
  dead = more_dead graph signs round marks known key small dead;
}

-- What is known of the last key of a path.
pub record IsLast (graph : Graph) (signs : List (Option Bool)) (round : ℕ) (first : Node) (marks rest : List ℕ) (key : ℕ) : Type 0 where
  pub branch : Branch
  pub stands : branch_at graph key ≡ Some branch
  pub small : key < length marks
  pub short : length rest + 1 ≤ levels graph
  pub unmarked : is_marked marks round (inner key) ≡ false
  pub first_unmarked : is_marked marks round first ≡ false
  pub way : Leads graph (next_in graph signs marks round) first rest (inner key)

pub found_branch : (graph : Graph) (key : ℕ) → is_node graph (inner key) ≡ true → (b : Branch) × (branch_at graph key ≡ Some b)
found_branch graph key stands = elim (branch_at graph key) as (λ o. branch_at graph key ≡ o
    → (b : Branch) × (branch_at graph key ≡ Some b)) [
      | None ↦ λ none. absurd (let no : is_some (branch_at graph key) ≡ false = ap is_some none in let is : is_some (branch_at graph key)
          ≡ true = stands in cc)
      | Some b ↦ λ at. (b, at)
    ] refl

pub last_of : Cofactors → (graph : Graph) → IsReduced graph
    → (signs : List (Option Bool)) (round : ℕ) (first : Node) (marks path rest : List ℕ)
    (key : ℕ) → is_node graph first ≡ true → IsSearch graph signs round first marks path → path ≡ rest ++ key ∷ []
    → IsLast graph signs round first marks rest key
last_of cofactors graph reduced signs round first marks path rest key stands known is =
    let way = known.way rest key is in
    let end = arrives cofactors graph reduced (is_marked marks round) (sign_at graph signs) first rest (inner key) stands way in
    let found = found_branch graph key end.stands in
    let has = has_branch cofactors graph reduced key found.0 found.1 in
    let deep : level_of graph first + length rest ≤ level_of graph (inner key) = end.deep in
    let here : level_of graph (inner key) ≡ found.0.level = has.here in
    let inside : found.0.level < levels graph = has.small in
    let none = known.unmarked rest key is in
    record {
      branch = found.0;
      stands = found.1;
      small = known.known.room key found.0 found.1;
      short = omega (arith, deep, here, inside);
      unmarked = end_unmarked graph (is_marked marks round) (sign_at graph signs) first rest (inner key) none way;
      first_unmarked = none;
      way = way;
    }

not_last : (rest : List ℕ) (key : ℕ) → rest ++ key ∷ [] ≡ [] → ⊥
not_last rest key none = let long : length (rest ++ key ∷ []) ≡ length rest + 1 = length_push rest key in
    let no : length (rest ++ key ∷ []) ≡ 0 = ap length none in omega (arith, long, no)

-- Both children of the last node are closed: it is marked, and the key before it is the last one.
pub step_back : Cofactors → (graph : Graph) → IsReduced graph → (signs : List (Option Bool)) (round : ℕ) (first : Node)
    (marks path rest : List ℕ) (key : ℕ) → is_node graph first ≡ true → IsSearch graph signs round first marks path
    → path ≡ rest ++ key ∷ [] → (last : IsLast graph signs round first marks rest key) → next_in graph signs marks round last.branch ≡ None
    → IsSearch graph signs round first (slice_set marks key round) rest
step_back cofactors graph reduced signs round first marks path rest key stands known is last none =
    let marked = is_marked marks round in
    let later = is_marked (slice_set marks key round) round in
    let sign = sign_at graph signs in
    let dead = no_way cofactors graph reduced signs round marks known.known key last.branch last.stands none in
    let ends = λ (front : List ℕ) (before : ℕ) (cut : rest ≡ front ++ before ∷ []). way_shorter graph
    (next_of marked sign) first front before
    (inner key) (subst (λ (l : List ℕ). Leads graph (next_of marked sign) first l (inner key)) cut last.way) in
    record {
      known = AreMarks-more graph signs round marks known.known key last.small dead;
      way = λ front before cut.
          let end = ends front before cut in
          let below : IsBelow graph end.step.branch.level (inner key) = next_below graph reduced marked sign before end.step.branch
          (inner key)
          end.step.stands end.step.goes in
          let here : level_of graph (inner before) ≡ end.step.branch.level = (has_branch cofactors graph reduced before end.step.branch
          end.step.stands).here in
          let deeper : end.step.branch.level < level_of graph (inner key) = below.below in
          way_stays cofactors graph reduced marked later sign (level_of graph (inner key)) (others_same graph marks round key)
          (grows marks round key last.small) first front (inner before) stands (omega (arith, here, deeper)) end.way;
      unmarked = λ front before cut.
          let all = arrives cofactors graph reduced marked sign first rest (inner key) stands last.way in
          let deep : level_of graph first + length rest ≤ level_of graph (inner key) = all.deep in
          let long : length rest ≡ length front + 1 = ap length cut ∙ length_push front before in
          others_same graph marks round key first (omega (arith, deep, long)) ∙ last.first_unmarked;
      failed = λ empty.
          let same : first ≡ inner key = subst (λ (l : List ℕ). Leads graph (next_of marked sign) first l (inner key)) empty last.way in
          subst (IsDead graph signs) (sym same) dead;
    }

-- The next child is an inner node: its key is the last one.
pub step_down : (graph : Graph) (signs : List (Option Bool)) (round : ℕ) (first : Node) (marks path rest : List ℕ) (key below : ℕ)
    → IsSearch graph signs round first marks path → (last : IsLast graph signs round first marks rest key)
    → next_in graph signs marks round last.branch ≡ Some (inner below)
    → IsSearch graph signs round first marks ((rest ++ key ∷ []) ++ below ∷ [])
step_down graph signs round first marks path rest key below known last goes =
    let next = next_in graph signs marks round in
    let step : IsStep graph next (inner key) key (inner below) =
    record { branch = last.branch; named = refl; stands = last.stands; goes = goes } in
    let way = way_longer graph next first rest key (inner below) last.way step in
    record {
      known = known.known;
      way = λ front other cut.
          let same = same_from_push (rest ++ key ∷ []) front below other cut in
          subst (λ (n : ℕ). Leads graph next first front (inner n)) same.1
          (subst (λ (l : List ℕ). Leads graph next first l (inner below)) same.0 way);
      unmarked = λ front other cut. last.first_unmarked;
      failed = λ none. absurd (not_last (rest ++ key ∷ []) below none);
    }

-- The next child is True.
pub step_out : (graph : Graph) (signs : List (Option Bool)) (round : ℕ) (first : Node) (marks rest : List ℕ) (key : ℕ) (child : Node)
    → (last : IsLast graph signs round first marks rest key) → next_in graph signs marks round last.branch ≡ Some child → child ≡ True
    → Leads graph (next_in graph signs marks round) first (rest ++ key ∷ []) True
step_out graph signs round first marks rest key child last goes is =
    way_longer graph (next_in graph signs marks round) first rest key True last.way (record {
      branch = last.branch;
      named = refl;
      stands = last.stands;
      goes = goes ∙ ap (λ (n : Node). Some n) is;
    })

-- how many steps are left at most: two for each node that isn't marked, but one for each on the way
abbrev pub left : Graph → ℕ → List ℕ → List ℕ → ℕ
left graph round marks path = (2 * count_by (λ m. not (m == round)) marks + levels graph) - length path

pub fewer_back : (graph : Graph) (signs : List (Option Bool)) (round : ℕ) (first : Node) (marks path rest : List ℕ) (key : ℕ)
    → path ≡ rest ++ key ∷ [] → IsLast graph signs round first marks rest key
    → left graph round (slice_set marks key round) rest < left graph round marks path
fewer_back graph signs round first marks path rest key is last =
    let f : ℕ → ℕ = λ m. cond (not (m == round)) 1 0 in
    let count = sum_by-set f marks key round 0 last.small in
    let one : f (get_or marks key 0) ≡ 1 = ap (λ t. cond (not t) 1 0) last.unmarked in
    let zero : f round ≡ 0 = ap (λ t. cond (not t) 1 0) (eq-eqb round round refl) in
    let long : length path ≡ length rest + 1 = ap length is ∙ length_push rest key in
    let short : length rest + 1 ≤ levels graph = last.short in
    omega (arith, count, one, zero, long, short)

pub fewer_down : (graph : Graph) (signs : List (Option Bool)) (round : ℕ) (first : Node) (marks path rest : List ℕ) (key below : ℕ)
    → path ≡ rest ++ key ∷ [] → IsLast graph signs round first marks (rest ++ key ∷ []) below
    → left graph round marks ((rest ++ key ∷ []) ++ below ∷ []) < left graph round marks path
fewer_down graph signs round first marks path rest key below is last =
    let long : length path ≡ length rest + 1 = ap length is ∙ length_push rest key in
    let all : length (rest ++ key ∷ []) ≡ length rest + 1 = length_push rest key in
    let more : length ((rest ++ key ∷ []) ++ below ∷ []) ≡ length (rest ++ key ∷ []) + 1 = length_push (rest ++ key ∷ []) below in
    let short : length (rest ++ key ∷ []) + 1 ≤ levels graph = last.short in
    omega (arith, long, all, more, short)

-- The same with the lists as they stand.
pub down_to : (graph : Graph) (signs : List (Option Bool)) (round : ℕ) (first : Node) (marks path rest mid new : List ℕ) (key below : ℕ)
    → IsSearch graph signs round first marks path → (last : IsLast graph signs round first marks rest key)
    → next_in graph signs marks round last.branch ≡ Some (inner below) → mid ≡ rest ++ key ∷ [] → new ≡ mid ++ below ∷ []
    → IsSearch graph signs round first marks new
down_to graph signs round first marks path rest mid new key below known last goes one two =
    subst (IsSearch graph signs round first marks) (sym (two ∙ ap (λ (l : List ℕ). l ++ below ∷ []) one))
    (step_down graph signs round first marks path rest key below known last goes)

pub fewer_to : (graph : Graph) (signs : List (Option Bool)) (round : ℕ) (first : Node) (marks path rest mid new : List ℕ) (key below : ℕ)
    → path ≡ rest ++ key ∷ [] → mid ≡ rest ++ key ∷ [] → new ≡ mid ++ below ∷ []
    → IsLast graph signs round first marks mid below → left graph round marks new < left graph round marks path
fewer_to graph signs round first marks path rest mid new key below is one two last =
    subst (λ (l : List ℕ). left graph round marks l < left graph round marks path) (sym (two ∙ ap (λ (l : List ℕ). l ++ below ∷ []) one))
    (fewer_down graph signs round first marks path rest key below is
    (subst (λ (l : List ℕ). IsLast graph signs round first marks l below) one last))

-- marks are as at first, or of this round
pub marked_more : (before marks : List ℕ) (round key : ℕ) → key < length marks
    → ((other : ℕ) → (slice_index_or marks other 0 ≡ slice_index_or before other 0) ⊎ (slice_index_or marks other 0 ≡ round))
    → (other : ℕ) → (slice_index_or (slice_set marks key round) other 0 ≡ slice_index_or before other 0)
    ⊎ (slice_index_or (slice_set marks key round) other 0 ≡ round)
marked_more before marks round key small known other = elim (cases_eq other key) [
  | inl same ↦ inr (ap (λ (n : ℕ). slice_index_or (slice_set marks key round) n 0) same ∙ get_or-set_same marks key round 0 small)
  | inr differ ↦
      let as_before = get_or-set_other marks key other round 0 differ in
      elim (known other) [
        | inl old ↦ inl (as_before ∙ old)
        | inr new ↦ inr (as_before ∙ new)
      ]
]

-- a child that is next and no inner node is True
pub is_true_node : (marks : List ℕ) (round : ℕ) (child : Node) → is_marked marks round child ≡ false
    → ((key : NodeKey) → child ≡ Inner key → ⊥) → child ≡ True
is_true_node marks round False none other = absurd (let no : true ≡ false = none in cc)
is_true_node marks round True none other = refl
is_true_node marks round (Inner key) none other = absurd (other key refl)
