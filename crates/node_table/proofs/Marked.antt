-- Marking node by node: what is marked was reached, and in the end the marks are closed under children.
use Rattle.std.proofs.Common.{◌≡◌, ◌<◌, ◌+◌, ◌++◌, ◌⊎◌, ℕ, zero, suc, Bool, true, false, not, List, [], ◌∷◌, length, get_or, set, replicate}
use Rattle.std.proofs.Common.{cond, Option, None, Some, Contains, count_by, refl, sym, ap, ◌∙◌, subst, inl, inr, arith}
use Rattle.std.specs.Prelude.{is_some, if◌then◌else◌}
use Rattle.std.proofs.lemmas.Bool.{cases_eq}
use Rattle.std.proofs.lemmas.List.{get_or-set_same, get_or-set_other, length-replicate, length-set, length_push}
use Rattle.std.proofs.lemmas.List.Elements.{Contains-append_left, Contains-push, Contains-push_cases}
use Rattle.std.proofs.lemmas.List.Sums.{sum_by-set}
use Rattle.node_table.specs.declared.node.Node.{Node}
use Rattle.node_table.specs.declared.node.Node.TheVariants.{False, True, Inner}
use Rattle.node_table.specs.declared.node.Branch.{Branch}
use Rattle.node_table.specs.Diagram.{Graph, IsReduced, branch_at, branch_of, is_node}
use Rattle.node_table.specs.Made.{child_of, end_of, inner}
use Rattle.node_table.specs.Marks.{AreMarks, AreReached, IsReached, is_marked}
use Rattle.node_table.specs.Marking.{Marking, HasMark, HaveMarks, marking, with_children, with_key, with_mark, with_node}
use Rattle.node_table.proofs.Reached.{Reaches-child, Reaches-further, Reaches-itself}
use Rattle.node_table.proofs.Values.{branch_of_node}

-- both children are marked
abbrev pub AreBoth : List Bool → Branch → Type 0
AreBoth marks branch = (is_marked marks branch.high ≡ true) × (is_marked marks branch.low ≡ true)

-- Each node has a mark. Those that are marked were reached, and each of them is waiting, or current, or has marked children.
pub record IsMarking (graph : Graph) (roots : List Node) (current : Option ℕ) (now : Marking) : Type 0 where
  pub within : (key : ℕ) (branch : Branch) → branch_at graph key ≡ Some branch → key < length now.marks
  pub stand : (key : ℕ) → is_marked now.marks (inner key) ≡ true → is_node graph (inner key) ≡ true
  pub reached : (key : ℕ) → is_marked now.marks (inner key) ≡ true → IsReached graph roots (inner key)
  pub waiting : (key : ℕ) → Contains now.waiting key → is_marked now.marks (inner key) ≡ true
  pub closed : (key : ℕ) (branch : Branch) → is_marked now.marks (inner key) ≡ true → branch_at graph key ≡ Some branch
      → (Contains now.waiting key ⊎ (current ≡ Some key)) ⊎ AreBoth now.marks branch

-- these nodes are marked
abbrev pub AreMarked : List Bool → List Node → Type 0
AreMarked marks nodes = (node : Node) → Contains nodes node → is_marked marks node ≡ true

-- how many steps are left: one for each key that isn't marked, and for each that waits
abbrev pub left : Marking → ℕ
left now = count_by not now.marks + length now.waiting

-- one mark more
marked_stays : (marks : List Bool) (key : ℕ) (node : Node) → key < length marks → is_marked marks node ≡ true
    → is_marked (set marks key true) node ≡ true
marked_stays marks key False small is = refl
marked_stays marks key True small is = refl
marked_stays marks key (Inner other) small is =
    elim (cases_eq other.index key) [
      | inl same ↦ ap (λ (n : ℕ). get_or (set marks key true) n false) same ∙ get_or-set_same marks key true false small
      | inr differ ↦ get_or-set_other marks key other.index true false differ ∙ is
    ]

marked_before : (marks : List Bool) (key other : ℕ) → is_marked (set marks key true) (inner other) ≡ true
    → (is_marked marks (inner other) ≡ true) ⊎ (key ≡ other)
marked_before marks key other is =
    elim (cases_eq other key) [
      | inl same ↦ inr (sym same)
      | inr differ ↦ inl (sym (get_or-set_other marks key other true false differ) ∙ is)
    ]

module _ (graph : Graph) (roots : List Node) (current : Option ℕ) (marks : List Bool) (waits : List ℕ)
    (known : IsMarking graph roots current (marking marks waits)) where
  -- a node that is reached is marked
  IsMarking-marked : (key : ℕ) (branch : Branch) → branch_at graph key ≡ Some branch → IsReached graph roots (inner key)
      → IsMarking graph roots current (with_mark key (marking marks waits))
  IsMarking-marked key branch at reached =
      let small = known.within key branch at in
      record {
        within = λ other b is. subst (λ (n : ℕ). other < n) (sym (length-set marks key true)) (known.within other b is);
        stand = λ other is. elim (marked_before marks key other is) [
          | inl before ↦ known.stand other before
          | inr same ↦ subst (λ (n : ℕ). is_node graph (inner n) ≡ true) same (ap is_some at)
        ];
        reached = λ other is. elim (marked_before marks key other is) [
          | inl before ↦ known.reached other before
          | inr same ↦ subst (λ (n : ℕ). IsReached graph roots (inner n)) same reached
        ];
        waiting = λ other is. elim (Contains-push_cases waits key other is) [
          | inl before ↦ marked_stays marks key (inner other) small (known.waiting other before)
          | inr same ↦ subst (λ (n : ℕ). is_marked (set marks key true) (inner n) ≡ true) same (get_or-set_same marks key true false small)
        ];
        closed = λ other b is stands. elim (marked_before marks key other is) [
          | inr same ↦ inl (inl (subst (Contains (waits ++ key ∷ [])) same (Contains-push waits key)))
          | inl before ↦ elim (known.closed other b before stands) [
            | inr both ↦ inr (marked_stays marks key b.high small both.0, marked_stays marks key b.low small both.1)
            | inl (inr here) ↦ inl (inr here)
            | inl (inl waits_still) ↦ inl (inl (Contains-append_left waits (key ∷ []) other waits_still))
          ]
        ];
      }

  IsMarking-key : (key : ℕ) (branch : Branch) → branch_at graph key ≡ Some branch → IsReached graph roots (inner key)
      → IsMarking graph roots current (with_key key (marking marks waits))
  IsMarking-key key branch at reached =
      elim (get_or marks key false) as (λ b. IsMarking graph roots current
      (cond b (marking marks waits) (with_mark key (marking marks waits)))) [
        | true ↦ known
        | false ↦ IsMarking-marked key branch at reached
      ]

pub IsMarking-node : (graph : Graph) (roots : List Node) (current : Option ℕ) (now : Marking) → IsMarking graph roots current now
    → (node : Node) → is_node graph node ≡ true → IsReached graph roots node
    → IsMarking graph roots current (with_node node now)
IsMarking-node graph roots current now known False is reached = known
IsMarking-node graph roots current now known True is reached = known
IsMarking-node graph roots current now known (Inner key) is reached =
    let branch = branch_of_node graph key is in
    IsMarking-key graph roots current now.marks now.waiting known key.index branch.0 branch.1 reached

-- a node of the graph has a mark
pub has_mark : (graph : Graph) (roots : List Node) (current : Option ℕ) (now : Marking) → IsMarking graph roots current now
    → (node : Node) → is_node graph node ≡ true → HasMark (length now.marks) node
has_mark graph roots current now known False is = tt
has_mark graph roots current now known True is = tt
has_mark graph roots current now known (Inner key) is = let branch = branch_of_node graph key is in known.within key.index branch.0 branch.1

-- What was marked stays so, and the node is.
with_key-stays : (key : ℕ) (now : Marking) → key < length now.marks → (node : Node) → is_marked now.marks node ≡ true
    → is_marked (with_key key now).marks node ≡ true
with_key-stays key now small node is =
    elim (get_or now.marks key false) as (λ b. is_marked (cond b now (with_mark key now)).marks node ≡ true) [
      | true ↦ is
      | false ↦ marked_stays now.marks key node small is
    ]

pub with_node-stays : (node : Node) (now : Marking) → HasMark (length now.marks) node → (other : Node) → is_marked now.marks other ≡ true
    → is_marked (with_node node now).marks other ≡ true
with_node-stays False now has other is = is
with_node-stays True now has other is = is
with_node-stays (Inner key) now has other is = with_key-stays key.index now has other is

with_key-marks : (key : ℕ) (now : Marking) → key < length now.marks → get_or (with_key key now).marks key false ≡ true
with_key-marks key now small =
    elim (get_or now.marks key false) as (λ b. get_or now.marks key false ≡ b → get_or (cond b now (with_mark key now)).marks key false
    ≡ true) [
      | true ↦ λ is. is
      | false ↦ λ is. get_or-set_same now.marks key true false small
    ] refl

pub with_node-marks : (node : Node) (now : Marking) → HasMark (length now.marks) node → is_marked (with_node node now).marks node ≡ true
with_node-marks False now has = refl
with_node-marks True now has = refl
with_node-marks (Inner key) now has = with_key-marks key.index now has

-- as many marks as before
length-with_key : (key : ℕ) (now : Marking) → length (with_key key now).marks ≡ length now.marks
length-with_key key now =
    elim (get_or now.marks key false) as (λ b. length (cond b now (with_mark key now)).marks ≡ length now.marks) [
      | true ↦ refl
      | false ↦ length-set now.marks key true
    ]

pub length-with_node : (node : Node) (now : Marking) → length (with_node node now).marks ≡ length now.marks
length-with_node False now = refl
length-with_node True now = refl
length-with_node (Inner key) now = length-with_key key.index now

-- A mark more is a key more that waits, so that as many steps are left.
left-with_key : (key : ℕ) (now : Marking) → key < length now.marks → left (with_key key now) ≡ left now
left-with_key key now small =
    elim (get_or now.marks key false) as (λ b. get_or now.marks key false ≡ b → left (cond b now (with_mark key now)) ≡ left now) [
      | true ↦ λ is. refl
      | false ↦ λ is.
          let f : Bool → ℕ = λ b. cond (not b) 1 0 in
          let count = sum_by-set f now.marks key true false small in
          let one : f (get_or now.marks key false) ≡ 1 = ap f is in
          let longer = length_push now.waiting key in
          omega (arith, count, one, longer)
    ] refl

left-with_node : (node : Node) (now : Marking) → HasMark (length now.marks) node → left (with_node node now) ≡ left now
left-with_node False now has = refl
left-with_node True now has = refl
left-with_node (Inner key) now has = left-with_key key.index now has

-- a mark for as many keys
HasMark-same : (one two : ℕ) → one ≡ two → (node : Node) → HasMark one node → HasMark two node
HasMark-same one two same node has = subst (λ (n : ℕ). HasMark n node) same has

pub left-with_children : (o : Option Branch) (now : Marking) → HaveMarks (length now.marks) o → left (with_children o now) ≡ left now
left-with_children None now has = refl
left-with_children (Some b) now has =
    let first = with_node b.high now in
    left-with_node b.low first (HasMark-same _ _ (sym (length-with_node b.high now)) b.low has.1) ∙ left-with_node b.high now has.0

pub with_children-stays : (o : Option Branch) (now : Marking) → HaveMarks (length now.marks) o → (node : Node)
    → is_marked now.marks node ≡ true → is_marked (with_children o now).marks node ≡ true
with_children-stays None now has node is = is
with_children-stays (Some b) now has node is =
    let first = with_node b.high now in
    with_node-stays b.low first (HasMark-same _ _ (sym (length-with_node b.high now)) b.low has.1) node
    (with_node-stays b.high now has.0 node is)

-- nothing is marked at first
unmarked : (count key : ℕ) → get_or (replicate count false) key false ≡ false
unmarked zero key = refl
unmarked (suc count) zero = refl
unmarked (suc count) (suc key) = unmarked count key

pub IsMarking-start : (graph : Graph) (roots : List Node) (count : ℕ)
    → ((key : ℕ) (branch : Branch) → branch_at graph key ≡ Some branch → key < count)
    → IsMarking graph roots None (marking (replicate count false) [])
IsMarking-start graph roots count within =
    let none : (key : ℕ) → is_marked (replicate count false) (inner key) ≡ true
    → ⊥ = λ key is. let not_so : is_marked (replicate count false) (inner key) ≡ false = unmarked count key in cc in
    record {
      within = λ key branch at. subst (λ (n : ℕ). key < n) (sym (length-replicate count false)) (within key branch at);
      stand = λ key is. absurd (none key is);
      reached = λ key is. absurd (none key is);
      waiting = λ key is. absurd (omega (arith, is.1));
      closed = λ key branch is at. absurd (none key is);
    }

-- a root is marked
pub root_is_reached : (graph : Graph) (roots : List Node) (root : Node) → Contains roots root → IsReached graph roots root
root_is_reached graph roots root is = record { root = root; is_root = is; reaches = Reaches-itself graph root }

child_is_reached : (graph : Graph) (roots : List Node) (to_high : Bool) (node : Node) (b : Branch) → branch_of graph node ≡ Some b
    → IsReached graph roots node → IsReached graph roots (child_of to_high node (Some b))
child_is_reached graph roots to_high node b at reached = record {
  root = reached.root;
  is_root = reached.is_root;
  reaches = Reaches-further graph reached.root node (child_of to_high node (Some b)) reached.reaches
      (Reaches-child graph to_high node b at);
}

pub AreMarked-more : (marks : List Bool) (nodes : List Node) (node : Node) → AreMarked marks nodes → is_marked marks node ≡ true
    → AreMarked marks (nodes ++ node ∷ [])
AreMarked-more marks nodes node before is other among = elim (Contains-push_cases nodes node other among) [
  | inl earlier ↦ before other earlier
  | inr same ↦ subst (λ (n : Node). is_marked marks n ≡ true) same is
]

-- the last key that waits becomes the current one
popped : (graph : Graph) (roots : List Node) (marks : List Bool) (waits : List ℕ) (key : ℕ)
    → IsMarking graph roots None (marking marks (waits ++ key ∷ [])) → IsMarking graph roots (Some key) (marking marks waits)
popped graph roots marks waits key known = record {
  within = known.within;
  stand = known.stand;
  reached = known.reached;
  waiting = λ other is. known.waiting other (Contains-append_left waits (key ∷ []) other is);
  closed = λ other b is at. elim (known.closed other b is at) [
    | inr both ↦ inr both
    | inl (inr here) ↦ absurd (let none : None ≡ Some other = here in cc)
    | inl (inl among) ↦ elim (Contains-push_cases waits key other among) [
      | inl before ↦ inl (inl before)
      | inr same ↦ inl
          (inr (ap Some same))
    ]
  ];
}

-- its children are marked
finished : (graph : Graph) (roots : List Node) (key : ℕ) (now : Marking) → IsMarking graph roots (Some key) now
    → ((b : Branch) → branch_at graph key ≡ Some b → AreBoth now.marks b) → IsMarking graph roots None now
finished graph roots key now known both = record {
  within = known.within;
  stand = known.stand;
  reached = known.reached;
  waiting = known.waiting;
  closed = λ other b is at. elim (known.closed other b is at) [
    | inr done ↦ inr done
    | inl (inl among) ↦ inl (inl among)
    | inl (inr here) ↦
        let same : key ≡ other = (let e : Some key ≡ Some other = here in cc) in
        inr (both b (ap (branch_at graph) same ∙ at))
  ];
}

children_marked : (graph : Graph) (roots : List Node) → IsReduced graph → (key : ℕ) (now : Marking)
    → IsMarking graph roots (Some key) now → IsReached graph roots (inner key)
    → (o : Option Branch) → branch_at graph key ≡ o → IsMarking graph roots None (with_children o now)
children_marked graph roots reduced key now known reached None at = finished graph roots key now known
    (λ b is. absurd (let none : None ≡ Some b = sym at ∙ is in cc))
children_marked graph roots reduced key now known reached (Some b) at =
    let high = (reduced.high key b at).stands in
    let low = (reduced.low key b at).stands in
    let first = with_node b.high now in
    let one = IsMarking-node graph roots (Some key) now known b.high high (child_is_reached graph roots true (inner key) b at reached) in
    let two = IsMarking-node graph roots (Some key) first one b.low low (child_is_reached graph roots false (inner key) b at reached) in
    let has_low = has_mark graph roots (Some key) first one b.low low in
    let both : AreBoth (with_node b.low first).marks b = (
      with_node-stays b.low first has_low b.high (with_node-marks b.high now (has_mark graph roots (Some key) now known b.high high)),
      with_node-marks b.low first has_low,
    ) in
    finished graph roots key (with_node b.low first) two
    (λ c is. let same : b ≡ c = (let e : Some b ≡ Some c = sym at ∙ is in cc) in subst (AreBoth (with_node b.low first).marks) same both)

-- the step of the walk
pub IsMarking-step : (graph : Graph) (roots : List Node) → IsReduced graph → (marks : List Bool) (waits : List ℕ) (key : ℕ)
    → IsMarking graph roots None (marking marks (waits ++ key ∷ []))
    → IsMarking graph roots None (with_children (branch_at graph key) (marking marks waits))
IsMarking-step graph roots reduced marks waits key known =
    children_marked graph roots reduced key (marking marks waits) (popped graph roots marks waits key known)
    (known.reached key (known.waiting key (Contains-push waits key))) (branch_at graph key) refl

pub have_marks : (graph : Graph) (roots : List Node) → IsReduced graph → (current : Option ℕ) (now : Marking)
    → IsMarking graph roots current now → (key : ℕ) → HaveMarks (length now.marks) (branch_at graph key)
have_marks graph roots reduced current now known key =
    elim (branch_at graph key) as (λ o. branch_at graph key ≡ o → HaveMarks (length now.marks) o) [
      | None ↦ λ at. tt
      | Some b ↦ λ at. (
        has_mark graph roots current now known b.high (reduced.high key b at).stands,
        has_mark graph roots current now known b.low (reduced.low key b at).stands,
      )
    ] refl

-- the marks when no key waits
module _ (graph : Graph) (roots : List Node) (marks : List Bool) (known : IsMarking graph roots None (marking marks [])) where
  both_marked : (key : ℕ) (b : Branch) → is_marked marks (inner key) ≡ true → branch_at graph key ≡ Some b → AreBoth marks b
  both_marked key b is at = elim (known.closed key b is at) [
    | inr both ↦ both
    | inl (inr here) ↦ absurd (let none : None ≡ Some key = here in cc)
    | inl (inl among) ↦ absurd (omega (arith, among.1))
  ]

  one_marked : (to_high : Bool) (b : Branch) → AreBoth marks b → is_marked marks (if to_high then b.high else b.low) ≡ true
  one_marked true b both = both.0
  one_marked false b both = both.1

  child_marked : (to_high : Bool) (node : Node) → is_marked marks node ≡ true
      → is_marked marks (child_of to_high node (branch_of graph node)) ≡ true
  child_marked to_high False is = refl
  child_marked to_high True is = refl
  child_marked to_high (Inner key) is =
      elim (branch_at graph key.index) as (λ o. branch_at graph key.index ≡ o → is_marked marks (child_of to_high (Inner key) o) ≡ true) [
        | None ↦ λ at. is
        | Some b ↦ λ at. one_marked to_high b (both_marked key.index b is at)
      ] refl

  end_marked : (path : List Bool) (node : Node) → is_marked marks node ≡ true → is_marked marks (end_of graph node path) ≡ true
  end_marked [] node is = is
  end_marked (to_high ∷ path) node is = end_marked path (child_of to_high node (branch_of graph node)) (child_marked to_high node is)

  pub AreMarks-from : AreMarks graph marks
  AreMarks-from = record {
    stand = known.stand;
    high = λ key b is at. (both_marked key b is at).0;
    low = λ key b is at. (both_marked key b is at).1;
  }

  pub AreReached-from : AreMarked marks roots → AreReached graph roots marks
  AreReached-from all key = (
    λ is. (known.stand key is, known.reached key is),
    λ both.
        let path = both.1.reaches.path in
        subst (λ (n : Node). is_marked marks n ≡ true) both.1.reaches.ends (end_marked path both.1.root (all both.1.root both.1.is_root)),
  )

-- a key fewer waits, and its children are marked
pub left-less : (marks : List Bool) (waits less : List ℕ) (key : ℕ) (o : Option Branch) (new : Marking) → waits ≡ less ++ key ∷ []
    → HaveMarks (length marks) o → new ≡ with_children o (marking marks less)
    → left new < left (marking marks waits)
left-less marks waits less key o new is has made =
    let as_many : left new ≡ left (marking marks less) = ap left made ∙ left-with_children o (marking marks less) has in
    let longer : length waits ≡ length less + 1 = ap length is ∙ length_push less key in
    omega (arith, as_many, longer)
