-- The trail of a run: its nodes as the graph grows, its variables, and what is left to recover where all clauses are
-- tautologies.
use Rattle.std.proofs.Common.{◌≡◌, ◌∙◌, ◌++◌, ◌≤◌, ◌<◌, ℕ, zero, suc, Bool, true, false, ◌&&◌, List, [], ◌∷◌, map, reverse, Some, Contains}
use Rattle.std.proofs.Common.{refl, sym, ap, subst, arith, inl, inr, eq-eqb, ne_eqb}
use Rattle.std.specs.Prelude.{if◌then◌else◌}
use Rattle.std.proofs.lemmas.Bool.{and_from, and_parts, cases_eq}
use Rattle.std.proofs.lemmas.List.{reverse-append}
use Rattle.std.proofs.lemmas.List.Elements.{Contains-append_left, Contains-append_right}
use Rattle.cnf_base.specs.Truth.{AreClausesOf, Assignment, with_value}
use Rattle.cnf_base.specs.Formula.{Formula}
use Rattle.node_table.specs.declared.node.Node.{Node}
use Rattle.node_table.specs.declared.node.Node.TheVariants.{True}
use Rattle.node_table.specs.Diagram.{Graph, IsOrder, IsReduced, KeepsNodes, is_node, levels}
use Rattle.node_table.specs.Laws.{Growth}
use Rattle.node_table.specs.Value.{Levels, by_level, value_of}
use Rattle.clause_terms.specs.Recovery.{IsLeast, IsRecoveredFrom, set_nodes_back}
use Rattle.reconstruction.specs.declared.cells.Cell.{Cell}
use Rattle.reconstruction.specs.declared.entries.Kept.{Kept}
use Rattle.reconstruction.specs.Entries.{kept_set}
use Rattle.reconstruction.specs.Copies.{AreCopies}
use Rattle.reconstruction.specs.Stack.{Stack, empty_stack}
use Rattle.schedule_plan.specs.declared.plan.Move.{Move}
use Rattle.schedule_plan.specs.declared.plan.Move.TheVariants.{Push, And, Exists, ExistsAll}
use Rattle.schedule_plan.specs.Plan.{IsAdmissible, Stage, Term, after_and, after_exists, after_move, after_moves, no_stage, term_holds}
use Rattle.term_runner.specs.Trail.{AreKept, AreVariables, IsKept, IsTrail}
use Rattle.term_runner.specs.Recovered.{IsRecovered, stack_holds}
use Rattle.term_runner.proofs.Least.{AreNodesOf, by_terms, recovered}
use Rattle.schedule_plan.specs.SetMove.{in_order}
use Rattle.term_runner.proofs.Plans.{AllHold, first_of_moves, inside, pushed_of, quantified_of, through_set, true_after, true_after_all}
use Rattle.term_runner.proofs.Plans.{true_after_one}

-- the nodes stay, and one more is put behind them
pub one_grown : Growth → (formula : Formula) (old new : Graph) → IsReduced old → KeepsNodes old new → (older : List Kept)
    (trail : List (ℕ × Term)) (kept : Kept) (quantified : ℕ × Term) → IsKept formula old older trail kept quantified
    → IsKept formula new older trail kept quantified
one_grown growth formula old new reduced keeps older trail kept quantified is = record {
  variable = is.variable;
  within = is.within;
  stands = growth.stands old new keeps kept.node is.stands;
  whole = is.whole;
  there = is.there;
  value = λ a. (λ k. value_of new (by_level (keeps.order k) a) kept.node)
      ∙ growth.value old new reduced keeps (by_level old.order a) kept.node is.stands ∙ is.value a;
  by = is.by;
}

pub kept_grown : Growth → (formula : Formula) (old new : Graph) → IsReduced old → KeepsNodes old new
    → (nodes : List Kept) (trail : List (ℕ × Term)) → AreKept formula old nodes trail → AreKept formula new nodes trail
kept_grown growth formula old new reduced keeps [] [] are = tt
kept_grown growth formula old new reduced keeps [] (quantified ∷ trail) are = absurd are
kept_grown growth formula old new reduced keeps (kept ∷ nodes) [] are = absurd are
kept_grown growth formula old new reduced keeps (kept ∷ nodes) (quantified ∷ trail) are = (
  one_grown growth formula old new reduced keeps nodes trail kept quantified are.0,
  kept_grown growth formula old new reduced keeps nodes trail are.1,
)

pub kept_pushed : (formula : Formula) (graph : Graph) (before after : List Kept) (kept : Kept) (quantified : ℕ
    × Term) (trail : List (ℕ × Term)) → after ≡ before ++ kept ∷ []
    → IsKept formula graph (reverse before) trail kept quantified → AreKept formula graph (reverse before) trail
    → AreKept formula graph (reverse after) (quantified ∷ trail)
kept_pushed formula graph before after kept quantified trail is one are =
    subst (λ (nodes : List Kept). AreKept formula graph nodes (quantified ∷ trail))
    (sym (ap reverse is ∙ reverse-append before (kept ∷ []))) (one, are)

-- a trail without variables
pub trail_first : (formula : Formula) (graph : Graph) (trail : Stack) → trail ≡ empty_stack → AreCopies graph [] []
    → IsTrail formula graph trail []
trail_first formula graph trail empty none = subst (λ (t : Stack). IsTrail formula graph t []) (sym empty)
    (record { recent = []; stored = []; all = refl; kept = tt; copied = tt; copies = none })

copies_grown : Growth → (old new : Graph) → IsReduced old → KeepsNodes old new → (cells : List Cell) (copies : List ℕ)
    → AreCopies old cells copies → AreCopies new cells copies
copies_grown growth old new reduced keeps cells copies are = record {
  stand = λ node has. growth.stands old new keeps node (are.stand node has);
  value = λ node has a. are.value node has a ∙ sym ((λ k. value_of new (by_level (keeps.order k) a) node)
      ∙ growth.value old new reduced keeps (by_level old.order a) node (are.stand node has));
}

pub trail_grown : Growth → (formula : Formula) (old new : Graph) → IsReduced old → KeepsNodes old new
    → (trail : Stack) (quantified : List (ℕ × Term)) → IsTrail formula old trail quantified → IsTrail formula new trail quantified
trail_grown growth formula old new reduced keeps trail quantified is = record {
  recent = is.recent;
  stored = is.stored;
  all = is.all;
  kept = kept_grown growth formula old new reduced keeps (reverse trail.recent) is.recent is.kept;
  copied = is.copied;
  copies = copies_grown growth old new reduced keeps trail.cells trail.copies is.copies;
}

-- a variable that is quantified alone
pub trail_pushed : (formula : Formula) (graph : Graph) (before after : Stack) (x : ℕ) (node : Node) (term : Term)
    (trail : List (ℕ × Term)) → after ≡ record before { recent = before.recent ++ kept_set 0 (x ∷ []) node }
    → is_node graph node ≡ true → ((a : Assignment) → value_of graph (by_level graph.order a) node ≡ term_holds formula a term)
    → IsTrail formula graph before trail → IsTrail formula graph after ((x, term) ∷ trail)
trail_pushed formula graph before after x node term trail same stands value is =
    let kept : Kept = record { variable = x; later = 0; node = node } in
    subst (λ (t : Stack). IsTrail formula graph t ((x, term) ∷ trail)) (sym same) (record {
      recent = (x, term) ∷ is.recent;
      stored = is.stored;
      all = ap (λ (q : List (ℕ × Term)). (x, term) ∷ q) is.all;
      kept = kept_pushed formula graph before.recent (before.recent ++ kept ∷ []) kept (x, term) is.recent refl (record {
        variable = refl;
        within = omega arith;
        stands = stands;
        whole = term;
        there = (zero, omega arith, refl);
        value = value;
        by = λ a. refl;
      }) is.kept;
      copied = is.copied;
      copies = is.copies;
    })

trail_after_and : (stage next : Stage) (stack : List Term) → after_and stage stack ≡ Some next → next.trail ≡ stage.trail
trail_after_and stage next [] is = cc
trail_after_and stage next (top ∷ []) is = cc
trail_after_and stage next (top ∷ below ∷ rest) is = sym (ap (λ (s : Stage). s.trail) (inside _ next is))

variables_after_one : (formula : Formula) (stage next : Stage) (x : ℕ) → after_exists formula stage x stage.stack ≡ Some next
    → AreVariables formula stage.trail → AreVariables formula next.trail
variables_after_one formula stage next x is are =
    let given = quantified_of formula stage next x stage.stack is in
    subst (λ (s : Stage). AreVariables formula s.trail) (sym given.after) (given.above, given.within, are)

variables_after : (formula : Formula) (stage next : Stage) (move : Move) → after_move formula stage move ≡ Some next
    → AreVariables formula stage.trail → AreVariables formula next.trail
variables_after formula stage next (Push i) is are = subst (λ (s : Stage). AreVariables formula s.trail)
    (sym (pushed_of formula stage next i is).2) are
variables_after formula stage next And is are = subst (AreVariables formula) (sym (trail_after_and stage next stage.stack is)) are
variables_after formula stage next (Exists x) is are = variables_after_one formula stage next x is are
variables_after formula stage next (ExistsAll xs) is are =
    through_set (λ (s : Stage). AreVariables formula s.trail) formula (variables_after_one formula) xs stage next is are

pub are_variables : (formula : Formula) (moves : List Move) (stage last : Stage) → after_moves formula stage moves ≡ Some last
    → AreVariables formula stage.trail → AreVariables formula last.trail
are_variables formula [] stage last is are = subst (λ (s : Stage). AreVariables formula s.trail) (inside stage last is) are
are_variables formula (move ∷ moves) stage last is are =
    let first = first_of_moves formula stage last move moves is in
    are_variables formula moves first.later last first.rest (variables_after formula stage first.later move first.taken are)

pub in_reverse : {X : Type 0} (xs : List X) (x : X) → Contains xs x → Contains (reverse xs) x
in_reverse {X} [] x there = absurd (omega (arith, there.1))
in_reverse {X} (y ∷ xs) x (zero, small, at) =
    subst (λ (list : List X). Contains list x) (sym (reverse-append (y ∷ []) xs))
    (Contains-append_right (reverse xs) (y ∷ []) x (zero, omega arith, at))
in_reverse {X} (y ∷ xs) x (suc k, small, at) =
    subst (λ (list : List X). Contains list x) (sym (reverse-append (y ∷ []) xs))
    (Contains-append_left (reverse xs) (y ∷ []) x (in_reverse xs x (k, omega (arith, small), at)))

-- Where all clauses are tautologies, all terms are true: each quantified variable would be set back to false, which it is.
abbrev pub all_true : Formula → Assignment → List (ℕ × Term) → Bool
all_true formula a [] = true
all_true formula a (quantified ∷ trail) = term_holds formula a quantified.1 && all_true formula a trail

-- where the stacked terms hold, the one that is quantified next does
one_true : (formula : Formula) (a : Assignment) (stage next : Stage) (x : ℕ) → after_exists formula stage x stage.stack ≡ Some next
    → (stack_holds formula a stage.stack ≡ true) × (all_true formula a stage.trail ≡ true)
    → (stack_holds formula a next.stack ≡ true) × (all_true formula a next.trail ≡ true)
one_true formula a stage next x at both =
    let given = quantified_of formula stage next x stage.stack at in (
      true_after_one formula a stage next x at both.0,
      ap (λ (s : Stage). all_true formula a s.trail) given.after
          ∙ and_from (term_holds formula a given.top) _ (and_parts (term_holds formula a given.top) _
          (sym (ap (stack_holds formula a) given.stacked) ∙ both.0)).0 both.1,
    )

trail_true : (formula : Formula) (a : Assignment) → AllHold formula a → (moves : List Move) (stage last : Stage)
    → after_moves formula stage moves ≡ Some last → stack_holds formula a stage.stack ≡ true
    → all_true formula a stage.trail ≡ true → all_true formula a last.trail ≡ true
trail_true formula a all [] stage last is holds trail = subst (λ (s : Stage). all_true formula a s.trail
    ≡ true) (inside stage last is) trail
trail_true formula a all (move ∷ moves) stage last is holds trail =
    let first = first_of_moves formula stage last move moves is in
    trail_true formula a all moves first.later last first.rest (true_after formula a all stage first.later move holds first.taken)
    (one_move first.later move first.taken)
  where
    one_move : (next : Stage) (m : Move) → after_move formula stage m ≡ Some next → all_true formula a next.trail ≡ true
    one_move next (Push i) at = ap (λ (s : Stage). all_true formula a s.trail) (pushed_of formula stage next i at).2 ∙ trail
    one_move next And at = ap (all_true formula a) (trail_after_and stage next stage.stack at) ∙ trail
    one_move next (Exists x) at = (one_true formula a stage next x at (holds, trail)).1
    one_move next (ExistsAll xs) at =
        (through_set (λ (s : Stage). (stack_holds formula a s.stack ≡ true) × (all_true formula a s.trail ≡ true)) formula
        (one_true formula a) xs stage next at (holds, trail)).1

abbrev pub true_nodes : List (ℕ × Term) → List (ℕ × Node)
true_nodes trail = map (λ quantified. (quantified.0, True)) trail

true_kept : (formula : Formula) (graph : Graph) (trail : List (ℕ × Term)) → ((a : Assignment) → all_true formula a trail ≡ true)
    → AreNodesOf formula graph (true_nodes trail) trail
true_kept formula graph [] all = tt
true_kept formula graph (quantified ∷ trail) all = (
  record { variable = refl; stands = refl; value = λ a. sym (and_parts (term_holds formula a quantified.1) _ (all a)).0 },
  true_kept formula graph trail (λ a. (and_parts (term_holds formula a quantified.1) _ (all a)).1),
)

-- the least assignment of all is false everywhere
module _ (count : ℕ) (a : Levels) (least : IsLeast count (λ b. true) a) where
  next_false : (n : ℕ) → n < count → ((i : ℕ) → i < n → a i ≡ false) → a n ≡ false
  next_false n within before = go (a n) refl
    where
      go : (value : Bool) → a n ≡ value → a n ≡ false
      go false at = at
      go true at = absurd (let e : false ≡ true = least.least (λ i. false) refl n within (λ i less. sym (before i less)) at in cc)

  first_false : (n : ℕ) → n ≤ count → (i : ℕ) → i < n → a i ≡ false
  first_false zero within i less = absurd (omega (arith, less))
  first_false (suc n) within i less = elim (cases_eq i n) [
    | inl same ↦ ap a same ∙ next_false n (omega (arith, within)) (first_false n (omega (arith, within)))
    | inr differ ↦ first_false n (omega (arith, within)) i (omega (arith, less, differ))
  ]

-- a variable that is false stays so
false_back : (a : Assignment) (x : ℕ) → a x ≡ false → (y : ℕ) → with_value a x false y ≡ a y
false_back a x at y = elim (cases_eq y x) [
  | inl same ↦ (λ k. if eq-eqb y x same k then false else a y) ∙ sym (ap a same ∙ at)
  | inr differ ↦ (λ k. if ne_eqb y x differ k then false else a y)
]

all_back : (graph : Graph) (vars : ℕ) (a : Assignment) → ((x : ℕ) → 0 < x → x ≤ vars → a x ≡ false) → (formula : Formula) → formula.vars
    ≡ vars → (trail : List (ℕ × Term)) → AreVariables formula trail
    → set_nodes_back graph a (true_nodes trail) ≡ a
all_back graph vars a none formula same [] are = refl
all_back graph vars a none formula same (quantified ∷ trail) are =
    ap (λ (b : Assignment). set_nodes_back graph b (true_nodes trail))
    (λ k y. false_back a quantified.0 (none quantified.0 are.0 (omega (arith, are.1, same))) y k)
    ∙ all_back graph vars a none formula same trail are.2

-- with and without the trail the same is recovered
true_recovered : (graph : Graph) → IsOrder graph.order → (formula : Formula) → levels graph ≡ formula.vars → (trail : List (ℕ × Term))
    → AreVariables formula trail
    → (values : List Bool) → IsRecoveredFrom graph True [] values → IsRecoveredFrom graph True (true_nodes trail) values
true_recovered graph ordered formula vars trail are values from = record {
  one_each = from.one_each;
  first = from.first;
  least = from.least;
  recovered = λ variable above. from.recovered variable above ∙ sym
      (ap (λ (a : Assignment). a variable) (all_back graph (levels graph) from.first none formula (sym vars) trail are));
}
  where
    none : (x : ℕ) → 0 < x → x ≤ levels graph → from.first x ≡ false
    none x above within =
        let place = ordered.each x above within in
        sym (ap from.first place.2) ∙ first_false (levels graph) (by_level graph.order from.first) from.least (levels graph)
        (omega arith) place.0 place.1

pub tautologies_recovered : (formula : Formula) (graph : Graph) (moves : List Move)
    (plan : IsAdmissible formula (in_order graph.order moves))
    → IsOrder graph.order → AreClausesOf formula.vars formula.clauses → levels graph ≡ formula.vars
    → ((a : Assignment) → AllHold formula a) → (values : List Bool) → IsRecoveredFrom graph True [] values
    → IsRecovered formula graph.order moves values
tautologies_recovered formula graph moves plan ordered literals vars all values from =
    let trail = plan.last.trail in
    let ordered_moves = in_order graph.order moves in
    recovered formula graph graph.order moves refl plan literals vars True (λ a. sym
    (true_after_all formula a (all a) ordered_moves no_stage plan.last refl plan.possible))
    values (by_terms formula graph True (true_nodes trail) trail
    (true_kept formula graph trail (λ a. trail_true formula a (all a) ordered_moves no_stage plan.last plan.possible refl refl))
    values (true_recovered graph ordered formula vars trail (are_variables formula ordered_moves no_stage plan.last plan.possible tt)
    values from))
