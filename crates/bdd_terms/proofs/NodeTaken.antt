-- A node that is asked for, and a term that is weakened to it, as calls of a runner: what they leave, and what they cost.
use Rattle.std.proofs.Common.{◌≡◌, ◌∙◌, ◌≤◌, ◌+◌, ◌*◌, ℕ, Bool, List, [], ◌∷◌, Option, None, Some, Ok, Err, Result, refl, sym, ap, subst}
use Rattle.std.proofs.Common.{arith, inl, inr}
use Rattle.std.specs.Prelude.{IsErrAnd, IsTrue}
use Rattle.cnf_base.specs.Truth.{Assignment}
use Rattle.node_table.specs.declared.error.TableError.{TableError}
use Rattle.node_table.specs.declared.error.TableError.TheVariants.{NodeLimit}
use Rattle.node_table.specs.declared.node.Branch.{Branch}
use Rattle.node_table.specs.declared.node.Node.{Node}
use Rattle.node_table.specs.Diagram.{is_node, levels}
use Rattle.node_table.specs.HandedOn.{no_error, same_error}
use Rattle.node_table.specs.Laws.{Canonical, Growth}
use Rattle.node_table.specs.Progress.{error_of}
use Rattle.node_table.specs.Table.{AddsAtMost, defining_clauses}
use Rattle.node_table.specs.Value.{IsSubfunction, Levels, value_of}
use Rattle.bdd_terms.specs.declared.held.HeldTerm.{HeldTerm}
use Rattle.bdd_terms.specs.declared.runner.Runner.{Runner}
use Rattle.bdd_terms.specs.declared.term.Term.{Term}
use Rattle.bdd_terms.specs.Counting.{Counting}
use Rattle.bdd_terms.specs.Parity.{TakesNode, TakesWeaker, Weakens, always, holds_or, in_place, node_holds, some_or}
use Rattle.bdd_terms.specs.Price.{IsMovePrice}
use Rattle.bdd_terms.specs.Runner.{Gives, IsGood, IsRunner}
use Rattle.bdd_terms.specs.Takes.{Costs, IsTidied, Takes, asked_in, functions_out}
use Rattle.bdd_terms.specs.Parts.{HasAtMost}
use Rattle.bdd_terms.proofs.CallCosts.{AreGood, EachFew, costs_found, operands_few}
use Rattle.bdd_terms.proofs.FunctionParts.{among_cases, first_among, later_among}
use Rattle.bdd_terms.proofs.Priced.{few_tried, spare_price}
use Rattle.bdd_terms.proofs.Rests.{takes_found}

-- the numbers of one try, which adds so many beside the clauses that define its nodes
pub few_numbers : {S : Type 0} → Growth → Canonical → (function : Levels → Bool) (holds : Assignment → Bool) (operands : List HeldTerm)
    (old new : Runner S) (found : Result Term TableError) → Gives function holds operands old new found → (most : ℕ)
    → AddsAtMost most old.terms.table new.terms.table → (width : ℕ) → HasAtMost function width
    → new.terms.table.book.state.top ≤ old.terms.table.book.state.top + (4 * width + most)
few_numbers growth canonical function holds operands old new found gives most adds width few =
    let nodes = few_tried growth canonical old.terms.table new.terms.table (error_of found) gives.leaves gives.nodes (IsSubfunction function)
    (λ key branch at new_one. elim (gives.made.each key branch at) [
      | inl was ↦ absurd (let wrong : ◌≡◌ {A = Option Branch} (Some branch) None = sym was ∙ new_one in cc)
      | inr part ↦ part
    ]) width few in
    let four = growth.definitions old.terms.table.graph new.terms.table.graph gives.nodes in
    omega (arith, adds, nodes, four)

-- two tries, with a reclamation between
pub two_few : (old one mid new width most : ℕ) → one ≤ old + (4 * width + most) → mid ≡ one → new ≤ mid + (4 * width + most)
    → new ≤ old + (8 * width + 2 * most)
two_few old one mid new width most first same second = omega (arith, first, same, second)

pub one_few : (old new width most : ℕ) → new ≤ old + (4 * width + most) → new ≤ old + (8 * width + 2 * most)
one_few old new width most first = omega (arith, first)

pub none_more : (old one mid width most : ℕ) → one ≤ old + (4 * width + most) → mid ≡ one → mid ≤ old + (8 * width + 2 * most)
none_more old one mid width most first same = omega (arith, first, same)

-- the limit of nodes, and the answer, are those of the call that gives True
pub at_limit : (result : Result Node TableError) → in_place always result ≡ Err NodeLimit → result ≡ Err NodeLimit
at_limit (Ok node) is = absurd (no_error is)
at_limit (Err e) is = ap Err (same_error is)

pub error_in_place : (result : Result Node TableError) → error_of (in_place always result) ≡ error_of result
error_in_place (Ok node) = refl
error_in_place (Err e) = refl

pub node_costs : {S : Type 0} (functions : List (Levels → Bool)) (old new : Runner S) (result : Result Node TableError)
    → Costs functions old new (error_of (in_place always result)) → Costs functions old new (error_of result)
node_costs functions old new result costs = subst (λ (e : Option TableError). Costs functions old new e) (error_in_place result) costs

pub node_handed : {S : Type 0} (holds : Assignment → Bool) (old new : Runner S) (came : TableError) (result : Result Node TableError)
    → IsErrAnd result (λ e. e ≡ came) → TakesNode holds old new (Err came) → TakesNode holds old new result
node_handed holds old new came (Ok node) is takes = absurd is
node_handed holds old new came (Err e) is takes = subst (λ (e : TableError). TakesNode holds old new (Err e)) (sym is) takes

-- A weakened term, before nodes are given back behind it.
module _ {S : Type 0} (counting : Counting S) (growth : Growth) (operand : HeldTerm) (node : Node) (old mid : Runner S) (runner : IsRunner old)
    (good : IsGood old operand) (stands : IsTrue (is_node old.terms.table.graph node)) where
  abbrev function : Levels → Bool
  function a = value_of old.terms.table.graph a node

  abbrev holds : Assignment → Bool
  holds = node_holds old.terms.table.graph node

  abbrev all : List (Levels → Bool)
  all = asked_in old holds ∷ functions_out old

  asked_is : asked_in old holds ≡ function
  asked_is = λ i a. sym (counting.by_levels old.terms.table.graph runner.over.sound.tied.reduced runner.over.sound.tied.ordered node stands holds
      (λ b. refl) a) i

  operands_good : AreGood old (operand ∷ [])
  operands_good held there = elim (among_cases operand held [] there) [
    | inl same ↦ subst (IsGood old) same good
    | inr more ↦ absurd (let small = more.1 in omega (arith, small))
  ]

  module _ (result : Result (Option Term) TableError) (weakens : Weakens operand node old mid result) where
    no_limit : some_or always result ≡ Err NodeLimit → ⊥
    no_limit is = weakens.no_node_limit (came result is)
      where
        came : (r : Result (Option Term) TableError) → some_or always r ≡ Err NodeLimit → r ≡ Err NodeLimit
        came (Ok None) same = absurd (no_error same)
        came (Ok (Some term)) same = absurd (no_error same)
        came (Err e) same = ap Err (same_error same)

    error_same : (r : Result (Option Term) TableError) → error_of (some_or always r) ≡ error_of r
    error_same (Ok None) = refl
    error_same (Ok (Some term)) = refl
    error_same (Err e) = refl

    pub weaker_takes : Takes (holds_or result holds) old mid (some_or always result)
    weaker_takes = takes_found growth old mid runner function (holds_or result holds) (operand ∷ []) (some_or always result)
        (λ is. absurd (no_limit is)) weakens.gives

    pub weaker_costs : Costs all old mid (error_of result)
    weaker_costs = subst (λ (f : Levels → Bool). Costs (f ∷ functions_out old) old mid (error_of result)) (sym asked_is)
        (subst (λ (e : Option TableError). Costs (function ∷ functions_out old) old mid e) (error_same result)
        (costs_found counting old mid runner function (holds_or result holds) (operand ∷ []) operands_good (some_or always result)
        weakens.gives no_limit))

    pub weaker_spare : (width price : ℕ) → EachFew all width → IsMovePrice (levels old.terms.table.graph) old.limits.cache width price
        → mid.terms.table.book.state.top + 8 * width ≤ old.terms.table.book.state.top + price
    weaker_spare width price few is =
        let same = ap defining_clauses weakens.nodes in
        let adds = weakens.gives.adds in
        let own = subst (λ (f : Levels → Bool). HasAtMost f width) asked_is (few (asked_in old holds)
        (first_among (asked_in old holds) (functions_out old))) in
        let others = operands_few old width (λ f there. few f (later_among (asked_in old holds) f (functions_out old) there)) (operand ∷ [])
        operands_good in
        spare_price (levels old.terms.table.graph) old.limits.cache width price is old.terms.table.book.state.top
        mid.terms.table.book.state.top (omega (arith, adds, same))
        (λ room.
        let pairs = weakens.gives.pairs width (record { size = old.limits.cache; have = runner.within.size; room = room }) others own in
        omega (arith, pairs, same))

  -- it was refused
  pub weaker_refused : (came : TableError) → Weakens operand node old mid (Err came) → (result : Result (Option Term) TableError)
      → IsErrAnd result (λ e. e ≡ came) → TakesWeaker operand node old mid result
  weaker_refused came weakens (Ok found) handed = absurd handed
  weaker_refused came weakens (Err e) handed = subst (λ (e : TableError). TakesWeaker operand node old mid (Err e)) (sym handed) (record {
    takes = weaker_takes (Err came) weakens;
    node_is = tt;
    implied = tt;
    none = λ is. absurd (no_error (sym is));
    costs = weaker_costs (Err came) weakens;
    spare = weaker_spare (Err came) weakens;
    tidied = tt;
    settled = tt;
    no_node_limit = weakens.no_node_limit;
  })

  -- there is none
  pub weaker_none : Weakens operand node old mid (Ok None) → mid.terms.table.retired ≡ [] → TakesWeaker operand node old mid (Ok None)
  weaker_none weakens settled = record {
    takes = weaker_takes (Ok None) weakens;
    node_is = tt;
    implied = tt;
    none = weakens.none;
    costs = weaker_costs (Ok None) weakens;
    spare = weaker_spare (Ok None) weakens;
    tidied = tt;
    settled = settled;
    no_node_limit = weakens.no_node_limit;
  }

  -- Nodes were given back behind it, or that failed.
  module _ (term : Term) (weakens : Weakens operand node old mid (Ok (Some term))) (new : Runner S)
      (top : new.terms.table.book.state.top ≡ mid.terms.table.book.state.top) where
    spare_tidied : (width price : ℕ) → EachFew all width → IsMovePrice (levels old.terms.table.graph) old.limits.cache width price
        → new.terms.table.book.state.top + 8 * width ≤ old.terms.table.book.state.top + price
    spare_tidied width price few is =
        let own = weaker_spare (Ok (Some term)) weakens width price few is in omega (arith, own, top)

    pub weaker_tidied : (given : Term) → given ≡ term → IsTidied new given → new.terms.table.retired ≡ [] → Takes holds old new (Ok given)
        → Costs all old new None → TakesWeaker operand node old new (Ok (Some given))
    weaker_tidied given same tidied settled takes costs = record {
      takes = takes;
      node_is = ap (λ (t : Term). t.held.node) same ∙ weakens.node_is;
      implied = weakens.implied;
      none = λ is. absurd (let no : ◌≡◌ {A = Result (Option Term) TableError} (Ok (Some given)) (Ok None) = is in cc);
      costs = costs;
      spare = spare_tidied;
      tidied = tidied;
      settled = settled;
      no_node_limit = λ is. no_error is;
    }

    pub weaker_untidied : (came : TableError) → (◌≡◌ {A = Result Term TableError} (Err came) (Err NodeLimit) → ⊥)
        → Takes holds old new (Err came) → Costs all old new (Some came)
        → (result : Result (Option Term) TableError) → IsErrAnd result (λ e. e ≡ came) → TakesWeaker operand node old new result
    weaker_untidied came within takes costs (Ok found) handed = absurd handed
    weaker_untidied came within takes costs (Err e) handed =
        subst (λ (e : TableError). TakesWeaker operand node old new (Err e)) (sym handed) (record {
          takes = takes;
          node_is = tt;
          implied = tt;
          none = λ is. absurd (no_error (sym is));
          costs = costs;
          spare = spare_tidied;
          tidied = tt;
          settled = tt;
          no_node_limit = λ is. within (ap Err (same_error is));
        })
