-- The extension variables of the live clauses are those of the nodes.
use Rattle.std.proofs.Common.{◌≡◌, ◌≢◌, ℕ, Bool, true, false, ◌&&◌, ◌||◌, ℤ, pos, List, [], ◌∷◌, ◌++◌, map, Option, None, Some, is_some}
use Rattle.std.proofs.Common.{nat_cmp, refl, sym, ap, ◌∙◌, subst, arith, inl, inr, ◌⊎◌, eq-eqb}
use Rattle.std.specs.Prelude.{◌==◌, nat_abs, neg_ℤ, nat_lt, not}
use Rattle.std.specs.Option.{option_map}
use Rattle.std.specs.List.{list_any, filter, flat_map}
use Rattle.std.specs.Ordering.{int_eq, eq_by_cmp}
use Rattle.std.specs.Cmp.{unsigned_tied}
use Rattle.std.specs.FinMap as finmap
use Rattle.std.specs.FinSet as finset
use Rattle.std.proofs.lemmas.Cmp.{nat_cmp_total}
use Rattle.std.proofs.lemmas.Bool.{or_cases, or_left, or_right, and_parts, and_from, lt-ltb, ltb-true, eqb-true}
use Rattle.std.proofs.lemmas.Bool.Decides.{Decides-int_eq}
use Rattle.std.proofs.lemmas.Map.Views.{any-filter_same}
use Rattle.cnf_base.specs.ProofText.{given_if}
use Rattle.lrat_rules.specs.State.{State, Live, clause_at}
use Rattle.lrat_rules.specs.Marks.{variables_of, live_variables, extension_variables, in_use}
use Rattle.hint_chain.specs.declared.atom.Atom.{Atom}
use Rattle.hint_chain.specs.declared.atom.Atom.TheVariants.{Of}
use Rattle.hint_chain.specs.Atoms.{neg_atom, clause_from_atoms}
use Rattle.node_table.specs.declared.node.Node.{Node}
use Rattle.node_table.specs.declared.node.Node.TheVariants.{False, True, Inner}
use Rattle.node_table.specs.declared.node.Branch.{Branch}
use Rattle.node_table.specs.Diagram.{Graph, branch_at, levels, variable_at}
use Rattle.node_table.specs.Defined.{atom_of, clause_named, is_false_node}
use Rattle.node_table.specs.Tied.{IsTied}
use Rattle.node_table.specs.Table.{live_nodes}
use Rattle.node_table.proofs.Made.{some_up}
use Rattle.node_table.proofs.InUse.{variables_in, entry_of, listed, count_entries}

same_truth : (a b : Bool) → (a ≡ true → b ≡ true) → (b ≡ true → a ≡ true) → a ≡ b
same_truth true b there back = sym (there refl)
same_truth false true there back = back refl
same_truth false false there back = refl

module _ {X : Type 0} (t : X → Bool) where
  any-append : (xs ys : List X) → list_any t (xs ++ ys) ≡ (list_any t xs || list_any t ys)
  any-append [] ys = refl
  any-append (x ∷ xs) ys = elim (t x) as (λ b. (b || list_any t (xs ++ ys))
      ≡ ((b || list_any t xs) || list_any t ys)) [ true ↦ refl | false ↦ any-append xs ys ]

  pub any-flat_map : {Y : Type 0} (f : Y → List X) (ys : List Y) → list_any t (flat_map f ys) ≡ list_any (λ y. list_any t (f y)) ys
  any-flat_map f [] = refl
  any-flat_map f (y ∷ ys) = any-append (f y) (flat_map f ys) ∙ ap (λ b. list_any t (f y) || b) (any-flat_map f ys)

  any_gives : (xs : List X) → list_any t xs ≡ true → (x : X) × (t x ≡ true)
  any_gives [] is = absurd (let e : false ≡ true = is in cc)
  any_gives (x ∷ xs) is = elim (or_cases (t x) (list_any t xs) is) [ inl here ↦ (x, here) | inr there ↦ any_gives xs there ]

pub any_at : (t : ℕ → Bool) (id : ℕ) (ids : List ℕ) → list_any (eq_by_cmp nat_cmp id) ids ≡ true → t id ≡ true → list_any t ids ≡ true
any_at t id [] among is = absurd (let e : false ≡ true = among in cc)
any_at t id (k ∷ ids) among is =
    elim (or_cases (eq_by_cmp nat_cmp id k) (list_any (eq_by_cmp nat_cmp id) ids) among) [
      | inl here ↦ or_left (t k) (list_any t ids) (ap t (sym (eqb-true id k (sym (unsigned_tied id k) ∙ here))) ∙ is)
      | inr there ↦ or_right (t k) (list_any t ids) (any_at t id ids there is)
    ]

-- a variable of a clause is that of one of its literals
literal_of : (q : ℕ) (clause : List ℤ) → list_any (λ x. q == x) (map nat_abs clause) ≡ true → (literal : ℤ)
    × (list_any (int_eq literal) clause ≡ true) × (q ≡ nat_abs literal)
literal_of q [] is = absurd (let e : false ≡ true = is in cc)
literal_of q (own ∷ clause) is =
    elim (or_cases (q == nat_abs own) (list_any (λ x. q == x) (map nat_abs clause)) is) [
      | inl here ↦ (
        own,
        or_left (int_eq own own) (list_any (int_eq own) clause) ((Decides-int_eq own own).1 refl),
        eqb-true q (nat_abs own) here,
      )
      | inr there ↦ (let found = literal_of q clause there in (
        found.0,
        or_right (int_eq found.0 own) (list_any (int_eq found.0) clause) found.1,
        found.2,
      ))
    ]

variable_of : (literal : ℤ) (clause : List ℤ) → list_any (int_eq literal) clause ≡ true
    → list_any (λ x. nat_abs literal == x) (map nat_abs clause) ≡ true
variable_of literal [] is = absurd (let e : false ≡ true = is in cc)
variable_of literal (own ∷ clause) is =
    elim (or_cases (int_eq literal own) (list_any (int_eq literal) clause) is) [
      | inl here ↦ or_left (nat_abs literal == nat_abs own) (list_any (λ x. nat_abs literal == x) (map nat_abs clause))
          (eq-eqb (nat_abs literal) (nat_abs own) (ap nat_abs ((Decides-int_eq literal own).0 here)))
      | inr there ↦ or_right (nat_abs literal == nat_abs own) (list_any (λ x. nat_abs literal == x) (map nat_abs clause))
          (variable_of literal clause there)
    ]

-- a clause up to a node holds its literal
up_has : (u x : ℤ) (o : Option (List ℤ)) → is_some (option_map (λ c. u ∷ c) (option_map (λ c. x ∷ c) o)) ≡ true
    → (clause : List ℤ) × (option_map (λ c. u ∷ c) (option_map (λ c. x ∷ c) o) ≡ Some clause) × (list_any (int_eq u) clause ≡ true)
up_has u x None is = absurd (let e : false ≡ true = is in cc)
up_has u x (Some rest) is = (u ∷ x ∷ rest, refl, or_left (int_eq u u) (list_any (int_eq u) (x ∷ rest)) ((Decides-int_eq u u).1 refl))

-- a live clause that holds a node's literal
pub record Holder (live : Live) (u : ℤ) : Type 0 where
  pub id : ℕ
  pub clause : List ℤ
  pub stands : clause_at live id ≡ Some clause
  pub among : list_any (int_eq u) clause ≡ true

named_holder : (live : Live) (u x : ℤ) (atom : Atom) (b : Bool) (id : ℕ) → b ≡ true → is_some (clause_from_atoms (Of u ∷ Of x ∷ atom ∷ [])) ≡ b
    → clause_named live (given_if b id) ≡ clause_from_atoms (Of u ∷ Of x ∷ atom ∷ []) → Holder live u
named_holder live u x atom true id _ some is =
    let has = up_has u x (clause_from_atoms (atom ∷ [])) some in
    record { id = id; clause = has.0; stands = is ∙ has.1; among = has.2 }
named_holder live u x atom false id off some is = absurd (let e : false ≡ true = off in cc)

not_false : (high low : Node) → high ≢ low → (not (is_false_node high) ≡ true) ⊎ (not (is_false_node low) ≡ true)
not_false False False differ = absurd (differ refl)
not_false False True differ = inr refl
not_false False (Inner key) differ = inr refl
not_false True low differ = inl refl
not_false (Inner key) low differ = inl refl

module _ (graph : Graph) (state : State) (tied : IsTied graph state) where
  holder_of : (key : ℕ) (b : Branch) → branch_at graph key ≡ Some b → Holder state.live (pos b.variable)
  holder_of key b at =
      let defined = tied.defined key b at in
      let u = pos b.variable in
      let y = pos (variable_at graph b.level) in
      elim (not_false b.high b.low (tied.reduced.differ key b at)) [
        | inl some ↦ named_holder state.live u (neg_ℤ y) (neg_atom (atom_of graph b.high)) (not (is_false_node b.high)) b.first some
            (some_up graph u (neg_ℤ y) b.high (tied.reduced.high key b at).stands) defined.hu
        | inr some ↦ named_holder state.live u y (neg_atom (atom_of graph b.low)) (not (is_false_node b.low)) _ some
            (some_up graph u y b.low (tied.reduced.low key b at).stands) defined.lu
      ]

  abbrev variable_lists : ℕ → List ℕ
  variable_lists id = variables_of (clause_at state.live id)

  there : (q : ℕ) → (nat_lt (levels graph) q && list_any (λ x. q == x) (live_variables state.live)) ≡ true
      → list_any (λ x. q == x) (variables_in (finmap.entries graph.nodes)) ≡ true
  there q is =
      let parts = and_parts (nat_lt (levels graph) q) (list_any (λ x. q == x) (live_variables state.live)) is in
      let found = any_gives (λ id. list_any (λ x. q == x) (variable_lists id)) (finmap.keys state.live)
      (sym (any-flat_map (λ x. q == x) variable_lists (finmap.keys state.live)) ∙ parts.1) in
      elim (clause_at state.live found.0) as (λ o. clause_at state.live found.0 ≡ o → list_any (λ x. q == x) (variables_of o) ≡ true
      → list_any (λ x. q == x) (variables_in (finmap.entries graph.nodes)) ≡ true) [
        | None ↦ λ _ among. absurd (let e : false ≡ true = among in cc)
        | Some clause ↦ λ at among.
            let literal = literal_of q clause among in
            let owned = tied.over_nodes found.0 clause at literal.0 literal.1
            (omega (arith, ltb-true (levels graph) q parts.0, literal.2)) in
            let in_list = listed (finmap.entries graph.nodes) owned.key owned.branch (sym (finmap.get-entries graph.nodes owned.key)
            ∙ owned.stands) in
            subst (λ (v : ℕ). list_any (λ x. v == x) (variables_in (finmap.entries graph.nodes)) ≡ true) (owned.own ∙ sym literal.2) in_list
      ] refl found.1

  back : (q : ℕ) → list_any (λ x. q == x) (variables_in (finmap.entries graph.nodes)) ≡ true
      → (nat_lt (levels graph) q && list_any (λ x. q == x) (live_variables state.live)) ≡ true
  back q is =
      let entry = entry_of (finmap.entries graph.nodes) (finmap.entries_sorted graph.nodes) q is in
      let b = entry.1 in
      let at : branch_at graph entry.0 ≡ Some b = finmap.get-entries graph.nodes entry.0 ∙ entry.2 in
      let holder = holder_of entry.0 b at in
      let live : list_any (eq_by_cmp nat_cmp holder.id) (finmap.keys state.live)
      ≡ true = sym (finmap.contains_key-keys state.live holder.id) ∙ ap is_some holder.stands in
      let has : list_any (λ x. q == x) (variable_lists holder.id) ≡ true =
      ap (λ o. list_any (λ x. q == x) (variables_of o)) holder.stands
      ∙ ap (λ (v : ℕ). list_any (λ x. v == x) (map nat_abs holder.clause)) entry.3
      ∙ variable_of (pos b.variable) holder.clause holder.among in
      and_from (nat_lt (levels graph) q) (list_any (λ x. q == x) (live_variables state.live))
      (lt-ltb (levels graph) q (let late = tied.reduced.above entry.0 b at in omega (arith, late, entry.3)))
      (any-flat_map (λ x. q == x) variable_lists (finmap.keys state.live)
      ∙ any_at (λ id. list_any (λ x. q == x) (variable_lists id)) holder.id (finmap.keys state.live) live has)

  members : (q : ℕ) → finset.contains (extension_variables (levels graph) state.live) q
      ≡ finset.contains (finset.from_list {R = nat_cmp} (variables_in (finmap.entries graph.nodes))) q
  members q =
      let filtered : list_any (λ x. q == x) (filter (nat_lt (levels graph)) (live_variables state.live))
      ≡ (nat_lt (levels graph) q && list_any (λ x. q == x) (live_variables state.live)) =
      any-filter_same (λ x. q == x) (nat_lt (levels graph)) (nat_lt (levels graph) q)
      (λ k same. ap (nat_lt (levels graph)) (sym (eqb-true q k same))) (live_variables state.live) in
      finset.contains-from_list nat_cmp_total (filter (nat_lt (levels graph)) (live_variables state.live)) q
      ∙ (λ i. list_any (λ x. unsigned_tied q x i) (filter (nat_lt (levels graph)) (live_variables state.live)))
      ∙ filtered
      ∙ same_truth (nat_lt (levels graph) q && list_any (λ x. q == x) (live_variables state.live))
      (list_any (λ x. q == x) (variables_in (finmap.entries graph.nodes))) (there q) (back q)
      ∙ (λ i. list_any (λ x. sym (unsigned_tied q x) i) (variables_in (finmap.entries graph.nodes)))
      ∙ sym (finset.contains-from_list nat_cmp_total (variables_in (finmap.entries graph.nodes)) q)

  pub in_use_nodes : in_use (levels graph) state ≡ live_nodes graph
  in_use_nodes =
      let es = finmap.entries graph.nodes in
      let same : extension_variables (levels graph) state.live ≡ finset.from_list
      (variables_in es) = finset.same_set nat_cmp_total finset.nat_cmp-IsAntisymmetric _ _ members in
      let count = count_entries es (finmap.entries_sorted graph.nodes) (λ k q b c is also equal.
      tied.reduced.apart k q b c (finmap.get-entries graph.nodes k ∙ is) (finmap.get-entries graph.nodes q ∙ also) equal) in
      ap finset.len same ∙ count ∙ sym (finmap.len-entries graph.nodes)
