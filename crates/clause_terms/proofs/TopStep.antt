-- One literal more on top of a clause's diagram.
use Rattle.std.proofs.Common.{◌≡◌, ◌≢◌, ℕ, ◌<◌, ◌≤◌, ◌+◌, true, false, not, ◌&&◌, ◌||◌, ℤ, pos, neg_ℤ, List, [], ◌∷◌, map, None, Some}
use Rattle.std.proofs.Common.{nat_abs, int_eq, refl, sym, ap, ◌∙◌, subst, arith, inl, inr}
use Rattle.std.specs.Prelude.{IsTrue, slice_index_or, if◌then◌else◌}
use Rattle.std.specs.List.{list_any}
use Rattle.std.proofs.lemmas.Bool.{or_cases, lt-ltb}
use Rattle.std.proofs.lemmas.Bool.Decides.{Decides-int_eq}
use Rattle.lrat_rules.specs.State.{Live, clause_at}
use Rattle.lrat_rules.specs.Soundness.{is_nonzero}
use Rattle.hint_chain.specs.declared.unit.UnitPart.{UnitPart}
use Rattle.hint_chain.specs.Closing.{are_apart}
use Rattle.hint_chain.specs.Units.{next_id, FalsifiesLiteral, FalsifiesNext, path_literals, IsUnitPath}
use Rattle.node_table.specs.declared.node.Node.{Node}
use Rattle.node_table.specs.declared.node.Node.TheVariants.{False, Inner}
use Rattle.node_table.specs.declared.node.NodeKey.{NodeKey}
use Rattle.node_table.specs.declared.node.Branch.{Branch}
use Rattle.node_table.specs.Diagram.{Graph, IsOrder, IsReduced, KeepsNodes, branch_at, levels, variable_at}
use Rattle.node_table.specs.Tied.{KeepsClauses}
use Rattle.clause_terms.specs.declared.placed.Placed.{Placed}
use Rattle.clause_terms.specs.Placed.{literal_at}
use Rattle.clause_terms.specs.ClauseDiagram.{IsBefore, IsTopNode, IsTop}
use Rattle.clause_terms.proofs.Apart.{AllLieFrom, none_alike, node_apart, literal_apart, lies_kept}

abbrev pub LastLaw : Type 0
LastLaw = (live : Live) (part : UnitPart) (node : ℤ) → FalsifiesLiteral live part node → next_id part ≡ None
    → IsTrue (are_apart (node ∷ part.lit ∷ [])) → IsUnitPath live (part ∷ []) (node ∷ []) (part.lit ∷ [])

abbrev pub OnTopLaw : Type 0
OnTopLaw = (live : Live) (part : UnitPart) (path : List UnitPart) (node next : ℤ) (nodes literals : List ℤ)
    → IsUnitPath live path (next ∷ nodes) literals → FalsifiesLiteral live part node → FalsifiesNext live part node next
    → IsTrue (are_apart (node ∷ part.lit ∷ path_literals path (next ∷ nodes)))
    → IsUnitPath live (part ∷ path) (node ∷ next ∷ nodes) (part.lit ∷ literals)

abbrev pub KeptLaw : Type 0
KeptLaw = (live more : Live) (path : List UnitPart) (nodes clause : List ℤ)
    → ((id : ℕ) (own : List ℤ) → clause_at live id ≡ Some own → clause_at more id ≡ Some own)
    → IsUnitPath live path nodes clause → IsUnitPath more path nodes clause

-- two literals of different variables on top of others
pub two_apart : (u x : ℤ) (literals : List ℤ) → is_nonzero u ≡ true → is_nonzero x ≡ true → nat_abs u ≢ nat_abs x
    → ((y : ℤ) → IsTrue (list_any (int_eq y) literals) → nat_abs u ≢ nat_abs y)
    → ((y : ℤ) → IsTrue (list_any (int_eq y) literals) → nat_abs x ≢ nat_abs y)
    → are_apart literals ≡ true → are_apart (u ∷ x ∷ literals) ≡ true
two_apart u x literals u_nonzero x_nonzero differ u_other x_other apart =
    let u_none = none_alike u (x ∷ literals) (λ y among. elim (or_cases (int_eq y x) (list_any (int_eq y) literals) among) [
      | inl same ↦ λ e. differ (e ∙ ap nat_abs ((Decides-int_eq y x).0 same))
      | inr later ↦ u_other y later
    ]) in
    let x_none = none_alike x literals x_other in
    (λ i. u_nonzero i && not (u_none i) && (x_nonzero i && not (x_none i) && apart i))

nonzero : (x : ℤ) → 0 < nat_abs x → is_nonzero x ≡ true
nonzero x positive = lt-ltb 0 (nat_abs x) positive

literals_kept : (old new : Graph) → KeepsNodes old new → (placed : List Placed) → map (literal_at old) placed ≡ map (literal_at new) placed
literals_kept old new keeps placed =
    ap (λ (order : List ℕ). map (λ (q : Placed). if q.negative then neg_ℤ (pos (slice_index_or order q.level 0)) else pos
    (slice_index_or order q.level 0)) placed) (sym keeps.order)

-- what is needed of the part on top
pub record IsPartOf (new : Graph) (more : Live) (literal : ℤ) (level : ℕ) (below : Node) (b : Branch) (part : UnitPart) : Type 0 where
  pub own : part.lit ≡ literal
  pub size : nat_abs literal ≡ variable_at new level
  pub falsifies : FalsifiesLiteral more part (pos b.variable)
  pub last : below ≡ False → next_id part ≡ None
  pub next : (key : NodeKey) (branch : Branch) → below ≡ Inner key → branch_at new key.index ≡ Some branch
      → FalsifiesNext more part (pos b.variable) (pos branch.variable)

module _ (last_law : LastLaw) (on_top_law : OnTopLaw) (kept_law : KeptLaw)
    (old new : Graph) (live more : Live) (reduced : IsReduced new) (ordered : IsOrder new.order) (keeps : KeepsNodes old new)
    (clauses : KeepsClauses live more)
    (p : Placed) (small : p.level < levels new) (below : Node) (key : NodeKey) (b : Branch) (part : UnitPart)
    (at : branch_at new key.index ≡ Some b) (here : b.level ≡ p.level)
    (is_part : IsPartOf new more (literal_at new p) p.level below b part) where
  size : nat_abs part.lit ≡ variable_at new p.level
  size = ap nat_abs is_part.own ∙ is_part.size

  positive : (0 < variable_at new p.level) × (variable_at new p.level ≤ levels new)
  positive = ordered.within p.level small

  above : levels new < b.variable
  above = reduced.above key.index b at

  -- the literals under the new ones lie from a later level on
  apart : (lower : ℕ) → p.level < lower → (literals : List ℤ) → AllLieFrom new lower literals → are_apart literals ≡ true
      → are_apart (pos b.variable ∷ part.lit ∷ literals) ≡ true
  apart lower less literals lie apart_ =
      two_apart (pos b.variable) part.lit literals (nonzero (pos b.variable) (omega (arith, above)))
      (nonzero part.lit (omega (arith, size, positive.0)))
      (λ same. omega (arith, same, size, above, positive.1))
      (λ y among. node_apart new reduced ordered key.index b at lower (omega (arith, here, less)) y (lie y among))
      (λ y among same. literal_apart new reduced ordered p.level lower small less y (lie y among) (sym size ∙ same))
      apart_

  lies_top : (literals : List ℤ) → AllLieFrom new p.level literals → AllLieFrom new p.level (pos b.variable ∷ part.lit ∷ literals)
  lies_top literals lie y among = elim (or_cases (int_eq y (pos b.variable)) (int_eq y part.lit || list_any (int_eq y) literals) among) [
    | inl node ↦ inr (key.index, b, at, omega (arith, here), sym (ap nat_abs ((Decides-int_eq y (pos b.variable)).0 node)))
    | inr later ↦ elim (or_cases (int_eq y part.lit) (list_any (int_eq y) literals) later) [
      | inl own ↦ inl (p.level, omega arith, small, sym size ∙ sym (ap nat_abs ((Decides-int_eq y part.lit).0 own)))
      | inr among_ ↦ lie y among_
    ]
  ]

  pub top_step : (placed : List Placed) (path : List UnitPart) → IsBefore p.level placed → IsTop old live placed below path
      → IsTopNode new more p.level (map (literal_at new) (p ∷ placed)) (Inner key) (part ∷ path)
  top_step [] path before top =
      let unit : IsUnitPath more (part ∷ []) (pos b.variable ∷ []) (part.lit ∷ []) =
      last_law more part (pos b.variable) is_part.falsifies (is_part.last top.0)
      (apart (p.level + 1) (omega arith) [] (λ y among. absurd (let e : false ≡ true = among in cc)) refl) in
      subst (λ path. IsTopNode new more p.level (literal_at new p ∷ []) (Inner key) (part ∷ path)) (sym top.1) (record {
        key = key;
        branch = b;
        nodes = [];
        named = refl;
        stands = at;
        of_level = here;
        unit = subst (λ l. IsUnitPath more (part ∷ []) (pos b.variable ∷ []) (l ∷ [])) is_part.own unit;
        lies = lies_top [] (λ y among. absurd (let e : false ≡ true = among in cc));
      })
  top_step (first ∷ placed) path before top =
      let at_below = keeps.nodes top.key.index top.branch top.stands in
      let old_literals = path_literals path (pos top.branch.variable ∷ top.nodes) in
      let unit : IsUnitPath more (part ∷ path) (pos b.variable ∷ pos top.branch.variable ∷ top.nodes) (part.lit
      ∷ map (literal_at old) (first ∷ placed)) =
      on_top_law more part path (pos b.variable) (pos top.branch.variable) top.nodes (map (literal_at old) (first ∷ placed))
      (kept_law live more path (pos top.branch.variable ∷ top.nodes) (map (literal_at old) (first ∷ placed)) clauses top.unit)
      is_part.falsifies (is_part.next top.key top.branch top.named at_below)
      (apart first.level before old_literals (λ y among. lies_kept old new keeps first.level first.level (omega arith) y
      (top.lies y among)) top.unit.apart) in
      record {
        key = key;
        branch = b;
        nodes = pos top.branch.variable ∷ top.nodes;
        named = refl;
        stands = at;
        of_level = here;
        unit = subst (λ l. IsUnitPath more (part ∷ path) (pos b.variable ∷ pos top.branch.variable ∷ top.nodes) (l
            ∷ map (literal_at new) (first ∷ placed))) is_part.own
            (subst (λ ls. IsUnitPath more (part ∷ path) (pos b.variable ∷ pos top.branch.variable ∷ top.nodes) (part.lit ∷ ls))
            (literals_kept old new keeps (first ∷ placed)) unit);
        lies = lies_top old_literals (λ y among. lies_kept old new keeps p.level first.level (omega (arith, before)) y (top.lies y among));
      }
