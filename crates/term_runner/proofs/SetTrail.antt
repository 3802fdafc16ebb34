-- The trail behind a set of variables: an entry for each, all with the node of the term that the set was quantified from.
use Rattle.std.proofs.Common.{◌≡◌, ◌∙◌, ◌++◌, ◌+◌, ℕ, zero, suc, true, List, [], ◌∷◌, Contains, length, map, reverse, take, refl, sym, ap}
use Rattle.std.proofs.Common.{subst, arith}
use Rattle.std.proofs.lemmas.List.{append_assoc, length-append, length-reverse, reverse-append}
use Rattle.cnf_base.specs.Truth.{Assignment}
use Rattle.cnf_base.specs.Formula.{Formula}
use Rattle.node_table.specs.declared.node.Node.{Node}
use Rattle.node_table.specs.Diagram.{Graph, is_node}
use Rattle.node_table.specs.Value.{by_level, value_of}
use Rattle.reconstruction.specs.declared.entries.Kept.{Kept}
use Rattle.reconstruction.specs.Entries.{kept_set}
use Rattle.reconstruction.specs.SetsBack.{holds_by}
use Rattle.reconstruction.specs.Stack.{Stack}
use Rattle.schedule_plan.specs.Plan.{Term, term_holds}
use Rattle.term_runner.specs.Trail.{AreKept, IsTrail}
use Rattle.term_runner.proofs.SetTerms.{between, holds_without, without}

-- the entries of a set, the first variable in the order first
abbrev pub entries : List ℕ → Node → List Kept
entries [] node = []
entries (x ∷ xs) node = record { variable = x; later = length xs; node = node } ∷ entries xs node

set_more : (later : ℕ) (xs : List ℕ) (x : ℕ) (node : Node) → kept_set later (xs ++ x ∷ []) node
    ≡ kept_set later xs node ++ record { variable = x; later = later + length xs; node = node } ∷ []
set_more later [] x node = ap (λ (n : ℕ). record { variable = x; later = n; node = node } ∷ []) (omega arith)
set_more later (y ∷ xs) x node =
    ap (λ (l : List Kept). record { variable = y; later = later; node = node } ∷ l) (set_more (later + 1) xs x node
    ∙ ap (λ (n : ℕ). kept_set (later + 1) xs node ++ record { variable = x; later = n; node = node } ∷ []) (omega arith))

turned : (xs : List ℕ) (node : Node) → reverse (kept_set 0 (reverse xs) node) ≡ entries xs node
turned [] node = refl
turned (x ∷ xs) node =
    ap (λ (l : List ℕ). reverse (kept_set 0 l node)) (reverse-append (x ∷ []) xs)
    ∙ ap reverse (set_more 0 (reverse xs) x node)
    ∙ reverse-append (kept_set 0 (reverse xs) node) (record { variable = x; later = 0 + length (reverse xs); node = node } ∷ [])
    ∙ (λ k. record { variable = x; later = count k; node = node } ∷ turned xs node k)
  where
    count : 0 + length (reverse xs) ≡ length xs
    count = omega (arith, length-reverse xs)

length_entries : (xs : List ℕ) (node : Node) → length (entries xs node) ≡ length xs
length_entries [] node = refl
length_entries (x ∷ xs) node = ap suc (length_entries xs node)

later_are : (xs : List ℕ) (node : Node) (older : List Kept) → take (length xs) (map (λ (kept : Kept). kept.variable) (entries xs node ++ older))
    ≡ xs
later_are [] node older = refl
later_are (x ∷ xs) node older = ap (λ (l : List ℕ). x ∷ l) (later_are xs node older)

top_there : (x : ℕ) (xs : List ℕ) (top : Term) (trail : List (ℕ × Term))
    → Contains (map (λ (pair : ℕ × Term). pair.1) ((x, without xs top) ∷ (between xs top ++ trail))) top
top_there x [] top trail = (zero, omega arith, refl)
top_there x (y ∷ ys) top trail =
    let further = top_there y ys top trail in
    (suc further.0, omega (arith, further.1), further.2)

module _ (formula : Formula) (graph : Graph) (node : Node) (top : Term) (stands : is_node graph node ≡ true)
    (value : (a : Assignment) → value_of graph (by_level graph.order a) node ≡ term_holds formula a top) where
  set_kept : (xs : List ℕ) (older : List Kept) (trail : List (ℕ × Term)) → AreKept formula graph older trail
      → AreKept formula graph (entries xs node ++ older) (between xs top ++ trail)
  set_kept [] older trail are = are
  set_kept (x ∷ xs) older trail are = (
    record {
      variable = refl;
      within = omega (arith, length-append (entries xs node) older, length_entries xs node);
      stands = stands;
      whole = top;
      there = top_there x xs top trail;
      value = value;
      by = λ a. ap (λ (l : List ℕ). holds_by (λ b. term_holds formula b top) l a) (later_are xs node older)
          ∙ holds_without formula xs top a;
    },
    set_kept xs older trail are,
  )

  pub trail_pushed_set : (before after : Stack) (xs set : List ℕ) (trail : List (ℕ × Term)) → set ≡ reverse xs
      → after ≡ record before { recent = before.recent ++ kept_set 0 set node } → IsTrail formula graph before trail
      → IsTrail formula graph after (between xs top ++ trail)
  trail_pushed_set before after xs set trail turns same is =
      subst (λ (t : Stack). IsTrail formula graph t (between xs top ++ trail)) (sym same) (record {
        recent = between xs top ++ is.recent;
        stored = is.stored;
        all = ap (λ (q : List (ℕ × Term)). between xs top ++ q) is.all ∙ sym (append_assoc (between xs top) is.recent is.stored);
        kept = subst (λ (nodes : List Kept). AreKept formula graph nodes (between xs top ++ is.recent)) (sym listed)
            (set_kept xs (reverse before.recent) is.recent is.kept);
        copied = is.copied;
        copies = is.copies;
      })
    where
      listed : reverse (before.recent ++ kept_set 0 set node) ≡ entries xs node ++ reverse before.recent
      listed = reverse-append before.recent (kept_set 0 set node)
          ∙ ap (λ (l : List Kept). l ++ reverse before.recent)
          (ap (λ (l : List ℕ). reverse (kept_set 0 l node)) turns ∙ turned xs node)
